-- What a frame does next, in other words.
use Rattle.rehearse_rules.specs.ByShell.{fields_in}
use Rattle.std.proofs.Common.{ℕ, Bool, true, nat_le, List, [], ◌∷◌, ◌+◌, ◌^◌, ◌<◌, Some, Result, ◌∙◌, ◌≡◌, sym, ap, subst}
use Rattle.std.specs.Prelude.{slice_get}
use Rattle.hushlang.specs.Tree as tree
use Rattle.hushlang.specs.Expansion.{size, most_bytes}
use Rattle.bootstore_state.specs.declared.store.StoreError.{StoreError}
use Rattle.bootstore_state.specs.Moment.{Moment, RunningFrame}
use Rattle.bootstore_state.specs.Record.{Record, stepped, without_first}
use Rattle.bootstore_state.specs.StoredState.{state_at}
use Rattle.rehearse_terms.specs.Outcomes.{OutcomeWord}
use Rattle.rehearse_terms.specs.State.{Text, State}
use Rattle.rehearse_terms.specs.declared.shell.Shell.{Shell}
use Rattle.rehearse_rules.specs.Execution.{Limits}
use Rattle.rehearse_machine.specs.declared.ask.Step.{Step}
use Rattle.rehearse_machine.specs.declared.next_move.Next.{Next}
use Rattle.rehearse_machine.specs.declared.next_move.Next.TheVariants as nexts
use Rattle.rehearse_machine.specs.Places.{PlaceNext, place_by, place_move}
use Rattle.rehearse_machine.specs.Variables.{parameters_at}
use Rattle.rehearse_machine.specs.MovesShown.{Comes, IsExpanded, IsTop, under}
use Rattle.rehearse_machine.specs.NextMoves.{continued, ContinuesAt, HasRoom}
use Rattle.rehearse_machine.proofs.StoreMoves.{comes_at}

-- the innermost frame, as it was read
pub is_top : (frames : List RunningFrame) (f : RunningFrame) → Some f ≡ slice_get frames 0 → frames ≡ f ∷ without_first frames
is_top [] f e = absurd (let g = e in cc)
is_top (x ∷ xs) f e = let same : x ≡ f = (let g = e in cc) in ap (λ (y : RunningFrame). y ∷ xs) same

-- fields that were found before a step was begun are those after it
pub found_before : (shell : Shell) (fit : Bool) (found : List Text) (words : List tree.Word) (old mid : Record) → mid ≡ stepped old → IsExpanded fit found (fields_in shell (parameters_at old.present) words) → IsExpanded fit found (fields_in shell (parameters_at mid.present) words)
found_before shell fit found words old mid e h = subst (λ (r : Record). IsExpanded fit found (fields_in shell (parameters_at r.present) words)) (sym e) h

-- fields that are known are those that the words give
pub known_before : (found found_now : List Text) → found ≡ found_now → nat_le (size found) most_bytes ≡ true → IsExpanded true found found_now
known_before found found_now e h = (e, ap (λ (x : List Text). nat_le (size x) most_bytes) (sym e) ∙ h)

-- a move of the innermost frame is one of the machine
pub top_moves : (limits : Limits) (m : Moment) (f : RunningFrame) (does : List RunningFrame → State → PlaceNext) → IsTop f m → ((w : OutcomeWord) → does (under m) (state_at m w) ≡ place_by limits f.kind f (under m) (state_at m w)) → (w : OutcomeWord) → does (under m) (state_at m w) ≡ place_move limits m.frames (state_at m w)
top_moves limits m f does t e w = e w ∙ sym (ap (λ (fs : List RunningFrame). place_move limits fs (state_at m w)) t)

-- a command whose place has one after it starts with room
pub has_room : (next : Next) (f : RunningFrame) → f.place.command + 1 < 2 ^ 64 → HasRoom next f
has_room nexts.Leaves f h = tt
has_room (nexts.Goes at) f h = tt
has_room (nexts.Finishes at status) f h = tt
has_room (nexts.Enters at script) f h = tt
has_room (nexts.Skips at status script) f h = tt
has_room (nexts.Calls call) f h = h
has_room (nexts.Assigns values) f h = h
has_room (nexts.Loops name words) f h = h
has_room nexts.Turns f h = tt
has_room nexts.Names f h = tt
has_room nexts.Hands f h = tt

-- what the frame f does next comes by a move that does it
pub proceeds : (limits : Limits) (r : Result Step StoreError) (old new : Record) (next given : Next) (f : RunningFrame) → given ≡ next → Comes r old new (continued limits next f (under old.present)) → Comes r old new (continued limits given f (under old.present))
proceeds limits r old new next given f e h = subst (λ (x : Next). Comes r old new (continued limits x f (under old.present))) (sym e) h

-- the same, of what was found by looking at the innermost frame
pub moves_on : (limits : Limits) (r : Result Step StoreError) (old new : Record) (next given : Next) (shell : Shell) (status : ℕ) (f : RunningFrame) → given ≡ next → IsTop f old.present → limits.shell ≡ shell → old.present.status ≡ status → ContinuesAt shell status given f (λ l. place_by l f.kind f) → Comes r old new (continued limits next f (under old.present)) → Comes r old new (place_move limits old.present.frames)
moves_on limits r old new next given shell status f e top own is says h =
    comes_at r old new (continued limits given f (under old.present)) (place_move limits old.present.frames)
    (top_moves limits old.present f (continued limits given f) top (λ w. says limits (under old.present) (state_at old.present w) own is))
    (proceeds limits r old new next given f e h)
