-- What the nodes of a flow draw: ends, and device commands that ask.
use Rattle.std.proofs.Common.{ℕ, zero, suc, ◌+◌, Bool, true, false, not, cond, map, List, [], ◌∷◌, ◌++◌, length, Option, Some, None, refl, sym, ap, ◌∙◌, ◌≡◌, append_assoc, append-nil, inl, inr, arith}
use Rattle.std.specs.List.{slice_get}
use Rattle.bootstore_state.specs.Moment.{Moment}
use Rattle.rehearse_terms.specs.Outcomes.{OutcomeWord, Outcome, Success, Failure, WordKind, Short}
use Rattle.std.proofs.lemmas.List.{map-append}
use Rattle.std.proofs.lemmas.List.Elements.{filter-append}
use Rattle.rehearse_terms.specs.State.{Text, State, LoggedCommand, asked_of}
use Rattle.bootstore_state.specs.StoredState.{state_at}
use Rattle.device_list.specs.declared.finish.BoardEnd.{BoardEnd}
use Rattle.device_list.specs.Called.{sets_in}
use Rattle.rehearse_rules.specs.Execution.{Limits, Answer, Ending, CutDevices, CutSteps, End, Unknown, Syntax, Unsupported, Panic, Size, Finished, Request, finish, take_outcome, set_environment, logged, succeeds}
use Rattle.rehearse_machine.specs.Came.{Came, Over, Wants}
use Rattle.rehearse_machine.specs.Frames.{Frame, with_file}
use Rattle.rehearse_machine.specs.Places.{frames_of}
use Rattle.rehearse_machine.specs.Meaning.{continue}
use Rattle.rehearse_machine.specs.Machine.{Asking, asked_at}
use Rattle.rehearse_machine.specs.declared.rehearsal.Stop.{Stop}
use Rattle.rehearse_reads.specs.Keys.{Key, Environment, Local, AnswerTo, Succeeded, Status, Access, AgreeAt, keys_read}
use Rattle.rehearse_reads.specs.Alike.{HaveFurther, AreAbreast, IsAlike}
use Rattle.rehearse_reads.proofs.KeysRead.{reads_within, all_itself}
use Rattle.rehearse_reads.proofs.AlikeParts.{normal_alike, ended_alike}
use Rattle.rehearse_frames.specs.ToCome.{of_frames}
use Rattle.rehearse_frames.specs.AlikeFutures as futures
use Rattle.rehearse_frames.specs.AlikeFutures.{CameCut, CameAlike}
use Rattle.rehearse_frames.proofs.FramesAlike.{continue_alike}
use Rattle.rehearse_frames.proofs.EnoughKeys.{asked_so}
use Rattle.rehearse_reuse.proofs.LogLemmas.{asked-on, further_behind}
use Rattle.rehearse_reuse.specs.Futures.{came_kind, came_to_end, came_log}
use Rattle.rehearse_states.specs.Flow.{Node, Asks, Ends, Answered, asked_in, Seen, behind, stands_at, goes_on, walk}
use Rattle.rehearse_reuse.specs.DrawnRuns.{further, seen_behind, Draws, seen_at}
use Rattle.rehearse_states.specs.Drawing.{HasMore}
use Rattle.device_list.specs.DeviceList.{Devices, expected}
use Rattle.rehearse_rules.specs.Expected.{is_other, unexpected_of}
use Rattle.rehearse_states.specs.Endings.{counts_at}
use Rattle.rehearse_reuse.specs.SummedRuns.{came_count}
use Rattle.rehearse_states.specs.Words.{words_in}
use Rattle.rehearse_endings.specs.Searching.{future, seen_from}

-- ---- lists

get_on : {A : Type 0} (xs ys : List A) (i : ℕ) (x : A) → slice_get xs i ≡ Some x → slice_get (xs ++ ys) i ≡ Some x
get_on [] ys i x e = absurd (let f = e in cc)
get_on (z ∷ xs) ys zero x e = e
get_on (z ∷ xs) ys (suc i) x e = get_on xs ys i x e

get_seam : {A : Type 0} (xs ys : List A) (x : A) → slice_get (xs ++ x ∷ ys) (length xs) ≡ Some x
get_seam [] ys x = refl
get_seam (z ∷ xs) ys x = get_seam xs ys x

pub further_all : (log : List Answered) → further (length log) log ≡ []
further_all [] = refl
further_all (c ∷ log) = further_all log

further_one : (log rest : List Answered) (entry : Answered) → further (suc (length log)) (log ++ entry ∷ rest) ≡ rest
further_one [] rest entry = refl
further_one (c ∷ log) rest entry = further_one log rest entry

-- ---- more nodes change nothing

pub draws_on : (nodes new : List Node) (place : ℕ) (sees : OutcomeWord → Seen) → HasMore nodes new → Draws nodes place sees → Draws new place sees
draws_on nodes new place sees h d = λ more w.
    ap (λ (x : List Node). walk (slice_get (x ++ more)) w place) h.1
    ∙ ap (λ (x : List Node). walk (slice_get x) w place) (append_assoc nodes h.0 more)
    ∙ d (h.0 ++ more) w

pub draws_as : (nodes : List Node) (place : ℕ) (f g : OutcomeWord → Seen) → ((w : OutcomeWord) → f w ≡ g w) → Draws nodes place f → Draws nodes place g
draws_as nodes place f g e d = λ more w. d more w ∙ e w

-- ---- an end

ended_so : (ending : Ending) (m : Moment) (w : OutcomeWord) (node : ℕ → Option Node) (place : ℕ) → node place ≡ Some (Ends ending) → walk node w place ≡ seen_behind (length (asked_in m.log)) (Over ending (state_at m w))
ended_so ending m [] node place e =
    ap stands_at e ∙ ap (λ (log : List Answered). record (seen_behind (length (asked_in m.log)) (Over ending (state_at m []))) { log = log }) (sym (further_all (asked_in m.log)))
ended_so ending m (d ∷ w) node place e =
    ap (λ (x : Option Node). goes_on x d (walk node w)) e ∙ ap (λ (log : List Answered). record (seen_behind (length (asked_in m.log)) (Over ending (state_at m (d ∷ w)))) { log = log }) (sym (further_all (asked_in m.log)))

pub end_drawn : (limits : Limits) (nodes : List Node) (place : ℕ) (ending : Ending) (m : Moment) → slice_get nodes place ≡ Some (Ends ending) → Draws nodes place (λ w. seen_behind (length (asked_in m.log)) (Over ending (state_at m w)))
end_drawn limits nodes place ending m e = λ more w. ended_so ending m w (slice_get (nodes ++ more)) place (get_on nodes more place (Ends ending) e)

-- ---- what the device command that asks leaves in the log

never_cut : (limits : Limits) (i : ℕ) (k : List LoggedCommand) (c : Came) → CameCut limits i i k k [] c → ⊥
never_cut limits i k (Over (End status) s) h = h
never_cut limits i k (Over CutDevices s) h = absurd (omega arith)
never_cut limits i k (Over CutSteps s) h = absurd (omega arith)
never_cut limits i k (Over (Unknown name) s) h = h
never_cut limits i k (Over (Syntax name) s) h = h
never_cut limits i k (Over (Unsupported name) s) h = h
never_cut limits i k (Over (Panic name) s) h = h
never_cut limits i k (Over Size s) h = h
never_cut limits i k (Over (Finished finish name) s) h = h
never_cut limits i k (Wants s) h = h

logs_itself : (limits : Limits) (i : ℕ) (k : List LoggedCommand) (c : Came) → CameAlike limits i i k k [] c c → HaveFurther k k (came_log c) (came_log c)
logs_itself limits i k c (futures.same h) = h.logs
logs_itself limits i k c (futures.cut_here h) = absurd (never_cut limits i k c h)
logs_itself limits i k c (futures.beyond (inl h)) = absurd (omega (arith, h.0))
logs_itself limits i k c (futures.beyond (inr h)) = absurd (omega (arith, h.0))

abbrev pub entry_of : Request → Outcome → LoggedCommand
entry_of request d = record { success = succeeds d; words = request.name ∷ request.words; stays = request.effect.stays; again = request.again }

-- a state is abreast of itself
at_itself : (key : Key) (s : State) → AgreeAt key s s
at_itself (Environment name) s = refl
at_itself (Local name) s = refl
at_itself (AnswerTo call) s = refl
at_itself (Succeeded start) s = refl
at_itself Status s = refl

beside_itself : (limits : Limits) (known : List Key) (s : State) → AreAbreast limits s.steps s.steps s.log s.log known s s
beside_itself limits known s = record {
  keys = λ key h. at_itself key s;
  word = refl;
  steps = refl;
  logs = record { further = []; goes_on_here = sym (append-nil s.log); goes_on_there = sym (append-nil s.log) };
}

ended_itself : (limits : Limits) (known : List Key) (ends : Option BoardEnd) (name : Text) (u : State) → IsAlike limits u.steps u.steps u.log u.log known (finish ends name u) (finish ends name u)
ended_itself limits known (Some how) name u = ended_alike limits u.steps u.steps u.log u.log known (Finished how name) u u (beside_itself limits known u)
ended_itself limits known None name u = normal_alike limits u.steps u.steps u.log u.log known u u (beside_itself limits known u)

-- a device command that answered goes on after its entry
took : (limits : Limits) (known : List Key) (request : Request) (d : Outcome) (w : OutcomeWord) (s : State) → IsAlike limits s.steps s.steps (s.log ++ entry_of request d ∷ []) (s.log ++ entry_of request d ∷ []) known (take_outcome request (d ∷ w) s) (take_outcome request (d ∷ w) s)
took limits known request Success w s = ended_itself limits known request.effect.ends request.name (set_environment (sets_in request.words request.effect.sets) (logged Success request (record s { word = w })))
took limits known request Failure w s = normal_alike limits s.steps s.steps _ _ known _ _ (beside_itself limits known (logged Failure request (record s { word = w })))

-- what the answer of one command counts
first_counts : (devices : Devices) (call : List Text) (answer : Option Bool) → answer ≡ expected devices call → (d : Outcome) (rest : List Answered) → length (unexpected_of devices ((succeeds d, call) ∷ rest)) ≡ counts_at answer d + length (unexpected_of devices rest)
first_counts devices call answer e d rest =
    ap (λ (o : Option Bool). length (cond (is_other o (succeeds d)) ((succeeds d, call) ∷ unexpected_of devices rest) (unexpected_of devices rest))) (sym e) ∙ by answer d
  where
    by : (o : Option Bool) (outcome : Outcome) → length (cond (is_other o (succeeds outcome)) ((succeeds d, call) ∷ unexpected_of devices rest) (unexpected_of devices rest)) ≡ counts_at o outcome + length (unexpected_of devices rest)
    by None outcome = omega arith
    by (Some true) Success = omega arith
    by (Some true) Failure = omega arith
    by (Some false) Success = omega arith
    by (Some false) Failure = omega arith

module _ (limits : Limits) (m : Moment) (asking : Asking limits m) where
  logs_next : (d : Outcome) (w : OutcomeWord) → (rest : List LoggedCommand) × (came_log (asked_at limits m (d ∷ w)) ≡ m.log ++ entry_of asking.request d ∷ rest)
  logs_next d w =
      let k : List LoggedCommand = m.log ++ entry_of asking.request d ∷ [] in
      let s : State = state_at m (d ∷ w) in
      let a : Answer = take_outcome asking.request (d ∷ w) s in
      let below : List Frame = with_file m.status asking.request.effect.runs (frames_of m.frames) in
      let read : List Access = of_frames limits [] below a in
      let h = logs_itself limits m.steps k (continue limits below a)
      (continue_alike limits m.steps m.steps k k [] below (keys_read read) a a (reads_within (keys_read read) read (all_itself (keys_read read))) (took limits (keys_read read) asking.request d w s)) in
      (h.further, ap came_log (asked_so limits m asking (d ∷ w)) ∙ h.goes_on_here ∙ append_assoc m.log (entry_of asking.request d ∷ []) h.further)

  -- the commands that took an outcome: after those of the moment, this one, and then others
  asked_next : (d : Outcome) (w : OutcomeWord) → asking.request.again ≡ false → (rest : List Answered) × (asked_in (came_log (asked_at limits m (d ∷ w))) ≡ asked_in m.log ++ (succeeds d, asking.request.name ∷ asking.request.words) ∷ rest)
  asked_next d w fresh =
      let h = logs_next d w in
      let one : Answered = (succeeds d, asking.request.name ∷ asking.request.words) in
      let first : asked_in (entry_of asking.request d ∷ h.0) ≡ one ∷ asked_in h.0 = ap (λ (b : Bool). let es : List LoggedCommand = cond (not b) (entry_of asking.request d ∷ asked_of h.0) (asked_of h.0) in map (λ e. (e.success, e.words)) es) fresh in
      (asked_in h.0, ap asked_in h.1 ∙ asked-on m.log (entry_of asking.request d ∷ h.0) ∙ ap (λ (es : List Answered). asked_in m.log ++ es) first)

  seen_next : (d : Outcome) (w : OutcomeWord) (n : ℕ) → asking.request.again ≡ false → n ≡ suc (length (asked_in m.log)) → behind d (asking.request.name ∷ asking.request.words) (seen_behind n (asked_at limits m (d ∷ w))) ≡ seen_at limits m (d ∷ w)
  seen_next d w n fresh e =
      let h = asked_next d w fresh in
      let c : Came = asked_at limits m (d ∷ w) in
      let entry : Answered = (succeeds d, asking.request.name ∷ asking.request.words) in
      ap (λ (log : List Answered). record { kind = came_kind c; ending = came_to_end c; log = log })
      (ap (λ (x : ℕ). entry ∷ further x (asked_in (came_log c))) e
      ∙ ap (λ (log : List Answered). entry ∷ further (suc (length (asked_in m.log))) log) h.1
      ∙ ap (λ (log : List Answered). entry ∷ log) (further_one (asked_in m.log) h.0 entry)
      ∙ sym (further_behind (asked_in m.log) (entry ∷ h.0))
      ∙ ap (further (length (asked_in m.log))) (sym h.1))

  -- how much it counts
  pub counts_next : (answer : Option Bool) → answer ≡ expected limits.devices (asking.request.name ∷ asking.request.words) → asking.request.again ≡ false → (d : Outcome) (w : OutcomeWord)
      → came_count limits.devices (length (asked_in m.log)) (asked_at limits m (d ∷ w)) ≡ counts_at answer d + came_count limits.devices (suc (length (asked_in m.log))) (asked_at limits m (d ∷ w))
  counts_next answer e fresh d w =
      let h = asked_next d w fresh in
      let entry : Answered = (succeeds d, asking.request.name ∷ asking.request.words) in
      ap (λ (log : List Answered). length (unexpected_of limits.devices (further (length (asked_in m.log)) log))) h.1
      ∙ ap (λ (log : List Answered). length (unexpected_of limits.devices log)) (further_behind (asked_in m.log) (entry ∷ h.0))
      ∙ first_counts limits.devices (asking.request.name ∷ asking.request.words) answer e d h.0
      ∙ ap (λ (log : List Answered). counts_at answer d + length (unexpected_of limits.devices log)) (sym (further_one (asked_in m.log) h.0 entry))
      ∙ ap (λ (log : List Answered). counts_at answer d + length (unexpected_of limits.devices (further (suc (length (asked_in m.log))) log))) (sym h.1)

  -- the words of the device command, read from the log once it has answered
  pub words_logged : (log : List LoggedCommand) (d : Outcome) (w : OutcomeWord) → came_log (asked_at limits m (d ∷ w)) ≡ log → words_in (slice_get log (length m.log)) ≡ asking.request.name ∷ asking.request.words
  words_logged log d w e =
      let h = logs_next d w in
      ap words_in (ap (λ (x : List LoggedCommand). slice_get x (length m.log)) (sym e ∙ h.1) ∙ get_seam m.log h.0 (entry_of asking.request d))

  side_drawn : (d : Outcome) (stop : Stop) (n : Moment) (nodes : List Node) (place : ℕ) → asking.request.again ≡ false → ((w : OutcomeWord) → asked_at limits m (d ∷ w) ≡ future limits stop n w) → length (asked_in n.log) ≡ suc (length (asked_in m.log))
      → Draws nodes place (seen_from limits stop n) → (more : List Node) (w : OutcomeWord) → behind d (asking.request.name ∷ asking.request.words) (walk (slice_get (nodes ++ more)) w place) ≡ seen_at limits m (d ∷ w)
  side_drawn d stop n nodes place fresh f l draws more w =
      ap (behind d (asking.request.name ∷ asking.request.words)) (draws more w ∙ ap (seen_behind (length (asked_in n.log))) (sym (f w)))
      ∙ seen_next d w (length (asked_in n.log)) fresh l

  module _ (won_stop lost_stop : Stop) (won_at lost_at : Moment) (nodes : List Node) (won_place lost_place : ℕ) (fresh : asking.request.again ≡ false)
      (wants : asked_at limits m [] ≡ Wants (state_at m []))
      (won_future : (w : OutcomeWord) → asked_at limits m (Success ∷ w) ≡ future limits won_stop won_at w) (won_log : length (asked_in won_at.log) ≡ suc (length (asked_in m.log))) (won : Draws nodes won_place (seen_from limits won_stop won_at))
      (lost_future : (w : OutcomeWord) → asked_at limits m (Failure ∷ w) ≡ future limits lost_stop lost_at w) (lost_log : length (asked_in lost_at.log) ≡ suc (length (asked_in m.log))) (lost : Draws nodes lost_place (seen_from limits lost_stop lost_at)) where
    abbrev asks_node : Node
    asks_node = Asks (asking.request.name ∷ asking.request.words) won_place lost_place

    sides_drawn : (more : List Node) (w : OutcomeWord) → walk (slice_get (nodes ++ asks_node ∷ more)) w (length nodes) ≡ seen_at limits m w
    sides_drawn more [] =
        ap stands_at (get_seam nodes more asks_node)
        ∙ ap (λ (log : List Answered). record { kind = Short; ending = None; log = log }) (sym (further_all (asked_in m.log)))
        ∙ ap (seen_behind (length (asked_in m.log))) (sym wants)
    sides_drawn more (Success ∷ w) =
        ap (λ (x : Option Node). goes_on x Success (walk (slice_get (nodes ++ asks_node ∷ more)) w)) (get_seam nodes more asks_node)
        ∙ side_drawn Success won_stop won_at nodes won_place fresh won_future won_log won (asks_node ∷ more) w
    sides_drawn more (Failure ∷ w) =
        ap (λ (x : Option Node). goes_on x Failure (walk (slice_get (nodes ++ asks_node ∷ more)) w)) (get_seam nodes more asks_node)
        ∙ side_drawn Failure lost_stop lost_at nodes lost_place fresh lost_future lost_log lost (asks_node ∷ more) w

    -- a device command that asks, from its two sides
    pub asks_drawn : (words : List Text) → words ≡ asking.request.name ∷ asking.request.words → Draws (nodes ++ Asks words won_place lost_place ∷ []) (length nodes) (seen_at limits m)
    asks_drawn words is = λ more w.
        ap (λ (ws : List Text). walk (slice_get ((nodes ++ Asks ws won_place lost_place ∷ []) ++ more)) w (length nodes)) is
        ∙ ap (λ (x : List Node). walk (slice_get x) w (length nodes)) (append_assoc nodes (asks_node ∷ []) more)
        ∙ sides_drawn more w
