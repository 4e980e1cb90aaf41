-- Reports of calls.
use Rattle.std.proofs.Common.{◌≡◌, ◌∙◌, refl, sym, ap, subst, ℕ, Bool, true, false, List, [], ◌∷◌, ◌++◌, append_assoc, cond, map, length, drop, get_or, Vec, Global, Option, Some, None, ◌<◌, ◌≤◌, arith}
use Rattle.std.proofs.Math.Dec.{eqb, eqb-suc-zero}
use Rattle.std.specs.List.{flat_map}
use Rattle.std.specs.Prelude.{if◌then◌else◌}
use Rattle.std.proofs.lemmas.List.{map-append}
use Rattle.std.proofs.lemmas.List.Concat.{flat_map-cons}
use Rattle.std.specs.Borrow.{Bor}
use Rattle.std.specs.Prelude.{OnOk, Result}
use Rattle.text.specs.TextsShown.{bytes_of_words}
use Rattle.commands.specs.ComputedShown.{computed_shown}
use Rattle.commands.specs.declared.computed.Computed.{Computed}
use Rattle.commands.specs.declared.computed.Computed.TheVariants as names
use Rattle.commands.specs.VariableNames.{is_bad_name}
use Rattle.device_list.specs.DeviceList.{Effect, Setting}
use Rattle.rehearse_terms.specs.State.{Text, State, LoggedCommand}
use Rattle.rehearse_rules.specs.Needs.{can_succeed, effect_now}
use Rattle.rehearse_rules.specs.Execution.{Limits, Request}
use Rattle.rehearse_reads.specs.Keys.{Key, Access, Reads, Writes, Environment, AnswerTo, Succeeded, Status, all_read, Covers}
use Rattle.rehearse_reads.specs.Accesses.{status_written, setenv_accesses, deletion_accesses, computed_accesses, needs_reads, room_reads, success_reads, told_reads, handing_reads}
use Rattle.rehearse_reads.proofs.KeysRead.{covering_joins}
use Rattle.rehearse_frames.specs.MoveAccesses.{of_asking}
use Rattle.rehearse_reports.specs.Reports.{Reports, Adds}
use Rattle.rehearse_reports.proofs.ReportLemmas.{covers_itself, covers_less, covers_through, reads_cover, reads_alone, reports_nothing, reports_as, reports_then}
use Rattle.rehearse_reports.proofs.CoverLemmas.{covers_status, covers_asking, covers_room, early_reads}

-- an access, and then the status is written
pub then_status : (old new : List Access) (access : Access) → Reports old new (access ∷ []) → Reports old new (access ∷ status_written)
then_status old new access h = reports_as old new (access ∷ []) (access ∷ status_written) h (covers_less (access ∷ []) status_written covers_status)

pub only_status : (old : List Access) → Reports old old status_written
only_status old = reports_as old old [] status_written (reports_nothing old) covers_status

-- ---- `setenv`

pub first_word : (words : List (Vec ℕ Global)) (d : Vec ℕ Global) → 1 ≤ length words → d ≡ get_or words 0 d → bytes_of_words words ≡ d.items ∷ bytes_of_words (drop 1 words)
first_word [] d some is = absurd (omega arith)
first_word (w ∷ words) d some is = ap (λ (x : Vec ℕ Global). x.items ∷ bytes_of_words words) (sym is)

pub no_word : (words : List (Vec ℕ Global)) → length words < 1 → bytes_of_words words ≡ []
no_word [] none = refl
no_word (w ∷ words) none = absurd (omega arith)

pub sets_none : (old : List Access) (words : List (Vec ℕ Global)) → length words < 1 → Reports old old (setenv_accesses (bytes_of_words words))
sets_none old words none = subst (λ (ws : List Text). Reports old old (setenv_accesses ws)) (sym (no_word words none)) (only_status old)

module _ (words : List (Vec ℕ Global)) (d : Vec ℕ Global) (some : 1 ≤ length words) (is : d ≡ get_or words 0 d) where
  abbrev accesses_if : Bool → List Access
  accesses_if b = cond b status_written (Writes (Environment d.items) ∷ status_written)

  pub sets_bad : (old : List Access) (name : Text) → name ≡ d.items → true ≡ is_bad_name name → Reports old old (setenv_accesses (bytes_of_words words))
  sets_bad old name e bad =
      subst (λ (ws : List Text). Reports old old (setenv_accesses ws)) (sym (first_word words d some is))
      (subst (λ (b : Bool). Reports old old (accesses_if b)) (bad ∙ ap is_bad_name e) (only_status old))

  pub sets_named : (old new : List Access) (name written : Text) → name ≡ d.items → false ≡ is_bad_name name → written ≡ d.items → Reports old new (Writes (Environment written) ∷ []) → Reports old new (setenv_accesses (bytes_of_words words))
  sets_named old new name written e good f h =
      subst (λ (ws : List Text). Reports old new (setenv_accesses ws)) (sym (first_word words d some is))
      (subst (λ (b : Bool). Reports old new (accesses_if b)) (good ∙ ap is_bad_name e)
      (then_status old new (Writes (Environment d.items)) (subst (λ (x : Text). Reports old new (Writes (Environment x) ∷ [])) f h)))

-- ---- `env delete`

abbrev pub deletes : Vec ℕ Global → List Access
deletes name = Reads (Environment name.items) ∷ Writes (Environment name.items) ∷ []

pub deletes_one : (old mid new : List Access) (name : Vec ℕ Global) (first second : Text) → first ≡ name.items → second ≡ name.items → Reports old mid (Reads (Environment first) ∷ []) → Reports mid new (Writes (Environment second) ∷ []) → Reports old new (deletes name)
deletes_one old mid new name first second e f h k =
    reports_then old mid new (Reads (Environment name.items) ∷ []) (Writes (Environment name.items) ∷ [])
    (subst (λ (x : Text). Reports old mid (Reads (Environment x) ∷ [])) e h) (subst (λ (x : Text). Reports mid new (Writes (Environment x) ∷ [])) f k)

deletes_so : (names : List (Vec ℕ Global)) → deletion_accesses (bytes_of_words names) ≡ flat_map deletes names ++ status_written
deletes_so [] = refl
deletes_so (name ∷ names) = ap (λ (xs : List Access). Reads (Environment name.items) ∷ Writes (Environment name.items) ∷ xs) (deletes_so names)

pub deletes_all : (old new : List Access) (names : List (Vec ℕ Global)) → Reports old new (flat_map deletes names) → Reports old new (deletion_accesses (bytes_of_words names))
deletes_all old new names h =
    subst (Reports old new) (sym (deletes_so names)) (reports_as old new (flat_map deletes names) (flat_map deletes names ++ status_written) h (covers_less (flat_map deletes names) status_written covers_status))

-- ---- the answer that stays for a command

not_steady : (b stays : Bool) → (b ≡ true → stays ≡ true) → stays ≡ false → b ≡ false
not_steady true stays e f = absurd (let g = sym (e refl) ∙ f in cc)
not_steady false stays e f = refl

abbrev told_if : Request → Bool → List Key
told_if request stays = if stays then AnswerTo (request.name ∷ request.words) ∷ [] else []

pub asks_unsteady : (old : List Access) (request : Request) (stays : Bool) → (request.effect.stays ≡ true → stays ≡ true) → stays ≡ false → Reports old old (all_read (told_reads request))
asks_unsteady old request stays e f =
    let none : told_reads request ≡ [] = ap (told_if request) (not_steady request.effect.stays stays e f) in
    subst (λ (keys : List Key). Reports old old (all_read keys)) (sym none) (reports_nothing old)

pub asks_steady : (old new : List Access) (request : Request) (call : List Text) → call ≡ request.name ∷ request.words → Reports old new (Reads (AnswerTo call) ∷ []) → Reports old new (all_read (told_reads request))
asks_steady old new request call is h = by request.effect.stays refl
  where
    by : (stays : Bool) → request.effect.stays ≡ stays → Reports old new (all_read (told_reads request))
    by true e =
        let one : told_reads request ≡ AnswerTo call ∷ [] = ap (told_if request) e ∙ ap (λ (ws : List Text). AnswerTo ws ∷ []) (sym is) in
        subst (λ (keys : List Key). Reports old new (all_read keys)) (sym one) h
    by false e =
        let none : told_reads request ≡ [] = ap (told_if request) e in
        subst (λ (keys : List Key). Reports old new (all_read keys)) (sym none) (reports_as old new (Reads (AnswerTo call) ∷ []) [] h (reads_alone (AnswerTo call ∷ [])))

-- the answer, and then what is read before the outcome
pub asks_all : (old mid new : List Access) (limits : Limits) (request : Request) (s : State) → Reports old mid (all_read (told_reads request)) → Reports mid new (early_reads request.effect) → Reports old new (of_asking limits request s)
asks_all old mid new limits request s h k =
    reports_as old new (all_read (told_reads request) ++ early_reads request.effect) (of_asking limits request s)
    (reports_then old mid new (all_read (told_reads request)) (early_reads request.effect) h k) (covers_asking limits request s)

-- the same, where there may be no room for what it saves
pub asks_in_room : (old mid new : List Access) (limits : Limits) (request : Request) (s : State) (sets : List Setting) → request.effect.sets ≡ sets → Reports old mid (all_read (told_reads request)) → Reports mid new (early_reads request.effect)
    → Reports old new (all_read (room_reads limits.room sets) ++ of_asking limits request s)
asks_in_room old mid new limits request s sets same h k =
    subst (λ (xs : List Setting). Reports old new (all_read (room_reads limits.room xs) ++ of_asking limits request s)) same
    (reports_as old new (all_read (told_reads request) ++ early_reads request.effect) (all_read (room_reads limits.room request.effect.sets) ++ of_asking limits request s)
    (reports_then old mid new (all_read (told_reads request)) (early_reads request.effect) h k) (covers_room limits request s))

-- and before that, what it needs
pub needed_in_room : (old mid new : List Access) (limits : Limits) (request : Request) (s : State) (effect : Effect) → Reports old mid (all_read (needs_reads effect.needs)) → Reports mid new (all_read (room_reads limits.room effect.sets) ++ of_asking limits request s)
    → Reports old new (all_read (success_reads limits.room effect) ++ of_asking limits request s)
needed_in_room old mid new limits request s effect h k =
    let needs : List Key = needs_reads effect.needs in
    let room : List Key = room_reads limits.room effect.sets in
    subst (Reports old new)
    (sym (append_assoc (all_read needs) (all_read room) (of_asking limits request s)) ∙ ap (λ (xs : List Access). xs ++ of_asking limits request s) (sym (map-append Reads needs room)))
    (reports_then old mid new (all_read needs) (all_read room ++ of_asking limits request s) h k)

-- a command that runs no file and makes no setting reads its answer alone
pub asks_alone : (old new : List Access) (limits : Limits) (request : Request) (s : State) → early_reads request.effect ≡ [] → Reports old new (all_read (told_reads request)) → Reports old new (of_asking limits request s)
asks_alone old new limits request s none h =
    asks_all old new new limits request s h (subst (Reports new new) (sym none) (reports_nothing new))

-- ---- the call that a command needs

pub needs_none : (old : List Access) (needs : List (Vec ℕ Global)) → true ≡ eqb (length needs) 0 → Reports old old (all_read (needs_reads (bytes_of_words needs)))
needs_none old [] e = reports_nothing old
needs_none old (n ∷ ns) e = absurd (let f = e ∙ eqb-suc-zero (length ns) in cc)

pub needs_one : (old new : List Access) (needs : List (Vec ℕ Global)) (call : List Text) → call ≡ bytes_of_words needs → false ≡ eqb (length needs) 0 → Reports old new (Reads (Succeeded call) ∷ []) → Reports old new (all_read (needs_reads (bytes_of_words needs)))
needs_one old new [] call is some h = absurd (let f = some in cc)
needs_one old new (n ∷ ns) call is some h = subst (λ (ws : List Text). Reports old new (Reads (Succeeded ws) ∷ [])) is h

-- a command does not stay that the list does not say to stay
pub now_steady : (room : Option ℕ) (s : State) (effect : Effect) → (effect_now room s effect).stays ≡ true → effect.stays ≡ true
now_steady room s effect = by (can_succeed room s effect)
  where
    by : (b : Bool) → (let e : Effect = cond b effect (record effect { stays = false; always = Some false }) in e.stays) ≡ true → effect.stays ≡ true
    by true e = e
    by false e = absurd (let g = e in cc)

-- and makes the settings that it would make
pub now_sets : (room : Option ℕ) (s : State) (effect : Effect) → (effect_now room s effect).sets ≡ effect.sets
now_sets room s effect = by (can_succeed room s effect)
  where
    by : (b : Bool) → (let e : Effect = cond b effect (record effect { stays = false; always = Some false }) in e.sets) ≡ effect.sets
    by true = refl
    by false = refl

-- ---- computed calls

module _ (old new : List Access) (computed : Computed) where
  pub gives_so : (status : ℕ) → computed ≡ names.Gives status → Reports old old (computed_accesses (computed_shown computed))
  gives_so status e = subst (λ (x : Computed). Reports old old (computed_accesses (computed_shown x))) (sym e) (only_status old)

  pub exists_so : (name : Bor (List ℕ)) (read : Text) → computed ≡ names.Exists name → read ≡ name.now → Reports old new (Reads (Environment read) ∷ []) → Reports old new (computed_accesses (computed_shown computed))
  exists_so name read e f h =
      subst (λ (x : Computed). Reports old new (computed_accesses (computed_shown x))) (sym e) (then_status old new (Reads (Environment name.now)) (subst (λ (x : Text). Reports old new (Reads (Environment x) ∷ [])) f h))

  pub number_so : (name : Bor (List ℕ)) (number : ℕ) (written : Text) → computed ≡ names.SetsNumber name number → written ≡ name.now → Reports old new (Writes (Environment written) ∷ []) → Reports old new (computed_accesses (computed_shown computed))
  number_so name number written e f h =
      subst (λ (x : Computed). Reports old new (computed_accesses (computed_shown x))) (sym e) (then_status old new (Writes (Environment name.now)) (subst (λ (x : Text). Reports old new (Writes (Environment x) ∷ [])) f h))

  pub computed_as : {E : Type 0} (r : Result (Unit {0}) E) (other : Computed) → computed ≡ other → OnOk r (Reports old new (computed_accesses (computed_shown other))) → OnOk r (Reports old new (computed_accesses (computed_shown computed)))
  computed_as r other e h = subst (λ (x : Computed). OnOk r (Reports old new (computed_accesses (computed_shown x)))) (sym e) h
