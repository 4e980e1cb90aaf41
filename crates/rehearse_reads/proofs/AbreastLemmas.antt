-- States that agree go on to agree when both are changed alike.
use Rattle.std.proofs.Common.{◌≡◌, ◌∙◌, refl, sym, ap, subst, ℕ, suc, Bool, true, false, ◌||◌, cond, List, [], ◌∷◌, ◌++◌, ◌-◌, length, map, append_assoc, arith, inl, inr, is_some, Option, Some, None, if◌then◌else◌}
use Rattle.commands.specs.BuiltInCommands.{changed_by, text_written, deletions, setenv, carried}
use Rattle.commands.specs.Computed.{Computed, Gives, Exists, Sets, Deletes, SetsNumber}
use Rattle.commands.specs.VariableNames.{is_bad_name}
use Rattle.device_list.specs.Called.{NewValue, Value, Copied, Unset, variable_of, value_of, set_in, sets_in}
use Rattle.device_list.specs.DeviceList.{RightSide, Literal, ValueAt, LastValue, Deleted, CopyOf, Setting}
use Rattle.device_list.specs.Saving.{copy_of}
use Rattle.std.specs.Fmt.{digits}
use Rattle.std.specs.List.{slice_get}
use Rattle.std.specs.Option.{option_map}
use Rattle.text.specs.Words.{joined_words}
use Rattle.rehearse_terms.specs.Outcomes.{OutcomeWord, Outcome}
use Rattle.rehearse_terms.specs.State.{Text, State, get, with_value, without, LoggedCommand}
use Rattle.rehearse_terms.specs.declared.shell.Shell.{Shell}
use Rattle.rehearse_rules.specs.ByShell.{is_refused, status_of_text}
use Rattle.rehearse_rules.specs.Needs.{has_succeeded}
use Rattle.rehearse_rules.proofs.NeedsLemmas.{succeeded_on}
use Rattle.rehearse_rules.specs.Execution.{Limits, Request, remember, set_status, set_local, assign_local, changed, set_environment, logged, succeeds, text_failed}
use Rattle.rehearse_reads.specs.Keys.{Key, Environment, Local, AnswerTo, Succeeded, Status, IsAmong, AreAmong, AgreeAt, Writes, ReadsWithin, known_after}
use Rattle.rehearse_reads.specs.Accesses.{copied_key, copied_keys, names_written, setenv_accesses, deletion_accesses, computed_accesses, local_accesses}
use Rattle.rehearse_reads.specs.Alike.{HaveFurther, AreAbreast}
use Rattle.rehearse_reads.proofs.LookedUpLemmas.{get_set, get_deleted, get_set_alike, get_deleted_alike, answer_alike}

-- the variables of which these are copies
abbrev pub copied_by : NewValue → List Key
copied_by (Value value) = []
copied_by (Copied other) = Environment other ∷ []
copied_by Unset = []

abbrev pub copied_in : List (Text × NewValue) → List Key
copied_in [] = []
copied_in (e ∷ sets) = copied_by e.1 ++ copied_in sets

pub still_among : (known : List Key) (key : Key) (keys : List Key) → AreAmong keys known → AreAmong keys (key ∷ known)
still_among known key [] w = tt
still_among known key (one ∷ keys) w = (inr w.0, still_among known key keys w.1)

-- they are among those of which the settings of the call set copies
pub copies_among : (known : List Key) (words : List Text) (sets : List Setting) → AreAmong (copied_keys sets) known → AreAmong (copied_in (sets_in words sets)) known
copies_among known words [] w = tt
copies_among known words (set ∷ sets) w = by (variable_of set.0 words) set.1 (copies_among known words sets) w
  where
    Rest : Type 0
    Rest = AreAmong (copied_keys sets) known → AreAmong (copied_in (sets_in words sets)) known

    word : (name : Text) (o : Option Text) → Rest → AreAmong (copied_keys sets) known → AreAmong (copied_in (set_in (Some name) (option_map Value o) ++ sets_in words sets)) known
    word name None rest w = rest w
    word name (Some value) rest w = rest w

    by : (o : Option Text) (right : RightSide) → Rest → AreAmong (copied_key right ++ copied_keys sets) known → AreAmong (copied_in (set_in o (value_of right words) ++ sets_in words sets)) known
    by None (Literal text) rest w = rest w
    by None (ValueAt place) rest w = rest w
    by None LastValue rest w = rest w
    by None Deleted rest w = rest w
    by None (CopyOf other) rest w = rest w.1
    by (Some name) (Literal text) rest w = rest w
    by (Some name) (ValueAt place) rest w = word name (slice_get words place) rest w
    by (Some name) LastValue rest w = word name (slice_get words (length words - 1)) rest w
    by (Some name) Deleted rest w = rest w
    by (Some name) (CopyOf other) rest w = (w.0, rest w.1)

-- one more entry
further_on : (k l here there : List LoggedCommand) (entry : LoggedCommand) → HaveFurther k l here there → HaveFurther k l (here ++ entry ∷ []) (there ++ entry ∷ [])
further_on k l here there entry h = record {
  further = h.further ++ entry ∷ [];
  goes_on_here = ap (λ (x : List LoggedCommand). x ++ entry ∷ []) h.goes_on_here ∙ append_assoc k h.further (entry ∷ []);
  goes_on_there = ap (λ (x : List LoggedCommand). x ++ entry ∷ []) h.goes_on_there ∙ append_assoc l h.further (entry ∷ []);
}

-- with other counts of steps and other words
pub moved_at : (key : Key) (s t : State) (m n : ℕ) (v w : OutcomeWord) → AgreeAt key s t → AgreeAt key (record s { steps = m; word = v }) (record t { steps = n; word = w })
moved_at (Environment name) s t m n v w h = h
moved_at (Local name) s t m n v w h = h
moved_at (AnswerTo call) s t m n v w h = h
moved_at (Succeeded start) s t m n v w h = h
moved_at Status s t m n v w h = h

status_at : (key : Key) (s t : State) (n : ℕ) → AgreeAt key s t → AgreeAt key (set_status n s) (set_status n t)
status_at (Environment name) s t n h = h
status_at (Local name) s t n h = h
status_at (AnswerTo call) s t n h = h
status_at (Succeeded start) s t n h = h
status_at Status s t n h = refl

local_at : (key : Key) (s t : State) (name value : Text) → AgreeAt key s t → AgreeAt key (set_local name value s) (set_local name value t)
local_at (Environment q) s t name value h = h
local_at (Local q) s t name value h = get_set_alike s.memory.locals t.memory.locals name value q h
local_at (AnswerTo call) s t name value h = h
local_at (Succeeded start) s t name value h = h
local_at Status s t name value h = h

abbrev pub put : Text → Text → State → State
put name value = remember (λ m. record m { environment = with_value m.environment name value })

abbrev pub left_out : Text → State → State
left_out name = remember (λ m. record m { environment = without m.environment name })

put_at : (key : Key) (s t : State) (name value : Text) → AgreeAt key s t → AgreeAt key (put name value s) (put name value t)
put_at (Environment q) s t name value h = get_set_alike s.memory.environment t.memory.environment name value q h
put_at (Local q) s t name value h = h
put_at (AnswerTo call) s t name value h = h
put_at (Succeeded start) s t name value h = h
put_at Status s t name value h = h

left_out_at : (key : Key) (s t : State) (name : Text) → AgreeAt key s t → AgreeAt key (left_out name s) (left_out name t)
left_out_at (Environment q) s t name h = get_deleted_alike s.memory.environment t.memory.environment name q h
left_out_at (Local q) s t name h = h
left_out_at (AnswerTo call) s t name h = h
left_out_at (Succeeded start) s t name h = h
left_out_at Status s t name h = h

logged_at : (key : Key) (s t : State) (outcome : Outcome) (request : Request) → AgreeAt key s t → AgreeAt key (logged outcome request s) (logged outcome request t)
logged_at (Environment q) s t outcome request h = h
logged_at (Local q) s t outcome request h = h
logged_at (AnswerTo call) s t outcome request h =
    answer_alike s.log t.log (record { success = succeeds outcome; words = request.name ∷ request.words; stays = request.effect.stays; again = request.again } ∷ []) call h
logged_at (Succeeded start) s t outcome request h =
    let more : List LoggedCommand = record { success = succeeds outcome; words = request.name ∷ request.words; stays = request.effect.stays; again = request.again } ∷ [] in
    succeeded_on t.log more start ∙ ap (λ (b : Bool). b || has_succeeded more start) h ∙ sym (succeeded_on s.log more start)
logged_at Status s t outcome request h = refl

echoed_at : (key : Key) (s t : State) (written : List Text → Text) (words : List Text) → AgreeAt key s t → AgreeAt key (remember (text_written written words) s) (remember (text_written written words) t)
echoed_at (Environment q) s t written words h = h
echoed_at (Local q) s t written words h = h
echoed_at (AnswerTo call) s t written words h = h
echoed_at (Succeeded start) s t written words h = h
echoed_at Status s t written words h = refl

-- a key that is written, and the others
written : (known : List Key) (key : Key) (s t : State) → AgreeAt key s t → ((other : Key) → IsAmong other known → AgreeAt other s t) → (other : Key) → IsAmong other (key ∷ known) → AgreeAt other s t
written known key s t new rest other (inl e) = subst (λ (k : Key). AgreeAt k s t) (sym e) new
written known key s t new rest other (inr h) = rest other h

module _ (limits : Limits) (i j : ℕ) (k l : List LoggedCommand) where
  abbrev Near : List Key → State → State → Type 0
  Near known s t = AreAbreast limits i j k l known s t

  pub near_moved : (known : List Key) (s t : State) (w : OutcomeWord) → Near known s t → Near known (record s { word = w }) (record t { word = w })
  near_moved known s t w near = record {
    keys = λ key h. moved_at key s t s.steps t.steps w w (near.keys key h);
    word = refl;
    steps = near.steps;
    logs = near.logs;
  }

  pub near_begun : (known : List Key) (s t : State) → Near known s t → Near known (record s { steps = suc s.steps }) (record t { steps = suc t.steps })
  near_begun known s t near = record {
    keys = λ key h. moved_at key s t (suc s.steps) (suc t.steps) s.word t.word (near.keys key h);
    word = near.word;
    steps = (let a = near.steps in omega arith);
    logs = near.logs;
  }

  pub near_status : (known : List Key) (s t : State) (n : ℕ) → Near known s t → Near (Status ∷ known) (set_status n s) (set_status n t)
  near_status known s t n near = record {
    keys = written known Status (set_status n s) (set_status n t) refl (λ key h. status_at key s t n (near.keys key h));
    word = near.word;
    steps = near.steps;
    logs = near.logs;
  }

  -- statuses that are equal
  pub near_statuses : (known : List Key) (s t : State) (n m : ℕ) → m ≡ n → Near known s t → Near (Status ∷ known) (set_status n s) (set_status m t)
  near_statuses known s t n m e near = subst (λ (x : ℕ). Near (Status ∷ known) (set_status n s) (set_status x t)) (sym e) (near_status known s t n near)

  -- a text that has failed, with equal statuses
  pub near_failed : (known : List Key) (s t : State) (shell : Shell) → t.memory.status ≡ s.memory.status → Near known s t → Near known (text_failed shell s) (text_failed shell t)
  near_failed known s t shell e near =
      let after : Near (Status ∷ known) (text_failed shell s) (text_failed shell t) = near_statuses known s t (status_of_text shell s.memory.status) (status_of_text shell t.memory.status) (ap (status_of_text shell) e) near in
      record { keys = λ key h. after.keys key (inr h); word = after.word; steps = after.steps; logs = after.logs }

  pub near_local : (known : List Key) (s t : State) (name value : Text) → Near known s t → Near (Local name ∷ known) (set_local name value s) (set_local name value t)
  near_local known s t name value near = record {
    keys = written known (Local name) (set_local name value s) (set_local name value t) (get_set t.memory.locals name value ∙ sym (get_set s.memory.locals name value)) (λ key h. local_at key s t name value (near.keys key h));
    word = near.word;
    steps = near.steps;
    logs = near.logs;
  }

  pub near_put : (known : List Key) (s t : State) (name value : Text) → Near known s t → Near (Environment name ∷ known) (put name value s) (put name value t)
  near_put known s t name value near = record {
    keys = written known (Environment name) (put name value s) (put name value t) (get_set t.memory.environment name value ∙ sym (get_set s.memory.environment name value)) (λ key h. put_at key s t name value (near.keys key h));
    word = near.word;
    steps = near.steps;
    logs = near.logs;
  }

  pub near_left_out : (known : List Key) (s t : State) (name : Text) → Near known s t → Near (Environment name ∷ known) (left_out name s) (left_out name t)
  near_left_out known s t name near = record {
    keys = written known (Environment name) (left_out name s) (left_out name t) (get_deleted t.memory.environment name ∙ sym (get_deleted s.memory.environment name)) (λ key h. left_out_at key s t name (near.keys key h));
    word = near.word;
    steps = near.steps;
    logs = near.logs;
  }

  pub near_logged : (known : List Key) (s t : State) (outcome : Outcome) (request : Request) → Near known s t → Near (Status ∷ known) (logged outcome request s) (logged outcome request t)
  near_logged known s t outcome request near = record {
    keys = written known Status (logged outcome request s) (logged outcome request t) refl (λ key h. logged_at key s t outcome request (near.keys key h));
    word = near.word;
    steps = near.steps;
    logs = further_on k l s.log t.log (record { success = succeeds outcome; words = request.name ∷ request.words; stays = request.effect.stays; again = request.again }) near.logs;
  }

  pub near_echoed : (known : List Key) (s t : State) (write : List Text → Text) (words : List Text) → Near known s t → Near (Status ∷ known) (remember (text_written write words) s) (remember (text_written write words) t)
  near_echoed known s t write words near = record {
    keys = written known Status (remember (text_written write words) s) (remember (text_written write words) t) refl (λ key h. echoed_at key s t write words (near.keys key h));
    word = near.word;
    steps = near.steps;
    logs = near.logs;
  }

  -- ---- settings of a device command, one after another

  pub near_set : (known : List Key) (s t : State) (sets : List (Text × NewValue)) → Near known s t → AreAmong (copied_in sets) known
      → Near (known_after known (names_written (map (λ e. e.0) sets))) (set_environment sets s) (set_environment sets t)
  near_set known s t [] near w = near
  near_set known s t (e ∷ sets) near w = by e.1 w (λ known s t near w. near_set known s t sets near w)
    where
      one : NewValue → State → State
      one value = remember (λ m. record m { environment = changed m.environment e.0 value })

      written_one : List Key
      written_one = Environment e.0 ∷ known

      by : (value : NewValue) → AreAmong (copied_by value ++ copied_in sets) known
          → ((known : List Key) (s t : State) → Near known s t → AreAmong (copied_in sets) known → Near (known_after known (names_written (map (λ e. e.0) sets))) (set_environment sets s) (set_environment sets t))
          → Near (known_after written_one (names_written (map (λ e. e.0) sets))) (set_environment sets (one value s)) (set_environment sets (one value t))
      by Unset w rest = rest written_one (left_out e.0 s) (left_out e.0 t) (near_left_out known s t e.0 near) (still_among known (Environment e.0) (copied_in sets) w)
      by (Value value) w rest = rest written_one (put e.0 value s) (put e.0 value t) (near_put known s t e.0 value near) (still_among known (Environment e.0) (copied_in sets) w)
      by (Copied other) w rest =
          let copy : Text = copy_of (get s.memory.environment other) in
          let same = near.keys (Environment other) w.0 in
          rest written_one (put e.0 copy s) (put e.0 (copy_of (get t.memory.environment other)) t)
          (subst (λ (o : Option Text). Near written_one (put e.0 copy s) (put e.0 (copy_of o) t)) (sym same) (near_put known s t e.0 copy near))
          (still_among known (Environment e.0) (copied_in sets) w.1)

  -- ---- assignments

  pub near_assigned : (known : List Key) (s t : State) (shell : Shell) (name value : Text) → Near known s t → Near (known_after known (local_accesses shell name value)) (assign_local shell name value s) (assign_local shell name value t)
  near_assigned known s t shell name value near = by (is_refused shell value)
    where
      by : (refused : Bool) → Near (known_after known (if refused then [] else Writes (Local name) ∷ []))
          (remember (λ m. record m { locals = if refused then m.locals else with_value m.locals name value }) s)
          (remember (λ m. record m { locals = if refused then m.locals else with_value m.locals name value }) t)
      by true = near
      by false = near_local known s t name value near

  -- ---- commands that change variables

  near_setenv : (known : List Key) (s t : State) (words : List Text) → Near known s t → Near (known_after known (setenv_accesses words)) (remember (changed_by (setenv words)) s) (remember (changed_by (setenv words)) t)
  near_setenv known s t [] near = near_status known s t 1 near
  near_setenv known s t (name ∷ []) near = by (is_bad_name name)
    where
      by : (bad : Bool) → Near (known_after known (cond bad (Writes Status ∷ []) (Writes (Environment name) ∷ Writes Status ∷ [])))
          (remember (changed_by (λ v. cond bad (v, 1) (without v name, 0))) s)
          (remember (changed_by (λ v. cond bad (v, 1) (without v name, 0))) t)
      by true = near_status known s t 1 near
      by false = near_status (Environment name ∷ known) (left_out name s) (left_out name t) 0 (near_left_out known s t name near)
  near_setenv known s t (name ∷ w ∷ ws) near = by (is_bad_name name)
    where
      by : (bad : Bool) → Near (known_after known (cond bad (Writes Status ∷ []) (Writes (Environment name) ∷ Writes Status ∷ [])))
          (remember (changed_by (λ v. cond bad (v, 1) (with_value v name (joined_words (w ∷ ws)), 0))) s)
          (remember (changed_by (λ v. cond bad (v, 1) (with_value v name (joined_words (w ∷ ws)), 0))) t)
      by true = near_status known s t 1 near
      by false = near_status (Environment name ∷ known) (put name (joined_words (w ∷ ws)) s) (put name (joined_words (w ∷ ws)) t) 0 (near_put known s t name (joined_words (w ∷ ws)) near)

  near_deleted : (names : List Text) (n : ℕ) (known : List Key) (s t : State) → Near known s t → ReadsWithin known (deletion_accesses names) → Near (known_after known (deletion_accesses names)) (remember (changed_by (deletions n names)) s) (remember (changed_by (deletions n names)) t)
  near_deleted [] n known s t near w = near_status known s t n near
  near_deleted (name ∷ names) n known s t near w =
      let here : ℕ = cond (is_some (get s.memory.environment name)) n 1 in
      let there : ℕ = cond (is_some (get t.memory.environment name)) n 1 in
      let e : there ≡ here = ap (λ (o : Option Text). cond (is_some o) n 1) (near.keys (Environment name) w.0) in
      subst (λ (x : ℕ). Near (known_after known (deletion_accesses (name ∷ names))) (remember (changed_by (deletions here names)) (left_out name s)) (remember (changed_by (deletions x names)) (left_out name t))) (sym e)
      (near_deleted names here (Environment name ∷ known) (left_out name s) (left_out name t) (near_left_out known s t name near) w.1)

  pub near_computed : (computed : Computed) (known : List Key) (s t : State) → Near known s t → ReadsWithin known (computed_accesses computed) → Near (known_after known (computed_accesses computed)) (remember (changed_by (carried computed)) s) (remember (changed_by (carried computed)) t)
  near_computed (Gives status) known s t near w = near_status known s t status near
  near_computed (Exists name) known s t near w =
      near_statuses known s t (cond (is_some (get s.memory.environment name)) 0 1) (cond (is_some (get t.memory.environment name)) 0 1) (ap (λ (o : Option Text). cond (is_some o) 0 1) (near.keys (Environment name) w.0)) near
  near_computed (Sets words) known s t near w = near_setenv known s t words near
  near_computed (Deletes names) known s t near w = near_deleted names 0 known s t near w
  near_computed (SetsNumber name number) known s t near w =
      let value : Text = digits 16 false number in
      near_status (Environment name ∷ known) (put name value s) (put name value t) 0 (near_put known s t name value near)

  pub near_sets : (words : List Text) (known : List Key) (s t : State) → Near known s t → Near (known_after known (setenv_accesses words)) (remember (changed_by (setenv words)) s) (remember (changed_by (setenv words)) t)
  near_sets words known s t near = near_setenv known s t words near
