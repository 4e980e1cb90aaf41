-- Outcomes of device commands in a store.
use Rattle.std.proofs.Common.{ℕ, true, false, List, [], ◌∷◌, ◌++◌, ◌+◌, map, drop, length, get_or, Option, Some, None, Result, Ok, Err, refl, sym, ap, subst, ◌∙◌, ◌≡◌, ◌<◌, ◌≤◌, arith}
use Rattle.std.specs.Prelude.{OnOk}
use Rattle.std.proofs.Math.ListN.{drop_of_length-le}
use Rattle.std.specs.FinMap as finite
use Rattle.std.specs.FinMap.{entries}
use Rattle.device_list.specs.declared.finish.BoardEnd.{BoardEnd}
use Rattle.hushlang.proofs.ExpandLemmas.{drop_next}
use Rattle.bootstore_state.specs.declared.store.StoreError.{StoreError}
use Rattle.bootstore_state.specs.Moment.{RunningFrame}
use Rattle.bootstore_state.specs.Moment as stored
use Rattle.bootstore_state.specs.Record.{Record, assigned, changed, with_environment, with_device, with_status}
use Rattle.rehearse_terms.specs.Outcomes.{OutcomeWord, Outcome, Success, Failure}
use Rattle.device_list.specs.Called.{NewValue, Value, Copied, Unset, variable_of, value_of, set_in, sets_in}
use Rattle.device_list.specs.DeviceList as says
use Rattle.device_list.specs.Saving.{copy_of}
use Rattle.device_list.specs.DevicesShown.{setting_shown}
use Rattle.device_list.specs.declared.setting.Setting.{Setting}
use Rattle.rehearse_terms.specs.State.{Text, Variables, State, LoggedCommand, get, with_value}
use Rattle.bootstore_state.specs.StoredState.{state_at}
use Rattle.rehearse_rules.specs.Execution as execution
use Rattle.rehearse_rules.specs.Execution.{Request, Finished, remember, succeeds, logged, with_all, set_environment, status_after}
use Rattle.bootstore_state.proofs.StateLemmas.{stored_values, stored_changes, stored_deletions}
use Rattle.rehearse_machine.specs.declared.ask.Step.{Step}
use Rattle.rehearse_machine.specs.declared.ask.Step.TheVariants as steps
use Rattle.rehearse_machine.specs.Places.{GoOn, StopOn, place_finish, place_taken, place_answered}
use Rattle.rehearse_machine.specs.MovesShown.{Keeps, Changes, Changed, Does, Comes, next_shown, file_above}
use Rattle.rehearse_machine.proofs.StoreMoves.{comes_at, comes_after, keeps_both, keeps_change}

-- one setting of a call, and then the others
set_cons : (words : List Text) (set : says.Setting) (sets : List says.Setting) (environment : Variables)
    → with_all (sets_in words (set ∷ sets)) environment ≡ with_all (sets_in words sets) (with_all (sets_in words (set ∷ [])) environment)
set_cons words set sets environment = by (variable_of set.0 words) (value_of set.1 words)
  where
    by : (name : Option Text) (value : Option NewValue) → with_all (set_in name value ++ sets_in words sets) environment ≡ with_all (sets_in words sets) (with_all (set_in name value ++ []) environment)
    by None value = refl
    by (Some name) None = refl
    by (Some name) (Some value) = refl

abbrev in_call : List Text → List Setting → List (Text × NewValue)
in_call words sets = sets_in words (map setting_shown sets)

-- the first i of the settings are made
pub record AreSet (words : List Text) (sets : List Setting) (i : ℕ) (old now : Record) : Type 0 where
  pub same : with_all (in_call words (drop i sets)) (entries now.present.environment) ≡ with_all (in_call words sets) (entries old.present.environment)
  pub others : (w : OutcomeWord) → state_at now.present w ≡ remember (λ m. record m { environment = entries now.present.environment }) (state_at old.present w)
  pub frames : now.present.frames ≡ old.present.frames
  pub kept : Keeps old now

pub none_set : (words : List Text) (sets : List Setting) (old : Record) → AreSet words sets 0 old old
none_set words sets old = record { same = refl; others = λ w. refl; frames = refl; kept = record { marked = refl; begun = refl } }

pub next_set : (words : List Text) (sets : List Setting) (i : ℕ) (old now new : Record) (d : Setting) → i < length sets → d ≡ get_or sets i d
    → Changes now new (λ m. record m { environment = with_all (sets_in words (setting_shown d ∷ [])) m.environment }) → AreSet words sets i old now → AreSet words sets (i + 1) old new
next_set words sets i old now new d within is one before =
    let here : entries new.present.environment ≡ with_all (sets_in words (setting_shown d ∷ [])) (entries now.present.environment) = ap (λ (s : State). s.memory.environment) (one.0 []) in
    record {
      same =
          ap (with_all (in_call words (drop (i + 1) sets))) here
          ∙ sym (set_cons words (setting_shown d) (map setting_shown (drop (i + 1) sets)) (entries now.present.environment))
          ∙ sym (ap (λ (x : List Setting). with_all (in_call words x) (entries now.present.environment)) (drop_next sets i d within is))
          ∙ before.same;
      others = λ w.
          one.0 w
          ∙ ap (λ (x : Variables). remember (λ m. record m { environment = x }) (state_at now.present w)) (sym here)
          ∙ ap (remember (λ m. record m { environment = entries new.present.environment })) (before.others w);
      frames = one.1 ∙ before.frames;
      kept = keeps_both old now new before.kept one.2;
    }

pub all_set : (words : List Text) (sets : List Setting) (i : ℕ) (old now : Record) → length sets ≤ i → AreSet words sets i old now → Changes old now (λ m. record m { environment = with_all (in_call words sets) m.environment })
all_set words sets i old now past before = (
  λ w. before.others w
      ∙ ap (λ (x : Variables). remember (λ m. record m { environment = x }) (state_at old.present w)) (sym (ap (λ (x : List Setting). with_all (in_call words x) (entries now.present.environment)) (drop_of_length-le sets past)) ∙ before.same),
  before.frames,
  before.kept,
)

-- what one setting sets
abbrev pub environment_with : (set : List (Text × NewValue)) → State → State
environment_with set = remember (λ m. record m { environment = with_all (set ++ []) m.environment })

-- the variables of a store, with one of them set, to this or to a copy, or deleted
pub stored_value : (variables : stored.Variables) (name value : Text) → entries (assigned variables name (Some value)) ≡ execution.changed (entries variables) name (Value value)
stored_value variables name value = stored_changes variables name value

pub stored_copy : (variables : stored.Variables) (name other copy : Text) → copy ≡ copy_of (get (entries variables) other) → entries (assigned variables name (Some copy)) ≡ execution.changed (entries variables) name (Copied other)
stored_copy variables name other copy is = stored_changes variables name copy ∙ ap (with_value (entries variables) name) is

pub stored_unset : (variables : stored.Variables) (name : Text) → entries (assigned variables name None) ≡ execution.changed (entries variables) name Unset
stored_unset variables name = stored_deletions variables name

-- what a copy of a variable of a store holds
pub copy_made : (variables : stored.Variables) (name : Text) (found : Option Text) (copy : Text) → found ≡ finite.get variables name → copy ≡ copy_of found → copy ≡ copy_of (get (entries variables) name)
copy_made variables name found copy is made = made ∙ ap copy_of (is ∙ sym (stored_values variables name))

-- a setting of a variable
pub sets_one : (words : List Text) (set : says.Setting) (r : Result (Unit {0}) StoreError) (old new : Record) (name : Text) (value : NewValue) (to : Option Text) → variable_of set.0 words ≡ Some name → value_of set.1 words ≡ Some value
    → entries (assigned old.present.environment name to) ≡ execution.changed (entries old.present.environment) name value → OnOk r (new ≡ changed (with_environment name to) old)
    → Changed r old new (λ m. record m { environment = with_all (sets_in words (set ∷ [])) m.environment })
sets_one words set (Ok done) old new name value to named valued same made = (
  λ w.
      ap (λ (x : Record). state_at x.present w) made
      ∙ ap (λ (x : Variables). remember (λ m. record m { environment = x }) (state_at old.present w)) same
      ∙ sym (λ i. environment_with (set_in (named i) (valued i)) (state_at old.present w)),
  ap (λ (r : Record). r.present.frames) made,
  subst (Keeps old) (sym made) (keeps_change (with_environment name to) old refl),
)
sets_one words set (Err e) old new name value to named valued same made = tt

module _ (outcome : Outcome) (request : Request) (old mid late : Record) (entry : LoggedCommand) (words : entry.words ≡ request.name ∷ request.words) (stays : entry.stays ≡ request.effect.stays) (again : entry.again ≡ request.again) (success : succeeds outcome ≡ entry.success) (device : mid ≡ changed (with_device entry) old) (n : ℕ) (code : n ≡ status_after outcome request) (status : late ≡ changed (with_status n) mid) where
  entry_is : entry ≡ record { success = succeeds outcome; words = request.name ∷ request.words; stays = request.effect.stays; again = request.again }
  entry_is = λ i. record { success = sym success i; words = words i; stays = stays i; again = again i }

  late_is : late ≡ changed (with_status (status_after outcome request)) (changed (with_device (record { success = succeeds outcome; words = request.name ∷ request.words; stays = request.effect.stays; again = request.again })) old)
  late_is = status ∙ ap (λ (x : ℕ). changed (with_status x) mid) code ∙ ap (changed (with_status (status_after outcome request))) (device ∙ ap (λ (x : LoggedCommand). changed (with_device x) old) entry_is)

  pub logged_state : (w : OutcomeWord) → state_at late.present w ≡ logged outcome request (state_at old.present w)
  logged_state w = ap (λ (x : Record). state_at x.present w) late_is

  pub logged_frames : late.present.frames ≡ old.present.frames
  logged_frames = ap (λ (x : Record). x.present.frames) late_is

  pub logged_keeps : Keeps old late
  logged_keeps = subst (Keeps old) (sym late_is) (record { marked = refl; begun = omega arith })

pub after_failure : (outcome : Outcome) (request : Request) → succeeds outcome ≡ false → request.on_failure ≡ status_after outcome request
after_failure Success request e = absurd (let f = e in cc)
after_failure Failure request e = refl

pub after_success : (outcome : Outcome) (request : Request) → succeeds outcome ≡ true → request.on_success ≡ status_after outcome request
after_success Success request e = refl
after_success Failure request e = absurd (let f = e in cc)

pub failed : (outcome : Outcome) (request : Request) (ps : List RunningFrame) (s : State) → succeeds outcome ≡ false → GoOn ps (logged outcome request s) ≡ place_taken outcome request ps s
failed Success request ps s e = absurd (let f = e in cc)
failed Failure request ps s e = refl

pub succeeded : (outcome : Outcome) (request : Request) (ps : List RunningFrame) (s : State) → succeeds outcome ≡ true → place_finish request.effect.ends request.name ps (set_environment (sets_in request.words request.effect.sets) (logged outcome request s)) ≡ place_taken outcome request ps s
succeeded Success request ps s e = refl
succeeded Failure request ps s e = absurd (let f = e in cc)

pub finished : (ends : Option BoardEnd) (how : BoardEnd) (name : Text) (ps : List RunningFrame) (s : State) → ends ≡ Some how → StopOn (Finished how name) s ≡ place_finish ends name ps s
finished (Some how) finish name ps s e = let f = e in cc
finished None how name ps s e = absurd (let f = e in cc)

pub stayed : (ends : Option BoardEnd) (name : Text) (ps : List RunningFrame) (s : State) → ends ≡ None → GoOn ps s ≡ place_finish ends name ps s
stayed (Some how) name ps s e = absurd (let f = e in cc)
stayed None name ps s e = refl

module _ (outcome : Outcome) (request : Request) (old set late : Record) (sets : List (Text × NewValue)) (changes : Changes old set (λ m. record m { environment = with_all sets m.environment })) (here : (w : OutcomeWord) → state_at late.present w ≡ logged outcome request (state_at set.present w)) (frames : late.present.frames ≡ set.present.frames) (keeps : Keeps set late) where
  here_is : (made : List (Text × NewValue)) → sets ≡ made → (w : OutcomeWord) → state_at late.present w ≡ logged outcome request (set_environment made (state_at old.present w))
  here_is made s w = here w ∙ ap (logged outcome request) (changes.0 w ∙ ap (λ (x : List (Text × NewValue)). set_environment x (state_at old.present w)) s)

  -- what a success does
  pub success_does : (step : Step) → sets ≡ sets_in request.words request.effect.sets → succeeds outcome ≡ true
      → ((w : OutcomeWord) → next_shown step late.present w ≡ place_finish request.effect.ends request.name late.present.frames (state_at late.present w)) → Does step old late (place_taken outcome request old.present.frames)
  success_does step s e does = (
    λ w. does w
        ∙ ap (λ (x : List RunningFrame). place_finish request.effect.ends request.name x (state_at late.present w)) (frames ∙ changes.1)
        ∙ ap (λ (x : State). place_finish request.effect.ends request.name old.present.frames x) (here_is (sets_in request.words request.effect.sets) s w)
        ∙ succeeded outcome request old.present.frames (state_at old.present w) e,
    keeps_both old set late changes.2 keeps,
  )

  -- and what a failure does: it sets nothing
  pub failure_does : sets ≡ [] → succeeds outcome ≡ false → Does steps.Going old late (place_taken outcome request old.present.frames)
  failure_does s e = (
    λ w. ap (λ (x : List RunningFrame). GoOn x (state_at late.present w)) (frames ∙ changes.1)
        ∙ ap (λ (x : State). GoOn old.present.frames x) (here_is [] s w)
        ∙ failed outcome request old.present.frames (state_at old.present w) e,
    keeps_both old set late changes.2 keeps,
  )

-- with the file that the command hands over to
pub hands_over : (outcome : Outcome) (request : Request) (old mid new : Record) (r : Result Step StoreError) → mid ≡ changed (file_above request.effect.runs) old → Comes r mid new (place_taken outcome request mid.present.frames) → Comes r old new (place_answered outcome request old.present.frames)
hands_over outcome request old mid new r e comes =
    comes_at r old new (place_taken outcome request mid.present.frames) (place_answered outcome request old.present.frames)
    (λ w. ap (λ (x : Record). place_taken outcome request x.present.frames (state_at old.present w)) e)
    (comes_after r old mid new (λ s. s) (place_taken outcome request mid.present.frames) (λ w. ap (λ (x : Record). state_at x.present w) e) (subst (Keeps old) (sym e) (keeps_change (file_above request.effect.runs) old refl)) comes)
