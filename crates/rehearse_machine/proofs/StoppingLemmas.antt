-- Where a text stops, and how an outcome continues it.
use Rattle.std.proofs.Common.{ℕ, ◌+◌, Bool, true, false, not, List, [], ◌∷◌, Result, Ok, Err, refl, sym, ap, subst, ◌∙◌, ◌≡◌, ◌≤◌, None, arith, Option, Some}
use Rattle.std.specs.Prelude.{IfOk, OnOk}
use Rattle.device_list.specs.declared.finish.BoardEnd.{BoardEnd}
use Rattle.bootstore_state.specs.declared.store.StoreError.{StoreError}
use Rattle.bootstore_state.specs.Moment.{RunningFrame, Moment}
use Rattle.bootstore_state.specs.Record.{Record}
use Rattle.rehearse_terms.specs.Outcomes.{OutcomeWord, Outcome, Success, Failure}
use Rattle.rehearse_terms.specs.State.{State, Text}
use Rattle.rehearse_terms.specs.declared.written.Written.TheVariants.{Kept}
use Rattle.bootstore_state.specs.StoredState.{state_at}
use Rattle.device_list.specs.Called.{sets_in}
use Rattle.device_list.specs.DeviceList.{expected}
use Rattle.rehearse_rules.specs.Execution.{Limits, Request, logged, set_environment}
use Rattle.rehearse_rules.specs.Runs.{Task}
use Rattle.rehearse_machine.specs.declared.ask.Ask.{Ask}
use Rattle.rehearse_rules.specs.declared.halt.Halt.{Halt}
use Rattle.rehearse_machine.specs.declared.ask.Step.{Step}
use Rattle.rehearse_machine.specs.declared.ask.Step.TheVariants as steps
use Rattle.rehearse_machine.specs.declared.rehearsal.Stop.{Stop}
use Rattle.rehearse_machine.specs.declared.rehearsal.Stop.TheVariants.{Asks, Ends}
use Rattle.rehearse_machine.specs.Places.{PlaceNext, GoOn, AskOn, StopOn, next_of, frames_of, place_finish, place_answered, above_file, place_taken}
use Rattle.rehearse_machine.specs.Frames.{with_file}
use Rattle.rehearse_machine.specs.AskingCommand.{found_again}
use Rattle.rehearse_machine.specs.Came.{Came}
use Rattle.rehearse_machine.specs.Meaning.{comes_to, IsProperNext, AreProperFrames}
use Rattle.rehearse_machine.specs.MovesShown.{next_shown, request_shown, Keeps, Does, Comes}
use Rattle.rehearse_machine.specs.Turning.{to_come, step_comes, IsSoundStep, Drives}
use Rattle.rehearse_machine.specs.Expecting.{Expects, call_of}
use Rattle.rehearse_machine.specs.Machine.{Asking, AsksNone, IsAsked, IsAsking, TakesOutcome, asked_at, Stops}
use Rattle.rehearse_machine.proofs.MoveMeaning.{continue-dry}
use Rattle.rehearse_machine.proofs.PlaceMoves.{place_answered-is}
use Rattle.rehearse_machine.proofs.RunSoFar.{answered-is}

-- ---- where the machine stops

module _ (limits : Limits) (old new : Record) where
  -- a device command asks
  pub stops_asking : (ask : Ask) (step : Step) → step ≡ steps.Asks ask → Drives limits step old new → Stops limits Asks (to_come limits old.present) new.present
  unfolding asked_at IsAsking
  stops_asking ask step is drives =
      let d : Drives limits (steps.Asks ask) old new = subst (λ (x : Step). Drives limits x old new) is drives in
      let asking : Asking limits new.present = record { request = request_shown ask; again = d.again; sound = d.sound; within = d.within } in
      (asking, λ w. sym (d.means w) ∙ ap (λ (x : PlaceNext). comes_to limits w (next_of x)) (sym (d.again w)), sym (d.means []) ∙ continue-dry limits (with_file new.present.status (request_shown ask).effect.runs (frames_of new.present.frames)) (state_at new.present []))

  -- and it is the one that was found
  pub stops_asked : (ask : Ask) (step : Step) → step ≡ steps.Asks ask → Drives limits step old new → IsAsked limits (request_shown ask) new.present
  unfolding IsAsked
  stops_asked ask step is drives = let d : Drives limits (steps.Asks ask) old new = subst (λ (x : Step). Drives limits x old new) is drives in d.again

  -- the run has ended
  pub stops_ended : (halt : Halt) (step : Step) → step ≡ steps.Ends halt → Drives limits step old new → Stops limits (Ends halt) (to_come limits old.present) new.present
  stops_ended halt step is drives = λ w. sym (drives.means w) ∙ ap (λ (x : Step). step_comes limits x new.present w) is

  -- no more steps were begun than the bound
  pub stops_within : (step : Step) → (step ≡ steps.Going → ⊥) → Drives limits step old new → new.present.steps ≤ limits.step_bound
  stops_within steps.Going other drives = absurd (other refl)
  stops_within (steps.Asks ask) other drives = drives.within
  stops_within (steps.Ends halt) other drives = drives.within

-- two things with the same result stop at the same place
pub stops_as : (limits : Limits) (stop : Stop) (f g : OutcomeWord → Came) (m : Moment) → ((w : OutcomeWord) → g w ≡ f w) → Stops limits stop f m → Stops limits stop g m
stops_as limits Asks f g m e h = (h.0, λ w. e w ∙ h.1 w, e [] ∙ h.2)
stops_as limits (Ends halt) f g m e h = λ w. e w ∙ h w

-- ---- an outcome

steps_of : PlaceNext → ℕ
steps_of (GoOn ps s) = s.steps
steps_of (AskOn r ps s) = s.steps
steps_of (StopOn ending s) = s.steps

asks : PlaceNext → Bool
asks (GoOn ps s) = false
asks (AskOn r ps s) = true
asks (StopOn ending s) = false

module _ (r : Request) (ps : List RunningFrame) where
  finish_steps : (b : Option BoardEnd) (s : State) → steps_of (place_finish b r.name ps s) ≡ s.steps
  unfolding steps_of
  finish_steps (Some finish) s = refl
  finish_steps None s = refl

  taken_steps : (o : Outcome) (s : State) → steps_of (place_taken o r ps s) ≡ s.steps
  unfolding steps_of
  taken_steps Success s = finish_steps r.effect.ends (set_environment (sets_in r.words r.effect.sets) (logged Success r s))
  taken_steps Failure s = refl

  finish_asks : (b : Option BoardEnd) (s : State) → asks (place_finish b r.name ps s) ≡ false
  unfolding asks
  finish_asks (Some finish) s = refl
  finish_asks None s = refl

  taken_asks : (o : Outcome) (s : State) → asks (place_taken o r ps s) ≡ false
  unfolding asks
  taken_asks Success s = finish_asks r.effect.ends (set_environment (sets_in r.words r.effect.sets) (logged Success r s))
  taken_asks Failure s = refl

  finish_sound : (b : Option BoardEnd) (s : State) → AreProperFrames (frames_of ps) → IsProperNext (next_of (place_finish b r.name ps s))
  finish_sound (Some finish) s h = tt
  finish_sound None s h = h

  taken_sound : (o : Outcome) (s : State) → AreProperFrames (frames_of ps) → IsProperNext (next_of (place_taken o r ps s))
  taken_sound Success s h = finish_sound r.effect.ends (set_environment (sets_in r.words r.effect.sets) (logged Success r s)) h
  taken_sound Failure s h = h

-- with a file that the command hands over to
file_sound : (before : ℕ) (runs : List Text) (ps : List RunningFrame) → AreProperFrames (frames_of ps) → AreProperFrames (frames_of (above_file before runs ps))
file_sound before [] ps h = h
file_sound before (name ∷ others) ps h = (tt, h)

-- a command that asks is found again
module _ (limits : Limits) (old mid : Record) (step : Step) (asking : IsAsking limits old.present) (finds : Does step old mid (found_again limits old.present.frames)) where
  asking_at : Asking limits old.present
  unfolding IsAsking
  asking_at = asking

  found : (w : OutcomeWord) → next_shown step mid.present w ≡ AskOn asking_at.request old.present.frames (state_at old.present w)
  found w = finds.0 w ∙ asking_at.again w

  pub never_goes : step ≡ steps.Going → ⊥
  never_goes e = let f : GoOn mid.present.frames (state_at mid.present []) ≡ AskOn asking_at.request old.present.frames (state_at old.present []) = sym (ap (λ (x : Step). next_shown x mid.present []) e) ∙ found [] in cc

  pub never_ends : (halt : Halt) → step ≡ steps.Ends halt → ⊥
  never_ends halt e = let f = sym (ap (λ (x : Step). next_shown x mid.present []) e) ∙ found [] in cc

  never_other : (x : Step) → x ≡ step → ((ask : Ask) → step ≡ steps.Asks ask → ⊥) → ⊥
  never_other steps.Going e other = never_goes (sym e)
  never_other (steps.Asks ask) e other = other ask (sym e)
  never_other (steps.Ends halt) e other = never_ends halt (sym e)

  pub never_found : ((ask : Ask) → step ≡ steps.Asks ask → ⊥) → ⊥
  never_found other = never_other step refl other

  -- and takes an outcome
  module _ (ask : Ask) (is : step ≡ steps.Asks ask) (outcome : Outcome) (new : Record) (next : Step) (does : Does next mid new (place_answered outcome (request_shown ask) mid.present.frames)) where
    asks_so : (w : OutcomeWord) → AskOn (request_shown ask) mid.present.frames (state_at mid.present w) ≡ AskOn asking_at.request old.present.frames (state_at old.present w)
    asks_so w = sym (ap (λ (x : Step). next_shown x mid.present w) is) ∙ found w

    same_request : request_shown ask ≡ asking_at.request
    same_request = let e = asks_so [] in cc

    same_frames : mid.present.frames ≡ old.present.frames
    same_frames = let e = asks_so [] in cc

    same_state : (w : OutcomeWord) → state_at mid.present w ≡ state_at old.present w
    same_state w = let e = asks_so w in cc

    answers : (w : OutcomeWord) → next_shown next new.present w ≡ place_answered outcome asking_at.request old.present.frames (state_at old.present w)
    answers w =
        does.0 w
        ∙ ap (λ (r : Request). place_answered outcome r mid.present.frames (state_at mid.present w)) same_request
        ∙ ap (λ (ps : List RunningFrame). place_answered outcome asking_at.request ps (state_at mid.present w)) same_frames
        ∙ ap (place_answered outcome asking_at.request old.present.frames) (same_state w)

    abbrev task : Task
    task = record { limits = limits; environment = []; name = []; text = []; failures = None; written = Kept }

    resumed : (w : OutcomeWord) → asked_at limits old.present (outcome ∷ w) ≡ step_comes limits next new.present w
    unfolding asked_at
    resumed w =
        ap (λ (x : PlaceNext). comes_to limits (outcome ∷ w) (next_of x)) (asking_at.again (outcome ∷ w))
        ∙ answered-is task w outcome asking_at.request (frames_of old.present.frames) (state_at old.present w)
        ∙ sym (ap (comes_to limits w) (ap next_of (answers w) ∙ place_answered-is outcome asking_at.request old.present.frames (state_at old.present w)))

    asks_none : (x : Step) → x ≡ next → AsksNone x
    unfolding asks
    asks_none steps.Going e = tt
    asks_none (steps.Asks more) e =
        let f : true ≡ false = ap (λ (x : Step). asks (next_shown x new.present [])) e ∙ ap asks (answers []) ∙ taken_asks asking_at.request (above_file old.present.status asking_at.request.effect.runs old.present.frames) outcome (state_at old.present []) in
        let g = f in cc
    asks_none (steps.Ends halt) e = tt

    soundly : IsSoundStep next new.present
    soundly = subst IsProperNext (sym (ap next_of (answers []))) (taken_sound asking_at.request (above_file old.present.status asking_at.request.effect.runs old.present.frames) outcome (state_at old.present []) (file_sound old.present.status asking_at.request.effect.runs old.present.frames asking_at.sound))

    seen_steps : (x : Step) → steps_of (next_shown x new.present []) ≡ new.present.steps
    unfolding steps_of
    seen_steps steps.Going = refl
    seen_steps (steps.Asks more) = refl
    seen_steps (steps.Ends halt) = refl

    same_steps : new.present.steps ≡ old.present.steps
    same_steps = sym (seen_steps next) ∙ ap steps_of (answers []) ∙ taken_steps asking_at.request (above_file old.present.status asking_at.request.effect.runs old.present.frames) outcome (state_at old.present [])

    same_begun : new.begun ≡ old.begun
    same_begun =
        let a = does.1.begun in
        let b = finds.1.begun in
        let c : mid.present.steps ≡ old.present.steps = ap (λ (s : State). s.steps) (same_state []) in
        let d = same_steps in
        omega arith

    outcome_taken : TakesOutcome limits outcome old new next
    outcome_taken = record {
      comes = resumed;
      sound = soundly;
      asks_none = asks_none next refl;
      steps = same_steps;
      within = subst (λ (n : ℕ). n ≤ limits.step_bound) (sym same_steps) asking_at.within;
      marked = does.1.marked ∙ finds.1.marked;
      begun = same_begun;
    }

  pub takes_outcome : (ask : Ask) → step ≡ steps.Asks ask → (outcome : Outcome) (new : Record) (r : Result Step StoreError) → Comes r mid new (place_answered outcome (request_shown ask) mid.present.frames) → IfOk r (TakesOutcome limits outcome old new)
  takes_outcome ask is outcome new (Ok next) does = outcome_taken ask is outcome new next does
  takes_outcome ask is outcome new (Err x) does = tt

-- the command that asks takes an outcome
pub asked_takes : (limits : Limits) (old new : Record) (ask : Ask) (outcome : Outcome) (r : Result Step StoreError) → IsAsking limits old.present → IsAsked limits (request_shown ask) old.present → Comes r old new (place_answered outcome (request_shown ask) old.present.frames) → IfOk r (TakesOutcome limits outcome old new)
unfolding IsAsked
asked_takes limits old new ask outcome (Err x) asks asked does = tt
asked_takes limits old new ask outcome (Ok next) asks asked does = outcome_taken limits old old (steps.Asks ask) asks (λ w. sym (asked w), record { marked = refl; begun = refl }) ask refl outcome new next does

-- what is expected of it
pub expects_of : (limits : Limits) (m : Moment) (request : Request) (answer : Option Bool) → IsAsked limits request m → answer ≡ expected limits.devices (call_of request) → Expects limits m answer
unfolding IsAsked
expects_of limits m request answer asked e asking =
    let same : request ≡ asking.request = (let f : AskOn request m.frames (state_at m []) ≡ AskOn asking.request m.frames (state_at m []) = sym (asked []) ∙ asking.again [] in cc) in
    e ∙ ap (λ (r : Request). expected limits.devices (call_of r)) same

-- ---- a text that went on

pub all_stop_as : {A : Type 0} (stop_of : A → Stop) (r : Result A StoreError) (limits : Limits) (f g : OutcomeWord → Came) (new : Record) → ((w : OutcomeWord) → g w ≡ f w) → IfOk r (λ stopped. Stops limits (stop_of stopped) f new.present) → IfOk r (λ stopped. Stops limits (stop_of stopped) g new.present)
all_stop_as stop_of (Ok stopped) limits f g new e h = stops_as limits (stop_of stopped) f g new.present e h
all_stop_as stop_of (Err x) limits f g new e h = h

pub marks_on : {A : Type 0} (r : Result A StoreError) (old mid new : Record) → mid.marked ≡ old.marked → OnOk r (Keeps mid new) → OnOk r (new.marked ≡ old.marked)
marks_on (Ok stop) old mid new e h = h.marked ∙ e
marks_on (Err x) old mid new e h = h

pub begun_on : {A : Type 0} (r : Result A StoreError) (old mid new : Record) → mid.begun ≡ old.begun → mid.present.steps ≡ old.present.steps → OnOk r (Keeps mid new) → OnOk r (new.begun + old.present.steps ≡ old.begun + new.present.steps)
begun_on (Ok stop) old mid new a b h = let k = h.begun in omega arith
begun_on (Err x) old mid new a b h = h

pub grows_on : {A : Type 0} (r : Result A StoreError) (old mid new : Record) → mid.present.steps ≡ old.present.steps → OnOk r (mid.present.steps ≤ new.present.steps) → OnOk r (old.present.steps ≤ new.present.steps)
grows_on (Ok stop) old mid new e h = omega arith
grows_on (Err x) old mid new e h = h
