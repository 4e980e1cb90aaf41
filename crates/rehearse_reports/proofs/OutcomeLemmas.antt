-- Reports of outcomes.
use Rattle.text.specs.TextsShown.{bytes_of_words}
use Rattle.std.specs.declared.alloc.Global.{Global}
use Rattle.std.proofs.Common.{◌≡◌, ◌∙◌, ◌≤◌, arith, refl, sym, ap, subst, Bool, true, false, List, [], ◌∷◌, ◌++◌, length, map, append_assoc, Option, Some, None, Result, Ok, Err, ℕ, ◌<◌}
use Rattle.std.proofs.lemmas.List.{map-append}
use Rattle.std.specs.Prelude.{OnOk, IfOk, Vec}
use Rattle.std.specs.List.{flat_map}
use Rattle.device_list.specs.Called.{NewValue, sets_in, set_in, variable_of, value_of}
use Rattle.device_list.specs.DeviceList as says
use Rattle.device_list.specs.DevicesShown.{setting_shown}
use Rattle.device_list.specs.declared.setting.Setting.{Setting}
use Rattle.bootstore_state.specs.Record.{Record}
use Rattle.bootstore_state.specs.StoredState.{state_at}
use Rattle.bootstore_state.specs.Moment.{Moment, RunningFrame}
use Rattle.bootstore_state.specs.declared.store.StoreError.{StoreError}
use Rattle.rehearse_terms.specs.Outcomes.{Outcome, OutcomeWord}
use Rattle.rehearse_terms.specs.State.{Text}
use Rattle.rehearse_rules.specs.Execution.{Limits, Request, outcome_when}
use Rattle.rehearse_machine.specs.AskingCommand.{found_again}
use Rattle.rehearse_machine.specs.Machine.{Asking, IsAsking, asked_at}
use Rattle.rehearse_machine.specs.MovesShown.{next_shown, request_shown, Does, Comes}
use Rattle.rehearse_machine.specs.Places.{AskOn, place_answered}
use Rattle.rehearse_machine.specs.Turning.{Drives, to_come}
use Rattle.rehearse_machine.specs.declared.ask.Ask.{Ask}
use Rattle.rehearse_machine.specs.declared.ask.Step.{Step}
use Rattle.rehearse_machine.specs.declared.ask.Step.TheVariants as steps
use Rattle.rehearse_machine.specs.declared.rehearsal.Stop.{Stop}
use Rattle.rehearse_machine.specs.declared.rehearsal.Stop.TheVariants as stops
use Rattle.rehearse_rules.specs.declared.halt.Halt.{Halt}
use Rattle.rehearse_reads.specs.Keys.{Access, Reads, Writes, Environment, Status, all_read}
use Rattle.rehearse_reads.specs.Accesses.{copied_key, copied_keys, handing_reads, names_written, outcome_accesses, outcome_writes}
use Rattle.rehearse_frames.specs.Above.{without_lowest}
use Rattle.rehearse_frames.specs.KeysToCome.{AreEnoughFrom}
use Rattle.rehearse_frames.proofs.LowestFrames.{again_above, asking_above, asks_in_frames, outcomes_stay_above}
use Rattle.rehearse_reports.specs.Reports.{Reports}
use Rattle.rehearse_reports.specs.Following.{FollowsOutcome, FollowsAbove, FollowsOutcomeAbove, FollowsToStopAbove, IsReportedAbove, AreEnoughFor, AreEnoughAtStop, comes_at_stop}
use Rattle.rehearse_reports.specs.Looping.{HasFrames}
use Rattle.rehearse_reports.proofs.CoverLemmas.{early_reads}
use Rattle.rehearse_reports.proofs.ReportLemmas.{reports_nothing, reports_then}
use Rattle.rehearse_reports.proofs.FollowingLemmas.{at_end, follows_asking, follows_ended, follows_outcome, leads_then, reported_for}

abbrev names_of : List (Text × NewValue) → List Access
names_of sets = names_written (map (λ e. e.0) sets)

-- what one setting writes
abbrev pub of_setting : List Text → Setting → List Access
of_setting words set = names_of (sets_in words (setting_shown set ∷ []))

pub sets_no_name : (old : List Access) (words : List Text) (set : says.Setting) → None ≡ variable_of set.0 words → Reports old old (names_of (sets_in words (set ∷ [])))
sets_no_name old words set e = subst (λ (o : Option Text). Reports old old (names_of (set_in o (value_of set.1 words) ++ []))) e (reports_nothing old)

no_value : (o : Option Text) → names_of (set_in o None ++ []) ≡ []
no_value None = refl
no_value (Some name) = refl

pub sets_no_value : (old : List Access) (words : List Text) (set : says.Setting) → None ≡ value_of set.1 words → Reports old old (names_of (sets_in words (set ∷ [])))
sets_no_value old words set e =
    subst (λ (o : Option NewValue). Reports old old (names_of (set_in (variable_of set.0 words) o ++ []))) e (subst (Reports old old) (sym (no_value (variable_of set.0 words))) (reports_nothing old))

pub sets_one : (old new : List Access) (words : List Text) (set : says.Setting) (name : Text) (value : NewValue) (written : Text) → Some name ≡ variable_of set.0 words → Some value ≡ value_of set.1 words → written ≡ name → Reports old new (Writes (Environment written) ∷ []) → Reports old new (names_of (sets_in words (set ∷ [])))
sets_one old new words set name value written e f is h =
    subst (λ (o : Option Text). Reports old new (names_of (set_in o (value_of set.1 words) ++ []))) e
    (subst (λ (o : Option NewValue). Reports old new (names_of (set_in (Some name) o ++ []))) f (subst (λ (n : Text). Reports old new (Writes (Environment n) ∷ [])) is h))

names_joined : (xs ys : List (Text × NewValue)) → names_of (xs ++ ys) ≡ names_of (xs ++ []) ++ names_of ys
names_joined [] ys = refl
names_joined (x ∷ xs) ys = ap (λ (zs : List Access). Writes (Environment x.0) ∷ zs) (names_joined xs ys)

settings_so : (words : List Text) (sets : List Setting) → flat_map (of_setting words) sets ≡ names_of (sets_in words (map setting_shown sets))
settings_so words [] = refl
settings_so words (set ∷ sets) =
    ap (λ (xs : List Access). of_setting words set ++ xs) (settings_so words sets)
    ∙ sym (names_joined (set_in (variable_of (setting_shown set).0 words) (value_of (setting_shown set).1 words)) (sets_in words (map setting_shown sets)))

pub settings_done : (old new : List Access) (words : List Text) (sets : List Setting) → Reports old new (flat_map (of_setting words) sets) → Reports old new (names_of (sets_in words (map setting_shown sets)))
settings_done old new words sets h = subst (Reports old new) (settings_so words sets) h

pub failed_so : (old new : List Access) (request : Request) (success : Bool) → success ≡ false → Reports old new (Writes Status ∷ []) → Reports old new (outcome_writes (outcome_when success) request)
failed_so old new request success e h = subst (λ (b : Bool). Reports old new (outcome_writes (outcome_when b) request)) (sym e) h

pub won_so : {E : Type 0} (r : Result (Unit {0}) E) (old mid new : List Access) (request : Request) (success : Bool) (words : List Text) → success ≡ true → words ≡ request.words → Reports old mid (Writes Status ∷ []) → OnOk r (Reports mid new (names_of (sets_in words request.effect.sets))) → OnOk r (Reports old new (outcome_writes (outcome_when success) request))
won_so (Ok x) old mid new request success words e w h k =
    subst (λ (b : Bool). Reports old new (outcome_writes (outcome_when b) request)) (sym e)
    (reports_then old mid new (Writes Status ∷ []) (names_of (sets_in request.words request.effect.sets)) h (subst (λ (ws : List Text). Reports mid new (names_of (sets_in ws request.effect.sets))) w k))
won_so (Err x) old mid new request success words e w h k = k

-- a command that names no file hands nothing over
pub nothing_handed : (runs : List (Vec ℕ Global)) → length runs < 1 → (old : List Access) → Reports old old (handing_reads (bytes_of_words runs))
nothing_handed [] h old = reports_nothing old
nothing_handed (name ∷ others) h old = absurd (omega arith)

-- one of these, and then the others
pub both_reported : {E : Type 0} (r : Result (Unit {0}) E) (old mid new : List Access) (xs ys : List Access) → Reports old mid xs → OnOk r (Reports mid new ys) → OnOk r (Reports old new (xs ++ ys))
both_reported (Ok x) old mid new xs ys h k = reports_then old mid new xs ys h k
both_reported (Err x) old mid new xs ys h k = k

-- what is read first, and then what the outcome writes
pub early_then : {E : Type 0} (r : Result (Unit {0}) E) (old mid new : List Access) (outcome : Outcome) (request : Request) → Reports old mid (early_reads request.effect) → OnOk r (Reports mid new (outcome_writes outcome request)) → OnOk r (Reports old new (outcome_accesses outcome request))
early_then r old mid new outcome request h k =
    let writes : List Access = outcome_writes outcome request in
    subst (λ (xs : List Access). OnOk r (Reports old new xs)) (append_assoc (handing_reads request.effect.runs) (all_read (copied_keys request.effect.sets)) writes)
    (both_reported r old mid new (early_reads request.effect) writes h k)

-- what one setting copies
abbrev pub of_copy : Setting → List Access
of_copy set = all_read (copied_key (setting_shown set).1)

copies_so : (sets : List Setting) → flat_map of_copy sets ≡ all_read (copied_keys (map setting_shown sets))
copies_so [] = refl
copies_so (set ∷ sets) =
    ap (λ (xs : List Access). of_copy set ++ xs) (copies_so sets)
    ∙ sym (map-append Reads (copied_key (setting_shown set).1) (copied_keys (map setting_shown sets)))

pub copies_done : (old new : List Access) (sets : List Setting) → Reports old new (flat_map of_copy sets) → Reports old new (all_read (copied_keys (map setting_shown sets)))
copies_done old new sets h = subst (Reports old new) (copies_so sets) h

-- ---- a device command takes its outcome

module _ (limits : Limits) (old mid new : Record) (step : Step) (ask : Ask) (outcome : Outcome) (before after : List Access) (asks : Asking limits old.present) (finds : Does step old mid (found_again limits old.present.frames)) (is : step ≡ steps.Asks ask)
    (reported : Reports before after (outcome_accesses outcome (request_shown ask))) where
  asks_so : (w : OutcomeWord) → AskOn (request_shown ask) mid.present.frames (state_at mid.present w) ≡ AskOn asks.request old.present.frames (state_at old.present w)
  asks_so w = sym (ap (λ (x : Step). next_shown x mid.present w) is) ∙ (finds.0 w ∙ asks.again w)

  same_request : request_shown ask ≡ asks.request
  same_request = let e = asks_so [] in cc

  same_frames : mid.present.frames ≡ old.present.frames
  same_frames = let e = asks_so [] in cc

  same_state : (w : OutcomeWord) → state_at mid.present w ≡ state_at old.present w
  same_state w = let e = asks_so w in cc

  given : (next : Step) → Does next mid new (place_answered outcome (request_shown ask) mid.present.frames) → FollowsOutcomeAbove limits (length old.present.frames) outcome old.present next new.present before after
  given next does below within =
      let some = asks_in_frames limits old.present asks in
      follows_outcome limits outcome (without_lowest below old.present) (asking_above limits below old.present asks (omega arith)) next (without_lowest below new.present) before after
      (outcomes_stay_above below outcome asks.request next old.present new.present (omega arith)
      (λ w. does.0 w
      ∙ ap (λ (r : Request). place_answered outcome r mid.present.frames (state_at mid.present w)) same_request
      ∙ ap (λ (ps : List RunningFrame). place_answered outcome asks.request ps (state_at mid.present w)) same_frames
      ∙ ap (place_answered outcome asks.request old.present.frames) (same_state w)))
      (subst (λ (r : Request). Reports before after (outcome_accesses outcome r)) same_request reported)

pub all_given : (limits : Limits) (old mid new : Record) (step : Step) (ask : Ask) (outcome : Outcome) (before after : List Access) → IsAsking limits old.present → Does step old mid (found_again limits old.present.frames) → step ≡ steps.Asks ask → Reports before after (outcome_accesses outcome (request_shown ask))
    → (r : Result Step StoreError) → Comes r mid new (place_answered outcome (request_shown ask) mid.present.frames) → IfOk r (λ next. FollowsOutcomeAbove limits (length old.present.frames) outcome old.present next new.present before after)
unfolding IsAsking
all_given limits old mid new step ask outcome before after asks finds is reported (Ok next) does = given limits old mid new step ask outcome before after asks finds is reported next does
all_given limits old mid new step ask outcome before after asks finds is reported (Err x) does = tt

-- ---- up to the next stop

-- a step that has led to a device command which asks
pub all_follow_asking : (limits : Limits) (fewest : ℕ) (old new : Record) (step : Step) (ask : Ask) (before after : List Access) → step ≡ steps.Asks ask → Drives limits step old new → HasFrames fewest step new.present
    → FollowsAbove limits fewest old.present step new.present before after → FollowsToStopAbove limits fewest old.present stops.Asks new.present before after
all_follow_asking limits fewest old new step ask before after is drives frames follows below within =
    let d : Drives limits (steps.Asks ask) old new = subst (λ (x : Step). Drives limits x old new) is drives in
    let there : HasFrames fewest (steps.Asks ask) new.present = subst (λ (x : Step). HasFrames fewest x new.present) is frames in
    follows_asking limits (without_lowest below old.present) (without_lowest below new.present) step ask before after is (again_above limits below fewest new.present (request_shown ask) within there d.again) (follows below within)

pub all_follow_ended : (limits : Limits) (fewest : ℕ) (m n : Moment) (step : Step) (halt : Halt) (before after : List Access) → step ≡ steps.Ends halt → FollowsAbove limits fewest m step n before after → FollowsToStopAbove limits fewest m (stops.Ends halt) n before after
all_follow_ended limits fewest m n step halt before after is follows below within = follows_ended limits (without_lowest below m) (without_lowest below n) step halt before after is (follows below within)

pub all_reported : (r : Result Stop StoreError) (limits : Limits) (first fewest : ℕ) (outcome : Outcome) (m n k : Moment) (old mid new : List Access) → OnOk r (fewest ≤ first) → old ≡ [] → FollowsOutcomeAbove limits first outcome m steps.Going n old mid
    → IfOk r (λ stop. FollowsToStopAbove limits fewest n stop k mid new) → IfOk r (λ stop. IsReportedAbove limits fewest outcome m stop k new)
all_reported (Ok stop) limits first fewest outcome m n k old mid new less e a b = λ below within.
    let here : Moment = without_lowest below m in
    let there : Moment = without_lowest below n in
    let last : Moment = without_lowest below k in
    reported_for limits outcome here stop last old new e
    (leads_then (λ w. asked_at limits here (outcome ∷ w)) (to_come limits there) (comes_at_stop limits stop last)
    (λ wanted. AreEnoughFor limits wanted outcome here) (λ wanted. AreEnoughFrom limits wanted there) (λ wanted. AreEnoughAtStop limits wanted stop last) old mid new (a below (omega arith)) (b below within))
all_reported (Err x) limits first fewest outcome m n k old mid new less e a b = b

pub end_reported : (limits : Limits) (fewest : ℕ) (outcome : Outcome) (m n : Moment) (step : Step) (halt : Halt) (old new : List Access) → old ≡ [] → step ≡ steps.Ends halt → FollowsOutcomeAbove limits fewest outcome m step n old new → IsReportedAbove limits fewest outcome m (stops.Ends halt) n new
end_reported limits fewest outcome m n step halt old new e is a below within =
    let here : Moment = without_lowest below m in
    let last : Moment = without_lowest below n in
    let f : FollowsOutcome limits outcome here (steps.Ends halt) last old new = subst (λ (x : Step). FollowsOutcome limits outcome here x last old new) is (a below within) in
    reported_for limits outcome here (stops.Ends halt) last old new e (record { accesses = f.accesses; comes = λ w. f.comes w; enough = λ names keys k. f.enough names keys (at_end limits names halt last keys k); reported = f.reported })
