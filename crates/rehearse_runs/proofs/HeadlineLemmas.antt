-- The runs that are asked for.
use Rattle.std.proofs.Common.{◌≡◌, ◌==◌, ◌∙◌, arith, ℕ, Bool, true, false, List, [], ◌∷◌, ◌++◌, map, get_or, Option, Some, None, Result, Ok, Err, IfErr, inl, inr, refl, sym, ap, subst, append-nil}
use Rattle.std.specs.Prelude.{IfOk, OnOk, if◌then◌else◌, codes}
use Rattle.std.specs.Borrow.{Bor}
use Rattle.std.specs.List.{flat_map}
use Rattle.std.proofs.lemmas.Bool.{eqb-true}
use Rattle.output.specs.Sink.{Sink, Wrote, BrokeOff}
use Rattle.rehearse_terms.specs.Asking.{Alone, Asking, Listed, whole_page}
use Rattle.rehearse_rules.specs.RunsToCome.{AreToCome, GivesNoRun, SpellsNoRun}
use Rattle.rehearse_rules.specs.Listing.{outcome_digit, spelled, record_of, line}
use Rattle.rehearse_terms.specs.Outcomes.{Outcome, OutcomeWord, Success, Failure}
use Rattle.rehearse_terms.specs.State.{Text}
use Rattle.device_list.specs.DeviceList.{Devices}
use Rattle.rehearse_rules.specs.Runs.{Task}
use Rattle.rehearse_machine.specs.Tasks.{SourceShown, task_found, task_from, text_in}
use Rattle.rehearse_terms.specs.Bounds.{BoundsShown}
use Rattle.rehearse_runs.specs.AskShown.{asking_by, asking_for, asking_of, text_given}
use Rattle.rehearse_runs.specs.Behind.{GoesOnBehind, IsNoRun, IsNotListed, RefusesWord}
use Rattle.rehearse_runs.specs.RehearsedEnvironment.{Begins, Refuses, RefusesRuns, Rehearses, WithRuns, task_asked}
use Rattle.rehearse_runs.specs.ListingRuns.{Breaks, Lists}
use Rattle.rehearse_runs.specs.RunAlone.{BreaksAlone, WritesAlone}
use Rattle.rehearse_runs.specs.RunsShown.{RunsShown}
use Rattle.rehearse_runs.specs.StartWord.{digits_in}
use Rattle.rehearse_runs.specs.declared.ask.Ask.{Ask}
use Rattle.rehearse_terms.specs.declared.wanted.Page.{Page}
use Rattle.rehearse_terms.specs.declared.wanted.Wanted.{Wanted}
use Rattle.rehearse_runs.specs.declared.listing.Finish.{Finish}
use Rattle.rehearse_runs.specs.declared.listing.Finish.TheVariants.{Done}
use Rattle.rehearse_rules.specs.declared.rehearse_error.RehearseError.{RehearseError}
use Rattle.rehearse_rules.specs.declared.rehearse_error.RehearseError.TheVariants.{DeviceList, NoSuchVariable, NotARun, States, Steps, Bytes, Write, Memory, Failed}
use Rattle.rehearse_machine.proofs.TaskSet.{task_is_found}

-- ---- a word as it is printed, and its digits

pub spelled-digits : (w : OutcomeWord) → digits_in (spelled w) ≡ map outcome_digit w
spelled-digits [] = refl
spelled-digits (Success ∷ []) = refl
spelled-digits (Failure ∷ []) = refl
spelled-digits (d ∷ e ∷ w) = refl

no_dot : (text : Text) (w : OutcomeWord) (d : Outcome) → 46 ∷ [] ≡ map outcome_digit (d ∷ w) → text ≡ spelled (d ∷ w)
no_dot text w Success e = let h : 46 ≡ 48 = ap (λ (l : List ℕ). get_or l 0 0) e in absurd (omega (arith, h))
no_dot text w Failure e = let h : 46 ≡ 49 = ap (λ (l : List ℕ). get_or l 0 0) e in absurd (omega (arith, h))

one_byte : (b : ℕ) (dot : Bool) (w : OutcomeWord) → (b == 46) ≡ dot → (if dot then [] else b ∷ []) ≡ map outcome_digit w → b ∷ [] ≡ spelled w
one_byte b true [] is e = ap (λ n. n ∷ []) (eqb-true b 46 is)
one_byte b true (d ∷ w) is e = cc
one_byte b false [] is e = cc
one_byte b false (d ∷ w) is e = e

pub digits-spelled : (text : Text) (w : OutcomeWord) → digits_in text ≡ map outcome_digit w → text ≡ spelled w
digits-spelled [] [] e = cc
digits-spelled [] (d ∷ w) e = no_dot [] w d e
digits-spelled (b ∷ []) w e = one_byte b (b == 46) w refl e
digits-spelled (b ∷ c ∷ more) [] e = cc
digits-spelled (b ∷ c ∷ more) (d ∷ w) e = e

-- digits that belong to no run are the digits of a word that spells none
pub spells_no_run : (task : Task) (printed digits : Text) → digits ≡ digits_in printed → IsNoRun task digits → SpellsNoRun task printed
spells_no_run task printed digits is h = λ w e. h w (is ∙ ap digits_in e ∙ spelled-digits w)

-- and so of the runs of a listing
gives_no_run : (task : Task) (printed digits : Text) → digits ≡ digits_in printed → IsNotListed task digits → GivesNoRun task (Listed (Some printed) whole_page)
gives_no_run task printed digits is h = λ w e. h w (is ∙ ap digits_in e ∙ spelled-digits w)

-- ---- the runs of a listing

begins_from : (env : List (Text × Text)) (devices : Devices) (source : SourceShown) (bounds : BoundsShown) (printed digits : Text) (r : RunsShown) → digits ≡ digits_in printed → GoesOnBehind (task_from env devices source bounds) digits r
    → task_found env devices source bounds ≡ Some (task_from env devices source bounds) → Begins env devices source bounds (Some printed) r
begins_from env devices source bounds printed digits r is h set =
    let P : RunsShown → Type 0 = λ r. Begins env devices source bounds (Some printed) r in
    subst P (sym h.behind) (record {
      task_is = set;
      to_come = (h.word, digits-spelled printed h.word (sym is ∙ h.digits), h.run, refl);
      sound = refl;
    })

pub begins_behind : (result : Result RunsShown RehearseError) (env : List (Text × Text)) (devices : Devices) (source : SourceShown) (bounds : BoundsShown) (after : Option Text) (printed digits : Text) → after ≡ Some printed → digits ≡ digits_in printed
    → IfOk result (λ r. GoesOnBehind (task_from env devices source bounds) digits r) → OnOk result (task_found env devices source bounds ≡ Some (task_from env devices source bounds)) → IfOk result (λ r. Begins env devices source bounds after r)
begins_behind (Ok r) env devices source bounds after printed digits s is h set =
    let P : Option Text → Type 0 = λ o. Begins env devices source bounds o r in
    subst P (sym s) (begins_from env devices source bounds printed digits r is h set)
begins_behind (Err e) env devices source bounds after printed digits s is h set = tt

refuses_behind : (env : List (Text × Text)) (devices : Devices) (source : SourceShown) (bounds : BoundsShown) (printed digits : Text) (e : RehearseError) → digits ≡ digits_in printed → RefusesWord (task_from env devices source bounds) (text_in env source) digits e
    → (e ≡ NoSuchVariable → task_found env devices source bounds ≡ None) → RefusesRuns env devices source bounds (Some printed) e
refuses_behind env devices source bounds printed digits NoSuchVariable is h u = u refl
refuses_behind env devices source bounds printed digits Memory is h u = tt
refuses_behind env devices source bounds printed digits NotARun is h u = record {
  task = task_from env devices source bounds;
  task_is = task_is_found env devices source bounds h.0;
  no_run = gives_no_run (task_from env devices source bounds) printed digits is h.1;
}
refuses_behind env devices source bounds printed digits (DeviceList fault) is h u = h
refuses_behind env devices source bounds printed digits States is h u = h
refuses_behind env devices source bounds printed digits (Steps count) is h u = h
refuses_behind env devices source bounds printed digits (Bytes count) is h u = h
refuses_behind env devices source bounds printed digits Write is h u = h
refuses_behind env devices source bounds printed digits Failed is h u = h

pub refused_behind : {X : Type 0} (result : Result X RehearseError) (env : List (Text × Text)) (devices : Devices) (source : SourceShown) (bounds : BoundsShown) (after : Option Text) (printed digits : Text) → after ≡ Some printed → digits ≡ digits_in printed
    → IfErr result (λ e. RefusesWord (task_from env devices source bounds) (text_in env source) digits e)
    → IfErr result (λ e. e ≡ NoSuchVariable → task_found env devices source bounds ≡ None) → IfErr result (λ e. RefusesRuns env devices source bounds after e)
refused_behind (Ok x) env devices source bounds after printed digits s is h u = tt
refused_behind (Err e) env devices source bounds after printed digits s is h u =
    let P : Option Text → Type 0 = λ o. RefusesRuns env devices source bounds o e in
    subst P (sym s) (refuses_behind env devices source bounds printed digits e is h u)

-- ---- a listing, by its runs

to_come_within : (task : Task) (after : Option Text) (page : Page) (words : List OutcomeWord) → AreToCome task (Listed after whole_page) words → AreToCome task (Listed after page) words
to_come_within task None page words h = h
to_come_within task (Some text) page words h = h

no_run_within : (task : Task) (after : Option Text) (page : Page) → GivesNoRun task (Listed after whole_page) → GivesNoRun task (Listed after page)
no_run_within task None page h = h
no_run_within task (Some text) page h = h

module _ (env : List (Text × Text)) (devices : Devices) (source : SourceShown) (bounds : BoundsShown) (after : Option Text) (page : Page) (names : List Text) where
  -- its runs do not begin
  pub unstarted : (s : Sink) (e : RehearseError) → RefusesRuns env devices source bounds after e → Refuses (task_found env devices source bounds) (asking_for source.name bounds (Listed after page) names) s s e
  unstarted s (DeviceList fault) h = h
  unstarted s NoSuchVariable h = (h, refl)
  unstarted s NotARun h = (record { task = h.task; task_is = h.task_is; no_run = no_run_within h.task after page h.no_run }, refl)
  unstarted s States h = h
  unstarted s (Steps count) h = h
  unstarted s (Bytes count) h = h
  unstarted s Write h = absurd h
  unstarted s Memory h = inl refl
  unstarted s Failed h = h

  begun : (r : RunsShown) (IsSo : Task → List OutcomeWord → Type 0) → Begins env devices source bounds after r → IsSo r.task r.to_come → WithRuns (task_found env devices source bounds) (Listed after page) IsSo
  begun r IsSo b so = record { task = r.task; task_is = b.task_is; words = r.to_come; to_come = to_come_within r.task after page r.to_come b.to_come; so = so }

  -- it is written
  pub written : (result : Result Finish RehearseError) (old new : Sink) (r r' : RunsShown) → Begins env devices source bounds after r → IfOk result (λ finish. Lists old new r r' names page finish)
      → IfOk result (λ finish. Rehearses (task_found env devices source bounds) (asking_for source.name bounds (Listed after page) names) old new finish)
  written (Ok finish) old new r r' b h = begun r _ b (h.wrote, h.finish_is)
  written (Err e) old new r r' b h = tt

  broken : (old new : Sink) (r r' : RunsShown) (e : RehearseError) → Begins env devices source bounds after r → Breaks old new r r' names page e → Refuses (task_found env devices source bounds) (asking_for source.name bounds (Listed after page) names) old new e
  broken old new r r' (DeviceList fault) b h = h
  broken old new r r' NoSuchVariable b h = absurd h
  broken old new r r' NotARun b h = absurd h
  broken old new r r' States b h = h
  broken old new r r' (Steps count) b h = h
  broken old new r r' (Bytes count) b h = h
  broken old new r r' Write b h = begun r _ b h.breaks
  broken old new r r' Memory b h = inr (begun r _ b h.lacks)
  broken old new r r' Failed b h = let f = h.failed in let s = b.sound in absurd cc

  -- or it breaks off
  pub unwritten : (result : Result Finish RehearseError) (old new : Sink) (r r' : RunsShown) → Begins env devices source bounds after r → IfErr result (λ e. Breaks old new r r' names page e)
      → IfErr result (λ e. Refuses (task_found env devices source bounds) (asking_for source.name bounds (Listed after page) names) old new e)
  unwritten (Ok finish) old new r r' b h = tt
  unwritten (Err e) old new r r' b h = broken old new r r' e b h

-- ---- the run of one word

listed_alone : (f : OutcomeWord → Text) (w : OutcomeWord) (last : Text) → f w ++ last ≡ flat_map f (w ∷ []) ++ last
listed_alone f w last = ap (λ (t : Text). t ++ last) (sym (append-nil (f w)))

pub writes_alone : (env : List (Text × Text)) (devices : Devices) (source : SourceShown) (bounds : BoundsShown) (printed : Text) (names : List Text) (old new : Sink) → task_found env devices source bounds ≡ Some (task_from env devices source bounds)
    → WritesAlone (task_from env devices source bounds) printed names old new → Rehearses (task_found env devices source bounds) (asking_for source.name bounds (Alone printed) names) old new Done
writes_alone env devices source bounds printed names old new set h =
    let task = task_from env devices source bounds in
    let w = h.is_run.word in
    let P : Text → Type 0 = λ t. Wrote old new t in
    record {
      task = task;
      task_is = set;
      words = w ∷ [];
      to_come = (w, h.is_run.spells, h.is_run.run, refl);
      so = (subst P (listed_alone (record_of task names) w (line (codes "done"))) h.wrote, refl);
    }

pub breaks_alone : (env : List (Text × Text)) (devices : Devices) (source : SourceShown) (bounds : BoundsShown) (printed : Text) (names : List Text) (old new : Sink) (e : RehearseError) → task_found env devices source bounds ≡ Some (task_from env devices source bounds)
    → BreaksAlone (task_from env devices source bounds) printed names old new e → Refuses (task_found env devices source bounds) (asking_for source.name bounds (Alone printed) names) old new e
breaks_alone env devices source bounds printed names old new (DeviceList fault) set h = absurd h
breaks_alone env devices source bounds printed names old new NoSuchVariable set h = absurd h
breaks_alone env devices source bounds printed names old new NotARun set h = (record { task = task_from env devices source bounds; task_is = set; no_run = h.0 }, h.1)
breaks_alone env devices source bounds printed names old new Write set h =
    let task = task_from env devices source bounds in
    let w = h.is_run.word in
    let P : Text → Type 0 = λ t. BrokeOff old new t in
    record {
      task = task;
      task_is = set;
      words = w ∷ [];
      to_come = (w, h.is_run.spells, h.is_run.run, refl);
      so = subst P (listed_alone (record_of task names) w (line (codes "done"))) h.broke;
    }
breaks_alone env devices source bounds printed names old new Memory set h = inl h
breaks_alone env devices source bounds printed names old new States set h = absurd h
breaks_alone env devices source bounds printed names old new (Steps count) set h = absurd h
breaks_alone env devices source bounds printed names old new (Bytes count) set h = absurd h
breaks_alone env devices source bounds printed names old new Failed set h = absurd h

-- ---- what is asked, with its wanted runs at hand

asked_as : (ask : Ask) (wanted : Wanted (Bor (List ℕ))) → ask.wanted ≡ wanted → asking_by ask.name.now wanted (map (λ n. n.now) ask.names.now) ≡ asking_of ask
asked_as ask wanted is = ap (λ (w : Wanted (Bor (List ℕ))). asking_by ask.name.now w (map (λ n. n.now) ask.names.now)) (sym is)

pub rehearses_with : (result : Result Finish RehearseError) (env : List (Text × Text)) (devices : Devices) (ask : Ask) (wanted : Wanted (Bor (List ℕ))) (old new : Sink) → ask.wanted ≡ wanted
    → IfOk result (λ finish. Rehearses (task_asked env devices (text_given ask) (asking_by ask.name.now wanted (map (λ n. n.now) ask.names.now))) (asking_by ask.name.now wanted (map (λ n. n.now) ask.names.now)) old new finish)
    → IfOk result (λ finish. Rehearses (task_asked env devices (text_given ask) (asking_of ask)) (asking_of ask) old new finish)
rehearses_with result env devices ask wanted old new is h =
    subst (λ (a : Asking). IfOk result (λ finish. Rehearses (task_asked env devices (text_given ask) a) a old new finish)) (asked_as ask wanted is) h

pub refused_with : (result : Result Finish RehearseError) (env : List (Text × Text)) (devices : Devices) (ask : Ask) (wanted : Wanted (Bor (List ℕ))) (old new : Sink) → ask.wanted ≡ wanted
    → IfErr result (λ e. Refuses (task_asked env devices (text_given ask) (asking_by ask.name.now wanted (map (λ n. n.now) ask.names.now))) (asking_by ask.name.now wanted (map (λ n. n.now) ask.names.now)) old new e)
    → IfErr result (λ e. Refuses (task_asked env devices (text_given ask) (asking_of ask)) (asking_of ask) old new e)
refused_with result env devices ask wanted old new is h =
    subst (λ (a : Asking). IfErr result (λ e. Refuses (task_asked env devices (text_given ask) a) a old new e)) (asked_as ask wanted is) h
