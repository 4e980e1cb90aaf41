-- The runs after a word, and the kinds of texts.
use Rattle.std.proofs.Common.{◌≡◌, ℕ, ◌+◌, ◌≤◌, true, false, Option, List, [], ◌∷◌, length, map, refl, sym, ap, subst, ◌∙◌, length-append, zero-add, Some, arith}
use Rattle.bootstore_state.specs.Record.{Record, fresh}
use Rattle.rehearse_terms.specs.Bounds.{most_run_devices}
use Rattle.rehearse_terms.specs.Outcomes.{OutcomeWord, Success, Failure, Run, Short}
use Rattle.rehearse_terms.specs.State.{Text, State}
use Rattle.device_list.specs.DeviceList.{Devices}
use Rattle.rehearse_rules.specs.Expected.{asked_in, unexpected_of}
use Rattle.rehearse_rules.specs.Runs.{Task, kind, is_at_most, is_allowed, IsListed, rest, steps}
use Rattle.rehearse_rules.specs.Listing.{outcome_digit}
use Rattle.rehearse_runs.specs.RunsShown.{outcomes}
use Rattle.rehearse_runs.specs.Phases.{AreDigits, StandsOn, HasBegun, shown_at}
use Rattle.rehearse_runs.proofs.WorkLemmas.{begun_behind, none_in_front}
use Rattle.rehearse_runs.specs.Walking.{IsShortBehind, IsLongBehind, ReachedFirst, WalksTo}
use Rattle.rehearse_runs.specs.Behind.{GoesOnBehind, IsNoRun, IsNotListed, HasKind, runs_behind}
use Rattle.rehearse_rules.specs.declared.halt.Halt.{Halt}
use Rattle.rehearse_runs.specs.declared.runs.Phase.TheVariants.{At}
use Rattle.rehearse_runs.specs.declared.walking.Walked.{Walked}
use Rattle.rehearse_runs.specs.declared.walking.Walked.TheVariants as walked
use Rattle.rehearse_runs.proofs.AdvanceLemmas.{AreBounds, are_within, few_runs}
use Rattle.rehearse_rules.proofs.TaskChoices.{task_stands}

read_word : (w : OutcomeWord) → outcomes (map outcome_digit w) ≡ w
read_word [] = refl
read_word (Success ∷ w) = ap (λ (v : OutcomeWord). Success ∷ v) (read_word w)
read_word (Failure ∷ w) = ap (λ (v : OutcomeWord). Failure ∷ v) (read_word w)

same_word : (text : Text) (v w : OutcomeWord) → text ≡ map outcome_digit v → text ≡ map outcome_digit w → v ≡ w
same_word text v w e f = sym (read_word v) ∙ ap outcomes (sym e ∙ f) ∙ read_word w

-- ---- what the walk says of a text

pub kind_short : (task : Task) (text : Text) → IsShortBehind task [] text → HasKind task text Short
kind_short task text h = record { digits = λ w e. ap (kind task) (same_word text w h.0 e h.1) ∙ h.2; others = λ n. (h.0, h.1) }

pub kind_run : (task : Task) (text all : Text) (halt : Halt) (old new : Record) → WalksTo task text all (outcomes all) (walked.Ends halt) old new → HasKind task text Run
kind_run task text all halt old new h = record { digits = λ w e. ap (kind task) (same_word text w (outcomes all) e h.0) ∙ h.2.run; others = λ n. (outcomes all, h.0) }

pub short_no_run : (task : Task) (text : Text) → IsShortBehind task [] text → IsNoRun task text
short_no_run task text h w e r = let k = (kind_short task text h).digits w e in cc

-- nor is a text the digits of a listed run if it is those of no run
pub run_not_listed : (task : Task) (text : Text) → IsNoRun task text → IsNotListed task text
run_not_listed task text h w e is = h w e is.run

pub long_no_run : (task : Task) (text : Text) → IsLongBehind task [] text → IsNoRun task text
long_no_run task text h w e r = let k = h w e in cc

pub not_run : (task : Task) (text all : Text) (w : OutcomeWord) (found : Walked) (old new : Record) → ((halt : Halt) → found ≡ walked.Ends halt → ⊥) → WalksTo task text all w found old new → IsNoRun task text
not_run task text all w (walked.Ends halt) old new none h = absurd (none halt refl)
not_run task text all w walked.Short old new none h = short_no_run task text h
not_run task text all w walked.Long old new none h = long_no_run task text h

-- what it says of the place where it ends
pub walked_at : (task : Task) (text all : Text) (w : OutcomeWord) (reached : Walked) (at : Walked) (old new : Record) → reached ≡ at → WalksTo task text all w reached old new → WalksTo task text all w at old new
walked_at task text all w reached at old new e h = subst (λ (x : Walked). WalksTo task text all w x old new) e h

-- ---- the runs after it

rest_less : (task : Task) (w : OutcomeWord) → IsListed task w → AreBounds task → length (rest task w) ≤ 274877906942
rest_less task w r b =
    let s = task_stands task w r in
    let l = ap length s.1 ∙ length-append s.0 (w ∷ rest task w) in
    let f = few_runs task b in
    omega arith

-- whether the run that the walk reaches is allowed
pub allowed_at : (task : Task) (text all : Text) (halt : Halt) (old new : Record) (devices : Devices) (most : Option ℕ) (count : ℕ) → devices ≡ task.limits.devices → most ≡ task.failures → count ≡ length (unexpected_of devices (asked_in new.present.log))
    → WalksTo task text all (outcomes all) (walked.Ends halt) old new → is_at_most most count ≡ is_allowed task (outcomes all)
allowed_at task text all halt old new devices most count d m n h =
    (λ i. is_at_most (m i) (n i))
    ∙ ap (λ (x : Devices). is_at_most task.failures (length (unexpected_of x (asked_in new.present.log)))) d
    ∙ ap (λ (t : State). is_at_most task.failures (length (unexpected_of task.limits.devices (asked_in t.log)))) h.2.moment

-- a run with too many unexpected answers is not listed
pub too_many : (task : Task) (text all : Text) (halt : Halt) (old new : Record) → false ≡ is_allowed task (outcomes all) → WalksTo task text all (outcomes all) (walked.Ends halt) old new → IsNotListed task text
too_many task text all halt old new few h w e is =
    let same : outcomes all ≡ w = same_word text (outcomes all) w h.0 e in
    let f : false ≡ true = few ∙ ap (is_allowed task) same ∙ is.few in
    cc

-- one that is allowed is listed
listed_at : (task : Task) (text all : Text) (halt : Halt) (old new : Record) → true ≡ is_allowed task (outcomes all) → WalksTo task text all (outcomes all) (walked.Ends halt) old new → IsListed task (outcomes all)
listed_at task text all halt old new few h = record { run = h.2.run; few = sym few }

pub stands_behind : (task : Task) (text all : Text) (halt : Halt) (old new : Record) → old ≡ fresh → AreBounds task → true ≡ is_allowed task (outcomes all) → WalksTo task text all (outcomes all) (walked.Ends halt) old new
    → AreDigits all × IsListed task (outcomes all) × ((true ≡ true) × StandsOn task (outcomes all) halt new) × HasBegun task (Some (outcomes all)) (Some (outcomes all)) (rest task (outcomes all)) new.begun × (task.limits.device_bound ≤ most_run_devices)
stands_behind task text all halt old new e b few h =
    let f = h.2 in
    let is = listed_at task text all halt old new few h in
    let n = f.begun in
    let z : old.begun ≡ 0 = ap (λ (x : Record). x.begun) e in
    let k = f.within in
    let l = rest_less task (outcomes all) is b in
    (sym h.0 ∙ sym h.1, is, (refl, record { moment = f.moment; ending = f.ending; marks = f.marks; budget = omega arith }), begun_behind task (outcomes all) new.begun (n ∙ ap (λ (k : ℕ). k + new.present.steps) z ∙ zero-add new.present.steps ∙ ap (λ (s : State). s.steps) f.moment), are_within task b)

-- the same, if the start word is kept as a copy of its digits
pub stands_from : (task : Task) (text all copy : Text) (halt : Halt) (old new : Record) → copy ≡ all → old ≡ fresh → AreBounds task → true ≡ is_allowed task (outcomes all) → WalksTo task text all (outcomes all) (walked.Ends halt) old new
    → AreDigits all × IsListed task (outcomes all) × ((true ≡ true) × StandsOn task (outcomes all) halt new) × HasBegun task (Some (outcomes copy)) (Some (outcomes all)) (rest task (outcomes all)) new.begun × (task.limits.device_bound ≤ most_run_devices)
stands_from task text all copy halt old new c e b few h =
    let s = stands_behind task text all halt old new e b few h in
    (s.0, s.1, s.2, subst (λ (t : Text). HasBegun task (Some (outcomes t)) (Some (outcomes all)) (rest task (outcomes all)) new.begun) (sym c) s.3, s.4)

steps_begun : (task : Task) (w : OutcomeWord) (old new : Record) (halt : Halt) → old ≡ fresh → ReachedFirst task w halt old new → new.begun ≡ steps task w
steps_begun task w old new halt e f =
    let z : old.begun ≡ 0 = ap (λ (x : Record). x.begun) e in
    f.begun ∙ ap (λ (k : ℕ). k + new.present.steps) z ∙ zero-add new.present.steps ∙ ap (λ (s : State). s.steps) f.moment

pub goes_on_from : (task : Task) (text all copy : Text) (halt : Halt) (old new : Record) → copy ≡ all → old ≡ fresh → true ≡ is_allowed task (outcomes all) → WalksTo task text all (outcomes all) (walked.Ends halt) old new
    → GoesOnBehind task text (shown_at task (Some (outcomes copy)) true (outcomes all) new.begun (At halt))
goes_on_from task text all copy halt old new c e few h =
    let w = outcomes all in
    let same : shown_at task (Some (outcomes copy)) true w new.begun (At halt) ≡ runs_behind task w =
    ap (λ (t : Text). shown_at task (Some (outcomes t)) true w new.begun (At halt)) c
    ∙ ap (λ (n : ℕ). shown_at task (Some w) true w n (At halt)) (steps_begun task w old new halt e h.2)
    ∙ ap (λ (ws : List OutcomeWord). record (runs_behind task w) { answers = ws }) (none_in_front (rest task w)) in
    record { word = w; digits = h.0; run = listed_at task text all halt old new few h; behind = same }
