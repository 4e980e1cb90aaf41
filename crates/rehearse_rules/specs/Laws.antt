-- The laws of rehearsals, over the definitions alone. Ours.
use Rattle.std.specs.Prelude.{ℕ, ◌+◌, ◌*◌, ◌^◌, true, false, filter, List, [], ◌∷◌, ◌++◌, length, map, flat_map, take, drop, Option, Some, None, ◌≡◌, ◌≢◌, ◌⊎◌, ◌↔◌, ◌≤◌, ◌<◌, codes}
use Rattle.rehearse_terms.specs.Outcomes.{OutcomeWord, Outcome, Success, Failure, Run, Short, failures, common_prefix, comes_before}
use Rattle.rehearse_terms.specs.State.{Text, LoggedCommand, State, asked_of}
use Rattle.builtins.specs.Builtins.{builtin_of}
use Rattle.device_list.specs.DeviceList.{Effect, asked_about, effect_of}
use Rattle.device_list.specs.Kinds.{Steady, EachCall, SaysNothing}
use Rattle.rehearse_rules.specs.Needs.{is_met}
use Rattle.rehearse_rules.specs.Choosing.{has_success, turned, first_run, first_from}
use Rattle.rehearse_rules.specs.Execution.{Ended, Dry, CutSteps, CutDevices, succeeds}
use Rattle.rehearse_rules.specs.Runs.{Task, run_on, state_of, steps, asked, kind, all_runs, runs, unexpected, is_allowed, IsListed, rest}
use Rattle.rehearse_rules.specs.Listing.{listing, line, spelled, record_of, words_listed, closing}
use Rattle.rehearse_rules.specs.Resuming.{whole, next_text, Point, resume_point_of, point_after}

-- ---- words

-- no run is in the list twice
abbrev pub NoRunTwice : Type 0
NoRunTwice = (task : Task) (w : OutcomeWord) (before between behind : List OutcomeWord) →
    runs task ≢ before ++ w ∷ between ++ w ∷ behind

-- no run is a prefix of another
abbrev pub NoRunBeginsAnother : Type 0
NoRunBeginsAnother = (task : Task) (u : OutcomeWord) (d : Outcome) (v : OutcomeWord) → kind task u ≡ Run →
    kind task (u ++ d ∷ v) ≢ Run

-- no run is longer than the device bound
abbrev pub NoRunIsLonger : Type 0
NoRunIsLonger = (task : Task) (u : OutcomeWord) → kind task u ≡ Run → length u ≤ task.limits.device_bound

-- there is a run
abbrev pub RunsAreThere : Type 0
RunsAreThere = (task : Task) → runs task ≢ []

-- a run is followed by another exactly if one of its successes may be a failure
abbrev pub AnotherFollows : Type 0
AnotherFollows =
    (task : Task) (u : OutcomeWord) → IsListed task u → (rest task u ≢ []) ↔ (has_success (is_allowed task) u ≡ true)

-- two runs differ first at an outcome that a device command asks for
abbrev pub RunsPartWhereAsked : Type 0
RunsPartWhereAsked = (task : Task) (u v : OutcomeWord) → kind task u ≡ Run → kind task v ≡ Run → u ≢ v →
    kind task (common_prefix u v) ≡ Short

-- the outcomes in the log of a run are its word, without the commands that were given an answer again
abbrev pub LogIsWord : Type 0
LogIsWord = (task : Task) (w : OutcomeWord) → kind task w ≡ Run →
    map (λ e. e.success) (asked_of (state_of (run_on task w)).log) ≡ map succeeds w

-- Over a device list that says of no answer that it stays or is always the same, and of no call that it is needed, and with
-- room for all that is saved, each command takes an outcome, so the outcomes in the whole log are its word.
abbrev pub WholeLogIsWord : Type 0
WholeLogIsWord = (task : Task) (w : OutcomeWord) → task.limits.room ≡ None → SaysNothing Steady task.limits.devices →
    EachCall (λ effect. (effect.always ≡ None) × (effect.needs ≡ [])) task.limits.devices → kind task w ≡ Run →
    map (λ e. e.success) (state_of (run_on task w)).log ≡ map succeeds w

-- Of two commands in the log of a run whose answers stay, with the same words, the later one has the answer of the earlier
-- one. It was given it again, so it has no outcome of the word.
abbrev pub AnswersStay : Type 0
AnswersStay = (task : Task) (w : OutcomeWord) (front between behind : List LoggedCommand) (one other : LoggedCommand) →
    (state_of (run_on task w)).log ≡ front ++ one ∷ between ++ other ∷ behind → one.stays ≡ true → other.stays ≡ true →
    one.words ≡ other.words → (other.success ≡ one.success) × (other.again ≡ true)

-- A call that succeeds in the log of a run, and of which the list says that it needs another one, has a success of that one
-- before it in the log.
abbrev pub NeedsAreMet : Type 0
NeedsAreMet = (task : Task) (w : OutcomeWord) (front behind : List LoggedCommand) (one : LoggedCommand) (name : Text)
    (words : List Text) (effect : Effect) → (state_of (run_on task w)).log ≡ front ++ one ∷ behind → one.words ≡ name ∷ words →
    builtin_of name ≡ None → effect_of task.limits.devices name words ≡ Some effect → one.success ≡ true →
    is_met effect.needs front ≡ true

-- ---- bounds

-- no more steps are begun than the bound allows
abbrev pub StepsAreBounded : Type 0
StepsAreBounded = (task : Task) (w : OutcomeWord) → steps task w ≤ task.limits.step_bound

-- no more device commands are in the log than the bound allows, those that were given an answer again among them
abbrev pub DevicesAreBounded : Type 0
DevicesAreBounded =
    (task : Task) (w : OutcomeWord) → length (state_of (run_on task w)).log ≤ task.limits.device_bound

-- a run is cut for its steps only if the bound is reached
abbrev pub CutAtStepBound : Type 0
CutAtStepBound = (task : Task) (w : OutcomeWord) (s : State) → run_on task w ≡ Ended CutSteps s →
    s.steps ≡ task.limits.step_bound

-- and for its device commands only if that bound is reached
abbrev pub CutAtDeviceBound : Type 0
CutAtDeviceBound = (task : Task) (w : OutcomeWord) (s : State) → run_on task w ≡ Ended CutDevices s →
    length s.log ≡ task.limits.device_bound

-- a word is too short only if a device command is asked below the bound and all its outcomes are taken
abbrev pub AskedBelowBound : Type 0
AskedBelowBound = (task : Task) (w : OutcomeWord) (s : State) → run_on task w ≡ Dry s →
    (length s.log < task.limits.device_bound) × (s.word ≡ [])

-- ---- work

-- no more steps are begun up to a device command that asks than with a word that continues there
abbrev pub AskedInFront : Type 0
AskedInFront = (task : Task) (p x : OutcomeWord) → asked task p ≤ steps task (p ++ x)

-- so the steps that two words share are steps of the second, and work subtracts no more than there is
abbrev pub SharedIsWithin : Type 0
SharedIsWithin = (task : Task) (u v : OutcomeWord) → asked task (common_prefix u v) ≤ steps task v

-- ---- what follows a run

-- the runs are in dictionary order
abbrev pub RunsAreOrdered : Type 0
RunsAreOrdered = (task : Task) (u v : OutcomeWord) (before between behind : List OutcomeWord) →
    runs task ≡ before ++ u ∷ between ++ v ∷ behind → comes_before u v ≡ true

-- the first run has the first answer that is allowed at each device command
abbrev pub RunsBegin : Type 0
RunsBegin = (task : Task) → let w = first_run (is_allowed task) (kind task) task.limits.device_bound in
    runs task ≡ w ∷ rest task w

-- after u comes the first run that starts with u cut after its last success that may be a failure, which became one
abbrev pub RunsFollow : Type 0
RunsFollow = (task : Task) (u p : OutcomeWord) → IsListed task u → turned (is_allowed task) u ≡ Some p → let w =
    first_from (is_allowed task) (kind task) task.limits.device_bound p in rest task u ≡ w ∷ rest task w

-- each word in the list of runs is a run, of which no more answers are unexpected than may be
abbrev pub RunsAreRuns : Type 0
RunsAreRuns =
    (task : Task) (w : OutcomeWord) (front behind : List OutcomeWord) → runs task ≡ front ++ w ∷ behind
    → IsListed task w

-- each such run is in the list, before what follows it
abbrev pub RunsStand : Type 0
RunsStand =
    (task : Task) (u : OutcomeWord) → IsListed task u
    → (front : List OutcomeWord) × (runs task ≡ front ++ u ∷ rest task u)

-- ---- few unexpected answers

-- after p, this outcome is expected, and the other one counts
abbrev pub IsExpected : Task → (p : OutcomeWord) → (expected other : Outcome) → Type 0
IsExpected task p expected other = (unexpected task (p ++ expected ∷ []) ≡ unexpected task p)
    × (unexpected task (p ++ other ∷ []) ≡ unexpected task p + 1)

-- after p, neither outcome counts
abbrev pub NeitherCounts : Task → (p : OutcomeWord) → Type 0
NeitherCounts task p = (d : Outcome) → unexpected task (p ++ d ∷ []) ≡ unexpected task p

-- At a device command that asks, one of the two outcomes is expected, and the other one counts; or neither counts, which is so
-- only if the list asks which file runs.
abbrev pub OneIsExpected : Type 0
OneIsExpected = (task : Task) (p : OutcomeWord) → kind task p ≡ Short →
    IsExpected task p Success Failure ⊎ (IsExpected task p Failure Success
    ⊎ (NeitherCounts task p × (0 < length (asked_about task.limits.devices))))

-- Over a device list that says of no failure that it is expected, and that does not ask which file runs, the failures of a run
-- count.
abbrev pub FailuresCount : Type 0
FailuresCount = (task : Task) (w : OutcomeWord) → EachCall (λ effect. effect.normal ≡ false) task.limits.devices →
    task.limits.devices.choices ≡ [] → kind task w ≡ Run → unexpected task w ≡ failures w

-- the task in which so many answers may be unexpected
abbrev pub failing : Task → ℕ → Task
failing task most = record task { failures = Some most }

-- if as many may be as a run may ask, the runs are all runs
abbrev pub AllMayFail : Type 0
AllMayFail = (task : Task) → runs (failing task task.limits.device_bound) ≡ all_runs task

-- the runs with at most so many are those, of the runs with at most one more, with at most so many
abbrev pub FewerAmongMore : Type 0
FewerAmongMore = (task : Task) (most : ℕ) →
    runs (failing task most) ≡ filter (is_allowed (failing task most)) (runs (failing task (most + 1)))

-- so each of them is one of these
abbrev pub FewerAreMore : Type 0
FewerAreMore = (task : Task) (most : ℕ) (w : OutcomeWord) → IsListed (failing task most) w →
    IsListed (failing task (most + 1)) w

-- there are at most as many as the words are that say at which device commands the unexpected answers are: one more than
-- a run may ask, so often multiplied; and twice as many for each file of which it is asked whether it runs
abbrev pub FewRuns : Type 0
FewRuns = (task : Task) (most : ℕ) →
    length (runs (failing task most)) ≤ 2 ^ length (asked_about task.limits.devices) * (task.limits.device_bound + 1) ^ most

-- if none may be, and no file is asked about, the first run is the only one
abbrev pub NoneMayFail : Type 0
NoneMayFail = (task : Task) → task.limits.devices.choices ≡ [] →
    runs (failing task 0) ≡ first_run (is_allowed (failing task 0)) (kind task) task.limits.device_bound ∷ []

-- ---- pages

-- a listing with a limit ends with `more` exactly if words are left out
abbrev pub MoreIsLeft : Type 0
MoreIsLeft = (task : Task) (names : List Text) (ws : List OutcomeWord) (limit : ℕ) →
    ((page : Text) × (w : OutcomeWord)
    × (listing (record_of task names) ws (Some limit) ≡ page ++ line (codes "more " ++ spelled w))) ↔
    (limit < length ws)

-- a listing of all runs that ends with `more`, without that line, and the listing of the runs after its word are
-- together the whole listing
abbrev pub PagesOfRuns : Type 0
PagesOfRuns = (task : Task) (names : List Text) (limit : ℕ) (page : Text) (w : OutcomeWord) → let written =
    record_of task names in 0 < limit →
    listing written (runs task) (Some limit) ≡ page ++ line (codes "more " ++ spelled w) →
    page ++ listing written (rest task w) None ≡ listing written (runs task) None

-- and so it is for a listing of the runs after u
abbrev pub PagesOfRest : Type 0
PagesOfRest =
    (task : Task) (names : List Text) (u : OutcomeWord) (limit : ℕ) (page : Text) (w : OutcomeWord) → let written =
    record_of task names in 0 < limit →
    listing written (rest task u) (Some limit) ≡ page ++ line (codes "more " ++ spelled w) →
    page ++ listing written (rest task w) None ≡ listing written (rest task u) None

-- ---- a listing that broke off: p is what was written, and q what is missing

-- `whole` is the greatest number of first records with which p starts
abbrev pub WholeIsGreatest : Type 0
WholeIsGreatest = (records : List Text) (p : Text) (k : ℕ) → k ≤ length records →
    ((part : Text) × (p ≡ flat_map (λ r. r) (take k records) ++ part)) ↔ (k ≤ whole records p)

-- p is its whole records and a part of what comes next; if that is a record, the part is less than all of it
abbrev pub WholeRecords : Type 0
WholeRecords = (task : Task) (names : List Text) (ws : List OutcomeWord) (limit : Option ℕ) (p q : Text) → let written =
    record_of task names in let us = words_listed ws limit in let k = whole (map written us) p in
    listing written ws limit ≡ p ++ q → (part : Text) × (missing : Text) × (p ≡ flat_map written (take k us) ++ part)
    × (next_text written (drop k us) (line (closing ws limit)) ≡ part ++ missing) × (drop k us ≢ [] → missing ≢ [])

-- the whole records of p, and the listing of the words after them, are together the listing
abbrev pub Resuming : Type 0
Resuming =
    (task : Task) (names : List Text) (ws : List OutcomeWord) (p q : Text) → let written = record_of task names in
    let k = whole (map written ws) p in listing written ws None ≡ p ++ q →
    flat_map written (take k ws) ++ listing written (drop k ws) None ≡ listing written ws None

-- for every prefix p of a listing, the point to resume at is after its whole records; if no record is whole, there is
-- no point
abbrev pub ResumePoint : Type 0
ResumePoint = (task : Task) (names : List Text) (ws : List OutcomeWord) (limit : Option ℕ) (p q : Text) → let written =
    record_of task names in let us = words_listed ws limit in listing written ws limit ≡ p ++ q →
    resume_point_of p ≡ point_after written (take (whole (map written us) p) us)

-- what is before the point, and the listing of the runs after its word, are together the listing of all runs
abbrev pub ResumedAtPoint : Type 0
ResumedAtPoint = (task : Task) (names : List Text) (p q : Text) (point : Point) (w : OutcomeWord) → let written =
    record_of task names in listing written (runs task) None ≡ p ++ q → resume_point_of p ≡ Some point →
    point.word ≡ spelled w →
    take point.length_before p ++ listing written (rest task w) None ≡ listing written (runs task) None

-- and so it is for a listing of the runs after u
abbrev pub ResumedRest : Type 0
ResumedRest =
    (task : Task) (names : List Text) (u : OutcomeWord) (p q : Text) (point : Point) (w : OutcomeWord) → let written =
    record_of task names in listing written (rest task u) None ≡ p ++ q → resume_point_of p ≡ Some point →
    point.word ≡ spelled w →
    take point.length_before p ++ listing written (rest task w) None ≡ listing written (rest task u) None
