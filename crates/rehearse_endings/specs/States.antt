-- The states in which device commands ask, and to which the runs of a task come. Ours.
use Rattle.std.specs.Prelude.{◌≡◌, ℕ, ◌+◌, ◌*◌, ◌<◌, nat_eq, List, [], ◌∷◌, ◌++◌, length, map, reverse, ◌⊎◌}
use Rattle.std.specs.List.{AllByRecursion}
use Rattle.bootstore_state.specs.Moment.{Moment, RunningFrame}
use Rattle.bootstore_state.specs.StoredState.{state_at}
use Rattle.rehearse_terms.specs.Bounds.{most_steps}
use Rattle.rehearse_terms.specs.Outcomes.{OutcomeWord, Outcome, Short}
use Rattle.rehearse_terms.specs.State.{Text}
use Rattle.rehearse_rules.specs.Execution.{Limits}
use Rattle.rehearse_rules.specs.Runs.{Task, kind}
use Rattle.rehearse_machine.specs.declared.rehearsal.Stop.TheVariants.{Asks}
use Rattle.rehearse_machine.specs.StoppedTexts.{StoppedAt}
use Rattle.rehearse_reads.specs.Keys.{Key, AgreeOn}
use Rattle.rehearse_machine.specs.Machine.{asked_at}
use Rattle.rehearse_frames.specs.Above.{above, without_lowest}
use Rattle.rehearse_frames.specs.KeysToCome.{AreEnoughAt}
use Rattle.rehearse_reports.specs.Known.{AllHold, keys_of}
use Rattle.rehearse_reuse.specs.SummedRuns.{FitsIf, SumsAt}
use Rattle.rehearse_states.specs.Drawing.{asks_in, nodes_shown}
use Rattle.rehearse_states.specs.RowsShown.{saturated, saturated_summary, summary_with}
use Rattle.rehearse_states.specs.Summaries.{Summary}
use Rattle.rehearse_endings.specs.OnTop.{HasOnTop}
use Rattle.rehearse_endings.specs.Searching.{NeverReturnsTo}
use Rattle.rehearse_endings.specs.declared.entry.Entry.{Entry}
use Rattle.rehearse_endings.specs.declared.table.Table.{Table}

-- a state in which a device command asks, and the outcomes that lead to it
abbrev pub Asked : Type 0
Asked = OutcomeWord × Moment

-- a run that starts with these outcomes goes on: the text reaches this state, in which a device command asks
abbrev pub IsMet : Task → Asked → Type 0
IsMet task s = (kind task s.0 ≡ Short) × StoppedAt task s.0 Asks s.1

-- a state that was searched, how many of its lowest frames do not count, keys that it was found to depend on, and what was found
-- to come after it
pub record Searched : Type 0 where
  pub asked : Asked
  pub below : ℕ
  pub keys : List Key
  pub to_come : Summary

-- the frames of it that count
abbrev pub frames_in : Searched → List RunningFrame
frames_in s = above s.below s.asked.1.frames

-- runs of the task reach the state, the keys are enough for what is to come, nothing comes back to frames that do not count, and
-- what is to come is what the summary says
pub record IsSearchedIn (names : List Text) (task : Task) (s : Searched) : Type 0 where
  pub met : IsMet task s.asked
  pub enough : AreEnoughAt task.limits names (without_lowest s.below s.asked.1) s.keys
  pub apart : NeverReturnsTo s.below (asked_at task.limits (without_lowest s.below s.asked.1))
  pub sums : SumsAt names task.limits s.asked.1 s.to_come

-- another state has the frames that count, and below them any others if some do not; it agrees on the keys of the one that was
-- searched, and leaves room for what is to come
pub record IsLike (limits : Limits) (s : Searched) (m : Moment) : Type 0 where
  pub frames : HasOnTop (nat_eq s.below 0) (frames_in s) m.frames
  pub agree : AgreeOn s.keys (state_at s.asked.1 []) (state_at m [])
  pub steps : FitsIf s.to_come.cut_steps s.asked.1.steps m.steps s.to_come.steps limits.step_bound
  pub devices : FitsIf s.to_come.cut_devices (length s.asked.1.log) (length m.log) s.to_come.devices limits.device_bound

-- on a run the outcomes p come first, and later w
abbrev pub ComesBefore : (p w : OutcomeWord) → Type 0
ComesBefore p w = (d : Outcome) × (rest : OutcomeWord) × (w ≡ p ++ d ∷ rest)

-- another state is not like one that was searched; or a run reaches the other one first, where fewer device commands were asked
abbrev pub IsUnlike : Limits → Searched → Asked → Type 0
IsUnlike limits s other = (IsLike limits s other.1 → ⊥) ⊎ ComesBefore other.0 s.asked.0

-- each is unlike those before it
abbrev pub NoTwoAlike : Limits → List Searched → Type 0
NoTwoAlike limits [] = Unit {0}
NoTwoAlike limits (s ∷ ss) = AllByRecursion (λ other. IsUnlike limits s other.asked) ss × NoTwoAlike limits ss

-- one run reaches all of these, to the first one last
abbrev pub AreOnOneRun : List Asked → Type 0
AreOnOneRun [] = Unit {0}
AreOnOneRun (t ∷ ts) = AllByRecursion (λ other. ComesBefore other.0 t.0) ts × AreOnOneRun ts

-- states that were searched, and states on one run whose search has begun: runs of the task reach all of them, and no two are
-- alike
pub record AreApart (names : List Text) (task : Task) (searched : List Searched) (begun : List Asked) : Type 0 where
  pub found : AllByRecursion (IsSearchedIn names task) searched
  pub met : AllByRecursion (IsMet task) begun
  pub unlike : NoTwoAlike task.limits searched
  pub anew : AllByRecursion (λ t. AllByRecursion (λ s. IsUnlike task.limits s t) searched) begun
  pub one_run : AreOnOneRun begun

-- this many states, no two alike, to which runs of the task come, each with what is to come after it
abbrev pub HasStates : (names : List Text) → Task → (count : ℕ) → Type 0
HasStates names task count = (searched : List Searched) × (length searched ≡ count) × AreApart names task searched []

-- this many, of which the last ones are on one run
abbrev pub ComesToStates : (names : List Text) → Task → (count : ℕ) → Type 0
ComesToStates names task count =
    (searched : List Searched) × (begun : List Asked) × (length searched + length begun ≡ count) × AreApart names task searched begun

-- this many, and at most two stretches of steps from each of them, and one from the start, may begin more steps than this
abbrev pub ComesToSteps : (names : List Text) → Task → (count steps : ℕ) → Type 0
ComesToSteps names task count steps = ComesToStates names task count × (steps < (2 * count + 1) * most_steps)

-- ---- while the search goes on

-- the entry of a state that was searched, apart from its rows
pub record IsKeptAs (s : Searched) (e : Entry) : Type 0 where
  pub frames : reverse e.frames.items ≡ frames_in s
  pub whole : e.whole ≡ nat_eq s.below 0
  pub known : AllHold s.asked.1 e.known.items
  pub keys : keys_of e.known.items ≡ s.keys
  pub steps : e.steps ≡ s.asked.1.steps
  pub devices : e.devices ≡ length s.asked.1.log
  pub shown : summary_with (map saturated s.to_come.rows) e.summary ≡ saturated_summary s.to_come

abbrev pub AreKeptAs : List Searched → List Entry → Type 0
AreKeptAs [] [] = Unit {0}
AreKeptAs (s ∷ ss) (e ∷ es) = IsKeptAs s e × AreKeptAs ss es
AreKeptAs _ _ = ⊥

-- the states that have entries, in the order of the entries, and the states that were entered but not searched to the end; a
-- node asks for each entry
pub record Entered (names : List Text) (task : Task) (searched : List Searched) (begun : List Asked) (table : Table) : Type 0 where
  pub kept_as : AreKeptAs searched table.entries.items
  pub many : length searched + length begun ≡ table.visited
  pub apart : AreApart names task searched begun
  pub asks : asks_in (nodes_shown table.flow.nodes) ≡ length searched

abbrev pub HasEntered : (names : List Text) → Task → (begun : List Asked) → Table → Type 0
HasEntered names task begun table = (searched : List Searched) × Entered names task searched begun table

-- the search has reached the outcomes p, by the states that it has begun
abbrev pub ComesBy : (p : OutcomeWord) → (begun : List Asked) → Type 0
ComesBy p begun = AllByRecursion (λ t. ComesBefore t.0 p) begun
