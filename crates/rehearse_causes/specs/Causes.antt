-- What has to fail for each way to end: of the runs that end alike, those of which no other needs less. Ours.
use Rattle.std.specs.Prelude.{ℕ, nat_le, Bool, not, cond, ◌&&◌, ◌||◌, List, [], ◌∷◌, ◌++◌, filter, length, map}
use Rattle.std.specs.List.{list_all, list_any}
use Rattle.rehearse_terms.specs.Outcomes.{OutcomeWord}
use Rattle.rehearse_terms.specs.State.{Text, same_words}
use Rattle.rehearse_rules.specs.Execution.{Ending}
use Rattle.rehearse_rules.specs.Expected.{Answered}
use Rattle.rehearse_rules.specs.Runs.{Task, runs}
use Rattle.rehearse_states.specs.Endings.{ending, ending_eq}
use Rattle.rehearse_states.specs.EndingLines.{failing}

-- how a run ends, and the device commands whose answers are unexpected in it, in its order
pub record Cause : Type 0 where
  pub ending : Ending
  pub fails : List Answered

-- the words of these commands: which answer is unexpected, depends on the words alone
abbrev pub calls : Cause → List (List Text)
calls c = map (λ a. a.1) c.fails

-- how often a command is among others
abbrev pub times : (command : List Text) → List (List Text) → ℕ
times command commands = length (filter (same_words command) commands)

-- each of the first is among the others at least as often
abbrev pub are_among : (fewer more : List (List Text)) → Bool
are_among fewer more = list_all (λ command. nat_le (times command fewer) (times command more)) fewer

-- the same ending, and nothing is unexpected that is not unexpected in the other one too
abbrev pub covers : (one other : Cause) → Bool
covers one other = ending_eq one.ending other.ending && are_among (calls one) (calls other)

-- the same ending, and less fails
abbrev pub needs_less : (one other : Cause) → Bool
needs_less one other = covers one other && not (covers other one)

-- those of which no other needs less, in their order; of several that need the same, the first
abbrev pub least_behind : (before : List Cause) → List Cause → List Cause
least_behind before [] = []
least_behind before (c ∷ cs) =
    cond (list_any (λ d. covers d c) before || list_any (λ d. needs_less d c) cs)
    (least_behind (before ++ c ∷ []) cs) (c ∷ least_behind (before ++ c ∷ []) cs)

abbrev pub least : List Cause → List Cause
least cs = least_behind [] cs

-- how the run on a word ends, and what is unexpected in it
abbrev pub cause_on : Task → OutcomeWord → Cause
cause_on task w = record { ending = ending task w; fails = failing task w }

-- the causes among the runs of a task
abbrev pub causes : Task → List Cause
causes task = least (map (cause_on task) (runs task))
