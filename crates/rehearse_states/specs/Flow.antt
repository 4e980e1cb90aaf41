-- The flow of a script: its runs as a graph, written line by line. Ours.
use Rattle.std.specs.Prelude.{◌≡◌, ℕ, zero, suc, List, [], ◌∷◌, ◌++◌, map, Option, Some, None, codes, decimal}
use Rattle.std.specs.List.{slice_get}
use Rattle.text.specs.Escapes.{word_form}
use Rattle.text.specs.Words.{joined_words}
use Rattle.rehearse_terms.specs.Outcomes.{OutcomeWord, Outcome, Success, Failure, WordKind, Run, Short, Long}
use Rattle.rehearse_terms.specs.State.{Text}
pub use Rattle.rehearse_rules.specs.Expected.{Answered, asked_in}
use Rattle.rehearse_rules.specs.Execution.{Answer, Normal, Exit, Ended, Dry, Ending, End, succeeds}
use Rattle.rehearse_rules.specs.Runs.{Task, run_on, state_of, kind_of}
use Rattle.rehearse_rules.specs.Listing.{line, last_line}

-- a device command asks with these words, and each outcome leads to a node; or the run ends
pub data Node : Type 0 where
  Asks : (words : List Text) → (success failure : ℕ) → Node
  Ends : Ending → Node

-- what is seen of a run: whether the word is a run, too short or too long; how the run ended, if it did; and its device
-- commands that took an outcome
pub record Seen : Type 0 where
  pub kind : WordKind
  pub ending : Option Ending
  pub log : List Answered

abbrev pub next : Outcome → (success failure : ℕ) → ℕ
next Success success failure = success
next Failure success failure = failure

-- a device command with its outcome, and what is seen after it
abbrev pub behind : Outcome → (words : List Text) → Seen → Seen
behind outcome words seen = record seen { log = (succeeds outcome, words) ∷ seen.log }

-- no outcome is left at a node
abbrev pub stands_at : Option Node → Seen
stands_at (Some (Asks words success failure)) = record { kind = Short; ending = None; log = [] }
stands_at (Some (Ends ending)) = record { kind = Run; ending = Some ending; log = [] }
stands_at None = record { kind = Short; ending = None; log = [] }

-- an outcome leads on from a node
abbrev pub goes_on : Option Node → Outcome → (ℕ → Seen) → Seen
goes_on (Some (Asks words success failure)) outcome there = behind outcome words (there (next outcome success failure))
goes_on (Some (Ends ending)) outcome there = record { kind = Long; ending = Some ending; log = [] }
goes_on None outcome there = record { kind = Short; ending = None; log = [] }

-- what is seen on the walk from a node by the outcomes of a word
abbrev pub walk : (ℕ → Option Node) → OutcomeWord → ℕ → Seen
walk node [] place = stands_at (node place)
walk node (outcome ∷ w) place = goes_on (node place) outcome (walk node w)

-- the nodes of a list are numbered from 1
abbrev pub numbered : List Node → ℕ → Option Node
numbered nodes zero = None
numbered nodes (suc n) = slice_get nodes n

-- what is seen of an answer
abbrev pub ended_with : Answer → Option Ending
ended_with (Normal s) = Some (End s.memory.status)
ended_with (Exit s) = Some (End s.memory.status)
ended_with (Ended ending s) = Some ending
ended_with (Dry s) = None

abbrev pub seen_of : Answer → Seen
seen_of answer = record {
  kind = kind_of answer;
  ending = ended_with answer;
  log = asked_in (state_of answer).log;
}

-- the walk from the first node by any word sees the result of the run
abbrev pub IsFlow : Task → List Node → Type 0
IsFlow task nodes = (w : OutcomeWord) → walk (numbered nodes) w 1 ≡ seen_of (run_on task w)

-- ---- its lines

abbrev pub node_text : Node → Text
node_text (Asks words success failure) =
    codes "ask " ++ joined_words (map word_form words) ++ codes " success " ++ decimal success
    ++ codes " failure " ++ decimal failure
node_text (Ends ending) = codes "ends " ++ last_line ending

-- a line for each node, the first of them with this number
abbrev pub flow_from : ℕ → List Node → Text
flow_from number [] = []
flow_from number (node ∷ nodes) =
    line (decimal number ++ codes " " ++ node_text node) ++ flow_from (suc number) nodes

abbrev pub flow_text : List Node → Text
flow_text nodes = flow_from 1 nodes
