-- What is written of the endings of an environment's variable or of a given text, and why it is refused. Ours.
use Rattle.std.specs.Prelude.{◌≡◌, ℕ, ◌+◌, ◌≤◌, Bool, true, false, List, length, map, Option, Some, None}
use Rattle.output.specs.Sink.{Sink, Wrote, BrokeOff}
use Rattle.text.specs.TextsShown.{option_bytes}
use Rattle.rehearse_terms.specs.State.{Text}
use Rattle.rehearse_rules.specs.Runs.{Task, unheard, all_runs}
use Rattle.rehearse_machine.specs.Tasks.{SourceShown}
use Rattle.rehearse_states.specs.Endings.{endings}
use Rattle.rehearse_states.specs.Drawing.{asks_in}
use Rattle.rehearse_states.specs.Flow.{Node, IsFlow, flow_text}
use Rattle.rehearse_states.specs.EndingLines.{endings_text, failing}
use Rattle.rehearse_endings.specs.Held.{ComesToBytes, HoldsStates}
use Rattle.rehearse_endings.specs.States.{ComesToStates, ComesToSteps}
use Rattle.rehearse_endings.specs.declared.telling.EndingsAsk.{EndingsAsk}
use Rattle.rehearse_rules.specs.declared.rehearse_error.RehearseError.{RehearseError}
use Rattle.rehearse_rules.specs.declared.rehearse_error.RehearseError.TheVariants.{NoSuchVariable, States, Steps, Bytes, Write, Memory}

-- the variables whose values are asked for
abbrev pub names_of : EndingsAsk → List Text
names_of ask = map (λ n. n.now) ask.names.now

-- what is rehearsed
abbrev pub source_of : EndingsAsk → SourceShown
source_of ask = record { name = ask.name.now; given = option_bytes ask.text }

-- a flow of the task has a node that asks for each of so many states
abbrev pub IsFlowOf : Task → (states : ℕ) → List Node → Type 0
IsFlowOf task states nodes = IsFlow task nodes × (asks_in nodes ≡ states)

-- the flow of the task, or how its runs end, and the values of these variables there; its runs reach this many states
abbrev pub Tells : (names : List Text) → (flow : Bool) → Task → (states : ℕ) → Text → Type 0
Tells names true task states text = (nodes : List Node) × IsFlowOf task states nodes × (text ≡ flow_text nodes)
Tells names false task states text = (nodes : List Node) × IsFlowOf task states nodes
    × (text ≡ endings_text names (failing task) (endings names task) (length (all_runs task)) states)

-- A search drops the text that a run writes, which no run reads (`UnheardRunsGoAlike`). So the states below are those of
-- `unheard task`, to which the same runs come, each without its text.

-- the lines of the task; its runs reach this many states, no two alike, to no more than allowed, and these count no more
-- bytes than allowed
abbrev pub AreLines : (names : List Text) → (flow : Bool) → (most bytes : ℕ) → Option Task → Text → Type 0
AreLines names flow most bytes found text = (task : Task) × (states : ℕ) × (found ≡ Some task) × (states ≤ most)
    × HoldsStates names (unheard task) states bytes × Tells names flow task states text

-- the runs of the task reach more states than allowed, no two of them alike
abbrev pub HasMoreStates : (names : List Text) → (most : ℕ) → Option Task → Type 0
HasMoreStates names most found = (task : Task) × (found ≡ Some task) × ComesToStates names (unheard task) (most + 1)

-- the runs of the task reach this many states, no two of them alike, whose stretches may begin more steps than allowed
abbrev pub HasMoreSteps : (names : List Text) → (count work : ℕ) → Option Task → Type 0
HasMoreSteps names count work found = (task : Task) × (found ≡ Some task) × ComesToSteps names (unheard task) count work

-- the runs of the task reach this many states, no two of them alike, and those that were searched count more bytes than allowed
abbrev pub HasMoreBytes : (names : List Text) → (count bytes : ℕ) → Option Task → Type 0
HasMoreBytes names count bytes found = (task : Task) × (found ≡ Some task) × ComesToBytes names (unheard task) count bytes

-- why there are no lines
abbrev pub IsUntold : (names : List Text) → (most work bytes : ℕ) → Option Task → RehearseError → Type 0
IsUntold names most work bytes found NoSuchVariable = found ≡ None
IsUntold names most work bytes found States = HasMoreStates names most found
IsUntold names most work bytes found (Steps count) = HasMoreSteps names count work found
IsUntold names most work bytes found (Bytes count) = HasMoreBytes names count bytes found
IsUntold names most work bytes found Memory = Unit {0}
IsUntold names most work bytes found _ = ⊥

-- the lines were written
abbrev pub TellsEndings : (found : Option Task) → EndingsAsk → (old new : Sink) → Type 0
TellsEndings found ask old new =
    (text : Text) × AreLines (names_of ask) ask.flow ask.states ask.memory found text × Wrote old new text

-- the output failed inside the lines
abbrev pub BreaksOff : (found : Option Task) → EndingsAsk → (old new : Sink) → Type 0
BreaksOff found ask old new =
    (text : Text) × AreLines (names_of ask) ask.flow ask.states ask.memory found text × BrokeOff old new text

abbrev pub RefusesEndings : (found : Option Task) → EndingsAsk → (old new : Sink) → RehearseError → Type 0
RefusesEndings found ask old new NoSuchVariable = (found ≡ None) × (new ≡ old)
RefusesEndings found ask old new States = HasMoreStates (names_of ask) ask.states found × (new ≡ old)
RefusesEndings found ask old new (Steps count) = HasMoreSteps (names_of ask) count ask.work found × (new ≡ old)
RefusesEndings found ask old new (Bytes count) = HasMoreBytes (names_of ask) count ask.memory found × (new ≡ old)
RefusesEndings found ask old new Write = BreaksOff found ask old new
RefusesEndings found ask old new Memory = new ≡ old
RefusesEndings found ask old new _ = ⊥
