-- What the next move of a frame reads and writes, by what it begins. Ours.
use Rattle.std.specs.Prelude.{◌≡◌, ℕ, List, [], ◌∷◌, ◌++◌}
use Rattle.hushlang.specs.TreesShown as view
use Rattle.bootstore_state.specs.Moment.{RunningFrame}
use Rattle.bootstore_state.specs.declared.frame.FrameKind.{FrameKind}
use Rattle.bootstore_state.specs.declared.frame.FrameKind.TheVariants as kinds
use Rattle.rehearse_terms.specs.State.{State}
use Rattle.rehearse_rules.specs.Execution.{Limits}
use Rattle.rehearse_machine.specs.Frames.{Frame}
use Rattle.rehearse_machine.specs.Places.{frames_by}
use Rattle.rehearse_reads.specs.Keys.{Access, Reads, Writes, Environment, Local, Status, Covers}
use Rattle.rehearse_frames.specs.MoveAccesses.{of_command, of_move}
use Rattle.rehearse_reports.specs.declared.begins.Begins.{Begins}
use Rattle.rehearse_reports.specs.declared.begins.Begins.TheVariants.{Nothing, Command, Turn, Text}

-- beside the status
abbrev pub of_begins : Limits → Begins → State → List Access
of_begins limits Nothing s = []
of_begins limits (Command command) s = of_command limits (view.command command.now) [] s
of_begins limits (Turn name) s = Writes (Local name.now) ∷ []
of_begins limits (Text name) s = Reads (Environment name.now) ∷ []

-- the status, and what is begun, may be reported in the place of what the frame f of this kind does next, over any others
abbrev pub BeginsBy : FrameKind → Begins → RunningFrame → (status : ℕ) → Type 0
BeginsBy kind begins f status = (limits : Limits) (fs : List Frame) (s : State) → s.memory.status ≡ status →
    Covers (Reads Status ∷ of_begins limits begins s) (of_move limits (frames_by kind f ++ fs) s)

abbrev pub BeginsWith : Begins → RunningFrame → (status : ℕ) → Type 0
BeginsWith begins f status = BeginsBy f.kind begins f status

-- the text of the next name of a `run`, whatever the status
abbrev pub NamesText : Begins → RunningFrame → Type 0
NamesText begins f = (status : ℕ) → BeginsBy kinds.Run begins f status
