-- What the words of the device command read that asks at a moment. Ours.
use Rattle.std.specs.Prelude.{List, [], ◌∷◌, Option, Some, None}
use Rattle.hushlang.specs.Tree as tree
use Rattle.bootstore_state.specs.Moment.{Moment, RunningFrame}
use Rattle.rehearse_terms.specs.State.{Memory}
use Rattle.rehearse_machine.specs.AskingCommand.{words_in_front}
use Rattle.rehearse_reads.specs.Keys.{Key}
use Rattle.rehearse_reads.specs.Accesses.{words_reads}
use Rattle.rehearse_reports.specs.Reports.{memory_at}

abbrev pub call_reads : Memory → Option (List tree.Word) → List Key
call_reads m None = []
call_reads m (Some words) = words_reads m words

abbrev pub asked_by : Memory → List RunningFrame → List Key
asked_by m [] = []
asked_by m (f ∷ fs) = call_reads m (words_in_front f)

abbrev pub asked_reads : Moment → List Key
asked_reads m = asked_by (memory_at m) m.frames
