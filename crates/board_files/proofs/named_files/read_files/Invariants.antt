use Rattle.std.proofs.Common.{◌≡◌, take}
use Rattle.board_files.proofs.FileLemmas.{AreSoFar}
use Rattle.commands.specs.TextsShown.{texts}
use Rattle.device_list.specs.CommandsShown.{files_shown}
use Rattle.tool_files.specs.Told.{IfTold}
use Rattle.board_files.proofs.named_files.read_files.Given as goal

-- the files of the names so far were read, and no call has failed
abbrev pub invariant-loop-name : goal.invariant-loop-name
invariant-loop-name g l =
    IfTold (g.F.Files.told l.fn.files) (g.F.Files.told l.files) (λ old now. AreSoFar l.folder (texts (take l.name-index l.names)) old now (files_shown l.texts.entries) l.room)
    × (g.F.Files.faults l.files ≡ g.F.Files.faults l.fn.files) × (g.F.Files.locked l.files ≡ g.F.Files.locked l.fn.files)
