use Rattle.std.proofs.Common.{◌≡◌, ◌++◌}
use Rattle.std.specs.List.{flat_map}
use Rattle.commands.specs.TextsShown.{texts}
use Rattle.text.specs.Lines.{lines_left}
use Rattle.device_list.specs.NamedFiles.{files_of, named_files}
use Rattle.device_list.proofs.file_names.named_files.Given as goal

-- the files so far, and then those of the lines left
abbrev pub invariant-loop-line : goal.invariant-loop-line
invariant-loop-line l = texts l.names.items ++ flat_map (λ l. files_of l.1) (lines_left l.line-iterator) ≡ named_files l.text
