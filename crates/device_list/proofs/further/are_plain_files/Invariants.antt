use Rattle.std.proofs.Common.{◌≡◌, drop}
use Rattle.std.specs.List.{list_all}
use Rattle.commands.specs.TextsShown.{texts}
use Rattle.device_list.specs.CallLines.{is_plain_file}
use Rattle.device_list.proofs.further.are_plain_files.Given as goal

-- each so far can be
abbrev pub invariant-loop-name : goal.invariant-loop-name
invariant-loop-name l = list_all is_plain_file (texts l.names) ≡ list_all is_plain_file (texts (drop l.name-index l.names))
