use Rattle.std.proofs.Common.{◌≡◌, drop}
use Rattle.std.specs.List.{list_any}
use Rattle.text.specs.TextsShown.{bytes_of_words}
use Rattle.rehearse_rules.specs.ByShell.{is_bootcmd}
use Rattle.rehearse_machine.proofs.by_shell.name_bootcmd.Given as goal

-- no name so far is one
abbrev pub invariant-loop-name : goal.invariant-loop-name
invariant-loop-name l = list_any is_bootcmd (bytes_of_words l.names) ≡ list_any is_bootcmd (bytes_of_words (drop l.name-index l.names))
