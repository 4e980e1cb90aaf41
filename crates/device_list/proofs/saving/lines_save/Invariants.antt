use Rattle.std.proofs.Common.{◌≡◌, drop, map}
use Rattle.std.specs.List.{list_any}
use Rattle.device_list.specs.Saving.{are_saving}
use Rattle.device_list.specs.CommandsShown.{line_shown}
use Rattle.device_list.proofs.saving.lines_save.Given as goal

-- none so far is one
abbrev pub invariant-loop-line : goal.invariant-loop-line
invariant-loop-line l = list_any (λ line. are_saving line.1.sets) (map line_shown l.lines) ≡ list_any (λ line. are_saving line.1.sets) (map line_shown (drop l.line-index l.lines))
