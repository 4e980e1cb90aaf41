use Rattle.std.proofs.Common.{◌≡◌, drop}
use Rattle.std.specs.List.{list_any}
use Rattle.device_list.specs.Saving.{lines_save}
use Rattle.device_list.specs.CommandsShown.{calls_shown}
use Rattle.device_list.proofs.saving.calls_save.Given as goal

-- none so far saves
abbrev pub invariant-loop-at : goal.invariant-loop-at
invariant-loop-at l = list_any (λ c. lines_save c.1) (calls_shown l.calls.entries)
    ≡ list_any (λ c. lines_save c.1) (calls_shown (drop l.at l.calls.entries))
