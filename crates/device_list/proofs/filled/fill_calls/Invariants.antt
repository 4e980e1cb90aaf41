use Rattle.std.proofs.Common.{◌≡◌, length}
use Rattle.envtools.specs.Environment.{value_of}
use Rattle.device_list.specs.DeviceList.{filled_calls}
use Rattle.device_list.specs.CommandsShown.{calls_shown}
use Rattle.device_list.proofs.FilledLemmas.{done, named_filled}
use Rattle.device_list.proofs.filled.fill_calls.Given as goal

-- the names so far have filled lines
abbrev pub invariant-loop-at : goal.invariant-loop-at
invariant-loop-at l = (done (named_filled (value_of l.env)) (calls_shown l.calls.entries) l.at ≡ filled_calls (value_of l.env) (calls_shown l.fn.calls.entries))
    × (length l.calls.entries ≡ length l.fn.calls.entries)
