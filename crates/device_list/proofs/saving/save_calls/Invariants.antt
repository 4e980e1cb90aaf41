use Rattle.std.proofs.Common.{◌≡◌, length, map}
use Rattle.device_list.specs.Saving.{saved_line, saved_calls}
use Rattle.device_list.specs.CommandsShown.{calls_shown}
use Rattle.device_list.proofs.FilledLemmas.{done, named_with}
use Rattle.device_list.proofs.saving.save_calls.Given as goal

-- the names so far have lines that save
abbrev pub invariant-loop-at : goal.invariant-loop-at
invariant-loop-at l = (done (named_with (saved_line (map (λ n. n.now) l.names))) (calls_shown l.calls.entries) l.at ≡ saved_calls (map (λ n. n.now) l.names) (calls_shown l.fn.calls.entries))
    × (length l.calls.entries ≡ length l.fn.calls.entries)
