use Rattle.std.proofs.Common.{◌≡◌, ◌&&◌, not, filter, take}
use Rattle.rehearse_rules.specs.Expected.{is_unexpected}
use Rattle.rehearse_causes.proofs.cause.failing.Given as goal

-- those of the commands so far whose answers are unexpected
abbrev pub invariant-loop-entry : goal.invariant-loop-entry
invariant-loop-entry l = l.fails.items ≡ filter (λ e. not e.again && is_unexpected l.devices (e.success, e.words)) (take l.entry-index l.log)
