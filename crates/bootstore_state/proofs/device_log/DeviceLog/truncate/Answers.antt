use Rattle.std.proofs.Common.{◌∙◌, ◌<◌, length, ap, arith}
use Rattle.bootstore_state.proofs.DeviceLogLemmas.{starts_count, front_lines}
use Rattle.bootstore_state.proofs.device_log.DeviceLog.truncate.Goals as goal

pub index-start-requires : goal.index-start-requires
index-start-requires c =
    let log = c.self.inside in
    let count = ap length c.self.invariant.cuts ∙ starts_count 0 log.entries.items in
    omega (arith, count, c.if-count-len.true, c.len.ensures, log.entries.ok.0, log.starts.ok.0)

pub invariant_of-self : goal.invariant_of-self
invariant_of-self c =
    let log = c.self.inside in
    let within : c.args.count < length log.entries.items = omega (arith, c.if-count-len.true, c.len.ensures, log.entries.ok.0) in
    rw (c.truncate-then-count-len-2.ensures.items, c.truncate.ensures.items, c.truncate-then-count-len.ensures.items) (front_lines log.entries.items log.lines.items log.starts.items c.args.count c.index-start.result.now c.self.invariant within c.index-start.ensures)
