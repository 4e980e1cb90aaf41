use Rattle.std.proofs.Common.{◌+◌, ◌-◌, ◌*◌, take}
use Rattle.rehearse_endings.specs.Indexed.{AllOf, NoneBy, NoneFrom}
use Rattle.rehearse_endings.proofs.table.Table.+looking.Given as goal

-- how many keys may still be looked at
abbrev pub decreases-look : goal.decreases-look
decreases-look g l = 3 * (l.self.now.longest - l.from) + 2

abbrev pub decreases-look_aside : goal.decreases-look_aside
decreases-look_aside g l = 3 * (l.self.now.longest - l.at) + 1

abbrev pub decreases-look_behind : goal.decreases-look_behind
decreases-look_behind g l = 3 * (l.self.now.longest - l.at)

-- if nothing fits from here on, nothing fits at all
abbrev pub invariant-look-loop-at : goal.invariant-look-loop-at
invariant-look-loop-at g l = NoneFrom l.bounds.steps l.bounds.devices l.self (g.S.Store.record_of l.store).present l.number l.at → NoneFrom l.bounds.steps l.bounds.devices l.self (g.S.Store.record_of l.store).present l.fn.number l.fn.from

-- nothing fits by the ways so far
abbrev pub invariant-look_aside-loop-place : goal.invariant-look_aside-loop-place
invariant-look_aside-loop-place g l = AllOf (take l.place-index l.place-items) (NoneBy l.bounds.steps l.bounds.devices l.self (g.S.Store.record_of l.store).present l.number l.at)
