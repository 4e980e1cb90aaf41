use Rattle.std.proofs.Common.{◌↔◌}
use Rattle.envimage.specs.Data.{pairs_of}
use Rattle.envimage.specs.Entries.{pairs_left}
use Rattle.envtools.specs.Listed.{Ascend, AscendAfter}
use Rattle.envtools.proofs.distinct.is_ascending.Given as goal

-- the names that are left ascend from the last one on exactly if all do
abbrev pub invariant-loop-name : goal.invariant-loop-name
invariant-loop-name l = AscendAfter l.last (pairs_left l.name-iterator) ↔ Ascend (pairs_of l.body)
