use Rattle.std.proofs.Common.{◌≡◌, List, ap, arith, flat_map, length}
use Rattle.envimage.specs.Data.{Pair, entry, pairs_of}
use Rattle.envimage.specs.Entries.{pairs_left}
use Rattle.inspecting.proofs.UsedLemmas.{used-fits}
use Rattle.inspecting.proofs.report.used_by.Goals as goal

pub loop-name-init : goal.loop-name-init
loop-name-init c =
    let left : pairs_left c.into_iter-name-iterator.result ≡ pairs_of c.args.body.now = cc in
    let same : length (flat_map entry (pairs_left c.into_iter-name-iterator.result)) ≡ length (flat_map entry (pairs_of c.args.body.now)) = ap (λ (ps : List Pair). length (flat_map entry ps)) left in
    record { all = omega (arith, same); fits = used-fits c.args.body.now c.requires }
