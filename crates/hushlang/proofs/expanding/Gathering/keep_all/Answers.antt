use Rattle.std.proofs.Common.{arith}
use Rattle.hushlang.specs.Splitting.{fields_so_far}
use Rattle.hushlang.proofs.ExpandLemmas.{size-kept}
use Rattle.hushlang.proofs.expanding.Gathering.keep_all.Goals as goal

pub returns-then-bytes-self-clause-too_long : goal.returns-then-bytes-self-clause-too_long
returns-then-bytes-self-clause-too_long c = λ _. omega (arith, size-kept (fields_so_far c.args.self.now) c.args.bytes.now)
