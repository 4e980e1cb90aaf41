use Rattle.std.proofs.Common.{rules}
use Rattle.std.proofs.Math.Nat.{div-one}
use Rattle.inspecting.proofs.guessing.after_byte.Goals as goal

pub returns : goal.returns
returns c = rw (div-one c.args.byte) (search rules)
