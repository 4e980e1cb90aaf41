-- What contracts see of some bytes in an array.
use Rattle.std.specs.Prelude.{ℕ, List}

pub record Held : Type 0 where
  pub items : List ℕ
