use Rattle.std.proofs.Common.{◌≡◌, ℕ, ◌<◌, length, List, [], ◌∷◌, Some, refl, sym, arith}
use Rattle.std.specs.Prelude.{Vec}
use Rattle.std.specs.declared.alloc.Global.{Global}
use Rattle.commands.specs.Computed.{Gives, setexpr}
use Rattle.commands.specs.TextsShown.{texts}
use Rattle.commands.proofs.setexpr.setexpr.Goals as goal

too_few : (words : List (Vec ℕ Global)) → length words < 2 → setexpr (texts words) ≡ Some (Gives 1)
too_few [] few = refl
too_few (name ∷ []) few = refl
too_few (name ∷ first ∷ words) few = absurd (omega (arith, few))

pub returns-in-empty : goal.returns-in-empty
returns-in-empty c = sym (too_few c.args.words.now c.in-empty.len_below)
