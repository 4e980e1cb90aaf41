-- Fields that are no `exit` with a number, since they are not two.
use Rattle.std.proofs.Common.{◌≡◌, ◌∙◌, ℕ, ◌<◌, ◌≤◌, false, List, [], ◌∷◌, length, map, Option, Some, refl, ap, arith}
use Rattle.std.specs.Prelude.{Vec}
use Rattle.std.specs.declared.alloc.Global.{Global}
use Rattle.hushlang_old.specs.OldTrees.{is_plain_exit}

abbrev shown : List (Vec ℕ Global) → Option (List (List ℕ))
shown fields = Some (map (λ field. field.items) fields)

fewer : (fields : List (Vec ℕ Global)) → length fields < 2 → false ≡ is_plain_exit (shown fields)
fewer [] h = refl
fewer (name ∷ []) h = refl
fewer (name ∷ number ∷ more) h = absurd (omega arith)

several : (fields : List (Vec ℕ Global)) → 3 ≤ length fields → false ≡ is_plain_exit (shown fields)
several [] h = absurd (omega arith)
several (name ∷ []) h = absurd (omega arith)
several (name ∷ number ∷ []) h = absurd (omega arith)
several (name ∷ number ∷ third ∷ more) h = refl

-- the fields that are looked at are the known ones
pub fewer_than_two : (fields whole : List (Vec ℕ Global)) (known : Option (List (List ℕ))) → fields ≡ whole → shown whole ≡ known → length fields < 2 → false ≡ is_plain_exit known
fewer_than_two fields whole known same is h = fewer fields h ∙ ap (λ (x : List (Vec ℕ Global)). is_plain_exit (shown x)) same ∙ ap is_plain_exit is

pub more_than_two : (fields whole : List (Vec ℕ Global)) (known : Option (List (List ℕ))) → fields ≡ whole → shown whole ≡ known → 3 ≤ length fields → false ≡ is_plain_exit known
more_than_two fields whole known same is h = several fields h ∙ ap (λ (x : List (Vec ℕ Global)). is_plain_exit (shown x)) same ∙ ap is_plain_exit is
