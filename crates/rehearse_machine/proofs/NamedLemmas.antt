-- Fields that are not known.
use Rattle.std.proofs.Common.{◌≡◌, ◌∙◌, Bool, true, false, not, Option, Some, None, option_map, is_some, is_none, refl, ap}

none_at : {A B : Type 0} (f : A → B) (o : Option A) (none : Bool) → is_some o ≡ not none → none ≡ is_none (option_map f o)
none_at f None true h = refl
none_at f None false h = absurd (let e = h in cc)
none_at f (Some x) true h = absurd (let e = h in cc)
none_at f (Some x) false h = refl

pub none_if_mapped : {A B : Type 0} (f : A → B) (o : Option A) (k : Option B) (none : Bool) → is_some o ≡ not none → option_map f o ≡ k → none ≡ is_none k
none_if_mapped f o k none h e = none_at f o none h ∙ ap is_none e
