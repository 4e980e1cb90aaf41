-- A result holds one value, and on `Ok` it keeps its promise.
use Rattle.std.proofs.Common.{◌≡◌, ◌∙◌, ap, sym, Result, Ok, Err}
use Rattle.std.specs.Prelude.{IsOk, OnOk}

ok_or_else : {A E : Type 0} → A → Result A E → A
ok_or_else d (Ok a) = a
ok_or_else d (Err e) = d

pub ok_same : {A E : Type 0} {a b : A} (x : Result A E) → x ≡ Ok a → x ≡ Ok b → a ≡ b
unfolding ok_or_else
ok_same {a = a} x p q = ap (ok_or_else a) (sym p ∙ q)

pub from_ok : {T E P : Type 0} (r : Result T E) → IsOk r → OnOk r P → P
from_ok (Ok v) i p = p
from_ok (Err e) i p = absurd (let k = i in cc)
