-- Lists whose patterns name variables.
use Rattle.std.proofs.Common.{◌≡◌, ℕ, zero, suc, ◌+◌, ◌≤◌, ◌<◌, Bool, true, false, List, [], ◌∷◌, ◌++◌, map, length, take, drop, get_or, set, Vec, Global, Option, Some, refl, ap, ◌∙◌, arith}
use Rattle.std.proofs.lemmas.List.{append-nil, length-map, take_all, drop_all}
use Rattle.std.specs.List.{slice_get}
use Rattle.std.specs.Map.{values_of}
use Rattle.indexmap.specs.Layout.{set_value_at}
use Rattle.text.specs.Lines.{Text}
use Rattle.device_list.specs.CallLines.{Pattern, filled_line}
use Rattle.device_list.specs.Saving.{saved_line, saving}
use Rattle.device_list.specs.DevicesShown.{Bytes}
use Rattle.device_list.specs.CommandsShown.{lines_shown, calls_shown}
use Rattle.device_list.specs.declared.call_line.CallLine.{CallLine}
use Rattle.device_list.specs.DeviceList.{Effect, Devices, steady_effect, steady_effects, steady_if, filled}

-- ---- a list of which the first items are done

abbrev pub done : {A : Type 0} → (A → A) → List A → ℕ → List A
done f xs i = take i xs ++ map f (drop i xs)

pub all-done : {A : Type 0} (f : A → A) (xs : List A) (n : ℕ) → length xs ≤ n → done f xs n ≡ xs
all-done f xs n within = (λ i. take_all n xs within i ++ map f (drop_all n xs within i)) ∙ append-nil xs

module _ {X S : Type 0} (shown : X → S) (f : S → S) where
  step : (xs : List X) (i : ℕ) (d w : X) → i < length xs → shown w ≡ f (shown (get_or xs i d)) → done f (map shown (set xs i w)) (suc i) ≡ done f (map shown xs) i
  step [] i d w within e = absurd (omega (arith, within))
  step (x ∷ xs) zero d w within e = ap (λ (s : S). s ∷ map f (map shown xs)) e
  step (x ∷ xs) (suc i) d w within e = ap (λ ss. shown x ∷ ss) (step xs i d w (omega (arith, within)) e)

  pub one-done : (xs : List X) (i : ℕ) (d w : X) → i < length xs → shown w ≡ f (shown (get_or xs i d)) → done f (map shown (set xs i w)) (i + 1) ≡ done f (map shown xs) i
  one-done xs i d w within e = let n : i + 1 ≡ suc i = omega arith in ap (done f (map shown (set xs i w))) n ∙ step xs i d w within e

  pub all-shown : (xs : List X) (n : ℕ) → length xs ≤ n → done f (map shown xs) n ≡ map shown xs
  all-shown xs n within = let same : length (map shown xs) ≡ length xs = length-map xs shown in all-done f (map shown xs) n (omega (arith, same, within))

-- the lines of calls of a name
abbrev Named : Type 0
Named = Text × List (Pattern × Effect)

abbrev pub named_with : (Pattern × Effect → Pattern × Effect) → Named → Named
named_with f c = (c.0, map f c.1)

abbrev pub named_filled : (values : Text → Option Text) → Named → Named
named_filled values = named_with (filled_line values)

abbrev named_steady : Named → Named
named_steady c = (c.0, steady_effects c.1)

-- one more name
named-step : (f : Pattern × Effect → Pattern × Effect) (es : List (Bytes × Vec CallLine Global)) (i : ℕ) (l w : Vec CallLine Global) → slice_get (values_of es) i ≡ Some l → lines_shown w ≡ map f (lines_shown l)
    → done (named_with f) (calls_shown (set_value_at es i w)) (suc i) ≡ done (named_with f) (calls_shown es) i
named-step f [] i l w there e = absurd (let g = there in cc)
named-step f (d ∷ es) zero l w there e =
    let same : l ≡ d.1 = let g : ◌≡◌ {A = Option (Vec CallLine Global)} (Some d.1) (Some l) = there in cc in
    ap (λ (lines : List (Pattern × Effect)). let named : Named = (d.0.items, lines) in named ∷ map (named_with f) (calls_shown es)) (e ∙ ap (λ (v : Vec CallLine Global). map f (lines_shown v)) same)
named-step f (d ∷ es) (suc i) l w there e =
    ap (λ (rest : List Named). let named : Named = (d.0.items, lines_shown d.1) in named ∷ rest) (named-step f es i l w there e)

pub named-done : (f : Pattern × Effect → Pattern × Effect) (es : List (Bytes × Vec CallLine Global)) (i : ℕ) (l w : Vec CallLine Global) → slice_get (values_of es) i ≡ Some l → lines_shown w ≡ map f (lines_shown l)
    → done (named_with f) (calls_shown (set_value_at es i w)) (i + 1) ≡ done (named_with f) (calls_shown es) i
named-done f es i l w there e =
    let n : i + 1 ≡ suc i = omega arith in ap (done (named_with f) (calls_shown (set_value_at es i w))) n ∙ named-step f es i l w there e

-- ---- a list that is steady

swapped : {A : Type 0} (f g : A → A) → ((x : A) → f (g x) ≡ g (f x)) → (xs : List A) → map f (map g xs) ≡ map g (map f xs)
swapped f g same [] = refl
swapped f g same (x ∷ xs) = λ i. same x i ∷ swapped f g same xs i

module _ (f : Pattern × Effect → Pattern × Effect) (with_f : (line : Pattern × Effect) → (let s : Pattern × Effect = ((f line).0, steady_effect (f line).1) in s) ≡ f (line.0, steady_effect line.1)) where
  lines-steady : (lines : List (Pattern × Effect)) → steady_effects (map f lines) ≡ map f (steady_effects lines)
  lines-steady = swapped (λ line. (line.0, steady_effect line.1)) f with_f

  pub calls-steady : (calls : List Named) → map named_steady (map (named_with f) calls) ≡ map (named_with f) (map named_steady calls)
  calls-steady = swapped named_steady (named_with f) (λ c. ap (λ (lines : List (Pattern × Effect)). let named : Named = (c.0, lines) in named) (lines-steady c.1))

pub steady-filled : (values : Text → Option Text) (steady : Bool) (devices : Devices) → steady_if steady (filled values devices) ≡ filled values (steady_if steady devices)
steady-filled values true devices = let same = calls-steady (filled_line values) (λ line. refl) devices.calls in cc
steady-filled values false devices = refl

pub steady-saving : (names : List Text) (steady : Bool) (devices : Devices) → steady_if steady (saving names devices) ≡ saving names (steady_if steady devices)
steady-saving names true devices = let same = calls-steady (saved_line names) (λ line. refl) devices.calls in cc
steady-saving names false devices = refl
