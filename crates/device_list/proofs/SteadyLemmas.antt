-- What a list says as if each of its lines said `steady`.
use Rattle.std.proofs.Common.{◌≡◌, ◌||◌, Bool, true, false, cond, List, [], ◌∷◌, map, Option, Some, None, is_some, refl, ap, ◌∙◌}
use Rattle.std.specs.Option.{option_map}
use Rattle.std.specs.Map.{lookup}
use Rattle.std.specs.Str.{bytes_eq}
use Rattle.text.specs.Lines.{Text}
use Rattle.device_list.specs.DeviceList.{Pattern, Effect, Effects, Devices, effect_at, sub_effect, call_effect, line_effect, effect_of, first_fitting, is_listed, steady_effect, steady_effect_if, steady_effects, all_steady, steady_if, fails_normally}
use Rattle.device_list.specs.CallLines.{fits}
use Rattle.device_list.specs.NamedPlaces.{in_sub, placed_call}

lookup-mapped : {V W : Type 0} (f : V → W) (test : Text → Bool) (es : List (Text × V)) → lookup test (map (λ e. (e.0, f e.1)) es) ≡ option_map f (lookup test es)
lookup-mapped f test [] = refl
lookup-mapped f test (e ∷ es) = by (test e.0) (lookup-mapped f test es)
  where
    by : (b : Bool) → lookup test (map (λ e. (e.0, f e.1)) es) ≡ option_map f (lookup test es)
        → cond b (Some (f e.1)) (lookup test (map (λ e. (e.0, f e.1)) es)) ≡ option_map f (cond b (Some e.1) (lookup test es))
    by true rest = refl
    by false rest = rest

-- the first of two that is there
abbrev first_of : Option Effect → Option Effect → Option Effect
first_of one other = elim one [ Some effect ↦ Some effect | None ↦ other ]

first-steady : (one other : Option Effect) → first_of (option_map steady_effect one) (option_map steady_effect other) ≡ option_map steady_effect (first_of one other)
first-steady None other = refl
first-steady (Some effect) other = refl

fitting-steady : (lines : List (Pattern × Effect)) (words : List Text) → first_fitting (steady_effects lines) words ≡ option_map steady_effect (first_fitting lines words)
fitting-steady [] words = refl
fitting-steady (line ∷ lines) words = by (fits line.0 words) (fitting-steady lines words)
  where
    by : (b : Bool) → first_fitting (steady_effects lines) words ≡ option_map steady_effect (first_fitting lines words)
        → cond b (Some (steady_effect line.1)) (first_fitting (steady_effects lines) words) ≡ option_map steady_effect (cond b (Some line.1) (first_fitting lines words))
    by true rest = refl
    by false rest = rest

module _ (devices : Devices) (name : Text) where
  named-steady : effect_at (all_steady devices) name None ≡ option_map steady_effect (effect_at devices name None)
  named-steady = lookup-mapped steady_effect (bytes_eq name) devices.commands

  sub-steady : (word : Text) → effect_at (all_steady devices) name (Some word) ≡ option_map steady_effect (effect_at devices name (Some word))
  sub-steady word = ap (λ (o : Option Effects). in_sub o word) (lookup-mapped steady_effects (bytes_eq name) devices.subs) ∙ by (lookup (bytes_eq name) devices.subs)
    where
      by : (o : Option Effects) → in_sub (option_map steady_effects o) word ≡ option_map steady_effect (in_sub o word)
      by None = refl
      by (Some effects) = lookup-mapped steady_effect (bytes_eq word) effects

  subs-steady : (words : List Text) → sub_effect (all_steady devices) name words ≡ option_map steady_effect (sub_effect devices name words)
  subs-steady [] = refl
  subs-steady (word ∷ words) = sub-steady word

  calls-steady : (words : List Text) → call_effect (all_steady devices) name words ≡ option_map steady_effect (call_effect devices name words)
  calls-steady words = ap (λ (o : Option (List (Pattern × Effect))). placed_call o words) (lookup-mapped steady_effects (bytes_eq name) devices.calls) ∙ by (lookup (bytes_eq name) devices.calls)
    where
      by : (o : Option (List (Pattern × Effect))) → placed_call (option_map steady_effects o) words ≡ option_map steady_effect (placed_call o words)
      by None = refl
      by (Some lines) = fitting-steady lines words

  lines-steady : (words : List Text) → line_effect (all_steady devices) name words ≡ option_map steady_effect (line_effect devices name words)
  lines-steady words = (λ i. first_of (subs-steady words i) (named-steady i)) ∙ first-steady (sub_effect devices name words) (effect_at devices name None)

  every-steady : (words : List Text) → effect_of (all_steady devices) name words ≡ option_map steady_effect (effect_of devices name words)
  every-steady words = (λ i. first_of (calls-steady words i) (lines-steady words i)) ∙ first-steady (call_effect devices name words) (line_effect devices name words)

  unchanged : (o : Option Effect) → o ≡ option_map (λ e. e) o
  unchanged None = refl
  unchanged (Some e) = refl

  pub effect-steady : (steady : Bool) (words : List Text) → effect_of (steady_if steady devices) name words ≡ option_map (steady_effect_if steady) (effect_of devices name words)
  effect-steady true words = every-steady words
  effect-steady false words = unchanged (effect_of devices name words)

  normal-steady : (words : List Text) → fails_normally (all_steady devices) (name ∷ words) ≡ fails_normally devices (name ∷ words)
  normal-steady words = ap (λ (o : Option Effect). let r : Bool = elim o [ Some effect ↦ effect.normal | None ↦ false ] in r) (calls-steady words) ∙ by (call_effect devices name words)
    where
      by : (o : Option Effect) → (let r : Bool = elim (option_map steady_effect o) [ Some effect ↦ effect.normal | None ↦ false ] in r) ≡ (let r : Bool = elim o [ Some effect ↦ effect.normal | None ↦ false ] in r)
      by None = refl
      by (Some effect) = refl

  some-mapped : {V W : Type 0} (f : V → W) (o : Option V) → is_some (option_map f o) ≡ is_some o
  some-mapped f None = refl
  some-mapped f (Some v) = refl

  pub listed-steady : (steady : Bool) → is_listed (steady_if steady devices) name ≡ is_listed devices name
  listed-steady false = refl
  listed-steady true =
      let commands = ap is_some (lookup-mapped steady_effect (bytes_eq name) devices.commands) ∙ some-mapped steady_effect (lookup (bytes_eq name) devices.commands) in
      let subs = ap is_some (lookup-mapped steady_effects (bytes_eq name) devices.subs) ∙ some-mapped steady_effects (lookup (bytes_eq name) devices.subs) in
      let calls = ap is_some (lookup-mapped steady_effects (bytes_eq name) devices.calls) ∙ some-mapped steady_effects (lookup (bytes_eq name) devices.calls) in
      λ i. commands i || (subs i || calls i)

-- twice is once
twice : {K : Type 0} (es : List (K × Effect)) → steady_effects (steady_effects es) ≡ steady_effects es
twice [] = refl
twice (e ∷ es) = ap (λ rest. (e.0, steady_effect e.1) ∷ rest) (twice es)

abbrev steady_tables : {K : Type 0} → List (Text × List (K × Effect)) → List (Text × List (K × Effect))
steady_tables = map (λ t. (t.0, steady_effects t.1))

twice-each : {K : Type 0} (ts : List (Text × List (K × Effect))) → steady_tables (steady_tables ts) ≡ steady_tables ts
twice-each [] = refl
twice-each (t ∷ ts) = λ i. (t.0, twice t.1 i) ∷ twice-each ts i

pub steady-twice : (steady : Bool) (devices : Devices) → all_steady (steady_if steady devices) ≡ all_steady devices
steady-twice false devices = refl
steady-twice true devices = λ i. record devices { commands = twice devices.commands i; subs = twice-each devices.subs i; calls = twice-each devices.calls i; test_stays = true }

-- what is expected does not depend on what stays
pub normally-steady : (devices : Devices) (steady : Bool) (call : List Text) → fails_normally (steady_if steady devices) call ≡ fails_normally devices call
normally-steady devices steady [] = refl
normally-steady devices true (name ∷ words) = normal-steady devices name words
normally-steady devices false (name ∷ words) = refl
