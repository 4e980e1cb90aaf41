-- Places of names in tables.
use Rattle.std.proofs.Common.{◌≡◌, ℕ, Bool, true, false, cond, List, [], ◌∷◌, map, Option, Some, None, is_some, refl, sym, ap, subst, ◌∙◌, slice_get, IfSome}
use Rattle.std.specs.List.{All}
use Rattle.std.specs.Option.{option_map}
use Rattle.std.specs.Str.{bytes_eq}
use Rattle.std.specs.Map.{lookup}
use Rattle.std.proofs.lemmas.Option.{slice_get-map, slice_get_within, get_or_from_slice_get}
use Rattle.std.proofs.lemmas.List.Elements.{All-nil, All-cons, All-head, All-tail, All-get_or}
use Rattle.std.proofs.lemmas.Slice.Eq.{bytes_eq-Decides}
use Rattle.indexmap.specs.IndexMap.{insert_entry}
use Rattle.text.specs.Lines.{Text}
use Rattle.device_list.specs.DeviceList.{Pattern, Effect, Effects, Devices, effect_in, sub_effect, call_effect, line_effect, effect_of, first_fitting}
use Rattle.device_list.specs.DevicesShown.{Bytes}
use Rattle.device_list.specs.NamedPlaces.{at_place, IsPlaced, placed_sub, placed_call, placed_line, placed_effect}
use Rattle.device_list.specs.declared.device_tables.Places.{Places}
use Rattle.device_list.proofs.MapLemmas.{is_key, same_key, table, looked_up}

-- ---- a table that a map is

module _ {V S : Type 0} (shown : V → S) where
  pub at_place-shown : (es : List (Bytes × V)) (place : Option ℕ) → at_place (table shown es) place ≡ option_map shown (at_place es place)
  at_place-shown es None = refl
  at_place-shown es (Some i) = ap (option_map (λ (e : Text × S). e.1)) (slice_get-map (λ (c : Bytes × V). let shown_entry : Text × S = (c.0.items, shown c.1) in shown_entry) es i) ∙ fused (slice_get es i)
    where
      fused : (o : Option (Bytes × V)) → option_map (λ (e : Text × S). e.1) (option_map (λ (c : Bytes × V). let shown_entry : Text × S = (c.0.items, shown c.1) in shown_entry) o) ≡ option_map shown (option_map (λ (e : Bytes × V). e.1) o)
      fused None = refl
      fused (Some e) = refl

  -- where a map has a name, its table has what a look-up finds
  pub placed : (es : List (Bytes × V)) (name : Text) (place : Option ℕ) → is_some place ≡ is_some (lookup (is_key name) es)
      → IfSome place (λ i. slice_get (map (λ (e : Bytes × V). e.1) es) i ≡ lookup (is_key name) es)
      → at_place (table shown es) place ≡ lookup (bytes_eq name) (table shown es)
  placed es name place found value =
      at_place-shown es place ∙ ap (option_map shown) (here place found value) ∙ sym (looked_up shown es name _ refl)
    where
      none : (o : Option V) → false ≡ is_some o → None ≡ o
      none None e = refl
      none (Some v) e = cc

      here : (p : Option ℕ) → is_some p ≡ is_some (lookup (is_key name) es) → IfSome p (λ i. slice_get (map (λ (e : Bytes × V). e.1) es) i ≡ lookup (is_key name) es) → at_place es p ≡ lookup (is_key name) es
      here None f v = none (lookup (is_key name) es) f
      here (Some i) f v = sym (slice_get-map (λ (e : Bytes × V). e.1) es i) ∙ v

-- ---- the names of a list

abbrev pub Named : Devices → Bytes × Places → Type 0
Named devices n = IsPlaced devices n.0.items n.1

pub named-inserted : (devices : Devices) (es : List (Bytes × Places)) (k : Bytes) (places : Places) → All (Named devices) es → IsPlaced devices k.items places → All (Named devices) (insert_entry same_key es k places)
named-inserted devices [] k places all new = All-cons (Named devices) (k, places) [] new (All-nil (Named devices))
named-inserted devices (d ∷ es) k places all new = by (bytes_eq k.items d.0.items) refl (named-inserted devices es k places (All-tail (Named devices) d es all) new)
  where
    by : (b : Bool) → bytes_eq k.items d.0.items ≡ b → All (Named devices) (insert_entry same_key es k places) → All (Named devices) (cond b ((d.0, places) ∷ es) (d ∷ insert_entry same_key es k places))
    by true e rest =
        let here : IsPlaced devices d.0.items places = subst (λ (t : Text). IsPlaced devices t places) ((bytes_eq-Decides k.items d.0.items).0 e) new in
        All-cons (Named devices) (d.0, places) es here (All-tail (Named devices) d es all)
    by false e rest = All-cons (Named devices) d (insert_entry same_key es k places) (All-head (Named devices) d es all) rest

pub named-at : (devices : Devices) (es : List (Bytes × Places)) (i : ℕ) (k : Bytes) (places : Places) → All (Named devices) es → slice_get es i ≡ Some (k, places) → IsPlaced devices k.items places
named-at devices es i k places all e =
    subst (Named devices) (get_or_from_slice_get es i (k, places) (k, places) e)
    (All-get_or (Named devices) es i (k, places) (slice_get_within es i (k, places) e) all)

-- what is at the places of a name is what a look-up of the name finds
module _ (devices : Devices) (name : Text) (places : Places) (words : List Text) (there : IsPlaced devices name places) where
  placed-line : placed_line devices places words ≡ line_effect devices name words
  placed-line =
      ap (λ (o : Option Effects). elim (placed_sub o words) [ Some effect ↦ Some effect | None ↦ at_place devices.commands places.command ]) there.1.0
      ∙ (ap (λ (o : Option Effect). elim (placed_sub (lookup (bytes_eq name) devices.subs) words) [ Some effect ↦ Some effect | None ↦ o ]) there.0
      ∙ ap (λ (o : Option Effect). elim o [ Some effect ↦ Some effect | None ↦ effect_in devices.commands name ]) (by words))
    where
      by : (ws : List Text) → placed_sub (lookup (bytes_eq name) devices.subs) ws ≡ sub_effect devices name ws
      by [] = refl
      by (w ∷ ws) = refl

  pub placed-effect : placed_effect devices places words ≡ effect_of devices name words
  placed-effect =
      ap (λ (o : Option (List (Pattern × Effect))). elim (placed_call o words) [ Some effect ↦ Some effect | None ↦ placed_line devices places words ]) there.1.1
      ∙ ap (λ (o : Option Effect). elim (call_effect devices name words) [ Some effect ↦ Some effect | None ↦ o ]) placed-line

-- without lines of calls, the other lines decide
pub without_calls : (devices : Devices) (name : Text) (words : List Text) → devices.calls ≡ [] → effect_of devices name words ≡ line_effect devices name words
without_calls devices name words e = ap (λ (calls : List (Text × List (Pattern × Effect))). decide (said (lookup (bytes_eq name) calls))) e
  where
    said : Option (List (Pattern × Effect)) → Option Effect
    said o = elim o [ None ↦ None | Some lines ↦ first_fitting lines words ]

    decide : Option Effect → Option Effect
    decide o = elim o [ Some effect ↦ Some effect | None ↦ line_effect devices name words ]
