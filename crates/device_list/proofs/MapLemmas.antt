-- Maps by names, seen as tables.
use Rattle.std.proofs.Common.{◌≡◌, ◌||◌, Bool, true, false, cond, List, [], ◌∷◌, ◌++◌, map, Option, Some, None, Vec, Global, is_some, refl, sym, ap, ◌∙◌}
use Rattle.std.specs.Option.{option_map, option_copied}
use Rattle.std.specs.Borrow.{Bor}
use Rattle.std.specs.Str.{bytes_eq}
use Rattle.std.specs.Map.{lookup, set_value}
use Rattle.std.proofs.lemmas.List.{map-append}
use Rattle.indexmap.specs.IndexMap.{insert_entry}
use Rattle.text.specs.Lines.{Text}
use Rattle.commands.specs.TextsShown.{texts}
use Rattle.device_list.specs.Finishes.{first_finish}
use Rattle.device_list.specs.DeviceList.{joint, changed_at}
use Rattle.device_list.specs.DevicesShown.{Bytes, setting_shown}
use Rattle.device_list.specs.CommandsShown.{listed_shown, found_shown}
use Rattle.device_list.specs.declared.listed.Listed.{Listed}

abbrev pub is_key : Text → Bytes → Bool
is_key name key = bytes_eq name key.items

abbrev pub same_key : Bytes → Bytes → Bool
same_key a b = bytes_eq a.items b.items

pub is_some-shown : {V S : Type 0} (shown : V → S) (found : Option V) → is_some (option_map shown found) ≡ is_some found
is_some-shown shown None = refl
is_some-shown shown (Some l) = refl

pub copied-shown : (found : Option (Bor Listed)) → option_map found_shown found ≡ option_map listed_shown (option_copied found)
copied-shown None = refl
copied-shown (Some l) = refl

module _ {V S : Type 0} (shown : V → S) where
  -- the table that the entries of a map are
  abbrev pub table : List (Bytes × V) → List (Text × S)
  table = map (λ c. (c.0.items, shown c.1))

  lookup-table : (es : List (Bytes × V)) (name : Text) → lookup (bytes_eq name) (table es) ≡ option_map shown (lookup (is_key name) es)
  lookup-table [] name = refl
  lookup-table (e ∷ es) name = by (bytes_eq name e.0.items) (lookup-table es name)
    where
      by : (b : Bool) → lookup (bytes_eq name) (table es) ≡ option_map shown (lookup (is_key name) es)
          → cond b (Some (shown e.1)) (lookup (bytes_eq name) (table es)) ≡ option_map shown (cond b (Some e.1) (lookup (is_key name) es))
      by true rest = refl
      by false rest = rest

  -- what a look-up in the map says of the table
  pub looked_up : (es : List (Bytes × V)) (name : Text) (found : Option V) → lookup (is_key name) es ≡ found → lookup (bytes_eq name) (table es) ≡ option_map shown found
  looked_up es name found e = lookup-table es name ∙ ap (option_map shown) e

  -- a change at a name that exists
  pub changed-present : (change : Option S → S) (es : List (Bytes × V)) (name : Text) (l w : V) → lookup (is_key name) es ≡ Some l → shown w ≡ change (Some (shown l))
      → table (set_value (is_key name) es w) ≡ changed_at change (table es) name
  changed-present change [] name l w there e = cc
  changed-present change (d ∷ es) name l w there e = by (bytes_eq name d.0.items) there (changed-present change es name l w)
    where
      by : (b : Bool) → cond b (Some d.1) (lookup (is_key name) es) ≡ Some l
          → (lookup (is_key name) es ≡ Some l → shown w ≡ change (Some (shown l)) → table (set_value (is_key name) es w) ≡ changed_at change (table es) name)
          → table (cond b ((d.0, w) ∷ es) (d ∷ set_value (is_key name) es w)) ≡ cond b ((d.0.items, change (Some (shown d.1))) ∷ table es) ((d.0.items, shown d.1) ∷ changed_at change (table es) name)
      by true found rest = let same : d.1 ≡ l = cc in ap (λ f. (d.0.items, f) ∷ table es) (e ∙ ap (λ x. change (Some (shown x))) (sym same))
      by false found rest = ap (λ ds. (d.0.items, shown d.1) ∷ ds) (rest found e)

  -- and a change at a name that is new
  pub changed-absent : (change : Option S → S) (es : List (Bytes × V)) (k : Bytes) (w : V) → lookup (is_key k.items) es ≡ None → shown w ≡ change None
      → table (insert_entry same_key es k w) ≡ changed_at change (table es) k.items
  changed-absent change [] k w none e = ap (λ f. (k.items, f) ∷ []) e
  changed-absent change (d ∷ es) k w none e = by (bytes_eq k.items d.0.items) none (changed-absent change es k w)
    where
      by : (b : Bool) → cond b (Some d.1) (lookup (is_key k.items) es) ≡ None
          → (lookup (is_key k.items) es ≡ None → shown w ≡ change None → table (insert_entry same_key es k w) ≡ changed_at change (table es) k.items)
          → table (cond b ((d.0, w) ∷ es) (d ∷ insert_entry same_key es k w)) ≡ cond b ((d.0.items, change (Some (shown d.1))) ∷ table es) ((d.0.items, shown d.1) ∷ changed_at change (table es) k.items)
      by true none rest = cc
      by false none rest = ap (λ ds. (d.0.items, shown d.1) ∷ ds) (rest none e)

  pub changed-inserted : (change : Option S → S) (es fs : List (Bytes × V)) (k : Bytes) (name : Text) (w : V) → None ≡ lookup (is_key name) es → k.items ≡ name → fs ≡ insert_entry same_key es k w → shown w ≡ change None
      → table fs ≡ changed_at change (table es) name
  changed-inserted change es fs k name w none key inserted e =
      let absent : lookup (is_key k.items) es ≡ None = ap (λ n. lookup (is_key n) es) key ∙ sym none in
      ap table inserted ∙ (changed-absent change es k w absent e ∙ ap (changed_at change (table es)) key)

  -- a value that is set
  pub set-table : (es : List (Bytes × V)) (name : Text) (w : V) → table (set_value (is_key name) es w) ≡ set_value (bytes_eq name) (table es) (shown w)
  set-table [] name w = refl
  set-table (d ∷ es) name w = by (bytes_eq name d.0.items) (set-table es name w)
    where
      by : (b : Bool) → table (set_value (is_key name) es w) ≡ set_value (bytes_eq name) (table es) (shown w)
          → table (cond b ((d.0, w) ∷ es) (d ∷ set_value (is_key name) es w)) ≡ cond b ((d.0.items, shown w) ∷ table es) ((d.0.items, shown d.1) ∷ set_value (bytes_eq name) (table es) (shown w))
      by true rest = refl
      by false rest = ap (λ ds. (d.0.items, shown d.1) ∷ ds) rest

-- one more line for what is listed
pub listed-joined : (l w more : Listed) → w.ends ≡ first_finish l.ends more.ends → w.stays ≡ (l.stays || more.stays) → w.always ≡ l.always → w.needs ≡ l.needs → w.normal ≡ l.normal → w.runs ≡ l.runs → w.sets.items ≡ l.sets.items ++ more.sets.items → listed_shown w ≡ joint (listed_shown l) (listed_shown more)
listed-joined l w more ends stays always needs normal runs sets =
    let named : texts w.runs.items ≡ texts l.runs.items = ap (λ (v : Vec Bytes Global). texts v.items) runs in
    let shown : map setting_shown w.sets.items ≡ map setting_shown l.sets.items ++ map setting_shown more.sets.items = ap (map setting_shown) sets ∙ map-append setting_shown l.sets.items more.sets.items in cc

-- whether a map has a name
pub has-name : {V S : Type 0} (shown : V → S) (es : List (Bytes × V)) (name : Text) (b : Bool) → b ≡ is_some (lookup (is_key name) es) → b ≡ is_some (lookup (bytes_eq name) (table shown es))
has-name shown es name b here = here ∙ sym (ap is_some (looked_up shown es name _ refl) ∙ is_some-shown shown (lookup (is_key name) es))
