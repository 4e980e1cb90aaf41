-- The values that are expected, one after the other.
use Rattle.std.proofs.Common.{◌≡◌, ◌∙◌, ◌++◌, ◌+◌, ◌<◌, ℕ, Bool, true, false, cond, ◌||◌, List, [], ◌∷◌, option_map, map, take, drop, length, get_or, not, refl, ap, sym, string_bytes, Global}
use Rattle.std.specs.Prelude.{String}
use Rattle.std.specs.Bool.{Decides}
use Rattle.std.specs.HashSet.{HashSet, UpdatesBy, contains_text}
use Rattle.std.specs.List.{fold, list_any}
use Rattle.std.specs.Str.{bytes_eq}
use Rattle.std.specs.String.{string_eq}
use Rattle.std.proofs.lemmas.List.{map-append, take_more}
use Rattle.std.proofs.lemmas.List.Folds.{list_any-append}
use Rattle.std.proofs.lemmas.List.Sums.{fold-append}
use Rattle.std.proofs.lemmas.Map.Text.{hash_set_updates_text}
use Rattle.std.proofs.lemmas.Slice.Eq.{bytes_eq-Decides}
use Rattle.clap.specs.Words.{Text}
use Rattle.indexmap.specs.IndexSet.{insert_key}
use Rattle.keyed_hash.specs.declared.keyed.KeyedHash.{KeyedHash}
use Rattle.tool_words.specs.declared.ask.ValueAsk.{ValueAsk}
use Rattle.tool_words.specs.Asked.{named_values, with_expected, with_name}
use Rattle.tool_words.specs.CommandAnswers.{value_shown}

-- these values are those of the first i texts: with those of the texts that are left they are all
abbrev pub AreRead : List (String Global) → ℕ → List ValueAsk → Type 0
AreRead texts i values = named_values (map string_bytes texts)
    ≡ option_map (λ rest. map value_shown values ++ rest) (named_values (map string_bytes (drop i texts)))

-- ---- the names

-- the set has these names, and no others
abbrev pub Has : HashSet (String Global) KeyedHash → List (String Global) → Type 0
Has set names = (name : Text) → contains_text set name ≡ list_any (bytes_eq name) (map string_bytes names)

either_way : (one other : Text) (a b test : Bool) → Decides a (one ≡ other) → Decides b (other ≡ one) → cond a true test ≡ (test || b)
either_way one other true true true is too = refl
either_way one other true true false is too = refl
either_way one other false false true is too = refl
either_way one other false false false is too = refl
either_way one other true false test is too = absurd (let e : other ≡ one = sym (is.0 refl) in let f : false ≡ true = too.1 e in cc)
either_way one other false true test is too = absurd (let e : one ≡ other = sym (too.0 refl) in let f : false ≡ true = is.1 e in cc)

or_none : (b : Bool) → b ≡ (b || false)
or_none true = refl
or_none false = refl

-- with one more name
pub has_more : (old new : HashSet (String Global) KeyedHash) (names : List (String Global)) (key added : String Global) → UpdatesBy string_eq (λ k. bytes_eq (string_bytes key) (string_bytes k)) old new true → string_bytes added ≡ string_bytes key → Has old names → Has new (names ++ added ∷ [])
has_more old new names key added updates is has = λ name.
    let test = list_any (bytes_eq name) (map string_bytes names) in
    hash_set_updates_text (string_bytes key) old new true updates name
    ∙ ap (cond (bytes_eq (string_bytes key) name) true) (has name)
    ∙ either_way (string_bytes key) name (bytes_eq (string_bytes key) name) (bytes_eq name (string_bytes key)) test (bytes_eq-Decides (string_bytes key) name) (bytes_eq-Decides name (string_bytes key))
    ∙ ap (λ b. test || b) (or_none (bytes_eq name (string_bytes key)))
    ∙ ap (λ t. test || (bytes_eq name t || false)) (sym is)
    ∙ sym (list_any-append (bytes_eq name) (map string_bytes names) (string_bytes added ∷ []))
    ∙ sym (ap (list_any (bytes_eq name)) (map-append string_bytes names (added ∷ [])))

-- with a name that it has
pub has_still : (old new : HashSet (String Global) KeyedHash) (names : List (String Global)) (key : String Global) → new.keys ≡ insert_key string_eq old.keys key → contains_text old (string_bytes key) ≡ true → Has old names → Has new names
has_still old new names key inserted there has = λ name.
    let same : new.keys ≡ old.keys = inserted ∙ ap (λ (b : Bool). cond b old.keys (old.keys ++ key ∷ [])) there in
    ap (list_any (λ k. bytes_eq name (string_bytes k))) same ∙ has name

-- these names are those after the first i values
abbrev pub AreNamed : List (String Global) → List ValueAsk → ℕ → List (String Global) → Type 0
AreNamed first values i names = map string_bytes names ≡ with_expected (map string_bytes first) (map value_shown (take i values))

-- whether the name of the value at i is among the names
abbrev pub IsThere : List ValueAsk → ℕ → ValueAsk → List (String Global) → Bool → Type 0
IsThere values i d names b = b ≡ list_any (bytes_eq (string_bytes (get_or values i d).name)) (map string_bytes names)

-- by whether the set that has these names has that one
pub looked_for : (values : List ValueAsk) (i : ℕ) (value : ValueAsk) (names : List (String Global)) (set : HashSet (String Global) KeyedHash) (key : String Global) (b : Bool)
    → string_bytes key ≡ string_bytes value.name → value ≡ get_or values i value → b ≡ contains_text set (string_bytes key) → Has set names → IsThere values i value names b
looked_for values i value names set key b name at found has =
    found ∙ has (string_bytes key) ∙ ap (λ t. list_any (bytes_eq t) (map string_bytes names)) (name ∙ ap (λ (v : ValueAsk). string_bytes v.name) at)

-- by whether it is new
pub is_absent : (new there : Bool) → new ≡ not there → new ≡ true → false ≡ there
is_absent new true e f = sym e ∙ f
is_absent new false e f = refl

pub is_present : (new there : Bool) → new ≡ not there → new ≡ false → true ≡ there
is_present new true e f = refl
is_present new false e f = sym e ∙ f

-- with the value at i
named_at : (first : List Text) (values : List ValueAsk) (i : ℕ) (d : ValueAsk) → i < length values
    → with_expected first (map value_shown (take (i + 1) values)) ≡ with_name (with_expected first (map value_shown (take i values))) (string_bytes (get_or values i d).name)
named_at first values i d within =
    let add : List Text → Text × Text → List Text = λ names value. with_name names value.0 in
    let more = ap (map value_shown) (take_more values i d within) ∙ map-append value_shown (take i values) (get_or values i d ∷ []) in
    ap (fold add first) more ∙ fold-append add first (map value_shown (take i values)) (value_shown (get_or values i d) ∷ [])

-- with the value at i, by whether its name is among them
with_value : (first names : List (String Global)) (values : List ValueAsk) (i : ℕ) (d : ValueAsk) (b : Bool) → i < length values → IsThere values i d names b → AreNamed first values i names
    → with_expected (map string_bytes first) (map value_shown (take (i + 1) values)) ≡ cond b (map string_bytes names) (map string_bytes names ++ string_bytes (get_or values i d).name ∷ [])
with_value first names values i d b within there named =
    let name = string_bytes (get_or values i d).name in
    named_at (map string_bytes first) values i d within ∙ ap (λ ns. with_name ns name) (sym named)
    ∙ ap (λ x. cond x (map string_bytes names) (map string_bytes names ++ name ∷ [])) (sym there)

-- the name at i is among them
pub name_kept : (first names : List (String Global)) (values : List ValueAsk) (i : ℕ) (d : ValueAsk) → i < length values → IsThere values i d names true → AreNamed first values i names
    → AreNamed first values (i + 1) names
name_kept first names values i d within there named = sym (with_value first names values i d true within there named)

-- the name at i is not among them
pub name_added : (first names : List (String Global)) (values : List ValueAsk) (i : ℕ) (d : ValueAsk) (added : String Global) → i < length values → IsThere values i d names false
    → string_bytes added ≡ string_bytes (get_or values i d).name → AreNamed first values i names → AreNamed first values (i + 1) (names ++ added ∷ [])
name_added first names values i d added within there is named =
    map-append string_bytes names (added ∷ []) ∙ ap (λ n. map string_bytes names ++ n ∷ []) is
    ∙ sym (with_value first names values i d false within there named)
