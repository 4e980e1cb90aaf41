-- The names that are given, and those of the environment after them.
use Rattle.std.proofs.Common.{◌≡◌, ℕ, zero, suc, ◌+◌, ◌<◌, ◌≤◌, List, [], ◌∷◌, ◌++◌, length, map, take, get_or, refl, sym, ap, ◌∙◌, add-one, append_assoc, arith, Bor, Bool, true, false}
use Rattle.std.proofs.lemmas.List.{take_all}
use Rattle.envimage.specs.Data.{Pair}
use Rattle.envimage.specs.Entries.{pair_at}
use Rattle.hushcheck.specs.Names.{Text}
use Rattle.hushcheck.specs.Report.{asked_names}

abbrev pub Lent : Type 0
Lent = Bor (List ℕ)

abbrev pub texts : List Lent → List Text
texts names = map (λ name. name.now) names

abbrev pub firsts : List (Lent × Lent) → List Text
firsts pairs = map (λ pair. pair.0.now) pairs

texts-push : (names : List Lent) (name : Lent) → texts (names ++ name ∷ []) ≡ texts names ++ name.now ∷ []
texts-push [] name = refl
texts-push (n ∷ names) name = ap (λ t. n.now ∷ t) (texts-push names name)

firsts-upto : (pairs : List (Lent × Lent)) (i : ℕ) (d : Lent × Lent) → i < length pairs → firsts (take (suc i) pairs) ≡ firsts (take i pairs) ++ (get_or pairs i d).0.now ∷ []
firsts-upto [] i d h = absurd (omega arith)
firsts-upto (p ∷ pairs) zero d h = refl
firsts-upto (p ∷ pairs) (suc i) d h = ap (λ t. p.0.now ∷ t) (firsts-upto pairs i d (omega arith))

-- one more name
pub name_item : (start : List Text) (names names' : List Lent) (pairs : List (Lent × Lent)) (i : ℕ) (pair : Lent × Lent) → i < length pairs → pair ≡ get_or pairs i pair
    → texts names ≡ start ++ firsts (take i pairs) → names' ≡ names ++ pair.0 ∷ [] → texts names' ≡ start ++ firsts (take (i + 1) pairs)
name_item start names names' pairs i pair within is before e =
    let one : firsts (take i pairs) ++ pair.0.now ∷ [] ≡ firsts (take (i + 1) pairs) = ap (λ (p : Lent × Lent). firsts (take i pairs) ++ p.0.now ∷ []) is ∙ sym (rw add-one (firsts-upto pairs i pair within)) in
    ap texts e ∙ texts-push names pair.0 ∙ ap (λ t. t ++ pair.0.now ∷ []) before ∙ append_assoc start (firsts (take i pairs)) (pair.0.now ∷ []) ∙ ap (λ t. start ++ t) one

firsts_are : (pairs : List (Lent × Lent)) → firsts pairs ≡ map (λ (p : Pair). p.0) (map pair_at pairs)
firsts_are [] = refl
firsts_are (p ∷ pairs) = ap (λ t. p.0.now ∷ t) (firsts_are pairs)

-- all names
pub names_all : (start : List Text) (env : List Pair) (names : List Lent) (items pairs : List (Lent × Lent)) (i : ℕ) → length items ≤ i → items ≡ pairs → map pair_at pairs ≡ env
    → texts names ≡ start ++ firsts (take i items) → texts names ≡ start ++ map (λ (p : Pair). p.0) env
names_all start env names items pairs i past is e before =
    before ∙ ap (λ t. start ++ t) (ap firsts (take_all i items past ∙ is) ∙ firsts_are pairs ∙ ap (map (λ (p : Pair). p.0)) e)

pub pairs_all : (env : List Pair) (items pairs : List (Lent × Lent)) (i : ℕ) → length items ≤ i → items ≡ pairs → map pair_at pairs ≡ env → firsts (take i items) ≡ map (λ (p : Pair). p.0) env
pairs_all env items pairs i past is e = ap firsts (take_all i items past ∙ is) ∙ firsts_are pairs ∙ ap (map (λ (p : Pair). p.0)) e

-- every variable is asked for
pub all_asked : (all : Bool) (env : List Pair) (given names : List Text) → all ≡ true → names ≡ given ++ map (λ (p : Pair). p.0) env → names ≡ asked_names all env given
all_asked true env given names h e = e
all_asked false env given names h e = absurd (cc)
