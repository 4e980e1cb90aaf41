-- The fault of data is what follows its longest row of entries.
use Rattle.std.proofs.Common.{◌≡◌, ◌≢◌, ℕ, zero, suc, ◌+◌, ◌≤◌, true, false, inl, inr, List, [], ◌∷◌, ◌++◌, length, map, Option, None, Some, refl, sym, ap, subst, ◌∙◌, arith, append_assoc, length-append}
use Rattle.std.proofs.lemmas.Bool.{cases_eq}
use Rattle.std.proofs.lemmas.Bool.Decides.{nat_tests}
use Rattle.std.specs.List.{flat_map, AllByRecursion, list_any}
use Rattle.text.specs.Words.{is_equals, is_nul}
use Rattle.envimage.specs.Data.{Pair, IsVariable, IsData, IsRow, IsLongestRow, BeginsWithText, IsFaultAt, IsFault, IsNameByte, entry, texts_of, texts_fault}
use Rattle.envimage.specs.Laws.{FaultIsComputed, EachFaultIsDefined, FaultlessIsData}
use Rattle.envimage.specs.declared.content.DataError.{DataError}
use Rattle.envimage.specs.declared.content.DataError.TheVariants.{NotTerminated, NoEquals, EmptyName}
use Rattle.envimage.proofs.LawLemmas.{text_of, texts_of-text, texts_of-entries, any-equals, name-equals, name-nul, all-append, entry-text, data_is_computed}

abbrev IsUnbroken : List ℕ → Type 0
IsUnbroken bytes = AllByRecursion (λ b. b ≢ 0) bytes

-- ---- what is computed if the fault is known

-- a row of entries is skipped
texts_fault-row : (pairs : List Pair) (at : ℕ) (texts : List (List ℕ)) → AllByRecursion IsVariable pairs → texts_fault at (map text_of pairs ++ texts) ≡ texts_fault (at + length (flat_map entry pairs)) texts
texts_fault-row [] at texts all = ap (λ n. texts_fault n texts) (omega arith)
texts_fault-row (([], value) ∷ ps) at texts all = absurd (all.0.named refl)
texts_fault-row ((b ∷ bs, value) ∷ ps) at texts all =
    let head : is_equals b ≡ false = name-equals b all.0.name.0 in
    let tail : list_any is_equals (bs ++ 61 ∷ value) ≡ true = any-equals bs value in
    let one : length (entry (b ∷ bs, value)) ≡ length (bs ++ 61 ∷ value) + 2 =
    ap length (append_assoc (b ∷ bs) (61 ∷ value) (0 ∷ [])) ∙ (length-append (b ∷ bs) ((61 ∷ value) ++ (0 ∷ [])) ∙ omega (arith, length-append (61 ∷ value) (0 ∷ []), length-append bs (61 ∷ value))) in
    let both : length (entry (b ∷ bs, value) ++ flat_map entry ps) ≡ length (entry (b ∷ bs, value)) + length (flat_map entry ps) = length-append (entry (b ∷ bs, value)) (flat_map entry ps) in
    let places : (at + (length (bs ++ 61 ∷ value) + 2)) + length (flat_map entry ps) ≡ at + length (entry (b ∷ bs, value) ++ flat_map entry ps) = omega (arith, one, both) in
    rw (head, tail) (texts_fault-row ps (at + (length (bs ++ 61 ∷ value) + 2)) texts all.1 ∙ ap (λ n. texts_fault n texts) places)

texts_of-unbroken : (bytes : List ℕ) → IsUnbroken bytes → texts_of bytes ≡ []
texts_of-unbroken [] all = refl
texts_of-unbroken (b ∷ bs) all =
    let other : is_nul b ≡ false = grind (arith, nat_tests, all.0) in
    rw (other, texts_of-unbroken bs all.1) refl

name-no_equals : (name : List ℕ) → AllByRecursion IsNameByte name → list_any is_equals name ≡ false
name-no_equals [] all = refl
name-no_equals (b ∷ bs) all = rw (name-equals b all.0) (name-no_equals bs all.1)

texts_of-begins : (rest text : List ℕ) (t : BeginsWithText rest text) → texts_of rest ≡ text ∷ texts_of t.after
texts_of-begins rest text t = ap texts_of t.whole ∙ texts_of-text text t.after t.unbroken

nameless : (at : ℕ) (text : List ℕ) (texts : List (List ℕ)) → text ≢ [] → AllByRecursion IsNameByte text → texts_fault at (text ∷ texts) ≡ Some (NoEquals at)
nameless at [] texts some all = absurd (some refl)
nameless at (b ∷ bs) texts some all = rw (name-equals b all.0, name-no_equals bs all.1) refl

-- what is at a place is computed there
texts_fault-there : (at : ℕ) (rest : List ℕ) (fault : Option DataError) → IsFaultAt at rest fault → texts_fault at (texts_of rest) ≡ fault
texts_fault-there at rest None t = rw (texts_of-begins rest [] t) refl
texts_fault-there at rest (Some NotTerminated) t = rw (texts_of-unbroken rest t) refl
texts_fault-there at rest (Some (EmptyName place)) t =
    rw (texts_of-begins rest (61 ∷ t.1.0) t.1.1) (ap (λ n. Some (EmptyName n)) (sym t.0))
texts_fault-there at rest (Some (NoEquals place)) t =
    rw (texts_of-begins rest t.1.0 t.1.1) (nameless at t.1.0 _ t.1.2 t.1.3 ∙ ap (λ n. Some (NoEquals n)) (sym t.0))

pub fault_is_computed : FaultIsComputed
fault_is_computed body fault f =
    let row = f.row.row in
    ap (λ b. texts_fault 0 (texts_of b)) row.whole
    ∙ (ap (texts_fault 0) (texts_of-entries f.pairs f.rest row.each)
    ∙ (texts_fault-row f.pairs 0 (texts_of f.rest) row.each
    ∙ (ap (λ n. texts_fault n (texts_of f.rest)) (omega arith)
    ∙ texts_fault-there (length (flat_map entry f.pairs)) f.rest fault f.fault_there)))

-- ---- each body has a fault by the definition

-- there is only one first NUL
cut_once : (text other rest left : List ℕ) → IsUnbroken text → IsUnbroken other → text ++ 0 ∷ rest ≡ other ++ 0 ∷ left → (text ≡ other) × (rest ≡ left)
cut_once [] [] rest left p q e = (refl, cc)
cut_once [] (c ∷ cs) rest left p q e = let zero_there : c ≡ 0 = cc in absurd (q.0 zero_there)
cut_once (b ∷ bs) [] rest left p q e = let zero_there : b ≡ 0 = cc in absurd (p.0 zero_there)
cut_once (b ∷ bs) (c ∷ cs) rest left p q e =
    let same : b ≡ c = cc in
    let more : bs ++ 0 ∷ rest ≡ cs ++ 0 ∷ left = cc in
    let cut = cut_once bs cs rest left p.1 q.1 more in
    (λ i. same i ∷ cut.0 i, cut.1)

-- a body has no NUL, or one that ends its first text
data Cut (body : List ℕ) : Type 0 where
  whole_text : IsUnbroken body → Cut body
  cut_text : (text : List ℕ) → BeginsWithText body text → Cut body

cut_of : (body : List ℕ) → Cut body
cut_of [] = whole_text tt
cut_of (b ∷ bs) =
    elim (cases_eq b 0) [
      | inl e ↦ cut_text [] (record { after = bs; whole = λ i. e i ∷ bs; unbroken = tt })
      | inr other ↦ onto other (cut_of bs)
    ]
  where
    onto : b ≢ 0 → Cut bs → Cut (b ∷ bs)
    onto other (whole_text all) = whole_text (other, all)
    onto other (cut_text text t) = cut_text (b ∷ text) (record { after = t.after; whole = λ i. b ∷ t.whole i; unbroken = (other, t.unbroken) })

-- a text has no `=`, or one after its name
data Named (text : List ℕ) : Type 0 where
  nameless_text : AllByRecursion IsNameByte text → Named text
  named_text : (name value : List ℕ) → text ≡ name ++ 61 ∷ value → AllByRecursion IsNameByte name → IsUnbroken value → Named text

named_of : (text : List ℕ) → IsUnbroken text → Named text
named_of [] all = nameless_text tt
named_of (b ∷ bs) all =
    elim (cases_eq b 61) [
      | inl e ↦ named_text [] bs (λ i. e i ∷ bs) tt all.1
      | inr other ↦ onto other (named_of bs all.1)
    ]
  where
    onto : b ≢ 61 → Named bs → Named (b ∷ bs)
    onto other (nameless_text names) = nameless_text ((all.0, other), names)
    onto other (named_text name value e names values) = named_text (b ∷ name) value (λ i. b ∷ e i) ((all.0, other), names) values

text_of-unbroken : (p : Pair) → IsVariable p → IsUnbroken (text_of p)
text_of-unbroken p v = all-append (λ b. b ≢ 0) p.0 (61 ∷ p.1) (name-nul p.0 v.name) (λ e. omega (arith, e), v.value)

-- the row with one variable more
row_more : (p : Pair) (ps : List Pair) (body after rest : List ℕ) → body ≡ text_of p ++ 0 ∷ after → IsVariable p → IsRow after ps rest → IsRow body (p ∷ ps) rest
row_more p ps body after rest e v row = record {
  whole = e ∙ (sym (entry-text p after) ∙ (ap (λ t. entry p ++ t) row.whole ∙ sym (append_assoc (entry p) (flat_map entry ps) rest)));
  each = (v, row.each);
}

-- if a row starts with a variable, so does the body's first text
row_front : (body : List ℕ) (q : Pair) (qs : List Pair) (left : List ℕ) → IsRow body (q ∷ qs) left → (body ≡ text_of q ++ 0 ∷ (flat_map entry qs ++ left)) × IsVariable q
row_front body q qs left row =
    (row.whole ∙ (append_assoc (entry q) (flat_map entry qs) left ∙ entry-text q (flat_map entry qs ++ left)), row.each.0)

-- A fault follows the longest row of a body, whose places count from `at`.
record HasFault (at : ℕ) (body : List ℕ) : Type 0 where
  pairs : List Pair
  rest : List ℕ
  fault : Option DataError
  row : IsLongestRow body pairs rest
  fault_there : IsFaultAt (at + length (flat_map entry pairs)) rest fault

-- the body starts with no entry
no_entry : (at : ℕ) (body : List ℕ) (fault : Option DataError) → IsFaultAt (at + 0) body fault → ((q : Pair) (left : List ℕ) → IsVariable q → body ≡ text_of q ++ 0 ∷ left → ⊥) → HasFault at body
no_entry at body fault t none = record {
  pairs = [];
  rest = body;
  fault = fault;
  row = record { row = record { whole = refl; each = tt }; longest = longest };
  fault_there = t;
}
  where
    longest : (others : List Pair) (left : List ℕ) → IsRow body others left → length (flat_map entry others) ≤ 0
    longest [] left row = omega arith
    longest (q ∷ qs) left row =
        let front = row_front body q qs left row in absurd (none q (flat_map entry qs ++ left) front.1 front.0)

-- the body starts with one
one_entry : (at : ℕ) (body : List ℕ) (p : Pair) (after : List ℕ) → IsVariable p → body ≡ text_of p ++ 0 ∷ after → HasFault (at + length (entry p)) after → HasFault at body
one_entry at body p after v e h = record {
  pairs = p ∷ h.pairs;
  rest = h.rest;
  fault = h.fault;
  row = record { row = row_more p h.pairs body after h.rest e v h.row.row; longest = longest };
  fault_there =
      let places : at + length (entry p) + length (flat_map entry h.pairs) ≡ at + length (entry p ++ flat_map entry h.pairs) =
      omega (arith, length-append (entry p) (flat_map entry h.pairs)) in
      subst (λ n. IsFaultAt n h.rest h.fault) places h.fault_there;
}
  where
    longest : (others : List Pair) (left : List ℕ) → IsRow body others left → length (flat_map entry others) ≤ length (entry p ++ flat_map entry h.pairs)
    longest [] left row = omega arith
    longest (q ∷ qs) left row =
        let front = row_front body q qs left row in
        let cut = cut_once (text_of q) (text_of p) (flat_map entry qs ++ left) after (text_of-unbroken q front.1) (text_of-unbroken p v) (sym front.0 ∙ e) in
        let more : length (flat_map entry qs) ≤ length (flat_map entry h.pairs) =
        h.row.longest qs left (record { whole = sym cut.1; each = row.each.1 }) in
        let same : length (entry q) ≡ length (entry p) = ap (λ t. length (t ++ 0 ∷ [])) cut.0 in
        omega (arith, more, same, length-append (entry q) (flat_map entry qs), length-append (entry p) (flat_map entry h.pairs))

name-there : (q : Pair) → IsVariable q → AllByRecursion IsNameByte (text_of q) → ⊥
name-there q v all = at_equals q.0 q.1 all
  where
    at_equals : (name value : List ℕ) → AllByRecursion IsNameByte (name ++ 61 ∷ value) → ⊥
    at_equals [] value all = all.0.1 refl
    at_equals (b ∷ bs) value all = at_equals bs value all.1

front-there : (q : Pair) (text : List ℕ) → IsVariable q → text_of q ≡ 61 ∷ text → ⊥
front-there ([], value) text v e = v.named refl
front-there (b ∷ bs, value) text v e = let front : b ≡ 61 = cc in v.name.0.1 front

text-there : (q : Pair) → text_of q ≡ [] → ⊥
text-there ([], value) e = cc
text-there (b ∷ bs, value) e = cc

none-there : (body : List ℕ) → IsUnbroken body → (q : Pair) (left : List ℕ) → IsVariable q → body ≡ text_of q ++ 0 ∷ left → ⊥
none-there body all q left v e = at_nul (text_of q) (subst IsUnbroken e all)
  where
    at_nul : (text : List ℕ) → IsUnbroken (text ++ 0 ∷ left) → ⊥
    at_nul [] all = all.0 refl
    at_nul (b ∷ bs) all = at_nul bs all.1

-- two cuts of a body have the same text
same_text : (body text : List ℕ) (t : BeginsWithText body text) (q : Pair) (left : List ℕ) → IsVariable q → body ≡ text_of q ++ 0 ∷ left → text_of q ≡ text
same_text body text t q left v e =
    sym (cut_once text (text_of q) t.after left t.unbroken (text_of-unbroken q v) (sym t.whole ∙ e)).0

module _ (n : ℕ) (more : (at : ℕ) (body : List ℕ) → length body ≤ n → HasFault at body) (at : ℕ) (body : List ℕ) (short : length body ≤ suc n) where
  with_text : (text : List ℕ) → BeginsWithText body text → Named text → HasFault at body
  with_text [] t named = no_entry at body None t (λ q left v e. text-there q (same_text body [] t q left v e))
  with_text (b ∷ bs) t (nameless_text names) =
      no_entry at body (Some (NoEquals at)) (omega arith, (b ∷ bs, t, (λ e. cc), names)) (λ q left v e.
      name-there q v (subst (AllByRecursion IsNameByte) (sym (same_text body (b ∷ bs) t q left v e)) names))
  with_text (b ∷ bs) t (named_text [] value whole names values) =
      no_entry at body (Some (EmptyName at)) (omega arith, (value, subst (BeginsWithText body) whole t)) (λ q left v e.
      front-there q value v (same_text body (b ∷ bs) t q left v e ∙ whole))
  with_text (b ∷ bs) t (named_text (c ∷ cs) value whole names values) =
      let p : Pair = (c ∷ cs, value) in
      let v : IsVariable p = record { named = λ e. cc; name = names; value = values } in
      let shorter : length t.after ≤ n = omega (arith, ap length t.whole, length-append (b ∷ bs) (0 ∷ t.after)) in
      one_entry at body p t.after v (t.whole ∙ ap (λ text. text ++ 0 ∷ t.after) whole) (more (at + length (entry p)) t.after shorter)

  at_cut : Cut body → HasFault at body
  at_cut (whole_text all) = no_entry at body (Some NotTerminated) all (none-there body all)
  at_cut (cut_text text t) = with_text text t (named_of text t.unbroken)

has_fault : (n at : ℕ) (body : List ℕ) → length body ≤ n → HasFault at body
has_fault zero at [] h = no_entry at [] (Some NotTerminated) tt (none-there [] tt)
has_fault zero at (b ∷ bs) h = absurd (omega arith)
has_fault (suc n) at body h = at_cut n (has_fault n) at body h (cut_of body)

pub each_fault_is_defined : EachFaultIsDefined
each_fault_is_defined body =
    let h = has_fault (length body) 0 body (omega arith) in
    let f : IsFault body h.fault = record {
      pairs = h.pairs;
      rest = h.rest;
      row = h.row;
      fault_there = subst (λ n. IsFaultAt n h.rest h.fault) (omega arith) h.fault_there;
    } in
    subst (IsFault body) (sym (fault_is_computed body h.fault f)) f

pub faultless_is_data : FaultlessIsData
faultless_is_data body e =
    let f = subst (IsFault body) e (each_fault_is_defined body) in
    let d : IsData body f.pairs = record {
      filling = f.fault_there.after;
      whole = f.row.row.whole ∙ ap (λ rest. flat_map entry f.pairs ++ rest) f.fault_there.whole;
      each = f.row.row.each;
    } in
    subst (IsData body) (sym (data_is_computed body f.pairs d).1) d
