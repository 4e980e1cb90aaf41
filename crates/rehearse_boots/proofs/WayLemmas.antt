-- By which way each boot was found, while others are explored.
use Rattle.std.proofs.Common.{◌≡◌, ℕ, zero, suc, ◌+◌, ◌<◌, Bool, true, false, List, [], ◌∷◌, ◌++◌, length, Option, Some, None, option_map, refl, sym, ap, subst, ◌∙◌, arith, if◌then◌else◌}
use Rattle.std.specs.List.{AllByRecursion, list_any, slice_get}
use Rattle.std.specs.Prelude.{Contains}
use Rattle.std.specs.Option.{option_to_list}
use Rattle.rehearse_boots.specs.Boots.{Kept, Next, both, number_of, same_kept, with_boot}
use Rattle.rehearse_boots.specs.Exploring.{AddsNext, StaysFound, with_boots, with_finding, with_findings}
use Rattle.rehearse_boots.specs.Ways.{AreFoundBy, IsFoundBy, Way, numbers}
use Rattle.rehearse_boots.specs.declared.found.FoundBy.{FoundBy}
use Rattle.rehearse_boots.proofs.BootLemmas.{IsIn, number_stays, one_is_in, place_of_last, with_more, with_one}

-- ---- places in lists

pub get_front : {X : Type 0} (xs ys : List X) (i : ℕ) (x : X) → slice_get xs i ≡ Some x → slice_get (xs ++ ys) i ≡ Some x
get_front [] ys i x e = absurd (let f = e in cc)
get_front (y ∷ xs) ys zero x e = e
get_front (y ∷ xs) ys (suc i) x e = get_front xs ys i x e

pub get_last : {X : Type 0} (xs : List X) (x : X) → slice_get (xs ++ x ∷ []) (length xs) ≡ Some x
get_last [] x = refl
get_last (y ∷ xs) x = get_last xs x

-- an element of a list and one more: it was there, or is the last
pub data AtEnd {X : Type 0} (xs : List X) (x : X) (i : ℕ) (y : X) : Type 0 where
  before : slice_get xs i ≡ Some y → AtEnd xs x i y
  last : i ≡ length xs → y ≡ x → AtEnd xs x i y

pub at_end : {X : Type 0} (xs : List X) (x : X) (i : ℕ) (y : X) → slice_get (xs ++ x ∷ []) i ≡ Some y → AtEnd xs x i y
at_end [] x zero y e = last refl (let f = e in cc)
at_end [] x (suc i) y e = absurd (let f = e in cc)
at_end (z ∷ xs) x zero y e = before e
at_end (z ∷ xs) x (suc i) y e = by (at_end xs x i y e)
  where
    by : AtEnd xs x i y → AtEnd (z ∷ xs) x (suc i) y
    by (before h) = before h
    by (last i_is y_is) = last (ap suc i_is) y_is

-- ---- what is in a graph stays

abbrev pub Keeps : (graph graph' : List (List Way)) → Type 0
Keeps graph graph' =
    (place way : ℕ) (ways : List Way) (w : Way) → slice_get graph place ≡ Some ways → slice_get ways way ≡ Some w →
    (ways' : List Way) × (slice_get graph' place ≡ Some ways') × (slice_get ways' way ≡ Some w)

found_kept : (graph graph' : List (List Way)) (place : ℕ) (by : FoundBy) → Keeps graph graph' → IsFoundBy graph place by → IsFoundBy graph' place by
found_kept graph graph' place by keeps f =
    let kept = keeps by.place by.way f.ways f.way f.there f.is in
    record { before = f.before; ways = kept.0; way = f.way; there = kept.1; is = kept.2; leads = f.leads }

pub all_kept : (graph graph' : List (List Way)) (boots : List Kept) (found : List FoundBy) → Keeps graph graph' → AreFoundBy graph boots found → AreFoundBy graph' boots found
all_kept graph graph' boots found keeps are = record {
  count = are.count;
  each = λ place by at. found_kept graph graph' (place + 1) by keeps (are.each place by at);
}

-- of the last boot, one more way
pub keeps_way : (graph : List (List Way)) (ways more : List Way) → Keeps (graph ++ ways ∷ []) (graph ++ (ways ++ more) ∷ [])
keeps_way graph ways more place way ws w there is = by (at_end graph ways place ws there)
  where
    by : AtEnd graph ways place ws → (ways' : List Way) × (slice_get (graph ++ (ways ++ more) ∷ []) place ≡ Some ways') × (slice_get ways' way ≡ Some w)
    by (before h) = (ws, get_front graph ((ways ++ more) ∷ []) place ws h, is)
    by (last at e) = (
      ways ++ more,
      ap (slice_get (graph ++ (ways ++ more) ∷ [])) at ∙ get_last graph (ways ++ more),
      get_front ways more way w (ap (λ l. slice_get l way) (sym e) ∙ is),
    )

-- one more boot
pub keeps_boot : (graph : List (List Way)) (ways : List Way) → Keeps graph (graph ++ ways ∷ [])
keeps_boot graph ways place way ws w there is = (ws, get_front graph (ways ∷ []) place ws there, is)

-- ---- boots that a way leads to

-- one more boot, at the end, if it is new
found_one : (graph : List (List Way)) (by : FoundBy) (ways : List Way) (w : Way) (boots : List Kept) (kept : Kept) (found : List FoundBy) → by.place < length boots → slice_get graph by.place ≡ Some ways → slice_get ways by.way ≡ Some w
    → (list_any (same_kept kept) boots ≡ false → Contains (numbers w) (length boots + 1)) → AreFoundBy graph boots found → AreFoundBy graph (with_boot boots kept) (with_finding by boots kept found)
found_one graph by ways w boots kept found within there is leads are = so (list_any (same_kept kept) boots) leads
  where
    so : (s : Bool) → (s ≡ false → Contains (numbers w) (length boots + 1)) → AreFoundBy graph (if s then boots else boots ++ kept ∷ []) (if s then found else found ++ by ∷ [])
    so true h = are
    so false h = record {
      count = ap (λ n. n + 1) (length_more found by) ∙ ap (λ n. n + 1) are.count ∙ sym (length_more boots kept);
      each = λ place other at. each place other (at_end found by place other at);
    }
      where
        length_more : {X : Type 0} (xs : List X) (x : X) → length (xs ++ x ∷ []) ≡ length xs + 1
        length_more [] x = refl
        length_more (y ∷ xs) x = let rest = length_more xs x in omega (arith, rest)

        each : (place : ℕ) (other : FoundBy) → AtEnd found by place other → IsFoundBy graph (place + 1) other
        each place other (before e) = are.each place other e
        each place other (last at e) =
            let here : place + 1 ≡ length boots = ap (λ n. n + 1) at ∙ are.count in
            subst (IsFoundBy graph (place + 1)) (sym e) (record {
              before = subst (λ n. by.place < n) (sym here) within;
              ways = ways;
              way = w;
              there = there;
              is = is;
              leads = subst (λ n. Contains (numbers w) (n + 1)) (sym here) (h refl);
            })

pub longer : (boots next : List Kept) (n : ℕ) → n < length boots → n < length (with_boots boots next)
longer boots next n h =
    let m = with_more boots next in
    let long : length (with_boots boots next) ≡ length boots + length m.0 = ap length m.1 ∙ length_append boots m.0 in
    omega (arith, h, long)
  where
    length_append : {X : Type 0} (xs ys : List X) → length (xs ++ ys) ≡ length xs + length ys
    length_append [] ys = omega arith
    length_append (x ∷ xs) ys = let rest = length_append xs ys in omega (arith, rest)

-- all boots that a way leads to
pub found_all : (graph : List (List Way)) (by : FoundBy) (ways : List Way) (w : Way) (boots next : List Kept) (found : List FoundBy) → by.place < length boots → slice_get graph by.place ≡ Some ways → slice_get ways by.way ≡ Some w
    → AllByRecursion (λ kept. Contains (numbers w) (number_of (with_boots boots next) kept)) next → AreFoundBy graph boots found → AreFoundBy graph (with_boots boots next) (with_findings by boots next found)
found_all graph by ways w boots [] found within there is leads are = are
found_all graph by ways w boots (kept ∷ next) found within there is leads are =
    found_all graph by ways w (with_boot boots kept) next (with_finding by boots kept found) (longer boots (kept ∷ []) by.place within) there is leads.1
    (found_one graph by ways w boots kept found within there is (λ new. subst (Contains (numbers w)) (number new) leads.0) are)
  where
    number : list_any (same_kept kept) boots ≡ false → number_of (with_boots boots (kept ∷ next)) kept ≡ length boots + 1
    number new =
        number_stays (with_boot boots kept) (with_boots boots (kept ∷ next)) kept (with_more (with_boot boots kept) next) (one_is_in boots kept)
        ∙ ap (λ (s : Bool). number_of (if s then boots else boots ++ kept ∷ []) kept) new ∙ place_of_last boots kept new

-- the boots after an ending are numbers of its way
next_numbered : (boots : List Kept) (next : Next) (w : Way) → w.next ≡ number_of boots next.saved → w.changed ≡ option_map (number_of boots) next.changed → AllByRecursion (λ kept. Contains (numbers w) (number_of boots kept)) (both next)
next_numbered boots next w first second = (
  subst (Contains (numbers w)) first (first_of_them w.next (option_to_list w.changed)),
  rest next.changed second,
)
  where
    first_of_them : (n : ℕ) (ns : List ℕ) → Contains (n ∷ ns) n
    first_of_them n ns = (0, omega arith, refl)

    rest : (changed : Option Kept) → w.changed ≡ option_map (number_of boots) changed → AllByRecursion (λ kept. Contains (numbers w) (number_of boots kept)) (option_to_list changed)
    rest None e = tt
    rest (Some kept) e = (subst (λ (c : Option ℕ). Contains (w.next ∷ option_to_list c) (number_of boots kept)) (sym e) (1, omega arith, refl), tt)

-- one more way
pub stays_found : (by : FoundBy) (next : Next) (old new : List Kept) (found found' : List FoundBy) (ways : List Way) (w : Way) → by.way ≡ length ways → w.next ≡ number_of new next.saved → w.changed ≡ option_map (number_of new) next.changed
    → new ≡ with_boots old (both next) → found' ≡ with_findings by old (both next) found → StaysFound by.place ways (ways ++ w ∷ []) old new found found'
stays_found by next old new found found' ways w way first second boots findings graph long within are =
    let graph' = graph ++ (ways ++ w ∷ []) ∷ [] in
    let numbered = next_numbered new next w first second in
    let all = found_all graph' by (ways ++ w ∷ []) w old (both next) found within
    (ap (slice_get graph') (sym long) ∙ get_last graph (ways ++ w ∷ [])) (ap (slice_get (ways ++ w ∷ [])) way ∙ get_last ways w)
    (subst (λ b. AllByRecursion (λ kept. Contains (numbers w) (number_of b kept)) (both next)) boots numbered)
    (all_kept (graph ++ ways ∷ []) graph' old found (keeps_way graph ways (w ∷ [])) are) in
    subst (λ f. AreFoundBy graph' new f) (sym findings) (subst (λ b. AreFoundBy graph' b (with_findings by old (both next) found)) (sym boots) all)

-- ---- the boots after an ending

pub adds_both : (by : FoundBy) (next : Next) (kept : Kept) (old now new : List Kept) (found found_now found_new : List FoundBy) (first second : ℕ) → next.changed ≡ Some kept → now ≡ with_boot old next.saved → new ≡ with_boot now kept
    → found_now ≡ with_finding by old next.saved found → found_new ≡ with_finding by now kept found_now → first ≡ number_of now next.saved → second ≡ number_of new kept
    → AddsNext by next old new found found_new (record { next = first; changed = Some second })
adds_both by next kept old now new found found_now found_new first second is one two by_one by_two first_is second_is =
    let boots : new ≡ with_boots old (both next) = two ∙ ap (λ b. with_boot b kept) one ∙ ap (λ (c : Option Kept). with_boots old (next.saved ∷ option_to_list c)) (sym is) in
    let further = with_one now kept in
    let there : IsIn now next.saved = subst (λ b. IsIn b next.saved) (sym one) (one_is_in old next.saved) in
    record {
      boots = boots;
      findings = by_two ∙ ap (λ b. with_finding by b kept found_now) one ∙ ap (with_finding by (with_boot old next.saved) kept) by_one ∙ ap (λ (c : Option Kept). with_findings by old (next.saved ∷ option_to_list c) found) (sym is);
      next_is = first_is ∙ sym (number_stays now new next.saved (further.0, two ∙ further.1) there);
      changed_is = ap Some second_is ∙ ap (option_map (number_of new)) (sym is);
    }

-- the first boot was found by no way
pub first_found : (graph : List (List Way)) (kept : Kept) → AreFoundBy graph (kept ∷ []) []
first_found graph kept = record { count = refl; each = λ place by at. absurd (let f = at in cc) }
