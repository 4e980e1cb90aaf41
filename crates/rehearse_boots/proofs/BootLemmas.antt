-- Boots that are found: what stays when more are found.
use Rattle.std.proofs.Common.{◌≡◌, ℕ, zero, suc, ◌+◌, ◌<◌, ◌||◌, Bool, true, false, cond, List, [], ◌∷◌, ◌++◌, length, map, take, drop, get_or, Option, Some, None, option_map, refl, sym, ap, subst, ◌∙◌, append_assoc, append-nil, not, arith, if◌then◌else◌}
use Rattle.std.specs.List.{AllByRecursion, flat_map, list_any, prefix_len}
use Rattle.std.specs.Option.{option_to_list}
use Rattle.std.specs.Prelude.{IfErr, Result, Err}
use Rattle.std.proofs.lemmas.Slice.Eq.{bytes_eq-Decides, slice_eq-Decides}
use Rattle.std.proofs.lemmas.Grind.{flat_map-append}
use Rattle.std.proofs.lemmas.List.Elements.{filter-append}
use Rattle.std.proofs.lemmas.List.Sums.{fold-append}
use Rattle.envimage.proofs.LawLemmas.{all-append}
use Rattle.rehearse_boots.specs.Boots.{Asked, Kept, Next, both, is_followed, next_after, next_of, number_of, same_kept, with_boot}
use Rattle.rehearse_boots.specs.BootLines.{way_text}
use Rattle.rehearse_boots.specs.Expecting.{is_clean}
use Rattle.rehearse_boots.specs.Exploring.{AddsWays, BreaksAt, IsWay, followed, next_of_all, with_boots}
use Rattle.rehearse_boots.specs.Ways.{Way, is_met, way_of}
use Rattle.rehearse_boots.specs.declared.boot.Numbers.{Numbers}
use Rattle.rehearse_rules.specs.Expected.{Answered}
use Rattle.rehearse_rules.specs.Listing.{line}
use Rattle.rehearse_states.specs.EndingLines.{lines_below}
use Rattle.rehearse_states.specs.Endings.{Row}
use Rattle.rehearse_states.specs.RowsShown.{row_shown}
use Rattle.rehearse_states.specs.declared.rows.Row as rt
use Rattle.rehearse_terms.specs.Outcomes.{OutcomeWord}
use Rattle.rehearse_terms.specs.State.{Text}

-- ---- a boot is among boots

abbrev pub IsIn : List Kept → Kept → Type 0
IsIn boots kept = list_any (same_kept kept) boots ≡ true

pub same_kept_itself : (kept : Kept) → same_kept kept kept ≡ true
same_kept_itself kept = (slice_eq-Decides bytes_eq-Decides kept kept (same_kept kept kept) refl).1 refl

or_true : (b c : Bool) → c ≡ true → (b || c) ≡ true
or_true true c h = refl
or_true false c h = h

-- it stays among them, at its place, before further ones
pub in_further : (boots more : List Kept) (kept : Kept) → IsIn boots kept → IsIn (boots ++ more) kept
in_further [] more kept h = absurd (let f = h in cc)
in_further (b ∷ boots) more kept h = by (same_kept kept b) (in_further boots more kept) h
  where
    by : (s : Bool) → (IsIn boots kept → IsIn (boots ++ more) kept) → (s || list_any (same_kept kept) boots) ≡ true → (s || list_any (same_kept kept) (boots ++ more)) ≡ true
    by true rest k = refl
    by false rest k = rest k

place_further : (boots more : List Kept) (kept : Kept) → IsIn boots kept → prefix_len (λ x. not (same_kept kept x)) (boots ++ more) ≡ prefix_len (λ x. not (same_kept kept x)) boots
place_further [] more kept h = absurd (let f = h in cc)
place_further (b ∷ boots) more kept h = by (same_kept kept b) (place_further boots more kept) h
  where
    by : (s : Bool) → (IsIn boots kept → prefix_len (λ x. not (same_kept kept x)) (boots ++ more) ≡ prefix_len (λ x. not (same_kept kept x)) boots) → (s || list_any (same_kept kept) boots) ≡ true → cond (not s) (1 + prefix_len (λ x. not (same_kept kept x)) (boots ++ more)) 0 ≡ cond (not s) (1 + prefix_len (λ x. not (same_kept kept x)) boots) 0
    by true rest k = refl
    by false rest k = ap (λ n. 1 + n) (rest k)

pub number_further : (boots more : List Kept) (kept : Kept) → IsIn boots kept → number_of (boots ++ more) kept ≡ number_of boots kept
number_further boots more kept h = ap (λ n. n + 1) (place_further boots more kept h)

in_last : (boots : List Kept) (kept : Kept) → IsIn (boots ++ kept ∷ []) kept
in_last [] kept = ap (λ s. s || false) (same_kept_itself kept)
in_last (b ∷ boots) kept = or_true (same_kept kept b) (list_any (same_kept kept) (boots ++ kept ∷ [])) (in_last boots kept)

place_end : (boots : List Kept) (kept : Kept) → list_any (same_kept kept) boots ≡ false → prefix_len (λ x. not (same_kept kept x)) (boots ++ kept ∷ []) ≡ length boots
place_end [] kept h = ap (λ s. cond (not s) 1 0) (same_kept_itself kept)
place_end (b ∷ boots) kept h = by (same_kept kept b) (place_end boots kept) h
  where
    by : (s : Bool) → (list_any (same_kept kept) boots ≡ false → prefix_len (λ x. not (same_kept kept x)) (boots ++ kept ∷ []) ≡ length boots) → (s || list_any (same_kept kept) boots) ≡ false
        → cond (not s) (1 + prefix_len (λ x. not (same_kept kept x)) (boots ++ kept ∷ [])) 0 ≡ suc (length boots)
    by true rest k = absurd (let f = k in cc)
    by false rest k = ap (λ n. 1 + n) (rest k) ∙ one_more (length boots)
      where
        one_more : (n : ℕ) → 1 + n ≡ suc n
        one_more n = omega arith

-- a new one goes last
pub place_of_last : (boots : List Kept) (kept : Kept) → list_any (same_kept kept) boots ≡ false → number_of (boots ++ kept ∷ []) kept ≡ length boots + 1
place_of_last boots kept h = ap (λ n. n + 1) (place_end boots kept h)

-- ---- one more boot

-- it is added after the others, if it is new
abbrev pub More : (old new : List Kept) → Type 0
More old new = (more : List Kept) × (new ≡ old ++ more)

pub with_one : (boots : List Kept) (kept : Kept) → More boots (with_boot boots kept)
with_one boots kept = by (list_any (same_kept kept) boots)
  where
    by : (s : Bool) → More boots (if s then boots else boots ++ kept ∷ [])
    by true = ([], sym (append-nil boots))
    by false = (kept ∷ [], refl)

pub one_is_in : (boots : List Kept) (kept : Kept) → IsIn (with_boot boots kept) kept
one_is_in boots kept = by (list_any (same_kept kept) boots) refl
  where
    by : (s : Bool) → list_any (same_kept kept) boots ≡ s → IsIn (if s then boots else boots ++ kept ∷ []) kept
    by true h = h
    by false h = in_last boots kept

pub more_on : (a b c : List Kept) → More a b → More b c → More a c
more_on a b c h k = (h.0 ++ k.0, k.1 ∙ ap (λ x. x ++ k.0) h.1 ∙ append_assoc a h.0 k.0)

-- each of some boots is among them, when they are added
pub with_more : (boots next : List Kept) → More boots (with_boots boots next)
with_more boots [] = ([], sym (append-nil boots))
with_more boots (n ∷ next) = more_on boots (with_boot boots n) (with_boots boots (n ∷ next)) (with_one boots n) (with_more (with_boot boots n) next)

pub in_more : (old new : List Kept) (kept : Kept) → More old new → IsIn old kept → IsIn new kept
in_more old new kept more h = subst (λ x. IsIn x kept) (sym more.1) (in_further old more.0 kept h)

pub all_in_more : (old new xs : List Kept) → More old new → AllByRecursion (IsIn old) xs → AllByRecursion (IsIn new) xs
all_in_more old new [] more h = h
all_in_more old new (x ∷ xs) more h = (in_more old new x more h.0, all_in_more old new xs more h.1)

pub next_are_in : (boots next : List Kept) → AllByRecursion (IsIn (with_boots boots next)) next
next_are_in boots [] = tt
next_are_in boots (n ∷ next) =
    (in_more (with_boot boots n) (with_boots boots (n ∷ next)) n (with_more (with_boot boots n) next) (one_is_in boots n), next_are_in (with_boot boots n) next)

-- what holds of the boots and of those that are added holds of all
pub all_with : (P : Kept → Type 0) (boots next : List Kept) → AllByRecursion P boots → AllByRecursion P next → AllByRecursion P (with_boots boots next)
all_with P boots [] h k = h
all_with P boots (n ∷ next) h k = all_with P (with_boot boots n) next (by (list_any (same_kept n) boots)) k.1
  where
    by : (s : Bool) → AllByRecursion P (if s then boots else boots ++ n ∷ [])
    by true = h
    by false = all-append P boots (n ∷ []) h (k.0, tt)

-- ---- ways stay when more boots are found

-- a way to boots of these numbers
abbrev pub way_with : Asked → (fails : OutcomeWord → List Answered) → Row → (next : ℕ) → (changed : Option ℕ) → Way
way_with asked fails r next changed = record {
  lines = line (way_text r next changed) ++ lines_below asked.names fails r;
  next = next;
  changed = changed;
  is_clean = is_clean r;
  is_expected = is_met asked asked.expected r;
}

pub number_stays : (old new : List Kept) (kept : Kept) → More old new → IsIn old kept → number_of new kept ≡ number_of old kept
number_stays old new kept more h = ap (λ x. number_of x kept) more.1 ∙ number_further old more.0 kept h

changed_stays : (old new : List Kept) (changed : Option Kept) → More old new → AllByRecursion (IsIn old) (option_to_list changed) → option_map (number_of new) changed ≡ option_map (number_of old) changed
changed_stays old new None more h = refl
changed_stays old new (Some kept) more h = ap Some (number_stays old new kept more h.0)

module _ (asked : Asked) (saved : Kept) (fails : OutcomeWord → List Answered) where
  way_stays : (old new : List Kept) (r : Row) → More old new → AllByRecursion (IsIn old) (next_after asked saved r) → way_of asked new saved fails r ≡ way_of asked old saved fails r
  way_stays old new r more h =
      let next = next_of asked saved r in
      ap (λ n. way_with asked fails r n (option_map (number_of new) next.changed)) (number_stays old new next.saved more h.0)
      ∙ ap (λ c. way_with asked fails r (number_of old next.saved) c) (changed_stays old new next.changed more h.1)

  all_cut : (P : Kept → Type 0) (xs ys : List Kept) → AllByRecursion P (xs ++ ys) → AllByRecursion P xs × AllByRecursion P ys
  all_cut P [] ys h = (tt, h)
  all_cut P (x ∷ xs) ys h = let rest = all_cut P xs ys h.1 in ((h.0, rest.0), rest.1)

  pub ways_stay : (old new : List Kept) (rows : List Row) → More old new → AllByRecursion (IsIn old) (flat_map (next_after asked saved) rows) → map (way_of asked new saved fails) rows ≡ map (way_of asked old saved fails) rows
  ways_stay old new [] more h = refl
  ways_stay old new (r ∷ rows) more h =
      let parts = all_cut (IsIn old) (next_after asked saved r) (flat_map (next_after asked saved) rows) h in
      ap (λ t. t ∷ map (way_of asked new saved fails) rows) (way_stays old new r more parts.0)
      ∙ ap (λ t. way_of asked old saved fails r ∷ t) (ways_stay old new rows more parts.1)

-- ---- rows so far

followed_append : (asked : Asked) (xs ys : List Row) → followed asked (xs ++ ys) ≡ followed asked xs ++ followed asked ys
followed_append asked xs ys = filter-append (is_followed asked) xs ys

pub map_append : {X Y : Type 0} (f : X → Y) (xs ys : List X) → map f (xs ++ ys) ≡ map f xs ++ map f ys
map_append f [] ys = refl
map_append f (x ∷ xs) ys = ap (λ t. f x ∷ t) (map_append f xs ys)

pub next_append : (asked : Asked) (saved : Kept) (xs ys : List Row) → next_of_all asked saved (xs ++ ys) ≡ next_of_all asked saved xs ++ next_of_all asked saved ys
next_append asked saved xs ys = ap (flat_map (next_after asked saved)) (followed_append asked xs ys) ∙ flat_map-append (next_after asked saved) (followed asked xs) (followed asked ys)

-- the boots and the ways of some endings, and then those of others
module _ (asked : Asked) (saved : Kept) (fails : OutcomeWord → List Answered) (start : List Kept) (before : List Way) where
  pub boots_on : (xs ys : List Row) (now next : List Kept) → now ≡ with_boots start (next_of_all asked saved xs) → next ≡ with_boots now (next_of_all asked saved ys) → next ≡ with_boots start (next_of_all asked saved (xs ++ ys))
  boots_on xs ys now next h k =
      k ∙ ap (λ b. with_boots b (next_of_all asked saved ys)) h
      ∙ sym (fold-append with_boot start (next_of_all asked saved xs) (next_of_all asked saved ys))
      ∙ ap (with_boots start) (sym (next_append asked saved xs ys))

  pub list_on : (xs ys : List Row) (now next : List Kept) (so_far later : List Way) → now ≡ with_boots start (next_of_all asked saved xs) → next ≡ with_boots now (next_of_all asked saved ys)
      → so_far ≡ before ++ map (way_of asked now saved fails) (followed asked xs) → later ≡ so_far ++ map (way_of asked next saved fails) (followed asked ys)
      → later ≡ before ++ map (way_of asked next saved fails) (followed asked (xs ++ ys))
  list_on xs ys now next so_far later h k first second =
      let more : More now next = (let m = with_more now (next_of_all asked saved ys) in (m.0, k ∙ m.1)) in
      let there : AllByRecursion (IsIn now) (next_of_all asked saved xs) = subst (λ b. AllByRecursion (IsIn b) (next_of_all asked saved xs)) (sym h) (next_are_in start (next_of_all asked saved xs)) in
      let stay = ways_stay asked saved fails now next (followed asked xs) more there in
      let ways : List Row → List Way = map (way_of asked next saved fails) in
      second
      ∙ ap (λ t. t ++ ways (followed asked ys)) (first ∙ ap (λ t. before ++ t) (sym stay))
      ∙ append_assoc before (ways (followed asked xs)) (ways (followed asked ys))
      ∙ ap (λ t. before ++ t) (sym (map_append (way_of asked next saved fails) (followed asked xs) (followed asked ys)) ∙ ap ways (sym (followed_append asked xs ys)))

  -- the same of all of them
  pub ways_on : (xs ys all : List Row) (now next : List Kept) (so_far later : List Way) → all ≡ xs ++ ys → AddsWays asked saved fails xs start now before so_far → AddsWays asked saved fails ys now next so_far later → AddsWays asked saved fails all start next before later
  ways_on xs ys all now next so_far later e first second = subst (λ rows. AddsWays asked saved fails rows start next before later) (sym e) (record {
    boots = boots_on xs ys now next first.boots second.boots;
    ways = list_on xs ys now next so_far later first.boots second.boots first.ways second.ways;
  })

  -- more boots than allowed, after some endings
  pub breaks_on : (most : ℕ) (xs ys zs all : List Row) (now next : List Kept) → all ≡ xs ++ (ys ++ zs) → now ≡ with_boots start (next_of_all asked saved xs) → BreaksAt (next_of_all asked saved ys) most now next → BreaksAt (next_of_all asked saved all) most start next
  breaks_on most xs ys zs all now next e h breaks =
      let first : List Kept = next_of_all asked saved xs in
      let last : List Kept = next_of_all asked saved zs in
      record {
        front = first ++ breaks.front;
        behind = breaks.behind ++ last;
        stands = ap (next_of_all asked saved) e ∙ next_append asked saved xs (ys ++ zs) ∙ ap (λ t. first ++ t) (next_append asked saved ys zs ∙ ap (λ t. t ++ last) breaks.stands ∙ append_assoc breaks.front breaks.behind last)
            ∙ sym (append_assoc first breaks.front (breaks.behind ++ last));
        boots = breaks.boots ∙ ap (λ b. with_boots b breaks.front) h ∙ sym (fold-append with_boot start first breaks.front);
        many = breaks.many;
      }

-- ---- one ending

next_of_one : (asked : Asked) (saved : Kept) (r : Row) → is_followed asked r ≡ true → next_of_all asked saved (r ∷ []) ≡ next_after asked saved r
next_of_one asked saved r is = ap (λ (s : Bool). flat_map (next_after asked saved) (cond s (r ∷ []) [])) is ∙ append-nil (next_after asked saved r)

-- the boots after it are too many
pub breaks_one : (asked : Asked) (saved : Kept) (r : Row) (next : Next) (most : ℕ) (old new : List Kept) → is_followed asked r ≡ true → next ≡ next_of asked saved r → BreaksAt (both next) most old new → BreaksAt (next_of_all asked saved (r ∷ [])) most old new
breaks_one asked saved r next most old new is e breaks =
    subst (λ n. BreaksAt n most old new) (ap both e ∙ sym (next_of_one asked saved r is)) breaks

-- the first of them is too many
pub breaks_first : (next : Next) (most : ℕ) (old new : List Kept) → new ≡ with_boot old next.saved → most < length new → BreaksAt (both next) most old new
breaks_first next most old new boots many = record { front = next.saved ∷ []; behind = option_to_list next.changed; stands = refl; boots = boots; many = many }

-- or the second
pub breaks_second : (next : Next) (kept : Kept) (most : ℕ) (old now new : List Kept) → next.changed ≡ Some kept → now ≡ with_boot old next.saved → new ≡ with_boot now kept → most < length new → BreaksAt (both next) most old new
breaks_second next kept most old now new is first second many = record {
  front = next.saved ∷ kept ∷ [];
  behind = [];
  stands = ap (λ (c : Option Kept). next.saved ∷ option_to_list c) is;
  boots = second ∙ ap (λ b. with_boot b kept) first;
  many = many;
}

way_is : (way : Way) (lines : Text) (next : ℕ) (changed : Option ℕ) (clean expected : Bool) → way.lines ≡ lines → way.next ≡ next → way.changed ≡ changed → way.is_clean ≡ clean → way.is_expected ≡ expected
    → way ≡ record { lines = lines; next = next; changed = changed; is_clean = clean; is_expected = expected }
way_is way lines next changed clean expected a b c d e =
    ap (λ (x : Text). record { lines = x; next = way.next; changed = way.changed; is_clean = way.is_clean; is_expected = way.is_expected }) a
    ∙ ap (λ (x : ℕ). record { lines = lines; next = x; changed = way.changed; is_clean = way.is_clean; is_expected = way.is_expected }) b
    ∙ ap (λ (x : Option ℕ). record { lines = lines; next = next; changed = x; is_clean = way.is_clean; is_expected = way.is_expected }) c
    ∙ ap (λ (x : Bool). record { lines = lines; next = next; changed = changed; is_clean = x; is_expected = way.is_expected }) d
    ∙ ap (λ (x : Bool). record { lines = lines; next = next; changed = changed; is_clean = clean; is_expected = x }) e

-- the way of an ending
pub one_way : (asked : Asked) (saved : Kept) (fails : OutcomeWord → List Answered) (r : Row) (next : Next) (boots : List Kept) (numbers : Numbers) (way : Way) → next ≡ next_of asked saved r
    → numbers.next ≡ number_of boots next.saved → numbers.changed ≡ option_map (number_of boots) next.changed → IsWay asked fails r numbers way → way ≡ way_of asked boots saved fails r
one_way asked saved fails r next boots numbers way e first second is =
    way_is way (line (way_text r numbers.next numbers.changed) ++ lines_below asked.names fails r) numbers.next numbers.changed (is_clean r) (is_met asked asked.expected r)
    is.lines is.next_is is.changed_is is.clean is.expected
    ∙ ap (λ n. way_with asked fails r n numbers.changed) first ∙ ap (λ c. way_with asked fails r (number_of boots next.saved) c) second
    ∙ ap (λ (n : Next). way_with asked fails r (number_of boots n.saved) (option_map (number_of boots) n.changed)) e

pub adds_one : (asked : Asked) (saved : Kept) (fails : OutcomeWord → List Answered) (r : Row) (next : Next) (old new : List Kept) (before : List Way) (way : Way) → is_followed asked r ≡ true → next ≡ next_of asked saved r
    → new ≡ with_boots old (both next) → way ≡ way_of asked new saved fails r → AddsWays asked saved fails (r ∷ []) old new before (before ++ way ∷ [])
adds_one asked saved fails r next old new before way is e boots way_e = record {
  boots = boots ∙ ap (with_boots old) (ap both e ∙ sym (next_of_one asked saved r is));
  ways = ap (λ w. before ++ w ∷ []) way_e ∙ ap (λ (s : Bool). before ++ map (way_of asked new saved fails) (cond s (r ∷ []) [])) (sym is);
}

pub adds_none : (asked : Asked) (saved : Kept) (fails : OutcomeWord → List Answered) (r : Row) (boots : List Kept) (ways : List Way) → is_followed asked r ≡ false → AddsWays asked saved fails (r ∷ []) boots boots ways ways
adds_none asked saved fails r boots ways is = record {
  boots = ap (λ (s : Bool). with_boots boots (flat_map (next_after asked saved) (cond s (r ∷ []) []))) (sym is);
  ways = sym (append-nil ways) ∙ ap (λ (s : Bool). ways ++ map (way_of asked boots saved fails) (cond s (r ∷ []) [])) (sym is);
}

-- a list, before, at and after a place
pub around : {X : Type 0} (xs : List X) (i : ℕ) (x : X) → i < length xs → x ≡ get_or xs i x → xs ≡ take i xs ++ (x ∷ [] ++ drop (suc i) xs)
around [] i x within is = absurd (omega (arith, within))
around (y ∷ xs) zero x within is = ap (λ z. z ∷ xs) (sym is)
around (y ∷ xs) (suc i) x within is = ap (λ t. y ∷ t) (around xs i x (omega (arith, within)) is)

pub rows_around : (rows : List rt.Row) (i : ℕ) (row : rt.Row) → i < length rows → row ≡ get_or rows i row → map row_shown rows ≡ map row_shown (take i rows) ++ (row_shown row ∷ [] ++ map row_shown (drop (suc i) rows))
rows_around rows i row within is =
    ap (map row_shown) (around rows i row within is) ∙ map_append row_shown (take i rows) (row ∷ [] ++ drop (suc i) rows)

-- what holds of an error that is passed on
pub passed_on : {A E : Type 0} (P : E → Type 0) (r : Result A E) (e : E) → r ≡ Err e → P e → IfErr r P
passed_on P r e is h = subst (λ x. IfErr x P) (sym is) h
