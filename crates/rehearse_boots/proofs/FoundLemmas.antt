-- All boots, from those that were explored so far.
use Rattle.std.proofs.Common.{◌≡◌, ℕ, zero, suc, ◌+◌, ◌<◌, ◌≤◌, Bool, true, false, cond, List, [], ◌∷◌, ◌++◌, length, map, take, Option, Some, None, option_map, refl, sym, ap, subst, ◌∙◌, add-one, append-nil, arith, codes, decimal}
use Rattle.std.specs.List.{AllByRecursion, Contains, flat_map, slice_get}
use Rattle.std.proofs.lemmas.Grind.{flat_map-append}
use Rattle.std.proofs.lemmas.List.{take-append-le}
use Rattle.std.proofs.lemmas.List.Elements.{Contains-get_or, recursion_from_All}
use Rattle.std.proofs.lemmas.List.Sums.{fold-append}
use Rattle.std.proofs.lemmas.Option.{slice_get_within}
use Rattle.envimage.proofs.LawLemmas.{all-append}
use Rattle.rehearse_boots.specs.Boots.{Asked, Boot, Expected, IsReached, Kept, Next, StartOf, boot_of, first_of, found_from, is_followed, is_next, next_after, next_boots, next_by, next_of, number_of, rehearsed, told_apart, Started, ways_of, with_boot}
use Rattle.rehearse_boots.specs.BootLines.{then_text, way_lines_to, way_text}
use Rattle.rehearse_boots.specs.Expecting.{is_clean}
use Rattle.rehearse_boots.specs.Exploring.{AddsBoot, AddsStarted, AddsWays, AreTold, followed, next_of_all, with_boots}
use Rattle.rehearse_boots.specs.Ways.{Way, graph_of, is_met, way_of, ways_in}
use Rattle.rehearse_boots.proofs.BootLemmas.{IsIn, More, map_append, next_are_in, with_more, ways_stay, all_with}
use Rattle.device_list.specs.DeviceList.{Devices}
use Rattle.rehearse_rules.specs.Expected.{Answered, unexpected_of}
use Rattle.rehearse_rules.specs.Listing.{line}
use Rattle.rehearse_states.proofs.EndingLineLemmas.{row_told}
use Rattle.rehearse_states.specs.EndingLines.{failing, fails_lines, lines_below, value_lines}
use Rattle.rehearse_states.specs.Drawing.{failing_on}
use Rattle.rehearse_states.specs.Endings.{Row, endings}
use Rattle.rehearse_states.specs.Flow.{IsFlow, Node, Seen}
use Rattle.rehearse_states.specs.RowsShown.{saturated}
use Rattle.rehearse_terms.specs.Outcomes.{OutcomeWord}
use Rattle.rehearse_terms.specs.State.{Text}

-- ---- counts up to the greatest, and what fails by the flow

module _ (asked : Asked) where
  followed_saturated : (rows : List Row) → followed asked (map saturated rows) ≡ map saturated (followed asked rows)
  followed_saturated [] = refl
  followed_saturated (r ∷ rows) = by (is_followed asked r) (followed_saturated rows)
    where
      by : (s : Bool) → followed asked (map saturated rows) ≡ map saturated (followed asked rows) → (cond s (saturated r ∷ followed asked (map saturated rows)) (followed asked (map saturated rows))) ≡ map saturated (cond s (r ∷ followed asked rows) (followed asked rows))
      by true rest = ap (λ t. saturated r ∷ t) rest
      by false rest = rest

  next_saturated : (saved : Kept) (rows : List Row) → flat_map (next_after asked saved) (map saturated rows) ≡ flat_map (next_after asked saved) rows
  next_saturated saved [] = refl
  next_saturated saved (r ∷ rows) = ap (λ t. next_after asked saved r ++ t) (next_saturated saved rows)

  pub next_of_saturated : (saved : Kept) (rows : List Row) → next_of_all asked saved (map saturated rows) ≡ next_of_all asked saved rows
  next_of_saturated saved rows = ap (flat_map (next_after asked saved)) (followed_saturated rows) ∙ next_saturated saved (followed asked rows)

  lines_saturated : (boots : List Kept) (fails other : OutcomeWord → List Answered) → ((w : OutcomeWord) → fails w ≡ other w) → (r : Row) (next : Next) → way_lines_to asked boots fails (saturated r) next ≡ way_lines_to asked boots other r next
  lines_saturated boots fails other same r next =
      let number : ℕ = number_of boots next.saved in
      let changed : Option ℕ = option_map (number_of boots) next.changed in
      ap (λ t. line (t ++ codes " next " ++ decimal number ++ then_text changed) ++ lines_below asked.names fails (saturated r)) (row_told r)
      ∙ ap (λ (commands : List Answered). line (way_text r number changed) ++ (value_lines asked.names r.run_end.values ++ fails_lines commands)) (same r.fewest.0)

  met_saturated : (expected : Option Expected) (r : Row) → is_met asked expected (saturated r) ≡ is_met asked expected r
  met_saturated None r = refl
  met_saturated (Some expected) r = refl

  way_saturated : (boots : List Kept) (saved : Kept) (fails other : OutcomeWord → List Answered) → ((w : OutcomeWord) → fails w ≡ other w) → (r : Row) → way_of asked boots saved fails (saturated r) ≡ way_of asked boots saved other r
  way_saturated boots saved fails other same r =
      let next = next_of asked saved r in
      ap (λ (lines : Text). record {
        lines = lines;
        next = number_of boots next.saved;
        changed = option_map (number_of boots) next.changed;
        is_clean = is_clean r;
        is_expected = is_met asked asked.expected (saturated r);
      }) (lines_saturated boots fails other same r next)
      ∙ ap (λ (expected : Bool). record {
        lines = way_lines_to asked boots other r next;
        next = number_of boots next.saved;
        changed = option_map (number_of boots) next.changed;
        is_clean = is_clean r;
        is_expected = expected;
      }) (met_saturated asked.expected r)

  all_saturated : (boots : List Kept) (saved : Kept) (fails other : OutcomeWord → List Answered) → ((w : OutcomeWord) → fails w ≡ other w) → (rows : List Row) → map (way_of asked boots saved fails) (map saturated rows) ≡ map (way_of asked boots saved other) rows
  all_saturated boots saved fails other same [] = refl
  all_saturated boots saved fails other same (r ∷ rows) =
      ap (λ t. t ∷ map (way_of asked boots saved fails) (map saturated rows)) (way_saturated boots saved fails other same r)
      ∙ ap (λ t. way_of asked boots saved other r ∷ t) (all_saturated boots saved fails other same rows)

  pub ways_saturated : (boots : List Kept) (saved : Kept) (fails other : OutcomeWord → List Answered) → ((w : OutcomeWord) → fails w ≡ other w) → (rows : List Row) → map (way_of asked boots saved fails) (followed asked (map saturated rows)) ≡ map (way_of asked boots saved other) (followed asked rows)
  ways_saturated boots saved fails other same rows =
      ap (map (way_of asked boots saved fails)) (followed_saturated rows) ∙ all_saturated boots saved fails other same (followed asked rows)

-- the ways from a boot that starts so
pub started_adds : (asked : Asked) (kept : Kept) (s : Started) (b : Boot) (names : List Text) (devices : Devices) (nodes : List Node) (rows : List Row) (old new : List Kept) (after : List Way) → rehearsed asked kept s ≡ Some b → names ≡ told_apart asked
    → rows ≡ map saturated (endings names b.task) → b.task.limits.devices ≡ devices → IsFlow b.task nodes → AddsWays asked b.saved (failing_on devices nodes) rows old new [] after → AddsStarted asked kept s old new after
started_adds asked kept s b names devices nodes rows old new after is apart are same flow adds =
    let all : List Row = endings (told_apart asked) b.task in
    let rows_are : rows ≡ map saturated all = are ∙ ap (λ (n : List Text). map saturated (endings n b.task)) apart in
    let fails : (w : OutcomeWord) → failing_on devices nodes w ≡ failing b.task w = λ w. ap (λ (d : Devices). failing_on d nodes w) (sym same) ∙ ap (λ (seen : Seen). unexpected_of b.task.limits.devices seen.log) (flow w) in
    record {
      boot = b;
      is = is;
      boots = adds.boots ∙ ap (with_boots old) (ap (next_of_all asked b.saved) rows_are ∙ next_of_saturated asked b.saved all);
      ways = adds.ways ∙ ap (λ r. map (way_of asked new b.saved (failing_on devices nodes)) (followed asked r)) rows_are ∙ ways_saturated asked new b.saved (failing_on devices nodes) (failing b.task) fails all;
    }

-- ---- boots that are reached

contained : {X : Type 0} (xs : List X) → AllByRecursion (Contains xs) xs
contained xs = recursion_from_All (Contains xs) xs (λ k d l. Contains-get_or xs k d l)

all_map : {X : Type 0} (P Q : X → Type 0) (xs : List X) → ((x : X) → P x → Q x) → AllByRecursion P xs → AllByRecursion Q xs
all_map P Q [] f h = tt
all_map P Q (x ∷ xs) f h = (f x h.0, all_map P Q xs f h.1)

all_front : {X : Type 0} (P : X → Type 0) (xs ys : List X) → AllByRecursion P (xs ++ ys) → AllByRecursion P xs
all_front P [] ys h = tt
all_front P (x ∷ xs) ys h = (h.0, all_front P xs ys h.1)

pub at_place : {X : Type 0} (P : X → Type 0) (xs : List X) (i : ℕ) (x : X) → slice_get xs i ≡ Some x → AllByRecursion P xs → P x
at_place P [] i x e h = absurd (let f = e in cc)
at_place P (y ∷ xs) zero x e h = subst P (let f = e in cc) h.0
at_place P (y ∷ xs) (suc i) x e h = at_place P xs i x e h.1

pub past_places : {X : Type 0} (xs : List X) (i : ℕ) → slice_get xs i ≡ None → length xs ≤ i
past_places [] i e = omega arith
past_places (x ∷ xs) zero e = absurd (let f = e in cc)
past_places (x ∷ xs) (suc i) e = let rest = past_places xs i e in omega (arith, rest)

take-suc : {X : Type 0} (xs : List X) (i : ℕ) (x : X) → slice_get xs i ≡ Some x → take (suc i) xs ≡ take i xs ++ x ∷ []
take-suc [] i x e = absurd (let f = e in cc)
take-suc (y ∷ xs) zero x e = ap (λ z. z ∷ []) (let f = e in cc)
take-suc (y ∷ xs) (suc i) x e = ap (λ t. y ∷ t) (take-suc xs i x e)

-- the first so many of more boots, and one more
pub take_more : {X : Type 0} (old new more : List X) (i : ℕ) (x : X) → new ≡ old ++ more → slice_get old i ≡ Some x → take (i + 1) new ≡ take i old ++ x ∷ []
take_more old new more i x e at =
    let within : i < length old = slice_get_within old i x at in
    ap (take (i + 1)) e ∙ take-append-le (i + 1) old more (omega (arith, within)) ∙ rw add-one (take-suc old i x at)

module _ (start_of : StartOf) (asked : Asked) where
  pub all_next_reached : (kept : Kept) → IsReached start_of asked kept → AllByRecursion (IsReached start_of asked) (next_boots start_of asked kept)
  all_next_reached kept h =
      all_map (Contains (next_boots start_of asked kept)) (IsReached start_of asked) (next_boots start_of asked kept) (λ x c. is_next kept x h c) (contained (next_boots start_of asked kept))

  next_is : (kept : Kept) (b : Boot) → boot_of start_of asked kept ≡ Some b → next_boots start_of asked kept ≡ flat_map (next_after asked b.saved) (ways_of asked b.task)
  next_is kept b e = ap (next_by asked) e

  pub reached_with : (kept : Kept) (b : Boot) (front behind old : List Kept) → IsReached start_of asked kept → boot_of start_of asked kept ≡ Some b → flat_map (next_after asked b.saved) (ways_of asked b.task) ≡ front ++ behind
      → AllByRecursion (IsReached start_of asked) old → AllByRecursion (IsReached start_of asked) (with_boots old front)
  reached_with kept b front behind old h e stands all =
      all_with (IsReached start_of asked) old front all
      (all_front (IsReached start_of asked) front behind (subst (AllByRecursion (IsReached start_of asked)) (next_is kept b e ∙ stands) (all_next_reached kept h)))

  -- ---- the ways from boots stay when more are found

  ways_in_stay : (old new : List Kept) (o : Option Boot) → More old new → AllByRecursion (IsIn old) (next_by asked o) → ways_in asked new o ≡ ways_in asked old o
  ways_in_stay old new None more h = refl
  ways_in_stay old new (Some b) more h = ways_stay asked b.saved (failing b.task) old new (ways_of asked b.task) more h

  pub graph_stays : (old new some : List Kept) → More old new → AllByRecursion (λ kept. AllByRecursion (IsIn old) (next_boots start_of asked kept)) some → graph_of start_of asked new some ≡ graph_of start_of asked old some
  graph_stays old new [] more h = refl
  graph_stays old new (kept ∷ some) more h =
      ap (λ t. t ∷ graph_of start_of asked new some) (ways_in_stay old new (boot_of start_of asked kept) more h.0)
      ∙ ap (λ t. ways_in asked old (boot_of start_of asked kept) ∷ t) (graph_stays old new some more h.1)

  all_split : (P : Kept → Type 0) (some : List Kept) → AllByRecursion P (flat_map (next_boots start_of asked) some) → AllByRecursion (λ kept. AllByRecursion P (next_boots start_of asked kept)) some
  all_split P [] h = tt
  all_split P (kept ∷ some) h = (all_front P (next_boots start_of asked kept) (flat_map (next_boots start_of asked) some) h, all_split P some (all_behind (next_boots start_of asked kept) (flat_map (next_boots start_of asked) some) h))
    where
      all_behind : (xs ys : List Kept) → AllByRecursion P (xs ++ ys) → AllByRecursion P ys
      all_behind [] ys k = k
      all_behind (x ∷ xs) ys k = all_behind xs ys k.1

  -- each boot that follows one of those from which boots were found is among them
  pub next_there : (some boots : List Kept) → boots ≡ found_from start_of asked some → AllByRecursion (λ kept. AllByRecursion (IsIn boots) (next_boots start_of asked kept)) some
  next_there some boots e = all_split (IsIn boots) some (subst (λ x. AllByRecursion (IsIn x) (flat_map (next_boots start_of asked) some)) (sym e) (next_are_in (with_boot [] (first_of asked)) (flat_map (next_boots start_of asked) some)))

  found_on : (some : List Kept) (kept : Kept) → found_from start_of asked (some ++ kept ∷ []) ≡ with_boots (found_from start_of asked some) (next_boots start_of asked kept)
  found_on some kept =
      ap (λ t. with_boots (with_boot [] (first_of asked)) t) (flat_map-append (next_boots start_of asked) some (kept ∷ []) ∙ ap (λ t. flat_map (next_boots start_of asked) some ++ t) (append-nil (next_boots start_of asked kept)))
      ∙ fold-append with_boot (with_boot [] (first_of asked)) (flat_map (next_boots start_of asked) some) (next_boots start_of asked kept)

  -- ---- one more boot was explored

  pub told_on : (place : ℕ) (kept : Kept) (old new : List Kept) (before after : List (List Way)) → AreTold start_of asked place old before → slice_get old place ≡ Some kept → AddsBoot start_of asked kept old new before after → AreTold start_of asked (place + 1) new after
  told_on place kept old new before after told at adds =
      let next = next_boots start_of asked kept in
      let added : new ≡ with_boots old next = adds.boots ∙ ap (with_boots old) (sym (next_is kept adds.boot adds.is)) in
      let more : More old new = (let m = with_more old next in (m.0, added ∙ m.1)) in
      let first : List Kept = take place old in
      let so_far : take (place + 1) new ≡ first ++ kept ∷ [] = take_more old new more.0 place kept more.1 at in
      let reached : IsReached start_of asked kept = at_place (IsReached start_of asked) old place kept at told.reached in
      record {
        found = added ∙ ap (λ b. with_boots b next) told.found ∙ sym (found_on first kept) ∙ ap (found_from start_of asked) (sym so_far);
        reached = subst (AllByRecursion (IsReached start_of asked)) (sym added) (all_with (IsReached start_of asked) old next told.reached (all_next_reached kept reached));
        start = subst (AllByRecursion (λ k. (b : Boot) × (boot_of start_of asked k ≡ Some b))) (sym so_far) (all-append (λ k. (b : Boot) × (boot_of start_of asked k ≡ Some b)) first (kept ∷ []) told.start ((adds.boot, adds.is), tt));
        ways = adds.ways
            ∙ ap (λ t. t ++ ways_in asked new (boot_of start_of asked kept) ∷ []) (told.ways ∙ sym (graph_stays old new first more (next_there first old told.found)))
            ∙ sym (ap (graph_of start_of asked new) so_far ∙ map_append (λ k. ways_in asked new (boot_of start_of asked k)) first (kept ∷ []));
      }
