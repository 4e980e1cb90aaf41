-- From the ways that were kept to the boots themselves: which boots lead to the ending that is expected, and the lines.
use Rattle.std.proofs.Common.{◌≡◌, ℕ, zero, suc, ◌+◌, ◌-◌, ◌<◌, ◌≤◌, inl, inr, Bool, true, false, cond, ◌||◌, ◌&&◌, not, List, [], ◌∷◌, ◌++◌, length, map, take, drop, get_or, Option, Some, None, option_map, refl, sym, ap, subst, ◌∙◌, append_assoc, append-nil, arith, reverse}
use Rattle.std.specs.List.{All, AllByRecursion, enumerate_from, flat_map, list_all, list_any, position, position_or_len, prefix_len, slice_get}
use Rattle.std.specs.Option.{option_to_list}
use Rattle.std.proofs.lemmas.List.{length-map, length-take-le, map_more, take_all}
use Rattle.std.proofs.lemmas.Grind.{common_steps, flat_map-append}
use Rattle.std.proofs.lemmas.List.Sums.{fails_before_first}
use Rattle.std.proofs.lemmas.List.Elements.{All-from_recursion, filter-append}
use Rattle.std.proofs.lemmas.List.Folds.{list_any-append}
use Rattle.bootstore_state.proofs.PresentLemmas.{reverse-push}
use Rattle.std.proofs.lemmas.List.Quantifiers.{position-Some}
use Rattle.std.proofs.lemmas.Option.{get_or_from_slice_get, slice_get-get_or, slice_get_read, slice_get_within}
use Rattle.std.proofs.lemmas.Slice.Eq.{bytes_eq-Decides, slice_eq-Decides}
use Rattle.rehearse_boots.specs.Answering.{AreWithin, GoesBack, IsGraphAnswer, IsGraphAnswerBy, IsLostAnswer, IsWalk, IsWellExplored, clean_places, lost_boot, lost_text, one_text, step_at, step_text, text_at, way_at}
use Rattle.rehearse_boots.specs.Boots.{Asked, Boot, Expected, Kept, Next, StartOf, boot_of, both, first_of, found_from, next_after, next_boots, next_by, next_of, number_of, same_kept, ways_of}
use Rattle.rehearse_boots.specs.BootLines.{all_line, boot_text, boots_text, head_text, way_lines, ways_text}
use Rattle.rehearse_boots.specs.Expecting.{AllLead, IsWayTo, Leads, LeadsBy, LeadsOn, OneIsLost, begins, ends, goes_on, is_clean, is_expected, leads, lost_line}
use Rattle.rehearse_boots.specs.Exploring.{IsExplored}
use Rattle.rehearse_boots.specs.Leading as places
use Rattle.rehearse_boots.specs.TellingBoots.{IsAnswer}
use Rattle.rehearse_boots.specs.Ways.{AreFoundBy, IsFoundBy, Way, clean_numbers, clean_ways, graph_of, has_goal, is_goal, is_met, numbers, way_of, way_shown, ways_in}
use Rattle.rehearse_boots.specs.declared.found.FoundBy.{FoundBy}
use Rattle.rehearse_boots.specs.declared.way.Way as rt
use Rattle.rehearse_boots.proofs.BootLemmas.{IsIn, around, map_append, with_more}
use Rattle.rehearse_boots.proofs.FoundLemmas.{next_there}
use Rattle.rehearse_boots.proofs.MemberLemmas.{Has, all_has, any_has, at_map, contained_has, filter_has, flat_has, has_all, has_any, has_at, has_contained, has_filter, has_flat, has_map, map_at, map_has}
use Rattle.rehearse_states.specs.EndingLines.{failing}
use Rattle.rehearse_states.specs.Endings.{Row}
use Rattle.rehearse_terms.specs.State.{Text}

-- ---- the place of a boot

same_is : (a b : Kept) → same_kept a b ≡ true → b ≡ a
same_is a b h = sym ((slice_eq-Decides bytes_eq-Decides a b (same_kept a b) refl).0 h)

abbrev pub Placed : List Kept → Kept → Type 0
Placed boots kept = (place : ℕ) × (slice_get boots place ≡ Some kept) × (number_of boots kept ≡ place + 1)

pub placed : (boots : List Kept) (kept : Kept) → IsIn boots kept → Placed boots kept
placed [] kept h = absurd (let f = h in cc)
placed (b ∷ boots) kept h = by (placed boots kept) (same_kept kept b) refl h
  where
    by : (IsIn boots kept → Placed boots kept) → (s : Bool) → same_kept kept b ≡ s → (s || list_any (same_kept kept) boots) ≡ true → Placed (b ∷ boots) kept
    by further true same k = (0, ap Some (same_is kept b same), ap (λ (s : Bool). cond (not s) (1 + prefix_len (λ x. not (same_kept kept x)) boots) 0 + 1) same)
    by further false same k =
        let rest = further k in (
          suc rest.0,
          rest.1,
          ap (λ (s : Bool). cond (not s) (1 + prefix_len (λ x. not (same_kept kept x)) boots) 0 + 1) same ∙ shift (prefix_len (λ x. not (same_kept kept x)) boots) rest.0 rest.2,
        )
      where
        shift : (p n : ℕ) → p + 1 ≡ n + 1 → 1 + p + 1 ≡ suc n + 1
        shift p n e = omega (arith, e)

-- ---- a boot and its ways

and_parts : (a b : Bool) → (a && b) ≡ true → (a ≡ true) × (b ≡ true)
and_parts true b h = (refl, h)
and_parts false b h = absurd (let f = h in cc)

both_true : (a b : Bool) → a ≡ true → b ≡ true → (a && b) ≡ true
both_true a b h k = ap (λ s. s && b) h ∙ k

-- a boot that follows has one of the numbers of the way
numbered : (boots : List Kept) (next : Next) (kept : Kept) → Has kept (both next) → Has (number_of boots kept) (number_of boots next.saved ∷ option_to_list (option_map (number_of boots) next.changed))
numbered boots next kept (inl e) = inl (ap (number_of boots) e)
numbered boots next kept (inr h) = inr (by next.changed h)
  where
    by : (changed : Option Kept) → Has kept (option_to_list changed) → Has (number_of boots kept) (option_to_list (option_map (number_of boots) changed))
    by None k = absurd k
    by (Some other) (inl e) = inl (ap (number_of boots) e)
    by (Some other) (inr k) = absurd k

-- and each number is that of a boot that follows
unnumbered : (boots : List Kept) (next : Next) (n : ℕ) → Has n (number_of boots next.saved ∷ option_to_list (option_map (number_of boots) next.changed)) → (kept : Kept) × Has kept (both next) × (number_of boots kept ≡ n)
unnumbered boots next n (inl e) = (next.saved, inl refl, e)
unnumbered boots next n (inr h) = let found = by next.changed h in (found.0, inr found.1, found.2)
  where
    by : (changed : Option Kept) → Has n (option_to_list (option_map (number_of boots) changed)) → (kept : Kept) × Has kept (option_to_list changed) × (number_of boots kept ≡ n)
    by None k = absurd k
    by (Some other) (inl e) = (other, inl refl, e)
    by (Some other) (inr k) = absurd k

module _ (start_of : StartOf) (asked : Asked) (boots : List Kept) where
  abbrev here : Kept → List Way
  here kept = ways_in asked boots (boot_of start_of asked kept)

  abbrev way : Boot → Row → Way
  way b r = way_of asked boots b.saved (failing b.task) r

  -- each boot that follows one of them is one of them
  abbrev pub AreClosed : Type 0
  AreClosed = AllByRecursion (λ kept. AllByRecursion (IsIn boots) (next_boots start_of asked kept)) boots

  pub next_placed : (kept next : Kept) (b : Boot) (r : Row) → AreClosed → Has kept boots → boot_of start_of asked kept ≡ Some b → Has r (ways_of asked b.task) → Has next (next_after asked b.saved r) → Placed boots next
  next_placed kept next b r closed there is has follows =
      let all : AllByRecursion (IsIn boots) (next_boots start_of asked kept) = all_has (λ k. AllByRecursion (IsIn boots) (next_boots start_of asked k)) boots kept closed there in
      let one : Has next (next_boots start_of asked kept) = subst (λ (o : Option Boot). Has next (next_by asked o)) (sym is) (has_flat (next_after asked b.saved) (ways_of asked b.task) r next has follows) in
      placed boots next (all_has (IsIn boots) (next_boots start_of asked kept) next all one)

  -- a way of a boot is that of one of its endings
  pub data IsWayOf (kept : Kept) (w : Way) : Type 0 where
    of_row : (b : Boot) (r : Row) → boot_of start_of asked kept ≡ Some b → Has r (ways_of asked b.task) → way b r ≡ w → IsWayOf kept w

  pub way_is_of : (kept : Kept) (w : Way) → Has w (here kept) → IsWayOf kept w
  way_is_of kept w h = by (boot_of start_of asked kept) refl h
    where
      by : (o : Option Boot) → boot_of start_of asked kept ≡ o → Has w (ways_in asked boots o) → IsWayOf kept w
      by None is k = absurd k
      by (Some b) is k = let found = map_has (way b) (ways_of asked b.task) w k in of_row b found.0 is found.1 found.2

  here_has : (kept : Kept) (b : Boot) (r : Row) → boot_of start_of asked kept ≡ Some b → Has r (ways_of asked b.task) → Has (way b r) (here kept)
  here_has kept b r is has = subst (λ (o : Option Boot). Has (way b r) (ways_in asked boots o)) (sym is) (has_map (way b) (ways_of asked b.task) r has)

  -- the place of a boot that follows, in a way in which nothing fails
  clean_has : (kept next : Kept) (b : Boot) (r : Row) (place : ℕ) → boot_of start_of asked kept ≡ Some b → Has r (ways_of asked b.task) → is_clean r ≡ true → Has next (next_after asked b.saved r) → number_of boots next ≡ place + 1 → Has place (clean_places (here kept))
  clean_has kept next b r place is has clean follows number =
      let kept_way : Has (way b r) (clean_ways (here kept)) = has_filter (λ w. w.is_clean) (here kept) (way b r) (here_has kept b r is has) clean in
      let one : Has (number_of boots next) (clean_numbers (here kept)) = has_flat numbers (clean_ways (here kept)) (way b r) (number_of boots next) kept_way (numbered boots (next_of asked b.saved r) next follows) in
      subst (λ n. Has n (clean_places (here kept))) (ap (λ n. n - 1) number ∙ minus_one place) (has_map (λ n. n - 1) (clean_numbers (here kept)) (number_of boots next) one)
    where
      minus_one : (n : ℕ) → n + 1 - 1 ≡ n
      minus_one n = omega arith

  -- and each such place is that of a boot that follows
  pub data IsCleanNext (kept : Kept) (place : ℕ) : Type 0 where
    of_next : (b : Boot) (r : Row) (next : Kept) → boot_of start_of asked kept ≡ Some b → Has r (ways_of asked b.task) → is_clean r ≡ true → Has next (next_after asked b.saved r) → number_of boots next - 1 ≡ place → IsCleanNext kept place

  clean_is : (kept : Kept) (place : ℕ) → Has place (clean_places (here kept)) → IsCleanNext kept place
  clean_is kept place h =
      let n = map_has (λ n. n - 1) (clean_numbers (here kept)) place h in
      let w = flat_has numbers (clean_ways (here kept)) n.0 n.1 in
      let from = filter_has (λ (v : Way). v.is_clean) (here kept) w.0 w.1 in
      by n.0 w.0 (way_is_of kept w.0 from.0) from.1 w.2 n.2
    where
      by : (n : ℕ) (w : Way) → IsWayOf kept w → w.is_clean ≡ true → Has n (numbers w) → n - 1 ≡ place → IsCleanNext kept place
      by n w (of_row b r is has e) clean k at =
          let next = unnumbered boots (next_of asked b.saved r) n (subst (λ (v : Way). Has n (numbers v)) (sym e) k) in
          of_next b r next.0 is has (ap (λ (v : Way). v.is_clean) e ∙ clean) next.1 (ap (λ m. m - 1) next.2 ∙ at)

  -- ---- the graph

  module _ (graph : List (List Way)) (whole : graph ≡ graph_of start_of asked boots boots) where
    at_boot : (place : ℕ) (kept : Kept) → slice_get boots place ≡ Some kept → slice_get graph place ≡ Some (here kept)
    at_boot place kept at = ap (λ g. slice_get g place) whole ∙ at_map here boots place kept at

    boot_at : (place : ℕ) (ways : List Way) → slice_get graph place ≡ Some ways → (kept : Kept) × (slice_get boots place ≡ Some kept) × (here kept ≡ ways)
    boot_at place ways at = map_at here boots place ways (ap (λ g. slice_get g place) (sym whole) ∙ at)

    module _ (expected : Expected) (is_asked : asked.expected ≡ Some expected) (closed : AreClosed) where
      abbrev goals : List Bool
      goals = map has_goal graph

      abbrev links : List (List ℕ)
      links = map clean_places graph

      met : (r : Row) → is_met asked asked.expected r ≡ is_expected asked expected r
      met r = ap (λ (e : Option Expected). is_met asked e r) is_asked

      pub leads_at : (count : ℕ) (kept : Kept) → Leads start_of asked expected count kept → (place : ℕ) → slice_get boots place ≡ Some kept → places.Leads goals links count place
      leads_at _ _ (ends count kept b r is has clean fits) place at =
          let goal : is_goal (way b r) ≡ true = both_true (is_clean r) (is_met asked asked.expected r) clean (met r ∙ fits) in
          let one : has_goal (here kept) ≡ true = has_any is_goal (here kept) (way b r) (here_has kept b r is (has_contained (ways_of asked b.task) r has)) goal in
          places.ends count place (at_map has_goal graph place (here kept) (at_boot place kept at) ∙ ap Some one)
      leads_at _ _ (goes_on count kept next b r is has clean follows rest) place at =
          let row = has_contained (ways_of asked b.task) r has in
          let after = has_contained (next_after asked b.saved r) next follows in
          let to = next_placed kept next b r closed (has_at boots place kept at) is row after in
          places.goes_on count place to.0 (clean_places (here kept)) (at_map clean_places graph place (here kept) (at_boot place kept at))
          (contained_has (clean_places (here kept)) to.0 (clean_has kept next b r to.0 is row clean after to.2)) (leads_at count next rest to.0 to.1)

      goal_ends : (count : ℕ) (kept : Kept) → has_goal (here kept) ≡ true → Leads start_of asked expected (suc count) kept
      goal_ends count kept h =
          let w = any_has is_goal (here kept) h in
          by w.0 (way_is_of kept w.0 w.1) w.2
        where
          by : (w : Way) → IsWayOf kept w → is_goal w ≡ true → Leads start_of asked expected (suc count) kept
          by w (of_row b r is has e) goal =
              let parts = and_parts (is_clean r) (is_met asked asked.expected r) (ap is_goal e ∙ goal) in
              ends count kept b r is (contained_has (ways_of asked b.task) r has) parts.0 (sym (met r) ∙ parts.1)

      pub leads_kept : (count place : ℕ) → places.Leads goals links count place → (kept : Kept) → slice_get boots place ≡ Some kept → Leads start_of asked expected count kept
      leads_kept _ _ (places.ends count place goal) kept at =
          goal_ends count kept (some_is (sym (at_map has_goal graph place (here kept) (at_boot place kept at)) ∙ goal))
        where
          some_is : {a b : Bool} → Some a ≡ Some b → a ≡ b
          some_is e = let f = e in cc
      leads_kept _ _ (places.goes_on count place next after link has rest) kept at =
          by (leads_kept count next rest) (clean_is kept next (subst (Has next) (some_is (sym link ∙ at_map clean_places graph place (here kept) (at_boot place kept at))) (has_contained after next has)))
        where
          some_is : {a b : List ℕ} → Some a ≡ Some b → a ≡ b
          some_is e = let f = e in cc

          by : ((k : Kept) → slice_get boots next ≡ Some k → Leads start_of asked expected count k) → IsCleanNext kept next → Leads start_of asked expected (suc count) kept
          by further (of_next b r k is row clean follows number) =
              let to = next_placed kept k b r closed (has_at boots place kept at) is row follows in
              let same : to.0 ≡ next = (let e = to.2 in omega (arith, e, number)) in
              goes_on count kept k b r is (contained_has (ways_of asked b.task) r row) clean (contained_has (next_after asked b.saved r) k follows)
              (further k (subst (λ p. slice_get boots p ≡ Some k) same to.1))

      -- within as many as are allowed
      pub leads_by_at : (within : Option ℕ) (kept : Kept) (place : ℕ) → slice_get boots place ≡ Some kept → LeadsBy start_of asked expected within kept → places.LeadsWithin goals links within place
      leads_by_at None kept place at h = (h.0, leads_at h.0 kept h.1 place at)
      leads_by_at (Some count) kept place at h = leads_at count kept h place at

      pub leads_by_kept : (within : Option ℕ) (kept : Kept) (place : ℕ) → slice_get boots place ≡ Some kept → places.LeadsWithin goals links within place → LeadsBy start_of asked expected within kept
      leads_by_kept None kept place at h = (h.0, leads_kept h.0 place h.1 kept at)
      leads_by_kept (Some count) kept place at h = leads_kept count place h kept at

    -- ---- the way to a boot

    pub walk_is_way : (expected : Expected) (found : List FoundBy) → AreClosed → AreFoundBy graph boots found → (walk : List FoundBy) (at place : ℕ) (here_kept kept : Kept) (lines : Text) → slice_get boots at ≡ Some here_kept
        → IsWayTo start_of asked expected boots here_kept lines → IsWalk found walk at place → slice_get boots place ≡ Some kept → IsWayTo start_of asked expected boots kept (lines ++ flat_map (step_text asked boots graph) walk)
    walk_is_way expected found closed are [] at place here_kept kept lines is so_far walk end =
        subst (λ k. IsWayTo start_of asked expected boots k (lines ++ [])) (some_is (sym is ∙ ap (slice_get boots) walk ∙ end)) (subst (IsWayTo start_of asked expected boots here_kept) (sym (append_nothing lines)) so_far)
      where
        some_is : {a b : Kept} → Some a ≡ Some b → a ≡ b
        some_is e = let f = e in cc

        append_nothing : (t : Text) → t ++ [] ≡ t
        append_nothing [] = refl
        append_nothing (b ∷ t) = ap (λ s. b ∷ s) (append_nothing t)
    walk_is_way expected found closed are (by ∷ walk) at place here_kept kept lines is so_far steps end =
        let f = are.each steps.1 by steps.2 in
        let from : slice_get graph by.place ≡ Some (here here_kept) = at_boot by.place here_kept (ap (slice_get boots) steps.0 ∙ is) in
        so f.way (way_is_of here_kept f.way (subst (Has f.way) (some_is (sym f.there ∙ from)) (has_at f.ways by.way f.way f.is))) (ap (λ o. step_at asked by.place (slice_get boots by.place) o) (way_there f from))
        (walk_is_way expected found closed are walk) (has_contained (numbers f.way) (steps.1 + 1 + 1) f.leads)
      where
        some_is : {a b : List Way} → Some a ≡ Some b → a ≡ b
        some_is e = let f = e in cc

        way_there : (f : IsFoundBy graph (steps.1 + 1) by) → slice_get graph by.place ≡ Some (here here_kept) → way_at graph by ≡ Some f.way
        way_there f from = ap (λ o. Rattle.std.specs.Option.option_and_then (λ ways. slice_get ways by.way) o) f.there ∙ f.is

        so : (w : Way) → IsWayOf here_kept w → step_text asked boots graph by ≡ step_at asked by.place (slice_get boots by.place) (Some w)
            → ((at place : ℕ) (here_kept kept : Kept) (lines : Text) → slice_get boots at ≡ Some here_kept → IsWayTo start_of asked expected boots here_kept lines → IsWalk found walk at place → slice_get boots place ≡ Some kept → IsWayTo start_of asked expected boots kept (lines ++ flat_map (step_text asked boots graph) walk))
            → Has (steps.1 + 1 + 1) (numbers w) → IsWayTo start_of asked expected boots kept (lines ++ flat_map (step_text asked boots graph) (by ∷ walk))
        so w (of_row b r boot row e) step further has =
            let next = unnumbered boots (next_of asked b.saved r) (steps.1 + 1 + 1) (subst (λ (v : Way). Has (steps.1 + 1 + 1) (numbers v)) (sym e) has) in
            let to = next_placed here_kept next.0 b r closed (has_at boots at here_kept is) boot row next.1 in
            let same : to.0 ≡ steps.1 + 1 = (let a = to.2 in let c = next.2 in omega (arith, a, c)) in
            let there : slice_get boots (steps.1 + 1) ≡ Some next.0 = subst (λ p. slice_get boots p ≡ Some next.0) same to.1 in
            let added : Text = head_text asked (at + 1) here_kept ++ way_lines asked boots b.saved (failing b.task) r in
            let lines_are : step_text asked boots graph by ≡ added =
            step ∙ ap (λ o. step_at asked by.place o (Some w)) (ap (slice_get boots) steps.0 ∙ is) ∙ ap (λ (v : Way). head_text asked (by.place + 1) here_kept ++ v.lines) (sym e) ∙ ap (λ n. head_text asked (n + 1) here_kept ++ way_lines asked boots b.saved (failing b.task) r) steps.0 in
            let one : IsWayTo start_of asked expected boots next.0 (lines ++ added) =
            leads at here_kept next.0 lines b r so_far is boot (contained_has (ways_of asked b.task) r row) (contained_has (next_after asked b.saved r) next.0 next.1) in
            subst (IsWayTo start_of asked expected boots kept)
            (append_assoc lines added (flat_map (step_text asked boots graph) walk) ∙ ap (λ t. lines ++ (t ++ flat_map (step_text asked boots graph) walk)) (sym lines_are))
            (further (steps.1 + 1) place next.0 kept (lines ++ added) there one steps.3 end)

    -- ---- lines

    ways_lines : (o : Option Boot) → flat_map (λ (w : Way). w.lines) (ways_in asked boots o) ≡ ways_text asked boots o
    ways_lines None = refl
    ways_lines (Some b) = each (ways_of asked b.task)
      where
        each : (rows : List Row) → flat_map (λ (w : Way). w.lines) (map (way b) rows) ≡ flat_map (way_lines asked boots b.saved (failing b.task)) rows
        each [] = refl
        each (r ∷ rows) = ap (λ t. way_lines asked boots b.saved (failing b.task) r ++ t) (each rows)

    pub one_is : (place : ℕ) (kept : Kept) → slice_get boots place ≡ Some kept → one_text asked boots place (here kept) ≡ boot_text start_of asked boots (place + 1) kept
    one_is place kept at =
        ap (λ o. text_at asked place o (flat_map (λ (w : Way). w.lines) (here kept))) at
        ∙ ap (λ t. head_text asked (place + 1) kept ++ t) (ways_lines (boot_of start_of asked kept))

    pub texts_are : (n : ℕ) (some : List Kept) → ((i : ℕ) (kept : Kept) → slice_get some i ≡ Some kept → slice_get boots (n + i) ≡ Some kept)
        → flat_map (λ g. one_text asked boots g.0 g.1) (enumerate_from n (graph_of start_of asked boots some)) ≡ flat_map (λ b. boot_text start_of asked boots (b.0 + 1) b.1) (enumerate_from n some)
    texts_are n [] there = refl
    texts_are n (kept ∷ some) there =
        ap (λ t. t ++ flat_map (λ g. one_text asked boots g.0 g.1) (enumerate_from (n + 1) (graph_of start_of asked boots some))) (one_is n kept (ap (slice_get boots) (plus_none n) ∙ there 0 kept refl))
        ∙ ap (λ t. boot_text start_of asked boots (n + 1) kept ++ t) (texts_are (n + 1) some (λ i k e. ap (slice_get boots) (further n i) ∙ there (suc i) k e))
      where
        plus_none : (m : ℕ) → m ≡ m + 0
        plus_none m = omega arith

        further : (m i : ℕ) → m + 1 + i ≡ m + suc i
        further m i = omega arith

-- ---- marks

un_not : (b : Bool) → not b ≡ false → b ≡ true
un_not true e = refl
un_not false e = absurd (let f = e in cc)

all_true : (marks : List Bool) (i : ℕ) → position not marks ≡ None → i < length marks → get_or marks i false ≡ true
all_true marks i e within =
    let past : length marks ≤ position_or_len not marks = grind (arith, common_steps) in
    un_not (get_or marks i false) (fails_before_first not marks i false (omega (arith, past, within)))

-- an element before the end of a front
take_at : {X : Type 0} (n : ℕ) (xs : List X) (i : ℕ) (x : X) → slice_get (take n xs) i ≡ Some x → slice_get xs i ≡ Some x
take_at zero xs i x e = absurd (let f = e in cc)
take_at (suc n) [] i x e = absurd (let f = e in cc)
take_at (suc n) (y ∷ xs) zero x e = e
take_at (suc n) (y ∷ xs) (suc i) x e = take_at n xs i x e

-- the first boot is the first that is found
first_is : (start_of : StartOf) (asked : Asked) (boots : List Kept) → boots ≡ found_from start_of asked boots → slice_get boots 0 ≡ Some (first_of asked)
first_is start_of asked boots e =
    let more = with_more (first_of asked ∷ []) (flat_map (next_boots start_of asked) boots) in
    ap (λ b. slice_get b 0) (e ∙ more.1)

-- ---- boots that were explored

module _ (start_of : StartOf) (asked : Asked) (most : ℕ) (boots : List Kept) (found : List FoundBy) (graph : List (List Way)) (is : IsExplored start_of asked most boots found graph) where
  all_boots : take (length boots) boots ≡ boots
  all_boots = take_all (length boots) boots (omega arith)

  whole : graph ≡ graph_of start_of asked boots boots
  whole = is.told.ways ∙ ap (graph_of start_of asked boots) all_boots

  closed : AreClosed start_of asked boots
  closed = next_there start_of asked boots boots (is.told.found ∙ ap (found_from start_of asked) all_boots)

  long_graph : length graph ≡ length boots
  long_graph = ap length whole ∙ length-map boots (λ kept. ways_in asked boots (boot_of start_of asked kept))

  -- the places of what follows are those of boots
  inside : AreWithin graph
  inside = All-from_recursion (All (λ n. n < length graph)) (map clean_places graph) (has_all (All (λ n. n < length graph)) (map clean_places graph) one)
    where
      one : (places : List ℕ) → Has places (map clean_places graph) → All (λ n. n < length graph) places
      one places h = All-from_recursion (λ n. n < length graph) places (has_all (λ n. n < length graph) places (by (map_has clean_places graph places h)))
        where
          by : (ways : List Way) × Has ways graph × (clean_places ways ≡ places) → (n : ℕ) → Has n places → n < length graph
          by w n k = low (map_has (λ kept. ways_in asked boots (boot_of start_of asked kept)) boots w.0 (subst (Has w.0) whole w.1))
            where
              low : (kept : Kept) × Has kept boots × (ways_in asked boots (boot_of start_of asked kept) ≡ w.0) → n < length graph
              low k2 = so (clean_is start_of asked boots k2.0 n (subst (Has n) (sym w.2 ∙ ap clean_places (sym k2.2)) k))
                where
                  so : IsCleanNext start_of asked boots k2.0 n → n < length graph
                  so (of_next b r next boot row clean follows number) =
                      let to = next_placed start_of asked boots k2.0 next b r closed k2.1 boot row follows in
                      let within = slice_get_within boots to.0 next to.1 in
                      let same = to.2 in
                      let long = long_graph in
                      omega (arith, within, same, number, long)

  goes_back : GoesBack found
  goes_back place by at = let before = (is.by.each place by at).before in omega (arith, before)

  pub well_explored : IsWellExplored boots found graph
  well_explored = record { within = inside; back = goes_back; count = is.by.count; whole = long_graph }

  pub listing_is : (text : Text) → text ≡ flat_map (λ g. one_text asked boots g.0 g.1) (enumerate_from 0 graph) ++ all_line boots → text ≡ boots_text start_of asked boots
  listing_is text e =
      e ∙ ap (λ g. flat_map (λ g. one_text asked boots g.0 g.1) (enumerate_from 0 g) ++ all_line boots) whole
      ∙ ap (λ t. t ++ all_line boots) (texts_are start_of asked boots graph whole 0 boots (λ i kept at. ap (slice_get boots) (none_more i) ∙ at))
    where
      none_more : (i : ℕ) → 0 + i ≡ i
      none_more i = omega arith

  -- ---- what is expected

  module _ (expected : Expected) (asked_is : asked.expected ≡ Some expected) (leads : List Bool) (marked : places.AreMarked (map has_goal graph) (map clean_places graph) expected.within leads) where
    long_leads : length leads ≡ length boots
    long_leads = marked.each ∙ length-map graph has_goal ∙ long_graph

    kept_leads : (place : ℕ) (kept : Kept) → slice_get boots place ≡ Some kept → slice_get leads place ≡ Some true → LeadsOn start_of asked expected kept
    kept_leads place kept at e = leads_by_kept start_of asked boots graph whole expected asked_is closed expected.within kept place at (marked.leads place e)

    kept_fails : (place : ℕ) (kept : Kept) → slice_get boots place ≡ Some kept → slice_get leads place ≡ Some false → LeadsOn start_of asked expected kept → ⊥
    kept_fails place kept at e h = marked.fails place e (leads_by_at start_of asked boots graph whole expected asked_is closed expected.within kept place at h)

    all_of : (some : List Kept) (n : ℕ) → ((i : ℕ) (kept : Kept) → slice_get some i ≡ Some kept → (slice_get boots (n + i) ≡ Some kept) × (slice_get leads (n + i) ≡ Some true)) → AllByRecursion (LeadsOn start_of asked expected) some
    all_of [] n f = tt
    all_of (kept ∷ some) n f =
        let here = f 0 kept refl in (
          kept_leads (n + 0) kept here.0 here.1,
          all_of some (n + 1) (λ i k e. let next = f (suc i) k e in (ap (slice_get boots) (further n i) ∙ next.0, ap (slice_get leads) (further n i) ∙ next.1)),
        )
      where
        further : (m i : ℕ) → m + 1 + i ≡ m + suc i
        further m i = omega arith

    -- no false before a place
    front_true : (count : ℕ) → ((k : ℕ) → k < count → not (get_or leads k false) ≡ false) → (i : ℕ) → i < count → i < length leads → slice_get leads i ≡ Some true
    front_true count h i low within = slice_get-get_or leads i false within ∙ ap Some (un_not (get_or leads i false) (h i low))

    pub none_is_lost : (text : Text) → position not leads ≡ None → text ≡ all_line boots → AllLead start_of asked expected boots text
    none_is_lost text e lines = record {
      lead = all_of boots 0 (λ i kept at. (ap (slice_get boots) (none_more i) ∙ at, ap (slice_get leads) (none_more i) ∙ leads_true i (subst (λ n. i < n) (sym long_leads) (slice_get_within boots i kept at))));
      lines = lines;
    }
      where
        none_more : (i : ℕ) → 0 + i ≡ i
        none_more i = omega arith

        leads_true : (i : ℕ) → i < length leads → slice_get leads i ≡ Some true
        leads_true i within = slice_get-get_or leads i false within ∙ ap Some (all_true leads i e within)

    pub one_lost : (place : ℕ) (text : Text) → position not leads ≡ Some place → IsLostAnswer asked boots found graph place text → OneIsLost start_of asked expected boots text
    one_lost place text e answer =
        let at = position-Some not leads place false e in
        let here : place < length boots = subst (λ n. place < n) long_leads at.0 in
        let kept = get_or boots place [] in
        let there : slice_get boots place ≡ Some kept = slice_get-get_or boots place [] here in
        let long : length (take place boots) ≡ place = length-take-le place boots (omega (arith, here)) in
        let lost : slice_get leads place ≡ Some false = slice_get-get_or leads place false at.0 ∙ ap Some (is_false (get_or leads place false) at.1) in
        let first = begins_at in
        record {
          front = take place boots;
          kept = kept;
          behind = drop (suc place) boots;
          are = around boots place kept here (sym (get_or_from_slice_get boots place kept kept there));
          lead = all_of (take place boots) 0 (λ i k at_i. front_at i k at_i at here);
          lost = kept_fails place kept there lost;
          way = flat_map (step_text asked boots graph) answer.walk;
          is_way = walk_is_way start_of asked boots graph whole expected found closed is.by answer.walk 0 place (first_of asked) kept [] first begins answer.is there;
          lines = answer.lines ∙ ap (λ t. flat_map (step_text asked boots graph) answer.walk ++ t) (lost_lines there ∙ ap (λ n. boot_text start_of asked boots (n + 1) kept ++ lost_line (n + 1)) (sym long));
        }
      where
        is_false : (b : Bool) → not b ≡ true → b ≡ false
        is_false true h = absurd (let f = h in cc)
        is_false false h = refl

        none_more : (i : ℕ) → 0 + i ≡ i
        none_more i = omega arith

        begins_at : slice_get boots 0 ≡ Some (first_of asked)
        begins_at = first_is start_of asked boots (is.told.found ∙ ap (found_from start_of asked) all_boots)

        front_at : (i : ℕ) (k : Kept) → slice_get (take place boots) i ≡ Some k → (place < length leads) × (not (get_or leads place false) ≡ true) × ((j : ℕ) → j < place → not (get_or leads j false) ≡ false) → place < length boots
            → (slice_get boots (0 + i) ≡ Some k) × (slice_get leads (0 + i) ≡ Some true)
        front_at i k at_i at there =
            let within = slice_get_within (take place boots) i k at_i in
            let long : length (take place boots) ≡ place = length-take-le place boots (omega (arith, there)) in
            let low : i < place = subst (λ n. i < n) long within in
            let known = at.0 in (
              ap (slice_get boots) (none_more i) ∙ take_at place boots i k at_i,
              ap (slice_get leads) (none_more i) ∙ front_true place at.2 i low (omega (arith, low, known)),
            )

        lost_lines : (there : slice_get boots place ≡ Some (get_or boots place [])) → lost_text asked boots graph place ≡ boot_text start_of asked boots (place + 1) (get_or boots place []) ++ lost_line (place + 1)
        lost_lines there =
            ap (λ o. lost_boot asked boots place o) (at_boot start_of asked boots graph whole place (get_or boots place []) there)
            ∙ ap (λ t. t ++ lost_line (place + 1)) (one_is start_of asked boots graph whole place (get_or boots place []) there)

  pub graph_answer : (expected : Expected) → asked.expected ≡ Some expected → (text : Text) (holds : Bool) → IsGraphAnswer asked expected.within boots found graph text holds → IsAnswer start_of asked boots (Some expected) text holds
  graph_answer expected asked_is text holds answer = by (position not answer.leads) refl answer.answer
    where
      by : (o : Option ℕ) → position not answer.leads ≡ o → IsGraphAnswerBy asked boots found graph o text holds → IsAnswer start_of asked boots (Some expected) text holds
      by None e h = subst (IsAnswer start_of asked boots (Some expected) text) (sym h.1) (none_is_lost expected asked_is answer.leads answer.marked text e h.0)
      by (Some place) e h = subst (IsAnswer start_of asked boots (Some expected) text) (sym h.1) (one_lost expected asked_is answer.leads answer.marked place text e h.0)

-- ---- of the program's ways

pub goal_found : (ways : List rt.Way) (i : ℕ) (w : rt.Way) → i < length ways → w ≡ get_or ways i w → is_goal (way_shown w) ≡ true → has_goal (map way_shown ways) ≡ true
goal_found ways i w within is goal = has_any is_goal (map way_shown ways) (way_shown w) (has_map way_shown ways w (has_at ways i w (slice_get_read ways (length ways) i w refl within is))) goal

pub no_goal_more : (ways : List rt.Way) (i : ℕ) (w : rt.Way) → i < length ways → w ≡ get_or ways i w → is_goal (way_shown w) ≡ false → has_goal (map way_shown (take i ways)) ≡ false → has_goal (map way_shown (take (i + 1) ways)) ≡ false
no_goal_more ways i w within is none before =
    ap has_goal (map_more way_shown ways i w within)
    ∙ list_any-append is_goal (map way_shown (take i ways)) (way_shown (get_or ways i w) ∷ [])
    ∙ ap (λ b. b || (is_goal (way_shown (get_or ways i w)) || false)) before
    ∙ ap (λ b. b || false) (ap (λ v. is_goal (way_shown v)) (sym is) ∙ none)

clean_append : (xs ys : List Way) → clean_places (xs ++ ys) ≡ clean_places xs ++ clean_places ys
clean_append xs ys =
    ap (λ ws. map (λ n. n - 1) (flat_map numbers ws)) (filter-append (λ (w : Way). w.is_clean) xs ys)
    ∙ ap (map (λ n. n - 1)) (flat_map-append numbers (clean_ways xs) (clean_ways ys))
    ∙ map_append (λ n. n - 1) (clean_numbers xs) (clean_numbers ys)

pub clean_more : (ways : List rt.Way) (i : ℕ) (w : rt.Way) (old new : List ℕ) → i < length ways → w ≡ get_or ways i w → old ≡ clean_places (map way_shown (take i ways)) → new ≡ old ++ clean_places (way_shown w ∷ []) → new ≡ clean_places (map way_shown (take (i + 1) ways))
clean_more ways i w old new within is before after =
    after ∙ ap (λ t. t ++ clean_places (way_shown w ∷ [])) before
    ∙ sym (clean_append (map way_shown (take i ways)) (way_shown w ∷ []))
    ∙ ap (λ v. clean_places (map way_shown (take i ways) ++ way_shown v ∷ [])) is
    ∙ ap clean_places (sym (map_more way_shown ways i w within))

pub lines_more : (ways : List rt.Way) (i : ℕ) (w : rt.Way) (start old new : Text) → i < length ways → w ≡ get_or ways i w → old ≡ start ++ flat_map (λ (v : Way). v.lines) (map way_shown (take i ways)) → new ≡ old ++ (way_shown w).lines
    → new ≡ start ++ flat_map (λ (v : Way). v.lines) (map way_shown (take (i + 1) ways))
lines_more ways i w start old new within is before after =
    let lines : List Way → Text = flat_map (λ (v : Way). v.lines) in
    let front : List Way = map way_shown (take i ways) in
    after ∙ ap (λ t. t ++ (way_shown w).lines) before ∙ append_assoc start (lines front) (way_shown w).lines
    ∙ ap (λ t. start ++ (lines front ++ t)) (sym (append-nil (way_shown w).lines))
    ∙ ap (λ t. start ++ t) (sym (flat_map-append (λ (v : Way). v.lines) front (way_shown w ∷ [])))
    ∙ ap (λ v. start ++ lines (front ++ way_shown v ∷ [])) is
    ∙ ap (λ t. start ++ lines t) (sym (map_more way_shown ways i w within))

-- ---- a value that is not left

pub all_fails : {X : Type 0} (p : X → Bool) (xs : List X) (x : X) → Has x xs → p x ≡ false → list_all p xs ≡ false
all_fails p [] x h is = absurd h
all_fails p (y ∷ ys) x (inl e) is = ap (λ b. b && list_all p ys) (ap p e ∙ is)
all_fails p (y ∷ ys) x (inr h) is = by (p y) (all_fails p ys x h is)
  where
    by : (b : Bool) → list_all p ys ≡ false → (b && list_all p ys) ≡ false
    by true k = k
    by false k = refl

pub mapped_fails : {X Y : Type 0} (p : Y → Bool) (h : X → Y) (xs : List X) (i : ℕ) (d : X) → i < length xs → p (h (get_or xs i d)) ≡ false → list_all p (map h xs) ≡ false
mapped_fails p h xs i d within is = all_fails p (map h xs) (h (get_or xs i d)) (has_map h xs (get_or xs i d) (has_at xs i (get_or xs i d) (slice_get-get_or xs i d within))) is

-- ---- the way back

pub walk_more : (found way new : List FoundBy) (at place : ℕ) (step d : FoundBy) → at ≤ length found → 0 < at → GoesBack found → IsWalk found (reverse way) at place → step ≡ get_or found (at - 1) d → new ≡ way ++ step ∷ []
    → (step.place ≤ length found) × IsWalk found (reverse new) step.place place
walk_more found way new at place step d within some back walk is more =
    let there : slice_get found (at - 1) ≡ Some step = slice_get-get_or found (at - 1) d (omega (arith, within, some)) ∙ ap Some (sym is) in
    let low = back (at - 1) step there in
    let again : at ≡ at - 1 + 1 = omega (arith, some) in (
      omega (arith, low, within),
      subst (λ w. IsWalk found w step.place place) (sym (ap reverse more ∙ reverse-push way step)) (refl, at - 1, there, subst (λ n. IsWalk found (reverse way) n place) again walk),
    )

-- ---- boots in a row

enumerate_append : {X : Type 0} (n : ℕ) (xs ys : List X) → enumerate_from n (xs ++ ys) ≡ enumerate_from n xs ++ enumerate_from (n + length xs) ys
enumerate_append n [] ys = ap (λ m. enumerate_from m ys) (let e : n ≡ n + 0 = omega arith in e)
enumerate_append n (x ∷ xs) ys = ap (λ t. (n, x) ∷ t) (enumerate_append (n + 1) xs ys ∙ ap (λ m. enumerate_from (n + 1) xs ++ enumerate_from m ys) (let e : n + 1 + length xs ≡ n + suc (length xs) = omega arith in e))

pub boots_more : {X Y : Type 0} (h : X → Y) (f : ℕ × Y → Text) (xs : List X) (i : ℕ) (x : X) (start old new : Text) → i < length xs → x ≡ get_or xs i x → old ≡ start ++ flat_map f (enumerate_from 0 (map h (take i xs))) → new ≡ old ++ f (i, h x)
    → new ≡ start ++ flat_map f (enumerate_from 0 (map h (take (i + 1) xs)))
boots_more h f xs i x start old new within is before after =
    let front = enumerate_from 0 (map h (take i xs)) in
    let long : 0 + length (map h (take i xs)) ≡ i = (let e = length-take-le i xs (omega (arith, within)) in let m = length-map (take i xs) h in omega (arith, e, m)) in
    after ∙ ap (λ t. t ++ f (i, h x)) before ∙ append_assoc start (flat_map f front) (f (i, h x))
    ∙ ap (λ t. start ++ (flat_map f front ++ t)) (sym (append-nil (f (i, h x))))
    ∙ ap (λ t. start ++ t) (sym (flat_map-append f front ((i, h x) ∷ [])))
    ∙ ap (λ (n : ℕ). start ++ flat_map f (front ++ (n, h x) ∷ [])) (sym long)
    ∙ ap (λ t. start ++ flat_map f t) (sym (enumerate_append 0 (map h (take i xs)) (h x ∷ [])))
    ∙ ap (λ v. start ++ flat_map f (enumerate_from 0 (map h (take i xs) ++ h v ∷ []))) is
    ∙ ap (λ t. start ++ flat_map f (enumerate_from 0 t)) (sym (map_more h xs i x within))
