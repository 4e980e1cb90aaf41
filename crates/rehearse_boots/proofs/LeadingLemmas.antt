-- How the marks of boots that lead to a goal grow, and that they are all when no more are found.
use Rattle.std.proofs.Common.{◌≡◌, ◌<◌, ◌≤◌, ◌+◌, ◌⊎◌, ℕ, zero, suc, Bool, true, false, cond, not, List, [], ◌∷◌, ◌++◌, length, get_or, set, drop, take, replicate, Option, Some, None, slice_get, refl, sym, ap, ◌∙◌, subst, inl, inr, ⊎_elim, arith}
use Rattle.std.specs.List.{All, Contains, flat_map}
use Rattle.std.specs.Option.{option_map}
use Rattle.std.proofs.lemmas.Bool.{cases_eq, cases_lt, false≢true}
use Rattle.std.proofs.lemmas.List.{flat_map_more, get_or-set_same, get_or-set_other, get_or_default, get_or_past, get_or_push, get_or_append_left, append-nil, drop_all, take_all, get_or-map, length-map, length-replicate, length-set, length_push, length-take-le, map-set, take_more}
use Rattle.std.proofs.lemmas.List.Elements.{All-contains_itself, All-weaker, Contains-append_cases, Contains-append_left, Contains-append_right, Contains-push, Contains-push_cases}
use Rattle.std.proofs.lemmas.List.Sums.{sum_by-set}
use Rattle.std.proofs.lemmas.Option.{get_or_from_slice_get, slice_get-get_or}
use Rattle.std.specs.declared.alloc.Global.{Global}
use Rattle.std.specs.declared.vec.Vec.{Vec}
use Rattle.rehearse_boots.specs.Leading.{AreInside, AreMarked, Leads, ends, goes_on, lists_of}
use Rattle.rehearse_boots.specs.LeadingRounds.{AddsBack, AreFound, AreTheMarked, AreTurned, HasLink, IsMarked, Marks, places_before}

-- ---- elements

pub none_contained : {X : Type 0} (x : X) → Contains [] x → ⊥
none_contained x h = let below : h.0 < 0 = h.1 in omega arith

pub one_contained : {X : Type 0} (x y : X) → Contains (x ∷ []) y → x ≡ y
one_contained x y h = ⊎_elim (λ none. absurd (none_contained y none)) (λ same. same) (Contains-push_cases [] x y h)

pub contains_head : {X : Type 0} (x : X) (xs : List X) → Contains (x ∷ xs) x
contains_head x xs = Contains-append_left (x ∷ []) xs x (Contains-push [] x)

pub contains_in_flat_map : {X Y : Type 0} (f : X → List Y) (xs : List X) (x : X) (y : Y) → Contains xs x → Contains (f x) y → Contains (flat_map f xs) y
contains_in_flat_map f [] x y h k = absurd (none_contained x h)
contains_in_flat_map {X} {Y} f (z ∷ xs) x y h k =
    ⊎_elim
    (λ one. Contains-append_left (f z) (flat_map f xs) y (subst (λ (w : X). Contains (f w) y) (sym (one_contained z x one)) k))
    (λ more. Contains-append_right (f z) (flat_map f xs) y (contains_in_flat_map f xs x y more k))
    (Contains-append_cases (z ∷ []) xs x h)

pub contained_in_flat_map : {X Y : Type 0} (f : X → List Y) (xs : List X) (y : Y) → Contains (flat_map f xs) y → (x : X) × Contains xs x × Contains (f x) y
contained_in_flat_map f [] y h = absurd (none_contained y h)
contained_in_flat_map f (z ∷ xs) y h =
    ⊎_elim
    (λ here. (z, contains_head z xs, here))
    (λ more. let rest = contained_in_flat_map f xs y more in (rest.0, Contains-append_right (z ∷ []) xs rest.0 rest.1, rest.2))
    (Contains-append_cases (f z) (flat_map f xs) y h)

pub All-from_contained : {X : Type 0} (P : X → Type 0) (xs : List X) → ((x : X) → Contains xs x → P x) → All P xs
All-from_contained P xs h = All-weaker (Contains xs) P h xs (All-contains_itself xs)

-- ---- places with a mark

pub marked_within : (marks : List Bool) (place : ℕ) → IsMarked marks place → place < length marks
marked_within marks place h =
    ⊎_elim (λ below. below)
    (λ past. absurd (false≢true (sym (get_or_past marks place false past) ∙ h)))
    (cases_lt place (length marks))

pub marked_get : (marks : List Bool) (place : ℕ) → IsMarked marks place → slice_get marks place ≡ Some true
marked_get marks place h = slice_get-get_or marks place false (marked_within marks place h) ∙ ap Some h

pub get_marked : (marks : List Bool) (place : ℕ) → slice_get marks place ≡ Some true → IsMarked marks place
get_marked marks place h = get_or_from_slice_get marks place true false h

-- the marks of one more place
marked_kept : (marks : List Bool) (last : Bool) (place : ℕ) → IsMarked marks place → IsMarked (marks ++ last ∷ []) place
marked_kept marks last place is = get_or_append_left marks (last ∷ []) false place (marked_within marks place is) ∙ is

marked_push : (marks : List Bool) (last : Bool) (place : ℕ) → IsMarked (marks ++ last ∷ []) place → IsMarked marks place ⊎ ((place ≡ length marks) × (last ≡ true))
marked_push marks last place is =
    ⊎_elim
    (λ below. inl (sym (get_or_append_left marks (last ∷ []) false place below) ∙ is))
    (λ past.
    let within : place < length (marks ++ last ∷ []) = marked_within (marks ++ last ∷ []) place is in
    let at_end : place ≡ length marks = omega (arith, length_push marks last) in
    inr (at_end, sym (get_or_push marks last false place (sym at_end)) ∙ is))
    (cases_lt place (length marks))

those_more : (marks : List Bool) (places : List ℕ) → AreTheMarked marks places → AreTheMarked (marks ++ true ∷ []) (places ++ length marks ∷ [])
those_more marks places those = record {
  all = λ place is.
      ⊎_elim
      (λ before. Contains-append_left places (length marks ∷ []) place (those.all place before))
      (λ last. subst (λ (p : ℕ). Contains (places ++ length marks ∷ []) p) (sym last.0) (Contains-push places (length marks)))
      (marked_push marks true place is);
  only = λ place h.
      ⊎_elim
      (λ before. marked_kept marks true place (those.only place before))
      (λ last. get_or_push marks true false place last)
      (Contains-push_cases places (length marks) place h);
}

those_same : (marks : List Bool) (places : List ℕ) → AreTheMarked marks places → AreTheMarked (marks ++ false ∷ []) places
those_same marks places those = record {
  all = λ place is.
      ⊎_elim (λ before. those.all place before) (λ last. absurd (false≢true last.1)) (marked_push marks false place is);
  only = λ place h. marked_kept marks false place (those.only place h);
}

pub those_step_more : (marks : List Bool) (i : ℕ) (places : List ℕ) → i < length marks → AreTheMarked (take i marks) places → get_or marks i false ≡ true → AreTheMarked (take (i + 1) marks) (places ++ i ∷ [])
those_step_more marks i places below those is =
    let long : length (take i marks) ≡ i = length-take-le i marks (omega arith) in
    let more = those_more (take i marks) places those in
    subst (λ (done : List Bool). AreTheMarked done (places ++ i ∷ [])) (ap (λ (b : Bool). take i marks ++ b ∷ []) (sym is) ∙ sym (take_more marks i false below))
    (subst (λ (n : ℕ). AreTheMarked (take i marks ++ true ∷ []) (places ++ n ∷ [])) long more)

pub those_step_same : (marks : List Bool) (i : ℕ) (places : List ℕ) → i < length marks → AreTheMarked (take i marks) places → get_or marks i false ≡ false → AreTheMarked (take (i + 1) marks) places
those_step_same marks i places below those is =
    subst (λ (done : List Bool). AreTheMarked done places) (ap (λ (b : Bool). take i marks ++ b ∷ []) (sym is) ∙ sym (take_more marks i false below))
    (those_same (take i marks) places those)

-- ---- links

pub link_within : (links : List (List ℕ)) (from to : ℕ) → HasLink links from to → from < length links
link_within links from to h =
    ⊎_elim (λ below. below)
    (λ past. absurd (none_contained to (subst (λ (after : List ℕ). Contains after to) (get_or_past links from [] past) h)))
    (cases_lt from (length links))

pub link_get : (links : List (List ℕ)) (from to : ℕ) → HasLink links from to → slice_get links from ≡ Some (get_or links from [])
link_get links from to h = slice_get-get_or links from [] (link_within links from to h)

pub get_link : (links : List (List ℕ)) (from to : ℕ) (after : List ℕ) → slice_get links from ≡ Some after → Contains after to → HasLink links from to
get_link links from to after is h = subst (λ (found : List ℕ). Contains found to) (sym (get_or_from_slice_get links from after [] is)) h

-- ---- a round

pub marks_none : (marks : List Bool) (known : List ℕ) → Marks [] marks marks known known
marks_none marks known = record {
  each = refl;
  kept = λ place h. h;
  all = λ place h. absurd (none_contained place h);
  only = λ place h. inl h;
  found_all = λ place h. inl h;
  found_only = λ place h. inl h;
  found_kept = λ place h. h;
  fewer = refl;
}

pub marks_more : (these those : List ℕ) (old between new : List Bool) (known some found : List ℕ) → Marks these old between known some → Marks those between new some found → Marks (these ++ those) old new known found
marks_more these those old between new known some found a b = record {
  each = b.each ∙ a.each;
  kept = λ place h. b.kept place (a.kept place h);
  all = λ place h. ⊎_elim (λ here. b.kept place (a.all place here)) (λ there. b.all place there) (Contains-append_cases these those place h);
  only = λ place h.
      ⊎_elim
      (λ before. ⊎_elim (λ first. inl first) (λ here. inr (Contains-append_left these those place here)) (a.only place before))
      (λ there. inr (Contains-append_right these those place there))
      (b.only place h);
  found_all = λ place h.
      ⊎_elim
      (λ before. ⊎_elim (λ first. inl first) (λ here. inr (b.found_kept place here)) (a.found_all place before))
      (λ there. inr there)
      (b.found_all place h);
  found_only = λ place h.
      ⊎_elim
      (λ before. ⊎_elim (λ first. inl first) (λ marked. inr (b.kept place marked)) (a.found_only place before))
      (λ marked. inr marked)
      (b.found_only place h);
  found_kept = λ place h. b.found_kept place (a.found_kept place h);
  fewer = b.fewer ∙ a.fewer;
}

pub marks_marked : (place : ℕ) (marks : List Bool) (known : List ℕ) → IsMarked marks place → Marks (place ∷ []) marks marks known known
marks_marked place marks known is = record {
  each = refl;
  kept = λ other h. h;
  all = λ other h. subst (λ (p : ℕ). IsMarked marks p) (one_contained place other h) is;
  only = λ other h. inl h;
  found_all = λ other h. inl h;
  found_only = λ other h. inl h;
  found_kept = λ other h. h;
  fewer = refl;
}

set_marked : (marks : List Bool) (place other : ℕ) → place < length marks → place ≡ other → IsMarked (set marks place true) other
set_marked marks place other below same = subst (λ (p : ℕ). IsMarked (set marks place true) p) same (get_or-set_same marks place true false below)

set_kept : (marks : List Bool) (place other : ℕ) → place < length marks → IsMarked marks other → IsMarked (set marks place true) other
set_kept marks place other below h =
    ⊎_elim
    (λ same. set_marked marks place other below (sym same))
    (λ apart. get_or-set_other marks place other true false apart ∙ h)
    (cases_eq other place)

set_only : (marks : List Bool) (place other : ℕ) → IsMarked (set marks place true) other → IsMarked marks other ⊎ (other ≡ place)
set_only marks place other h =
    ⊎_elim
    (λ same. inr same)
    (λ apart. inl (sym (get_or-set_other marks place other true false apart) ∙ h))
    (cases_eq other place)

pub marks_set : (place : ℕ) (marks : List Bool) (known : List ℕ) → place < length marks → get_or marks place false ≡ false → Marks (place ∷ []) marks (set marks place true) known (known ++ place ∷ [])
marks_set place marks known below not_yet = record {
  each = length-set marks place true;
  kept = λ other h. set_kept marks place other below h;
  all = λ other h. set_marked marks place other below (one_contained place other h);
  only = λ other h. ⊎_elim (λ was. inl was) (λ same. inr (subst (λ (p : ℕ). Contains (place ∷ []) p) (sym same) (Contains-push [] place))) (set_only marks place other h);
  found_all = λ other h. ⊎_elim (λ was. inl was) (λ same. inr (subst (λ (p : ℕ). Contains (known ++ place ∷ []) p) (sym same) (Contains-push known place))) (set_only marks place other h);
  found_only = λ other h. ⊎_elim (λ was. inl was) (λ same. inr (set_marked marks place other below same)) (Contains-push_cases known place other h);
  found_kept = λ other h. Contains-append_left known (place ∷ []) other h;
  fewer =
      let count = sum_by-set (λ (b : Bool). cond (not b) 1 0) marks place true false below in
      let one : ◌≡◌ {A = ℕ} (cond (not (get_or marks place false)) 1 0) 1 = ap (λ (b : Bool). cond (not b) 1 0) not_yet in
      omega (arith, count, one, length_push known place);
}

-- one more place, in the round over a list of places
pub marks_step : (places : List ℕ) (i : ℕ) (old between new : List Bool) (known some found : List ℕ) → i < length places → Marks (take i places) old between known some → Marks (get_or places i 0 ∷ []) between new some found → Marks (take (i + 1) places) old new known found
marks_step places i old between new known some found below so_far step =
    subst (λ (done : List ℕ). Marks done old new known found) (sym (take_more places i 0 below))
    (marks_more (take i places) (get_or places i 0 ∷ []) old between new known some found so_far step)

-- the places before one more place, in the round over the places before these
pub marks_before_step : (back : List (List ℕ)) (places : List ℕ) (i : ℕ) (old between new : List Bool) (known some found : List ℕ) → i < length places → Marks (places_before back (take i places)) old between known some → Marks (get_or back (get_or places i 0) []) between new some found → Marks (places_before back (take (i + 1) places)) old new known found
marks_before_step back places i old between new known some found below so_far step =
    let place = get_or places i 0 in
    let more = flat_map_more (λ (p : ℕ). get_or back p []) [] (take i places) place in
    subst (λ (done : List ℕ). Marks done old new known found) (more ∙ ap (places_before back) (sym (take_more places i 0 below)))
    (marks_more (places_before back (take i places)) (get_or back place []) old between new known some found so_far step)

-- ---- lists in vectors

-- what a vector holds after a slice of all of it was written
pub written_back : {X : Type 0} (count : ℕ) (new old : List X) → length new ≡ length old → length old ≤ count → take count (new ++ drop (length new) old) ≡ new
written_back count new old same few =
    let none : drop (length new) old ≡ [] = drop_all (length new) old (omega arith) in
    ap (λ rest. take count (new ++ rest)) none ∙ (ap (take count) (append-nil new) ∙ take_all count new (omega arith))

pub list_at : (vectors : List (Vec ℕ Global)) (i : ℕ) (v : Vec ℕ Global) → i < length vectors → v ≡ get_or vectors i v → get_or (lists_of vectors) i [] ≡ v.items
list_at vectors i v below is = get_or-map (λ (w : Vec ℕ Global). w.items) vectors i v [] below ∙ ap (λ (w : Vec ℕ Global). w.items) (sym is)

pub lists_set : (vectors : List (Vec ℕ Global)) (i : ℕ) (v : Vec ℕ Global) (list : List ℕ) → v.items ≡ list → lists_of (set vectors i v) ≡ set (lists_of vectors) i list
lists_set vectors i v list is = map-set (λ (w : Vec ℕ Global). w.items) vectors i v ∙ ap (λ (l : List ℕ). set (lists_of vectors) i l) is

pub lists_long : (vectors : List (Vec ℕ Global)) → length (lists_of vectors) ≡ length vectors
lists_long vectors = length-map vectors (λ (w : Vec ℕ Global). w.items)

pub lists_inside : (vectors : List (Vec ℕ Global)) (i count : ℕ) (v : Vec ℕ Global) → i < length vectors → v ≡ get_or vectors i v → AreInside count (lists_of vectors) → All (λ place. place < count) v.items
lists_inside vectors i count v below is inside =
    let few : i < length (lists_of vectors) = omega (arith, lists_long vectors) in
    subst (λ (l : List ℕ). All (λ place. place < count) l) (list_at vectors i v below is) (inside i [] few)

-- ---- the links turned round

pub back_none : (from : ℕ) (lists : List (List ℕ)) → AddsBack from [] lists lists
back_none from lists = record {
  each = refl;
  kept = λ place to h. h;
  all = λ place h. absurd (none_contained place h);
  only = λ place to h. inl h;
}

pub back_more : (from : ℕ) (these those : List ℕ) (old between new : List (List ℕ)) → AddsBack from these old between → AddsBack from those between new → AddsBack from (these ++ those) old new
back_more from these those old between new a b = record {
  each = b.each ∙ a.each;
  kept = λ place to h. b.kept place to (a.kept place to h);
  all = λ place h. ⊎_elim (λ here. b.kept place from (a.all place here)) (λ there. b.all place there) (Contains-append_cases these those place h);
  only = λ place to h.
      ⊎_elim
      (λ before. ⊎_elim (λ first. inl first) (λ here. inr (here.0, Contains-append_left these those place here.1)) (a.only place to before))
      (λ there. inr (there.0, Contains-append_right these those place there.1))
      (b.only place to h);
}

pub back_set : (from place : ℕ) (lists : List (List ℕ)) (list : List ℕ) → place < length lists → list ≡ get_or lists place [] → AddsBack from (place ∷ []) lists (set lists place (list ++ from ∷ []))
back_set from place lists list below is =
    let new = set lists place (list ++ from ∷ []) in
    let here : get_or new place [] ≡ list ++ from ∷ [] = get_or-set_same lists place (list ++ from ∷ []) [] below in
    let there : (other : ℕ) → (other ≡ place → ⊥) → get_or new other [] ≡ get_or lists other [] = λ other apart. get_or-set_other lists place other (list ++ from ∷ []) [] apart in
    record {
      each = length-set lists place (list ++ from ∷ []);
      kept = λ other to h.
          ⊎_elim
          (λ same. subst (λ (p : ℕ). HasLink new p to) (sym same) (subst (λ (found : List ℕ). Contains found to) (sym here) (Contains-append_left list (from ∷ []) to (subst (λ (found : List ℕ). Contains found to) (ap (λ (p : ℕ). get_or lists p []) same ∙ sym is) h))))
          (λ apart. subst (λ (found : List ℕ). Contains found to) (sym (there other apart)) h)
          (cases_eq other place);
      all = λ other h. subst (λ (p : ℕ). HasLink new p from) (one_contained place other h) (subst (λ (found : List ℕ). Contains found from) (sym here) (Contains-push list from));
      only = λ other to h.
          ⊎_elim
          (λ same.
          let added : Contains (list ++ from ∷ []) to = subst (λ (found : List ℕ). Contains found to) (ap (λ (p : ℕ). get_or new p []) same ∙ here) h in
          ⊎_elim
          (λ old. inl (subst (λ (found : List ℕ). Contains found to) (is ∙ ap (λ (p : ℕ). get_or lists p []) (sym same)) old))
          (λ last. inr (sym last, subst (λ (p : ℕ). Contains (place ∷ []) p) (sym same) (Contains-push [] place)))
          (Contains-push_cases list from to added))
          (λ apart. inl (subst (λ (found : List ℕ). Contains found to) (there other apart) h))
          (cases_eq other place);
    }

pub back_step : (from : ℕ) (places : List ℕ) (i : ℕ) (old between new : List (List ℕ)) → i < length places → AddsBack from (take i places) old between → AddsBack from (get_or places i 0 ∷ []) between new → AddsBack from (take (i + 1) places) old new
back_step from places i old between new below so_far step =
    subst (λ (done : List ℕ). AddsBack from done old new) (sym (take_more places i 0 below))
    (back_more from (take i places) (get_or places i 0 ∷ []) old between new so_far step)

empty_at : (count place : ℕ) → get_or (replicate count (◌++◌ {A = ℕ} [] [])) place [] ≡ []
empty_at zero place = refl
empty_at (suc count) zero = refl
empty_at (suc count) (suc place) = empty_at count place

pub turned_none : (count : ℕ) → AreTurned count [] (replicate count [])
turned_none count = record {
  each = length-replicate count [];
  all = λ from to h. absurd (none_contained to h);
  only = λ from to h. absurd (none_contained from (subst (λ (found : List ℕ). Contains found from) (empty_at count to) h));
}

link_push : (links : List (List ℕ)) (places : List ℕ) (from to : ℕ) → HasLink (links ++ places ∷ []) from to → HasLink links from to ⊎ ((from ≡ length links) × Contains places to)
link_push links places from to h =
    ⊎_elim
    (λ below. inl (subst (λ (found : List ℕ). Contains found to) (get_or_append_left links (places ∷ []) [] from below) h))
    (λ past.
    let within : from < length (links ++ places ∷ []) = link_within (links ++ places ∷ []) from to h in
    let last : from ≡ length links = omega (arith, length_push links places) in
    inr (last, subst (λ (found : List ℕ). Contains found to) (get_or_push links places [] from (sym last)) h))
    (cases_lt from (length links))

link_kept : (links : List (List ℕ)) (places : List ℕ) (from to : ℕ) → HasLink links from to → HasLink (links ++ places ∷ []) from to
link_kept links places from to h = subst (λ (found : List ℕ). Contains found to) (sym (get_or_append_left links (places ∷ []) [] from (link_within links from to h))) h

pub turned_more : (count : ℕ) (links : List (List ℕ)) (places : List ℕ) (old new : List (List ℕ)) → AreTurned count links old → AddsBack (length links) places old new → AreTurned count (links ++ places ∷ []) new
turned_more count links places old new a b = record {
  each = b.each ∙ a.each;
  all = λ from to h.
      ⊎_elim
      (λ before. b.kept to from (a.all from to before))
      (λ last. subst (λ (p : ℕ). HasLink new to p) (sym last.0) (b.all to last.1))
      (link_push links places from to h);
  only = λ from to h.
      ⊎_elim
      (λ before. link_kept links places from to (a.only from to before))
      (λ added. subst (λ (found : List ℕ). Contains found to) (sym (get_or_push links places [] from (sym added.0))) added.1)
      (b.only to from h);
}

pub turned_step : (count : ℕ) (links : List (List ℕ)) (i : ℕ) (old new : List (List ℕ)) → i < length links → AreTurned count (take i links) old → AddsBack i (get_or links i []) old new → AreTurned count (take (i + 1) links) new
turned_step count links i old new below a b =
    let so_far = take i links in
    let long : length so_far ≡ i = length-take-le i links (omega arith) in
    subst (λ (done : List (List ℕ)). AreTurned count done new) (sym (take_more links i [] below))
    (turned_more count so_far (get_or links i []) old new a (subst (λ (n : ℕ). AddsBack n (get_or links i []) old new) (sym long) b))

false_at : (count place : ℕ) → slice_get (replicate count false) place ≡ Some true → ⊥
false_at zero place is = cc
false_at (suc count) zero is = cc
false_at (suc count) (suc place) is = false_at count place is

-- ---- the rounds

module _ (goals : List Bool) (links : List (List ℕ)) where
  no_boot : (place : ℕ) → Leads goals links 0 place → ⊥
  no_boot place h = elim h [ ]

  pub leads_longer : (count more place : ℕ) → count ≤ more → Leads goals links count place → Leads goals links more place
  leads_longer _ zero _ few (ends count place is) = absurd (omega arith)
  leads_longer _ (suc more) _ few (ends count place is) = ends more place is
  leads_longer _ zero _ few (goes_on count place next after link has lead) = absurd (omega arith)
  leads_longer _ (suc more) _ few (goes_on count place next after link has lead) =
      goes_on more place next after link has (leads_longer count more next (omega arith) lead)

  longer_by_one : (count place : ℕ) → Leads goals links count place → Leads goals links (suc count) place
  longer_by_one count place lead = leads_longer count (suc count) place (omega arith) lead

  goals_all : (count place : ℕ) → count ≡ 1 → Leads goals links count place → IsMarked goals place
  goals_all _ _ one (ends count place is) = get_marked goals place is
  goals_all _ _ one (goes_on zero place next after link has lead) = absurd (no_boot next lead)
  goals_all _ _ one (goes_on (suc count) place next after link has lead) = absurd (omega arith)

  -- the goals alone, after the first round
  pub found_first : (latest : List ℕ) → AreTheMarked goals latest → AreFound goals links 1 goals latest
  found_first latest those = record {
    each = refl;
    goal = λ place is. get_marked goals place is;
    leads = λ place is. ends 0 place (marked_get goals place is);
    all = λ place lead. goals_all 1 place refl lead;
    before = λ place next link is. inl (those.all next is);
    marked = λ place h. those.only place h;
  }

  module _ (back : List (List ℕ)) (turned : AreTurned (length links) links back) where
    -- a place with a link to one of these is marked in the round over them
    before_marked : (latest found : List ℕ) (old new : List Bool) → Marks (places_before back latest) old new [] found → (place next : ℕ) → HasLink links place next → Contains latest next → IsMarked new place
    before_marked latest found old new round place next link here =
        round.all place (contains_in_flat_map (λ (p : ℕ). get_or back p []) latest next place here (turned.all place next link))

    more_leads : (count : ℕ) (latest found : List ℕ) (old new : List Bool) → AreFound goals links count old latest → Marks (places_before back latest) old new [] found → (place : ℕ) → IsMarked new place → Leads goals links (suc count) place
    more_leads count latest found old new so_far round place is =
        ⊎_elim
        (λ was. longer_by_one count place (so_far.leads place was))
        (λ added.
        let next = contained_in_flat_map (λ (p : ℕ). get_or back p []) latest place added in
        let link = turned.only place next.0 next.2 in
        goes_on count place next.0 (get_or links place []) (link_get links place next.0 link) link (so_far.leads next.0 (so_far.marked next.0 next.1)))
        (round.only place is)

    more_all : (count more : ℕ) (latest found : List ℕ) (old new : List Bool) → AreFound goals links count old latest → Marks (places_before back latest) old new [] found → (place : ℕ) → more ≡ suc count → Leads goals links more place → IsMarked new place
    more_all count _ latest found old new so_far round _ same (ends fewer place is) = round.kept place (so_far.goal place is)
    more_all count _ latest found old new so_far round _ same (goes_on fewer place next after link among lead) =
        let equal : fewer ≡ count = omega arith in
        let has : HasLink links place next = get_link links place next after link among in
        let is : IsMarked old next = so_far.all next (subst (λ (n : ℕ). Leads goals links n next) equal lead) in
        ⊎_elim
        (λ here. before_marked latest found old new round place next has here)
        (λ was. round.kept place was)
        (so_far.before place next has is)

    -- one round more
    pub found_more : (count : ℕ) (latest found : List ℕ) (old new : List Bool) → AreFound goals links count old latest → Marks (places_before back latest) old new [] found → AreFound goals links (suc count) new found
    found_more count latest found old new so_far round = record {
      each = round.each ∙ so_far.each;
      goal = λ place is. round.kept place (so_far.goal place is);
      leads = λ place is. more_leads count latest found old new so_far round place is;
      all = λ place lead. more_all count (suc count) latest found old new so_far round place refl lead;
      before = λ place next link is.
          ⊎_elim
          (λ was.
          ⊎_elim
          (λ here. inr (before_marked latest found old new round place next link here))
          (λ before. inr (round.kept place before))
          (so_far.before place next link was))
          (λ newly. inl newly)
          (round.found_all next is);
      marked = λ place h. ⊎_elim (λ none. absurd (none_contained place none)) (λ is. is) (round.found_only place h);
    }

  -- if none is found, all are marked from which any number of boots leads to a goal
  pub closed_all : (count : ℕ) (marks : List Bool) → AreFound goals links count marks [] → (many place : ℕ) → Leads goals links many place → IsMarked marks place
  closed_all count marks found _ _ (ends many place is) = found.goal place is
  closed_all count marks found _ _ (goes_on many place next after link has lead) =
      ⊎_elim
      (λ none. absurd (none_contained next none))
      (λ is. is)
      (found.before place next (get_link links place next after link has) (closed_all count marks found many next lead))

  -- not marked
  unmarked_at : (marks : List Bool) (place : ℕ) → slice_get marks place ≡ Some false → IsMarked marks place → ⊥
  unmarked_at marks place is marked = false≢true (sym (get_or_from_slice_get marks place false false is) ∙ marked)

  -- the marks when no round is left
  pub marked_all : (count : ℕ) (marks : List Bool) (latest : List ℕ) → AreFound goals links count marks latest → AreMarked goals links (Some count) marks
  marked_all count marks latest found = record {
    each = found.each;
    leads = λ place is. found.leads place (get_marked marks place is);
    fails = λ place is lead. unmarked_at marks place is (found.all place lead);
  }

  -- the marks when none is found, if so many rounds are left
  pub marked_closed : (count : ℕ) (left : Option ℕ) (marks : List Bool) → AreFound goals links count marks [] → AreMarked goals links (option_map (λ n. n + count) left) marks
  marked_closed count None marks found = record {
    each = found.each;
    leads = λ place is. (count, found.leads place (get_marked marks place is));
    fails = λ place is lead. unmarked_at marks place is (closed_all count marks found lead.0 place lead.1);
  }
  marked_closed count (Some n) marks found = record {
    each = found.each;
    leads = λ place is. leads_longer count (n + count) place (omega arith) (found.leads place (get_marked marks place is));
    fails = λ place is lead. unmarked_at marks place is (closed_all count marks found (n + count) place lead);
  }

  -- no boot leads to a goal within none
  pub none_marked : AreMarked goals links (Some 0) (replicate (length goals) false)
  none_marked = record {
    each = length-replicate (length goals) false;
    leads = λ place is. absurd (false_at (length goals) place is);
    fails = λ place is lead. no_boot place lead;
  }

-- what is found is inside
pub found_inside : (goals : List Bool) (links : List (List ℕ)) (count inside : ℕ) (marks : List Bool) (latest : List ℕ) → AreFound goals links count marks latest → length goals ≡ inside → All (λ place. place < inside) latest
found_inside goals links count inside marks latest found same =
    All-from_contained (λ (place : ℕ). place < inside) latest (λ place h. let below = marked_within marks place (found.marked place h) in omega (arith, below, found.each))

pub turned_inside : (count inside : ℕ) (links back : List (List ℕ)) → AreTurned count links back → length links ≡ inside → AreInside inside back
turned_inside count inside links back turned same =
    λ to none few.
    All-from_contained (λ (from : ℕ). from < inside) (get_or back to none)
    (λ from h.
    let has : HasLink back to from = subst (λ (list : List ℕ). Contains list from) (get_or_default back to none [] few) h in
    let below = link_within links from to (turned.only from to has) in
    omega (arith, below))

-- one round less is left
pub one_less_left : (count : ℕ) (left less : Option ℕ) → left ≡ option_map (λ n. suc n) less → option_map (λ n. n + count) left ≡ option_map (λ n. n + suc count) less
one_less_left count left None same = ap (λ (o : Option ℕ). option_map (λ n. n + count) o) same
one_less_left count left (Some n) same =
    let sum : suc n + count ≡ n + suc count = omega arith in
    ap (λ (o : Option ℕ). option_map (λ n. n + count) o) same ∙ ap Some sum

pub first_left : (left : Option ℕ) → option_map (λ n. suc n) left ≡ option_map (λ n. n + 1) left
first_left None = refl
first_left (Some n) = let sum : suc n ≡ n + 1 = omega arith in ap Some sum
