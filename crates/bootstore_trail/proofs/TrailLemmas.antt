-- What is kept of a run, starting from the last.
use Rattle.std.proofs.Common.{◌≡◌, ℕ, suc, ◌+◌, ◌-◌, ◌≤◌, ◌<◌, Bool, true, false, cond, List, [], ◌∷◌, ◌++◌, ◌&&◌, ◌⊎◌, ⊎_elim, inl, inr, leb, eqb, nat_eq, not, Option, Some, None, is_some, length, length-append, get_or, set, take, reverse, refl, sym, ap, subst, ◌∙◌, arith, vec_len, vec_capacity}
use Rattle.std.specs.declared.alloc.Global.{Global}
use Rattle.std.specs.declared.vec.Vec.{Vec}
use Rattle.std.specs.Ordering.{nat_cmp, is_eq}
use Rattle.std.specs.Cmp.Lexicographic.{slice_cmp}
use Rattle.std.proofs.lemmas.List.{reverse-append, length-reverse, reverse-reverse, take-append-le, length-take-le, take_all, nil_from_length}
use Rattle.std.proofs.lemmas.Bool.{leb-true, le-leb, eqb-true, eq-eqb, and_parts, and_from}
use Rattle.std.specs.Borrow.{Bor}
use Rattle.std.specs.FinMap.{get}
use Rattle.bootstore_state.specs.declared.table.Table.{Table}
use Rattle.bootstore_state.specs.declared.table.Place.{Place}
use Rattle.bootstore_trail.specs.declared.inverse.Marked.{Marked}
use Rattle.bootstore_trail.specs.declared.inverse.Inverse.{Inverse}
use Rattle.bootstore_trail.specs.declared.inverse.Inverse.TheVariants.{Variable, Touched}
use Rattle.bootstore_trail.specs.declared.inverse.Kept.{Kept}
use Rattle.bootstore_trail.specs.declared.inverse.Kept.TheVariants.{Mark, Change}
use Rattle.bootstore_state.specs.declared.present.Present.{Present}
use Rattle.bootstore_state.specs.declared.present.Scope.{Scope}
use Rattle.bootstore_state.specs.declared.present.Scope.TheVariants.{Environment, Local}
use Rattle.bootstore_state.specs.declared.frame.At.{At}
use Rattle.bootstore_state.specs.Moment.{Bytes, Moment, RunningFrame, text_front, text_length}
use Rattle.rehearse_terms.specs.State.{LoggedCommand, text_with}
use Rattle.text.specs.TextsShown.{option_bytes}
use Rattle.bootstore_state.specs.Record.{Record, assigned, moved, without_first, with_place, without_frame, with_frame, with_echo, with_device}
use Rattle.bootstore_state.specs.Present.{moment_of, chosen, table_of, with_table, with_variable}
use Rattle.bootstore_state.specs.Table.{Names, AreWithin, has_slot, names_before, stands_among, place_value, variables_of}
use Rattle.bootstore_trail.specs.Inverse.{outermost, undone, at_mark, marked_before, names_left, local_names_left, finds_its_place, find_places, room_for, text_reach, log_reach, frame_reach, leaves, nested, begins_with_mark, LeadsBack, CanGoBack}
use Rattle.bootstore_state.proofs.PresentLemmas.{reverse-push, get_last, set_last}
use Rattle.bootstore_state.proofs.TableLemmas.{assigned-again, assigned-same, same_name}

-- if nothing is marked, nothing is kept
pub nothing_marked : (m : Moment) (kept : List Kept) → begins_with_mark kept ≡ true → marked_before m kept ≡ [] → kept ≡ []
nothing_marked m [] rooted none = refl
nothing_marked m (Mark mark ∷ kept) rooted none = cc
nothing_marked m (Change i ∷ []) rooted none = cc
nothing_marked m (Change i ∷ j ∷ kept) rooted none = let gone = nothing_marked (undone i m) (j ∷ kept) rooted none in cc

more_than_none : (n : ℕ) → not (nat_eq (suc n) 0) ≡ true
more_than_none n = grind arith

-- a moment is marked just if something is kept
marked_at_all : (m : Moment) (kept : List Kept) → begins_with_mark kept ≡ true → not (nat_eq (length kept) 0) ≡ not (nat_eq (length (marked_before m kept)) 0)
marked_at_all m [] rooted = refl
marked_at_all m (Mark mark ∷ kept) rooted = more_than_none (length kept) ∙ sym (more_than_none (length (marked_before (at_mark mark m) kept)))
marked_at_all m (Change i ∷ []) rooted = cc
marked_at_all m (Change i ∷ j ∷ kept) rooted = more_than_none (suc (length kept)) ∙ sym (more_than_none (length kept)) ∙ marked_at_all (undone i m) (j ∷ kept) rooted

pub marked_if_kept : (m : Moment) (kept : Vec Kept Global) → begins_with_mark (reverse kept.items) ≡ true → not (nat_eq (vec_len kept) 0) ≡ not (nat_eq (length (marked_before m (reverse kept.items))) 0)
marked_if_kept m kept rooted = ap (λ (n : ℕ). not (nat_eq n 0)) (kept.ok.0 ∙ sym (length-reverse kept.items)) ∙ marked_at_all m (reverse kept.items) rooted

-- a list that ends with x, starting from the last element
pub reverse_last : {A : Type 0} (xs ys : List A) (x : A) → xs ≡ ys ++ x ∷ [] → reverse xs ≡ x ∷ reverse ys
reverse_last xs ys x e = ap reverse e ∙ reverse-push ys x

pub no_items : {A : Type 0} (v : Vec A Global) → vec_len v ≡ 0 → v.items ≡ []
no_items v e = nil_from_length v.items (sym v.ok.0 ∙ e)

pub none_of_reversed : {A : Type 0} (v : Vec A Global) → reverse v.items ≡ [] → vec_len v ≡ 0
none_of_reversed v e = v.ok.0 ∙ sym (length-reverse v.items) ∙ ap length e

rooted_rest : (one : Kept) (kept : List Kept) → begins_with_mark (one ∷ kept) ≡ true → begins_with_mark kept ≡ true
rooted_rest one [] h = refl
rooted_rest (Mark mark) (next ∷ kept) h = h
rooted_rest (Change i) (next ∷ kept) h = h

rooted_more : (one : Kept) (kept : List Kept) → (kept ≡ [] → ⊥) → begins_with_mark kept ≡ true → begins_with_mark (one ∷ kept) ≡ true
rooted_more one [] some h = absurd (some refl)
rooted_more (Mark mark) (next ∷ kept) some h = h
rooted_more (Change i) (next ∷ kept) some h = h

-- Frames: what happens above the outermost ones does not change them.
pub outermost-cons : (n : ℕ) (f : RunningFrame) (fs : List RunningFrame) → n ≤ length fs → outermost n (f ∷ fs) ≡ outermost n fs
outermost-cons n f fs h =
    let within : n ≤ length (reverse fs) = omega (arith, length-reverse fs) in
    ap (λ xs. reverse (take n xs)) (reverse-append (f ∷ []) fs) ∙ ap reverse (take-append-le n (reverse fs) (f ∷ []) within)

pub outermost-all : (n : ℕ) (fs : List RunningFrame) → n ≡ length fs → outermost n fs ≡ fs
outermost-all n fs e = ap reverse (take_all n (reverse fs) (omega (arith, length-reverse fs))) ∙ reverse-reverse fs

length-outermost : (n : ℕ) (fs : List RunningFrame) → n ≤ length fs → length (outermost n fs) ≡ n
length-outermost n fs h = length-reverse (take n (reverse fs)) ∙ length-take-le n (reverse fs) (omega (arith, length-reverse fs))

outermost-moved : (place : At) (n : ℕ) (fs : List RunningFrame) → (n < length fs) ⊎ (length fs ≡ 0) → outermost n (moved place fs) ≡ outermost n fs
outermost-moved place n [] h = refl
outermost-moved place n (f ∷ fs) h = ⊎_elim (λ less. outermost-cons n (record f { place = place }) fs (omega arith) ∙ sym (outermost-cons n f fs (omega arith))) (λ none. absurd (omega arith)) h

outermost-popped : (n : ℕ) (fs : List RunningFrame) → (n < length fs) ⊎ (length fs ≡ 0) → outermost n (without_first fs) ≡ outermost n fs
outermost-popped n [] h = refl
outermost-popped n (f ∷ fs) h = ⊎_elim (λ less. sym (outermost-cons n f fs (omega arith))) (λ none. absurd (omega arith)) h

-- Texts: what is written after the first bytes does not change them.
front-written : (n : ℕ) (text : Option Bytes) (written : Bytes) → n ≤ text_length text → text_front n (text_with written text) ≡ text_front n text
front-written n None written h = refl
front-written n (Some t) written h = ap (λ x. Some x) (take-append-le n t written h)

length-front : (n : ℕ) (text : Option Bytes) → n ≤ text_length text → text_length (text_front n text) ≡ n
length-front n None h = omega arith
length-front n (Some t) h = length-take-le n t h

front-all : (n : ℕ) (text : Option Bytes) → n ≡ text_length text → text_front n text ≡ text
front-all n None h = refl
front-all n (Some t) h = ap (λ x. Some x) (take_all n t (omega arith))

pub longer-written : (text : Option Bytes) (written : Bytes) → text_length text ≤ text_length (text_with written text)
longer-written None written = omega arith
longer-written (Some t) written = let h = length-append t written in omega arith

-- moments that differ only in what a mark keeps itself, or in what the way back drops
pub record AreAlike (kept : List Kept) (m n : Moment) : Type 0 where
  environment : m.environment ≡ n.environment
  locals : m.locals ≡ n.locals
  text : text_front (text_reach kept) m.text ≡ text_front (text_reach kept) n.text
  log : take (log_reach kept) m.log ≡ take (log_reach kept) n.log
  frames : outermost (frame_reach kept) m.frames ≡ outermost (frame_reach kept) n.frames

pub marked_alike : (kept : List Kept) (m n : Moment) → AreAlike kept m n → marked_before m kept ≡ marked_before n kept
marked_alike [] m n h = refl
marked_alike (Mark mark ∷ kept) m n h =
    let same : at_mark mark m ≡ at_mark mark n = λ i. record { environment = h.environment i; locals = h.locals i; status = mark.status; text = h.text i; log = h.log i; steps = mark.steps; frames = h.frames i } in
    ap (λ k. k ∷ marked_before k kept) same
marked_alike (Change (Variable scope name before) ∷ kept) m n h = marked_alike kept _ _ (record {
  environment = ap (λ v. chosen scope (assigned v name.items (place_value before)) v) h.environment;
  locals = ap (λ v. chosen scope v (assigned v name.items (place_value before))) h.locals;
  text = h.text;
  log = h.log;
  frames = h.frames;
})
marked_alike (Change (Touched below frame) ∷ kept) m n h = marked_alike kept _ _ (record { environment = h.environment; locals = h.locals; text = h.text; log = h.log; frames = ap (λ fs. outermost (frame_reach kept) (frame ∷ fs)) h.frames })

-- what marks keep themselves may change, and so may what they do not reach
module _ (m : Moment) (u : ℕ) (kept : List Kept) (leads : LeadsBack m u kept) where
  pub marked_status : (status steps : ℕ) → marked_before (record m { status = status; steps = steps }) kept ≡ marked_before m kept
  marked_status status steps = marked_alike kept _ _ (record { environment = refl; locals = refl; text = refl; log = refl; frames = refl })

  pub marked_echo : (written : Bytes) → marked_before (with_echo written m) kept ≡ marked_before m kept
  marked_echo written = marked_alike kept _ _ (record { environment = refl; locals = refl; text = front-written (text_reach kept) m.text written leads.text; log = refl; frames = refl })

  pub marked_device : (entry : LoggedCommand) → marked_before (with_device entry m) kept ≡ marked_before m kept
  marked_device entry = marked_alike kept _ _ (record { environment = refl; locals = refl; text = refl; log = take-append-le (log_reach kept) m.log (entry ∷ []) leads.log; frames = refl })

  pub marked_pushed : (frame : RunningFrame) → marked_before (with_frame frame m) kept ≡ marked_before m kept
  marked_pushed frame = marked_alike kept _ _ (record { environment = refl; locals = refl; text = refl; log = refl; frames = outermost-cons (frame_reach kept) frame m.frames (omega (arith, leads.frames, leads.untouched_frames)) })

  reached : (u < length m.frames) ⊎ (length m.frames ≡ 0) → (frame_reach kept < length m.frames) ⊎ (length m.frames ≡ 0)
  reached h = ⊎_elim (λ less. inl (omega (arith, leads.frames))) (λ none. inr none) h

  pub marked_moved : (place : At) → (u < length m.frames) ⊎ (length m.frames ≡ 0) → marked_before (with_place place m) kept ≡ marked_before m kept
  marked_moved place h = marked_alike kept _ _ (record { environment = refl; locals = refl; text = refl; log = refl; frames = outermost-moved place (frame_reach kept) m.frames (reached h) })

  pub marked_popped : (u < length m.frames) ⊎ (length m.frames ≡ 0) → marked_before (without_frame m) kept ≡ marked_before m kept
  marked_popped h = marked_alike kept _ _ (record { environment = refl; locals = refl; text = refl; log = refl; frames = outermost-popped (frame_reach kept) m.frames (reached h) })

  -- the way back leads through another moment too, if it reaches as far
  pub leads_through : (n : Moment) → text_length m.text ≤ text_length n.text → length m.log ≤ length n.log → u ≤ length n.frames → LeadsBack n u kept
  leads_through n text log frames = record { text = omega (arith, leads.text); log = omega (arith, leads.log); frames = leads.frames; untouched_frames = frames; nested = leads.nested; rooted = leads.rooted }

-- Names: more places do no harm.
before_more : (few more : Names) → AreWithin few more → (name : Bytes) (before : Option Place) → AreWithin (names_before name before few) (names_before name before more)
before_more few more h name None = λ other. at (is_eq (slice_cmp nat_cmp other name)) other
  where
    at : (b : Bool) (other : Bytes) → cond b false (few other) ≡ true → cond b false (more other) ≡ true
    at true other k = k
    at false other k = h other k
before_more few more h name (Some value) = h

stands_more : (few more : Names) → AreWithin few more → (name : Bytes) (before : Option Place) → stands_among few name before ≡ true → stands_among more name before ≡ true
stands_more few more h name None k = refl
stands_more few more h name (Some value) k = h name k

pub find_more : (kept : List Kept) (e f l k : Names) → AreWithin e f → AreWithin l k → find_places e l kept ≡ true → find_places f k kept ≡ true
find_more [] e f l k he hl h = refl
find_more (Mark mark ∷ kept) e f l k he hl h = find_more kept e f l k he hl h
find_more (Change (Variable Environment name before) ∷ kept) e f l k he hl h =
    let parts = and_parts (stands_among e name.items before) (find_places (names_before name.items before e) l kept) h in
    and_from _ _ (stands_more e f he name.items before parts.0) (find_more kept _ _ l k (before_more e f he name.items before) hl parts.1)
find_more (Change (Variable Local name before) ∷ kept) e f l k he hl h =
    let parts = and_parts (stands_among l name.items before) (find_places e (names_before name.items before l) kept) h in
    and_from _ _ (stands_more l k hl name.items before parts.0) (find_more kept e f _ _ he (before_more l k hl name.items before) parts.1)
find_more (Change (Touched below frame) ∷ kept) e f l k he hl h = find_more kept e f l k he hl h

-- The way back: what the last thing kept needs is there, and what is left after it can go on.
pub can_last : (p : Present) (u : ℕ) (i : Inverse) (kept : List Kept) → CanGoBack p u (Change i ∷ kept) → record { place : finds_its_place (has_slot p.environment) (has_slot p.locals) i ≡ true; room : room_for i ≤ vec_capacity p.frames }
can_last p u i kept can = record { place = (and_parts (finds_its_place (has_slot p.environment) (has_slot p.locals) i) _ can.places).0; room = omega (arith, can.room) }

leads_on : (m : Moment) (u : ℕ) (i : Inverse) (kept : List Kept) → LeadsBack m u (Change i ∷ kept) → LeadsBack (undone i m) (frame_reach kept) kept
leads_on m u (Variable scope name before) kept h = record { text = h.text; log = h.log; frames = refl; untouched_frames = omega (arith, h.frames, h.untouched_frames); nested = h.nested; rooted = rooted_rest (Change (Variable scope name before)) kept h.rooted }
leads_on m u (Touched below frame) kept h =
    let parts = and_parts (leaves (Touched below frame) (frame_reach kept)) (nested kept) h.nested in
    let there : below ≤ length m.frames = omega (arith, h.frames, h.untouched_frames) in
    let left = leb-true (frame_reach kept) (below + 1) parts.0 in
    record { text = h.text; log = h.log; frames = refl; untouched_frames = omega (arith, left, length-outermost below m.frames there); nested = parts.1; rooted = rooted_rest (Change (Touched below frame)) kept h.rooted }

pub can_after : (p q : Present) (u : ℕ) (i : Inverse) (kept : List Kept) → CanGoBack p u (Change i ∷ kept) → moment_of q ≡ undone i (moment_of p)
    → AreWithin (names_left i (has_slot p.environment)) (has_slot q.environment) → AreWithin (local_names_left i (has_slot p.locals)) (has_slot q.locals) → vec_capacity p.frames ≤ vec_capacity q.frames
    → CanGoBack q (frame_reach kept) kept
can_after p q u i kept can e environment locals capacity = record {
  leads = subst (λ n. LeadsBack n (frame_reach kept) kept) (sym e) (leads_on (moment_of p) u i kept can.leads);
  places = find_more kept _ _ _ _ environment locals (and_parts (finds_its_place (has_slot p.environment) (has_slot p.locals) i) _ can.places).1;
  room = omega (arith, can.room);
}

leads_at_mark : (m : Moment) (u : ℕ) (mark : Marked) (kept : List Kept) → LeadsBack m u (Mark mark ∷ kept) → LeadsBack (at_mark mark m) mark.before.untouched kept
leads_at_mark m u mark kept h =
    let last = and_parts _ (nested kept) h.nested in
    let frames = and_parts _ (leb mark.before.untouched mark.frames) last.0 in
    let untouched = and_parts _ (eqb (frame_reach kept) mark.before.untouched) frames.0 in
    let lengths = and_parts (leb (text_reach kept) mark.text) (leb (log_reach kept) mark.log) untouched.0 in
    record {
      text = omega (arith, leb-true _ _ lengths.0, length-front mark.text m.text h.text);
      log = omega (arith, leb-true _ _ lengths.1, length-take-le mark.log m.log h.log);
      frames = eqb-true _ _ untouched.1;
      untouched_frames = omega (arith, leb-true _ _ frames.1, length-outermost mark.frames m.frames (omega (arith, h.frames, h.untouched_frames)));
      nested = last.1;
      rooted = rooted_rest (Mark mark) kept h.rooted;
    }

pub can_at_mark : (p q : Present) (u : ℕ) (mark : Marked) (kept : List Kept) → CanGoBack p u (Mark mark ∷ kept) → moment_of q ≡ at_mark mark (moment_of p) → q.environment ≡ p.environment → q.locals ≡ p.locals → vec_capacity q.frames ≡ vec_capacity p.frames → CanGoBack q mark.before.untouched kept
can_at_mark p q u mark kept can e environment locals capacity = record {
  leads = subst (λ n. LeadsBack n mark.before.untouched kept) (sym e) (leads_at_mark (moment_of p) u mark kept can.leads);
  places = ap (λ t. find_places (has_slot t) (has_slot q.locals) kept) environment ∙ ap (λ t. find_places (has_slot p.environment) (has_slot t) kept) locals ∙ can.places;
  room = omega (arith, can.room);
}

-- a new mark: it is the moment itself
pub at_mark-now : (m : Moment) (mark : Marked) → mark.status ≡ m.status → mark.steps ≡ m.steps → mark.text ≡ text_length m.text → mark.log ≡ length m.log → mark.frames ≡ length m.frames → at_mark mark m ≡ m
at_mark-now m mark status steps text log frames =
    let same_text = front-all mark.text m.text (omega arith) in
    let same_log = take_all mark.log m.log (omega arith) in
    let same_frames = outermost-all mark.frames m.frames frames in
    λ i. record { environment = m.environment; locals = m.locals; status = status i; text = same_text i; log = same_log i; steps = steps i; frames = same_frames i }

pub leads_from_mark : (m : Moment) (mark : Marked) (kept : List Kept) → LeadsBack m mark.before.untouched kept → mark.text ≡ text_length m.text → mark.log ≡ length m.log → mark.frames ≡ length m.frames → LeadsBack m mark.frames (Mark mark ∷ kept)
leads_from_mark m mark kept h text log frames =
    let a = leb (text_reach kept) mark.text in
    let b = leb (log_reach kept) mark.log in
    let c = eqb (frame_reach kept) mark.before.untouched in
    let d = leb mark.before.untouched mark.frames in
    let lengths = and_from a b (le-leb (text_reach kept) mark.text (omega (arith, h.text))) (le-leb (log_reach kept) mark.log (omega (arith, h.log))) in
    let untouched = and_from (a && b && c) d (and_from (a && b) c lengths (eq-eqb (frame_reach kept) mark.before.untouched h.frames)) (le-leb mark.before.untouched mark.frames (omega (arith, h.untouched_frames))) in
    record {
      text = omega arith;
      log = omega arith;
      frames = refl;
      untouched_frames = omega arith;
      nested = and_from (a && b && c && d) (nested kept) untouched h.nested;
      rooted = rooted_mark kept h.rooted;
    }
  where
    rooted_mark : (rest : List Kept) → begins_with_mark rest ≡ true → begins_with_mark (Mark mark ∷ rest) ≡ true
    rooted_mark [] k = refl
    rooted_mark (next ∷ rest) k = k

-- the innermost frame, kept as it is
pub marked_kept_top : (m : Moment) (kept : List Kept) (below : ℕ) (frame : RunningFrame) (fs : List RunningFrame) → m.frames ≡ frame ∷ fs → below ≡ length fs → marked_before (undone (Touched below frame) m) kept ≡ marked_before m kept
marked_kept_top m kept below frame fs e count =
    ap (λ gs. marked_before (record m { frames = gs }) kept)
    (ap (λ gs. frame ∷ outermost below gs) e ∙ ap (λ gs. frame ∷ gs) (outermost-cons below frame fs (omega arith) ∙ outermost-all below fs count) ∙ sym e)

pub can_kept_top : (p : Present) (u count : ℕ) (frame : RunningFrame) (kept : List Kept) → CanGoBack p u kept → count ≡ vec_len p.frames → count ≤ u → (count ≡ 0 → ⊥) → CanGoBack p (count - 1) (Change (Touched (count - 1) frame) ∷ kept)
can_kept_top p u count frame kept can all low some =
    let h = can.leads in
    let frames : count ≡ length (moment_of p).frames = all ∙ p.frames.ok.0 ∙ sym (length-reverse p.frames.items) in
    let positive : 0 < count = omega arith in
    record {
      leads = record {
        text = h.text;
        log = h.log;
        frames = refl;
        untouched_frames = omega arith;
        nested = and_from (leb (frame_reach kept) (count - 1 + 1)) (nested kept) (le-leb (frame_reach kept) (count - 1 + 1) (omega (arith, h.frames, h.untouched_frames))) h.nested;
        rooted = rooted_more (Change (Touched (count - 1) frame)) kept (λ none. absurd (let gone = ap frame_reach none in omega (arith, h.frames, gone))) h.rooted;
      };
      places = can.places;
      room = omega (arith, can.room, p.frames.ok);
    }

-- the innermost frame is removed
pub popped : (xs ys : List RunningFrame) (n : ℕ) → n ≡ length xs → ys ≡ take (n - 1) xs → reverse ys ≡ without_first (reverse xs)
popped xs ys n count e = ap reverse (e ∙ ap (take (n - 1)) (sym (reverse-reverse xs))) ∙ at (reverse xs) (count ∙ sym (length-reverse xs))
  where
    at : (fs : List RunningFrame) → n ≡ length fs → outermost (n - 1) fs ≡ without_first fs
    at [] k = outermost-all (n - 1) [] (omega arith)
    at (f ∷ fs) k = outermost-cons (n - 1) f fs (omega arith) ∙ outermost-all (n - 1) fs (omega arith)

-- Variables: what is kept of a change finds its place, and so do the changes before it.
within_put : (old new : Names) (name key : Bytes) (before : Option Place) → AreWithin old new → old name ≡ is_some before → key ≡ name → AreWithin old (names_before key before new)
within_put old new name key (Some value) more there same = more
within_put old new name key None more there same = λ other h. at other h (is_eq (slice_cmp nat_cmp other key)) refl
  where
    at : (other : Bytes) → old other ≡ true → (b : Bool) → is_eq (slice_cmp nat_cmp other key) ≡ b → cond b false (new other) ≡ true
    at other h true t = absurd (let one = ap old (same_name other key t ∙ same) in cc)
    at other h false t = more other h

stands_put : (old new : Names) (name key : Bytes) (before : Option Place) → AreWithin old new → old name ≡ is_some before → key ≡ name → stands_among new key before ≡ true
stands_put old new name key (Some value) more there same = ap new same ∙ more name there
stands_put old new name key None more there same = refl

module _ (p : Present) (t : Table) (u : ℕ) (kept : List Kept) (can : CanGoBack p u kept) where
  pub still_find : (scope : Scope) → AreWithin (has_slot (table_of p scope)) (has_slot t) → find_places (has_slot (with_table p scope t).environment) (has_slot (with_table p scope t).locals) kept ≡ true
  still_find Environment more = find_more kept _ _ _ _ more (λ q h. h) can.places
  still_find Local more = find_more kept _ _ _ _ (λ q h. h) more can.places

  pub can_set : (scope : Scope) → find_places (has_slot (with_table p scope t).environment) (has_slot (with_table p scope t).locals) kept ≡ true → CanGoBack (with_table p scope t) u kept
  can_set scope places = record {
    leads = record { text = can.leads.text; log = can.leads.log; frames = can.leads.frames; untouched_frames = can.leads.untouched_frames; nested = can.leads.nested; rooted = can.leads.rooted };
    places = places;
    room = can.room;
  }

  pub can_kept : (scope : Scope) (name : Bytes) (key : Vec ℕ Global) (before : Option Place) → (kept ≡ [] → ⊥) → key.items ≡ name → AreWithin (has_slot (table_of p scope)) (has_slot t) → has_slot (table_of p scope) name ≡ is_some before → CanGoBack (with_table p scope t) u (Change (Variable scope key before) ∷ kept)
  can_kept scope name key before some same more there = record {
    leads = record { text = can.leads.text; log = can.leads.log; frames = can.leads.frames; untouched_frames = can.leads.untouched_frames; nested = can.leads.nested; rooted = rooted_more (Change (Variable scope key before)) kept some can.leads.rooted };
    places = at scope (stands_put (has_slot (table_of p scope)) (has_slot t) name key.items before more there same) (within_put (has_slot (table_of p scope)) (has_slot t) name key.items before more there same);
    room = omega (arith, can.room);
  }
    where
      at : (s : Scope) → stands_among (has_slot t) key.items before ≡ true → AreWithin (has_slot (table_of p s)) (names_before key.items before (has_slot t))
          → find_places (has_slot (with_table p s t).environment) (has_slot (with_table p s t).locals) (Change (Variable s key before) ∷ kept) ≡ true
      at Environment stands within = and_from (stands_among (has_slot t) key.items before) _ stands (find_more kept _ _ _ _ within (λ q h. h) can.places)
      at Local stands within = and_from (stands_among (has_slot t) key.items before) _ stands (find_more kept _ _ _ _ (λ q h. h) within can.places)

-- an option without bytes
pub no_bytes : (o : Option (Bor (List ℕ))) → is_some o ≡ false → option_bytes o ≡ None
no_bytes None none = refl
no_bytes (Some x) none = absurd (let h : true ≡ false = none in cc)

-- something is kept
pub some_kept : (v : Vec Kept Global) (b : Bool) → b ≡ eqb (vec_len v) 0 → b ≡ false → reverse v.items ≡ [] → ⊥
some_kept v b test unlike none = let h = eq-eqb (vec_len v) 0 (none_of_reversed v none) in cc

-- a change that was made in place is kept after what was kept before
pub kept_last : (old roomy new : Vec Kept Global) (one : Kept) → roomy.items ≡ old.items → new.items ≡ roomy.items ++ one ∷ [] → reverse new.items ≡ one ∷ reverse old.items
kept_last old roomy new one same e = reverse_last new.items roomy.items one e ∙ ap (λ ks. one ∷ reverse ks) same

-- what a table says of a variable, its moment says
pub table_set : (p : Present) (t : Table) (scope : Scope) (name : Bytes) (o : Option Bytes) → variables_of t ≡ assigned (variables_of (table_of p scope)) name o → moment_of (with_table p scope t) ≡ with_variable scope name o (moment_of p)
table_set p t Environment name o e = ap (λ v. record (moment_of p) { environment = v }) e
table_set p t Local name o e = ap (λ v. record (moment_of p) { locals = v }) e

-- a variable that is set twice has the second value
pub set_twice : (m : Moment) (scope : Scope) (name : Bytes) (o second : Option Bytes) → with_variable scope name second (with_variable scope name o m) ≡ with_variable scope name second m
set_twice m Environment name o second = ap (λ v. record m { environment = v }) (assigned-again m.environment name o second)
set_twice m Local name o second = ap (λ v. record m { locals = v }) (assigned-again m.locals name o second)

-- the value that it has changes nothing
pub set_same : (p : Present) (scope : Scope) (name : Bytes) (o : Option Bytes) → get (variables_of (table_of p scope)) name ≡ o → with_variable scope name o (moment_of p) ≡ moment_of p
set_same p Environment name o e = ap (λ v. record (moment_of p) { environment = v }) (assigned-same (variables_of p.environment) name o e)
set_same p Local name o e = ap (λ v. record (moment_of p) { locals = v }) (assigned-same (variables_of p.locals) name o e)

pub same_record : (m n : Moment) (ms ns : List Moment) (k : ℕ) → m ≡ n → ms ≡ ns → (let a : Record = record { present = m; marked = ms; begun = k } in let b : Record = record { present = n; marked = ns; begun = k } in a ≡ b)
same_record m n ms ns k e f = λ i. record { present = e i; marked = f i; begun = k }
