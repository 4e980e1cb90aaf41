-- Rows of lists of runs: of two lists, of runs after one outcome, of both sides of a device command.
use Rattle.std.proofs.Common.{ℕ, zero, suc, Bool, true, false, cond, ◌||◌, ◌&&◌, Option, Some, None, List, [], ◌∷◌, ◌++◌, map, filter, refl, sym, ap, subst, ◌∙◌, ◌≡◌, inl, inr, arith, ◌+◌, nat_le, eqb-true, eq-eqb, bytes_eq}
use Rattle.std.proofs.lemmas.Bool.{and_parts, le-leb, lt-leb, leb-true, leb-false}
use Rattle.std.proofs.lemmas.List.{map-append}
use Rattle.std.proofs.lemmas.List.Elements.{filter-append}
use Rattle.std.proofs.lemmas.Slice.Eq.{bytes_eq-Decides}
use Rattle.std.specs.List.{list_any}
use Rattle.device_list.specs.declared.finish.BoardEnd.{BoardEnd}
use Rattle.device_list.specs.declared.finish.BoardEnd.TheVariants.{Boots, Restarts, Halts}
use Rattle.rehearse_terms.specs.Outcomes.{OutcomeWord, Outcome, Success, Failure, WordKind, Run, Short, Long, is_run_kind, words, beyond, runs_within, IsChoice}
use Rattle.rehearse_terms.specs.State.{Text}
use Rattle.rehearse_rules.specs.Execution.{Ending, End, CutDevices, CutSteps, Unknown, Syntax, Unsupported, Panic, Size, Finished}
use Rattle.rehearse_states.specs.Endings.{same_finish, ending_eq, RunEnd, value_eq, values_eq, end_eq, Counted, fewer, counts_at, Row, joined, with_row, merge, one_run, gather, rows_within, in_front, of_both, HasRows, ends, asks}

-- ---- endings

finish_same : (f g : BoardEnd) → same_finish f g ≡ true → f ≡ g
finish_same Boots Boots h = refl
finish_same Restarts Restarts h = refl
finish_same Halts Halts h = refl
finish_same Boots Restarts h = absurd (let e = h in cc)
finish_same Boots Halts h = absurd (let e = h in cc)
finish_same Restarts Boots h = absurd (let e = h in cc)
finish_same Restarts Halts h = absurd (let e = h in cc)
finish_same Halts Boots h = absurd (let e = h in cc)
finish_same Halts Restarts h = absurd (let e = h in cc)

pub ending_same : (a b : Ending) → ending_eq a b ≡ true → a ≡ b
ending_same (End a) (End b) h = ap End (eqb-true a b h)
ending_same (End a) CutDevices h = absurd (let f = h in cc)
ending_same (End a) CutSteps h = absurd (let f = h in cc)
ending_same (End a) (Unknown b) h = absurd (let f = h in cc)
ending_same (End a) (Syntax b) h = absurd (let f = h in cc)
ending_same (End a) (Unsupported b) h = absurd (let f = h in cc)
ending_same (End a) (Panic b) h = absurd (let f = h in cc)
ending_same (End a) Size h = absurd (let f = h in cc)
ending_same (End a) (Finished f b) h = absurd (let f = h in cc)
ending_same CutDevices CutDevices h = refl
ending_same CutDevices (End b) h = absurd (let f = h in cc)
ending_same CutDevices CutSteps h = absurd (let f = h in cc)
ending_same CutDevices (Unknown b) h = absurd (let f = h in cc)
ending_same CutDevices (Syntax b) h = absurd (let f = h in cc)
ending_same CutDevices (Unsupported b) h = absurd (let f = h in cc)
ending_same CutDevices (Panic b) h = absurd (let f = h in cc)
ending_same CutDevices Size h = absurd (let f = h in cc)
ending_same CutDevices (Finished f b) h = absurd (let f = h in cc)
ending_same CutSteps CutSteps h = refl
ending_same CutSteps (End b) h = absurd (let f = h in cc)
ending_same CutSteps CutDevices h = absurd (let f = h in cc)
ending_same CutSteps (Unknown b) h = absurd (let f = h in cc)
ending_same CutSteps (Syntax b) h = absurd (let f = h in cc)
ending_same CutSteps (Unsupported b) h = absurd (let f = h in cc)
ending_same CutSteps (Panic b) h = absurd (let f = h in cc)
ending_same CutSteps Size h = absurd (let f = h in cc)
ending_same CutSteps (Finished f b) h = absurd (let f = h in cc)
ending_same (Unknown a) (Unknown b) h = ap Unknown ((bytes_eq-Decides a b).0 h)
ending_same (Unknown a) (End b) h = absurd (let f = h in cc)
ending_same (Unknown a) CutDevices h = absurd (let f = h in cc)
ending_same (Unknown a) CutSteps h = absurd (let f = h in cc)
ending_same (Unknown a) (Syntax b) h = absurd (let f = h in cc)
ending_same (Unknown a) (Unsupported b) h = absurd (let f = h in cc)
ending_same (Unknown a) (Panic b) h = absurd (let f = h in cc)
ending_same (Unknown a) Size h = absurd (let f = h in cc)
ending_same (Unknown a) (Finished f b) h = absurd (let f = h in cc)
ending_same (Syntax a) (Syntax b) h = ap Syntax ((bytes_eq-Decides a b).0 h)
ending_same (Syntax a) (End b) h = absurd (let f = h in cc)
ending_same (Syntax a) CutDevices h = absurd (let f = h in cc)
ending_same (Syntax a) CutSteps h = absurd (let f = h in cc)
ending_same (Syntax a) (Unknown b) h = absurd (let f = h in cc)
ending_same (Syntax a) (Unsupported b) h = absurd (let f = h in cc)
ending_same (Syntax a) (Panic b) h = absurd (let f = h in cc)
ending_same (Syntax a) Size h = absurd (let f = h in cc)
ending_same (Syntax a) (Finished f b) h = absurd (let f = h in cc)
ending_same (Unsupported a) (Unsupported b) h = ap Unsupported ((bytes_eq-Decides a b).0 h)
ending_same (Unsupported a) (End b) h = absurd (let f = h in cc)
ending_same (Unsupported a) CutDevices h = absurd (let f = h in cc)
ending_same (Unsupported a) CutSteps h = absurd (let f = h in cc)
ending_same (Unsupported a) (Unknown b) h = absurd (let f = h in cc)
ending_same (Unsupported a) (Syntax b) h = absurd (let f = h in cc)
ending_same (Unsupported a) (Panic b) h = absurd (let f = h in cc)
ending_same (Unsupported a) Size h = absurd (let f = h in cc)
ending_same (Unsupported a) (Finished f b) h = absurd (let f = h in cc)
ending_same (Panic a) (Panic b) h = ap Panic ((bytes_eq-Decides a b).0 h)
ending_same (Panic a) (End b) h = absurd (let f = h in cc)
ending_same (Panic a) CutDevices h = absurd (let f = h in cc)
ending_same (Panic a) CutSteps h = absurd (let f = h in cc)
ending_same (Panic a) (Unknown b) h = absurd (let f = h in cc)
ending_same (Panic a) (Syntax b) h = absurd (let f = h in cc)
ending_same (Panic a) (Unsupported b) h = absurd (let f = h in cc)
ending_same (Panic a) Size h = absurd (let f = h in cc)
ending_same (Panic a) (Finished f b) h = absurd (let f = h in cc)
ending_same Size Size h = refl
ending_same Size (End b) h = absurd (let f = h in cc)
ending_same Size CutDevices h = absurd (let f = h in cc)
ending_same Size CutSteps h = absurd (let f = h in cc)
ending_same Size (Unknown b) h = absurd (let f = h in cc)
ending_same Size (Syntax b) h = absurd (let f = h in cc)
ending_same Size (Unsupported b) h = absurd (let f = h in cc)
ending_same Size (Panic b) h = absurd (let f = h in cc)
ending_same Size (Finished f b) h = absurd (let f = h in cc)
ending_same (Finished f a) (Finished g b) h =
    let parts = and_parts (same_finish f g) (bytes_eq a b) h in
    (λ i. Finished (finish_same f g parts.0 i) ((bytes_eq-Decides a b).0 parts.1 i))
ending_same (Finished f a) (End b) h = absurd (let f = h in cc)
ending_same (Finished f a) CutDevices h = absurd (let f = h in cc)
ending_same (Finished f a) CutSteps h = absurd (let f = h in cc)
ending_same (Finished f a) (Unknown b) h = absurd (let f = h in cc)
ending_same (Finished f a) (Syntax b) h = absurd (let f = h in cc)
ending_same (Finished f a) (Unsupported b) h = absurd (let f = h in cc)
ending_same (Finished f a) (Panic b) h = absurd (let f = h in cc)
ending_same (Finished f a) Size h = absurd (let f = h in cc)

pub ending_itself : (a : Ending) → ending_eq a a ≡ true
ending_itself (End a) = eq-eqb a a refl
ending_itself CutDevices = refl
ending_itself CutSteps = refl
ending_itself (Unknown a) = (bytes_eq-Decides a a).1 refl
ending_itself (Syntax a) = (bytes_eq-Decides a a).1 refl
ending_itself (Unsupported a) = (bytes_eq-Decides a a).1 refl
ending_itself (Panic a) = (bytes_eq-Decides a a).1 refl
ending_itself Size = refl
ending_itself (Finished Boots a) = (bytes_eq-Decides a a).1 refl
ending_itself (Finished Restarts a) = (bytes_eq-Decides a a).1 refl
ending_itself (Finished Halts a) = (bytes_eq-Decides a a).1 refl

-- ---- how runs end

value_same : (a b : Option Text) → value_eq a b ≡ true → a ≡ b
value_same None None h = refl
value_same None (Some b) h = absurd (let f = h in cc)
value_same (Some a) None h = absurd (let f = h in cc)
value_same (Some a) (Some b) h = ap Some ((bytes_eq-Decides a b).0 h)

value_itself : (a : Option Text) → value_eq a a ≡ true
value_itself None = refl
value_itself (Some a) = (bytes_eq-Decides a a).1 refl

both_left : (a b : Bool) → (a && b) ≡ true → a ≡ true
both_left true b h = refl
both_left false b h = absurd (let f = h in cc)

both_right : (a b : Bool) → (a && b) ≡ true → b ≡ true
both_right true b h = h
both_right false b h = absurd (let f = h in cc)

both_true : (a b : Bool) → a ≡ true → b ≡ true → (a && b) ≡ true
both_true true b h k = k
both_true false b h k = absurd (let f = h in cc)

values_same : (a b : List (Option Text)) → values_eq a b ≡ true → a ≡ b
values_same [] [] h = refl
values_same [] (y ∷ b) h = absurd (let f = h in cc)
values_same (x ∷ a) [] h = absurd (let f = h in cc)
values_same (x ∷ a) (y ∷ b) h =
    ap (λ (v : Option Text). v ∷ a) (value_same x y (both_left (value_eq x y) (values_eq a b) h))
    ∙ ap (λ (vs : List (Option Text)). y ∷ vs) (values_same a b (both_right (value_eq x y) (values_eq a b) h))

values_itself : (a : List (Option Text)) → values_eq a a ≡ true
values_itself [] = refl
values_itself (x ∷ a) = both_true (value_eq x x) (values_eq a a) (value_itself x) (values_itself a)

abbrev made_end : Ending → List (Option Text) → RunEnd
made_end ending values = record { ending = ending; values = values }

pub end_same : (a b : RunEnd) → end_eq a b ≡ true → a ≡ b
end_same a b h =
    ap (λ (e : Ending). made_end e a.values) (ending_same a.ending b.ending (both_left (ending_eq a.ending b.ending) (values_eq a.values b.values) h))
    ∙ ap (made_end b.ending) (values_same a.values b.values (both_right (ending_eq a.ending b.ending) (values_eq a.values b.values) h))

pub end_itself : (a : RunEnd) → end_eq a a ≡ true
end_itself a = both_true (ending_eq a.ending a.ending) (values_eq a.values a.values) (ending_itself a.ending) (values_itself a.values)

-- ---- rows

-- what `with_row` does to the first row
abbrev pub row_if : Bool → Row → List Row → Row → List Row
row_if b r rs row = elim b [ true ↦ joined r row ∷ rs | false ↦ r ∷ with_row rs row ]

-- rows have this ending
abbrev pub Stands : RunEnd → List Row → Type 0
Stands e rows = list_any (λ r. end_eq r.run_end e) rows ≡ true

stands_if : (b c : Bool) (e : RunEnd) (r : Row) (rs : List Row) (row : Row) → end_eq r.run_end e ≡ c → (list_any (λ q. end_eq q.run_end e) rs ≡ true → list_any (λ q. end_eq q.run_end e) (with_row rs row) ≡ true) → (c || list_any (λ q. end_eq q.run_end e) rs) ≡ true → list_any (λ q. end_eq q.run_end e) (row_if b r rs row) ≡ true
stands_if true c e r rs row k ih h = ap (λ (x : Bool). x || list_any (λ q. end_eq q.run_end e) rs) k ∙ h
stands_if false true e r rs row k ih h = ap (λ (x : Bool). x || list_any (λ q. end_eq q.run_end e) (with_row rs row)) k
stands_if false false e r rs row k ih h = ap (λ (x : Bool). x || list_any (λ q. end_eq q.run_end e) (with_row rs row)) k ∙ ih h

-- an ending that rows have stays in them
pub stands_on : (e : RunEnd) (rs : List Row) (row : Row) → Stands e rs → Stands e (with_row rs row)
stands_on e [] row h = absurd (let f = h in cc)
stands_on e (r ∷ rs) row h = stands_if (end_eq r.run_end row.run_end) (end_eq r.run_end e) e r rs row refl (λ k. stands_on e rs row k) h

or_true : (a b : Bool) → b ≡ true → (a || b) ≡ true
or_true true b h = refl
or_true false b h = h

stands_new_if : (b : Bool) (e : RunEnd) (r : Row) (rs : List Row) (row : Row) → end_eq r.run_end row.run_end ≡ b → row.run_end ≡ e → list_any (λ q. end_eq q.run_end e) (with_row rs row) ≡ true → list_any (λ q. end_eq q.run_end e) (row_if b r rs row) ≡ true
stands_new_if true e r rs row k same h = ap (λ (x : Bool). x || list_any (λ q. end_eq q.run_end e) rs) (sym (ap (λ (x : RunEnd). end_eq r.run_end x) same) ∙ k)
stands_new_if false e r rs row k same h = or_true (end_eq r.run_end e) (list_any (λ q. end_eq q.run_end e) (with_row rs row)) h

-- the ending of a row that was put is in the rows
pub stands_new : (e : RunEnd) (rs : List Row) (row : Row) → row.run_end ≡ e → Stands e (with_row rs row)
stands_new e [] row same = ap (λ (x : Bool). x || false) (ap (λ (x : RunEnd). end_eq x e) same ∙ end_itself e)
stands_new e (r ∷ rs) row same = stands_new_if (end_eq r.run_end row.run_end) e r rs row refl same (stands_new e rs row same)

-- ---- rows with other endings

-- rows do not have this ending
abbrev pub Misses : RunEnd → List Row → Type 0
Misses e rows = list_any (λ r. end_eq r.run_end e) rows ≡ false

-- no two rows have the same ending
abbrev pub AreApart : List Row → Type 0
AreApart [] = Unit {0}
AreApart (r ∷ rs) = Misses r.run_end rs × AreApart rs

pub either_left : (a b : Bool) → (a || b) ≡ false → a ≡ false
either_left true b h = absurd (let f = h in cc)
either_left false b h = refl

pub either_right : (a b : Bool) → (a || b) ≡ false → b ≡ false
either_right true b h = absurd (let f = h in cc)
either_right false b h = h

pub neither : (a b : Bool) → a ≡ false → b ≡ false → (a || b) ≡ false
neither true b h k = absurd (let f = h in cc)
neither false b h k = k

other_way_if : (b : Bool) (x y : RunEnd) → end_eq x y ≡ false → end_eq y x ≡ b → end_eq y x ≡ false
other_way_if true x y h k = absurd (let e : end_eq x y ≡ true = ap (λ (z : RunEnd). end_eq x z) (end_same y x k) ∙ end_itself x in cc)
other_way_if false x y h k = k

other_way : (x y : RunEnd) → end_eq x y ≡ false → end_eq y x ≡ false
other_way x y h = other_way_if (end_eq y x) x y h refl

misses_if : (b : Bool) (e : RunEnd) (r : Row) (rs : List Row) (u : Row) → end_eq u.run_end e ≡ false → Misses e (r ∷ rs) → Misses e (with_row rs u) → Misses e (row_if b r rs u)
misses_if true e r rs u k h l = h
misses_if false e r rs u k h l = neither (end_eq r.run_end e) (list_any (λ q. end_eq q.run_end e) (with_row rs u)) (either_left (end_eq r.run_end e) (list_any (λ q. end_eq q.run_end e) rs) h) l

misses_on : (e : RunEnd) (rs : List Row) (u : Row) → end_eq u.run_end e ≡ false → Misses e rs → Misses e (with_row rs u)
misses_on e [] u k h = neither (end_eq u.run_end e) false k refl
misses_on e (r ∷ rs) u k h = misses_if (end_eq r.run_end u.run_end) e r rs u k h (misses_on e rs u k (either_right (end_eq r.run_end e) (list_any (λ q. end_eq q.run_end e) rs) h))

apart_if : (b : Bool) (r : Row) (rs : List Row) (u : Row) → end_eq r.run_end u.run_end ≡ b → AreApart (r ∷ rs) → AreApart (with_row rs u) → AreApart (row_if b r rs u)
apart_if true r rs u k h l = h
apart_if false r rs u k h l = (misses_on r.run_end rs u (other_way r.run_end u.run_end k) h.0, l)

-- no two rows get the same ending
pub apart_on : (rs : List Row) (u : Row) → AreApart rs → AreApart (with_row rs u)
apart_on [] u h = (refl, tt)
apart_on (r ∷ rs) u h = apart_if (end_eq r.run_end u.run_end) r rs u refl h (apart_on rs u h.1)

-- ---- the run with the fewest unexpected answers

fewer_if : (p q s : Bool) (a b c : Counted) → nat_le a.1 b.1 ≡ p → nat_le b.1 c.1 ≡ q → nat_le a.1 c.1 ≡ s
    → cond (nat_le (cond p a b).1 c.1) (cond p a b) c ≡ cond (nat_le a.1 (cond q b c).1) a (cond q b c)
fewer_if true true true a b c e f g = ap (λ (s : Bool). cond s a c) g ∙ sym (ap (λ (s : Bool). cond s a b) e)
fewer_if true true false a b c e f g = absurd (let x = leb-true a.1 b.1 e in let y = leb-true b.1 c.1 f in let z = leb-false a.1 c.1 g in omega arith)
fewer_if true false s a b c e f g = refl
fewer_if false true s a b c e f g = ap (λ (s : Bool). cond s b c) f ∙ sym (ap (λ (s : Bool). cond s a b) e)
fewer_if false false true a b c e f g = absurd (let x = leb-false a.1 b.1 e in let y = leb-false b.1 c.1 f in let z = leb-true a.1 c.1 g in omega arith)
fewer_if false false false a b c e f g = ap (λ (s : Bool). cond s b c) f ∙ sym (ap (λ (s : Bool). cond s a c) g)

fewer_assoc : (a b c : Counted) → fewer (fewer a b) c ≡ fewer a (fewer b c)
fewer_assoc a b c = fewer_if (nat_le a.1 b.1) (nat_le b.1 c.1) (nat_le a.1 c.1) a b c refl refl refl

le_more_if : (p : Bool) (k a b : ℕ) → nat_le a b ≡ p → nat_le (k + a) (k + b) ≡ p
le_more_if true k a b h = le-leb (k + a) (k + b) (let l = leb-true a b h in omega arith)
le_more_if false k a b h = lt-leb (k + a) (k + b) (let l = leb-false a b h in omega arith)

-- after an outcome that counts so much
behind_one : (d : Outcome) (k : ℕ) → Counted → Counted
behind_one d k v = (d ∷ v.0, k + v.1)

cond_front : (d : Outcome) (k : ℕ) (b : Bool) (v w : Counted) → behind_one d k (cond b v w) ≡ cond b (behind_one d k v) (behind_one d k w)
cond_front d k true v w = refl
cond_front d k false v w = refl

pub fewer_front : (d : Outcome) (k : ℕ) (v w : Counted) → (let one : Counted = (d ∷ (fewer v w).0, k + (fewer v w).1) in one) ≡ fewer (d ∷ v.0, k + v.1) (d ∷ w.0, k + w.1)
unfolding behind_one
fewer_front d k v w = cond_front d k (nat_le v.1 w.1) v w ∙ ap (λ (b : Bool). cond b (behind_one d k v) (behind_one d k w)) (sym (le_more_if (nat_le v.1 w.1) k v.1 w.1 refl))

joined_assoc : (r t u : Row) → joined (joined r t) u ≡ joined r (joined t u)
joined_assoc r t u =
    ap (λ (n : ℕ). record r { count = n; fewest = fewer (fewer r.fewest t.fewest) u.fewest }) (let e : r.count + t.count + u.count ≡ r.count + (t.count + u.count) = omega arith in e)
    ∙ ap (λ (w : Counted). record r { count = r.count + (t.count + u.count); fewest = w }) (fewer_assoc r.fewest t.fewest u.fewest)

-- ---- rows that are put

-- rows of two endings, put in either order
swap_if : (a b : Bool) (r : Row) (rs : List Row) (v u : Row) → end_eq v.run_end u.run_end ≡ false → end_eq r.run_end v.run_end ≡ a → end_eq r.run_end u.run_end ≡ b → (b ≡ false → with_row (with_row rs v) u ≡ with_row (with_row rs u) v) → with_row (row_if a r rs v) u ≡ with_row (row_if b r rs u) v
swap_if true true r rs v u d j k h = absurd (let e = sym (sym (ap (λ (x : RunEnd). end_eq x u.run_end) (end_same r.run_end v.run_end j)) ∙ k) ∙ d in cc)
swap_if true false r rs v u d j k h =
    ap (λ (x : Bool). row_if x (joined r v) rs u) k
    ∙ sym (ap (λ (x : Bool). row_if x r (with_row rs u) v) j)
swap_if false true r rs v u d j k h =
    ap (λ (x : Bool). row_if x r (with_row rs v) u) k
    ∙ sym (ap (λ (x : Bool). row_if x (joined r u) rs v) j)
swap_if false false r rs v u d j k h =
    ap (λ (x : Bool). row_if x r (with_row rs v) u) k
    ∙ ap (λ (x : List Row). r ∷ x) (h refl)
    ∙ sym (ap (λ (x : Bool). row_if x r (with_row rs u) v) j)

later_stands : (b c : Bool) → b ≡ false → (b || c) ≡ true → c ≡ true
later_stands true c e h = absurd (let f = e in cc)
later_stands false c e h = h

swap : (rs : List Row) (v u : Row) → end_eq v.run_end u.run_end ≡ false → Stands u.run_end rs → with_row (with_row rs v) u ≡ with_row (with_row rs u) v
swap [] v u d h = absurd (let f = h in cc)
swap (r ∷ rs) v u d h = swap_if (end_eq r.run_end v.run_end) (end_eq r.run_end u.run_end) r rs v u d refl refl (λ k. swap rs v u d (later_stands (end_eq r.run_end u.run_end) (list_any (λ q. end_eq q.run_end u.run_end) rs) k h))

-- a row whose ending is there may be put before the rows with other endings
put_first : (qs ts : List Row) (u : Row) → Misses u.run_end ts → Stands u.run_end qs → with_row (merge qs ts) u ≡ merge (with_row qs u) ts
put_first qs [] u d h = refl
put_first qs (v ∷ vs) u d h =
    put_first (with_row qs v) vs u (either_right (end_eq v.run_end u.run_end) (list_any (λ q. end_eq q.run_end u.run_end) vs) d) (stands_on u.run_end qs v h)
    ∙ ap (λ (x : List Row). merge x vs) (swap qs v u (either_left (end_eq v.run_end u.run_end) (list_any (λ q. end_eq q.run_end u.run_end) vs) d) h)

-- two rows of one ending
twice_if : (a : Bool) (r : Row) (rs : List Row) (t u : Row) → end_eq r.run_end t.run_end ≡ a → t.run_end ≡ u.run_end → with_row (with_row rs t) u ≡ with_row rs (joined t u) → with_row (row_if a r rs t) u ≡ row_if a r rs (joined t u)
twice_if true r rs t u k same h =
    ap (λ (x : Bool). row_if x (joined r t) rs u) (sym (ap (λ (x : RunEnd). end_eq r.run_end x) same) ∙ k)
    ∙ ap (λ (x : Row). x ∷ rs) (joined_assoc r t u)
twice_if false r rs t u k same h =
    ap (λ (x : Bool). row_if x r (with_row rs t) u) (sym (ap (λ (x : RunEnd). end_eq r.run_end x) same) ∙ k)
    ∙ ap (λ (x : List Row). r ∷ x) h

twice : (rs : List Row) (t u : Row) → t.run_end ≡ u.run_end → with_row (with_row rs t) u ≡ with_row rs (joined t u)
twice [] t u same = ap (λ (x : Bool). row_if x t [] u) (sym (ap (λ (x : RunEnd). end_eq t.run_end x) same) ∙ end_itself t.run_end)
twice (r ∷ rs) t u same = twice_if (end_eq r.run_end t.run_end) r rs t u refl same (twice rs t u same)

-- a row put into rows that are then merged
put_later_if : (a : Bool) (rs : List Row) (t : Row) (ts : List Row) (u : Row) → Misses t.run_end ts → end_eq t.run_end u.run_end ≡ a → ((qs : List Row) → merge qs (with_row ts u) ≡ with_row (merge qs ts) u) → merge rs (row_if a t ts u) ≡ with_row (merge (with_row rs t) ts) u
put_later_if true rs t ts u d k h =
    let same : t.run_end ≡ u.run_end = end_same t.run_end u.run_end k in
    ap (λ (x : List Row). merge x ts) (sym (twice rs t u same)) ∙ sym (put_first (with_row rs t) ts u (subst (λ (e : RunEnd). Misses e ts) same d) (stands_new u.run_end rs t same))
put_later_if false rs t ts u d k h = h (with_row rs t)

put_later : (rs ts : List Row) (u : Row) → AreApart ts → merge rs (with_row ts u) ≡ with_row (merge rs ts) u
put_later rs [] u d = refl
put_later rs (t ∷ ts) u d = put_later_if (end_eq t.run_end u.run_end) rs t ts u d.0 refl (λ qs. put_later qs ts u d.1)

pub merge_assoc : (rs ts us : List Row) → AreApart ts → merge rs (merge ts us) ≡ merge (merge rs ts) us
merge_assoc rs ts [] d = refl
merge_assoc rs ts (u ∷ us) d = merge_assoc rs (with_row ts u) us (apart_on ts u d) ∙ ap (λ (x : List Row). merge x us) (put_later rs ts u d)

merge_append : (rs ts us : List Row) → merge rs (ts ++ us) ≡ merge (merge rs ts) us
merge_append rs [] us = refl
merge_append rs (t ∷ ts) us = merge_append (with_row rs t) ts us

-- the law of two lists of runs
pub gather_append : (xs ys : List (RunEnd × Counted)) → gather (xs ++ ys) ≡ merge (gather xs) (gather ys)
gather_append xs ys =
    ap (λ (x : List Row). merge [] x) (map-append one_run xs ys)
    ∙ merge_append [] (map one_run xs) (map one_run ys)
    ∙ sym (merge_assoc (gather xs) [] (map one_run ys) tt)

-- ---- runs after one outcome

put_behind_if : (b : Bool) (d : Outcome) (k : ℕ) (r : Row) (rs : List Row) (row : Row) → map (in_front d k) (with_row rs row) ≡ with_row (map (in_front d k) rs) (in_front d k row) → map (in_front d k) (row_if b r rs row) ≡ row_if b (in_front d k r) (map (in_front d k) rs) (in_front d k row)
put_behind_if true d k r rs row h =
    ap (λ (w : Counted). record (in_front d k r) { count = r.count + row.count; fewest = w } ∷ map (in_front d k) rs) (fewer_front d k r.fewest row.fewest)
put_behind_if false d k r rs row h = ap (λ (x : List Row). in_front d k r ∷ x) h

put_behind : (d : Outcome) (k : ℕ) (rs : List Row) (row : Row) → map (in_front d k) (with_row rs row) ≡ with_row (map (in_front d k) rs) (in_front d k row)
put_behind d k [] row = refl
put_behind d k (r ∷ rs) row = put_behind_if (end_eq r.run_end row.run_end) d k r rs row (put_behind d k rs row)

pub merge_behind : (d : Outcome) (k : ℕ) (rs ts : List Row) → map (in_front d k) (merge rs ts) ≡ merge (map (in_front d k) rs) (map (in_front d k) ts)
merge_behind d k rs [] = refl
merge_behind d k rs (t ∷ ts) = merge_behind d k (with_row rs t) ts ∙ ap (λ (x : List Row). merge x (map (in_front d k) ts)) (put_behind d k rs t)

-- what is counted of the words after an outcome
module _ (d : Outcome) (k : ℕ) (ending : OutcomeWord → RunEnd) (count behind_count : OutcomeWord → ℕ) (so : (w : OutcomeWord) → count (d ∷ w) ≡ k + behind_count w) where
  singles_behind : (ws : List OutcomeWord) → map one_run (map (λ w. (ending w, (w, count w))) (map (λ w. d ∷ w) ws)) ≡ map (in_front d k) (map one_run (map (λ w. (ending (d ∷ w), (w, behind_count w))) ws))
  singles_behind [] = refl
  singles_behind (w ∷ ws) = λ i. one_run (ending (d ∷ w), (d ∷ w, so w i)) ∷ singles_behind ws i

  pub gather_behind : (ws : List OutcomeWord) → gather (map (λ w. (ending w, (w, count w))) (map (λ w. d ∷ w) ws)) ≡ map (in_front d k) (gather (map (λ w. (ending (d ∷ w), (w, behind_count w))) ws))
  gather_behind ws = ap (merge []) (singles_behind ws) ∙ sym (merge_behind d k [] (map one_run (map (λ w. (ending (d ∷ w), (w, behind_count w))) ws)))

-- ---- both sides of a device command

abbrev Kinds : Type 0
Kinds = OutcomeWord → WordKind

cond_map : (f : OutcomeWord → OutcomeWord) (b : Bool) (x : OutcomeWord) (ys zs : List OutcomeWord) → zs ≡ map f ys → cond b (f x ∷ zs) zs ≡ map f (cond b (x ∷ ys) ys)
cond_map f true x ys zs e = ap (λ (l : List OutcomeWord). f x ∷ l) e
cond_map f false x ys zs e = e

filter_map : (p : OutcomeWord → Bool) (f : OutcomeWord → OutcomeWord) (xs : List OutcomeWord) → filter p (map f xs) ≡ map f (filter (λ x. p (f x)) xs)
filter_map p f [] = refl
filter_map p f (x ∷ xs) = cond_map f (p (f x)) x (filter (λ x. p (f x)) xs) (filter p (map f xs)) (filter_map p f xs)

cond_none : (b : Bool) (x : OutcomeWord) (ys : List OutcomeWord) → b ≡ false → ys ≡ [] → cond b (x ∷ ys) ys ≡ []
cond_none true x ys h e = cc
cond_none false x ys h e = e

filter_none : (p : OutcomeWord → Bool) (xs : List OutcomeWord) → ((x : OutcomeWord) → p x ≡ false) → filter p xs ≡ []
filter_none p [] h = refl
filter_none p (x ∷ xs) h = cond_none (p x) x (filter p xs) (h x) (filter_none p xs h)

behind : Kinds → ℕ → Outcome → List OutcomeWord
behind kind n d = map (λ w. d ∷ w) (runs_within (beyond d kind) n)

both_is : (kind : Kinds) (n : ℕ) → filter (λ w. is_run_kind (kind w)) (map (λ w. Success ∷ w) (words n) ++ map (λ w. Failure ∷ w) (words n)) ≡ behind kind n Success ++ behind kind n Failure
unfolding behind
both_is kind n =
    let p = λ (w : OutcomeWord). is_run_kind (kind w) in
    let split = filter-append p (map (λ w. Success ∷ w) (words n)) (map (λ w. Failure ∷ w) (words n)) in
    let left = filter_map p (λ w. Success ∷ w) (words n) in
    let right = filter_map p (λ w. Failure ∷ w) (words n) in
    cc

none_behind : (kind : Kinds) (n : ℕ) → ((d : Outcome) (w : OutcomeWord) → kind (d ∷ w) ≡ Long) → behind kind n Success ++ behind kind n Failure ≡ []
unfolding behind
none_behind kind n others =
    let none = λ (d : Outcome). filter_none (λ w. is_run_kind (kind (d ∷ w))) (words n) (λ w. ap is_run_kind (others d w)) in
    rw (none Success, none Failure) refl

runs_here : (kind : Kinds) (n : ℕ) → kind [] ≡ Run → ((d : Outcome) (w : OutcomeWord) → kind (d ∷ w) ≡ Long) → runs_within kind n ≡ [] ∷ []
runs_here kind zero here others = rw here refl
runs_here kind (suc n) here others = rw here (ap (λ (l : List OutcomeWord). [] ∷ l) (both_is kind n ∙ none_behind kind n others))

runs_past : (kind : Kinds) (n : ℕ) → kind [] ≡ Short → runs_within kind (suc n) ≡ behind kind n Success ++ behind kind n Failure
runs_past kind n asked = rw asked (both_is kind n)

-- the law of both sides
pub rows_past : (kind : Kinds) (ending : OutcomeWord → RunEnd) (count won_count lost_count : OutcomeWord → ℕ) (expected : Option Bool) (n : ℕ) → kind [] ≡ Short
    → ((w : OutcomeWord) → count (Success ∷ w) ≡ counts_at expected Success + won_count w) → ((w : OutcomeWord) → count (Failure ∷ w) ≡ counts_at expected Failure + lost_count w)
    → rows_within kind ending count (suc n) ≡ of_both expected (rows_within (beyond Success kind) (λ w. ending (Success ∷ w)) won_count n) (rows_within (beyond Failure kind) (λ w. ending (Failure ∷ w)) lost_count n)
unfolding behind
rows_past kind ending count won_count lost_count expected n asked won lost =
    let s = counts_at expected Success in
    let f = counts_at expected Failure in
    ap (λ (ws : List OutcomeWord). gather (map (λ w. (ending w, (w, count w))) ws)) (runs_past kind n asked)
    ∙ ap gather (map-append (λ w. (ending w, (w, count w))) (behind kind n Success) (behind kind n Failure))
    ∙ gather_append (map (λ w. (ending w, (w, count w))) (behind kind n Success)) (map (λ w. (ending w, (w, count w))) (behind kind n Failure))
    ∙ ap (λ (x : List Row). merge x (gather (map (λ w. (ending w, (w, count w))) (behind kind n Failure)))) (gather_behind Success s ending count won_count won (runs_within (beyond Success kind) n))
    ∙ ap (λ (x : List Row). merge (map (in_front Success s) (rows_within (beyond Success kind) (λ w. ending (Success ∷ w)) won_count n)) x) (gather_behind Failure f ending count lost_count lost (runs_within (beyond Failure kind) n))

pub rows_here : (kind : Kinds) (ending : OutcomeWord → RunEnd) (count : OutcomeWord → ℕ) (n : ℕ) → kind [] ≡ Run → ((d : Outcome) (w : OutcomeWord) → kind (d ∷ w) ≡ Long) → count [] ≡ 0 → rows_within kind ending count n ≡ one_run (ending [], ([], 0)) ∷ []
rows_here kind ending count n here others none =
    ap (λ (ws : List OutcomeWord). gather (map (λ w. (ending w, (w, count w))) ws)) (runs_here kind n here others)
    ∙ ap (λ (k : ℕ). one_run (ending [], ([], k)) ∷ []) none

-- rows that are made from the ends are the rows
pub are_rows : (kind : Kinds) (ending : OutcomeWord → RunEnd) (count : OutcomeWord → ℕ) (rows : List Row) (n : ℕ) → HasRows kind ending count rows → IsChoice n kind → rows ≡ rows_within kind ending count n
are_rows kind ending count rows n (ends here others none) c = sym (rows_here kind ending count n here others none)
are_rows kind ending count rows zero (asks expected asked s f w l) c = absurd (let e = c.0 in cc)
are_rows kind ending count rows (suc n) (asks expected asked s f w l) (inl c) = absurd (let e = c.0 in cc)
are_rows kind ending count rows (suc n) (asks {won_count = won_count} {lost_count = lost_count} {won = won} {lost = lost} expected asked s f w l) (inr c) =
    ap (λ (x : List Row). of_both expected x lost) (are_rows (beyond Success kind) (λ v. ending (Success ∷ v)) won_count won n w (c.1 Success))
    ∙ ap (λ (x : List Row). of_both expected (rows_within (beyond Success kind) (λ v. ending (Success ∷ v)) won_count n) x) (are_rows (beyond Failure kind) (λ v. ending (Failure ∷ v)) lost_count lost n l (c.1 Failure))
    ∙ sym (rows_past kind ending count won_count lost_count expected n asked s f)
