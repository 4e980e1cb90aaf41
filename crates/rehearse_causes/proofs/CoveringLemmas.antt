-- What covers what: each cause itself, and what is covered by a cause that it covers.
use Rattle.std.proofs.Common.{ℕ, suc, Bool, true, false, cond, ◌&&◌, List, [], ◌∷◌, filter, length, map, not, refl, sym, ap, subst, ◌∙◌, ◌≡◌, ◌≤◌, nat_le, arith}
use Rattle.std.proofs.lemmas.Bool.{le-leb, leb-true}
use Rattle.std.proofs.lemmas.Slice.Eq.{bytes_eq-Decides}
use Rattle.std.specs.List.{list_all}
use Rattle.std.specs.Str.{bytes_eq}
use Rattle.rehearse_terms.specs.State.{LoggedCommand, Text, same_words}
use Rattle.rehearse_states.specs.Endings.{ending_eq}
use Rattle.device_list.specs.DeviceList.{Devices}
use Rattle.rehearse_rules.specs.Expected.{Answered, asked_in, is_unexpected, unexpected_of}
use Rattle.rehearse_states.proofs.RowsOfRuns.{ending_same, ending_itself}
use Rattle.rehearse_causes.specs.Causes.{Cause, times, are_among, covers, calls}

pub both_left : (a b : Bool) → (a && b) ≡ true → a ≡ true
both_left true b h = refl
both_left false b h = absurd (let f = h in cc)

pub both_right : (a b : Bool) → (a && b) ≡ true → b ≡ true
both_right true b h = h
both_right false b h = absurd (let f = h in cc)

pub both_true : (a b : Bool) → a ≡ true → b ≡ true → (a && b) ≡ true
both_true true b h k = k
both_true false b h k = absurd (let f = h in cc)

-- ---- words

pub words_same : (v w : List Text) → same_words v w ≡ true → v ≡ w
words_same [] [] h = refl
words_same [] (y ∷ w) h = absurd (let f = h in cc)
words_same (x ∷ v) [] h = absurd (let f = h in cc)
words_same (x ∷ v) (y ∷ w) h =
    ap (λ (t : Text). t ∷ v) ((bytes_eq-Decides x y).0 (both_left (bytes_eq x y) (same_words v w) h))
    ∙ ap (λ (ts : List Text). y ∷ ts) (words_same v w (both_right (bytes_eq x y) (same_words v w) h))

pub words_themselves : (v : List Text) → same_words v v ≡ true
words_themselves [] = refl
words_themselves (x ∷ v) = both_true (bytes_eq x x) (same_words v v) ((bytes_eq-Decides x x).1 refl) (words_themselves v)

-- ---- commands among others

-- whether a command is one of them
pub data IsOne (c : List Text) : List (List Text) → Type 0 where
  first : {d : List Text} {cs : List (List Text)} → c ≡ d → IsOne c (d ∷ cs)
  later : {d : List Text} {cs : List (List Text)} → IsOne c cs → IsOne c (d ∷ cs)

pub one_counts : (c : List Text) (cs : List (List Text)) → IsOne c cs → 1 ≤ times c cs
one_counts c [] one = elim one [ ]
one_counts c (d ∷ cs) (first e) =
    let same : same_words c d ≡ true = subst (λ (x : List Text). same_words c x ≡ true) e (words_themselves c) in
    rw same (omega arith)
one_counts c (d ∷ cs) (later one) = by (same_words c d) refl (one_counts c cs one)
  where
    by : (b : Bool) → same_words c d ≡ b → 1 ≤ times c cs → 1 ≤ times c (d ∷ cs)
    by true e on = rw e (omega arith)
    by false e on = rw e on

pub counted_is_one : (c : List Text) (cs : List (List Text)) → 1 ≤ times c cs → IsOne c cs
counted_is_one c [] h = absurd (omega (arith, h))
counted_is_one c (d ∷ cs) h = by (same_words c d) refl (counted_is_one c cs)
  where
    by : (b : Bool) → same_words c d ≡ b → (1 ≤ times c cs → IsOne c cs) → IsOne c (d ∷ cs)
    by true e on = first (words_same c d e)
    by false e on = later (on (subst (λ (b : Bool). 1 ≤ length (cond b (d ∷ filter (same_words c) cs) (filter (same_words c) cs))) e h))

-- a test that each of them passes
pub all_pass : (p : List Text → Bool) (cs : List (List Text)) → ((c : List Text) → IsOne c cs → p c ≡ true) → list_all p cs ≡ true
all_pass p [] each = refl
all_pass p (c ∷ cs) each = both_true (p c) (list_all p cs) (each c (first refl)) (all_pass p cs (λ d one. each d (later one)))

pub passes_all : (p : List Text → Bool) (c : List Text) (cs : List (List Text)) → list_all p cs ≡ true → IsOne c cs → p c ≡ true
passes_all p c [] h one = elim one [ ]
passes_all p c (d ∷ cs) h (first e) = subst (λ (x : List Text). p x ≡ true) (sym e) (both_left (p d) (list_all p cs) h)
passes_all p c (d ∷ cs) h (later one) = passes_all p c cs (both_right (p d) (list_all p cs) h) one

among_themselves : (cs : List (List Text)) → are_among cs cs ≡ true
among_themselves cs = all_pass (λ c. nat_le (times c cs) (times c cs)) cs (λ c one. le-leb _ _ (omega arith))

among_on : (xs ys zs : List (List Text)) → are_among xs ys ≡ true → are_among ys zs ≡ true → are_among xs zs ≡ true
among_on xs ys zs h k = all_pass (λ c. nat_le (times c xs) (times c zs)) xs each
  where
    each : (c : List Text) → IsOne c xs → nat_le (times c xs) (times c zs) ≡ true
    each c one =
        let here : times c xs ≤ times c ys = leb-true _ _ (passes_all (λ c. nat_le (times c xs) (times c ys)) c xs h one) in
        let some = one_counts c xs one in
        let there = counted_is_one c ys (omega (arith, here, some)) in
        let on : times c ys ≤ times c zs = leb-true _ _ (passes_all (λ c. nat_le (times c ys) (times c zs)) c ys k there) in
        le-leb _ _ (omega (arith, here, on))

-- ---- causes

pub covers_itself : (c : Cause) → covers c c ≡ true
covers_itself c = both_true (ending_eq c.ending c.ending) (are_among (calls c) (calls c)) (ending_itself c.ending) (among_themselves (calls c))

pub covers_on : (a b c : Cause) → covers a b ≡ true → covers b c ≡ true → covers a c ≡ true
covers_on a b c h k =
    let one = ending_same a.ending b.ending (both_left (ending_eq a.ending b.ending) (are_among (calls a) (calls b)) h) in
    let two = ending_same b.ending c.ending (both_left (ending_eq b.ending c.ending) (are_among (calls b) (calls c)) k) in
    both_true (ending_eq a.ending c.ending) (are_among (calls a) (calls c))
    (rw (one ∙ two) (ending_itself c.ending))
    (among_on (calls a) (calls b) (calls c) (both_right (ending_eq a.ending b.ending) (are_among (calls a) (calls b)) h) (both_right (ending_eq b.ending c.ending) (are_among (calls b) (calls c)) k))

-- ---- entries of a log, by their words

pub counted_entries : (c : List Text) (entries : List LoggedCommand) → length (filter (λ e. same_words c e.words) entries) ≡ times c (map (λ e. e.words) entries)
counted_entries c [] = refl
counted_entries c (e ∷ entries) = by (same_words c e.words) refl (counted_entries c entries)
  where
    by : (b : Bool) → same_words c e.words ≡ b → length (filter (λ e. same_words c e.words) entries) ≡ times c (map (λ e. e.words) entries)
        → length (filter (λ e. same_words c e.words) (e ∷ entries)) ≡ times c (map (λ e. e.words) (e ∷ entries))
    by true s on = rw s (ap (λ (n : ℕ). suc n) on)
    by false s on = rw s on

-- those of a log that were asked and whose answers are unexpected
pub failing_answers : (devices : Devices) (log : List LoggedCommand) → map (λ e. (e.success, e.words)) (filter (λ e. not e.again && is_unexpected devices (e.success, e.words)) log) ≡ unexpected_of devices (asked_in log)
failing_answers devices [] = refl
failing_answers devices (e ∷ log) = by e.again (is_unexpected devices (e.success, e.words)) refl refl (failing_answers devices log)
  where
    by : (again other : Bool) → e.again ≡ again → is_unexpected devices (e.success, e.words) ≡ other
        → map (λ e. (e.success, e.words)) (filter (λ e. not e.again && is_unexpected devices (e.success, e.words)) log) ≡ unexpected_of devices (asked_in log)
        → map (λ e. (e.success, e.words)) (filter (λ e. not e.again && is_unexpected devices (e.success, e.words)) (e ∷ log)) ≡ unexpected_of devices (asked_in (e ∷ log))
    by true other p q on = rw p on
    by false true p q on = rw (p, q) (ap (λ (answers : List Answered). (e.success, e.words) ∷ answers) on)
    by false false p q on = rw (p, q) on

-- the words of answers
pub words_of_answers : (log : List LoggedCommand) → map (λ (a : Answered). a.1) (map (λ (e : LoggedCommand). (e.success, e.words)) log) ≡ map (λ e. e.words) log
words_of_answers [] = refl
words_of_answers (e ∷ log) = ap (λ (words : List (List Text)). e.words ∷ words) (words_of_answers log)
