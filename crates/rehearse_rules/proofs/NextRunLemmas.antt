-- What follows a run in the list of all runs.
use Rattle.std.proofs.Common.{ℕ, zero, suc, Bool, true, false, cond, List, [], ◌∷◌, ◌++◌, length, Option, Some, None, option_map, refl, sym, ap, subst, ◌∙◌, ◌≡◌, ◌≢◌, ◌⊎◌, ◌||◌, inl, inr, ◌≤◌, append_assoc, arith}
use Rattle.std.specs.Prelude.{⊤}
use Rattle.std.proofs.lemmas.Bool.{false≢true}
use Rattle.rehearse_terms.specs.Outcomes.{OutcomeWord, Outcome, Success, Failure, Run, Long, word_eq, comes_before, after, common_prefix, Short, beyond, IsChoice}
use Rattle.rehearse_rules.specs.Choosing.{allowed_beyond, first_run, first_from, has_success, turned}
use Rattle.rehearse_rules.proofs.OrderOfWords.{AreOrdered, Before, allowed_ordered}
use Rattle.rehearse_rules.proofs.ChoiceTreeLemmas.{Kinds, Test, IsPruned, allowed_within, next_run, IsFollowed, followed_by, begins_with_first}

-- u is not one of the words
abbrev pub Absent : OutcomeWord → List OutcomeWord → Type 0
Absent u [] = ⊤
Absent u (v ∷ vs) = (word_eq u v ≡ false) × Absent u vs

abbrev pub AreDistinct : List OutcomeWord → Type 0
AreDistinct [] = ⊤
AreDistinct (w ∷ ws) = Absent w ws × AreDistinct ws

pub word_eq-same : (w : OutcomeWord) → word_eq w w ≡ true
word_eq-same [] = refl
word_eq-same (Success ∷ w) = word_eq-same w
word_eq-same (Failure ∷ w) = word_eq-same w

-- a word that comes before another is not that word
word_eq-before : (u v : OutcomeWord) → comes_before u v ≡ true → word_eq u v ≡ false
word_eq-before [] [] h = absurd (false≢true h)
word_eq-before [] (d ∷ v) h = refl
word_eq-before (c ∷ u) [] h = refl
word_eq-before (Success ∷ u) (Success ∷ v) h = word_eq-before u v h
word_eq-before (Success ∷ u) (Failure ∷ v) h = refl
word_eq-before (Failure ∷ u) (Success ∷ v) h = refl
word_eq-before (Failure ∷ u) (Failure ∷ v) h = word_eq-before u v h

Before-Absent : (u : OutcomeWord) (ws : List OutcomeWord) → Before u ws → Absent u ws
Before-Absent u [] h = tt
Before-Absent u (v ∷ ws) h = (word_eq-before u v h.0, Before-Absent u ws h.1)

-- words in their order are distinct
AreOrdered-AreDistinct : (ws : List OutcomeWord) → AreOrdered ws → AreDistinct ws
AreOrdered-AreDistinct [] h = tt
AreOrdered-AreDistinct (w ∷ ws) h = (Before-Absent w ws h.0, AreOrdered-AreDistinct ws h.1)

-- no run is in the list twice
pub runs_distinct : (allowed : Test) (kind : Kinds) (n : ℕ) → AreDistinct (allowed_within allowed kind n)
runs_distinct allowed kind n = AreOrdered-AreDistinct (allowed_within allowed kind n) (allowed_ordered allowed kind n)

pub Absent_at : (w u : OutcomeWord) (a b : List OutcomeWord) → Absent w (a ++ u ∷ b) → word_eq w u ≡ false
Absent_at w u [] b h = h.0
Absent_at w u (v ∷ a) b h = Absent_at w u a b h.1

pub after_at : (u : OutcomeWord) (a b : List OutcomeWord) → AreDistinct (a ++ u ∷ b) → after u (a ++ u ∷ b) ≡ b
after_at u [] b h = let e = word_eq-same u in rw e refl
after_at u (v ∷ a) b h = let e = Absent_at v u a b h.0 in rw e (after_at u a b h.1)

-- the same, if the list is known by an equation
pub after_in : (u : OutcomeWord) (ws a b : List OutcomeWord) → ws ≡ a ++ u ∷ b → AreDistinct ws → after u ws ≡ b
after_in u ws a b e h = subst (λ (vs : List OutcomeWord). after u vs ≡ b) (sym e) (after_at u a b (subst AreDistinct e h))

-- what comes after a word is at the end
after_front : (b : Bool) (v : OutcomeWord) (vs rest : List OutcomeWord) → (front : List OutcomeWord) × (vs ≡ front ++ rest) → (front : List OutcomeWord) × (v ∷ vs ≡ front ++ cond b vs rest)
after_front true v vs rest h = (v ∷ [], refl)
after_front false v vs rest h = (v ∷ h.0, ap (λ (us : List OutcomeWord). v ∷ us) h.1)

pub after_ends : (w : OutcomeWord) (ws : List OutcomeWord) → (front : List OutcomeWord) × (ws ≡ front ++ after w ws)
after_ends w [] = ([], refl)
after_ends w (v ∷ vs) = after_front (word_eq v w) v vs (after w vs) (after_ends w vs)

-- the first run comes first
pub runs_begin : (allowed : Test) (kind : Kinds) (n : ℕ) → IsChoice n kind → IsPruned kind allowed → allowed [] ≡ true → allowed_within allowed kind n ≡ first_run allowed kind n ∷ after (first_run allowed kind n) (allowed_within allowed kind n)
runs_begin allowed kind n c pruned may =
    let t = begins_with_first allowed kind n c pruned may in
    let e = after_in (first_run allowed kind n) (allowed_within allowed kind n) [] t.0 t.1 (runs_distinct allowed kind n) in
    t.1 ∙ ap (λ (ws : List OutcomeWord). first_run allowed kind n ∷ ws) (sym e)

-- a run of which no success may be a failure is the last
pub none_follows : (allowed : Test) (kind : Kinds) (n : ℕ) → IsChoice n kind → IsPruned kind allowed → (u : OutcomeWord) → kind u ≡ Run → allowed u ≡ true → turned allowed u ≡ None → after u (allowed_within allowed kind n) ≡ []
none_follows allowed kind n c pruned u r may e =
    let f = subst (λ (t : Option OutcomeWord). IsFollowed u (option_map (first_from allowed kind n) t) (allowed_within allowed kind n)) e (followed_by allowed kind n c pruned u r may) in
    after_in u (allowed_within allowed kind n) f.0 [] f.1 (runs_distinct allowed kind n)

-- the run after u is the first run that starts with u cut after its last success that may be a failure, which became one
pub follows : (allowed : Test) (kind : Kinds) (n : ℕ) → IsChoice n kind → IsPruned kind allowed → (u p : OutcomeWord) → kind u ≡ Run → allowed u ≡ true → turned allowed u ≡ Some p → after u (allowed_within allowed kind n) ≡ first_from allowed kind n p ∷ after (first_from allowed kind n p) (allowed_within allowed kind n)
follows allowed kind n c pruned u p r may e =
    let v = first_from allowed kind n p in
    let f = subst (λ (t : Option OutcomeWord). IsFollowed u (option_map (first_from allowed kind n) t) (allowed_within allowed kind n)) e (followed_by allowed kind n c pruned u r may) in
    let one = after_in u (allowed_within allowed kind n) f.0 (v ∷ f.1) f.2 (runs_distinct allowed kind n) in
    let two = after_in v (allowed_within allowed kind n) (f.0 ++ u ∷ []) f.1 (f.2 ∙ sym (append_assoc f.0 (u ∷ []) (v ∷ f.1))) (runs_distinct allowed kind n) in
    one ∙ ap (λ (ws : List OutcomeWord). v ∷ ws) (sym two)

-- ---- a run is followed by another exactly if one of its successes may be a failure

map_none : (t : Option OutcomeWord) → t ≡ None → option_map (λ v. Failure ∷ v) t ≡ None
map_none t e = ap (option_map (λ v. Failure ∷ v)) e

neither : (b c : Bool) → (b || c) ≡ false → (b ≡ false) × (c ≡ false)
neither true c e = absurd (let f = e in cc)
neither false c e = (refl, e)

either : (b c : Bool) → (b || c) ≡ true → (b ≡ true) ⊎ (c ≡ true)
either true c e = inl refl
either false c e = inr e

abbrev success_turned : Bool → Option OutcomeWord → Option OutcomeWord
success_turned may t = elim t [ Some v ↦ Some (Success ∷ v) | None ↦ cond may (Some (Failure ∷ [])) None ]

turned-success : (allowed : Test) (u : OutcomeWord) → has_success allowed u ≡ false → turned allowed u ≡ None
turned-success allowed [] h = refl
turned-success allowed (Success ∷ u) h =
    let none = neither (allowed (Failure ∷ [])) (has_success (allowed_beyond Success allowed) u) h in
    let ih = turned-success (allowed_beyond Success allowed) u none.1 in
    ap (λ (t : Option OutcomeWord). success_turned (allowed (Failure ∷ [])) t) ih ∙ ap (λ (b : Bool). cond b (Some (Failure ∷ [])) None) none.0
turned-success allowed (Failure ∷ u) h = map_none (turned (allowed_beyond Failure allowed) u) (turned-success (allowed_beyond Failure allowed) u h)

turns_if : (may : Bool) (t : Option OutcomeWord) → may ≡ true → (p : OutcomeWord) × (success_turned may t ≡ Some p)
turns_if may (Some v) h = (Success ∷ v, refl)
turns_if may None h = (Failure ∷ [], rw h refl)

turns_success : (allowed : Test) (u : OutcomeWord) → (has_success (allowed_beyond Success allowed) u ≡ true → (p : OutcomeWord) × (turned (allowed_beyond Success allowed) u ≡ Some p))
    → (allowed (Failure ∷ []) ≡ true) ⊎ (has_success (allowed_beyond Success allowed) u ≡ true) → (p : OutcomeWord) × (turned allowed (Success ∷ u) ≡ Some p)
turns_success allowed u later (inl e) = turns_if (allowed (Failure ∷ [])) (turned (allowed_beyond Success allowed) u) e
turns_success allowed u later (inr e) = let ih = later e in (Success ∷ ih.0, ap (λ (t : Option OutcomeWord). success_turned (allowed (Failure ∷ [])) t) ih.1)

has-turned : (allowed : Test) (u : OutcomeWord) → has_success allowed u ≡ true → (p : OutcomeWord) × (turned allowed u ≡ Some p)
has-turned allowed [] h = absurd (let e = h in cc)
has-turned allowed (Success ∷ u) h = turns_success allowed u (has-turned (allowed_beyond Success allowed) u) (either (allowed (Failure ∷ [])) (has_success (allowed_beyond Success allowed) u) h)
has-turned allowed (Failure ∷ u) h = let ih = has-turned (allowed_beyond Failure allowed) u h in (Failure ∷ ih.0, ap (option_map (λ v. Failure ∷ v)) ih.1)

pub none_without_success : (allowed : Test) (kind : Kinds) (n : ℕ) → IsChoice n kind → IsPruned kind allowed → (u : OutcomeWord) → kind u ≡ Run → allowed u ≡ true → has_success allowed u ≡ false → after u (allowed_within allowed kind n) ≡ []
none_without_success allowed kind n c pruned u r may h = none_follows allowed kind n c pruned u r may (turned-success allowed u h)

pub one_with_success : (allowed : Test) (kind : Kinds) (n : ℕ) → IsChoice n kind → IsPruned kind allowed → (u : OutcomeWord) → kind u ≡ Run → allowed u ≡ true → has_success allowed u ≡ true → after u (allowed_within allowed kind n) ≢ []
one_with_success allowed kind n c pruned u r may h e = let t = has-turned allowed u h in let f = follows allowed kind n c pruned u t.0 r may t.1 in (let k = sym e ∙ f in cc)

-- no run is a prefix of another, and none is longer than the bound
pub no_prefix : (kind : Kinds) (n : ℕ) → IsChoice n kind → (u : OutcomeWord) (d : Outcome) (v : OutcomeWord) → kind u ≡ Run → kind (u ++ d ∷ v) ≡ Long
no_prefix kind zero c [] d v r = c.1 d v
no_prefix kind zero c (e ∷ u) d v r = c.1 e (u ++ d ∷ v)
no_prefix kind (suc n) (inl c) [] d v r = c.1 d v
no_prefix kind (suc n) (inl c) (e ∷ u) d v r = c.1 e (u ++ d ∷ v)
no_prefix kind (suc n) (inr c) [] d v r = absurd (let e = c.0 in cc)
no_prefix kind (suc n) (inr c) (e ∷ u) d v r = no_prefix (beyond e kind) n (c.1 e) u d v r

pub no_longer : (kind : Kinds) (n : ℕ) → IsChoice n kind → (u : OutcomeWord) → kind u ≡ Run → length u ≤ n
no_longer kind zero c [] r = omega arith
no_longer kind zero c (e ∷ u) r = absurd (let x = c.1 e u in cc)
no_longer kind (suc n) (inl c) [] r = omega arith
no_longer kind (suc n) (inl c) (e ∷ u) r = absurd (let x = c.1 e u in cc)
no_longer kind (suc n) (inr c) [] r = omega arith
no_longer kind (suc n) (inr c) (e ∷ u) r = let ih = no_longer (beyond e kind) n (c.1 e) u r in omega arith

stands_of : (u : OutcomeWord) (t : Option OutcomeWord) (ws : List OutcomeWord) → IsFollowed u t ws → AreDistinct ws → (front : List OutcomeWord) × (ws ≡ front ++ u ∷ after u ws)
stands_of u None ws f d = (f.0, f.1 ∙ ap (λ (b : List OutcomeWord). f.0 ++ u ∷ b) (sym (after_in u ws f.0 [] f.1 d)))
stands_of u (Some v) ws f d = (f.0, f.2 ∙ ap (λ (b : List OutcomeWord). f.0 ++ u ∷ b) (sym (after_in u ws f.0 (v ∷ f.1) f.2 d)))

-- each run is in the list, before what follows it
pub run_stands : (allowed : Test) (kind : Kinds) (n : ℕ) → IsChoice n kind → IsPruned kind allowed → (u : OutcomeWord) → kind u ≡ Run → allowed u ≡ true → (front : List OutcomeWord) × (allowed_within allowed kind n ≡ front ++ u ∷ after u (allowed_within allowed kind n))
run_stands allowed kind n c pruned u r may = stands_of u (next_run allowed kind n u) (allowed_within allowed kind n) (followed_by allowed kind n c pruned u r may) (runs_distinct allowed kind n)

-- two runs differ first at an outcome that is asked for
pub part_where_asked : (kind : Kinds) (n : ℕ) → IsChoice n kind → (u v : OutcomeWord) → kind u ≡ Run → kind v ≡ Run → u ≢ v → kind (common_prefix u v) ≡ Short
part_where_asked kind zero c [] [] r q ne = absurd (ne refl)
part_where_asked kind zero c [] (d ∷ v) r q ne = absurd (let e = c.1 d v in cc)
part_where_asked kind zero c (d ∷ u) v r q ne = absurd (let e = c.1 d u in cc)
part_where_asked kind (suc n) (inl c) [] [] r q ne = absurd (ne refl)
part_where_asked kind (suc n) (inl c) [] (d ∷ v) r q ne = absurd (let e = c.1 d v in cc)
part_where_asked kind (suc n) (inl c) (d ∷ u) v r q ne = absurd (let e = c.1 d u in cc)
part_where_asked kind (suc n) (inr c) [] v r q ne = absurd (let e = c.0 in cc)
part_where_asked kind (suc n) (inr c) (d ∷ u) [] r q ne = absurd (let e = c.0 in cc)
part_where_asked kind (suc n) (inr c) (Success ∷ u) (Success ∷ v) r q ne = part_where_asked (beyond Success kind) n (c.1 Success) u v r q (λ e. ne (ap (λ (w : OutcomeWord). Success ∷ w) e))
part_where_asked kind (suc n) (inr c) (Failure ∷ u) (Failure ∷ v) r q ne = part_where_asked (beyond Failure kind) n (c.1 Failure) u v r q (λ e. ne (ap (λ (w : OutcomeWord). Failure ∷ w) e))
part_where_asked kind (suc n) (inr c) (Success ∷ u) (Failure ∷ v) r q ne = c.0
part_where_asked kind (suc n) (inr c) (Failure ∷ u) (Success ∷ v) r q ne = c.0
