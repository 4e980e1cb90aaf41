-- The laws of outcome words, from the one fact that the words are the words of a tree of choices.
use Rattle.std.proofs.Common.{ℕ, zero, suc, ◌+◌, length, length-append, Bool, true, false, cond, List, [], ◌∷◌, ◌++◌, map, filter, Option, Some, None, option_map, refl, sym, ap, subst, ◌∙◌, ◌≡◌, inl, inr, append_assoc, append-nil}
use Rattle.std.proofs.lemmas.List.{map-append, length-map}
use Rattle.std.proofs.lemmas.List.Elements.{filter-append}
use Rattle.rehearse_terms.specs.Outcomes.{OutcomeWord, Outcome, Success, Failure, WordKind, Run, Short, Long, is_run_kind, words, beyond, runs_within, IsChoice}
use Rattle.rehearse_rules.specs.Choosing.{allowed_beyond, first_outcome, first_run, first_from, turned}

abbrev pub Kinds : Type 0
Kinds = OutcomeWord → WordKind

abbrev pub Test : Type 0
Test = OutcomeWord → Bool

-- what is allowed where a device command asks: if a longer word is, so is the shorter one, and one of both outcomes is
-- then allowed
pub record IsPruned (kind : Kinds) (allowed : Test) : Type 0 where
  pub before : (p : OutcomeWord) (d : Outcome) → kind p ≡ Short → allowed (p ++ d ∷ []) ≡ true → allowed p ≡ true
  pub goes_on : (p : OutcomeWord) → kind p ≡ Short → allowed p ≡ true → allowed (p ++ Success ∷ []) ≡ false → allowed (p ++ Failure ∷ []) ≡ true

pub pruned_beyond : (d : Outcome) (kind : Kinds) (allowed : Test) → IsPruned kind allowed → IsPruned (beyond d kind) (allowed_beyond d allowed)
pruned_beyond d kind allowed h = record { before = λ p e. h.before (d ∷ p) e; goes_on = λ p. h.goes_on (d ∷ p) }

cond-map : (f : OutcomeWord → OutcomeWord) (b : Bool) (x : OutcomeWord) (ys zs : List OutcomeWord) → zs ≡ map f ys → cond b (f x ∷ zs) zs ≡ map f (cond b (x ∷ ys) ys)
cond-map f true x ys zs e = ap (λ (l : List OutcomeWord). f x ∷ l) e
cond-map f false x ys zs e = e

filter-map : (p : OutcomeWord → Bool) (f : OutcomeWord → OutcomeWord) (xs : List OutcomeWord) → filter p (map f xs) ≡ map f (filter (λ x. p (f x)) xs)
filter-map p f [] = refl
filter-map p f (x ∷ xs) = cond-map f (p (f x)) x (filter (λ x. p (f x)) xs) (filter p (map f xs)) (filter-map p f xs)

cond-none : (b : Bool) (x : OutcomeWord) (ys : List OutcomeWord) → b ≡ false → ys ≡ [] → cond b (x ∷ ys) ys ≡ []
cond-none true x ys h e = cc
cond-none false x ys h e = e

filter-none : (p : OutcomeWord → Bool) (xs : List OutcomeWord) → ((x : OutcomeWord) → p x ≡ false) → filter p xs ≡ []
filter-none p [] h = refl
filter-none p (x ∷ xs) h = cond-none (p x) x (filter p xs) (h x) (filter-none p xs h)

-- the runs after a success, then the runs after a failure
both : Kinds → ℕ → List OutcomeWord
both kind n = map (λ w. Success ∷ w) (runs_within (beyond Success kind) n) ++ map (λ w. Failure ∷ w) (runs_within (beyond Failure kind) n)

test_of : Kinds → OutcomeWord → Bool
test_of kind w = is_run_kind (kind w)

both_is : (kind : Kinds) (n : ℕ) → filter (λ w. is_run_kind (kind w)) (map (λ w. Success ∷ w) (words n) ++ map (λ w. Failure ∷ w) (words n)) ≡ both kind n
unfolding both
both_is kind n =
    let p = λ (w : OutcomeWord). is_run_kind (kind w) in
    let split = filter-append p (map (λ w. Success ∷ w) (words n)) (map (λ w. Failure ∷ w) (words n)) in
    let left = filter-map p (λ w. Success ∷ w) (words n) in
    let right = filter-map p (λ w. Failure ∷ w) (words n) in
    cc

-- if the run ends here, it is the only run
none_beyond : (kind : Kinds) (n : ℕ) → ((d : Outcome) (w : OutcomeWord) → kind (d ∷ w) ≡ Long) → both kind n ≡ []
unfolding both
none_beyond kind n others =
    let none = λ (d : Outcome). filter-none (λ w. is_run_kind (kind (d ∷ w))) (words n) (λ w. ap is_run_kind (others d w)) in
    rw (none Success, none Failure) refl

runs_here : (kind : Kinds) (n : ℕ) → kind [] ≡ Run → ((d : Outcome) (w : OutcomeWord) → kind (d ∷ w) ≡ Long) → runs_within kind n ≡ [] ∷ []
runs_here kind zero here others = rw here refl
runs_here kind (suc n) here others = rw here (ap (λ (l : List OutcomeWord). [] ∷ l) (both_is kind n ∙ none_beyond kind n others))

-- if a device command asks here, the runs go on
runs_beyond : (kind : Kinds) (n : ℕ) → kind [] ≡ Short → runs_within kind (suc n) ≡ both kind n
runs_beyond kind n asked = rw asked (both_is kind n)

-- ---- those that are allowed

abbrev pub allowed_within : Test → Kinds → ℕ → List OutcomeWord
allowed_within allowed kind n = filter allowed (runs_within kind n)

-- if the run ends here, it is the only run
here_if : (allowed : Test) (kind : Kinds) (n : ℕ) → kind [] ≡ Run → ((d : Outcome) (w : OutcomeWord) → kind (d ∷ w) ≡ Long) → allowed_within allowed kind n ≡ cond (allowed []) ([] ∷ []) []
here_if allowed kind n here others = ap (filter allowed) (runs_here kind n here others)

pub allowed_here : (allowed : Test) (kind : Kinds) (n : ℕ) → kind [] ≡ Run → ((d : Outcome) (w : OutcomeWord) → kind (d ∷ w) ≡ Long) → allowed [] ≡ true → allowed_within allowed kind n ≡ [] ∷ []
allowed_here allowed kind n here others may = here_if allowed kind n here others ∙ ap (λ (b : Bool). cond b ([] ∷ []) []) may

-- the allowed runs after one outcome
abbrev pub behind : Outcome → Test → Kinds → ℕ → List OutcomeWord
behind d allowed kind n = allowed_within (allowed_beyond d allowed) (beyond d kind) n

-- the runs past a success, then those past a failure
abbrev pub behind_both : (won lost : List OutcomeWord) → List OutcomeWord
behind_both won lost = map (λ w. Success ∷ w) won ++ map (λ w. Failure ∷ w) lost

pub goes_beyond : (allowed : Test) (kind : Kinds) (n : ℕ) → kind [] ≡ Short → allowed_within allowed kind (suc n) ≡ behind_both (behind Success allowed kind n) (behind Failure allowed kind n)
unfolding both
goes_beyond allowed kind n asked =
    let won = runs_within (beyond Success kind) n in
    let lost = runs_within (beyond Failure kind) n in
    ap (filter allowed) (runs_beyond kind n asked)
    ∙ filter-append allowed (map (λ w. Success ∷ w) won) (map (λ w. Failure ∷ w) lost)
    ∙ ap (λ (ws : List OutcomeWord). ws ++ filter allowed (map (λ w. Failure ∷ w) lost)) (filter-map allowed (λ w. Success ∷ w) won)
    ∙ ap (λ (ws : List OutcomeWord). map (λ w. Success ∷ w) (behind Success allowed kind n) ++ ws) (filter-map allowed (λ w. Failure ∷ w) lost)

-- how many there are
pub beyond-length : (allowed : Test) (kind : Kinds) (n : ℕ) → kind [] ≡ Short → length (allowed_within allowed kind (suc n)) ≡ length (behind Success allowed kind n) + length (behind Failure allowed kind n)
beyond-length allowed kind n asked =
    let won = behind Success allowed kind n in
    let lost = behind Failure allowed kind n in
    ap length (goes_beyond allowed kind n asked)
    ∙ length-append (map (λ (w : OutcomeWord). Success ∷ w) won) (map (λ (w : OutcomeWord). Failure ∷ w) lost)
    ∙ ap (λ (k : ℕ). k + length (map (λ (w : OutcomeWord). Failure ∷ w) lost)) (length-map won (λ (w : OutcomeWord). Success ∷ w))
    ∙ ap (λ (k : ℕ). length won + k) (length-map lost (λ (w : OutcomeWord). Failure ∷ w))

-- ---- nothing is allowed beyond what is not allowed

not_beyond : (allowed : Test) (kind : Kinds) (d : Outcome) → IsPruned kind allowed → kind [] ≡ Short → allowed [] ≡ false → allowed (d ∷ []) ≡ false
not_beyond allowed kind d pruned asked barred = by (allowed (d ∷ [])) refl
  where
    by : (b : Bool) → allowed (d ∷ []) ≡ b → allowed (d ∷ []) ≡ false
    by true e = absurd (let f = pruned.before [] d asked e in cc)
    by false e = e

pub none_allowed : (allowed : Test) (kind : Kinds) (n : ℕ) → IsChoice n kind → IsPruned kind allowed → allowed [] ≡ false → allowed_within allowed kind n ≡ []
none_allowed allowed kind zero c pruned barred = here_if allowed kind zero c.0 c.1 ∙ ap (λ (b : Bool). cond b ([] ∷ []) []) barred
none_allowed allowed kind (suc n) (inl c) pruned barred = here_if allowed kind (suc n) c.0 c.1 ∙ ap (λ (b : Bool). cond b ([] ∷ []) []) barred
none_allowed allowed kind (suc n) (inr c) pruned barred =
    let won = none_allowed (allowed_beyond Success allowed) (beyond Success kind) n (c.1 Success) (pruned_beyond Success kind allowed pruned) (not_beyond allowed kind Success pruned c.0 barred) in
    let lost = none_allowed (allowed_beyond Failure allowed) (beyond Failure kind) n (c.1 Failure) (pruned_beyond Failure kind allowed pruned) (not_beyond allowed kind Failure pruned c.0 barred) in
    goes_beyond allowed kind n c.0 ∙ (λ i. behind_both (won i) (lost i))

-- ---- the first run comes first

pub first_here : (allowed : Test) (kind : Kinds) (n : ℕ) → kind [] ≡ Run → first_run allowed kind (suc n) ≡ []
first_here allowed kind n here = rw (here, first_run) refl

pub first_beyond : (allowed : Test) (kind : Kinds) (n : ℕ) (d : Outcome) → kind [] ≡ Short → first_outcome allowed ≡ d → first_run allowed kind (suc n) ≡ d ∷ first_run (allowed_beyond d allowed) (beyond d kind) n
first_beyond allowed kind n d asked e = rw (asked, first_run) (ap (λ (o : Outcome). o ∷ first_run (allowed_beyond o allowed) (beyond o kind) n) e)

abbrev BeginsWith : OutcomeWord → List OutcomeWord → Type 0
BeginsWith w ws = (t : List OutcomeWord) × (ws ≡ w ∷ t)

begins_won : (won lost : List OutcomeWord) (w : OutcomeWord) → BeginsWith w won → BeginsWith (Success ∷ w) (behind_both won lost)
begins_won won lost w h = (behind_both h.0 lost, ap (λ (ws : List OutcomeWord). behind_both ws lost) h.1)

begins_lost : (won lost : List OutcomeWord) (w : OutcomeWord) → won ≡ [] → BeginsWith w lost → BeginsWith (Failure ∷ w) (behind_both won lost)
begins_lost won lost w none h = (map (λ v. Failure ∷ v) h.0, λ i. behind_both (none i) (h.1 i))

begins_same : (u w : OutcomeWord) (us ws : List OutcomeWord) → u ≡ w → us ≡ ws → BeginsWith w ws → BeginsWith u us
begins_same u w us ws e f h = (h.0, f ∙ h.1 ∙ ap (λ (v : OutcomeWord). v ∷ h.0) (sym e))

-- at a question, if the list after each outcome that is allowed starts with the first run there
begins_beyond : (allowed : Test) (kind : Kinds) (n : ℕ) → kind [] ≡ Short → (allowed (Success ∷ []) ≡ false → allowed (Failure ∷ []) ≡ true) → (allowed (Success ∷ []) ≡ false → behind Success allowed kind n ≡ [])
    → (allowed (Success ∷ []) ≡ true → BeginsWith (first_run (allowed_beyond Success allowed) (beyond Success kind) n) (behind Success allowed kind n))
    → (allowed (Failure ∷ []) ≡ true → BeginsWith (first_run (allowed_beyond Failure allowed) (beyond Failure kind) n) (behind Failure allowed kind n))
    → BeginsWith (first_run allowed kind (suc n)) (allowed_within allowed kind (suc n))
begins_beyond allowed kind n asked goes_on none win lose = by (allowed (Success ∷ [])) refl
  where
    by : (b : Bool) → allowed (Success ∷ []) ≡ b → BeginsWith (first_run allowed kind (suc n)) (allowed_within allowed kind (suc n))
    by true e =
        begins_same (first_run allowed kind (suc n)) _ (allowed_within allowed kind (suc n)) (behind_both (behind Success allowed kind n) (behind Failure allowed kind n))
        (first_beyond allowed kind n Success asked (ap (λ (b : Bool). cond b Success Failure) e)) (goes_beyond allowed kind n asked)
        (begins_won (behind Success allowed kind n) (behind Failure allowed kind n) _ (win e))
    by false e =
        begins_same (first_run allowed kind (suc n)) _ (allowed_within allowed kind (suc n)) (behind_both (behind Success allowed kind n) (behind Failure allowed kind n))
        (first_beyond allowed kind n Failure asked (ap (λ (b : Bool). cond b Success Failure) e)) (goes_beyond allowed kind n asked)
        (begins_lost (behind Success allowed kind n) (behind Failure allowed kind n) _ (none e) (lose (goes_on e)))

pub begins_with_first : (allowed : Test) (kind : Kinds) (n : ℕ) → IsChoice n kind → IsPruned kind allowed → allowed [] ≡ true → (t : List OutcomeWord) × (allowed_within allowed kind n ≡ first_run allowed kind n ∷ t)
begins_with_first allowed kind zero c pruned may = ([], allowed_here allowed kind zero c.0 c.1 may)
begins_with_first allowed kind (suc n) (inl c) pruned may = begins_same (first_run allowed kind (suc n)) [] (allowed_within allowed kind (suc n)) ([] ∷ []) (first_here allowed kind n c.0) (allowed_here allowed kind (suc n) c.0 c.1 may) ([], refl)
begins_with_first allowed kind (suc n) (inr c) pruned may =
    begins_beyond allowed kind n c.0 (pruned.goes_on [] c.0 may) (none_allowed (allowed_beyond Success allowed) (beyond Success kind) n (c.1 Success) (pruned_beyond Success kind allowed pruned))
    (begins_with_first (allowed_beyond Success allowed) (beyond Success kind) n (c.1 Success) (pruned_beyond Success kind allowed pruned))
    (begins_with_first (allowed_beyond Failure allowed) (beyond Failure kind) n (c.1 Failure) (pruned_beyond Failure kind allowed pruned))

-- ---- the run that follows

-- the run that follows, if there is one
abbrev pub next_run : Test → Kinds → ℕ → OutcomeWord → Option OutcomeWord
next_run allowed kind n u = option_map (first_from allowed kind n) (turned allowed u)

-- the list has u, and then what `next` says
abbrev pub IsFollowed : OutcomeWord → Option OutcomeWord → List OutcomeWord → Type 0
IsFollowed u None ws = (a : List OutcomeWord) × (ws ≡ a ++ u ∷ [])
IsFollowed u (Some v) ws = (a : List OutcomeWord) × (b : List OutcomeWord) × (ws ≡ a ++ u ∷ v ∷ b)

abbrev success_turned : Bool → Option OutcomeWord → Option OutcomeWord
success_turned may t = elim t [ Some v ↦ Some (Success ∷ v) | None ↦ cond may (Some (Failure ∷ [])) None ]

-- the list starts with w if it may, or else it is empty
abbrev BeginsIf : Bool → OutcomeWord → List OutcomeWord → Type 0
BeginsIf true w ws = BeginsWith w ws
BeginsIf false w ws = ws ≡ []

past_success : (allowed : Test) (kind : Kinds) (n : ℕ) (u : OutcomeWord) (t : Option OutcomeWord) (may : Bool) (won lost : List OutcomeWord) → BeginsIf may (first_run (allowed_beyond Failure allowed) (beyond Failure kind) n) lost → IsFollowed u (option_map (first_from (allowed_beyond Success allowed) (beyond Success kind) n) t) won → IsFollowed (Success ∷ u) (option_map (first_from allowed kind (suc n)) (success_turned may t)) (behind_both won lost)
past_success allowed kind n u (Some v) may won lost f h = (map (λ w. Success ∷ w) h.0, map (λ w. Success ∷ w) h.1 ++ map (λ w. Failure ∷ w) lost, rw h.2 (simp (map-append, append_assoc)))
past_success allowed kind n u None true won lost f h = (map (λ w. Success ∷ w) h.0, map (λ w. Failure ∷ w) f.0, rw (h.1, f.1) (simp (map-append, append_assoc)))
past_success allowed kind n u None false won lost f h = (map (λ w. Success ∷ w) h.0, rw (h.1, f) (simp (map-append, append-nil)))

past_failure : (allowed : Test) (kind : Kinds) (n : ℕ) (u : OutcomeWord) (t : Option OutcomeWord) (won lost : List OutcomeWord) → IsFollowed u (option_map (first_from (allowed_beyond Failure allowed) (beyond Failure kind) n) t) lost → IsFollowed (Failure ∷ u) (option_map (first_from allowed kind (suc n)) (option_map (λ v. Failure ∷ v) t)) (behind_both won lost)
past_failure allowed kind n u (Some v) won lost h = (map (λ w. Success ∷ w) won ++ map (λ w. Failure ∷ w) h.0, map (λ w. Failure ∷ w) h.1, rw h.2 (simp (map-append, append_assoc)))
past_failure allowed kind n u None won lost h = (map (λ w. Success ∷ w) won ++ map (λ w. Failure ∷ w) h.0, rw h.1 (simp (map-append, append_assoc)))

-- past a failure the list starts with its first run, if a failure may be
begins_if : (allowed : Test) (kind : Kinds) (n : ℕ) → IsChoice n (beyond Failure kind) → IsPruned kind allowed → (b : Bool) → allowed (Failure ∷ []) ≡ b → BeginsIf b (first_run (allowed_beyond Failure allowed) (beyond Failure kind) n) (behind Failure allowed kind n)
begins_if allowed kind n c pruned true e = begins_with_first (allowed_beyond Failure allowed) (beyond Failure kind) n c (pruned_beyond Failure kind allowed pruned) e
begins_if allowed kind n c pruned false e = none_allowed (allowed_beyond Failure allowed) (beyond Failure kind) n c (pruned_beyond Failure kind allowed pruned) e

pub followed_by : (allowed : Test) (kind : Kinds) (n : ℕ) → IsChoice n kind → IsPruned kind allowed → (u : OutcomeWord) → kind u ≡ Run → allowed u ≡ true → IsFollowed u (next_run allowed kind n u) (allowed_within allowed kind n)
followed_by allowed kind zero c pruned [] r may = ([], allowed_here allowed kind zero c.0 c.1 may)
followed_by allowed kind zero c pruned (d ∷ u) r may = absurd (let e = c.1 d u in cc)
followed_by allowed kind (suc n) (inl c) pruned [] r may = ([], allowed_here allowed kind (suc n) c.0 c.1 may)
followed_by allowed kind (suc n) (inl c) pruned (d ∷ u) r may = absurd (let e = c.1 d u in cc)
followed_by allowed kind (suc n) (inr c) pruned [] r may = absurd (let e = c.0 in cc)
followed_by allowed kind (suc n) (inr c) pruned (Success ∷ u) r may =
    let ih = followed_by (allowed_beyond Success allowed) (beyond Success kind) n (c.1 Success) (pruned_beyond Success kind allowed pruned) u r may in
    let past = past_success allowed kind n u (turned (allowed_beyond Success allowed) u) (allowed (Failure ∷ [])) (behind Success allowed kind n) (behind Failure allowed kind n) (begins_if allowed kind n (c.1 Failure) pruned (allowed (Failure ∷ [])) refl) ih in
    subst (λ (ws : List OutcomeWord). IsFollowed (Success ∷ u) (next_run allowed kind (suc n) (Success ∷ u)) ws) (sym (goes_beyond allowed kind n c.0)) past
followed_by allowed kind (suc n) (inr c) pruned (Failure ∷ u) r may =
    let ih = followed_by (allowed_beyond Failure allowed) (beyond Failure kind) n (c.1 Failure) (pruned_beyond Failure kind allowed pruned) u r may in
    let past = past_failure allowed kind n u (turned (allowed_beyond Failure allowed) u) (behind Success allowed kind n) (behind Failure allowed kind n) ih in
    subst (λ (ws : List OutcomeWord). IsFollowed (Failure ∷ u) (next_run allowed kind (suc n) (Failure ∷ u)) ws) (sym (goes_beyond allowed kind n c.0)) past
