-- The least of causes, found by adding one cause after another.
use Rattle.std.proofs.Common.{Bool, true, false, cond, not, ◌||◌, List, [], ◌∷◌, ◌++◌, filter, refl, sym, ap, subst, ◌∙◌, ◌≡◌, inl, inr, ◌⊎◌, append_assoc, append-nil}
use Rattle.std.specs.List.{list_any}
use Rattle.std.proofs.lemmas.List.Folds.{list_any-append}
use Rattle.bootstore_state.specs.declared.store.Store.{Ghosts}
use Rattle.rehearse_terms.specs.Outcomes.{OutcomeWord}
use Rattle.rehearse_terms.specs.State.{State, Text}
use Rattle.rehearse_rules.specs.Execution.{Ending}
use Rattle.rehearse_rules.specs.Runs.{Task, ending_of, run_on}
use Rattle.rehearse_records.specs.RunViewShown.{shown_ending, shown_moment}
use Rattle.rehearse_records.specs.declared.run_view.RunView.{RunView}
use Rattle.rehearse_runs.specs.Giving.{ShowsRun}
use Rattle.rehearse_rules.specs.Expected.{Answered, unexpected_of}
use Rattle.rehearse_states.specs.Flow.{asked_in}
use Rattle.rehearse_causes.specs.Causes.{Cause, cause_on, covers, needs_less, least_behind, least}
use Rattle.rehearse_causes.proofs.CoveringLemmas.{both_left, both_right, both_true, covers_on}

-- whether one of them covers a cause, or needs less
abbrev pub covered : Cause → List Cause → Bool
covered c cs = list_any (λ d. covers d c) cs

abbrev pub beaten : Cause → List Cause → Bool
beaten c cs = list_any (λ d. needs_less d c) cs

pub either : (a b : Bool) → (a || b) ≡ true → (a ≡ true) ⊎ (b ≡ true)
either true b h = inl refl
either false b h = inr h

pub either_left : (a b : Bool) → a ≡ true → (a || b) ≡ true
either_left true b h = refl
either_left false b h = absurd (let f = h in cc)

pub either_right : (a b : Bool) → b ≡ true → (a || b) ≡ true
either_right true b h = refl
either_right false b h = h

pub neither_left : (a b : Bool) → (a || b) ≡ false → a ≡ false
neither_left true b h = absurd (let f = h in cc)
neither_left false b h = refl

pub neither_right : (a b : Bool) → (a || b) ≡ false → b ≡ false
neither_right true b h = absurd (let f = h in cc)
neither_right false b h = h

or_false : (a : Bool) → (a || false) ≡ a
or_false true = refl
or_false false = refl

-- ---- what needs less

less_covers : (c d : Cause) → needs_less c d ≡ true → covers c d ≡ true
less_covers c d h = both_left (covers c d) (not (covers d c)) h

not_back : (a : Bool) → not a ≡ true → a ≡ true → ⊥
not_back true h k = let f = h in cc
not_back false h k = let f = k in cc

less_not_back : (c d : Cause) → needs_less c d ≡ true → covers d c ≡ true → ⊥
less_not_back c d h k = not_back (covers d c) (both_right (covers c d) (not (covers d c)) h) k

not_true : (a : Bool) → (a ≡ true → ⊥) → not a ≡ true
not_true true h = absurd (h refl)
not_true false h = refl

-- what covers a cause that needs less needs less too
covers_less : (v c x : Cause) → covers v c ≡ true → needs_less c x ≡ true → needs_less v x ≡ true
covers_less v c x h k =
    both_true (covers v x) (not (covers x v)) (covers_on v c x h (less_covers c x k))
    (not_true (covers x v) (λ back. less_not_back c x k (covers_on x v c back h)))

pub covered_on : (c x : Cause) (ks : List Cause) → covered c ks ≡ true → covers c x ≡ true → covered x ks ≡ true
covered_on c x [] h k = absurd (let f = h in cc)
covered_on c x (d ∷ ks) h k =
    elim (either (covers d c) (covered c ks) h) [
      | inl here ↦ either_left (covers d x) (covered x ks) (covers_on d c x here k)
      | inr there ↦ either_right (covers d x) (covered x ks) (covered_on c x ks there k)
    ]

beaten_on : (c x : Cause) (ks : List Cause) → covered c ks ≡ true → needs_less c x ≡ true → beaten x ks ≡ true
beaten_on c x [] h k = absurd (let f = h in cc)
beaten_on c x (d ∷ ks) h k =
    elim (either (covers d c) (covered c ks) h) [
      | inl here ↦ either_left (needs_less d x) (beaten x ks) (covers_less d c x here k)
      | inr there ↦ either_right (needs_less d x) (beaten x ks) (beaten_on c x ks there k)
    ]

-- ---- one more

-- those that a cause does not beat
abbrev unbeaten : Cause → List Cause → List Cause
unbeaten c ks = filter (λ d. not (needs_less c d)) ks

abbrev last_if : Bool → Cause → List Cause
last_if covered c = cond covered [] (c ∷ [])

pub least_more : (before cs : List Cause) (c : Cause) → least_behind before (cs ++ c ∷ []) ≡ unbeaten c (least_behind before cs) ++ last_if (covered c (before ++ cs)) c
least_more before [] c =
    ap (λ (b : Bool). last_if b c) (or_false (covered c before))
    ∙ ap (λ (ks : List Cause). last_if (covered c ks) c) (sym (append-nil before))
least_more before (x ∷ cs) c =
    let on = least_more (before ++ x ∷ []) cs c in
    let all = ap (λ (ks : List Cause). last_if (covered c ks) c) (append_assoc before (x ∷ []) cs) in
    step (covered x before) (beaten x cs) (beaten x (cs ++ c ∷ [])) (needs_less c x) refl refl
    (list_any-append (λ d. needs_less d x) cs (c ∷ []) ∙ ap (λ (b : Bool). beaten x cs || b) (or_false (needs_less c x)))
    refl (on ∙ ap (λ (ks : List Cause). unbeaten c (least_behind (before ++ x ∷ []) cs) ++ ks) all)
  where
    step : (a b both n : Bool) → covered x before ≡ a → beaten x cs ≡ b → beaten x (cs ++ c ∷ []) ≡ (beaten x cs || needs_less c x) → needs_less c x ≡ n
        → least_behind (before ++ x ∷ []) (cs ++ c ∷ []) ≡ unbeaten c (least_behind (before ++ x ∷ []) cs) ++ last_if (covered c (before ++ x ∷ cs)) c
        → least_behind before (x ∷ cs ++ c ∷ []) ≡ unbeaten c (least_behind before (x ∷ cs)) ++ last_if (covered c (before ++ x ∷ cs)) c
    step true b both n p q r s on = rw p on
    step false true both n p q r s on = rw (p, r, q) on
    step false false both true p q r s on = rw (p, r, q, s) on
    step false false both false p q r s on = rw (p, r, q, s) (ap (λ (ks : List Cause). x ∷ ks) on)

-- a cause that is covered beats none that is kept
pub beats_none : (before cs : List Cause) (c : Cause) → covered c (before ++ cs) ≡ true → unbeaten c (least_behind before cs) ≡ least_behind before cs
beats_none before [] c h = refl
beats_none before (x ∷ cs) c h =
    by (covered x before) (beaten x cs) (needs_less c x) refl refl refl
    (beats_none (before ++ x ∷ []) cs c (ap (covered c) (append_assoc before (x ∷ []) cs) ∙ h))
  where
    lies : covered x before ≡ false → beaten x cs ≡ false → needs_less c x ≡ true → ⊥
    lies p q s =
        elim (either (covered c before) (covered c (x ∷ cs)) (sym (list_any-append (λ d. covers d c) before (x ∷ cs)) ∙ h)) [
          | inl front ↦ let f = sym p ∙ covered_on c x before front (less_covers c x s) in cc
          | inr rest ↦ elim (either (covers x c) (covered c cs) rest) [
            | inl here ↦ less_not_back c x s here
            | inr there ↦ let f = sym q ∙ beaten_on c x cs there s in cc
          ]
        ]

    by : (a b n : Bool) → covered x before ≡ a → beaten x cs ≡ b → needs_less c x ≡ n
        → unbeaten c (least_behind (before ++ x ∷ []) cs) ≡ least_behind (before ++ x ∷ []) cs
        → unbeaten c (least_behind before (x ∷ cs)) ≡ least_behind before (x ∷ cs)
    by true b n p q s on = rw p on
    by false true n p q s on = rw (p, q) on
    by false false true p q s on = absurd (lies p q s)
    by false false false p q s on = rw (p, q, s) (ap (λ (ks : List Cause). x ∷ ks) on)

-- ---- what is kept covers all

covered_unbeaten : (c q : Cause) (ks : List Cause) → covered q ks ≡ true → (covered q (unbeaten c ks) ≡ true) ⊎ (covers c q ≡ true)
covered_unbeaten c q [] h = absurd (let f = h in cc)
covered_unbeaten c q (d ∷ ks) h =
    elim (either (covers d q) (covered q ks) h) [
      | inl here ↦ by (needs_less c d) refl here
      | inr there ↦ further (needs_less c d) refl (covered_unbeaten c q ks there)
    ]
  where
    by : (n : Bool) → needs_less c d ≡ n → covers d q ≡ true → (covered q (unbeaten c (d ∷ ks)) ≡ true) ⊎ (covers c q ≡ true)
    by true s here = inr (covers_on c d q (less_covers c d s) here)
    by false s here = inl (rw s (either_left (covers d q) (covered q (unbeaten c ks)) here))

    further : (n : Bool) → needs_less c d ≡ n → (covered q (unbeaten c ks) ≡ true) ⊎ (covers c q ≡ true)
        → (covered q (unbeaten c (d ∷ ks)) ≡ true) ⊎ (covers c q ≡ true)
    further n s (inr k) = inr k
    further true s (inl k) = inl (rw s k)
    further false s (inl k) = inl (rw s (either_right (covers d q) (covered q (unbeaten c ks)) k))

-- what one of the causes covers, one that is kept covers
abbrev KeptCovers : List Cause → Type 0
KeptCovers cs = (q : Cause) → covered q cs ≡ true → covered q (least cs) ≡ true

kept_covers_more : (cs : List Cause) (c : Cause) → KeptCovers cs → KeptCovers (cs ++ c ∷ [])
kept_covers_more cs c kept q h = rw (least_more [] cs c) (by (covered c cs) refl)
  where
    said : (covered q cs ≡ true) ⊎ (covers c q ≡ true)
    said =
        elim (either (covered q cs) (covered q (c ∷ [])) (sym (list_any-append (λ d. covers d q) cs (c ∷ [])) ∙ h)) [
          | inl front ↦ inl front
          | inr last ↦ inr (sym (or_false (covers c q)) ∙ last)
        ]

    is_there : covered c cs ≡ true → covered q (least cs) ≡ true
    is_there t =
        elim said [
          | inl front ↦ kept q front
          | inr last ↦ covered_on c q (least cs) (kept c t) last
        ]

    by : (t : Bool) → covered c cs ≡ t → covered q (unbeaten c (least cs) ++ last_if (covered c cs) c) ≡ true
    by true t = rw t (ap (covered q) (append-nil (unbeaten c (least cs)) ∙ beats_none [] cs c t) ∙ is_there t)
    by false t =
        rw t (list_any-append (λ d. covers d q) (unbeaten c (least cs)) (c ∷ []) ∙ at_end said)
      where
        at_end : (covered q cs ≡ true) ⊎ (covers c q ≡ true) → (covered q (unbeaten c (least cs)) || covered q (c ∷ [])) ≡ true
        at_end (inr last) = either_right (covered q (unbeaten c (least cs))) (covered q (c ∷ [])) (or_false (covers c q) ∙ last)
        at_end (inl front) =
            elim (covered_unbeaten c q (least cs) (kept q front)) [
              | inl here ↦ either_left (covered q (unbeaten c (least cs))) (covered q (c ∷ [])) here
              | inr last ↦ either_right (covered q (unbeaten c (least cs))) (covered q (c ∷ [])) (or_false (covers c q) ∙ last)
            ]

kept_covers_from : (front cs : List Cause) → KeptCovers front → KeptCovers (front ++ cs)
kept_covers_from front [] kept = subst KeptCovers (sym (append-nil front)) kept
kept_covers_from front (c ∷ cs) kept =
    subst KeptCovers (append_assoc front (c ∷ []) cs) (kept_covers_from (front ++ c ∷ []) cs (kept_covers_more front c kept))

pub kept_covers : (cs : List Cause) (q : Cause) → covered q cs ≡ true → covered q (least cs) ≡ true
kept_covers cs = kept_covers_from [] cs (λ q h. h)

-- ---- what is kept is one of them

pub kept_are_of : (before cs : List Cause) (q : Cause) → covered q cs ≡ false → covered q (least_behind before cs) ≡ false
kept_are_of before [] q h = refl
kept_are_of before (x ∷ cs) q h =
    by (covered x before || beaten x cs) refl (kept_are_of (before ++ x ∷ []) cs q (neither_right (covers x q) (covered q cs) h))
  where
    by : (b : Bool) → (covered x before || beaten x cs) ≡ b → covered q (least_behind (before ++ x ∷ []) cs) ≡ false
        → covered q (least_behind before (x ∷ cs)) ≡ false
    by true e on = rw e on
    by false e on = rw e (rw (neither_left (covers x q) (covered q cs) h) on)

-- ---- one more, as it is kept

-- those that a cause does not cover
abbrev pub uncovered : Cause → List Cause → List Cause
uncovered c ks = filter (λ d. not (covers c d)) ks

uncovered_is : (c : Cause) (ks : List Cause) → covered c ks ≡ false → unbeaten c ks ≡ uncovered c ks
uncovered_is c [] h = refl
uncovered_is c (d ∷ ks) h = by (covers c d) refl (uncovered_is c ks (neither_right (covers d c) (covered c ks) h))
  where
    apart : covers d c ≡ false
    apart = neither_left (covers d c) (covered c ks) h

    by : (b : Bool) → covers c d ≡ b → unbeaten c ks ≡ uncovered c ks → unbeaten c (d ∷ ks) ≡ uncovered c (d ∷ ks)
    by true e on = rw (e, apart) on
    by false e on = rw e (ap (λ (es : List Cause). d ∷ es) on)

-- adding one more to those that are kept
pub kept_step : (cs : List Cause) (c : Cause) → least (cs ++ c ∷ []) ≡ cond (covered c (least cs)) (least cs) (uncovered c (least cs) ++ c ∷ [])
kept_step cs c = least_more [] cs c ∙ by (covered c cs) refl
  where
    by : (t : Bool) → covered c cs ≡ t → unbeaten c (least cs) ++ last_if (covered c cs) c ≡ cond (covered c (least cs)) (least cs) (uncovered c (least cs) ++ c ∷ [])
    by true t = rw (t, kept_covers cs c t) (append-nil (unbeaten c (least cs)) ∙ beats_none [] cs c t)
    by false t = rw (t, kept_are_of [] cs c t) (ap (λ (ks : List Cause). ks ++ c ∷ []) (uncovered_is c (least cs) (kept_are_of [] cs c t)))

-- ---- what is seen of a run

pub cause_shown : {S : Type 0} (g : Ghosts S) (task : Task) (w : OutcomeWord) (v : RunView S) → ShowsRun g task w v
    → record { ending = shown_ending v; fails = unexpected_of task.limits.devices (asked_in (shown_moment g v).log) } ≡ cause_on task w
cause_shown g task w v h =
    ap (λ (e : Ending). made e (unexpected_of task.limits.devices (asked_in (shown_moment g v).log))) h.ending
    ∙ ap (λ (s : State). made (ending_of (run_on task w)) (unexpected_of task.limits.devices (asked_in s.log))) h.moment
  where
    made : Ending → List Answered → Cause
    made ending fails = record { ending = ending; fails = fails }
