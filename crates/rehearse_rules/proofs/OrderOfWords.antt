-- The runs are in dictionary order.
use Rattle.std.proofs.Common.{◌≡◌, ℕ, zero, suc, Bool, true, false, cond, List, [], ◌∷◌, ◌++◌, map, filter, refl, subst}
use Rattle.rehearse_terms.specs.Outcomes.{OutcomeWord, Outcome, Success, Failure, words, comes_before, is_run_kind, runs_within}
use Rattle.rehearse_rules.specs.Runs.{Task, kind, runs, is_allowed}
use Rattle.rehearse_rules.proofs.ChoiceTreeLemmas.{Kinds, Test, allowed_within}

-- u comes before all of these words
abbrev pub Before : OutcomeWord → List OutcomeWord → Type 0
Before u [] = Unit {0}
Before u (v ∷ vs) = (comes_before u v ≡ true) × Before u vs

-- each word comes before the words after it
abbrev pub AreOrdered : List OutcomeWord → Type 0
AreOrdered [] = Unit {0}
AreOrdered (w ∷ ws) = Before w ws × AreOrdered ws

before-cons : (d : Outcome) (v w : OutcomeWord) → comes_before v w ≡ true → comes_before (d ∷ v) (d ∷ w) ≡ true
before-cons Success v w h = h
before-cons Failure v w h = h

Before-map : (d : Outcome) (w : OutcomeWord) (ws : List OutcomeWord) → Before w ws → Before (d ∷ w) (map (λ v. d ∷ v) ws)
Before-map d w [] h = tt
Before-map d w (v ∷ ws) h = (before-cons d w v h.0, Before-map d w ws h.1)

Before_failures : (w : OutcomeWord) (ws : List OutcomeWord) → Before (Success ∷ w) (map (λ v. Failure ∷ v) ws)
Before_failures w [] = tt
Before_failures w (v ∷ ws) = (refl, Before_failures w ws)

Before-append : (w : OutcomeWord) (a b : List OutcomeWord) → Before w a → Before w b → Before w (a ++ b)
Before-append w [] b h k = k
Before-append w (v ∷ a) b h k = (h.0, Before-append w a b h.1 k)

empty_before : (d : Outcome) (ws : List OutcomeWord) → Before [] (map (λ v. d ∷ v) ws)
empty_before d [] = tt
empty_before d (v ∷ ws) = (refl, empty_before d ws)

ordered-map : (d : Outcome) (ws : List OutcomeWord) → AreOrdered ws → AreOrdered (map (λ v. d ∷ v) ws)
ordered-map d [] h = tt
ordered-map d (w ∷ ws) h = (Before-map d w ws h.0, ordered-map d ws h.1)

ordered_both : (a b : List OutcomeWord) → AreOrdered a → AreOrdered b → AreOrdered (map (λ v. Success ∷ v) a ++ map (λ v. Failure ∷ v) b)
ordered_both [] b h k = ordered-map Failure b k
ordered_both (w ∷ a) b h k = (Before-append (Success ∷ w) (map (λ v. Success ∷ v) a) (map (λ v. Failure ∷ v) b) (Before-map Success w a h.0) (Before_failures w b), ordered_both a b h.1 k)

pub words_ordered : (n : ℕ) → AreOrdered (words n)
words_ordered zero = (tt, tt)
words_ordered (suc n) = (Before-append [] (map (λ v. Success ∷ v) (words n)) (map (λ v. Failure ∷ v) (words n)) (empty_before Success (words n)) (empty_before Failure (words n)), ordered_both (words n) (words n) (words_ordered n) (words_ordered n))

Before-cond : (w v : OutcomeWord) (b : Bool) (ws : List OutcomeWord) → comes_before w v ≡ true → Before w ws → Before w (cond b (v ∷ ws) ws)
Before-cond w v true ws h k = (h, k)
Before-cond w v false ws h k = k

Before-filter : (p : OutcomeWord → Bool) (w : OutcomeWord) (ws : List OutcomeWord) → Before w ws → Before w (filter p ws)
Before-filter p w [] h = tt
Before-filter p w (v ∷ ws) h = Before-cond w v (p v) (filter p ws) h.0 (Before-filter p w ws h.1)

ordered-cond : (w : OutcomeWord) (b : Bool) (ws : List OutcomeWord) → Before w ws → AreOrdered ws → AreOrdered (cond b (w ∷ ws) ws)
ordered-cond w true ws h k = (h, k)
ordered-cond w false ws h k = k

pub ordered-filter : (p : OutcomeWord → Bool) (ws : List OutcomeWord) → AreOrdered ws → AreOrdered (filter p ws)
ordered-filter p [] h = tt
ordered-filter p (w ∷ ws) h = ordered-cond w (p w) (filter p ws) (Before-filter p w ws h.0) (ordered-filter p ws h.1)

before_at : (u v : OutcomeWord) (between behind : List OutcomeWord) → Before u (between ++ v ∷ behind) → comes_before u v ≡ true
before_at u v [] behind h = h.0
before_at u v (w ∷ between) behind h = before_at u v between behind h.1

ordered_at : (u v : OutcomeWord) (before between behind : List OutcomeWord) → AreOrdered (before ++ u ∷ between ++ v ∷ behind) → comes_before u v ≡ true
ordered_at u v [] between behind h = before_at u v between behind h.0
ordered_at u v (w ∷ before) between behind h = ordered_at u v before between behind h.1

pub allowed_ordered : (allowed : Test) (kind : Kinds) (n : ℕ) → AreOrdered (allowed_within allowed kind n)
allowed_ordered allowed kind n = ordered-filter allowed (runs_within kind n) (ordered-filter (λ w. is_run_kind (kind w)) (words n) (words_ordered n))

pub runs_are_ordered : (task : Task) (u v : OutcomeWord) (before between behind : List OutcomeWord) → runs task ≡ before ++ u ∷ between ++ v ∷ behind → comes_before u v ≡ true
runs_are_ordered task u v before between behind e =
    ordered_at u v before between behind (subst AreOrdered e (allowed_ordered (is_allowed task) (kind task) task.limits.device_bound))
