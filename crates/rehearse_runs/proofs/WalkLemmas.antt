-- The walk along the digits of a word.
use Rattle.std.proofs.Common.{◌≡◌, ◌≢◌, ◌+◌, ◌≤◌, true, false, [], ◌∷◌, ◌++◌, length, map, rules, Result, Ok, Err, refl, sym, ap, subst, ◌∙◌, append_assoc, append-nil, arith}
use Rattle.std.specs.Prelude.{IfOk}
use Rattle.std.specs.Bool.{◌==◌}
use Rattle.bootstore_state.specs.Record.{Record}
use Rattle.bootstore_state.specs.declared.store.StoreError.{StoreError}
use Rattle.rehearse_terms.specs.Bounds.{most_steps}
use Rattle.rehearse_terms.specs.Outcomes.{OutcomeWord, Outcome, Run}
use Rattle.rehearse_terms.specs.State.{Text}
use Rattle.rehearse_rules.specs.Runs.{Task, kind}
use Rattle.rehearse_rules.specs.Listing.{outcome_digit}
use Rattle.rehearse_runs.specs.RunsShown.{outcomes, outcome_of}
use Rattle.rehearse_runs.specs.Searching.{AreMarks}
use Rattle.rehearse_machine.specs.StoppedTexts.{StoppedAt}
use Rattle.rehearse_runs.specs.Walking.{Reached, IsLongBehind, IsShortBehind, IsWordBehind, Walks, WalksTo}
use Rattle.rehearse_runs.specs.declared.walking.Walked.{Walked}
use Rattle.rehearse_runs.specs.declared.walking.Walked.TheVariants as walked
use Rattle.rehearse_rules.specs.declared.halt.Halt.{Halt}
use Rattle.rehearse_machine.specs.declared.rehearsal.Stop.{Stop}
use Rattle.rehearse_machine.specs.declared.rehearsal.Stop.TheVariants.{Asks, Ends}
use Rattle.rehearse_rules.proofs.TaskChoices.{longer_is_long}
use Rattle.rehearse_runs.proofs.SearchLemmas.{found_end, read_digit, outcomes_on}
use Rattle.rehearse_machine.proofs.StoppedTextLemmas.{asked_kind}

-- ---- where the walk ends

pub reached_here : (task : Task) (digits text : Text) (stop : Stop) (halt : Halt) (r : Record) → stop ≡ Ends halt → StoppedAt task (outcomes digits) stop r.present → AreMarks task (outcomes digits) r.marked → r.present.steps ≤ most_steps → text ≡ []
    → IsWordBehind (outcomes digits) digits text digits (outcomes digits) × Reached task (outcomes digits) halt r r
reached_here task digits text stop halt r s h k n e =
    let f = found_end task (outcomes digits) halt r (subst (λ (x : Stop). StoppedAt task (outcomes digits) x r.present) s h) k n in
    (([], e, sym (append-nil (outcomes digits)), sym (append-nil digits) ∙ ap (λ (t : Text). digits ++ t) (sym e)), record { run = f.run; moment = f.moment; ending = f.ending; marks = f.marks; begun = f.begun; within = f.within })

ends_before : (task : Task) (p : OutcomeWord) (text : Text) → kind task p ≡ Run → (text ≡ [] → ⊥) → IsLongBehind task p text
ends_before task p text k ne [] e = absurd (ne e)
ends_before task p text k ne (d ∷ w) e = longer_is_long task p d w k

-- the run ends before the text
pub ended_here : (task : Task) (digits text : Text) (stop : Stop) (halt : Halt) (r : Record) → stop ≡ Ends halt → StoppedAt task (outcomes digits) stop r.present → AreMarks task (outcomes digits) r.marked → r.present.steps ≤ most_steps → (text ≡ [] → ⊥)
    → IsLongBehind task (outcomes digits) text
ended_here task digits text stop halt r s h k n ne =
    let f = found_end task (outcomes digits) halt r (subst (λ (x : Stop). StoppedAt task (outcomes digits) x r.present) s h) k n in
    ends_before task (outcomes digits) text f.run ne

-- a device command asks, and no digit is left for it
pub asks_here : (task : Task) (digits text : Text) (stop : Stop) (r : Record) → stop ≡ Asks → StoppedAt task (outcomes digits) stop r.present → text ≡ [] → IsShortBehind task (outcomes digits) text
asks_here task digits text stop r s h e =
    ([], e, ap (kind task) (append-nil (outcomes digits)) ∙ asked_kind task (outcomes digits) r.present (subst (λ (x : Stop). StoppedAt task (outcomes digits) x r.present) s h))

-- a byte is not a digit
pub no_digit_here : (task : Task) (p : OutcomeWord) (text : Text) → (text ≡ [] → ⊥) → ((d : Outcome) (w : OutcomeWord) → text ≢ outcome_digit d ∷ map outcome_digit w) → IsLongBehind task p text
no_digit_here task p text ne n [] e = absurd (ne e)
no_digit_here task p text ne n (d ∷ w) e = absurd (n d w e)

-- ---- where it goes on

same_outcome : (c d : Outcome) → outcome_digit c ≡ outcome_digit d → c ≡ d
same_outcome c d e = sym (read_digit c) ∙ ap outcome_of e ∙ read_digit d

long_on : (task : Task) (p : OutcomeWord) (d : Outcome) (behind : Text) → IsLongBehind task (p ++ d ∷ []) behind → IsLongBehind task p (outcome_digit d ∷ behind)
long_on task p d behind h [] e = absurd cc
long_on task p d behind h (c ∷ w) e =
    let f : outcome_digit d ≡ outcome_digit c = cc in
    let g : behind ≡ map outcome_digit w = cc in
    sym (ap (kind task) (append_assoc p (d ∷ []) w ∙ ap (λ (x : Outcome). p ++ x ∷ w) (same_outcome d c f))) ∙ h w g

pub walked_on : (result : Result Walked StoreError) (task : Task) (digits digits' text behind all : Text) (d : Outcome) (r₀ r₁ r₂ : Record) → digits' ≡ digits ++ outcome_digit d ∷ [] → text ≡ outcome_digit d ∷ behind
    → r₁.begun + r₀.present.steps ≡ r₀.begun + r₁.present.steps → IfOk result (λ found. Walks task (outcomes digits') digits' behind all (outcomes all) found r₁ r₂) → IfOk result (λ found. Walks task (outcomes digits) digits text all (outcomes all) found r₀ r₂)
walked_on (Ok (walked.Ends halt)) task digits digits' text behind all d r₀ r₁ r₂ e t b h =
    let f = h.1 in
    let c = f.begun in
    let v = h.0.0 in
    let o = outcomes_on digits digits' d e in (
      (
        d ∷ v,
        t ∙ ap (λ (x : Text). outcome_digit d ∷ x) h.0.1,
        h.0.2 ∙ ap (λ (p : OutcomeWord). p ++ v) o ∙ append_assoc (outcomes digits) (d ∷ []) v,
        h.0.3 ∙ ap (λ (x : Text). x ++ behind) e ∙ append_assoc digits (outcome_digit d ∷ []) behind ∙ ap (λ (x : Text). digits ++ x) (sym t),
      ),
      record { run = f.run; moment = f.moment; ending = f.ending; marks = f.marks; begun = omega arith; within = f.within },
    )
walked_on (Ok walked.Short) task digits digits' text behind all d r₀ r₁ r₂ e t b h =
    let o = outcomes_on digits digits' d e in
    (d ∷ h.0, t ∙ ap (λ (x : Text). outcome_digit d ∷ x) h.1, sym (ap (kind task) (ap (λ (p : OutcomeWord). p ++ h.0) o ∙ append_assoc (outcomes digits) (d ∷ []) h.0)) ∙ h.2)
walked_on (Ok walked.Long) task digits digits' text behind all d r₀ r₁ r₂ e t b h =
    subst (IsLongBehind task (outcomes digits)) (sym t) (long_on task (outcomes digits) d behind (subst (λ (p : OutcomeWord). IsLongBehind task p behind) (outcomes_on digits digits' d e) h))
walked_on (Err x) task digits digits' text behind all d r₀ r₁ r₂ e t b h = h

-- from the start
pub walked_first : (result : Result Walked StoreError) (task : Task) (digits text all : Text) (r₀ r₁ r₂ : Record) → digits ≡ [] → r₁.begun ≡ r₀.begun + r₁.present.steps
    → IfOk result (λ found. Walks task (outcomes digits) digits text all (outcomes all) found r₁ r₂) → IfOk result (λ found. WalksTo task text all (outcomes all) found r₀ r₂)
walked_first (Ok (walked.Ends halt)) task digits text all r₀ r₁ r₂ e b h =
    let f = h.1 in
    let c = f.begun in (
      h.0.1 ∙ ap (map outcome_digit) (sym (h.0.2 ∙ ap (λ (x : Text). outcomes x ++ h.0.0) e)),
      h.0.3 ∙ ap (λ (x : Text). x ++ text) e,
      record { run = f.run; moment = f.moment; ending = f.ending; marks = f.marks; begun = omega arith; within = f.within },
    )
walked_first (Ok walked.Short) task digits text all r₀ r₁ r₂ e b h = subst (λ (x : Text). IsShortBehind task (outcomes x) text) e h
walked_first (Ok walked.Long) task digits text all r₀ r₁ r₂ e b h = subst (λ (x : Text). IsLongBehind task (outcomes x) text) e h
walked_first (Err x) task digits text all r₀ r₁ r₂ e b h = h

-- ---- texts that are empty

pub empty_when : (t : Text) → true ≡ (length t == 0) → t ≡ []
empty_when [] e = refl
empty_when (b ∷ t) e = search rules

pub filled_when : (t : Text) → false ≡ (length t == 0) → t ≡ [] → ⊥
filled_when [] e f = absurd (let g : false ≡ true = e in cc)
filled_when (b ∷ t) e f = absurd cc
