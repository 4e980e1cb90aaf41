-- Summaries: of an end, and of both sides.
use Rattle.std.proofs.Common.{ℕ, suc, ◌+◌, ◌≤◌, max, Bool, true, false, ◌||◌, List, [], ◌∷◌, length, Option, refl, sym, ap, subst, ◌∙◌, ◌≡◌, arith}
use Rattle.bootstore_state.specs.Moment.{Moment}
use Rattle.rehearse_terms.specs.Outcomes.{OutcomeWord, Outcome, Success, Failure, WordKind}
use Rattle.rehearse_terms.specs.State.{Text}
use Rattle.bootstore_state.specs.StoredState.{state_at}
use Rattle.rehearse_rules.specs.Execution.{Ending, End, CutDevices, CutSteps}
use Rattle.rehearse_machine.specs.Came.{Came, Over, Wants}
use Rattle.rehearse_reuse.specs.Futures.{came_kind, came_ending, came_end, came_steps, came_devices}
use Rattle.device_list.specs.DeviceList.{Devices}
use Rattle.rehearse_rules.specs.Expected.{Answered, asked_in, unexpected_of}
use Rattle.rehearse_states.specs.Endings.{RunEnd, Row, HasRows, ends, asks, counts_at}
use Rattle.rehearse_states.specs.Summaries.{Summary, is_cut_steps, is_cut_devices}
use Rattle.rehearse_reuse.specs.SummedRuns.{Sums, came_count, of_end, of_sides}
use Rattle.rehearse_reuse.specs.DrawnRuns.{further}
use Rattle.rehearse_endings.proofs.DrawingLemmas.{further_all}

pub same_function : {A B : Type 0} (f g : A → B) → ((x : A) → f x ≡ g x) → f ≡ g
same_function f g h = λ i. λ x. h x i

pub rows_as : (names : List Text) (f : OutcomeWord → Came) (kinds : OutcomeWord → WordKind) (endings : OutcomeWord → RunEnd) (count counts : OutcomeWord → ℕ) (rows : List Row) → ((w : OutcomeWord) → came_kind (f w) ≡ kinds w) → ((w : OutcomeWord) → came_end names (f w) ≡ endings w) → ((w : OutcomeWord) → count w ≡ counts w) → HasRows (λ w. came_kind (f w)) (λ w. came_end names (f w)) count rows → HasRows kinds endings counts rows
rows_as names f kinds endings count counts rows k e c h =
    subst (λ (x : OutcomeWord → ℕ). HasRows kinds endings x rows) (same_function count counts c)
    (subst (λ (x : OutcomeWord → RunEnd). HasRows kinds x count rows) (same_function (λ w. came_end names (f w)) endings e)
    (subst (λ (x : OutcomeWord → WordKind). HasRows x (λ w. came_end names (f w)) count rows) (same_function (λ w. came_kind (f w)) kinds k) h))

-- two things with the same result have the same summary
pub sums_same : (names : List Text) (devices : Devices) (before : ℕ) (f g : OutcomeWord → Came) (s : Summary) → ((w : OutcomeWord) → f w ≡ g w) → Sums names devices before f s → Sums names devices before g s
sums_same names devices before f g s e h = subst (λ (x : OutcomeWord → Came). Sums names devices before x s) (same_function f g e) h

-- ---- ends and sides

cut_steps_by : (ending : Ending) → is_cut_steps ending ≡ false → ending ≡ CutSteps → ⊥
cut_steps_by ending h e = let f = ap is_cut_steps e in cc

cut_devices_by : (ending : Ending) → is_cut_devices ending ≡ false → ending ≡ CutDevices → ⊥
cut_devices_by ending h e = let f = ap is_cut_devices e in cc

-- a run that is over
pub sums_end : (names : List Text) (devices : Devices) (ending : Ending) (m : Moment) → Sums names devices (length (asked_in m.log)) (λ w. Over ending (state_at m w)) (of_end names ending m)
sums_end names devices ending m = record {
  has_rows = ends refl (λ d w. refl) (ap (λ (l : List Answered). length (unexpected_of devices l)) (further_all (asked_in m.log)));
  steps = λ w. omega arith;
  reached = λ w. omega arith;
  uncut_steps = λ u w e. cut_steps_by ending u e;
  uncut_devices = λ u w e. cut_devices_by ending u e;
}

or_left : (a b : Bool) → (a || b) ≡ false → a ≡ false
or_left true b h = absurd (let f = h in cc)
or_left false b h = refl

or_right : (a b : Bool) → (a || b) ≡ false → b ≡ false
or_right true b h = absurd (let f = h in cc)
or_right false b h = h

not_wanted : (f : OutcomeWord → Came) (m : Moment) (ending : Ending) → f [] ≡ Wants (state_at m []) → came_ending (f []) ≡ ending → End m.status ≡ ending
not_wanted f m ending e h = sym (ap came_ending e) ∙ h

module _ (names : List Text) (devices : Devices) (before : ℕ) (f : OutcomeWord → Came) (m : Moment) (answer : Option Bool) (won lost : Summary) (wants : f [] ≡ Wants (state_at m [])) (up : Sums names devices (suc before) (λ w. f (Success ∷ w)) won) (down : Sums names devices (suc before) (λ w. f (Failure ∷ w)) lost)
    (counts : (d : Outcome) (w : OutcomeWord) → came_count devices before (f (d ∷ w)) ≡ counts_at answer d + came_count devices (suc before) (f (d ∷ w))) where
  side_steps : (w : OutcomeWord) → came_steps (f w) ≤ max m.steps (max won.steps lost.steps)
  side_steps [] = let e : came_steps (f []) ≡ m.steps = ap came_steps wants in omega arith
  side_steps (Success ∷ w) = let l = up.steps w in omega arith
  side_steps (Failure ∷ w) = let l = down.steps w in omega arith

  side_devices : (w : OutcomeWord) → came_devices (f w) ≤ max (suc (length m.log)) (max won.devices lost.devices)
  side_devices [] = let e : came_devices (f []) ≡ suc (length m.log) = ap came_devices wants in omega arith
  side_devices (Success ∷ w) = let l = up.reached w in omega arith
  side_devices (Failure ∷ w) = let l = down.reached w in omega arith

  side_cut_steps : (won.cut_steps || lost.cut_steps) ≡ false → (w : OutcomeWord) → came_ending (f w) ≡ CutSteps → ⊥
  side_cut_steps u [] e = let g : End m.status ≡ CutSteps = not_wanted f m CutSteps wants e in cc
  side_cut_steps u (Success ∷ w) e = up.uncut_steps (or_left won.cut_steps lost.cut_steps u) w e
  side_cut_steps u (Failure ∷ w) e = down.uncut_steps (or_right won.cut_steps lost.cut_steps u) w e

  side_cut_devices : (won.cut_devices || lost.cut_devices) ≡ false → (w : OutcomeWord) → came_ending (f w) ≡ CutDevices → ⊥
  side_cut_devices u [] e = let g : End m.status ≡ CutDevices = not_wanted f m CutDevices wants e in cc
  side_cut_devices u (Success ∷ w) e = up.uncut_devices (or_left won.cut_devices lost.cut_devices u) w e
  side_cut_devices u (Failure ∷ w) e = down.uncut_devices (or_right won.cut_devices lost.cut_devices u) w e

  -- a device command that asks
  pub sums_sides : Sums names devices before f (of_sides m answer won lost)
  sums_sides = record { has_rows = asks answer (ap came_kind wants) (counts Success) (counts Failure) up.has_rows down.has_rows; steps = side_steps; reached = side_devices; uncut_steps = side_cut_steps; uncut_devices = side_cut_devices }
