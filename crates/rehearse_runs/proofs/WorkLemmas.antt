-- The work of the words that were given.
use Rattle.std.proofs.Common.{◌≡◌, ℕ, ◌+◌, ◌-◌, ◌<◌, ◌≤◌, List, [], ◌∷◌, ◌++◌, length, take, Option, Some, None, refl, sym, ap, subst, ◌∙◌, append_assoc, length-append, arith}
use Rattle.bootstore_state.specs.Moment.{Moment}
use Rattle.rehearse_rules.specs.Listing.{last_of}
use Rattle.rehearse_terms.specs.Bounds.{most_run_devices}
use Rattle.rehearse_terms.specs.Outcomes.{OutcomeWord, Success, Failure, Run, common_prefix}
use Rattle.rehearse_rules.specs.Runs.{Task, kind, runs, rest, steps, asked, work_from, is_allowed}
use Rattle.rehearse_runs.specs.RunsShown.{words_made, in_front_of, work_of, steps_shared, successes, last_answer}
use Rattle.rehearse_runs.specs.Phases.{HasBegun}
use Rattle.rehearse_runs.specs.Searching.{AreMarks}
use Rattle.rehearse_runs.proofs.SearchLemmas.{cut_of}
use Rattle.rehearse_rules.proofs.TaskChoices.{no_run_is_longer}

-- ---- the words before the ones to come

take_front : (front left : List OutcomeWord) → take (length front) (front ++ left) ≡ front
take_front [] left = refl
take_front (w ∷ front) left = ap (λ (ws : List OutcomeWord). w ∷ ws) (take_front front left)

front_is : (all front left : List OutcomeWord) → all ≡ front ++ left → in_front_of all left ≡ front
front_is all front left e =
    let l = ap length e ∙ length-append front left in
    let n : length all - length left ≡ length front = omega arith in
    ap (λ (k : ℕ). take k all) n ∙ ap (take (length front)) e ∙ take_front front left

pub none_in_front : (ws : List OutcomeWord) → in_front_of ws ws ≡ []
none_in_front ws = front_is ws [] ws refl

-- ---- one more word

pub last_some : (u : OutcomeWord) (ws : List OutcomeWord) → last_answer (Some u) ws ≡ Some (last_of u ws)
last_some u [] = refl
last_some u (w ∷ ws) = last_some w ws

work_more : (task : Task) (u : OutcomeWord) (ws : List OutcomeWord) (v : OutcomeWord) → work_from task u (ws ++ v ∷ []) ≡ work_from task u ws + (steps task v - asked task (common_prefix (last_of u ws) v))
work_more task u [] v = omega arith
work_more task u (w ∷ ws) v = let h = work_more task w ws v in omega (arith, h)

pub last_more : (start : Option OutcomeWord) (ws : List OutcomeWord) (v : OutcomeWord) → last_answer start (ws ++ v ∷ []) ≡ Some v
last_more start [] v = refl
last_more start (w ∷ ws) v = last_more (Some w) ws v

one_more : (task : Task) (start : Option OutcomeWord) (ws : List OutcomeWord) (v : OutcomeWord) → work_of task start (ws ++ v ∷ []) ≡ work_of task start ws + (steps task v - steps_shared task (last_answer start ws) v)
one_more task None [] v = omega arith
one_more task None (u ∷ ws) v =
    let h = work_more task u ws v in
    let e : steps_shared task (last_answer (Some u) ws) v ≡ asked task (common_prefix (last_of u ws) v) = ap (λ (o : Option OutcomeWord). steps_shared task o v) (last_some u ws) in
    omega (arith, h, e)
one_more task (Some s) ws v =
    let h = work_more task s ws v in
    let e : steps_shared task (last_answer (Some s) ws) v ≡ asked task (common_prefix (last_of s ws) v) = ap (λ (o : Option OutcomeWord). steps_shared task o v) (last_some s ws) in
    omega (arith, h, e)

module _ (task : Task) (start given : Option OutcomeWord) (to_come left : List OutcomeWord) (v : OutcomeWord) (begun begun' : ℕ) (has : HasBegun task start given to_come begun) (first : to_come ≡ v ∷ left) where
  made : words_made task start ≡ (has.answers ++ v ∷ []) ++ left
  made = has.made ∙ ap (λ (ws : List OutcomeWord). has.answers ++ ws) first ∙ sym (append_assoc has.answers (v ∷ []) left)

  -- the words given, and one more
  pub answers_more : in_front_of (words_made task start) left ≡ in_front_of (words_made task start) to_come ++ v ∷ []
  answers_more = front_is (words_made task start) (has.answers ++ v ∷ []) left made ∙ ap (λ (ws : List OutcomeWord). ws ++ v ∷ []) (sym (front_is (words_made task start) has.answers to_come has.made))

  -- and the steps begun for them
  pub begun_more : begun' + steps_shared task given v ≡ begun + steps task v → steps_shared task given v ≤ steps task v → HasBegun task start (Some v) left begun'
  begun_more e l =
      let w = has.work in
      let h = one_more task start has.answers v in
      let same : steps_shared task given v ≡ steps_shared task (last_answer start has.answers) v = ap (λ (o : Option OutcomeWord). steps_shared task o v) has.last in
      record { answers = has.answers ++ v ∷ []; made = made; last = sym (last_more start has.answers v); work = omega (arith, w, h, same, e, l) }

-- what was begun for the words that were given
pub work_is : (task : Task) (start given : Option OutcomeWord) (to_come : List OutcomeWord) (begun : ℕ) → HasBegun task start given to_come begun → begun ≡ work_of task start (in_front_of (words_made task start) to_come)
work_is task start given to_come begun h = h.work ∙ ap (work_of task start) (sym (front_is (words_made task start) h.answers to_come h.made))

-- at first
pub begun_first : (task : Task) (begun : ℕ) → begun ≡ 0 → HasBegun task None None (runs task) begun
begun_first task begun e = record { answers = []; made = refl; last = refl; work = e }

pub begun_behind : (task : Task) (w : OutcomeWord) (begun : ℕ) → begun ≡ steps task w → HasBegun task (Some w) (Some w) (rest task w) begun
begun_behind task w begun e = record { answers = []; made = refl; last = refl; work = omega (arith, e) }

-- ---- no more marks than successes

successes_front : (p x : OutcomeWord) → successes p < successes (p ++ Success ∷ x)
successes_front [] x = omega arith
successes_front (Success ∷ p) x = let h = successes_front p x in omega (arith, h)
successes_front (Failure ∷ p) x = successes_front p x

pub few_marks : (task : Task) (w : OutcomeWord) (ms : List Moment) → AreMarks task w ms → length ms ≤ successes w
few_marks task w [] h = omega arith
few_marks task w (m ∷ ms) h =
    let x = cut_of (is_allowed task) w h.0 h.1 in
    let l = few_marks task h.0 ms h.3 in
    let k : successes h.0 < successes w = subst (λ (v : OutcomeWord). successes h.0 < successes v) (sym x.1) (successes_front h.0 x.0) in
    omega (arith, l, k)

few_successes : (w : OutcomeWord) → successes w ≤ length w
few_successes [] = omega arith
few_successes (Success ∷ w) = let h = few_successes w in omega (arith, h)
few_successes (Failure ∷ w) = let h = few_successes w in omega (arith, h)

pub marks_within : (task : Task) (w : OutcomeWord) (ms : List Moment) → AreMarks task w ms → kind task w ≡ Run → task.limits.device_bound ≤ most_run_devices → length ms ≤ most_run_devices
marks_within task w ms h r b =
    let l = few_marks task w ms h in
    let k = few_successes w in
    let n = no_run_is_longer task w r in
    omega arith
