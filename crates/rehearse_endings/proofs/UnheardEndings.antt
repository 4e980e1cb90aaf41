-- A rehearsal of which the text is dropped has the same endings, and the same flow.
use Rattle.std.proofs.Common.{◌≡◌, List, refl, sym, ap, ◌∙◌, map, length, Result, Ok, Err}
use Rattle.std.specs.Prelude.{IfOk}
use Rattle.rehearse_terms.specs.Outcomes.{OutcomeWord, WordKind, runs_within}
use Rattle.rehearse_terms.specs.State.{Text, LoggedCommand}
use Rattle.rehearse_rules.specs.Execution.{Answer, Normal, Exit, Ended, Dry}
use Rattle.rehearse_rules.specs.Expected.{asked_in, unexpected_of}
use Rattle.rehearse_rules.specs.Runs.{Task, run_on, unheard, kind, all_runs, unexpected}
use Rattle.rehearse_reads.specs.Alike as alike
use Rattle.rehearse_reads.specs.Alike.{ComeToSame}
use Rattle.rehearse_reads.proofs.UnheardRuns.{unheard_runs_go_alike}
use Rattle.rehearse_states.specs.Endings.{end_of, endings, gather}
use Rattle.rehearse_states.specs.Flow.{Node, IsFlow, ended_with, seen_of}

ended_alike : (a : Answer) → alike.ended_with a ≡ ended_with a
ended_alike (Normal s) = refl
ended_alike (Exit s) = refl
ended_alike (Ended ending s) = refl
ended_alike (Dry s) = refl

module _ (task : Task) where
  same : (w : OutcomeWord) → ComeToSame (run_on task w) (run_on (unheard task) w)
  same = unheard_runs_go_alike task

  same_kind : kind (unheard task) ≡ kind task
  same_kind = λ i w. (same w).kind i

  same_runs : all_runs (unheard task) ≡ all_runs task
  same_runs = ap (λ (k : OutcomeWord → WordKind). runs_within k task.limits.device_bound) same_kind

  same_unexpected : (w : OutcomeWord) → unexpected (unheard task) w ≡ unexpected task w
  same_unexpected w = ap (λ (log : List LoggedCommand). length (unexpected_of task.limits.devices (asked_in log))) (same w).log

  same_end : (names : List Text) (w : OutcomeWord) → end_of names (unheard task) w ≡ end_of names task w
  same_end names w = λ i. record { ending = (same w).ending i; values = map (λ name. (same w).values name i) names }

  pub same_endings : (names : List Text) → endings names (unheard task) ≡ endings names task
  same_endings names = λ i. gather (map (λ w. (same_end names w i, (w, same_unexpected w i))) (same_runs i))

  same_seen : (w : OutcomeWord) → seen_of (run_on (unheard task) w) ≡ seen_of (run_on task w)
  same_seen w =
      let ended = sym (ended_alike (run_on (unheard task) w)) ∙ (same w).ended ∙ ended_alike (run_on task w) in
      λ i. record { kind = (same w).kind i; ending = ended i; log = asked_in ((same w).log i) }

  pub flow_of_unheard : (nodes : List Node) → IsFlow (unheard task) nodes → IsFlow task nodes
  flow_of_unheard nodes flow w = flow w ∙ same_seen w

-- what holds of a result that is Ok
pub if_ok : {A E : Type 0} (r : Result A E) (P Q : A → Type 0) → ((a : A) → P a → Q a) → IfOk r P → IfOk r Q
if_ok (Ok a) P Q f h = f a h
if_ok (Err e) P Q f h = h
