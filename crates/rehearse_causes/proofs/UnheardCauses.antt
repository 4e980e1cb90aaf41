-- A rehearsal of which the text is dropped has the same causes.
use Rattle.std.proofs.Common.{◌≡◌, filter, length, map}
use Rattle.rehearse_terms.specs.Outcomes.{OutcomeWord, runs_within}
use Rattle.rehearse_rules.specs.Expected.{asked_in, unexpected_of}
use Rattle.rehearse_rules.specs.Runs.{Task, run_on, unheard, is_at_most}
use Rattle.rehearse_reads.specs.Alike.{ComeToSame}
use Rattle.rehearse_reads.proofs.UnheardRuns.{unheard_runs_go_alike}
use Rattle.rehearse_causes.specs.Causes.{causes, least}

module _ (task : Task) where
  same : (w : OutcomeWord) → ComeToSame (run_on task w) (run_on (unheard task) w)
  same = unheard_runs_go_alike task

  pub same_causes : causes (unheard task) ≡ causes task
  same_causes = λ i. least (map (λ w. record { ending = (same w).ending i; fails = unexpected_of task.limits.devices (asked_in ((same w).log i)) })
      (filter (λ w. is_at_most task.failures (length (unexpected_of task.limits.devices (asked_in ((same w).log i)))))
      (runs_within (λ w. (same w).kind i) task.limits.device_bound)))
