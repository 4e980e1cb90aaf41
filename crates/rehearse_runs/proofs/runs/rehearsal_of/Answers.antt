use Rattle.std.proofs.Common.{◌≡◌, subst}
use Rattle.std.specs.Option.{IfSome}
use Rattle.std.proofs.lemmas.Option.{IfSome_then}
use Rattle.rehearse_terms.specs.Bounds.{BoundsShown}
use Rattle.rehearse_machine.specs.Tasks.{source_shown, task_from, task_in}
use Rattle.rehearse_machine.specs.declared.rehearsal.Rehearsal.{Rehearsal}
use Rattle.rehearse_runs.proofs.AdvanceLemmas.{bounds_in}
use Rattle.rehearse_runs.proofs.runs.rehearsal_of.Goals as goal

pub returns-clause-shown : goal.returns-clause-shown
returns-clause-shown c =
    subst (λ (b : BoundsShown). IfSome c.of.result (λ (r : Rehearsal). task_in r ≡ task_from c.args.env.now c.args.devices.now (source_shown c.args.source) b)) c.of_run.ensures c.of.ensures.shown

pub returns-clause-bounds : goal.returns-clause-bounds
returns-clause-bounds c =
    IfSome_then c.of.result (returns-clause-shown c) (λ r same. bounds_in (task_in r) _ same c.devices-bound.ensures.within)
