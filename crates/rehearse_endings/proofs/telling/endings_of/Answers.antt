use Rattle.std.proofs.Common.{subst, ap, ◌∙◌, ◌≡◌, map}
use Rattle.std.specs.Prelude.{IfErr}
use Rattle.rehearse_machine.specs.Tasks.{task_in}
use Rattle.rehearse_endings.specs.Held.{ComesToBytes}
use Rattle.rehearse_endings.specs.States.{ComesToSteps}
use Rattle.rehearse_endings.specs.declared.sum_error.SumError.TheVariants.{Bytes, Steps}
use Rattle.rehearse_rules.specs.Runs.{Task, unheard}
use Rattle.rehearse_states.specs.Drawing.{nodes_shown}
use Rattle.rehearse_states.specs.Endings.{endings}
use Rattle.rehearse_states.specs.Flow.{IsFlow}
use Rattle.rehearse_states.specs.RowsShown.{rows_shown, saturated}
use Rattle.rehearse_endings.proofs.UnheardEndings.{flow_of_unheard, if_ok, same_endings}
use Rattle.rehearse_endings.proofs.telling.endings_of.Goals as goal

pub returns-clause-rows : goal.returns-clause-rows
returns-clause-rows g c =
    let task = task_in c.args.rehearsal.now in
    let names = map (λ n. n.now) c.args.names.now in
    if_ok c.sum_endings.result (λ e. rows_shown e.rows ≡ map saturated (endings names (task_in c.unheard-quiet.result))) (λ e. rows_shown e.rows ≡ map saturated (endings names task))
    (λ e is. is ∙ ap (λ (t : Task). map saturated (endings names t)) c.unheard-quiet.ensures ∙ ap (map saturated) (same_endings task names)) c.sum_endings.ensures.rows

pub returns-clause-flow : goal.returns-clause-flow
returns-clause-flow g c =
    let task = task_in c.args.rehearsal.now in
    if_ok c.sum_endings.result (λ e. IsFlow (task_in c.unheard-quiet.result) (nodes_shown e.nodes)) (λ e. IsFlow task (nodes_shown e.nodes))
    (λ e flow. flow_of_unheard task (nodes_shown e.nodes) (subst (λ (t : Task). IsFlow t (nodes_shown e.nodes)) c.unheard-quiet.ensures flow)) c.sum_endings.ensures.flow

pub returns-clause-costly : goal.returns-clause-costly
returns-clause-costly g c = λ count.
    subst (λ (t : Task). IfErr c.sum_endings.result (λ e. e ≡ Steps count → ComesToSteps (map (λ n. n.now) c.args.names.now) t count c.args.most_work)) c.unheard-quiet.ensures (c.sum_endings.ensures.costly count)

pub returns-clause-large : goal.returns-clause-large
returns-clause-large g c = λ count.
    subst (λ (t : Task). IfErr c.sum_endings.result (λ e. e ≡ Bytes count → ComesToBytes (map (λ n. n.now) c.args.names.now) t count c.args.most_bytes)) c.unheard-quiet.ensures (c.sum_endings.ensures.large count)
