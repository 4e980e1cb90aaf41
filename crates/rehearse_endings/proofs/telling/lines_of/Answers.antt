use Rattle.std.proofs.Common.{rules, refl, sym, subst, ◌≡◌, Bool, true, false, map}
use Rattle.rehearse_machine.specs.Tasks.{task_in}
use Rattle.rehearse_states.specs.Drawing.{nodes_shown}
use Rattle.rehearse_states.specs.RowsShown.{rows_shown}
use Rattle.rehearse_endings.specs.TellingEndings.{Tells}
use Rattle.rehearse_states.proofs.EndingLineLemmas.{text_told}
use Rattle.rehearse_endings.proofs.telling.lines_of.Goals as goal

pub returns-then-flow-clause-ok : goal.returns-then-flow-clause-ok
returns-then-flow-clause-ok g c =
    let task = task_in c.args.rehearsal.now in
    let states = c.in_ok-found.found.states in
    let nodes = nodes_shown c.in_ok-found.found.nodes in
    let is : c.args.flow ≡ true = search rules in
    let names = map (λ n. n.now) c.args.names.now in
    let told : Tells names true task states c.in_ok-text.text.items = (nodes, (c.in_ok-found.ensures.flow, c.in_ok-found.ensures.nodes), c.in_ok-text.ensures) in
    (task, states, refl, c.in_ok-found.ensures.states, c.in_ok-found.ensures.held, subst (λ (flow : Bool). Tells names flow task states c.in_ok-text.text.items) (sym is) told)

pub returns-clause-ok : goal.returns-clause-ok
returns-clause-ok g c =
    let task = task_in c.args.rehearsal.now in
    let states = c.in_ok-found.found.states in
    let nodes = nodes_shown c.in_ok-found.found.nodes in
    let is : c.args.flow ≡ false = search rules in
    let text = c.in_ok-text-2.text.items in
    let names = map (λ n. n.now) c.args.names.now in
    let told : Tells names false task states text = (nodes, (c.in_ok-found.ensures.flow, c.in_ok-found.ensures.nodes), text_told names task nodes (rows_shown c.in_ok-found.found.rows) text states c.in_ok-found.ensures.flow c.in_ok-found.ensures.rows c.in_ok-text-2.ensures) in
    (task, states, refl, c.in_ok-found.ensures.states, c.in_ok-found.ensures.held, subst (λ (flow : Bool). Tells names flow task states text) (sym is) told)
