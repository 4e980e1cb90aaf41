use Rattle.std.proofs.Common.{ℕ, ◌+◌, ◌<◌, ◌≤◌, ◌≡◌, arith, rules, [], List, length, map, ap, sym, subst, ◌∙◌, Err}
use Rattle.std.proofs.lemmas.List.{length-map}
use Rattle.rehearse_states.specs.Drawing.{asks_in, node_shown, nodes_shown}
use Rattle.rehearse_states.proofs.NodeLemmas.{asks_in_lines}
use Rattle.rehearse_endings.proofs.WrittenFlowLemmas.{whole_flow}
use Rattle.std.proofs.lemmas.Result.{err_from_is_err_and}
use Rattle.rehearse_endings.specs.Held.{ComesToBytes}
use Rattle.rehearse_endings.specs.States.{ComesToStates, ComesToSteps}
use Rattle.rehearse_endings.proofs.EnteredStateLemmas.{first_entered, whole_asks, whole_states, refused_as, passed_on, costly_at_once}
use Rattle.rehearse_endings.proofs.HeldLemmas.{whole_held}
use Rattle.rehearse_machine.specs.Tasks.{task_in}
use Rattle.rehearse_terms.specs.Bounds.{most_steps}
use Rattle.rehearse_states.specs.SumNodes.{DrawsRows, sum_shown}
use Rattle.rehearse_states.specs.declared.sum_nodes.SumNode as sum
use Rattle.rehearse_endings.proofs.SearchLemmas.{reached_first, whole_rows}
use Rattle.rehearse_endings.specs.declared.sum_error.SumError.{SumError}
use Rattle.rehearse_endings.specs.declared.sum_error.SumError.TheVariants.{Bytes, Steps}
use Rattle.rehearse_endings.proofs.searching.sum_endings.Goals as goal

pub summed-requires-clause-reached : goal.summed-requires-clause-reached
summed-requires-clause-reached g c = reached_first (task_in c.args.rehearsal.now) c.in_ok-stop.stop (g.S.Store.record_of c.begin_text.new.store).present c.in_ok-stop.ensures.stops

pub returns-clause-rows : goal.returns-clause-rows
returns-clause-rows g c =
    let searched = c.in_ok-future.ensures.searched in
    c.in_ok-rows.ensures searched.shown.rows (subst (λ (x : List sum.SumNode). DrawsRows (map sum_shown x) c.in_ok-future.future.summary.sum searched.shown.rows) (sym c.deref.ensures.value) searched.is.0)
    ∙ whole_rows (map (λ n. n.now) c.args.names.now) (task_in c.args.rehearsal.now) c.in_ok-stop.stop (g.S.Store.record_of c.begin_text.new.store).present searched.shown c.in_ok-stop.ensures.stops searched.sums

pub returns-clause-met : goal.returns-clause-met
returns-clause-met g c =
    let names = map (λ n. n.now) c.args.names.now in
    let task = task_in c.args.rehearsal.now in
    let first = first_entered names task c.new-table.result c.new-table.ensures.entries c.new-table.ensures.flow c.new-table.ensures.visited in
    whole_states names task c.summed.new.table (c.in_ok-future.ensures.searched.entered [] [] c.in_ok-stop.ensures.stops tt first)

pub returns-clause-nodes : goal.returns-clause-nodes
returns-clause-nodes g c =
    let names = map (λ n. n.now) c.args.names.now in
    let task = task_in c.args.rehearsal.now in
    let nodes = c.summed.new.table.flow.nodes in
    let first = first_entered names task c.new-table.result c.new-table.ensures.entries c.new-table.ensures.flow c.new-table.ensures.visited in
    ap asks_in c.in_ok-nodes.ensures ∙ asks_in_lines (length nodes.items) (nodes_shown nodes)
    ∙ whole_asks names task c.summed.new.table (c.in_ok-future.ensures.searched.entered [] [] c.in_ok-stop.ensures.stops tt first)

pub returns-in_err-future-clause-refused : goal.returns-in_err-future-clause-refused
returns-in_err-future-clause-refused g c =
    let names = map (λ n. n.now) c.args.names.now in
    let task = task_in c.args.rehearsal.now in
    let first = first_entered names task c.new-table.result c.new-table.ensures.entries c.new-table.ensures.flow c.new-table.ensures.visited in
    let error = err_from_is_err_and c.from_residual-in_err-future.result c.from_residual-in_err-future.ensures.1 in
    refused_as names task (c.args.most_states + 1) c.from_residual-in_err-future.result c.in_err-future.field-0.0 (error.1 ∙ ap Err error.2)
    (λ is. subst (λ (n : ℕ). ComesToStates names task (n + 1)) c.new-table.ensures.most (c.in_err-future.ensures.refused [] [] c.in_ok-stop.ensures.stops tt first is))

pub returns-in_err-future-clause-costly : goal.returns-in_err-future-clause-costly
returns-in_err-future-clause-costly g c = λ count.
    let names = map (λ n. n.now) c.args.names.now in
    let task = task_in c.args.rehearsal.now in
    let first = first_entered names task c.new-table.result c.new-table.ensures.entries c.new-table.ensures.flow c.new-table.ensures.visited in
    let error = err_from_is_err_and c.from_residual-in_err-future.result c.from_residual-in_err-future.ensures.1 in
    passed_on (λ (x : SumError). x ≡ Steps count → ComesToSteps names task count c.args.most_work) c.from_residual-in_err-future.result c.in_err-future.field-0.0 (error.1 ∙ ap Err error.2)
    (λ is. c.in_err-future.ensures.costly count [] [] c.in_ok-stop.ensures.stops tt first is)

pub returns-in_err-future-clause-spent : goal.returns-in_err-future-clause-spent
returns-in_err-future-clause-spent g c = λ count.
    let error = err_from_is_err_and c.from_residual-in_err-future.result c.from_residual-in_err-future.ensures.1 in
    passed_on (λ (x : SumError). x ≡ Steps count → c.args.most_work < (g.S.Store.record_of c.summed.new.store).begun) c.from_residual-in_err-future.result c.in_err-future.field-0.0 (error.1 ∙ ap Err error.2)
    (λ is. (c.in_err-future.ensures.spent count is).0)

pub returns-in_err-future-clause-soon : goal.returns-in_err-future-clause-soon
returns-in_err-future-clause-soon g c = λ count.
    let error = err_from_is_err_and c.from_residual-in_err-future.result c.from_residual-in_err-future.ensures.1 in
    passed_on (λ (x : SumError). x ≡ Steps count → (g.S.Store.record_of c.summed.new.store).begun ≤ c.args.most_work + most_steps) c.from_residual-in_err-future.result c.in_err-future.field-0.0 (error.1 ∙ ap Err error.2)
    (λ is. (c.in_err-future.ensures.spent count is).1)

pub returns-clause-flow : goal.returns-clause-flow
returns-clause-flow g c =
    let task = task_in c.args.rehearsal.now in
    let m = (g.S.Store.record_of c.begin_text.new.store).present in
    let nodes = c.summed.new.table.flow.nodes in
    whole_flow task c.in_ok-stop.stop m (nodes_shown nodes) (nodes_shown c.in_ok-nodes.nodes) c.in_ok-future.future.summary.place (length nodes.items) c.in_ok-stop.ensures.stops c.in_ok-future.ensures.searched.draws
    (c.in_ok-future.ensures.searched.last c.new-table.ensures.entries c.new-table.ensures.flow) (sym (length-map nodes.items node_shown)) c.in_ok-nodes.ensures

pub returns-then-is_spent-clause-costly : goal.returns-then-is_spent-clause-costly
returns-then-is_spent-clause-costly g c = λ count is.
    let names = map (λ n. n.now) c.args.names.now in
    let none = c.requires.begun in
    let begun = c.in_ok-stop.ensures.begun in
    let within = c.in_ok-stop.ensures.within in
    let same : 0 ≡ count = let e = is in cc in
    subst (λ (n : ℕ). ComesToSteps names (task_in c.args.rehearsal.now) n c.args.most_work) same
    (costly_at_once names (task_in c.args.rehearsal.now) c.args.most_work (g.S.Store.record_of c.begin_text.new.store).begun (c.is_spent.ensures.spent (search rules)) (omega (arith, none, begun, within)))

pub returns-clause-held : goal.returns-clause-held
returns-clause-held g c =
    let names = map (λ n. n.now) c.args.names.now in
    let task = task_in c.args.rehearsal.now in
    let first = first_entered names task c.new-table.result c.new-table.ensures.entries c.new-table.ensures.flow c.new-table.ensures.visited in
    whole_held names task c.summed.new.table c.args.most_bytes (c.in_ok-future.ensures.searched.held ∙ c.new-table.ensures.held) (c.in_ok-future.ensures.searched.entered [] [] c.in_ok-stop.ensures.stops tt first)

pub returns-in_err-future-clause-large : goal.returns-in_err-future-clause-large
returns-in_err-future-clause-large g c = λ count.
    let names = map (λ n. n.now) c.args.names.now in
    let task = task_in c.args.rehearsal.now in
    let first = first_entered names task c.new-table.result c.new-table.ensures.entries c.new-table.ensures.flow c.new-table.ensures.visited in
    let error = err_from_is_err_and c.from_residual-in_err-future.result c.from_residual-in_err-future.ensures.1 in
    passed_on (λ (x : SumError). x ≡ Bytes count → ComesToBytes names task count c.args.most_bytes) c.from_residual-in_err-future.result c.in_err-future.field-0.0 (error.1 ∙ ap Err error.2)
    (λ is. subst (ComesToBytes names task count) c.new-table.ensures.held (c.in_err-future.ensures.large count [] [] c.in_ok-stop.ensures.stops tt first is).1)
