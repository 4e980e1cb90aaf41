use Rattle.rehearse_boots.specs.BootsShown.{asked_of}
use Rattle.rehearse_boots.specs.Exploring.{graph_shown}
use Rattle.rehearse_boots.proofs.AnswerLemmas.{well_explored}
use Rattle.rehearse_boots.proofs.ToldLemmas.{checked_changes, lines_are}
use Rattle.rehearse_boots.proofs.telling.answer_of.Goals as goal

pub answered-requires-clause-explored : goal.answered-requires-clause-explored
answered-requires-clause-explored g c =
    let e = c.in_ok-explored.explored in
    well_explored (g.B.Board.start_of c.args.board.now) (asked_of c.args.env.now c.args.ask.now) c.args.ask.now.boots e.found.boots e.found.by.items (graph_shown e.graph.items) c.in_ok-explored.ensures.ok

pub returns-clause-ok : goal.returns-clause-ok
returns-clause-ok g c =
    let start_of = g.B.Board.start_of c.args.board.now in
    let asked = asked_of c.args.env.now c.args.ask.now in
    let e = c.in_ok-explored.explored in
    lines_are start_of asked c.args.ask.now.boots e.found.boots e.found.by.items (graph_shown e.graph.items) c.in_ok-explored.ensures.ok c.in_ok-answered.field-0.text.items c.in_ok-answered.field-0.holds
    (checked_changes asked asked.changes c.in_ok-check_changes.ensures) (c.in_ok-answered.ensures start_of c.in_ok-explored.ensures.ok)
