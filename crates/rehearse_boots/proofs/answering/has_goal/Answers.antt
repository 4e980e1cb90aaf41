use Rattle.std.proofs.Common.{rules, ◌≡◌, sym, true}
use Rattle.rehearse_boots.specs.Ways.{is_goal, way_shown}
use Rattle.rehearse_boots.proofs.AnswerLemmas.{goal_found}
use Rattle.rehearse_boots.proofs.answering.has_goal.Goals as goal

pub returns-then-way-2 : goal.returns-then-way-2
returns-then-way-2 c =
    let found : is_goal (way_shown c.way-item.result) ≡ true = search rules in
    sym (goal_found c.args.ways.now c.loop-way.way-index c.way-item.result c.loop-way-test.true c.way-item.is found)
