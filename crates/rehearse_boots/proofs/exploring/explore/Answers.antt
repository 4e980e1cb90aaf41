use Rattle.std.proofs.Common.{◌≡◌, ◌∷◌, [], ◌∙◌, ap, sym, subst, Err}
use Rattle.std.proofs.lemmas.Result.{err_from_is_err_and}
use Rattle.rehearse_boots.specs.Boots.{Kept, first_of, with_boot}
use Rattle.rehearse_boots.specs.BootsShown.{kept_shown}
use Rattle.rehearse_boots.specs.Exploring.{AreTold, asked_in, graph_shown}
use Rattle.rehearse_boots.specs.Ways.{AreFoundBy}
use Rattle.rehearse_boots.proofs.BootLemmas.{passed_on}
use Rattle.rehearse_boots.proofs.ToldLemmas.{told_first, untold_first}
use Rattle.rehearse_boots.proofs.WayLemmas.{first_found}
use Rattle.rehearse_boots.proofs.exploring.explore.Goals as goal

pub returns-in_err-number-clause-err : goal.returns-in_err-number-clause-err
returns-in_err-number-clause-err g c =
    let asked = asked_in c.args.telling.now in
    let ask = c.args.telling.now.ask.now in
    let error = err_from_is_err_and c.from_residual-in_err-number.result c.from_residual-in_err-number.ensures.1 in
    let first = ap (λ b. with_boot b (kept_shown c.in_ok-first.first)) c.new-boots.ensures ∙ ap (λ (k : Kept). k ∷ []) (c.in_ok-first.ensures ∙ c.requires.1.0) in
    passed_on _ c.from_residual-in_err-number.result c.in_err-number.field-0.0 (error.1 ∙ ap Err error.2)
    (untold_first (g.B.Board.start_of c.args.board.now) asked ask.states ask.work ask.memory ask.boots c.number.new.self c.in_err-number.field-0.0
    (λ is. ((c.in_err-number.ensures.many is).0 ∙ first, (c.in_err-number.ensures.many is).1)) c.in_err-number.ensures.other)

pub add_boots-requires-clause-none : goal.add_boots-requires-clause-none
add_boots-requires-clause-none g c =
    let asked = asked_in c.args.telling.now in
    let start_of = g.B.Board.start_of c.args.board.now in
    let one : c.number.new.self ≡ first_of asked ∷ [] = c.in_ok-number.ensures.added ∙ ap (λ b. with_boot b (kept_shown c.in_ok-first.first)) c.new-boots.ensures ∙ ap (λ (k : Kept). k ∷ []) (c.in_ok-first.ensures ∙ c.requires.1.0) in
    subst (λ graph. AreTold start_of asked 0 c.number.new.self (graph_shown graph)) (sym c.new-graph.ensures.items) (told_first start_of asked c.number.new.self one)

pub add_boots-requires-clause-by : goal.add_boots-requires-clause-by
add_boots-requires-clause-by g c =
    let asked = asked_in c.args.telling.now in
    let one : c.number.new.self ≡ first_of asked ∷ [] = c.in_ok-number.ensures.added ∙ ap (λ b. with_boot b (kept_shown c.in_ok-first.first)) c.new-boots.ensures ∙ ap (λ (k : Kept). k ∷ []) (c.in_ok-first.ensures ∙ c.requires.1.0) in
    subst (λ found. AreFoundBy (graph_shown c.new-graph.result.items) c.number.new.self found) (sym c.new.ensures.items)
    (subst (λ boots. AreFoundBy (graph_shown c.new-graph.result.items) boots []) (sym one) (first_found (graph_shown c.new-graph.result.items) (first_of asked)))
