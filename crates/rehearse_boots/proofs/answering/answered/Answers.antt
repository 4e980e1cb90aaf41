use Rattle.std.proofs.Common.{rules, ◌≡◌, sym, subst, Option, Some, None}
use Rattle.rehearse_boots.specs.Boots.{Expected}
use Rattle.rehearse_boots.specs.BootsShown.{expected_shown}
use Rattle.rehearse_boots.specs.Exploring.{asked_in, graph_shown}
use Rattle.rehearse_boots.specs.TellingBoots.{IsAnswer}
use Rattle.rehearse_boots.proofs.AnswerLemmas.{graph_answer, listing_is}
use Rattle.rehearse_boots.proofs.ToldLemmas.{if_ok}
use Rattle.rehearse_boots.proofs.answering.answered.Goals as goal

pub returns-in-None : goal.returns-in-None
returns-in-None c = λ start_of is.
    let asked = asked_in c.args.telling.now in
    let boots = c.args.explored.now.found.boots in
    let none : asked.expected ≡ None = search rules in
    if_ok c.listing.result _ (λ a. IsAnswer start_of asked boots asked.expected a.text.items a.holds)
    (λ a h. subst (λ (o : Option Expected). IsAnswer start_of asked boots o a.text.items a.holds) (sym none)
    (listing_is start_of asked c.args.telling.now.ask.now.boots boots c.args.explored.now.found.by.items (graph_shown c.args.explored.now.graph.items) is a.text.items h.0, h.1)) c.listing.ensures

pub returns-in-Some : goal.returns-in-Some
returns-in-Some c = λ start_of is.
    let asked = asked_in c.args.telling.now in
    let boots = c.args.explored.now.found.boots in
    let expected = expected_shown c.in-Some.expected in
    let some : asked.expected ≡ Some expected = search rules in
    if_ok c.expecting.result _ (λ a. IsAnswer start_of asked boots asked.expected a.text.items a.holds)
    (λ a h. subst (λ (o : Option Expected). IsAnswer start_of asked boots o a.text.items a.holds) (sym some)
    (graph_answer start_of asked c.args.telling.now.ask.now.boots boots c.args.explored.now.found.by.items (graph_shown c.args.explored.now.graph.items) is expected some a.text.items a.holds h)) c.expecting.ensures
