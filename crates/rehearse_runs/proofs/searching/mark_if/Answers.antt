use Rattle.std.proofs.Common.{ap, ◌∙◌, ◌++◌, ◌∷◌, []}
use Rattle.rehearse_rules.specs.Execution.{Request}
use Rattle.rehearse_machine.specs.MovesShown.{request_shown}
use Rattle.rehearse_runs.specs.Searching.{requests}
use Rattle.rehearse_runs.proofs.SearchLemmas.{keeps_one, requests_on}
use Rattle.rehearse_runs.proofs.searching.mark_if.Goals as goal

pub returns-in_ok-push-clause-keeps : goal.returns-in_ok-push-clause-keeps
returns-in_ok-push-clause-keeps g c =
    keeps_one c.args.may (request_shown c.args.ask.now) (requests c.args.asks.now.items) (requests c.push.new.self.items) c.if-may.true
    (requests_on c.args.asks.now.items c.push.new.self.items c.in_ok-kept.kept c.in_ok-push.ensures.items
    ∙ ap (λ (request : Request). requests c.args.asks.now.items ++ request ∷ []) c.in_ok-kept.ensures)
