use Rattle.std.proofs.Common.{ap, ◌∙◌}
use Rattle.hushlang.specs.TreesShown as view
use Rattle.hushlang.proofs.KnownFieldLemmas.{by_any, known_lent}
use Rattle.hushlang.proofs.call.Call.fields.Goals as goal

pub returns-clause-fields : goal.returns-clause-fields
returns-clause-fields c = λ p.
    by_any (λ found. view.fields_in found.now) p (view.call c.args.self.now) c.as_ref.result
    (known_lent c.as_ref.result ∙ ap view.known c.as_ref.ensures.value ∙ c.args.self.now.prepared)
