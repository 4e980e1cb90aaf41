use Rattle.std.proofs.Common.{ap, not, ◌∙◌}
use Rattle.hushcheck.proofs.OrderLemmas.{seen-insert, seen-there}
use Rattle.hushcheck.proofs.names.Names.add_new.Goals as goal

pub returns-clause-names : goal.returns-clause-names
returns-clause-names c = seen-insert c.self.inside.names.keys c.insert.new.self.keys c.args.self.now c.args.name c.self.view_is c.in_ok-insert.ensures.keys

pub returns-clause-new : goal.returns-clause-new
returns-clause-new c = c.in_ok-insert.ensures.added ∙ ap not (seen-there c.self.inside.names.keys c.args.self.now c.args.name c.self.view_is)
