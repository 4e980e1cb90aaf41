use Rattle.hushcheck.proofs.OrderLemmas.{seen-insert}
use Rattle.hushcheck.proofs.names.Names.add.Goals as goal

pub returns : goal.returns
returns c = seen-insert c.self.inside.names.keys c.insert.new.self.keys c.args.self.now c.args.name c.self.view_is c.in_ok-insert.ensures.keys
