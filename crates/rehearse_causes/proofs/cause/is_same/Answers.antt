use Rattle.std.proofs.Common.{◌∙◌}
use Rattle.rehearse_machine.proofs.ToldLemmas.{words_compared}
use Rattle.rehearse_causes.proofs.cause.is_same.Goals as goal

pub returns : goal.returns
returns c = c.eq.ensures ∙ words_compared c.args.one.now c.args.other.now
