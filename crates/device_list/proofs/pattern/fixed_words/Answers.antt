use Rattle.std.proofs.Common.{sym, ◌∙◌}
use Rattle.device_list.proofs.WordLemmas.{fixed_is}
use Rattle.device_list.proofs.pattern.fixed_words.Goals as goal

pub returns-then-ends_in_rest : goal.returns-then-ends_in_rest
returns-then-ends_in_rest c = fixed_is c.args.words.now (sym c.ends_in_rest.ensures ∙ c.if-ends_in_rest.true)
