use Rattle.hushlang.proofs.NextToken.{spells_next}
use Rattle.hushlang.proofs.lexer.Lexer.next.Goals as goal

pub returns-clause-spells : goal.returns-clause-spells
returns-clause-spells c = spells_next c.args.self.now c.cut_token.new.self c.cut_token.result c.cut_token.ensures.gives
