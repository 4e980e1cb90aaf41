use Rattle.std.proofs.Common.{sym, ◌∙◌}
use Rattle.text.proofs.LineLemmas.{lines-found, lines-unfound}
use Rattle.text.proofs.lines.LinesIterator.next.Goals as goal

pub returns-in-Some-clause-steps : goal.returns-in-Some-clause-steps
returns-in-Some-clause-steps c =
    rw c.if-self.false (lines-found c.args.self.now.number c.args.self.now.rest.now c.in-Some.at (sym c.find.ensures ∙ c.in-Some.is))

pub returns-in-None-clause-steps : goal.returns-in-None-clause-steps
returns-in-None-clause-steps c =
    rw c.if-self.false (lines-unfound c.args.self.now.number c.args.self.now.rest.now (sym c.find.ensures ∙ c.in-None.is))
