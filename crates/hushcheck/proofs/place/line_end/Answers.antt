use Rattle.std.proofs.Common.{length, arith}
use Rattle.hushcheck.proofs.PlaceLemmas.{first_line}
use Rattle.hushcheck.proofs.place.line_end.Goals as goal

pub returns-in-Some-clause-line : goal.returns-in-Some-clause-line
returns-in-Some-clause-line c =
    first_line c.args.behind.now c.in-Some.at (let h = c.in-Some.ensures.0.high in omega (arith, h)) (λ k high. c.in-Some.ensures.0.before k (omega arith) high) (λ within. c.in-Some.ensures.1)

pub returns-in-None-clause-line : goal.returns-in-None-clause-line
returns-in-None-clause-line c = first_line c.args.behind.now (length c.args.behind.now) (omega arith) (λ k high. c.in-None.ensures k (omega arith) high) (λ within. absurd (omega (arith, within)))
