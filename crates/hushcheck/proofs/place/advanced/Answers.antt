use Rattle.std.proofs.Common.{◌+◌, refl, arith}
use Rattle.hushcheck.proofs.PlaceLemmas.{behind_newline, lines_more, same_line}
use Rattle.hushcheck.proofs.place.advanced.Goals as goal

pub returns-in-Some-clause-point : goal.returns-in-Some-clause-point
returns-in-Some-clause-point c =
    let line = c.args.point.line + c.newlines.result in
    behind_newline c.args.text.now c.args.point c.requires.point c.args.at c.requires.later c.requires.within c.in-Some.newline line
    (lines_more c.args.text.now c.args.point c.requires.point c.args.at c.requires.later c.requires.within c.newlines.result line c.newlines.ensures.count refl)
    (let h = c.in-Some.ensures.0.high in omega (arith, h)) c.in-Some.ensures.1 (λ k low high. c.in-Some.ensures.0.after k (omega (arith, low)) high) _ refl

pub returns-in-None-clause-point : goal.returns-in-None-clause-point
returns-in-None-clause-point c =
    let line = c.args.point.line + c.newlines.result in
    same_line c.args.text.now c.args.point c.requires.point c.args.at c.requires.later c.requires.within line
    (lines_more c.args.text.now c.args.point c.requires.point c.args.at c.requires.later c.requires.within c.newlines.result line c.newlines.ensures.count refl)
    (λ k high. c.in-None.ensures k (omega arith) high) _ refl
