-- Each arm takes the step that the definition takes.
use Rattle.std.proofs.Common.{◌∙◌, sym, ap, length, arith}
use Rattle.hushlang.proofs.WordPartLemmas.{part_found, pass_found, pair_found}
use Rattle.hushlang.proofs.word_parts.Parts.next.Goals as goal

pub returns-in-Part-clause-cuts : goal.returns-in-Part-clause-cuts
returns-in-Part-clause-cuts c =
    let i = c.looks.self-inside in
    let found = part_found i.text.now i.mode i.stop i.at c.in-Some.b.now c.in-Some.ensures.lookup.3.0 (c.in-Some.ensures.lookup.3.1 0) c.in_ok-part.field-0 c.in_ok-part.ensures.value c.in_ok-part.ensures.within c.in-Part.part c.in-Part.skip c.in-Part.mode c.in-Part.is in
    (sym c.looks.invariant.same ∙ found.0, omega arith, omega (arith, ap length c.looks.invariant.source))

pub looks-preserved-in-Pass : goal.looks-preserved-in-Pass
looks-preserved-in-Pass c =
    let i = c.looks.self-inside in
    let found = pass_found i.text.now i.mode i.stop i.at c.in-Some.b.now c.in-Some.ensures.lookup.3.0 (c.in-Some.ensures.lookup.3.1 0) c.in_ok-part.field-0 c.in_ok-part.ensures.value c.in_ok-part.ensures.within c.in-Pass.skip c.in-Pass.mode c.in-Pass.is in
    record { same = sym found.0 ∙ c.looks.invariant.same; source = c.looks.invariant.source; starts = omega arith; within = found.1 }

pub looks-preserved : goal.looks-preserved
looks-preserved c =
    let i = c.looks.self-inside in
    let found = pair_found i.text.now i.mode i.stop i.at c.in-Some.b.now c.in-Some.ensures.lookup.3.0 (c.in-Some.ensures.lookup.3.1 0) c.in_ok-part.field-0 c.in_ok-part.ensures.value c.in_ok-part.ensures.within c.in-Vanish.is in
    record { same = sym found.0 ∙ c.looks.invariant.same; source = c.looks.invariant.source; starts = omega arith; within = found.1 }
