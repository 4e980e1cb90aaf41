use Rattle.std.proofs.Common.{ap, string_bytes, subst, sym, ◌∙◌}
use Rattle.std.proofs.lemmas.List.{take_more}
use Rattle.tool_words.proofs.ExpectedLemmas.{Has, has_more}
use Rattle.tool_words.proofs.expected.set_of.Goals as goal

pub loop-name-preserved : goal.loop-name-preserved
loop-name-preserved c =
    let i = c.loop-name.name-index in
    let is = ap (λ n. string_bytes n) (sym c.name-item.is) ∙ sym c.in_ok-clone.ensures.cases in
    subst (Has c.insert.new.self) (sym (take_more c.args.names.now i c.name-item.result c.loop-name-test.true))
    (has_more c.loop-name.set c.insert.new.self _ c.in_ok-clone.field-0 _ c.in_ok-insert.ensures.updates is c.loop-name.invariant)
