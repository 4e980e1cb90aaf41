use Rattle.std.proofs.Common.{rules, ap, ◌∙◌}
use Rattle.std.specs.Slice.Iter as slice
use borrow.Author.Tests.{tests}
use Rattle.std.proofs.lemmas.Iterator.Consumers.{map_from_collect, YieldsList-from_filter}
use Rattle.std.proofs.lemmas.Iterator.Splits.{YieldsList-from_slice_split}
use Rattle.hushlang_old.specs.OldFields.{is_space}
use Rattle.hushlang_uboot.specs.ReadBytes.{has_bytes}
use Rattle.hushlang_old.proofs.old_words.turns_in.Goals as goal

pub returns : goal.returns
returns c =
    let source = c.filter.ensures.source in
    map_from_collect _ c.collect.ensures.ran
    (YieldsList-from_filter _ has_bytes
    (YieldsList-from_slice_split _ is_space c.args.bytes.now (ap slice.split_rest source ∙ c.split.ensures.rest)
    (ap slice.split_done source ∙ c.split.ensures.done) (ap slice.split_callee source ∙ c.split.ensures.closure) (λ x b q k. search (rules, tests)))
    c.filter.ensures.closure (λ x b q k. search (rules, tests)))
