use Rattle.std.proofs.Common.{rules, not, length, eqb, ap, ◌∙◌}
use Rattle.std.specs.Slice.Iter as slice
use borrow.Author.Tests.{tests}
use Rattle.std.proofs.lemmas.Iterator.Consumers.{map_from_collect, YieldsList-from_filter}
use Rattle.std.proofs.lemmas.Iterator.Splits.{YieldsList-from_slice_split}
use Rattle.text.specs.Words.{is_space, trimmed}
use Rattle.device_list.proofs.device_line.device_words.Goals as goal

pub returns : goal.returns
returns c =
    let source = c.filter.ensures.source in
    map_from_collect _ c.collect.ensures.ran
    (YieldsList-from_filter _ (λ word. not (eqb (length word) 0))
    (YieldsList-from_slice_split _ is_space (trimmed c.args.line.now) (ap slice.split_rest source ∙ (c.split.ensures.rest ∙ c.trimmed.ensures))
    (ap slice.split_done source ∙ c.split.ensures.done) (ap slice.split_callee source ∙ c.split.ensures.closure) (λ x b q k. search (rules, tests)))
    c.filter.ensures.closure (λ x b q k. search (rules, tests)))
