use Rattle.std.proofs.Common.{◌∙◌, sym}
use Rattle.hushlang.proofs.ReservedWordLemmas.{are_plain}
use Rattle.hushlang.proofs.words.are.Goals as goal

pub returns : goal.returns
returns c = c.eq.ensures ∙ sym (are_plain c.args.word.now c.args.bytes.now)
