use Rattle.std.proofs.Common.{◌∙◌, refl}
use Rattle.clap.specs.Words.{found_of}
use Rattle.clap.proofs.WalkLemmas.{raw_values-rows}
use Rattle.tool_words.proofs.EntryLemmas.{unwrapped}
use Rattle.tool_words.proofs.read.texts_of.Goals as goal

pub returns : goal.returns
returns c =
    c.loop-value.invariant
    ∙ unwrapped c.get_strs.result _ (c.get_strs.ensures ∙ raw_values-rows (found_of c.args.matches.now) c.args.id.now)
    c.unwrap_or-values.result _ c.unwrap_or-values.ensures refl c.loop-value.value-index c.loop-value-test.false
