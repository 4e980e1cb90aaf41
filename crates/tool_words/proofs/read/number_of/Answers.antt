use Rattle.std.proofs.Common.{◌∙◌, ◌≡◌, ◌==◌, false, subst}
use Rattle.std.specs.Prelude.{slice_index}
use Rattle.clap.specs.Words.{Text}
use Rattle.tool_words.proofs.EntryLemmas.{number_read, plus_false}
use Rattle.tool_words.proofs.read.number_of.Goals as goal

pub returns : goal.returns
returns c =
    let P : Text → Type 0 = λ t. (slice_index t 0 == 43) ≡ false in
    let plain = subst P c.as_bytes.ensures.value (plus_false c.as_bytes.result.now c.if-starts_with.ensures.value) in
    c.ok.ensures.value ∙ number_read c.args.text.now c.parse.result plain c.parse.ensures.value.0
