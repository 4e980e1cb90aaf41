use Rattle.std.proofs.Common.{◌∙◌, ap, sym}
use Rattle.std.specs.Prelude.{find}
use Rattle.std.specs.Str.{bytes_eq}
use Rattle.clap.specs.Words.{App}
use Rattle.tool_words.specs.CommandLine.{named}
use Rattle.tool_words.proofs.ArgumentLemmas.{first_none, first_some}
use Rattle.tool_words.proofs.command.first_named.Goals as goal

pub returns-in-Some : goal.returns-in-Some
returns-in-Some g c =
    first_some g.S.AsStr.text c.args.words.now c.in-Some.word.now _ (sym c.in-Some.ensures.value) (c.row_named.ensures ∙ ap (find (λ (sub : App). bytes_eq sub.top.name c.as_str.result.now)) c.requires ∙ ap named c.as_str.ensures)

pub returns-in-None : goal.returns-in-None
returns-in-None g c = first_none g.S.AsStr.text c.args.words.now (sym c.in-None.ensures.value)
