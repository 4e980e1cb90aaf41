use Rattle.std.proofs.Common.{ap, ◌∙◌, List}
use Rattle.std.specs.List.{list_any}
use Rattle.std.specs.Str.{bytes_eq}
use Rattle.text.specs.Lines.{Text}
use Rattle.commands.proofs.ComputedLemmas.{any_text}
use Rattle.device_list.proofs.device_tables.DeviceTables.asks_of.Goals as goal

pub returns : goal.returns
returns c =
    let file = c.args.file.now in
    c.is_among.ensures ∙ any_text file c.asked_about.result.now ∙ ap (λ (files : List Text). list_any (bytes_eq file) files) c.asked_about.ensures
