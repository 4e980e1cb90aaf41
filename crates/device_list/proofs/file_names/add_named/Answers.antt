use Rattle.std.proofs.Common.{◌≡◌, ◌++◌, ◌∙◌, ap, sym, false, subst, List, Bor, OnOk}
use Rattle.text.specs.Lines.{Text}
use Rattle.commands.specs.TextsShown.{texts}
use Rattle.device_list.specs.CallLines.{colon_place}
use Rattle.device_list.specs.NamedFiles.{files_behind}
use Rattle.device_list.specs.Quotes.{quoted_words}
use Rattle.device_list.proofs.WordLemmas.{bytes_of, clauses_at}
use Rattle.device_list.proofs.file_names.add_named.Goals as goal

pub returns : goal.returns
returns c =
    let words = c.deref-2.result.now in
    let at = c.colon_place-at.result in
    let are : bytes_of words ≡ quoted_words c.args.line.now = ap bytes_of c.deref-2.ensures.value ∙ c.in_ok-words.ensures in
    let place : at ≡ colon_place (bytes_of words) = c.colon_place-at.ensures ∙ ap (λ (ws : List (Bor Text)). colon_place (bytes_of ws)) (c.deref.ensures.value ∙ sym c.deref-2.ensures.value) in
    subst (λ (ws : List Text). OnOk c.add_files.result (texts c.add_files.new.names.items ≡ texts c.args.names.now.items ++ files_behind false ws))
    (clauses_at words (quoted_words c.args.line.now) at are place) c.add_files.ensures
