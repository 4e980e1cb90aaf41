use Rattle.std.proofs.Common.{◌∙◌, ◌++◌, [], ◌∷◌, ap, sym, subst, List, ℕ}
use Rattle.board_files.proofs.FileLemmas.{insert-new}
use Rattle.board_files.specs.NamedFiles.{IsNew}
use Rattle.device_list.specs.CommandsShown.{files_shown, text_shown}
use Rattle.board_files.proofs.named_files.keep.Goals as goal

pub returns : goal.returns
returns c =
    let before = files_shown c.args.texts.now.entries in
    ap files_shown c.in_ok-insert.ensures.entries
    ∙ insert-new c.args.texts.now.entries c.in_ok-name.name c.args.file (subst (λ (name : List ℕ). IsNew before name) (sym c.in_ok-name.ensures.items) c.requires)
    ∙ ap (λ (name : List ℕ). before ++ (name, text_shown c.args.file) ∷ []) c.in_ok-name.ensures.items
