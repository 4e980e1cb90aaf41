use Rattle.std.proofs.Common.{◌∙◌, ap, sym, subst, refl, option_map, string_bytes, Err, List, ℕ, Option}
use Rattle.std.proofs.lemmas.Result.{err_from_is_err_and}
use Rattle.board_files.proofs.BoardLemmas.{board-read, board-unread, board-unnamed}
use Rattle.tool_files.proofs.ToldLemmas.{IfTold-then}
use Rattle.board_files.specs.BoardFiles.{ReadsBoard}
use Rattle.board_files.specs.NamedFiles.{HaveReadNamed, IsNamedFilesFault}
use Rattle.board_files.specs.declared.board_files.BoardFiles.{BoardFiles}
use Rattle.device_list.specs.CommandsShown.{files_shown}
use Rattle.device_list.specs.NamedFiles.{named_files}
use Rattle.tool_files.specs.CallOrder.{OnlyReads}
use Rattle.tool_files.specs.Told.{IfTold}
use Rattle.tool_steps.proofs.SourceLemmas.{IfTold-weaker}
use Rattle.tool_words.specs.CommandAnswers.{inputs_shown}
use Rattle.board_files.proofs.board_files.read_board.Goals as goal

pub returns-in_err-sources-clause-told : goal.returns-in_err-sources-clause-told
returns-in_err-sources-clause-told g c =
    let a = g.F.Files.told c.args.files.now in
    let b = g.F.Files.told c.read_sources.new.files in
    let inputs = inputs_shown c.args.inputs in
    let fault = c.in_err-sources.field-0.0 in
    let p = err_from_is_err_and c.from_residual.result c.from_residual.ensures.1 in
    subst (λ r. IfTold a b (λ old new. ReadsBoard inputs old new r)) (sym (p.1 ∙ ap Err p.2))
    (IfTold-weaker a b (λ x z h. board-unread inputs x z fault h) c.in_err-sources.ensures.told)

pub returns-in_err-named-clause-told : goal.returns-in_err-named-clause-told
returns-in_err-named-clause-told g c =
    let a = g.F.Files.told c.args.files.now in
    let b = g.F.Files.told c.read_sources.new.files in
    let d = g.F.Files.told c.read_named_files.new.files in
    let inputs = inputs_shown c.args.inputs in
    let fault = c.in_err-named.field-0.0 in
    let p = err_from_is_err_and c.from_residual-in_err-named.result c.from_residual-in_err-named.ensures.1 in
    subst (λ r. IfTold a d (λ old new. ReadsBoard inputs old new r)) (sym (p.1 ∙ ap Err p.2))
    (IfTold-then a b d (λ x y z h i. board-unnamed inputs c.in_ok-sources.sources x y z fault h (subst (λ (folder : Option (List ℕ)). OnlyReads y z × IsNamedFilesFault folder (named_files c.in_ok-sources.sources.device_list.items) y.stored fault) c.in-Ok.ensures
    (subst (λ (list : List ℕ). OnlyReads y z × IsNamedFilesFault (option_map string_bytes c.in-Ok.folder) (named_files list) y.stored fault) c.deref.ensures.value i))) c.in_ok-sources.ensures.told c.in_err-named.ensures.told)

pub returns-clause-told : goal.returns-clause-told
returns-clause-told g c =
    let a = g.F.Files.told c.args.files.now in
    let b = g.F.Files.told c.read_sources.new.files in
    let d = g.F.Files.told c.read_named_files.new.files in
    let inputs = inputs_shown c.args.inputs in
    let source = c.in_ok-sources.sources in
    let files = files_shown c.in_ok-named.named.entries in
    let board : BoardFiles = record { images = source.images; device_list = source.device_list; files = c.in_ok-named.named; script = source.script } in
    IfTold-then a b d
    (λ x y z h i. board-read inputs source board x y z refl refl refl h
    (subst (λ (folder : Option (List ℕ)). HaveReadNamed folder (named_files source.device_list.items) y z files) c.in-Ok.ensures
    (subst (λ (list : List ℕ). HaveReadNamed (option_map string_bytes c.in-Ok.folder) (named_files list) y z files) c.deref.ensures.value i)))
    c.in_ok-sources.ensures.told c.in_ok-named.ensures.told
