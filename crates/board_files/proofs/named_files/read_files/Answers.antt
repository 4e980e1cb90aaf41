use Rattle.std.proofs.Common.{◌≡◌, ◌∙◌, ◌+◌, suc, arith, ap, sym, subst, take, List, ℕ, [], ◌∷◌, ◌++◌, Err}
use Rattle.std.proofs.lemmas.Result.{err_from_is_err_and}
use Rattle.board_files.proofs.FileLemmas.{AreSoFar, one-more, one-refused, take-one, take-rest, IsGrown}
use Rattle.board_files.specs.NamedFiles.{ReadsFiles}
use Rattle.commands.specs.TextsShown.{texts}
use Rattle.device_list.specs.CommandsShown.{files_shown}
use Rattle.tool_files.proofs.ToldLemmas.{IfTold-then}
use Rattle.tool_files.specs.Told.{IfTold}
use Rattle.board_files.proofs.named_files.read_files.Goals as goal

pub returns-in_err-read_one-clause-told : goal.returns-in_err-read_one-clause-told
returns-in_err-read_one-clause-told g c =
    let a = g.F.Files.told c.args.files.now in
    let b = g.F.Files.told c.loop-name.files in
    let d = g.F.Files.told c.read_one.new.files in
    let names = texts (take c.loop-name.name-index c.args.names.now) in
    let fault = c.in_err-read_one.field-0.0 in
    let p = err_from_is_err_and c.from_residual.result c.from_residual.ensures.1 in
    let all = texts c.args.names.now in
    let grown : IsGrown (names ++ c.deref.result.now ∷ []) all =
    subst (λ (name : List ℕ). IsGrown (names ++ name ∷ []) all) (sym c.deref.ensures.value) (take-rest c.args.names.now c.loop-name.name-index c.name-item.result c.loop-name-test.true c.name-item.is) in
    subst (λ r. IfTold a d (λ old new. ReadsFiles c.args.folder.now all old new r)) (sym (p.1 ∙ ap Err p.2))
    (IfTold-then a b d (λ x y z so reads. one-refused c.args.folder.now c.deref.result.now names all (files_shown c.loop-name.texts.entries) (files_shown c.read_one.new.texts.entries) c.loop-name.room c.read_one.new.room x y z fault grown so reads)
    c.loop-name.invariant.0 c.in_err-read_one.ensures.told)

pub loop-name-preserved : goal.loop-name-preserved
loop-name-preserved g c =
    let a = g.F.Files.told c.args.files.now in
    let b = g.F.Files.told c.loop-name.files in
    let d = g.F.Files.told c.read_one.new.files in
    let names = texts (take c.loop-name.name-index c.args.names.now) in
    let after = files_shown c.read_one.new.texts.entries in
    let left = c.read_one.new.room in
    let one : names ++ c.deref.result.now ∷ [] ≡ texts (take (c.loop-name.name-index + 1) c.args.names.now) =
    ap (λ (name : List ℕ). names ++ name ∷ []) c.deref.ensures.value ∙ sym (take-one c.args.names.now c.loop-name.name-index c.name-item.result c.loop-name-test.true c.name-item.is) ∙ ap (λ (n : ℕ). texts (take n c.args.names.now)) (let next : suc c.loop-name.name-index ≡ c.loop-name.name-index + 1 = omega arith in next) in (
      subst (λ (ns : List (List ℕ)). IfTold a d (λ old now. AreSoFar c.args.folder.now ns old now after left)) one
          (IfTold-then a b d (λ x y z so reads. one-more c.args.folder.now c.deref.result.now names (files_shown c.loop-name.texts.entries) after c.loop-name.room left x y z so reads) c.loop-name.invariant.0 c.in_ok-read_one.ensures.told),
      c.in_ok-read_one.ensures.count ∙ c.loop-name.invariant.1,
      c.in_ok-read_one.ensures.lock ∙ c.loop-name.invariant.2,
    )
