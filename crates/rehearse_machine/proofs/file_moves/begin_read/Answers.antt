use Rattle.std.proofs.Common.{ap, ◌∙◌, sym, subst, ◌∷◌, Some, Option}
use Rattle.hushlang.specs.TreesShown as view
use Rattle.hushlang_shells.specs.TreesByShell.{TextRead}
use Rattle.bootstore_state.specs.Record.{Record}
use Rattle.bootstore_state.specs.Scripts.{text_found}
use Rattle.bootstore_state.specs.declared.frame.At.{At}
use Rattle.rehearse_machine.specs.Frames.{begun_text}
use Rattle.rehearse_machine.specs.MovesShown.{Comes, IsTop, under}
use Rattle.rehearse_machine.specs.Places.{GoOn, at_file, moved_to, place_read, place_sourced, text_frame}
use Rattle.rehearse_machine.proofs.NameLemmas.{within}
use Rattle.rehearse_machine.proofs.StoreMoves.{comes_as}
use Rattle.rehearse_machine.proofs.file_moves.begin_read.Goals as goal

pub returns-in-Script : goal.returns-in-Script
returns-in-Script g c top =
    let mid = g.S.Store.record_of c.file_text.new.self in
    let new = g.S.Store.record_of c.push_text.new.store in
    let f = c.args.frame.now in
    let shell = c.args.shell in
    let name = c.args.name.now in
    let wanted = place_sourced shell (Some c.args.text.now) name (at_file c.args.file 0 f) in
    let same = c.in_ok-script.ensures.same in
    let found = sym (ap text_found c.in-Script.is) ∙ c.in_ok-script.ensures.found in
    let tree = view.script c.in-Script.script.value in
    subst (λ (r : Record). Comes c.push_text.result r new (wanted (under r.present))) same
    (comes_as c.push_text.result mid new (λ s. GoOn (text_frame tree ∷ moved_to c.at_file-at.result f ∷ under mid.present) (begun_text tree s)) (wanted (under mid.present))
    (λ s. ap (λ (x : At). GoOn (text_frame tree ∷ moved_to x f ∷ under mid.present) (begun_text tree s)) c.at_file-at.ensures
    ∙ ap (λ (x : Option TextRead). place_read shell (within x) name (at_file c.args.file 0 f) (under mid.present) s) found)
    (c.push_text.ensures f (subst (λ (r : Record). IsTop f r.present) (sym same) top)))
