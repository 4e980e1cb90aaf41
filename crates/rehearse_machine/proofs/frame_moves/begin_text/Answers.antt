use Rattle.std.proofs.Common.{ap, ◌∙◌, ◌∷◌, suc}
use Rattle.hushlang.specs.TreesShown as view
use Rattle.bootstore_state.specs.declared.frame.At.{At}
use Rattle.rehearse_machine.specs.Frames.{begun_text}
use Rattle.rehearse_machine.specs.MovesShown.{under}
use Rattle.rehearse_machine.specs.Places.{GoOn, in_turn, moved_to, place, text_frame}
use Rattle.rehearse_machine.proofs.StoreMoves.{comes_as}
use Rattle.rehearse_machine.proofs.frame_moves.begin_text.Goals as goal

pub returns : goal.returns
returns g c top =
    let old = g.S.Store.record_of c.args.store.now in
    let f = c.args.frame.now in
    let script = view.script c.args.script.value in
    let at = c.in_turn.ensures ∙ ap (λ (x : At). place x.list x.command (suc x.turn) 0) c.at-at.ensures in
    comes_as c.push_text.result old (g.S.Store.record_of c.push_text.new.store)
    (λ s. GoOn (text_frame script ∷ moved_to c.in_turn.result f ∷ under old.present) (begun_text script s))
    (λ s. GoOn (text_frame script ∷ in_turn (suc f.place.turn) 0 f ∷ under old.present) (begun_text script s))
    (λ s. ap (λ (x : At). GoOn (text_frame script ∷ moved_to x f ∷ under old.present) (begun_text script s)) at)
    (c.push_text.ensures f top)
