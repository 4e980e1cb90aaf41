use Rattle.std.proofs.Common.{ap, ◌∙◌, sym, Option, Some, None}
use Rattle.std.specs.Prelude.{slice_get}
use Rattle.hushlang.specs.TreesShown as view
use Rattle.hushlang.specs.Tree.{AndOr, Command}
use Rattle.rehearse_machine.specs.Places.{GoOn, command_at, for_move, for_turn}
use Rattle.rehearse_machine.specs.MovesShown.{under}
use Rattle.rehearse_machine.proofs.StoreMoves.{comes_as}
use Rattle.rehearse_machine.proofs.PartLemmas.{list_found, list_missing, command_there, for_goes, no_for}
use Rattle.rehearse_machine.proofs.frame_moves.move_for.Goals as goal

pub returns-in_default : goal.returns-in_default
returns-in_default g c top =
    let f = c.args.frame.now in
    let fs = under (g.S.Store.record_of c.args.store.now).present in
    let says = ap view.script c.deref.ensures ∙ c.script-script.ensures in
    let none = list_missing c.deref.result.now c.deref-2.result.now c.at-at.result f says c.deref-2.ensures.value c.at-at.ensures c.in_default.ensures.lookup.3 in
    comes_as c.leave.result _ _ (GoOn fs) _ (λ s. sym (ap (λ (o : Option AndOr). for_move c.args.shell (command_at o f.place.command) f fs s) none)) c.leave.ensures

pub returns-in_default-command_of : goal.returns-in_default-command_of
returns-in_default-command_of g c top =
    let f = c.args.frame.now in
    let fs = under (g.S.Store.record_of c.args.store.now).present in
    let says = ap view.script c.deref.ensures ∙ c.script-script.ensures in
    let l = c.in-Some.list.now in
    let found = list_found c.deref.result.now c.deref-2.result.now c.at-at.result f says c.deref-2.ensures.value c.at-at.ensures l c.in-Some.ensures.lookup.3.0 c.in-Some.ensures.lookup.1 in
    let none = command_there l _ c.at-at.result f found c.at-at.ensures None c.in_default-command_of.ensures.value in
    comes_as c.leave-in_default-command_of.result _ _ (GoOn fs) _ (λ s. sym (ap (λ (o : Option Command). for_move c.args.shell o f fs s) none)) c.leave-in_default-command_of.ensures

pub returns-in_default-command : goal.returns-in_default-command
returns-in_default-command g c top =
    let f = c.args.frame.now in
    let fs = under (g.S.Store.record_of c.args.store.now).present in
    let says = ap view.script c.deref.ensures ∙ c.script-script.ensures in
    let l = c.in-Some.list.now in
    let found = list_found c.deref.result.now c.deref-2.result.now c.at-at.result f says c.deref-2.ensures.value c.at-at.ensures l c.in-Some.ensures.lookup.3.0 c.in-Some.ensures.lookup.1 in
    let code = c.in-Some-command_of.command.now in
    let command = command_there l _ c.at-at.result f found c.at-at.ensures (Some (view.command code)) c.in-Some-command_of.ensures.value in
    comes_as c.leave-in_default-command.result _ _ (GoOn fs) _ (λ s. no_for c.args.shell _ code f fs s command c.in_default-command.not-For) c.leave-in_default-command.ensures

pub returns : goal.returns
returns g c top =
    let f = c.args.frame.now in
    let fs = under (g.S.Store.record_of c.args.store.now).present in
    let says = ap view.script c.deref.ensures ∙ c.script-script.ensures in
    let l = c.in-Some.list.now in
    let found = list_found c.deref.result.now c.deref-2.result.now c.at-at.result f says c.deref-2.ensures.value c.at-at.ensures l c.in-Some.ensures.lookup.3.0 c.in-Some.ensures.lookup.1 in
    let code = c.in-Some-command_of.command.now in
    let command = command_there l _ c.at-at.result f found c.at-at.ensures (Some (view.command code)) c.in-Some-command_of.ensures.value in
    comes_as c.next_turn.result _ _ (for_turn c.args.shell (slice_get f.words f.place.turn) c.deref-3.result.now (view.script c.in-For.body.value) f fs) _
    (λ s. for_goes c.args.shell _ code f fs s command c.in-For.name c.in-For.words c.in-For.body c.deref-3.result.now c.in-For.is c.deref-3.ensures.value) (c.next_turn.ensures top)
