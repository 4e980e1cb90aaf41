use Rattle.std.proofs.Common.{◌∷◌, ap, ◌∙◌, sym, Option, Some, None}
use Rattle.hushlang.specs.TreesShown as view
use Rattle.hushlang.specs.Tree.{AndOr}
use Rattle.bootstore_state.specs.declared.frame.At.{At}
use Rattle.rehearse_machine.specs.Places.{GoOn, moved_to, place, place_list}
use Rattle.rehearse_machine.proofs.PartLemmas.{list_found, list_missing, list_goes, block_ends}
use Rattle.rehearse_machine.proofs.frame_moves.next_in_script.Goals as goal

pub returns-in_default-clause-next : goal.returns-in_default-clause-next
returns-in_default-clause-next c limits fs s own e =
    let f = c.args.frame.now in
    let says = ap view.script c.deref.ensures ∙ c.script-script.ensures in
    let none = list_missing c.deref.result.now c.deref-2.result.now c.at-at.result f says c.deref-2.ensures.value c.at-at.ensures c.in_default.ensures.lookup.3 in
    sym (ap (λ (o : Option AndOr). place_list limits o f fs s) none)

pub returns-then-at-eq0-clause-next : goal.returns-then-at-eq0-clause-next
returns-then-at-eq0-clause-next c limits fs s own e =
    let f = c.args.frame.now in
    let says = ap view.script c.deref.ensures ∙ c.script-script.ensures in
    let l = c.in-Some.list.now in
    let found = list_found c.deref.result.now c.deref-2.result.now c.at-at.result f says c.deref-2.ensures.value c.at-at.ensures l c.in-Some.ensures.lookup.3.0 c.in-Some.ensures.lookup.1 in
    c.begin_in_list.ensures.next limits fs s own e ∙ list_goes l _ c.at-at.result f found c.at-at.ensures limits fs c.if-at-eq0.true s

pub returns-in-Some-command_of-clause-next : goal.returns-in-Some-command_of-clause-next
returns-in-Some-command_of-clause-next c limits fs s own e =
    let f = c.args.frame.now in
    let says = ap view.script c.deref.ensures ∙ c.script-script.ensures in
    let l = c.in-Some.list.now in
    let found = list_found c.deref.result.now c.deref-2.result.now c.at-at.result f says c.deref-2.ensures.value c.at-at.ensures l c.in-Some.ensures.lookup.3.0 c.in-Some.ensures.lookup.1 in
    let command = view.command c.in-Some-command_of.command.now in
    c.end_block.ensures.next limits fs s own e
    ∙ block_ends l _ c.at-at.result f found c.at-at.ensures limits fs (Some command) c.if-at-eq0.false c.in-Some-command_of.ensures.value s

pub returns-in-None-clause-next : goal.returns-in-None-clause-next
returns-in-None-clause-next c limits fs s own e =
    let f = c.args.frame.now in
    let says = ap view.script c.deref.ensures ∙ c.script-script.ensures in
    let l = c.in-Some.list.now in
    let found = list_found c.deref.result.now c.deref-2.result.now c.at-at.result f says c.deref-2.ensures.value c.at-at.ensures l c.in-Some.ensures.lookup.3.0 c.in-Some.ensures.lookup.1 in
    let place_is = c.place.ensures ∙ ap (λ (x : At). place x.list x.command 0 0) c.at-at.ensures in
    ap (λ (x : At). GoOn (moved_to x f ∷ fs) s) place_is
    ∙ block_ends l _ c.at-at.result f found c.at-at.ensures limits fs None c.if-at-eq0.false c.in-None.ensures.value s
