use Rattle.std.proofs.Common.{ap, ◌∙◌, sym, Option, Some, None}
use Rattle.hushlang.specs.TreesShown as view
use Rattle.hushlang.specs.Tree.{AndOr}
use Rattle.bootstore_state.specs.declared.frame.At.{At}
use Rattle.rehearse_machine.specs.Places.{command_at}
use Rattle.rehearse_machine.proofs.PartLemmas.{list_found, list_missing, command_there}
use Rattle.rehearse_machine.proofs.WordLemmas.{word_some, word_none}
use Rattle.rehearse_reports.proofs.FrameLemmas.{for_none, no_for, for_turn, for_end}
use Rattle.rehearse_reports.proofs.begins.begins_in_for.Goals as goal

pub returns-in_default : goal.returns-in_default
returns-in_default c status limits fs s e =
    let f = c.args.frame.now in
    let says = ap view.script c.deref.ensures ∙ c.script-script.ensures in
    let none = list_missing c.deref.result.now c.deref-2.result.now c.at-at.result f says c.deref-2.ensures.value c.at-at.ensures c.in_default.ensures.lookup.3 in
    for_none limits fs s f _ (ap (λ (o : Option AndOr). command_at o f.place.command) none)

pub returns-in_default-command_of : goal.returns-in_default-command_of
returns-in_default-command_of c status limits fs s e =
    let f = c.args.frame.now in
    let says = ap view.script c.deref.ensures ∙ c.script-script.ensures in
    let l = c.in-Some.list.now in
    let found = list_found c.deref.result.now c.deref-2.result.now c.at-at.result f says c.deref-2.ensures.value c.at-at.ensures l c.in-Some.ensures.lookup.3.0 c.in-Some.ensures.lookup.1 in
    for_none limits fs s f _ (command_there l _ c.at-at.result f found c.at-at.ensures None c.in_default-command_of.ensures.value)

pub returns-in_default-command : goal.returns-in_default-command
returns-in_default-command c status limits fs s e =
    let f = c.args.frame.now in
    let says = ap view.script c.deref.ensures ∙ c.script-script.ensures in
    let l = c.in-Some.list.now in
    let found = list_found c.deref.result.now c.deref-2.result.now c.at-at.result f says c.deref-2.ensures.value c.at-at.ensures l c.in-Some.ensures.lookup.3.0 c.in-Some.ensures.lookup.1 in
    let code = c.in-Some-command_of.command.now in
    no_for limits fs s f _ code (command_there l _ c.at-at.result f found c.at-at.ensures (Some (view.command code)) c.in-Some-command_of.ensures.value) c.in_default-command.not-For

pub returns-in-Some-get : goal.returns-in-Some-get
returns-in-Some-get c status limits fs s e =
    let f = c.args.frame.now in
    let says = ap view.script c.deref.ensures ∙ c.script-script.ensures in
    let l = c.in-Some.list.now in
    let found = list_found c.deref.result.now c.deref-2.result.now c.at-at.result f says c.deref-2.ensures.value c.at-at.ensures l c.in-Some.ensures.lookup.3.0 c.in-Some.ensures.lookup.1 in
    let code = c.in-Some-command_of.command.now in
    let v = c.in-Some-get.field-0.now in
    for_turn limits fs s f _ code (command_there l _ c.at-at.result f found c.at-at.ensures (Some (view.command code)) c.in-Some-command_of.ensures.value) c.in-For.name c.in-For.words c.in-For.body c.in-For.is c.deref-in-Some-get.result.now v.items c.deref-in-Some-get.ensures.value
    (word_some c.words.result.now f.words c.at-at.result.turn f.place.turn v c.words.ensures (ap (λ (x : At). x.turn) c.at-at.ensures) c.in-Some-get.ensures.lookup.3.0 c.in-Some-get.ensures.lookup.1)

pub returns-in-None : goal.returns-in-None
returns-in-None c status limits fs s e =
    let f = c.args.frame.now in
    let says = ap view.script c.deref.ensures ∙ c.script-script.ensures in
    let l = c.in-Some.list.now in
    let found = list_found c.deref.result.now c.deref-2.result.now c.at-at.result f says c.deref-2.ensures.value c.at-at.ensures l c.in-Some.ensures.lookup.3.0 c.in-Some.ensures.lookup.1 in
    let code = c.in-Some-command_of.command.now in
    for_end limits fs s f _ code (command_there l _ c.at-at.result f found c.at-at.ensures (Some (view.command code)) c.in-Some-command_of.ensures.value) c.in-For.name c.in-For.words c.in-For.body c.in-For.is
    (word_none c.words.result.now f.words c.at-at.result.turn f.place.turn c.words.ensures (ap (λ (x : At). x.turn) c.at-at.ensures) c.in-None.ensures.lookup.3)
