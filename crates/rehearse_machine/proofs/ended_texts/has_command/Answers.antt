use Rattle.std.proofs.Common.{ap, sym, ◌∙◌}
use Rattle.hushlang.specs.TreesShown as view
use Rattle.rehearse_machine.proofs.PartLemmas.{list_found, list_missing}
use Rattle.rehearse_machine.proofs.EndedParts.{no_list_here, command_here, list_after, mapped, next_list_found}
use Rattle.rehearse_machine.proofs.ended_texts.has_command.Goals as goal

pub returns-in_default : goal.returns-in_default
returns-in_default c =
    let f = c.args.frame.now in
    let says = ap view.script c.deref.ensures ∙ c.script-script.ensures in
    no_list_here f (list_missing c.deref.result.now c.deref-2.result.now c.at-at.result f says c.deref-2.ensures.value c.at-at.ensures c.in_default.ensures.lookup.3)

pub returns-then-is_some : goal.returns-then-is_some
returns-then-is_some c =
    let f = c.args.frame.now in
    let says = ap view.script c.deref.ensures ∙ c.script-script.ensures in
    let l = c.in-Some.list.now in
    let found = list_found c.deref.result.now c.deref-2.result.now c.at-at.result f says c.deref-2.ensures.value c.at-at.ensures l c.in-Some.ensures.lookup.3.0 c.in-Some.ensures.lookup.1 in
    command_here f (view.list l) c.at-at.result _ found c.at-at.ensures c.next_command.ensures (mapped _ _ _ _ c.is_some.ensures c.if-is_some.true)

pub returns : goal.returns
returns c =
    let f = c.args.frame.now in
    let says = ap view.script c.deref.ensures ∙ c.script-script.ensures in
    let l = c.in-Some.list.now in
    let found = list_found c.deref.result.now c.deref-2.result.now c.at-at.result f says c.deref-2.ensures.value c.at-at.ensures l c.in-Some.ensures.lookup.3.0 c.in-Some.ensures.lookup.1 in
    let next = next_list_found c.deref-3.result.now c.deref-4.result.now c.at-at.result f (ap view.script c.deref-3.ensures ∙ c.script-script.ensures) c.deref-4.ensures.value c.at-at.ensures in
    list_after f (view.list l) c.at-at.result _ found c.at-at.ensures c.next_command.ensures _
    (mapped _ _ _ _ c.is_some.ensures c.if-is_some.false) (c.is_some-2.ensures ∙ c.get-2.ensures.lookup.0 ∙ sym next)
