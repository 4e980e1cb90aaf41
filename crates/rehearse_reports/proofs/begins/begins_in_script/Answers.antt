use Rattle.std.proofs.Common.{ap, ◌∙◌, sym}
use Rattle.hushlang.specs.TreesShown as view
use Rattle.rehearse_rules.specs.Execution.{goes}
use Rattle.rehearse_machine.proofs.PartLemmas.{list_found, list_missing}
use Rattle.rehearse_reports.proofs.FrameLemmas.{script_none, script_turn, script_first, script_end, script_join, script_passed}
use Rattle.rehearse_reports.proofs.begins.begins_in_script.Goals as goal

pub returns-in_default : goal.returns-in_default
returns-in_default c limits fs s e =
    let f = c.args.frame.now in
    let says = ap view.script c.deref.ensures ∙ c.script-script.ensures in
    script_none limits fs s f _ (list_missing c.deref.result.now c.deref-2.result.now c.at-at.result f says c.deref-2.ensures.value c.at-at.ensures c.in_default.ensures.lookup.3)

pub returns-then-at-ne0 : goal.returns-then-at-ne0
returns-then-at-ne0 c limits fs s e =
    let f = c.args.frame.now in
    let says = ap view.script c.deref.ensures ∙ c.script-script.ensures in
    let l = c.in-Some.list.now in
    let found = list_found c.deref.result.now c.deref-2.result.now c.at-at.result f says c.deref-2.ensures.value c.at-at.ensures l c.in-Some.ensures.lookup.3.0 c.in-Some.ensures.lookup.1 in
    script_turn limits fs s f _ (view.list l) c.at-at.result found c.at-at.ensures c.if-at-ne0.true

pub returns-then-at-eq0 : goal.returns-then-at-eq0
returns-then-at-eq0 c limits fs s e =
    let f = c.args.frame.now in
    let says = ap view.script c.deref.ensures ∙ c.script-script.ensures in
    let l = c.in-Some.list.now in
    let found = list_found c.deref.result.now c.deref-2.result.now c.at-at.result f says c.deref-2.ensures.value c.at-at.ensures l c.in-Some.ensures.lookup.3.0 c.in-Some.ensures.lookup.1 in
    script_first limits fs s f _ l c.at-at.result found c.at-at.ensures c.if-at-ne0.false c.if-at-eq0.true

pub returns-then-goes : goal.returns-then-goes
returns-then-goes c limits fs s e =
    let f = c.args.frame.now in
    let says = ap view.script c.deref.ensures ∙ c.script-script.ensures in
    let l = c.in-Some.list.now in
    let found = list_found c.deref.result.now c.deref-2.result.now c.at-at.result f says c.deref-2.ensures.value c.at-at.ensures l c.in-Some.ensures.lookup.3.0 c.in-Some.ensures.lookup.1 in
    let p = c.in-Some-get.field-0.now in
    script_join limits fs s f _ l c.at-at.result found c.at-at.ensures c.if-at-ne0.false c.deref-3.result.now c.deref-3.ensures.value c.if-at-eq0.false p c.in-Some-get.ensures.lookup.3.0 c.in-Some-get.ensures.lookup.1 (ap (goes p.0) e ∙ sym c.goes.ensures ∙ c.if-goes.true)

pub returns-else-goes : goal.returns-else-goes
returns-else-goes c limits fs s e =
    let f = c.args.frame.now in
    let says = ap view.script c.deref.ensures ∙ c.script-script.ensures in
    let l = c.in-Some.list.now in
    let found = list_found c.deref.result.now c.deref-2.result.now c.at-at.result f says c.deref-2.ensures.value c.at-at.ensures l c.in-Some.ensures.lookup.3.0 c.in-Some.ensures.lookup.1 in
    let p = c.in-Some-get.field-0.now in
    script_passed limits fs s f _ l c.at-at.result found c.at-at.ensures c.if-at-ne0.false c.deref-3.result.now c.deref-3.ensures.value c.if-at-eq0.false p c.in-Some-get.ensures.lookup.3.0 c.in-Some-get.ensures.lookup.1 (ap (goes p.0) e ∙ sym c.goes.ensures ∙ c.if-goes.false)

pub returns-in-None : goal.returns-in-None
returns-in-None c limits fs s e =
    let f = c.args.frame.now in
    let says = ap view.script c.deref.ensures ∙ c.script-script.ensures in
    let l = c.in-Some.list.now in
    let found = list_found c.deref.result.now c.deref-2.result.now c.at-at.result f says c.deref-2.ensures.value c.at-at.ensures l c.in-Some.ensures.lookup.3.0 c.in-Some.ensures.lookup.1 in
    script_end limits fs s f _ l c.at-at.result found c.at-at.ensures c.if-at-ne0.false c.deref-3.result.now c.deref-3.ensures.value c.if-at-eq0.false c.in-None.ensures.lookup.3
