use Rattle.std.proofs.Common.{ap, ◌∙◌, sym, ◌≡◌, ℕ, suc, add-one}
use Rattle.hushlang.specs.TreesShown as view
use Rattle.bootstore_state.specs.declared.frame.At.{At}
use Rattle.rehearse_machine.specs.Places.{place, place_begins}
use Rattle.rehearse_machine.proofs.ListLemmas.{first_begins, list_ends, join_begins, join_skipped, skips_one, skips_list}
use Rattle.rehearse_rules.specs.Execution.{goes}
use Rattle.rehearse_rules.specs.ByShell.{skips_rest}
use Rattle.rehearse_machine.proofs.lists.begin_in_list.Goals as goal

pub returns-then-at-eq0-clause-next : goal.returns-then-at-eq0-clause-next
returns-then-at-eq0-clause-next c limits fs s own e =
    let f = c.args.frame.now in
    let zero_is : f.place.command ≡ 0 = ap (λ (x : At). x.command) (sym c.at-at.ensures) ∙ c.if-at-eq0.true in
    c.begin_command.ensures.next limits fs s own e ∙ first_begins limits c.args.list.now f.place.command f fs s zero_is

pub returns-in_default-clause-next : goal.returns-in_default-clause-next
returns-in_default-clause-next c limits fs s own e =
    let f = c.args.frame.now in
    let l = c.args.list.now in
    let there = ap (λ (m : ℕ). place_begins limits (view.list l) m f fs s) (ap (λ (x : At). x.command) c.at-at.ensures) in
    let place_is = c.place.ensures ∙ ap (λ (x : ℕ). place x 0 0 0) (add-one c.at-at.result.list) ∙ ap (λ (x : At). place (suc x.list) 0 0 0) c.at-at.ensures in
    list_ends limits l c.at-at.result.command f fs s c.deref.result.now c.deref.ensures.value c.if-at-eq0.false c.place.result c.in_default.ensures.lookup.3 place_is ∙ there

pub returns-then-goes-clause-next : goal.returns-then-goes-clause-next
returns-then-goes-clause-next c limits fs s own e =
    let f = c.args.frame.now in
    let l = c.args.list.now in
    let there = ap (λ (m : ℕ). place_begins limits (view.list l) m f fs s) (ap (λ (x : At). x.command) c.at-at.ensures) in
    let p = c.in-Some.field-0.now in
    c.begin_command-then-goes.ensures.next limits fs s own e
    ∙ join_begins limits l c.at-at.result.command f fs s c.deref.result.now c.deref.ensures.value c.if-at-eq0.false p c.in-Some.ensures.lookup.3.0 c.in-Some.ensures.lookup.1
    (ap (goes p.0) e ∙ sym c.goes.ensures ∙ c.if-goes.true) ∙ there

pub returns-then-skips_rest-clause-next : goal.returns-then-skips_rest-clause-next
returns-then-skips_rest-clause-next c limits fs s own e =
    let f = c.args.frame.now in
    let l = c.args.list.now in
    let there = ap (λ (m : ℕ). place_begins limits (view.list l) m f fs s) (ap (λ (x : At). x.command) c.at-at.ensures) in
    let p = c.in-Some.field-0.now in
    let place_is = c.place-then-skips_rest.ensures ∙ ap (λ (x : ℕ). place x 0 0 0) (add-one c.at-at.result.list) ∙ ap (λ (x : At). place (suc x.list) 0 0 0) c.at-at.ensures in
    let skips = ap skips_rest own ∙ sym c.skips_rest.ensures ∙ c.if-skips_rest.true in
    join_skipped limits l c.at-at.result.command f fs s c.deref.result.now c.deref.ensures.value c.if-at-eq0.false p c.in-Some.ensures.lookup.3.0 c.in-Some.ensures.lookup.1 c.place-then-skips_rest.result
    (ap (goes p.0) e ∙ sym c.goes.ensures ∙ c.if-goes.false) (skips_list limits f fs s c.place-then-skips_rest.result skips place_is) ∙ there

pub returns-else-skips_rest-clause-next : goal.returns-else-skips_rest-clause-next
returns-else-skips_rest-clause-next c limits fs s own e =
    let f = c.args.frame.now in
    let l = c.args.list.now in
    let there = ap (λ (m : ℕ). place_begins limits (view.list l) m f fs s) (ap (λ (x : At). x.command) c.at-at.ensures) in
    let p = c.in-Some.field-0.now in
    let place_is = c.behind.ensures ∙ ap (λ (x : At). place x.list (suc x.command) 0 0) c.at-at.ensures in
    let goes_on = ap skips_rest own ∙ sym c.skips_rest.ensures ∙ c.if-skips_rest.false in
    join_skipped limits l c.at-at.result.command f fs s c.deref.result.now c.deref.ensures.value c.if-at-eq0.false p c.in-Some.ensures.lookup.3.0 c.in-Some.ensures.lookup.1 c.behind.result
    (ap (goes p.0) e ∙ sym c.goes.ensures ∙ c.if-goes.false) (skips_one limits f fs s c.behind.result goes_on place_is) ∙ there
