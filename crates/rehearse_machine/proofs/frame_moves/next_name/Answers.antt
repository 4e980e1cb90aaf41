use Rattle.std.proofs.Common.{ap, ◌∙◌, refl, sym, subst}
use Rattle.bootstore_state.specs.Record.{Record}
use Rattle.bootstore_state.specs.Scripts.{text_found}
use Rattle.bootstore_state.specs.declared.frame.At.{At}
use Rattle.bootstore_state.proofs.TableLemmas.{clone_text}
use Rattle.rehearse_rules.specs.EndingsShown.{halt_shown}
use Rattle.rehearse_rules.specs.declared.halt.Halt.TheVariants as halts
use Rattle.rehearse_machine.specs.MovesShown.{IsTop}
use Rattle.rehearse_machine.proofs.WordLemmas.{word_some}
use Rattle.rehearse_machine.proofs.NameLemmas.{unset_found, fails_found, panics_found, unread_found, text_found_comes}
use Rattle.rehearse_machine.proofs.frame_moves.next_name.Goals as goal

pub returns-in_ok-set_status-in-Unset : goal.returns-in_ok-set_status-in-Unset
returns-in_ok-set_status-in-Unset g c top =
    let old = g.S.Store.record_of c.args.store.now in
    let f = c.args.frame.now in
    let found = word_some c.words.result.now f.words c.at-at.result.turn f.place.turn c.in-Some.name.now c.words.ensures (ap (λ (x : At). x.turn) c.at-at.ensures) c.in-Some.ensures.lookup.3.0 c.in-Some.ensures.lookup.1 in
    unset_found c.args.shell old (g.S.Store.record_of c.text_of.new.self) c.in_ok-text_of.ensures.same f c.in-Some.name.now.items c.deref.result.now found c.deref.ensures.value
    (g.S.Store.record_of c.pop.new.self) (g.S.Store.record_of c.set_status.new.self) c.in_ok-pop-in-Unset.ensures.ok c.in_ok-set_status-in-Unset.ensures.ok
    (sym (ap text_found c.in-Unset.is) ∙ c.in_ok-text_of.ensures.found)

pub returns-in_ok-set_status-in-Fails : goal.returns-in_ok-set_status-in-Fails
returns-in_ok-set_status-in-Fails g c top =
    let old = g.S.Store.record_of c.args.store.now in
    let f = c.args.frame.now in
    let found = word_some c.words.result.now f.words c.at-at.result.turn f.place.turn c.in-Some.name.now c.words.ensures (ap (λ (x : At). x.turn) c.at-at.ensures) c.in-Some.ensures.lookup.3.0 c.in-Some.ensures.lookup.1 in
    fails_found c.args.shell old (g.S.Store.record_of c.text_of.new.self) c.in_ok-text_of.ensures.same f c.in-Some.name.now.items c.deref.result.now found c.deref.ensures.value
    (g.S.Store.record_of c.pop-in-Fails.new.self) (g.S.Store.record_of c.set_status-in-Fails.new.self) c.in_ok-pop-in-Fails.ensures.ok c.in_ok-set_status-in-Fails.ensures.ok
    (sym (ap text_found c.in-Fails.is) ∙ c.in_ok-text_of.ensures.found)

pub returns-in_ok-clone-in-Panics : goal.returns-in_ok-clone-in-Panics
returns-in_ok-clone-in-Panics g c top =
    let old = g.S.Store.record_of c.args.store.now in
    let f = c.args.frame.now in
    let found = word_some c.words.result.now f.words c.at-at.result.turn f.place.turn c.in-Some.name.now c.words.ensures (ap (λ (x : At). x.turn) c.at-at.ensures) c.in-Some.ensures.lookup.3.0 c.in-Some.ensures.lookup.1 in
    panics_found c.args.shell old (g.S.Store.record_of c.text_of.new.self) c.in_ok-text_of.ensures.same f c.in-Some.name.now.items c.deref.result.now found c.deref.ensures.value
    c.in_ok-clone-in-Panics.field-0.items (halt_shown (halts.Panic c.in_ok-clone-in-Panics.field-0)) refl (clone_text c.in-Some.name.now c.in_ok-clone-in-Panics.field-0 c.in_ok-clone-in-Panics.ensures.cases.0)
    (sym (ap text_found c.in-Panics.is) ∙ c.in_ok-text_of.ensures.found)

pub returns-in_ok-clone-in-Unread : goal.returns-in_ok-clone-in-Unread
returns-in_ok-clone-in-Unread g c top =
    let old = g.S.Store.record_of c.args.store.now in
    let f = c.args.frame.now in
    let found = word_some c.words.result.now f.words c.at-at.result.turn f.place.turn c.in-Some.name.now c.words.ensures (ap (λ (x : At). x.turn) c.at-at.ensures) c.in-Some.ensures.lookup.3.0 c.in-Some.ensures.lookup.1 in
    unread_found c.args.shell old (g.S.Store.record_of c.text_of.new.self) c.in_ok-text_of.ensures.same f c.in-Some.name.now.items c.deref.result.now found c.deref.ensures.value
    c.in_ok-clone-in-Unread.field-0.items (halt_shown c.unread.result) c.unread.ensures (clone_text c.in-Some.name.now c.in_ok-clone-in-Unread.field-0 c.in_ok-clone-in-Unread.ensures.cases.0)
    (sym (ap text_found c.in-Unread.is) ∙ c.in_ok-text_of.ensures.found)

pub returns-in-Script : goal.returns-in-Script
returns-in-Script g c top =
    let old = g.S.Store.record_of c.args.store.now in
    let f = c.args.frame.now in
    let found = word_some c.words.result.now f.words c.at-at.result.turn f.place.turn c.in-Some.name.now c.words.ensures (ap (λ (x : At). x.turn) c.at-at.ensures) c.in-Some.ensures.lookup.3.0 c.in-Some.ensures.lookup.1 in
    text_found_comes c.args.shell old (g.S.Store.record_of c.text_of.new.self) c.in_ok-text_of.ensures.same f c.in-Some.name.now.items c.deref.result.now found c.deref.ensures.value
    c.begin_text.result (g.S.Store.record_of c.begin_text.new.store) _ (sym (ap text_found c.in-Script.is) ∙ c.in_ok-text_of.ensures.found) (c.begin_text.ensures (subst (λ (r : Record). IsTop f r.present) (sym c.in_ok-text_of.ensures.same) top))
