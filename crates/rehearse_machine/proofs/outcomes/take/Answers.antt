use Rattle.std.proofs.Common.{refl, ap, ◌∙◌, [], ◌∷◌, ◌≡◌, Bool, true, false, map, if◌then◌else◌}
use Rattle.text.specs.TextsShown.{bytes_of_words}
use Rattle.bootstore_state.proofs.TableLemmas.{clone_text}
use Rattle.device_list.specs.Called.{sets_in}
use Rattle.device_list.specs.DevicesShown.{setting_shown}
use Rattle.rehearse_terms.specs.State.{Text, LoggedCommand}
use Rattle.bootstore_state.specs.StoredState.{state_at}
use Rattle.rehearse_rules.specs.Execution.{succeeds}
use Rattle.rehearse_machine.specs.MovesShown.{request_shown}
use Rattle.rehearse_rules.specs.declared.halt.Halt.TheVariants as halts
use Rattle.rehearse_machine.specs.declared.ask.Step.TheVariants as steps
use Rattle.rehearse_machine.proofs.OutcomeLemmas.{logged_state, logged_frames, logged_keeps, success_does, failure_does, finished, stayed, after_failure, after_success}
use Rattle.rehearse_machine.proofs.outcomes.take.Goals as goal

pub returns-then-not-success : goal.returns-then-not-success
returns-then-not-success g c outcome is =
    let request = request_shown c.args.ask in
    let old = g.S.Store.record_of c.args.store.now in
    let set = g.S.Store.record_of c.set_all.new.store in
    let mid = g.S.Store.record_of c.device.new.self in
    let late = g.S.Store.record_of c.set_status.new.self in
    let entry : LoggedCommand = record { success = c.args.success; words = bytes_of_words c.insert.new.self.items; stays = c.args.ask.effect.stays; again = c.args.ask.again } in
    let name = clone_text c.args.ask.name c.in_ok-clone.field-0 c.in_ok-clone.ensures.cases.0 in
    let words : entry.words ≡ request.name ∷ request.words = ap bytes_of_words c.in_ok-insert.ensures.items ∙ ap (λ (x : Text). x ∷ bytes_of_words c.args.ask.words.items) name in
    let succeeds_is : succeeds outcome ≡ false = is ∙ c.if-not-success.true in
    let code = after_failure outcome request succeeds_is in
    let on : c.sets_on.result.now ≡ [] = c.sets_on.ensures ∙ ap (λ (b : Bool). if b then c.args.ask.effect.sets.now else []) c.if-not-success.true in
    let sets = sets_in (bytes_of_words c.deref.result.now) (map setting_shown c.sets_on.result.now) in
    let are : sets ≡ [] = (λ i. sets_in (bytes_of_words c.deref.result.now) (map setting_shown (on i))) in
    failure_does outcome request old set late sets c.in_ok-set_all.ensures
    (logged_state outcome request set mid late entry words refl refl is c.in_ok-device.ensures.ok c.args.ask.statuses.failure code c.in_ok-set_status.ensures.ok)
    (logged_frames outcome request set mid late entry words refl refl is c.in_ok-device.ensures.ok c.args.ask.statuses.failure code c.in_ok-set_status.ensures.ok)
    (logged_keeps outcome request set mid late entry words refl refl is c.in_ok-device.ensures.ok c.args.ask.statuses.failure code c.in_ok-set_status.ensures.ok)
    are succeeds_is

pub returns-in-Some : goal.returns-in-Some
returns-in-Some g c outcome is =
    let request = request_shown c.args.ask in
    let old = g.S.Store.record_of c.args.store.now in
    let set = g.S.Store.record_of c.set_all.new.store in
    let mid = g.S.Store.record_of c.device.new.self in
    let late = g.S.Store.record_of c.set_status-2.new.self in
    let entry : LoggedCommand = record { success = c.args.success; words = bytes_of_words c.insert.new.self.items; stays = c.args.ask.effect.stays; again = c.args.ask.again } in
    let name = clone_text c.args.ask.name c.in_ok-clone.field-0 c.in_ok-clone.ensures.cases.0 in
    let words : entry.words ≡ request.name ∷ request.words = ap bytes_of_words c.in_ok-insert.ensures.items ∙ ap (λ (x : Text). x ∷ bytes_of_words c.args.ask.words.items) name in
    let succeeds_is : succeeds outcome ≡ true = is ∙ c.if-not-success.false in
    let code = after_success outcome request succeeds_is in
    let on : c.sets_on.result.now ≡ c.args.ask.effect.sets.now = c.sets_on.ensures ∙ ap (λ (b : Bool). if b then c.args.ask.effect.sets.now else []) c.if-not-success.false in
    let sets = sets_in (bytes_of_words c.deref.result.now) (map setting_shown c.sets_on.result.now) in
    let are : sets ≡ sets_in request.words request.effect.sets = (λ i. sets_in (bytes_of_words (c.deref.ensures.value i)) (map setting_shown (on i))) in
    success_does outcome request old set late sets c.in_ok-set_all.ensures
    (logged_state outcome request set mid late entry words refl refl is c.in_ok-device.ensures.ok c.args.ask.statuses.success code c.in_ok-set_status-2.ensures.ok)
    (logged_frames outcome request set mid late entry words refl refl is c.in_ok-device.ensures.ok c.args.ask.statuses.success code c.in_ok-set_status-2.ensures.ok)
    (logged_keeps outcome request set mid late entry words refl refl is c.in_ok-device.ensures.ok c.args.ask.statuses.success code c.in_ok-set_status-2.ensures.ok)
    (steps.Ends (halts.Finished c.in-Some.finish c.args.ask.name)) are succeeds_is
    (λ w. finished request.effect.ends c.in-Some.finish request.name late.present.frames (state_at late.present w) c.in-Some.is)

pub returns : goal.returns
returns g c outcome is =
    let request = request_shown c.args.ask in
    let old = g.S.Store.record_of c.args.store.now in
    let set = g.S.Store.record_of c.set_all.new.store in
    let mid = g.S.Store.record_of c.device.new.self in
    let late = g.S.Store.record_of c.set_status-2.new.self in
    let entry : LoggedCommand = record { success = c.args.success; words = bytes_of_words c.insert.new.self.items; stays = c.args.ask.effect.stays; again = c.args.ask.again } in
    let name = clone_text c.args.ask.name c.in_ok-clone.field-0 c.in_ok-clone.ensures.cases.0 in
    let words : entry.words ≡ request.name ∷ request.words = ap bytes_of_words c.in_ok-insert.ensures.items ∙ ap (λ (x : Text). x ∷ bytes_of_words c.args.ask.words.items) name in
    let succeeds_is : succeeds outcome ≡ true = is ∙ c.if-not-success.false in
    let code = after_success outcome request succeeds_is in
    let on : c.sets_on.result.now ≡ c.args.ask.effect.sets.now = c.sets_on.ensures ∙ ap (λ (b : Bool). if b then c.args.ask.effect.sets.now else []) c.if-not-success.false in
    let sets = sets_in (bytes_of_words c.deref.result.now) (map setting_shown c.sets_on.result.now) in
    let are : sets ≡ sets_in request.words request.effect.sets = (λ i. sets_in (bytes_of_words (c.deref.ensures.value i)) (map setting_shown (on i))) in
    success_does outcome request old set late sets c.in_ok-set_all.ensures
    (logged_state outcome request set mid late entry words refl refl is c.in_ok-device.ensures.ok c.args.ask.statuses.success code c.in_ok-set_status-2.ensures.ok)
    (logged_frames outcome request set mid late entry words refl refl is c.in_ok-device.ensures.ok c.args.ask.statuses.success code c.in_ok-set_status-2.ensures.ok)
    (logged_keeps outcome request set mid late entry words refl refl is c.in_ok-device.ensures.ok c.args.ask.statuses.success code c.in_ok-set_status-2.ensures.ok)
    steps.Going are succeeds_is
    (λ w. stayed request.effect.ends request.name late.present.frames (state_at late.present w) c.in_default.is)
