use Rattle.std.proofs.Common.{◌≡◌, ℕ, List, [], Option, Some, None, option_map, ap, sym, subst, refl, ◌∙◌}
use Rattle.text.specs.TextsShown.{bytes_of_words}
use Rattle.device_list.specs.Called.{other_called}
use Rattle.commands.specs.BuiltInCommands.{carried}
use Rattle.device_list.specs.CommandsShown.{lent_effect}
use Rattle.commands.specs.ComputedShown.{computed_shown, call_shown}
use Rattle.device_list.specs.DeviceList.{Effect, computed_by, effect_of}
use Rattle.bootstore_state.specs.StoredState.{state_at}
use Rattle.rehearse_rules.specs.Execution.{request_of}
use Rattle.rehearse_rules.specs.Needs.{effect_now}
use Rattle.rehearse_machine.specs.Places.{place_ask}
use Rattle.rehearse_machine.specs.MovesShown.{Comes, limits_of}
use Rattle.rehearse_machine.proofs.CommandMoves.{change_does, device_comes, other_computed, other_listed}
use Rattle.rehearse_machine.proofs.simple.run_other.Goals as goal

pub returns-in-Some : goal.returns-in-Some
returns-in-Some g c again script =
    let devices = c.args.devices.now in
    let name = c.args.name.now in
    let words = bytes_of_words c.args.words.now in
    let does = computed_shown c.in-Some.computed in
    let is : computed_by devices name words ≡ Some does = sym c.computed.ensures ∙ ap call_shown c.in-Some.is in
    change_does (limits_of devices c.args.bounds) again (g.S.Store.record_of c.args.store.now) (g.S.Store.record_of c.carry_out.new.store) name words script (other_called devices name words) words (λ ws. carried does)
    (other_computed devices name words does is) refl c.in_ok-carry_out.ensures

pub returns-in-Some-effect_near : goal.returns-in-Some-effect_near
returns-in-Some-effect_near g c again script =
    let devices = c.args.devices.now in
    let name = c.args.name.now in
    let words = bytes_of_words c.args.words.now in
    let effect = lent_effect c.in-Some-effect_near.listed in
    let none : computed_by devices name words ≡ None = sym c.computed.ensures ∙ ap call_shown c.in_default.is in
    let listed : Some effect ≡ effect_of devices name words = sym (ap (option_map lent_effect) c.in-Some-effect_near.is) ∙ c.effect_near.ensures in
    let old = g.S.Store.record_of c.args.store.now in
    let new = g.S.Store.record_of c.ask.new.store in
    let now : lent_effect c.effect_now-effect.result ≡ effect_now c.args.bounds.room (state_at old.present []) effect =
    c.effect_now-effect.ensures ∙ ap (λ (room : Option ℕ). effect_now room (state_at old.present []) effect) c.room.ensures in
    device_comes (limits_of devices c.args.bounds) again (g.S.Store.record_of c.args.store.now) (g.S.Store.record_of c.ask.new.store) name words script c.ask.result (other_called devices name words) effect
    (other_listed devices name words (Some effect) none listed)
    (subst (λ (x : Effect). Comes c.ask.result old new (place_ask (limits_of devices c.args.bounds) (request_of name words x) old.present.frames)) now (c.ask.ensures devices))
