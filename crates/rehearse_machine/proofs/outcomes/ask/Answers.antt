use Rattle.std.proofs.Common.{subst, ◌≡◌, sym, ap, ◌∙◌, Some, false, length, arith, is_some}
use Rattle.text.specs.TextsShown.{bytes_of_words}
use Rattle.device_list.specs.CommandsShown.{lent_effect}
use Rattle.rehearse_rules.specs.Execution.{Request, request_of, outcome_when, told}
use Rattle.rehearse_machine.specs.MovesShown.{limits_of, Comes, request_shown}
use Rattle.rehearse_machine.specs.Places.{place_answered}
use Rattle.rehearse_machine.proofs.ToldLemmas.{outcome_succeeds, room_for, ask_comes, told_comes}
use Rattle.rehearse_machine.proofs.outcomes.ask.Goals as goal

pub returns-in-Some : goal.returns-in-Some
returns-in-Some g c devices =
    let old = g.S.Store.record_of c.args.store.now in
    let new = g.S.Store.record_of c.answer.new.store in
    let request : Request = record { name = c.args.name.now; words = bytes_of_words c.args.words.now; effect = lent_effect c.args.effect; again = false; on_success = c.args.statuses.success; on_failure = c.args.statuses.failure } in
    let success = c.in-Some.success in
    let room = room_for (length old.present.log) c.args.bounds.devices (omega (arith, c.if-asked-devices.false, ap length c.log-asked.ensures, c.devices.ensures.devices)) in
    let is : told request old.present.log ≡ Some success =
    sym (c.told-answered.ensures ∙ (λ i. told (request_of c.args.name.now (bytes_of_words c.args.words.now) (lent_effect c.args.effect)) old.present.log)) ∙ c.in-Some.is in
    let same : request_shown (record { name = c.in_ok-from_slice.field-0; words = c.in_ok-copied_words.field-0; effect = c.args.effect; again = c.is_some.result; statuses = c.args.statuses }) ≡ record request { again = c.is_some.result } =
    (λ i. record { name = c.in_ok-from_slice.ensures.items i; words = c.in_ok-copied_words.ensures i; effect = lent_effect c.args.effect; again = c.is_some.result; on_success = c.args.statuses.success; on_failure = c.args.statuses.failure }) in
    ask_comes (limits_of devices c.args.bounds) request c.answer.result old new (Some success) room is
    (told_comes request c.is_some.result success c.answer.result old new (c.is_some.ensures ∙ ap is_some c.in-Some.is) (subst (λ (q : Request). Comes c.answer.result old new (place_answered (outcome_when success) q old.present.frames)) same (c.answer.ensures (outcome_when success) (outcome_succeeds success))))
