use Rattle.std.proofs.Common.{◌∷◌}
use Rattle.rehearse_machine.specs.MovesShown.{limits_of}
use Rattle.text.specs.TextsShown.{bytes_of_words}
use Rattle.rehearse_reports.specs.ReportsShown.{accesses_shown}
use Rattle.rehearse_reports.proofs.NamedLemmas.{call_here, fields_none, fields_unfollowed, fields_followed}
use Rattle.rehearse_reports.proofs.calls.report_fields.Goals as goal

pub returns-in_default : goal.returns-in_default
returns-in_default c again s = fields_none (limits_of c.args.devices.now c.args.bounds) again s (accesses_shown c.args.reported.now) c.args.fields.now c.in_default.ensures.cases

pub returns-then-not-follows : goal.returns-then-not-follows
returns-then-not-follows c again s =
    fields_unfollowed (limits_of c.args.devices.now c.args.bounds) again s c.args.fields.now c.in-Some.name.now c.in-Some.words.now c.in-Some.ensures.cases.0 c.shell-2.result c.shell-2.ensures c.call_in-call.result.name.now (bytes_of_words c.call_in-call.result.words.now)
    (call_here c.shell.result c.args.bounds.shell c.shell.ensures c.deref.result.now c.in-Some.name.now.items c.deref.ensures.value (c.call_in-call.result.name.now ∷ bytes_of_words c.call_in-call.result.words.now) (bytes_of_words c.in-Some.words.now) c.call_in-call.ensures.call)
    (accesses_shown c.args.reported.now) c.if-not-follows.ensures

pub returns : goal.returns
returns c again s =
    fields_followed (limits_of c.args.devices.now c.args.bounds) again s c.args.fields.now c.in-Some.name.now c.in-Some.words.now c.in-Some.ensures.cases.0 c.shell-2.result c.shell-2.ensures c.call_in-call.result.name.now (bytes_of_words c.call_in-call.result.words.now)
    (call_here c.shell.result c.args.bounds.shell c.shell.ensures c.deref.result.now c.in-Some.name.now.items c.deref.ensures.value (c.call_in-call.result.name.now ∷ bytes_of_words c.call_in-call.result.words.now) (bytes_of_words c.in-Some.words.now) c.call_in-call.ensures.call)
    c.report_named.result (accesses_shown c.args.reported.now) (accesses_shown c.report_named.new.reported) c.if-not-follows.ensures (c.report_named.ensures again s)
