use Rattle.std.proofs.Common.{ap, sym, ◌∙◌}
use Rattle.std.specs.Prelude.{option_map}
use Rattle.text.specs.TextsShown.{bytes_of_words}
use Rattle.builtins.specs.BuiltinsShown.{builtin_shown}
use Rattle.commands.specs.ComputedShown.{call_shown}
use Rattle.device_list.specs.CommandsShown.{lent_effect}
use Rattle.rehearse_machine.specs.MovesShown.{limits_of}
use Rattle.rehearse_reports.specs.ReportsShown.{accesses_shown}
use Rattle.rehearse_reports.proofs.NamedLemmas.{call_builtin, call_listed, call_unknown}
use Rattle.rehearse_reports.proofs.calls.report_named.Goals as goal

pub returns-in-Some-builtin : goal.returns-in-Some-builtin
returns-in-Some-builtin c again s =
    call_builtin (limits_of c.args.devices.now c.args.bounds) again c.args.name.now (bytes_of_words c.args.words.now) s (sym c.computed.ensures ∙ ap call_shown c.in_default.is) c.report_builtin.result (accesses_shown c.args.reported.now) (accesses_shown c.report_builtin.new.reported) (builtin_shown c.in-Some-builtin.builtin)
    (sym c.requires ∙ ap (option_map builtin_shown) c.in-Some-builtin.is) (c.report_builtin.ensures again s)

pub returns-in-Some-effect : goal.returns-in-Some-effect
returns-in-Some-effect c again s =
    let limits = limits_of c.args.devices.now c.args.bounds in
    let words = bytes_of_words c.args.words.now in
    let effect = lent_effect c.in-Some-effect.effect in
    call_listed limits again c.args.name.now words s (sym c.computed.ensures ∙ ap call_shown c.in_default.is) c.report_listed.result (accesses_shown c.args.reported.now) (accesses_shown c.report_listed.new.reported) effect
    (sym c.requires ∙ ap (option_map builtin_shown) c.in_default-builtin.is) (sym c.effect.ensures ∙ ap (option_map lent_effect) c.in-Some-effect.is) (c.report_listed.ensures limits s)

pub returns-in-None : goal.returns-in-None
returns-in-None c again s =
    call_unknown (limits_of c.args.devices.now c.args.bounds) again c.args.name.now (bytes_of_words c.args.words.now) s (sym c.computed.ensures ∙ ap call_shown c.in_default.is) (accesses_shown c.args.reported.now)
    (sym c.requires ∙ ap (option_map builtin_shown) c.in_default-builtin.is) (sym c.effect.ensures ∙ ap (option_map lent_effect) c.in-None.is)
