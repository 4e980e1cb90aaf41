use Rattle.std.proofs.Common.{ap, sym, None}
use Rattle.device_list.specs.DeviceList.{further_of}
use Rattle.device_list.specs.CommandsShown.{line_shown, lines_shown, calls_shown}
use Rattle.device_list.proofs.MapLemmas.{looked_up}
use Rattle.device_list.proofs.FurtherLemmas.{further-table}
use Rattle.device_list.proofs.device_tables.add_further.Goals as goal

pub returns-in-Some : goal.returns-in-Some
returns-in-Some c =
    further-table c.args.calls.now.entries _ c.args.call.name.now (line_shown c.args.call.line) c.in-Some.lines.now c.go_on.new.lines c.in_ok-before.before
    (sym c.in-Some.ensures.value) (c.get_mut.follows.holds c.go_on.new.lines).0 c.in_ok-before.ensures

pub returns : goal.returns
returns c =
    ap (further_of (calls_shown c.args.calls.now.entries) c.args.call.name.now (line_shown c.args.call.line)) (looked_up lines_shown c.args.calls.now.entries c.args.call.name.now None (sym c.in_default.ensures.value))
