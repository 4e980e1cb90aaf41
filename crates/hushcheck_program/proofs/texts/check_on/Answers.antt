use Rattle.std.proofs.Common.{◌≡◌, ◌∙◌, ap, subst, List, map, option_map, Option}
use Rattle.board_start.specs.BoardShown.{board_shown}
use Rattle.device_list.specs.DeviceList.{Devices}
use Rattle.hushcheck.specs.Names.{Text}
use Rattle.hushcheck.specs.Report.{asked_names}
use Rattle.hushcheck.specs.Rules.{Rules, held_to}
use Rattle.hushcheck_program.specs.Checking.{ChecksBy, behind_first}
use Rattle.hushcheck_program.specs.Shown.{script_shown}
use Rattle.hushcheck_program.proofs.texts.check_on.Goals as goal

pub returns : goal.returns
returns g c =
    let on = option_map board_shown c.args.board.now in
    let env = c.args.env.now in
    let old = g.O.Out.sink c.args.out.now in
    let new = g.O.Out.sink c.check_by.new.out in
    let read = held_to (option_map (λ d. d.now) c.devices_of.result) c.args.shell c.args.strict in
    let held : read ≡ held_to (option_map (λ b. b.devices) on) c.args.shell c.args.strict =
    ap (λ (d : Option Devices). held_to d c.args.shell c.args.strict) c.devices_of.ensures in
    let names : map (λ n. n.now) c.deref.result.now ≡ behind_first on env (map (λ n. n.now) c.args.names.now) =
    ap (map (λ n. n.now)) c.deref.ensures.value ∙ c.in-Ok.ensures in
    let named = subst (λ (ns : List Text). ChecksBy read env (script_shown c.args.script) (asked_names c.args.all env ns) old new c.check_by.result) names c.check_by.ensures in
    subst (λ (rs : Rules). ChecksBy rs env (script_shown c.args.script) (asked_names c.args.all env (behind_first on env (map (λ n. n.now) c.args.names.now))) old new c.check_by.result) held named
