use Rattle.std.proofs.Common.{refl, map, option_map, Ok}
use Rattle.board_start.specs.BoardShown.{board_shown}
use Rattle.hushcheck.specs.Rules.{held_to}
use Rattle.hushcheck_program.specs.Checking.{given, list_in}
use Rattle.hushcheck_program.specs.Shown.{list_shown, script_shown}
use Rattle.hushcheck_program.proofs.CheckLemmas.{texts-by}
use Rattle.hushcheck_program.proofs.texts.check_env.Goals as goal

pub returns : goal.returns
returns g c =
    let all = given (Ok c.args.env) (list_in (list_shown c.args.list)) (script_shown c.args.script) (map (λ n. n.now) c.args.names.now) c.args.all c.args.shell c.args.strict in
    let board = option_map board_shown c.in_ok-board.board in
    let rules = held_to (option_map (λ b. b.devices) board) c.args.shell c.args.strict in
    texts-by all c.args.env c.in-Ok.env board rules (g.O.Out.sink c.args.out.now) (g.O.Out.sink c.check_on.new.out) refl c.in_ok-board.ensures refl c.in-Ok.ensures c.check_on.result c.check_on.ensures
