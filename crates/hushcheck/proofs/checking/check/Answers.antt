use Rattle.std.proofs.Common.{ap, map}
use Rattle.hushcheck.proofs.ScriptLemmas.{none-behind}
use Rattle.hushcheck.specs.UsedShown.{all_used}
use Rattle.hushcheck.proofs.checking.check.Goals as goal

pub returns : goal.returns
returns g c =
    none-behind c.args.rules.now c.args.env.now (all_used c.new-used.result.items) (map (λ name. name.now) c.args.asked.now) c.are_set-so_far.result c.check_names.result (g.O.Out.sink c.args.out.now) (g.O.Out.sink c.check_names.new.out)
    c.are_set-so_far.ensures (ap all_used c.new-used.ensures.items) c.check_names.ensures
