use Rattle.std.proofs.Common.{◌∙◌}
use Rattle.hushlang.specs.TreesShown as view
use Rattle.hushcheck.specs.Calls.{after_value}
use Rattle.hushcheck.proofs.CallsLemmas.{fold_all, fold_map}
use Rattle.hushcheck.proofs.calls.read_values.Goals as goal

pub returns : goal.returns
returns c =
    fold_all (λ q v. after_value q (view.value v)) c.args.reading.now c.loop-name.reading c.args.values.now c.loop-name.name-index c.loop-name-test.false c.loop-name.invariant
    ∙ fold_map after_value view.value c.args.reading.now c.args.values.now
