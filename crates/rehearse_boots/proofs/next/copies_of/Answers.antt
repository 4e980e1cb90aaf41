use Rattle.std.proofs.Common.{◌-◌, ap, arith, drop, length, map, sym, ◌∙◌}
use Rattle.std.proofs.lemmas.List.{drop-map, length-drop, take_all}
use Rattle.rehearse_states.specs.RowsShown.{value_shown}
use Rattle.rehearse_boots.proofs.next.copies_of.Goals as goal

pub returns-then-count-values : goal.returns-then-count-values
returns-then-count-values c =
    let values = c.args.values.now in
    let long = length-drop c.args.count values in
    ap (map value_shown) (take_all (length values - c.args.count) (drop c.args.count values) (omega (arith, long))) ∙ sym (drop-map value_shown c.args.count values)
