use Rattle.std.proofs.Common.{rules, ◌≡◌, ◌∙◌, false, map, sym}
use Rattle.envimage.specs.Entries.{pair_at}
use Rattle.rehearse_boots.specs.Expecting.{is_left}
use Rattle.rehearse_states.specs.RowsShown.{value_shown}
use Rattle.rehearse_boots.proofs.AnswerLemmas.{mapped_fails}
use Rattle.rehearse_boots.proofs.way.are_left.Goals as goal

pub returns-then-not-is_left : goal.returns-then-not-is_left
returns-then-not-is_left c =
    let other : c.is_left.result ≡ false = search rules in
    sym (mapped_fails (is_left (map (λ n. n.now) c.args.names.now) (map value_shown c.args.values.now)) pair_at c.args.expected.now c.loop-pair.pair-index _ c.loop-pair-test.true (sym c.is_left.ensures ∙ other))
