use Rattle.std.proofs.Common.{[]}
use Rattle.rehearse_states.specs.RowsShown.{rows_shown}
use Rattle.rehearse_states.specs.SumRows.{made_shown}
use Rattle.rehearse_states.proofs.SumLemmas.{sides_leave, sides_made}
use Rattle.rehearse_states.proofs.sum_rows.rows_of_sides.Goals as goal

pub returns-clause-rows : goal.returns-clause-rows
returns-clause-rows c sums drawn are got uses draws =
    sides_made sums c.args.last.now c.args.at c.args.won c.args.lost c.args.expected c.is_used_again-keep_won.result c.is_used_behind-keep_lost.result (made_shown c.args.made.now) (made_shown c.taken.new.made) (made_shown c.taken-2.new.made)
    c.in_ok-won_rows.ensures.leaves c.in_ok-lost_rows.ensures.leaves c.is_used_again-keep_won.ensures.behind c.is_used_again-keep_won.ensures.here c.is_used_behind-keep_lost.ensures
    (rows_shown c.in_ok-won_rows.won_rows) (rows_shown c.in_ok-lost_rows.lost_rows) (rows_shown c.in_ok-front.front) (rows_shown c.in_ok-others.others) (rows_shown c.in_ok-rows.rows) drawn
    c.in_ok-won_rows.ensures.rows c.in_ok-lost_rows.ensures.rows c.in_ok-front.ensures c.in_ok-others.ensures c.in_ok-rows.ensures are got uses draws

pub returns-clause-leaves : goal.returns-clause-leaves
returns-clause-leaves c =
    sides_leave [] c.args.last.now c.args.at c.args.won c.args.lost c.args.expected c.is_used_again-keep_won.result c.is_used_behind-keep_lost.result (made_shown c.args.made.now) (made_shown c.taken.new.made) (made_shown c.taken-2.new.made)
    c.in_ok-won_rows.ensures.leaves c.in_ok-lost_rows.ensures.leaves c.is_used_again-keep_won.ensures.behind c.is_used_again-keep_won.ensures.here c.is_used_behind-keep_lost.ensures
