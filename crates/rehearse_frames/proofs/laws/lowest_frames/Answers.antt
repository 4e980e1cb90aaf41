use Rattle.rehearse_frames.proofs.LowestFrames.{moves_stay_above, outcomes_stay_above, asks_above, lowest_make_no_difference, neither_returns, keys_hold_below}
use Rattle.rehearse_frames.proofs.laws.lowest_frames.Goals as goal

pub returns-clause-moves : goal.returns-clause-moves
returns-clause-moves c = moves_stay_above

pub returns-clause-outcomes : goal.returns-clause-outcomes
returns-clause-outcomes c = outcomes_stay_above

pub returns-clause-asks : goal.returns-clause-asks
returns-clause-asks c = asks_above

pub returns-clause-same : goal.returns-clause-same
returns-clause-same c = lowest_make_no_difference

pub returns-clause-neither : goal.returns-clause-neither
returns-clause-neither c = neither_returns

pub returns-clause-keys : goal.returns-clause-keys
returns-clause-keys c = keys_hold_below
