use Rattle.rehearse_frames.proofs.EnoughKeys.{keys_of_ends, keys_of_moves, keys_of_answers, keys_of_asking, keys_of_moments, more_keys_are_enough, keys_of_alike_frames}
use Rattle.rehearse_frames.proofs.laws.keys_to_come.Goals as goal

pub returns-clause-ends : goal.returns-clause-ends
returns-clause-ends c = keys_of_ends

pub returns-clause-moves : goal.returns-clause-moves
returns-clause-moves c = keys_of_moves

pub returns-clause-answers : goal.returns-clause-answers
returns-clause-answers c = keys_of_answers

pub returns-clause-asking : goal.returns-clause-asking
returns-clause-asking c = keys_of_asking

pub returns-clause-moments : goal.returns-clause-moments
returns-clause-moments c = keys_of_moments

pub returns-clause-more : goal.returns-clause-more
returns-clause-more c = more_keys_are_enough

pub returns-clause-alike : goal.returns-clause-alike
returns-clause-alike c = keys_of_alike_frames
