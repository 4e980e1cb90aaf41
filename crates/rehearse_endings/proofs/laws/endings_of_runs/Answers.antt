use Rattle.rehearse_states.proofs.EndingLineLemmas.{counted_all}
use Rattle.rehearse_endings.proofs.LawLemmas.{no_ending_twice}
use Rattle.rehearse_endings.proofs.RowCountLemmas.{rows_count_runs}
use Rattle.rehearse_endings.proofs.RowWordLemmas.{rows_tell_of_runs}
use Rattle.rehearse_endings.proofs.laws.endings_of_runs.Goals as goal

pub returns-clause-counted : goal.returns-clause-counted
returns-clause-counted c = counted_all

pub returns-clause-each : goal.returns-clause-each
returns-clause-each c = rows_count_runs

pub returns-clause-apart : goal.returns-clause-apart
returns-clause-apart c = no_ending_twice

pub returns-clause-words : goal.returns-clause-words
returns-clause-words c = rows_tell_of_runs
