use Rattle.hushlang.proofs.LexicalFaultLemmas.{faults_are_answered}
use Rattle.hushlang.proofs.RefusalPlaceLemmas.{refusals_are_placed}
use Rattle.hushlang.proofs.ParserAnswerLemmas.{one_blocked_place, each_text_is_blocked}
use Rattle.hushlang.proofs.laws.places.Goals as goal

pub returns-clause-placed : goal.returns-clause-placed
returns-clause-placed c = refusals_are_placed

pub returns-clause-faults : goal.returns-clause-faults
returns-clause-faults c = faults_are_answered

pub returns-clause-one : goal.returns-clause-one
returns-clause-one c = one_blocked_place

pub returns-clause-each : goal.returns-clause-each
returns-clause-each c = each_text_is_blocked
