use Rattle.hushlang.proofs.ParserAnswerLemmas.{tree_told, blocks_told, refusal_told, place_told, fault_told, faults_told}
use Rattle.hushlang.proofs.parsing.parse.Goals as goal

pub returns-clause-tree : goal.returns-clause-tree
returns-clause-tree c = tree_told c.args.text.now c.read_script.result c.read_script.ensures

pub returns-clause-blocks : goal.returns-clause-blocks
returns-clause-blocks c = blocks_told c.args.text.now c.read_script.result c.read_script.ensures

pub returns-clause-refused : goal.returns-clause-refused
returns-clause-refused c = refusal_told c.args.text.now c.read_script.result c.read_script.ensures

pub returns-clause-place : goal.returns-clause-place
returns-clause-place c = place_told c.args.text.now c.read_script.result c.read_script.ensures

pub returns-clause-fault : goal.returns-clause-fault
returns-clause-fault c = fault_told c.args.text.now c.read_script.result c.read_script.ensures

pub returns-clause-faults : goal.returns-clause-faults
returns-clause-faults c = faults_told c.args.text.now c.read_script.result c.read_script.ensures
