use Rattle.bootstore_state.proofs.LogLemmas.{begins_so}
use Rattle.bootstore_state.proofs.log.begins.Goals as goal

pub returns : goal.returns
returns c = begins_so c.eq.result c.min-count.result c.args.start.now c.args.words.now c.eq.ensures c.min-count.ensures
