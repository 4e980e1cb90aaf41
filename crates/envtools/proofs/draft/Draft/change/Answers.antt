use Rattle.envtools.proofs.EnvLemmas.{IsVariable-tested}
use Rattle.envtools.proofs.draft.Draft.change.Goals as goal

pub put-requires : goal.put-requires
put-requires c = IsVariable-tested c.args.name.now c.args.value.now c.requires.name c.requires.value
