use Rattle.commands.proofs.UBootExitLemmas.{several_followed}
use Rattle.commands.proofs.uboot_exit.follows_exit.Goals as goal

pub returns-in-len2-up : goal.returns-in-len2-up
returns-in-len2-up c = several_followed c.args.words.now c.in-len2-up.len_at_least
