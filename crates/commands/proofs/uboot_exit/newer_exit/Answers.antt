use Rattle.commands.proofs.UBootExitLemmas.{several_end_nothing}
use Rattle.commands.proofs.uboot_exit.newer_exit.Goals as goal

pub returns-in-len2-up : goal.returns-in-len2-up
returns-in-len2-up c = several_end_nothing c.args.words.now c.in-len2-up.len_at_least
