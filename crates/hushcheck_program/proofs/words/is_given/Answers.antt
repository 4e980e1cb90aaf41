use Rattle.std.proofs.Common.{rules}
use Rattle.clap.proofs.WalkLemmas.{first_value-rows}
use Rattle.hushcheck_program.proofs.words.is_given.Goals as goal

pub returns-in-Some : goal.returns-in-Some
returns-in-Some c = search (rules, c.get_str.ensures, c.in-Some.is, first_value-rows)

pub returns-in-None : goal.returns-in-None
returns-in-None c = search (rules, c.get_str.ensures, c.in-None.is, first_value-rows)
