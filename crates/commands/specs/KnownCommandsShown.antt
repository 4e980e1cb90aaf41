-- The commands of the program that may be computed, seen as those of the definitions.
use Rattle.commands.specs.KnownCommands as says
use Rattle.commands.specs.declared.known_commands.Known.{Known}
use Rattle.commands.specs.declared.known_commands.Known.TheVariants as known_names

abbrev pub known_shown : Known → says.Known
known_shown known_names.Env = says.Env
known_shown known_names.Itest = says.Itest
known_shown known_names.SetExpr = says.SetExpr
