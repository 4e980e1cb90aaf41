-- What contracts see of the words of a device command. Ours.
use Rattle.std.specs.Prelude.{List, [], Option, Some, None}
use Rattle.rehearse_terms.specs.State.{Text, LoggedCommand}

-- the words of the device command at a place of a log
abbrev pub words_in : Option LoggedCommand → List Text
words_in (Some command) = command.words
words_in None = []
