-- A command that was built as described, after a table was added.
use Rattle.std.proofs.Common.{◌∙◌, List, ap}
use Rattle.std.specs.List.{fold}
use Rattle.clap.specs.Words.{App}
use Rattle.clap.specs.declared.builder.command.Command.{Command}
use Rattle.tool_words.specs.Arguments.{Adds}
use Rattle.tool_words.specs.Made.{IsMade}

pub made_with : {X : Type 0} (add : App → X → App) (app : App) (xs : List X) (old new : Command) → IsMade app old → Adds add old xs new → IsMade (fold add app xs) new
made_with add app xs old new made adds = record {
  app_is = adds.app_is ∙ ap (λ a. fold add a xs) made.app_is;
  local = adds.globals ∙ made.local;
}
