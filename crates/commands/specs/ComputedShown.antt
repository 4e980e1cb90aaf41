-- The result of a call, as the program says it.
use Rattle.std.specs.Prelude.{Option, option_map}
use Rattle.commands.specs.Computed as says
use Rattle.commands.specs.TextsShown.{texts}
use Rattle.commands.specs.declared.computed.Computed.{Computed}
use Rattle.commands.specs.declared.computed.Computed.TheVariants as names

abbrev pub computed_shown : Computed → says.Computed
computed_shown (names.Gives status) = says.Gives status
computed_shown (names.Exists name) = says.Exists name.now
computed_shown (names.Sets words) = says.Sets (texts words.now)
computed_shown (names.Deletes words) = says.Deletes (texts words.now)
computed_shown (names.SetsNumber name number) = says.SetsNumber name.now number

abbrev pub call_shown : Option Computed → Option says.Computed
call_shown = option_map computed_shown
