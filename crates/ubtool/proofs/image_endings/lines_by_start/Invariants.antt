use Rattle.std.proofs.Common.{List}
use Rattle.std.specs.Option.{option_copied}
use Rattle.rehearse_terms.specs.State.{Text}
use Rattle.ubtool.specs.EndingsOfImages.{AreInOrder, endings_given}
use Rattle.ubtool.specs.ListsShown.{list_shown}
use Rattle.ubtool.proofs.image_endings.lines_by_start.Given as goal

-- the lines of the alternatives so far
abbrev pub invariant-loop-place : goal.invariant-loop-place
invariant-loop-place l = (parts : List Text) × AreInOrder (endings_given l.fn.order l.fn.first (option_copied l.fn.second) (list_shown l.fn.list) l.fn.list.taking l.fn.ask) l.fn.ask.flow l.fn.ask.states l.fn.ask.memory l.place parts l.text.items
