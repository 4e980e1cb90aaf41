use Rattle.std.proofs.Common.{◌≡◌, List}
use Rattle.std.specs.List.{list_all}
use Rattle.std.specs.Option.{option_copied}
use Rattle.ubtool.specs.CausesOfImages.{AreInOrder, Part, causes_given}
use Rattle.ubtool.specs.ListsShown.{list_shown}
use Rattle.ubtool.proofs.image_causes.lines_by_start.Given as goal

-- the lines of the alternatives so far, and whether all is well with them
abbrev pub invariant-loop-place : goal.invariant-loop-place
invariant-loop-place l = (parts : List Part) × AreInOrder (causes_given l.fn.order l.fn.first (option_copied l.fn.second) (list_shown l.fn.list) l.fn.list.taking l.fn.ask) l.fn.ask.check l.place parts l.text.items × (l.fine ≡ list_all (λ part. part.1) parts)
