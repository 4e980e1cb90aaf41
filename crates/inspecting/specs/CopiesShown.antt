-- What contracts see of the copies that are inspected.
use Rattle.inspecting.specs.Report.{CopiesShown, CopyShown, pair, single}
use Rattle.inspecting.specs.declared.copies.Copies.{Copies}
use Rattle.inspecting.specs.declared.copies.Copies.TheVariants.{Pair, Single}
use Rattle.inspecting.specs.declared.copies.Held.{Held}

abbrev pub held_shown : Held → CopyShown
held_shown held = record { path = held.path.now; offset = held.offset; bytes = held.bytes.now }

abbrev pub copies_shown : Copies → CopiesShown
copies_shown (Single held) = single (held_shown held)
copies_shown (Pair first second) = pair (held_shown first) (held_shown second)
