-- What the next boot finds saved, as definitions see it.
use Rattle.std.specs.Prelude.{option_map}
use Rattle.rehearse_boots.specs.Boots.{Next}
use Rattle.rehearse_boots.specs.BootsShown.{kept_shown}
use Rattle.rehearse_boots.specs.declared.next.Next as rt

abbrev pub next_shown : rt.Next → Next
next_shown next = record { saved = kept_shown next.saved; changed = option_map kept_shown next.changed }
