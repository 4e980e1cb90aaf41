-- What the code's gathered pieces say.
use Rattle.std.specs.Prelude.{map}
use Rattle.hushlang.specs.TreesShown as view
use Rattle.hushlang_uboot.specs.Gathered as says
use Rattle.hushlang_uboot.specs.declared.gathered.Gathered.{Gathered}

unfoldable pub gathered : Gathered → says.Gathered
gathered g = record { pieces = map view.piece g.pieces.items; bytes = g.bytes.items }
