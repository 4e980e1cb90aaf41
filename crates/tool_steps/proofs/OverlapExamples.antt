-- Places that share a byte, in worked cases.
use Rattle.std.proofs.Common.{◌≡◌, true, false, ℕ, List, refl}
use Rattle.std.specs.Prelude.{codes}
use Rattle.envimage.specs.Config.{PlaceShown}
use Rattle.tool_steps.specs.Overlap.{overlap}

abbrev place : List ℕ → ℕ → ℕ → PlaceShown
place device offset size = record { device = device; offset = offset; size = size }

same_place : overlap (place (codes "/dev/mtd1") 4096 8192) (place (codes "/dev/mtd1") 4096 8192) ≡ true
same_place = refl

-- the last byte of the one is the first byte of the other
one_byte : overlap (place (codes "/dev/mtd1") 0 4097) (place (codes "/dev/mtd1") 4096 4097) ≡ true
one_byte = refl

one_byte_turned : overlap (place (codes "/dev/mtd1") 4096 4097) (place (codes "/dev/mtd1") 0 4097) ≡ true
one_byte_turned = refl

-- the one begins where the other ends
adjacent : overlap (place (codes "/dev/mtd1") 0 4096) (place (codes "/dev/mtd1") 4096 4096) ≡ false
adjacent = refl

adjacent_turned : overlap (place (codes "/dev/mtd1") 4096 4096) (place (codes "/dev/mtd1") 0 4096) ≡ false
adjacent_turned = refl

other_path : overlap (place (codes "/dev/mtd1") 0 4096) (place (codes "/dev/mtd2") 0 4096) ≡ false
other_path = refl
