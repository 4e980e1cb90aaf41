use Rattle.std.proofs.Common.{◌≡◌, ◌+◌, drop, filter, fold, map, take}
use Rattle.std.specs.List.{range_with_len}
use Rattle.envimage.specs.Crc.{after_byte}
use Rattle.envimage.specs.declared.image.ByteOrder.TheVariants.{Big, Little}
use Rattle.inspecting.specs.Guesses.{is_image}
use Rattle.inspecting.specs.Report.{header_of}
use Rattle.inspecting.proofs.guessing.right_sizes.Given as goal

-- the register after the bytes so far, and the sizes that were found among these
abbrev pub invariant-loop-byte : goal.invariant-loop-byte
invariant-loop-byte l = record {
  register : l.register ≡ fold after_byte 4294967295 (take l.byte-index (drop (header_of l.is_copy) l.bytes));
  size : l.size ≡ header_of l.is_copy + l.byte-index;
  little : l.little.items ≡ filter (λ size. is_image Little l.is_copy (take size l.bytes)) (map (λ n. header_of l.is_copy + n) (range_with_len 1 l.byte-index));
  big : l.big.items ≡ filter (λ size. is_image Big l.is_copy (take size l.bytes)) (map (λ n. header_of l.is_copy + n) (range_with_len 1 l.byte-index));
}
