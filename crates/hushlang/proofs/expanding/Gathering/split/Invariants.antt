use Rattle.std.proofs.Common.{◌≡◌, map, drop}
use Rattle.hushlang.specs.Expansion.{split_atom}
use Rattle.hushlang.specs.Splitting.{fields_so_far, with_atoms, IsCounted}
use Rattle.hushlang.proofs.expanding.Gathering.split.Given as goal

abbrev pub invariant-loop-byte : goal.invariant-loop-byte
invariant-loop-byte l = record {
  same : with_atoms (fields_so_far l.self) (map split_atom (drop l.byte-index l.value)) ≡ with_atoms (fields_so_far l.fn.self) (map split_atom l.value);
  counted : IsCounted l.self;
}
