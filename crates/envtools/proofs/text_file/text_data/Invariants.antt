use Rattle.std.proofs.Common.{◌≡◌, ◌++◌, drop}
use Rattle.envtools.specs.FromText.{data_from, data_of}
use Rattle.envtools.proofs.text_file.text_data.Given as goal

abbrev pub invariant-loop-byte : goal.invariant-loop-byte
invariant-loop-byte l = l.made.items ++ data_from l.at (drop l.byte-index l.text) ≡ data_of l.text
