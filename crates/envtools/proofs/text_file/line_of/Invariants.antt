use Rattle.std.proofs.Common.{◌≡◌, ◌≤◌, ◌+◌, drop}
use Rattle.envtools.specs.FromText.{line_from, line_of}
use Rattle.envtools.proofs.text_file.line_of.Given as goal

abbrev pub invariant-loop-byte : goal.invariant-loop-byte
invariant-loop-byte l = (line_from l.at l.line l.left (drop l.byte-index l.text) ≡ line_of l.text l.place) × (l.line ≤ l.byte-index + 1)
