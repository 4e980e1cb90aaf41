use Rattle.std.proofs.Common.{◌≡◌, ◌++◌, map, drop}
use Rattle.std.specs.List.{flat_map}
use Rattle.hushlang.specs.Expansion.{atoms_of_piece, all_bytes}
use Rattle.hushlang.specs.TreesShown as view
use Rattle.hushlang_old.specs.Defaults.{looked_up}
use Rattle.hushlang_old.proofs.word_bytes.joined.Given as goal

abbrev pub invariant-loop-piece : goal.invariant-loop-piece
invariant-loop-piece g l =
    let parameters = looked_up (g.V.Vars.parameters l.vars) in
    l.bytes.items ++ all_bytes (flat_map (atoms_of_piece parameters) (map view.piece (drop l.piece-index l.word.pieces.items)))
    ≡ all_bytes (flat_map (atoms_of_piece parameters) (map view.piece l.word.pieces.items))
