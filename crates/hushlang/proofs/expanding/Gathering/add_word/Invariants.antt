use Rattle.std.proofs.Common.{◌≡◌, map, drop}
use Rattle.std.specs.List.{flat_map}
use Rattle.hushlang.specs.Expansion.{atoms_of_piece}
use Rattle.hushlang.specs.Splitting.{fields_so_far, with_atoms, IsCounted, AreShort}
use Rattle.hushlang.specs.TreesShown as view
use Rattle.hushlang.proofs.expanding.Gathering.add_word.Given as goal

abbrev pub invariant-loop-piece : goal.invariant-loop-piece
invariant-loop-piece g l =
    let parameters = g.V.Vars.parameters l.vars in
    record {
      same : with_atoms (fields_so_far l.self) (flat_map (atoms_of_piece parameters) (map view.piece (drop l.piece-index l.word.pieces.items)))
          ≡ with_atoms (fields_so_far l.fn.self) (flat_map (atoms_of_piece parameters) (map view.piece l.word.pieces.items));
      counted : IsCounted l.self;
      short : AreShort parameters l.values.entries;
    }
