use Rattle.std.proofs.Common.{◌≡◌, map, drop}
use Rattle.hushlang.specs.TreesShown as view
use Rattle.hushlang_modern.specs.ModernFields.{nothing_expanded, with_pieces}
use Rattle.hushlang_modern.specs.ModernFieldsShown as shown
use Rattle.hushlang_modern.proofs.expanding_words.expanded.Given as goal

abbrev pub invariant-loop-piece : goal.invariant-loop-piece
invariant-loop-piece g l =
    let parameters = g.V.Vars.parameters l.vars in
    with_pieces parameters (map view.piece (drop l.piece-index l.word.pieces.items)) (shown.expanding l.expanding)
    ≡ with_pieces parameters (map view.piece l.word.pieces.items) nothing_expanded
