use Rattle.std.proofs.Common.{◌∙◌, ◌++◌, ap, map, arith, sym, append-nil}
use Rattle.std.specs.List.{flat_map}
use Rattle.std.proofs.Math.ListN.{drop_of_length-le}
use Rattle.hushlang.specs.Expansion.{atoms, atoms_of_piece, all_bytes, joined}
use Rattle.hushlang.specs.TreesShown as view
use Rattle.hushlang.proofs.ExpandLemmas.{next_bytes, drop_next}
use Rattle.hushlang_old.specs.Defaults.{looked_up}
use Rattle.hushlang_old.proofs.word_bytes.joined.Goals as goal

pub loop-piece-preserved : goal.loop-piece-preserved
loop-piece-preserved g c =
    let parameters = looked_up (g.V.Vars.parameters c.args.vars.now) in
    let is = rw c.deref-piece-items.ensures.value at c.piece-item.is in
    let first = ap (map view.piece) (drop_next c.args.word.now.pieces.items c.loop-piece.piece-index c.piece-item.result (omega arith) is) in
    next_bytes parameters _ _ _ (view.piece c.piece-item.result) _ _ first c.loop-piece.invariant c.in_ok-append_piece.ensures

pub returns : goal.returns
unfolding atoms joined
returns g c =
    let parameters = looked_up (g.V.Vars.parameters c.args.vars.now) in
    let done = drop_of_length-le c.args.word.now.pieces.items {i = c.loop-piece.piece-index} (omega arith) in
    let bytes = c.loop-piece.bytes.items in
    sym (append-nil bytes) ∙ ap (λ pieces. bytes ++ all_bytes (flat_map (atoms_of_piece parameters) (map view.piece pieces))) (sym done) ∙ c.loop-piece.invariant
