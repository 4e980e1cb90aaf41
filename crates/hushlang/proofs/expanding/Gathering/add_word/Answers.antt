use Rattle.std.proofs.Common.{◌∙◌, ap, map, arith, sym}
use Rattle.std.specs.List.{flat_map}
use Rattle.std.proofs.Math.ListN.{drop_of_length-le}
use Rattle.std.proofs.lemmas.Result.{err_from_is_err_and, on_ok_weaker}
use Rattle.hushlang.specs.Expansion.{atoms, atoms_of_piece}
use Rattle.hushlang.specs.Splitting.{fields_so_far, with_atoms, closed}
use Rattle.hushlang.specs.TreesShown as view
use Rattle.hushlang.proofs.ExpandLemmas.{over_by_piece, next_piece, drop_next, gathered_size-closed}
use Rattle.hushlang.proofs.expanding.Gathering.add_word.Goals as goal

pub loop-piece-preserved : goal.loop-piece-preserved
loop-piece-preserved g c =
    let parameters = g.V.Vars.parameters c.args.vars.now in
    let is = rw c.deref-piece-items.ensures.value at c.piece-item.is in
    let first = ap (map view.piece) (drop_next c.args.word.now.pieces.items c.loop-piece.piece-index c.piece-item.result (omega arith) is) in
    record {
      same = next_piece parameters _ _ _ (view.piece c.piece-item.result) _ _ first c.loop-piece.invariant.same c.in_ok-add_piece.ensures.added;
      counted = c.in_ok-add_piece.ensures.counted;
      short = c.in_ok-add_piece.ensures.short;
    }

pub returns-in_err-add_piece-clause-too_long : goal.returns-in_err-add_piece-clause-too_long
unfolding atoms
returns-in_err-add_piece-clause-too_long g c =
    let parameters = g.V.Vars.parameters c.args.vars.now in
    let is = rw c.deref-piece-items.ensures.value at c.piece-item.is in
    let first = ap (map view.piece) (drop_next c.args.word.now.pieces.items c.loop-piece.piece-index c.piece-item.result (omega arith) is) in
    let word = atoms parameters (view.word c.args.word.now) in
    let p = err_from_is_err_and c.from_residual.result c.from_residual.ensures.1 in
    rw (p.1, p.2) (λ is.
    omega (arith, gathered_size-closed (with_atoms (fields_so_far c.args.self.now) word), over_by_piece parameters _ _ (view.piece c.piece-item.result) _ _ first c.loop-piece.invariant.same (c.in_err-add_piece.ensures.too_long is)))

pub returns-clause-added : goal.returns-clause-added
unfolding atoms
returns-clause-added g c =
    let parameters = g.V.Vars.parameters c.args.vars.now in
    let done = drop_of_length-le c.args.word.now.pieces.items {i = c.loop-piece.piece-index} (omega arith) in
    let all = ap (λ pieces. with_atoms (fields_so_far c.loop-piece.self) (flat_map (atoms_of_piece parameters) (map view.piece pieces))) (sym done) ∙ c.loop-piece.invariant.same in
    on_ok_weaker c.close.result (λ is. is ∙ ap closed all) c.close.ensures.closed
