use Rattle.std.proofs.Common.{◌∙◌, ◌++◌, ap, map, arith, sym, append-nil, length}
use Rattle.std.specs.List.{flat_map}
use Rattle.std.proofs.Math.ListN.{drop_of_length-le}
use Rattle.std.proofs.lemmas.Result.{err_from_is_err_and}
use Rattle.hushlang.specs.Expansion.{atoms, atoms_of_piece, all_bytes, joined}
use Rattle.hushlang.specs.TreesShown as view
use Rattle.hushlang.proofs.ExpandLemmas.{over_by_bytes, next_bytes, drop_next}
use Rattle.hushlang.proofs.expanding.expand_one.Goals as goal

pub loop-piece-preserved : goal.loop-piece-preserved
loop-piece-preserved g c =
    let parameters = g.V.Vars.parameters c.args.vars.now in
    let is = rw c.deref-piece-items.ensures.value at c.piece-item.is in
    let first = ap (map view.piece) (drop_next c.args.word.now.pieces.items c.loop-piece.piece-index c.piece-item.result (omega arith) is) in
    record {
      same = next_bytes parameters _ _ _ (view.piece c.piece-item.result) _ _ first c.loop-piece.invariant.same c.in_ok-append_piece.ensures.appended;
      within_limit = c.in_ok-append_piece.ensures.within_limit;
    }

pub returns-in_err-append_piece-clause-too_long : goal.returns-in_err-append_piece-clause-too_long
unfolding atoms joined
returns-in_err-append_piece-clause-too_long g c =
    let parameters = g.V.Vars.parameters c.args.vars.now in
    let is = rw c.deref-piece-items.ensures.value at c.piece-item.is in
    let first = ap (map view.piece) (drop_next c.args.word.now.pieces.items c.loop-piece.piece-index c.piece-item.result (omega arith) is) in
    let p = err_from_is_err_and c.from_residual.result c.from_residual.ensures.1 in
    rw (p.1, p.2) (λ is. over_by_bytes parameters c.loop-piece.value.items _ (view.piece c.piece-item.result) _ _ first c.loop-piece.invariant.same (c.in_err-append_piece.ensures.too_long is))

pub returns-clause-bytes : goal.returns-clause-bytes
unfolding atoms joined
returns-clause-bytes g c =
    let parameters = g.V.Vars.parameters c.args.vars.now in
    let done = drop_of_length-le c.args.word.now.pieces.items {i = c.loop-piece.piece-index} (omega arith) in
    let value = c.loop-piece.value.items in
    sym (append-nil value) ∙ ap (λ pieces. value ++ all_bytes (flat_map (atoms_of_piece parameters) (map view.piece pieces))) (sym done) ∙ c.loop-piece.invariant.same

pub returns-clause-within_limit : goal.returns-clause-within_limit
returns-clause-within_limit g c = omega (arith, ap length (returns-clause-bytes g c), c.loop-piece.invariant.within_limit)
