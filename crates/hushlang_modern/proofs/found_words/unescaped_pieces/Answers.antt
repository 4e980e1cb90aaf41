use Rattle.std.proofs.Common.{◌≡◌, ◌∙◌, sym, ap, map, ◌++◌, length, arith, rules}
use Rattle.std.specs.Vec.{vec_len}
use Rattle.std.specs.Vec.Iter.{into_iter_items, into_iter_len}
use Rattle.hushlang.specs.TreesShown as view
use Rattle.hushlang_modern.specs.ModernWords as says
use Rattle.hushlang_uboot.proofs.LoopLemmas.{made_next, made_all, none_left}
use Rattle.hushlang_modern.proofs.found_words.unescaped_pieces.Goals as goal

pub loop-piece-init : goal.loop-piece-init
loop-piece-init c =
    let source = c.into_iter-piece-iterator.ensures.into_iter_gives in
    let items = ap into_iter_items source ∙ c.into_iter-piece-items.ensures.rest in
    let whole : vec_len c.args.pieces ≡ length c.args.pieces.items = search rules in
    record {
      made = ap (λ made. map view.piece made ++ map (λ piece. says.unescaped_piece (view.piece piece)) (into_iter_items c.into_iter-piece-iterator.result)) c.new-made.ensures.items
          ∙ ap (map (λ piece. says.unescaped_piece (view.piece piece))) items;
      len = ap into_iter_len source ∙ c.into_iter-piece-items.ensures.len ∙ whole ∙ sym (ap length items);
    }

pub loop-piece-preserved : goal.loop-piece-preserved
loop-piece-preserved c =
    let step = c.in-Some.ensures.steps in
    record {
      made = made_next view.piece (λ piece. says.unescaped_piece (view.piece piece)) _ _ _ _ _ c.in-Some.piece _ step.0 c.in_ok-push.ensures.items c.in_ok-unescaped_piece.ensures c.loop-piece.invariant.made;
      len = omega (arith, ap length step.0, c.loop-piece.invariant.len, step.1);
    }

pub returns : goal.returns
returns c =
    let none = none_left (into_iter_items c.loop-piece.piece-iterator) (sym c.loop-piece.invariant.len ∙ c.in-None.ensures.steps.0) in
    made_all view.piece (λ piece. says.unescaped_piece piece) view.piece _ _ _ none c.loop-piece.invariant.made
