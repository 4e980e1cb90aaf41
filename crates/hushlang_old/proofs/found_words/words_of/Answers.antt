use Rattle.std.proofs.Common.{◌≡◌, ◌∙◌, sym, ap, map, ◌++◌, length, arith, rules}
use Rattle.std.specs.Vec.{vec_len}
use Rattle.std.specs.Vec.Iter.{into_iter_items, into_iter_len}
use Rattle.hushlang.specs.TreesShown as view
use Rattle.hushlang_old.specs.OldTokensShown as shown
use Rattle.hushlang_old.specs.OldTrees as says
use Rattle.hushlang_uboot.proofs.LoopLemmas.{made_next, made_all, none_left}
use Rattle.hushlang_old.proofs.found_words.words_of.Goals as goal

pub loop-word-init : goal.loop-word-init
loop-word-init c =
    let source = c.into_iter-word-iterator.ensures.into_iter_gives in
    let items = ap into_iter_items source ∙ c.into_iter-word-items.ensures.rest in
    let whole : vec_len c.args.found ≡ length c.args.found.items = search rules in
    record {
      made = ap (λ found. map view.word found ++ map (λ word. says.word_of (shown.word word)) (into_iter_items c.into_iter-word-iterator.result)) c.new-words.ensures.items
          ∙ ap (map (λ word. says.word_of (shown.word word))) items;
      len = ap into_iter_len source ∙ c.into_iter-word-items.ensures.len ∙ whole ∙ sym (ap length items);
    }

pub loop-word-preserved : goal.loop-word-preserved
loop-word-preserved c =
    let step = c.in-Some.ensures.steps in
    record {
      made = made_next view.word (λ word. says.word_of (shown.word word)) _ _ _ _ _ c.in-Some.word _ step.0 c.in_ok-push.ensures.items c.in_ok-word_of.ensures c.loop-word.invariant.made;
      len = omega (arith, ap length step.0, c.loop-word.invariant.len, step.1);
    }

pub returns : goal.returns
returns c =
    let none = none_left (into_iter_items c.loop-word.word-iterator) (sym c.loop-word.invariant.len ∙ c.in-None.ensures.steps.0) in
    made_all view.word (λ word. says.word_of word) shown.word _ _ _ none c.loop-word.invariant.made
