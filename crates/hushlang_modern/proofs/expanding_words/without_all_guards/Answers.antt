use Rattle.std.proofs.Common.{◌≡◌, ◌∙◌, sym, ap, map, ◌++◌, length, arith, rules, ℕ}
use Rattle.std.specs.declared.alloc.Global.{Global}
use Rattle.std.specs.declared.vec.Vec.{Vec}
use Rattle.std.specs.Vec.{vec_len}
use Rattle.std.specs.Vec.Iter.{into_iter_items, into_iter_len}
use Rattle.hushlang_uboot.proofs.LoopLemmas.{made_next, made_all, none_left}
use Rattle.hushlang_modern.specs.ModernWords.{without_guards}
use Rattle.hushlang_modern.proofs.expanding_words.without_all_guards.Goals as goal

pub loop-field-init : goal.loop-field-init
loop-field-init c =
    let source = c.into_iter-field-iterator.ensures.into_iter_gives in
    let items = ap into_iter_items source ∙ c.into_iter-field-items.ensures.rest in
    let whole : vec_len c.args.fields ≡ length c.args.fields.items = search rules in
    record {
      made = ap (λ made. map (λ field. field.items) made ++ map (λ field. without_guards field.items) (into_iter_items c.into_iter-field-iterator.result)) c.new-made.ensures.items
          ∙ ap (map (λ field. without_guards field.items)) items;
      len = ap into_iter_len source ∙ c.into_iter-field-items.ensures.len ∙ whole ∙ sym (ap length items);
    }

pub loop-field-preserved : goal.loop-field-preserved
loop-field-preserved c =
    let step = c.in-Some.ensures.steps in
    record {
      made = made_next (λ (field : Vec ℕ Global). field.items) (λ (field : Vec ℕ Global). without_guards field.items) _ _ _ _ _ c.in-Some.field _ step.0 c.in_ok-push.ensures.items c.in_ok-without_guards.ensures c.loop-field.invariant.made;
      len = omega (arith, ap length step.0, c.loop-field.invariant.len, step.1);
    }

pub returns : goal.returns
returns c =
    let none = none_left (into_iter_items c.loop-field.field-iterator) (sym c.loop-field.invariant.len ∙ c.in-None.ensures.steps.0) in
    made_all (λ (field : Vec ℕ Global). field.items) without_guards (λ (field : Vec ℕ Global). field.items) _ _ _ none c.loop-field.invariant.made
