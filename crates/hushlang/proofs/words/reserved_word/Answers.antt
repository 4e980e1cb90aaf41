use Rattle.std.proofs.Common.{◌∙◌, ◌≤◌, ◌<◌, ℕ, List, length, take, ap, sym, arith}
use Rattle.std.proofs.lemmas.List.{take_more_set, length-set, length-take}
use Rattle.hushlang.specs.Words as spec
use Rattle.hushlang.specs.Token.{Part}
use Rattle.hushlang.specs.LexerShown.{parts_of}
use Rattle.hushlang.specs.CuttersShown.{to_come}
use Rattle.hushlang.specs.CuttersShown as cutting
use Rattle.hushlang.proofs.ReservedWordLemmas.{fronted, fronted_nothing, fronted_step, fronted_end, other_part, part_too_many}
use Rattle.hushlang.proofs.words.reserved_word.Goals as goal

pub parts-init : goal.parts-init
unfolding parts_of
parts-init c = record {
  same = rw c.new-parts.ensures (fronted_nothing _);
  held = search;
  room = omega arith;
  source = rw c.new-parts.ensures;
}

pub returns-in_default : goal.returns-in_default
returns-in_default c =
    let cut = rw c.in-Ok-Some.field-0-is at c.in-Ok-Some.ensures.cuts in
    other_part (take c.parts.size c.parts.bytes) (cutting.part c.in-Ok-Some.part) (to_come c.parts.parts) (to_come c.next.new.self) c.in_default.ensures cut.0
    ∙ ap (λ (ps : List Part). spec.reserved ps) c.parts.invariant.same

pub returns-then-size-eq-RESERVED_MAX : goal.returns-then-size-eq-RESERVED_MAX
returns-then-size-eq-RESERVED_MAX c =
    let cut = rw c.in-Ok-Some.field-0-is at c.in-Ok-Some.ensures.cuts in
    let full : 5 ≤ length (take c.parts.size c.parts.bytes) = omega (arith, length-take c.parts.size c.parts.bytes, c.parts.invariant.held, c.if-size-eq-RESERVED_MAX.true) in
    part_too_many (take c.parts.size c.parts.bytes) (cutting.part c.in-Ok-Some.part) (to_come c.parts.parts) (to_come c.next.new.self) full cut.0
    ∙ ap (λ (ps : List Part). spec.reserved ps) c.parts.invariant.same

pub parts-preserved : goal.parts-preserved
parts-preserved c =
    let cut = rw c.in-Ok-Some.field-0-is at c.in-Ok-Some.ensures.cuts in
    let i = c.parts.invariant in
    let inside : c.parts.size < length c.parts.bytes = omega (arith, i.held, i.room, c.if-size-eq-RESERVED_MAX.false) in
    record {
      same =
          ap (λ (bs : List ℕ). fronted bs (to_come c.next.new.self)) (take_more_set c.parts.bytes c.parts.size c.in-Some.b inside)
          ∙ sym (fronted_step (take c.parts.size c.parts.bytes) (cutting.part c.in-Ok-Some.part) c.in-Some.b (to_come c.parts.parts) (to_come c.next.new.self) c.in-Some.ensures cut.0)
          ∙ i.same;
      held = length-set c.parts.bytes c.parts.size c.in-Some.b ∙ i.held;
      room = omega (arith, i.room, c.if-size-eq-RESERVED_MAX.false);
      source = c.in-Ok-Some.ensures.source ∙ i.source;
    }

pub returns-in-Ok-None : goal.returns-in-Ok-None
returns-in-Ok-None c =
    let cut = rw c.in-Ok-None.field-0-is at c.in-Ok-None.ensures.cuts in
    c.reserved_named.ensures
    ∙ ap (λ (ps : List Part). spec.reserved ps) (sym (fronted_end (take c.parts.size c.parts.bytes) c.next.new.self.stop (to_come c.parts.parts) cut.0))
    ∙ ap (λ (ps : List Part). spec.reserved ps) c.parts.invariant.same
