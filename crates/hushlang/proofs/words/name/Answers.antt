use Rattle.std.proofs.Common.{◌∙◌, true, false, sym, ap}
use Rattle.hushlang.specs.Grammar.{is_name}
use Rattle.hushlang.specs.LexerShown.{parts_of}
use Rattle.hushlang.specs.CuttersShown.{to_come}
use Rattle.hushlang.specs.Words.{plain_bytes}
use Rattle.hushlang.specs.CuttersShown as cutting
use Rattle.hushlang.proofs.NameAndAssignmentLemmas.{behind_nothing, cut_taken, part_taken, name_step, no_name, some_name}
use Rattle.hushlang.proofs.words.name.Goals as goal

pub parts-init : goal.parts-init
unfolding parts_of
parts-init c = record {
  same = rw (c.new-parts.ensures, c.new-name.ensures.items) (sym (behind_nothing _));
  taken = rw c.new-parts.ensures (cut_taken c.args.token c.requires);
  source = rw c.new-parts.ensures;
}

pub parts-preserved : goal.parts-preserved
parts-preserved c =
    let cut = rw c.in-Some.is at c.in_ok-part.ensures.cuts in
    let i = c.parts.invariant in
    record {
      same = rw c.in_ok-push-in-Some-plain.ensures.items (name_step (plain_bytes (parts_of c.args.token)) c.parts.name.items (cutting.part c.in-Some.part) c.in-Some-plain.b (to_come c.parts.parts) (to_come c.next.new.self) i.taken cut.0 c.in-Some-plain.ensures i.same);
      taken = (part_taken (cutting.part c.in-Some.part) (to_come c.parts.parts) (to_come c.next.new.self) i.taken cut.0).0;
      source = c.in_ok-part.ensures.source ∙ i.source;
    }

pub returns-in-None-clause-value : goal.returns-in-None-clause-value
returns-in-None-clause-value c =
    let cut = rw c.in-Some.is at c.in_ok-part.ensures.cuts in
    let i = c.parts.invariant in
    no_name (parts_of c.args.token) c.parts.name.items (cutting.part c.in-Some.part) (to_come c.parts.parts) (to_come c.next.new.self) i.taken cut.0 c.in-None.ensures i.same

pub returns-then-is_name-clause-value : goal.returns-then-is_name-clause-value
returns-then-is_name-clause-value c =
    let cut = rw c.in_default.is at c.in_ok-part.ensures.cuts in
    some_name (parts_of c.args.token) c.parts.name.items c.next.new.self.stop true (to_come c.parts.parts) cut.0 (sym c.if-is_name.true ∙ c.is_name.ensures ∙ ap is_name c.as_slice.ensures.value) c.parts.invariant.same

pub returns-clause-value : goal.returns-clause-value
returns-clause-value c =
    let cut = rw c.in_default.is at c.in_ok-part.ensures.cuts in
    some_name (parts_of c.args.token) c.parts.name.items c.next.new.self.stop false (to_come c.parts.parts) cut.0 (sym c.if-is_name.false ∙ c.is_name.ensures ∙ ap is_name c.as_slice.ensures.value) c.parts.invariant.same
