use Rattle.std.proofs.Common.{◌∙◌, ◌==◌, true, false, sym, ap}
use Rattle.std.proofs.lemmas.Bool.{ne_eqb}
use Rattle.hushlang.specs.LexerShown.{parts_of}
use Rattle.hushlang.specs.CuttersShown.{to_come}
use Rattle.hushlang.specs.Grammar.{up_to_equals, is_name}
use Rattle.hushlang.specs.CuttersShown as cutting
use Rattle.hushlang.proofs.NameAndAssignmentLemmas.{found_behind_nothing, cut_taken, part_taken, found_step, found_done, no_assignment, assignment_end}
use Rattle.hushlang.proofs.words.assignment.Goals as goal

pub parts-init : goal.parts-init
unfolding parts_of
parts-init c = record {
  same = rw (c.new-parts.ensures, c.new-name.ensures.items) (sym (found_behind_nothing _));
  taken = rw c.new-parts.ensures (cut_taken c.args.token c.requires);
  source = rw c.new-parts.ensures;
}

pub returns-in_default-plain-clause-value : goal.returns-in_default-plain-clause-value
returns-in_default-plain-clause-value c =
    let cut = rw c.in-Some.is at c.in_ok-part.ensures.cuts in
    let i = c.parts.invariant in
    no_assignment (parts_of c.args.token) c.parts.name.items (cutting.part c.in-Some.part) (to_come c.parts.parts) (to_come c.next.new.self) i.taken cut.0 c.in_default-plain.ensures i.same

pub parts-preserved : goal.parts-preserved
parts-preserved c =
    let cut = rw c.in-Some.is at c.in_ok-part.ensures.cuts in
    let i = c.parts.invariant in
    record {
      same = rw c.in_ok-push.ensures.items (found_step (up_to_equals (parts_of c.args.token)) c.parts.name.items (cutting.part c.in-Some.part) c.in-Some-plain.b (to_come c.parts.parts) (to_come c.next.new.self) i.taken cut.0 c.in-Some-plain.ensures (ne_eqb c.in-Some-plain.b 61 c.if-b-eq61.false) i.same);
      taken = (part_taken (cutting.part c.in-Some.part) (to_come c.parts.parts) (to_come c.next.new.self) i.taken cut.0).0;
      source = c.in_ok-part.ensures.source ∙ i.source;
    }

pub returns-then-is_name-clause-value : goal.returns-then-is_name-clause-value
returns-then-is_name-clause-value c =
    let cut = rw c.in-Some.is at c.in_ok-part.ensures.cuts in
    let i = c.parts.invariant in
    found_done (parts_of c.args.token) c.parts.name.items (cutting.part c.in-Some.part) c.in-Some-plain.b true (to_come c.parts.parts) (to_come c.next.new.self) i.taken cut.0 c.in-Some-plain.ensures (ap (λ b. b == 61) c.if-b-eq61.true) (sym c.if-is_name.true ∙ c.is_name.ensures ∙ ap is_name c.as_slice.ensures.value) i.same

pub returns-then-b-eq61-clause-value : goal.returns-then-b-eq61-clause-value
returns-then-b-eq61-clause-value c =
    let cut = rw c.in-Some.is at c.in_ok-part.ensures.cuts in
    let i = c.parts.invariant in
    found_done (parts_of c.args.token) c.parts.name.items (cutting.part c.in-Some.part) c.in-Some-plain.b false (to_come c.parts.parts) (to_come c.next.new.self) i.taken cut.0 c.in-Some-plain.ensures (ap (λ b. b == 61) c.if-b-eq61.true) (sym c.if-is_name.false ∙ c.is_name.ensures ∙ ap is_name c.as_slice.ensures.value) i.same

pub returns-clause-value : goal.returns-clause-value
returns-clause-value c =
    let cut = rw c.in_default.is at c.in_ok-part.ensures.cuts in
    assignment_end (parts_of c.args.token) c.parts.name.items c.next.new.self.stop (to_come c.parts.parts) cut.0 c.parts.invariant.same
