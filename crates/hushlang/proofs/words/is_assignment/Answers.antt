use Rattle.std.proofs.Common.{◌∙◌, ◌==◌, ◌++◌, [], ◌∷◌, refl, is_some, sym, ap}
use Rattle.std.proofs.lemmas.Bool.{ne_eqb}
use Rattle.hushlang.specs.LexerShown.{parts_of}
use Rattle.hushlang.specs.CuttersShown.{to_come}
use Rattle.hushlang.specs.Grammar.{up_to_equals}
use Rattle.hushlang.specs.CuttersShown as cutting
use Rattle.hushlang.proofs.NameAndAssignmentLemmas.{found_behind_nothing, cut_taken, part_taken, found_step, no_assignment, assignment_end, name_goes_on, stopped, equals_found}
use Rattle.hushlang.proofs.words.is_assignment.Goals as goal

pub parts-init : goal.parts-init
unfolding parts_of
parts-init c =
    ([], rw c.new-parts.ensures (sym (found_behind_nothing _)), refl, (λ _. refl), rw c.new-parts.ensures (cut_taken c.args.token c.requires), rw c.new-parts.ensures refl)

pub returns-in-None : goal.returns-in-None
returns-in-None c =
    let cut = rw c.in-Ok-Some.field-0-is at c.in-Ok-Some.ensures.cuts in
    let i = c.parts.invariant in
    ap is_some (no_assignment (parts_of c.args.token) i.0 (cutting.part c.in-Ok-Some.part) (to_come c.parts.parts) (to_come c.next.new.self) i.4 cut.0 c.in-None.ensures i.1)

pub returns-in-Some-eq61 : goal.returns-in-Some-eq61
returns-in-Some-eq61 c =
    let cut = rw c.in-Ok-Some.field-0-is at c.in-Ok-Some.ensures.cuts in
    let i = c.parts.invariant in
    equals_found (parts_of c.args.token) i.0 (cutting.part c.in-Ok-Some.part) c.in-Some-eq61.field-0 c.parts.named (to_come c.parts.parts) (to_come c.next.new.self) i.4 cut.0 c.in-Some-eq61.ensures (ap (λ b. b == 61) c.in-Some-eq61.field-0-test) i.2 i.1

pub parts-preserved : goal.parts-preserved
parts-preserved c =
    let cut = rw c.in-Ok-Some.field-0-is at c.in-Ok-Some.ensures.cuts in
    let i = c.parts.invariant in (
      i.0 ++ c.in-Some.b ∷ [],
      found_step (up_to_equals (parts_of c.args.token)) i.0 (cutting.part c.in-Ok-Some.part) c.in-Some.b (to_come c.parts.parts) (to_come c.next.new.self) i.4 cut.0 c.in-Some.ensures (ne_eqb c.in-Some.b 61 c.in-Some.b-test.1) i.1,
      sym (name_goes_on i.0 c.in-Some.b c.parts.named i.2 i.3 (sym c.continues_name.ensures ∙ c.if-continues_name.true)),
      (λ no. absurd (cc)),
      (part_taken (cutting.part c.in-Ok-Some.part) (to_come c.parts.parts) (to_come c.next.new.self) i.4 cut.0).0,
      c.in-Ok-Some.ensures.source ∙ i.5,
    )

pub returns-in-Some-2 : goal.returns-in-Some-2
returns-in-Some-2 c =
    let cut = rw c.in-Ok-Some.field-0-is at c.in-Ok-Some.ensures.cuts in
    let i = c.parts.invariant in
    stopped (parts_of c.args.token) i.0 (cutting.part c.in-Ok-Some.part) c.in-Some.b c.parts.named (to_come c.parts.parts) (to_come c.next.new.self) i.4 cut.0 c.in-Some.ensures (ne_eqb c.in-Some.b 61 c.in-Some.b-test.1) i.2 i.3 (sym c.continues_name.ensures ∙ c.if-continues_name.false) i.1

pub returns-in-Ok-None : goal.returns-in-Ok-None
returns-in-Ok-None c =
    let cut = rw c.in-Ok-None.field-0-is at c.in-Ok-None.ensures.cuts in
    ap is_some (assignment_end (parts_of c.args.token) c.parts.invariant.0 c.next.new.self.stop (to_come c.parts.parts) cut.0 c.parts.invariant.1)
