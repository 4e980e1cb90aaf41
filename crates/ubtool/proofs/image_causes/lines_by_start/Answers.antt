use Rattle.std.proofs.Common.{◌≡◌, ◌∙◌, ◌+◌, ◌++◌, ◌&&◌, ap, sym, subst, refl, ℕ, [], ◌∷◌, arith}
use Rattle.std.proofs.Math.Bool.{and-true}
use Rattle.std.proofs.lemmas.List.Folds.{list_all-append}
use Rattle.std.specs.List.{list_all}
use Rattle.std.specs.Option.{option_copied}
use Rattle.rehearse_terms.specs.State.{Text}
use Rattle.tool_words.specs.declared.ask.Taking.{Taking}
use Rattle.ubtool.specs.CausesOfImages.{AreCausesOf, AreInOrder, LacksCauses, Part, causes_given}
use Rattle.ubtool.specs.Given.{Given}
use Rattle.ubtool.specs.Turns.{headed, named}
use Rattle.board_start.specs.Boards.{ListRead}
use Rattle.ubtool.specs.ListsShown.{list_shown}
use Rattle.ubtool.proofs.TurnLemmas.{none_yet, one_more, one-start}
use Rattle.ubtool.proofs.CausesTurnLemmas.{turn-refused}
use Rattle.ubtool.proofs.image_causes.lines_by_start.Goals as goal

pub loop-place-init : goal.loop-place-init
loop-place-init c =
    let g : Given = causes_given c.args.order c.args.first.now (option_copied c.args.second) (list_shown c.args.list) c.args.list.taking c.args.ask.now in
    let none : AreInOrder g c.args.ask.now.check 0 [] [] = none_yet (AreCausesOf c.args.ask.now.check) (λ (part : Part). part.0) g c.args.start.now c.requires in
    ([], subst (λ (t : Text). AreInOrder g c.args.ask.now.check 0 [] t) (sym c.new-text.ensures.items) none, refl)

pub returns-in-Err-clause-err : goal.returns-in-Err-clause-err
returns-in-Err-clause-err c =
    let g : Given = causes_given c.args.order c.args.first.now (option_copied c.args.second) (list_shown c.args.list) c.args.list.taking c.args.ask.now in
    let same : causes_given c.args.order c.args.first.now (option_copied c.args.second) (list_shown c.named-list.result) c.named-list.result.taking c.args.ask.now ≡ named g (c.loop-place.place + 1) =
    ap (λ (t : ListRead). causes_given c.args.order c.args.first.now (option_copied c.args.second) t c.named-list.result.taking c.args.ask.now) c.named-list.ensures.list
    ∙ ap (λ (k : Taking). causes_given c.args.order c.args.first.now (option_copied c.args.second) (list_shown c.args.list) k c.args.ask.now) c.named-list.ensures.taking in
    turn-refused g c.args.ask.now.check c.args.count c.loop-place.place c.loop-place.invariant.0 c.loop-place.text.items c.loop-place.invariant.1 c.loop-place-test.true c.in-Err.error
    (subst (λ (h : Given). LacksCauses h c.in-Err.error) same c.in-Err.ensures.err)

pub loop-place-preserved : goal.loop-place-preserved
loop-place-preserved c =
    let g : Given = causes_given c.args.order c.args.first.now (option_copied c.args.second) (list_shown c.args.list) c.args.list.taking c.args.ask.now in
    let same : causes_given c.args.order c.args.first.now (option_copied c.args.second) (list_shown c.named-list.result) c.named-list.result.taking c.args.ask.now ≡ named g (c.loop-place.place + 1) =
    ap (λ (t : ListRead). causes_given c.args.order c.args.first.now (option_copied c.args.second) t c.named-list.result.taking c.args.ask.now) c.named-list.ensures.list
    ∙ ap (λ (k : Taking). causes_given c.args.order c.args.first.now (option_copied c.args.second) (list_shown c.args.list) k c.args.ask.now) c.named-list.ensures.taking in
    let parts = c.loop-place.invariant.0 in
    let part : Part = (c.in-Ok.part.0.items, c.in-Ok.part.1) in
    let so_far : AreInOrder g c.args.ask.now.check c.loop-place.place parts c.loop-place.text.items = c.loop-place.invariant.1 in
    let is = subst (λ (h : Given). AreCausesOf c.args.ask.now.check h part) same c.in-Ok.ensures.ok in
    let one = one_more (AreCausesOf c.args.ask.now.check) (λ (part : Part). part.0) g c.loop-place.place parts c.loop-place.text.items part so_far is in
    let start = one-start c.args.list.text.now so_far.start c.args.start.now so_far.start_is c.requires in
    let added : c.add_headed.new.text.items ≡ c.loop-place.text.items ++ headed so_far.start c.loop-place.place part.0 =
    c.in_ok-add_headed.ensures.ok ∙ (λ i. c.loop-place.text.items ++ headed (sym start i) c.loop-place.place (c.deref.ensures.value i)) in
    let well : c.both-fine.result ≡ list_all (λ (p : Part). p.1) (parts ++ part ∷ []) =
    c.both-fine.ensures ∙ ap (λ b. b && part.1) c.loop-place.invariant.2
    ∙ ap (λ b. list_all (λ (p : Part). p.1) parts && b) (sym (and-true part.1))
    ∙ sym (list_all-append (λ (p : Part). p.1) parts (part ∷ [])) in
    (parts ++ part ∷ [], subst (λ (t : Text). AreInOrder g c.args.ask.now.check (c.loop-place.place + 1) (parts ++ part ∷ []) t) (sym added) one, well)

pub returns-clause-ok : goal.returns-clause-ok
returns-clause-ok c =
    let g : Given = causes_given c.args.order c.args.first.now (option_copied c.args.second) (list_shown c.args.list) c.args.list.taking c.args.ask.now in
    let all : c.loop-place.place ≡ c.args.count = omega (arith, c.loop-place-test.false, c.loop-place.auto.place-end) in
    (c.loop-place.invariant.0, subst (λ (n : ℕ). AreInOrder g c.args.ask.now.check n c.loop-place.invariant.0 c.loop-place.text.items) all c.loop-place.invariant.1, c.loop-place.invariant.2)
