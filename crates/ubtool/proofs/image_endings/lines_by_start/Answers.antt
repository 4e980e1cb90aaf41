use Rattle.std.proofs.Common.{◌≡◌, ◌∙◌, ◌+◌, ◌++◌, ap, sym, subst, ℕ, [], ◌∷◌, arith}
use Rattle.std.specs.Option.{option_copied}
use Rattle.rehearse_terms.specs.State.{Text}
use Rattle.tool_words.specs.declared.ask.Taking.{Taking}
use Rattle.ubtool.specs.EndingsOfImages.{AreInOrder, AreLinesOf, LacksLines, endings_given}
use Rattle.ubtool.specs.Given.{Given}
use Rattle.ubtool.specs.Turns.{headed, named}
use Rattle.board_start.specs.Boards.{ListRead}
use Rattle.ubtool.specs.ListsShown.{list_shown}
use Rattle.ubtool.proofs.TurnLemmas.{none_yet, one_more, one-start}
use Rattle.ubtool.proofs.EndingsTurnLemmas.{turn-refused}
use Rattle.ubtool.proofs.image_endings.lines_by_start.Goals as goal

pub loop-place-init : goal.loop-place-init
loop-place-init c =
    let g : Given = endings_given c.args.order c.args.first.now (option_copied c.args.second) (list_shown c.args.list) c.args.list.taking c.args.ask.now in
    let none : AreInOrder g c.args.ask.now.flow c.args.ask.now.states c.args.ask.now.memory 0 [] [] = none_yet (AreLinesOf c.args.ask.now.flow c.args.ask.now.states c.args.ask.now.memory) (λ (part : Text). part) g c.args.start.now c.requires in
    ([], subst (λ (t : Text). AreInOrder g c.args.ask.now.flow c.args.ask.now.states c.args.ask.now.memory 0 [] t) (sym c.new-text.ensures.items) none)

pub returns-in-Err-clause-err : goal.returns-in-Err-clause-err
returns-in-Err-clause-err c =
    let g : Given = endings_given c.args.order c.args.first.now (option_copied c.args.second) (list_shown c.args.list) c.args.list.taking c.args.ask.now in
    let same : endings_given c.args.order c.args.first.now (option_copied c.args.second) (list_shown c.named-list.result) c.named-list.result.taking c.args.ask.now ≡ named g (c.loop-place.place + 1) =
    ap (λ (t : ListRead). endings_given c.args.order c.args.first.now (option_copied c.args.second) t c.named-list.result.taking c.args.ask.now) c.named-list.ensures.list
    ∙ ap (λ (k : Taking). endings_given c.args.order c.args.first.now (option_copied c.args.second) (list_shown c.args.list) k c.args.ask.now) c.named-list.ensures.taking in
    turn-refused g c.args.ask.now.flow c.args.ask.now.states c.args.ask.now.work c.args.ask.now.memory c.args.count c.loop-place.place c.loop-place.invariant.0 c.loop-place.text.items c.loop-place.invariant.1 c.loop-place-test.true c.in-Err.error
    (subst (λ (h : Given). LacksLines c.args.ask.now.states c.args.ask.now.work c.args.ask.now.memory h c.in-Err.error) same c.in-Err.ensures.err)

pub loop-place-preserved : goal.loop-place-preserved
loop-place-preserved c =
    let g : Given = endings_given c.args.order c.args.first.now (option_copied c.args.second) (list_shown c.args.list) c.args.list.taking c.args.ask.now in
    let same : endings_given c.args.order c.args.first.now (option_copied c.args.second) (list_shown c.named-list.result) c.named-list.result.taking c.args.ask.now ≡ named g (c.loop-place.place + 1) =
    ap (λ (t : ListRead). endings_given c.args.order c.args.first.now (option_copied c.args.second) t c.named-list.result.taking c.args.ask.now) c.named-list.ensures.list
    ∙ ap (λ (k : Taking). endings_given c.args.order c.args.first.now (option_copied c.args.second) (list_shown c.args.list) k c.args.ask.now) c.named-list.ensures.taking in
    let parts = c.loop-place.invariant.0 in
    let part : Text = c.in-Ok.lines.items in
    let so_far : AreInOrder g c.args.ask.now.flow c.args.ask.now.states c.args.ask.now.memory c.loop-place.place parts c.loop-place.text.items = c.loop-place.invariant.1 in
    let is = subst (λ (h : Given). AreLinesOf c.args.ask.now.flow c.args.ask.now.states c.args.ask.now.memory h part) same c.in-Ok.ensures.ok in
    let one = one_more (AreLinesOf c.args.ask.now.flow c.args.ask.now.states c.args.ask.now.memory) (λ (part : Text). part) g c.loop-place.place parts c.loop-place.text.items part so_far is in
    let start = one-start c.args.list.text.now so_far.start c.args.start.now so_far.start_is c.requires in
    let added : c.add_headed.new.text.items ≡ c.loop-place.text.items ++ headed so_far.start c.loop-place.place part =
    c.in_ok-add_headed.ensures.ok ∙ (λ i. c.loop-place.text.items ++ headed (sym start i) c.loop-place.place (c.deref.ensures.value i)) in
    (parts ++ part ∷ [], subst (λ (t : Text). AreInOrder g c.args.ask.now.flow c.args.ask.now.states c.args.ask.now.memory (c.loop-place.place + 1) (parts ++ part ∷ []) t) (sym added) one)

pub returns-clause-ok : goal.returns-clause-ok
returns-clause-ok c =
    let g : Given = endings_given c.args.order c.args.first.now (option_copied c.args.second) (list_shown c.args.list) c.args.list.taking c.args.ask.now in
    let all : c.loop-place.place ≡ c.args.count = omega (arith, c.loop-place-test.false, c.loop-place.auto.place-end) in
    (c.loop-place.invariant.0, subst (λ (n : ℕ). AreInOrder g c.args.ask.now.flow c.args.ask.now.states c.args.ask.now.memory n c.loop-place.invariant.0 c.loop-place.text.items) all c.loop-place.invariant.1)
