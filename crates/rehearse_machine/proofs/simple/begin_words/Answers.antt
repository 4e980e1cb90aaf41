use Rattle.std.proofs.Common.{◌∙◌, List, map, subst, Bool}
use Rattle.hushlang.specs.TreesShown as view
use Rattle.rehearse_rules.specs.ByShell.{turns_in}
use Rattle.text.specs.TextsShown.{bytes_of_words}
use Rattle.hushlang.specs.Expansion.{Parameters}
use Rattle.rehearse_terms.specs.State.{Text}
use Rattle.rehearse_machine.specs.Variables.{parameters_at}
use Rattle.rehearse_machine.specs.MovesShown.{under, IsExpanded}
use Rattle.rehearse_machine.specs.Places.{place_turns}
use Rattle.rehearse_machine.proofs.Beginnings.{words_too_long, words_found}
use Rattle.rehearse_machine.proofs.simple.begin_words.Goals as goal

pub returns-then-not-fit : goal.returns-then-not-fit
returns-then-not-fit g c top =
    let old = g.S.Store.record_of c.args.store.now in
    let words = map view.word c.args.words.now in
    let expand = λ (p : Parameters). turns_in c.args.shell p words in
    let found = subst (λ (fit : Bool). IsExpanded fit c.turned.new.fields (expand (parameters_at old.present))) c.if-not-fit.true c.in_ok-fit.ensures in
    words_too_long old expand (λ (found : List Text). place_turns c.args.shell c.args.name.now found c.args.frame.now (under old.present)) found

pub returns : goal.returns
returns g c top =
    let old = g.S.Store.record_of c.args.store.now in
    let words = map view.word c.args.words.now in
    let expand = λ (p : Parameters). turns_in c.args.shell p words in
    let found = subst (λ (fit : Bool). IsExpanded fit c.turned.new.fields (expand (parameters_at old.present))) c.if-not-fit.false c.in_ok-fit.ensures in
    words_found old expand (λ (found : List Text). place_turns c.args.shell c.args.name.now found c.args.frame.now (under old.present)) c.begin_turns.result (g.S.Store.record_of c.begin_turns.new.store)
    (bytes_of_words c.as_slice.result.now) (c.as_slice.ensures ∙ found.0) found.1 (c.begin_turns.ensures top)
