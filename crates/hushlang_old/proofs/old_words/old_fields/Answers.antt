use Rattle.std.proofs.Common.{◌≡◌, ◌∙◌, sym, ap, subst, map, [], unwrap_or, IfOk}
use Rattle.hushlang.specs.TreesShown as view
use Rattle.hushlang_old.specs.OldFields.{reread}
use Rattle.hushlang_uboot.proofs.WordLemmas.{all_of_words}
use Rattle.hushlang_old.proofs.OldFieldLemmas.{constant_words, reread_words}
use Rattle.hushlang_old.proofs.old_words.old_fields.Goals as goal

pub constant_fields-requires : goal.constant_fields-requires
constant_fields-requires g c =
    all_of_words c.args.words.now ∙ sym c.are_constant.ensures ∙ c.if-are_constant.true

pub returns-then-are_constant : goal.returns-then-are_constant
returns-then-are_constant g c =
    let constant = all_of_words c.args.words.now ∙ sym c.are_constant.ensures ∙ c.if-are_constant.true in
    let is = constant_words (g.V.Vars.parameters c.args.vars.now) (map view.word c.args.words.now) constant in
    subst (λ all. IfOk c.constant_fields.result (λ found. map (λ field. field.items) found.items ≡ all)) (sym is) c.constant_fields.ensures

pub returns : goal.returns
returns g c =
    let constant = all_of_words c.args.words.now ∙ sym c.are_constant.ensures ∙ c.if-are_constant.false in
    let is = reread_words (g.V.Vars.parameters c.args.vars.now) (map view.word c.args.words.now) constant in
    let read = ap (λ text. unwrap_or (reread text) []) (c.deref.ensures.value ∙ c.in_ok-text.ensures) in
    subst (λ all. IfOk c.reread.result (λ found. map (λ field. field.items) found.items ≡ all)) (read ∙ sym is) c.reread.ensures
