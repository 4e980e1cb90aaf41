use Rattle.std.proofs.Common.{◌≡◌, ◌∙◌, sym, ap, subst, map, IfOk, if◌then◌else◌}
use Rattle.hushlang.specs.Expansion.{joined}
use Rattle.hushlang.specs.TreesShown as view
use Rattle.hushlang_old.specs.OldFields.{newline_to_space, inserted}
use Rattle.hushlang_old.specs.Defaults.{looked_up}
use Rattle.hushlang_old.proofs.word_bytes.inserted.Goals as goal

pub returns-then-is_constant_word : goal.returns-then-is_constant_word
unfolding inserted
returns-then-is_constant_word g c =
    let bytes = joined (looked_up (g.V.Vars.parameters c.args.vars.now)) (view.word c.args.word.now) in
    c.in_ok-bytes.ensures ∙ sym (ap (λ constant. if constant then bytes else map newline_to_space bytes) (sym c.is_constant_word.ensures ∙ c.if-is_constant_word.true))

pub returns : goal.returns
unfolding inserted
returns g c =
    let bytes = joined (looked_up (g.V.Vars.parameters c.args.vars.now)) (view.word c.args.word.now) in
    let is = ap (map newline_to_space) (c.deref.ensures.value ∙ c.in_ok-bytes.ensures)
    ∙ sym (ap (λ constant. if constant then bytes else map newline_to_space bytes) (sym c.is_constant_word.ensures ∙ c.if-is_constant_word.false)) in
    subst (λ all. IfOk c.newlines_to_spaces.result (λ made. made.items ≡ all)) is c.newlines_to_spaces.ensures
