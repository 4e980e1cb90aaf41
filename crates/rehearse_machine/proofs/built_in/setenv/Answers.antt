use Rattle.std.proofs.Common.{sym, ap, ◌∙◌, arith, ◌∷◌, [], take, drop, length, ◌-◌, List, ℕ, ◌≤◌}
use Rattle.std.specs.Prelude.{Vec}
use Rattle.std.specs.declared.alloc.Global.{Global}
use Rattle.text.specs.TextsShown.{bytes_of_words}
use Rattle.commands.specs.VariableNames.{is_bad_name}
use Rattle.rehearse_machine.proofs.CommandMoves.{first_and_rest, deletes, assigns, empty_rest, some_rest}
use Rattle.rehearse_machine.proofs.built_in.setenv.Goals as goal

abbrev rest_of : List (Vec ℕ Global) → List (Vec ℕ Global)
rest_of xs = take (length xs - 1) (drop 1 xs)

pub returns-then-is_empty : goal.returns-then-is_empty
returns-then-is_empty g c =
    let xs = c.args.words.now in
    let h : 1 ≤ length xs = omega (arith, c.in-len1-up.len_at_least) in
    let all = first_and_rest xs c.name-item.result h c.name-item.is in
    let none = empty_rest (rest_of xs) c.if-is_empty.ensures in
    deletes c.set_status-then-is_empty.result _ _ _ c.deref-then-is_empty.result.now (bytes_of_words xs)
    (ap bytes_of_words (all ∙ ap (λ (ys : List (Vec ℕ Global)). c.name-item.result ∷ ys) none) ∙ ap (λ (n : List ℕ). n ∷ []) (sym c.deref-then-is_empty.ensures.value))
    (ap is_bad_name (c.deref-then-is_empty.ensures.value ∙ sym c.deref.ensures.value) ∙ sym c.if-is_bad_name.ensures)
    c.in_ok-set_env.ensures.ok c.set_status-then-is_empty.ensures.ok

pub returns : goal.returns
returns g c =
    let xs = c.args.words.now in
    let h : 1 ≤ length xs = omega (arith, c.in-len1-up.len_at_least) in
    let all = first_and_rest xs c.name-item.result h c.name-item.is in
    assigns c.set_status-2.result _ _ _ c.deref-2.result.now c.deref-3.result.now (bytes_of_words (rest_of xs)) (bytes_of_words xs)
    (ap bytes_of_words all ∙ ap (λ (n : List ℕ). n ∷ bytes_of_words (rest_of xs)) (sym c.deref-2.ensures.value))
    (some_rest (rest_of xs) c.if-is_empty.ensures) (c.deref-3.ensures.value ∙ c.in_ok-value.ensures)
    (ap is_bad_name (c.deref-2.ensures.value ∙ sym c.deref.ensures.value) ∙ sym c.if-is_bad_name.ensures)
    c.in_ok-set_env-2.ensures.ok c.set_status-2.ensures.ok
