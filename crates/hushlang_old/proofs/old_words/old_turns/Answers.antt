use Rattle.std.proofs.Common.{◌∙◌, ◌++◌, ap, map, arith}
use Rattle.std.proofs.Math.ListN.{drop_of_length-le}
use Rattle.hushlang.specs.TreesShown as view
use Rattle.hushlang.proofs.ExpandLemmas.{drop_next}
use Rattle.hushlang_old.specs.OldFields.{turns_in, turns_of_word, old_turns}
use Rattle.hushlang_uboot.proofs.WordLemmas.{flat_next, flat_done}
use Rattle.hushlang_old.proofs.old_words.old_turns.Goals as goal

pub loop-word-preserved : goal.loop-word-preserved
loop-word-preserved g c =
    let parameters = g.V.Vars.parameters c.args.vars.now in
    let first = ap (map view.word) (drop_next c.args.words.now c.loop-word.word-index c.word-item.result (omega arith) c.word-item.is) in
    flat_next (turns_of_word parameters) _ _ _ (view.word c.word-item.result) _ _ first c.loop-word.invariant
    (c.in_ok-append_copies.ensures ∙ ap (λ more. map (λ turn. turn.items) c.loop-word.turns.items ++ more)
    (ap (map (λ turn. turn.now)) c.deref-in-loop-word.ensures.value ∙ c.in_ok-turns_in.ensures
    ∙ ap turns_in (c.deref.ensures.value ∙ c.in_ok-bytes.ensures)))

pub returns : goal.returns
unfolding old_turns
returns g c =
    let parameters = g.V.Vars.parameters c.args.vars.now in
    let done = ap (map view.word) (drop_of_length-le c.args.words.now {i = c.loop-word.word-index} (omega arith)) in
    flat_done (turns_of_word parameters) _ _ _ done c.loop-word.invariant
