use Rattle.std.proofs.Common.{◌≡◌, ◌∙◌, sym, ap, subst, map, [], unwrap_or, IfOk, arith}
use Rattle.std.proofs.Math.ListN.{drop_of_length-le}
use Rattle.hushlang_old.specs.OldFields.{read_all, words_of, reread}
use Rattle.hushlang_old.specs.OldFieldsShown as shown
use Rattle.hushlang_old.proofs.rereading.reread.Goals as goal

pub returns : goal.returns
unfolding reread
returns c =
    let done = drop_of_length-le c.args.text.now {i = c.loop-byte.byte-index} (omega arith) in
    let all = ap (λ bytes. read_all bytes (shown.reading c.loop-byte.reading)) (sym done) ∙ c.loop-byte.invariant in
    subst (λ found. IfOk c.into_words.result (λ words. map (λ word. word.items) words.items ≡ unwrap_or found [])) (ap words_of all) c.into_words.ensures
