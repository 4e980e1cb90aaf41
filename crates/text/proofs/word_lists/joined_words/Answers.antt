use Rattle.std.proofs.Common.{◌≡◌, [], ◌++◌, map, take, ap, ◌∙◌, arith, get_or}
use Rattle.text.specs.Words.{joined_words}
use Rattle.text.proofs.JoinedWords.{joined-first, joined-later}
use Rattle.text.proofs.word_lists.joined_words.Goals as goal
use Rattle.text.proofs.word_lists.joined_words.Goals.{then-at-gt0+in_ok-push, else-at-gt0}

pub loop-at-preserved : goal.loop-at-preserved
loop-at-preserved g c =
    let items = g.W.AsSlice.items in
    let d = c.index-words-at.result in
    let word : c.as_slice.result.now ≡ items (get_or c.args.words.now c.loop-at.at d) = c.as_slice.ensures ∙ ap items c.index-words-at.is in
    let made = c.in_ok-extend_from_slice.ensures.items in
    elim c.if-at-gt0.branch [
      | then-at-gt0+in_ok-push w ↦
          let space = w.in_ok-push.ensures.items in
          let more = joined-later items c.args.words.now c.loop-at.at d c.loop-at-test.true w.if-at-gt0.true in
          cc
      | else-at-gt0 w ↦
          let first : c.loop-at.at ≡ 0 = omega arith in
          let empty : c.if-at-gt0.joined.items ≡ [] =
          ap (λ v. v.items) w.joined-is ∙ c.loop-at.invariant ∙ ap (λ n. joined_words (map items (take n c.args.words.now))) first in
          let only : c.if-at-gt0.joined.items ++ c.as_slice.result.now ≡ c.as_slice.result.now = ap (λ t. t ++ c.as_slice.result.now) empty in
          let one = joined-first items c.args.words.now c.loop-at.at d c.loop-at-test.true first in
          cc
    ]
