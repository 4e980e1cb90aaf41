use Rattle.std.proofs.Common.{◌≡◌, ◌∙◌, ◌*◌, ap, drop, sym, true, false}
use Rattle.std.proofs.lemmas.List.{take_rest}
use Rattle.inspecting.specs.Guesses.{is_start}
use Rattle.inspecting.proofs.GuessLemmas.{next-start}
use Rattle.inspecting.proofs.guessing.starts.Goals.{then-is_start+in_ok-push, else-is_start}
use Rattle.inspecting.proofs.guessing.starts.Goals as goal

pub loop-block-preserved : goal.loop-block-preserved
loop-block-preserved c =
    let rest : c.is_start.result ≡ is_start (drop (c.loop-block.block * 512) c.args.bytes.now) = c.is_start.ensures ∙ ap is_start (take_rest c.args.bytes.now (c.loop-block.block * 512)) in
    elim c.if-is_start.branch [
      | then-is_start+in_ok-push w ↦
          ap (λ v. v.items) w.found-is
          ∙ (w.in_ok-push.ensures.items ∙ next-start c.args.bytes.now c.loop-block.block true c.loop-block.found.items (sym w.if-is_start.true ∙ rest) c.loop-block.invariant)
      | else-is_start w ↦
          ap (λ v. v.items) w.found-is
          ∙ next-start c.args.bytes.now c.loop-block.block false c.loop-block.found.items (sym w.if-is_start.false ∙ rest) c.loop-block.invariant
    ]
