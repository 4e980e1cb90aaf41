use Rattle.std.proofs.Common.{◌≡◌, ◌+◌, sym, subst, true, false, arith}
use Rattle.hushlang.proofs.Shortening.{IsShortSoFar, pushed}
use Rattle.hushlang.proofs.expanding.shortened.Goals.{else-separator-via-then-separator+else-cut, else-separator-via-else-separator}
use Rattle.hushlang.proofs.expanding.shortened.Goals as goal

pub loop-byte-preserved : goal.loop-byte-preserved
loop-byte-preserved c =
    let value = c.args.value.now in
    let at = c.loop-byte.byte-index in
    let short = c.loop-byte.short.items in
    let apart : c.separates-separator.result ≡ true → c.loop-byte.cut ≡ false = elim c.else-separator.branch [
      | else-separator-via-then-separator+else-cut w ↦ (λ is. w.if-cut.false)
      | else-separator-via-else-separator w ↦ (λ is. let no = w.if-separator.false in cc)
    ] in
    subst (λ items. IsShortSoFar value items (at + 1) c.separates-separator.result) (sym c.in_ok-push.ensures.items)
    (pushed value short at c.loop-byte.cut c.separates-separator.result (omega arith) (sym c.separates-separator.ensures) apart c.loop-byte.invariant)
