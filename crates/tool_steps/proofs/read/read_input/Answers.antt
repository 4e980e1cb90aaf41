use Rattle.std.proofs.Common.{◌<◌, ◌≤◌, ◌≡◌, ◌∙◌, List, None, Some, ℕ, arith, length, subst, sym}
use Rattle.tool_steps.proofs.InputLemmas.{cut-input, ended-input, long-input}
use Rattle.tool_steps.specs.ReadingFiles.{cut_off_line}
use Rattle.tool_steps.proofs.read.read_input.Goals as goal

pub returns-then-len-gt-LIMIT : goal.returns-then-len-gt-LIMIT
returns-then-len-gt-LIMIT g c =
    let past : 1048576 < length c.in-Ok.text.items = omega arith in
    long-input (g.R.Read.remaining c.args.input.now) c.in-Ok.text.items c.in-Ok.ensures.bytes past

pub returns-in-Some : goal.returns-in-Some
returns-in-Some g c =
    let short : length c.in-Ok.text.items ≤ 1048576 = omega arith in
    let P : List ℕ → Type 0 = λ text. cut_off_line text ≡ Some c.in-Some.line in
    let cut : P c.in-Ok.text.items = subst P c.deref.ensures.value (sym c.cut_off_line.ensures ∙ c.in-Some.is) in
    cut-input (g.R.Read.remaining c.args.input.now) c.in-Ok.text.items c.in-Some.line c.in-Ok.ensures.bytes short cut

pub returns-in-None : goal.returns-in-None
returns-in-None g c =
    let short : length c.in-Ok.text.items ≤ 1048576 = omega arith in
    let P : List ℕ → Type 0 = λ text. cut_off_line text ≡ None in
    let ended : P c.in-Ok.text.items = subst P c.deref.ensures.value (sym c.cut_off_line.ensures ∙ c.in-None.is) in
    ended-input (g.R.Read.remaining c.args.input.now) c.in-Ok.text.items c.in-Ok.ensures.bytes short ended
