use Rattle.std.proofs.Common.{◌≡◌, ◌++◌, ◌∷◌, [], ℕ, List, Result, ap, sym, subst, ◌∙◌, append_assoc, Err}
use Rattle.std.proofs.lemmas.Result.{err_from_is_err_and}
use Rattle.text.specs.Lines.{lines_left}
use Rattle.envtools.specs.Scripting.{AppliesScript}
use Rattle.envtools.specs.declared.script.ScriptError.{ScriptError}
use Rattle.envtools.proofs.ScriptLemmas.{scripted-next, script-refused}
use Rattle.envtools.proofs.script.apply_lines.Goals as goal

pub loop-number-preserved : goal.loop-number-preserved
loop-number-preserved g c =
    let before = c.loop-number.invariant.before in
    let line : ℕ × List ℕ = (c.in-Some.number, c.in-Some.line.now) in
    let step : lines_left c.loop-number.number-iterator ≡ line ∷ lines_left c.next.new.self = c.in-Some.ensures.steps in
    record {
      before = before ++ line ∷ [];
      whole = c.loop-number.invariant.whole ∙ (ap (λ left. before ++ left) step ∙ sym (append_assoc before (line ∷ []) (lines_left c.next.new.self)));
      reached = scripted-next (g.C.Changing.pairs c.args.variables.now) (g.C.Changing.pairs c.loop-number.variables) (g.C.Changing.pairs c.apply_line.new.variables) before c.in-Some.number c.in-Some.line.now c.loop-number.invariant.reached c.in_ok-apply_line.ensures;
    }

pub returns-in_err-apply_line : goal.returns-in_err-apply_line
returns-in_err-apply_line g c =
    let before = c.loop-number.invariant.before in
    let line : ℕ × List ℕ = (c.in-Some.number, c.in-Some.line.now) in
    let step : lines_left c.loop-number.number-iterator ≡ line ∷ lines_left c.next.new.self = c.in-Some.ensures.steps in
    let p = err_from_is_err_and c.from_residual.result c.from_residual.ensures.1 in
    let answer : c.from_residual.result ≡ Err c.in_err-apply_line.field-0.0 = p.1 ∙ ap Err p.2 in
    let P : Result (Unit {0}) ScriptError → Type 0 = λ r. AppliesScript (g.C.Changing.pairs c.args.variables.now) c.args.text.now (g.C.Changing.pairs c.apply_line.new.variables) r in
    subst P (sym answer) (script-refused (g.C.Changing.pairs c.args.variables.now) (g.C.Changing.pairs c.loop-number.variables) (g.C.Changing.pairs c.apply_line.new.variables) c.args.text.now before (lines_left c.next.new.self) c.in-Some.number c.in-Some.line.now
    (c.loop-number.invariant.whole ∙ ap (λ left. before ++ left) step) c.loop-number.invariant.reached c.in_err-apply_line.field-0.0 c.in_err-apply_line.ensures)
