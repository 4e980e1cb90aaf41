use Rattle.std.proofs.Common.{◌++◌, ◌∷◌, [], ℕ, List, codes, subst}
use Rattle.std.proofs.lemmas.Result.{err_from_is_err_and}
use Rattle.output.specs.Sink.{BrokeOff, Wrote}
use Rattle.output.proofs.SinkLemmas.{BrokeOff-after, BrokeOff-before}
use Rattle.tool_images.proofs.LineLemmas.{Prints-behind}
use Rattle.tool_images.proofs.fault_line.write_line.Goals as goal

pub returns-in_err-write_all : goal.returns-in_err-write_all
returns-in_err-write_all g c =
    let p = err_from_is_err_and c.from_residual.result c.from_residual.ensures.1 in
    let P : List ℕ → Type 0 = λ t. BrokeOff (g.O.Out.sink c.args.out.now) (g.O.Out.sink c.write_all.new.out) t in
    ([], rw p.1 (BrokeOff-before (codes ": " ++ ([] ++ 10 ∷ [])) (subst P c.as_bytes.ensures.value c.in_err-write_all.ensures)))

pub returns-in_err-write_all-2 : goal.returns-in_err-write_all-2
returns-in_err-write_all-2 g c =
    let p = err_from_is_err_and c.from_residual-in_err-write_all-2.result c.from_residual-in_err-write_all-2.ensures.1 in
    let P : List ℕ → Type 0 = λ t. Wrote (g.O.Out.sink c.args.out.now) (g.O.Out.sink c.write_all.new.out) t in
    let name = subst P c.as_bytes.ensures.value c.in_ok-write_all.ensures in
    ([], rw p.1 (BrokeOff-after name (BrokeOff-before ([] ++ 10 ∷ []) c.in_err-write_all-2.ensures)))

pub returns-in_err-write_text : goal.returns-in_err-write_text
returns-in_err-write_text g c =
    let p = err_from_is_err_and c.from_residual-in_err-write_text.result c.from_residual-in_err-write_text.ensures.1 in
    let P : List ℕ → Type 0 = λ t. Wrote (g.O.Out.sink c.args.out.now) (g.O.Out.sink c.write_all.new.out) t in
    let name = subst P c.as_bytes.ensures.value c.in_ok-write_all.ensures in
    let text = c.in_err-write_text.ensures in
    (text.0, rw p.1 (BrokeOff-after name (BrokeOff-after c.in_ok-write_all-2.ensures (BrokeOff-before (10 ∷ []) text.1))))

pub returns : goal.returns
returns g c =
    let P : List ℕ → Type 0 = λ t. Wrote (g.O.Out.sink c.args.out.now) (g.O.Out.sink c.write_all.new.out) t in
    let name = subst P c.as_bytes.ensures.value c.in_ok-write_all.ensures in
    let text = c.in_ok-write_text.ensures in
    let r = c.write_all-3.result in
    (text.0, Prints-behind r _ _ _ _ _ name (Prints-behind r _ _ _ _ _ c.in_ok-write_all-2.ensures (Prints-behind r _ _ _ _ _ text.1 c.write_all-3.ensures)))
