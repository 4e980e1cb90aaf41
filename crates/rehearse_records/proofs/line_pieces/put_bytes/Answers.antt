use Rattle.std.proofs.Common.{◌+◌, ◌≤◌, ℕ, List, length, arith, sym, subst, ◌∙◌}
use Rattle.std.proofs.lemmas.List.{take_rest, length-drop}
use Rattle.std.proofs.lemmas.Result.{err_from_is_err_and}
use Rattle.rehearse_records.specs.LinePieces.{form_of}
use Rattle.rehearse_records.proofs.EscapeLemmas.{SoFar, as_it_is, at_once, one_more, broke_in_front, broke_behind, at_last}
use Rattle.rehearse_records.proofs.line_pieces.put_bytes.Goals as goal

pub returns-in_err-put : goal.returns-in_err-put
returns-in_err-put g c =
    let p = err_from_is_err_and c.from_residual.result c.from_residual.ensures.1 in
    rw p.1 (broke_in_front _ _ (as_it_is c.args.form) c.in-Some.at (sym c.first_escaped.ensures.first ∙ c.in-Some.is) c.loop-at.invariant.0 c.in_err-put.ensures)

pub returns-in_err-put_byte : goal.returns-in_err-put_byte
returns-in_err-put_byte g c =
    let p = err_from_is_err_and c.from_residual-in_err-put_byte.result c.from_residual-in_err-put_byte.ensures.1 in
    rw p.1 (broke_behind _ _ (as_it_is c.args.form) c.in-Some.at (sym c.first_escaped.ensures.first ∙ c.in-Some.is) c.loop-at.invariant.0 c.in_ok-put.ensures c.in_err-put_byte.ensures)

pub loop-at-preserved : goal.loop-at-preserved
loop-at-preserved g c =
    let P : List ℕ → Type 0 = λ rest. SoFar (form_of c.args.form) (g.O.Out.sink c.args.out.now) (g.O.Out.sink c.put_byte.new.out) c.args.page.now.items c.put_byte.new.page.items c.args.bytes.now rest in
    let far = one_more _ _ (as_it_is c.args.form) c.in-Some.at (sym c.first_escaped.ensures.first ∙ c.in-Some.is) c.loop-at.invariant.0 c.in_ok-put.ensures c.in_ok-put_byte.ensures in
    let cut = take_rest c.loop-at.rest.now (c.in-Some.at + 1) in
    let Q : List ℕ → Type 0 = λ rest. length rest ≤ length c.args.bytes.now in
    let dropped = length-drop (c.in-Some.at + 1) c.loop-at.rest.now in
    (subst P (sym cut) far, subst Q (sym cut) (omega (arith, dropped, c.loop-at.invariant.1)))

pub returns-then-not-has_escaped : goal.returns-then-not-has_escaped
returns-then-not-has_escaped g c = at_once _ _ (as_it_is c.args.form) _ _ _ _ _ c.put.result (sym c.if-not-has_escaped.ensures) c.put.ensures

pub returns : goal.returns
returns g c =
    at_last _ _ (as_it_is c.args.form) _ _ c.put-2.result (sym c.first_escaped.ensures.first ∙ c.in_default.is) c.loop-at.invariant.0 c.put-2.ensures
