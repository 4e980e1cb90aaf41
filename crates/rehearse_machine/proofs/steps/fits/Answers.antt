use Rattle.std.proofs.Common.{◌≡◌, ◌∙◌, sym, ap, length, take, arith, refl, ℕ}
use Rattle.std.specs.List.{sum_by}
use Rattle.std.proofs.lemmas.Bool.{le-leb, lt-leb}
use Rattle.std.proofs.lemmas.List.Sums.{sum_by_more, sum_by_more_le}
use Rattle.std.proofs.Math.Seq.{take-length}
use Rattle.text.specs.TextsShown.{bytes_of_words}
use Rattle.hushlang.specs.Expansion.{size, most_bytes}
use Rattle.rehearse_machine.proofs.FitLemmas.{byte_count, size_of_words}
use Rattle.rehearse_machine.proofs.steps.fits.Goals as goal

pub loop-field-init : goal.loop-field-init
loop-field-init c = (refl, omega arith)

pub overflow_sub-size : goal.overflow_sub-size
overflow_sub-size c = c.loop-field.invariant.1

pub returns-then-len-size : goal.returns-then-len-size
returns-then-len-size c =
    let counted = c.loop-field.invariant.0 in
    let within = c.loop-field.invariant.1 in
    let more = sum_by_more_le byte_count c.args.fields.now c.loop-field.field-index c.field-item.result c.loop-field-test.true in
    let same = ap byte_count c.field-item.is in
    let whole = size_of_words c.args.fields.now in
    let len = c.len.ensures in
    let many = c.if-len-size.true in
    sym (lt-leb (size (bytes_of_words c.args.fields.now)) most_bytes (omega arith))

pub loop-field-preserved : goal.loop-field-preserved
loop-field-preserved c =
    let counted = c.loop-field.invariant.0 in
    let within = c.loop-field.invariant.1 in
    let more = sum_by_more byte_count c.args.fields.now c.loop-field.field-index c.field-item.result c.loop-field-test.true in
    let same = ap byte_count c.field-item.is in
    let len = c.len-size.ensures in
    let first = c.len.ensures in
    let few = c.if-len-size.false in
    (omega arith, omega arith)

pub returns : goal.returns
returns c =
    let counted = c.loop-field.invariant.0 in
    let within = c.loop-field.invariant.1 in
    let end = c.loop-field-test.false in
    let index = c.loop-field.auto.field-index-end in
    let whole = size_of_words c.args.fields.now in
    let all : sum_by byte_count (take c.loop-field.field-index c.args.fields.now) ≡ sum_by byte_count c.args.fields.now =
    ap (λ (n : ℕ). sum_by byte_count (take n c.args.fields.now)) (let n : c.loop-field.field-index ≡ length c.args.fields.now = omega arith in n) ∙ ap (sum_by byte_count) (take-length c.args.fields.now) in
    sym (le-leb (size (bytes_of_words c.args.fields.now)) most_bytes (omega arith))
