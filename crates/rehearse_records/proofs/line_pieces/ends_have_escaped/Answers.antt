use Rattle.std.proofs.Common.{ℕ, not}
use Rattle.rehearse_records.specs.LinePieces.{stands}
use Rattle.rehearse_records.proofs.EscapeLemmas.{any-ends}
use Rattle.rehearse_records.proofs.line_pieces.ends_have_escaped.Goals as goal

pub returns : goal.returns
returns g c =
    let test = λ (b : ℕ). not (stands c.args.form b) in
    rw (c.block_has_escaped.ensures, c.block_has_escaped-2.ensures, c.in-Some.ensures.cases.same, c.in-Some-last_chunk.ensures.cases.1.same)
    (any-ends test c.args.bytes.now g.row.N c.requires.short)
