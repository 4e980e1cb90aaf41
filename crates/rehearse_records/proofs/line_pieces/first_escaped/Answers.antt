use Rattle.std.proofs.Common.{sym}
use Rattle.rehearse_records.proofs.EscapeLemmas.{line_end}
use Rattle.rehearse_records.proofs.line_pieces.first_escaped.Goals as goal

pub returns-then-not-has_escaped-clause-first : goal.returns-then-not-has_escaped-clause-first
returns-then-not-has_escaped-clause-first c =
    sym (line_end c.args.form c.min.result c.args.bytes.now c.in-Some.at (sym c.in-Some.ensures) (sym c.if-not-has_escaped.ensures))
