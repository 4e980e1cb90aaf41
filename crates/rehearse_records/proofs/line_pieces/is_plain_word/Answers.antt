use Rattle.std.proofs.Common.{sym, ◌∙◌}
use Rattle.rehearse_records.proofs.EscapeLemmas.{plain_word}
use Rattle.rehearse_records.proofs.line_pieces.is_plain_word.Goals as goal

pub returns-then-not-is_empty : goal.returns-then-not-is_empty
returns-then-not-is_empty c = plain_word c.has_escaped.result c.args.bytes.now (sym c.is_empty.ensures ∙ c.if-not-is_empty.true) c.has_escaped.ensures
