use Rattle.rehearse_records.proofs.EscapeLemmas.{plain_text}
use Rattle.rehearse_records.proofs.line_pieces.is_plain_text.Goals as goal

pub returns : goal.returns
returns c = plain_text c.has_escaped.result c.args.bytes.now c.has_escaped.ensures
