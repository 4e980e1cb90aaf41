use Rattle.std.proofs.Common.{sym, ◌∙◌}
use Rattle.tool_steps.proofs.PrintLemmas.{image-bytes}
use Rattle.ubtool.proofs.GivenLemmas.{first-bytes}
use Rattle.ubtool.proofs.source_bytes.bytes_of.Goals as goal

pub returns-clause-first : goal.returns-clause-first
returns-clause-first c = c.deref.ensures.value ∙ first-bytes c.args.board.now.images

pub returns-clause-second : goal.returns-clause-second
returns-clause-second c = c.second_bytes.ensures ∙ sym (image-bytes c.args.board.now.images)
