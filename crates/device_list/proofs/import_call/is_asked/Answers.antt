use Rattle.std.proofs.Common.{sym, ◌∙◌}
use Rattle.device_list.proofs.ImportLemmas.{asked_among}
use Rattle.device_list.proofs.import_call.is_asked.Goals as goal

pub returns-then-first : goal.returns-then-first
returns-then-first c =
    c.is_among.ensures ∙ asked_among c.args.names.now c.args.name.now c.args.first (sym c.is_empty.ensures ∙ c.if-is_empty.false) c.if-first.true
