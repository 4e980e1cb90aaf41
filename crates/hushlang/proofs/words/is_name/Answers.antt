use Rattle.std.proofs.Common.{◌∙◌, ◌==◌, ap, sym, length}
use Rattle.hushlang.proofs.NameAndAssignmentLemmas.{name_all}
use Rattle.hushlang.proofs.words.is_name.Goals as goal

pub returns-then-begins_name : goal.returns-then-begins_name
returns-then-begins_name c = ap (λ n. n == length c.args.bytes.now) c.name_len.ensures.value ∙ name_all c.args.bytes.now 0 c.in-len1-up.len_at_least (sym c.begins_name.ensures ∙ c.if-begins_name.true)
