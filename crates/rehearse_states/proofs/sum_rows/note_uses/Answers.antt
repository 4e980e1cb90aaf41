use Rattle.std.proofs.Common.{subst, sym, ap}
use Rattle.rehearse_states.specs.SumNodes.{SumNode, sum_shown}
use Rattle.rehearse_states.specs.SumRows.{UsesAt}
use Rattle.rehearse_states.proofs.SumLemmas.{uses_both}
use Rattle.rehearse_states.proofs.sum_rows.note_uses.Goals as goal

pub returns-in-Both-clause-noted : goal.returns-in-Both-clause-noted
returns-in-Both-clause-noted c =
    let new = c.note_use-in-Both.new.last.items in
    subst (λ (x : SumNode). UsesAt x new c.args.at) (sym (ap sum_shown c.in-Both.is))
    (uses_both c.in-Both.expected c.in-Both.won c.in-Both.lost c.args.at c.args.last.now.items c.note_use.new.last.items new c.requires c.note_use.ensures.many c.note_use.ensures.noted c.note_use-in-Both.ensures.noted c.note_use-in-Both.ensures.kept)
