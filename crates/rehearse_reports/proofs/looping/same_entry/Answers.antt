use Rattle.std.proofs.Common.{◌∙◌, sym}
use Rattle.rehearse_reports.proofs.SameLemmas.{same_flag, same_texts, same_logged}
use Rattle.rehearse_reports.proofs.looping.same_entry.Goals as goal

pub returns : goal.returns
returns c = λ same.
    sym c.a.view_is
    ∙ same_logged _ _ (same_flag c.a.inside.success c.b.inside.success c.if-a-b.false) (same_texts c.eq.result c.a.inside.words.items c.b.inside.words.items c.eq.ensures same)
    (same_flag c.a.inside.stays c.b.inside.stays c.if-a-b-2.false) (same_flag c.a.inside.again c.b.inside.again c.if-a-b-3.false)
    ∙ c.b.view_is
