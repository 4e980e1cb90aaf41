use Rattle.std.proofs.Common.{reverse, sym, ap, ◌∙◌}
use Rattle.std.proofs.lemmas.List.{reverse-reverse}
use Rattle.rehearse_endings.proofs.BelowLemmas.{whole_told}
use Rattle.rehearse_endings.proofs.entry.is_at.Goals as goal

pub returns-then-entry-clause-told : goal.returns-then-entry-clause-told
returns-then-entry-clause-told g c = λ h.
    let top = reverse c.args.entry.now.frames.items in
    let frames = (g.S.Store.record_of c.args.store.now).present.frames in
    let same = whole_told c.args.entry.now.whole top frames c.if-entry.true h in
    c.same_frames.ensures.told (c.deref.ensures.value ∙ sym (reverse-reverse c.args.entry.now.frames.items) ∙ ap reverse (sym (c.frames.ensures ∙ same)) ∙ reverse-reverse c.frames.result.now)
