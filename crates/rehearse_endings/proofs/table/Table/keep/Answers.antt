use Rattle.std.specs.Prelude.{Contains}
use Rattle.std.proofs.Common.{ℕ, false, sym, ◌≡◌, ◌∙◌, ◌<◌, ◌++◌, ◌∷◌, [], List, length, max, refl, ap, subst, rules, arith}
use Rattle.std.specs.declared.alloc.Global.{Global}
use Rattle.std.specs.declared.vec.Vec.{Vec}
use Rattle.bootstore_state.specs.Moment.{RunningFrame}
use Rattle.rehearse_endings.specs.Held.{size_of}
use Rattle.rehearse_endings.specs.Indexed.{WayIsNoted}
use Rattle.rehearse_reports.specs.declared.known.Known.{Known}
use Rattle.rehearse_endings.specs.declared.entry.Entry.{Entry}
use Rattle.rehearse_endings.specs.declared.table.Table.{Table}
use Rattle.rehearse_endings.proofs.HeldLemmas.{held_more, left_of}
use Rattle.rehearse_endings.proofs.IndexLemmas.{all_noted}
use Rattle.rehearse_endings.proofs.table.Table.keep.Goals as goal

pub returns-in_default-clause-full : goal.returns-in_default-clause-full
returns-in_default-clause-full c = λ count is.
    let room = c.args.self.now.room in
    subst (λ (ks : List Known). room < size_of c.args.frames.items ks) c.deref-2.ensures.value (subst (λ (fs : List RunningFrame). room < size_of fs c.deref-2.result.now) c.deref.ensures.value c.in_default.ensures)

pub returns-in_err-number-clause-limit : goal.returns-in_err-number-clause-limit
returns-in_err-number-clause-limit c = λ l.
    let left = left_of c.args.self.now.room c.in-Some.left c.deref.result.now c.args.frames.items c.deref-2.result.now c.args.known.items c.deref.ensures.value c.deref-2.ensures.value c.in-Some.ensures in
    absurd (omega (arith, left, l))

pub returns-in_err-note-clause-limit : goal.returns-in_err-note-clause-limit
returns-in_err-note-clause-limit c = λ l.
    let left = left_of c.args.self.now.room c.in-Some.left c.deref.result.now c.args.frames.items c.deref-2.result.now c.args.known.items c.deref.ensures.value c.deref-2.ensures.value c.in-Some.ensures in
    absurd (omega (arith, left, l))

pub returns-in_err-push-clause-limit : goal.returns-in_err-push-clause-limit
returns-in_err-push-clause-limit c = λ l.
    let left = left_of c.args.self.now.room c.in-Some.left c.deref.result.now c.args.frames.items c.deref-2.result.now c.args.known.items c.deref.ensures.value c.deref-2.ensures.value c.in-Some.ensures in
    absurd (omega (arith, left, l))

pub returns-in_err-note_depth-clause-limit : goal.returns-in_err-note_depth-clause-limit
returns-in_err-note_depth-clause-limit c = λ l.
    let left = left_of c.args.self.now.room c.in-Some.left c.deref.result.now c.args.frames.items c.deref-2.result.now c.args.known.items c.deref.ensures.value c.deref-2.ensures.value c.in-Some.ensures in
    absurd (omega (arith, left, l))

pub returns-clause-limit : goal.returns-clause-limit
returns-clause-limit c = λ l.
    let left = left_of c.args.self.now.room c.in-Some.left c.deref.result.now c.args.frames.items c.deref-2.result.now c.args.known.items c.deref.ensures.value c.deref-2.ensures.value c.in-Some.ensures in
    absurd (omega (arith, left, l))

pub returns-clause-noted : goal.returns-clause-noted
returns-clause-noted c noted =
    let old = c.args.self.now in
    let mid = c.note_ways.new.self in
    let e : Entry = record { frames = c.args.frames; whole = c.args.whole; known = c.args.known; steps = c.args.steps; devices = c.args.devices; summary = c.args.summary } in
    let new : Table = record { entries = c.push.new.self; onward = mid.onward; forks = mid.forks; alike = c.note.new.places; longest = c.max-self.result; depths = c.note_depth.new.depths; flow = mid.flow; sums = mid.sums; visited = mid.visited; most = mid.most; room = c.in-Some.left } in
    let k = c.in_ok-number.ensures in
    let same = ap (λ (v : Vec Entry Global). v.items) k.entries in
    let way = subst (λ (ks : List Known). WayIsNoted old.entries.items mid c.in_ok-number.number c.args.place ks c.len-at.result) c.deref-3.ensures.value k.ways in
    let longer : c.max-self.result ≡ max mid.longest (length c.args.known.items) = search rules in
    let deeper = λ (n : ℕ) (h : Contains old.depths.items n). c.in_ok-note_depth.ensures.more n (subst (λ (v : Vec ℕ Global). Contains v.items n) (sym k.depths) h) in
    let many : c.len-2.result ≡ length c.args.frames.items = search rules in
    let deep = λ (part : c.args.whole ≡ false). subst (Contains c.note_depth.new.depths.items) many (c.in_ok-note_depth.ensures.there part) in
    let here : c.len-at.result ≡ length old.entries.items = search rules in
    all_noted old mid new c.in_ok-number.number c.args.place c.len-at.result e noted same k.grows way (λ n. refl) k.alike c.in_ok-note.ensures.noted k.longest longer
    (c.in_ok-push.ensures.items ∙ ap (λ (es : List Entry). es ++ e ∷ []) same) here c.requires deeper deep

pub returns-clause-kept : goal.returns-clause-kept
returns-clause-kept c =
    let kept : Entry = record { frames = c.args.frames; whole = c.args.whole; known = c.args.known; steps = c.args.steps; devices = c.args.devices; summary = c.args.summary } in
    (kept, c.in_ok-push.ensures.items ∙ ap (λ (v : Vec Entry Global). v.items ++ kept ∷ []) c.in_ok-number.ensures.entries, refl, refl, refl, refl, refl, refl)

pub returns-clause-held : goal.returns-clause-held
returns-clause-held c =
    let old = c.args.self.now in
    let mid = c.note_ways.new.self in
    let kept : Entry = record { frames = c.args.frames; whole = c.args.whole; known = c.args.known; steps = c.args.steps; devices = c.args.devices; summary = c.args.summary } in
    let new : Table = record { entries = c.push.new.self; onward = mid.onward; forks = mid.forks; alike = c.note.new.places; longest = c.max-self.result; depths = c.note_depth.new.depths; flow = mid.flow; sums = mid.sums; visited = mid.visited; most = mid.most; room = c.in-Some.left } in
    held_more old new kept (c.in_ok-push.ensures.items ∙ ap (λ (v : Vec Entry Global). v.items ++ kept ∷ []) c.in_ok-number.ensures.entries)
    (left_of old.room c.in-Some.left c.deref.result.now c.args.frames.items c.deref-2.result.now c.args.known.items c.deref.ensures.value c.deref-2.ensures.value c.in-Some.ensures)
