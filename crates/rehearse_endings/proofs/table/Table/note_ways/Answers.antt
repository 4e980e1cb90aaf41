use Rattle.std.proofs.Common.{ℕ, suc, ◌≡◌, ◌+◌, ◌∙◌, refl, sym, ap, subst, drop, List, arith}
use Rattle.rehearse_endings.specs.Indexed.{BeginWith, ways}
use Rattle.rehearse_endings.specs.declared.entry.Entry.{Entry}
use Rattle.rehearse_endings.specs.Numbers.{mixed_known}
use Rattle.std.specs.declared.alloc.Global.{Global}
use Rattle.std.specs.declared.vec.Vec.{Vec}
use Rattle.rehearse_endings.proofs.IndexLemmas.{WaySoFar, way_begins, way_next, way_over}
use Rattle.rehearse_endings.proofs.table.Table.note_ways.Goals as goal

pub loop-at-init : goal.loop-at-init
loop-at-init c = (refl, refl, refl, refl, refl, refl, refl, refl, refl, (λ n p h. h), way_begins c.args.self.now.entries.items c.args.self.now c.args.place c.args.known.now c.args.entry)

pub loop-at-preserved : goal.loop-at-preserved
loop-at-preserved c =
    let h = c.loop-at.invariant in
    let k = c.in_ok-note_way.ensures in
    let old = c.args.self.now.entries.items in
    let known = c.args.known.now in
    let at = c.loop-at.at in
    let after : at + 1 ≡ suc at = omega arith in
    let one = c.index-known-at.result in
    let leads = λ (es : List Entry) (begin : BeginWith old es). k.leads es (subst (λ (v : Vec Entry Global). BeginWith v.items es) (sym h.0) begin) in
    let next = way_next old c.loop-at.self c.note_way.new.self c.args.place c.loop-at.number at known one c.args.entry c.loop-at-test.true c.index-known-at.is k.grows leads h.10 in (
      k.entries ∙ h.0,
      k.alike ∙ h.1,
      k.longest ∙ h.2,
      k.flow ∙ h.3,
      k.visited ∙ h.4,
      k.most ∙ h.5,
      k.sums ∙ h.6,
      k.room ∙ h.7,
      k.depths ∙ h.8,
      (λ n p i. k.grows n p (h.9 n p i)),
      subst (λ (number : ℕ). WaySoFar old c.note_way.new.self c.args.place number (at + 1) (drop (at + 1) known) known c.args.entry) (sym c.mix_known-number.ensures)
          (subst (λ (n : ℕ). WaySoFar old c.note_way.new.self c.args.place (mixed_known c.loop-at.number one) n (drop n known) known c.args.entry) (sym after) next),
    )

pub returns-clause-ways : goal.returns-clause-ways
returns-clause-ways c = way_over c.args.self.now.entries.items c.loop-at.self c.args.place c.loop-at.number c.loop-at.at c.args.known.now c.args.entry c.loop-at-test.false c.loop-at.invariant.10
