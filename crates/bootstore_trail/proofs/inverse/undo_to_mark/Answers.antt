use Rattle.std.proofs.Common.{[], ◌∷◌, ◌∙◌, sym, ap, subst, reverse, arith, refl}
use Rattle.bootstore_trail.specs.Inverse.{CanGoBack, KeepsOnce, record_with, marked_before, frame_reach, up_to_mark}
use Rattle.bootstore_state.specs.Present.{moment_of}
use Rattle.bootstore_state.specs.Record.{returned}
use Rattle.bootstore_trail.proofs.TrailLemmas.{reverse_last, can_last, can_after, nothing_marked, no_items, none_of_reversed}
use Rattle.bootstore_trail.proofs.OneInversePerName.{once_after}
use Rattle.bootstore_trail.proofs.inverse.undo_to_mark.Goals as goal

pub loop-last-init : goal.loop-last-init
loop-last-init c = record { can = c.requires.can; once = c.requires.once; marked = refl; fewer = omega arith; untouched = λ h. refl }

pub undo-requires : goal.undo-requires
undo-requires c =
    let last = reverse_last _ _ _ c.in-Some.ensures.items ∙ ap (λ k. k ∷ reverse c.pop.new.self.items) c.in-Change.is in
    can_last c.loop-last.present _ c.in-Change.inverse (reverse c.pop.new.self.items) (subst (λ k. CanGoBack c.loop-last.present (frame_reach k) k) last c.loop-last.invariant.can)

pub loop-last-preserved : goal.loop-last-preserved
loop-last-preserved c =
    let p = c.loop-last.present in
    let rest = reverse c.pop.new.self.items in
    let last = reverse_last _ _ _ c.in-Some.ensures.items ∙ ap (λ k. k ∷ rest) c.in-Change.is in
    record {
      can = can_after p c.undo.new.present _ c.in-Change.inverse rest (subst (λ k. CanGoBack p (frame_reach k) k) last c.loop-last.invariant.can) c.undo.ensures.undone c.undo.ensures.environment c.undo.ensures.locals c.undo.ensures.capacity;
      once = once_after p c.undo.new.present _ c.in-Change.inverse rest (subst (λ k. KeepsOnce p (up_to_mark k) k) last c.loop-last.invariant.once) c.undo.ensures.kept c.undo.ensures.kept_locals;
      marked = ap (λ n. marked_before n rest) c.undo.ensures.undone ∙ sym (ap (marked_before (moment_of p)) last) ∙ c.loop-last.invariant.marked;
      fewer = omega (arith, c.in-Some.ensures.len, c.loop-last.invariant.fewer);
      untouched = λ none. absurd (omega (arith, c.in-Some.ensures.len, c.loop-last.invariant.fewer));
    }

pub returns-clause-back : goal.returns-clause-back
returns-clause-back c =
    let m = moment_of c.loop-last.present in
    let start = moment_of c.args.present.now in
    let none = sym c.loop-last.invariant.marked ∙ ap (λ ks. marked_before m (reverse ks)) (no_items c.loop-last.kept c.in_default.ensures.cases.0) in
    let same = c.loop-last.invariant.untouched (none_of_reversed c.args.kept.now (nothing_marked start (reverse c.args.kept.now.items) c.requires.can.leads.rooted none)) in
    ap (λ ks. record_with c.loop-last.present (reverse ks) 0) (no_items c.pop.new.self c.in_default.ensures.cases.1)
    ∙ ap (λ n. returned n 0 []) same ∙ ap (returned start 0) (sym none)
