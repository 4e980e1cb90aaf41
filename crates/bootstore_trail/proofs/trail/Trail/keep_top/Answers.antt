use Rattle.std.proofs.Common.{◌-◌, sym, subst}
use Rattle.bootstore_trail.specs.declared.inverse.Inverse.TheVariants.{Touched}
use Rattle.bootstore_trail.specs.declared.inverse.Kept.TheVariants.{Change}
use Rattle.bootstore_trail.specs.Inverse.{CanGoBack, KeepsOnce}
use Rattle.bootstore_trail.proofs.TrailLemmas.{can_kept_top, kept_last}
use Rattle.bootstore_trail.proofs.OneInversePerName.{once_touched}
use Rattle.bootstore_trail.proofs.trail.Trail.keep_top.Goals as goal

pub invariant_of-self-2 : goal.invariant_of-self-2
invariant_of-self-2 c =
    let old = c.args.self.now in
    let count = c.len-count.result in
    let frame = c.in_ok-frame.frame in
    let last = kept_last old.kept c.reserve.new.self c.push_reserved.new.self (Change (Touched (count - 1) frame)) c.reserve.ensures.items c.push_reserved.ensures.items in
    record { once = subst (KeepsOnce old.present old.since.kept) (sym last) (once_touched old.present old.since.kept (count - 1) frame _ old.once); can = subst (CanGoBack old.present (count - 1)) (sym last) (can_kept_top old.present old.since.untouched count frame _ old.can c.len-count.ensures c.if-self-count.false c.if-count-eq0.false) }
