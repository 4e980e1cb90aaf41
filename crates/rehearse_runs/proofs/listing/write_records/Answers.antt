use Rattle.std.proofs.Common.{◌≡◌, ◌++◌, ◌∷◌, [], false}
use Rattle.std.proofs.lemmas.Result.{err_from_is_err_and}
use Rattle.rehearse_runs.specs.RunsShown.{last_given}
use Rattle.rehearse_runs.specs.ListingRuns.{reached}
use Rattle.rehearse_runs.proofs.ListingLemmas.{refused_by, given_by, record_written, recorded_more, broke_record, Wrote-as, BrokeOff-as}
use Rattle.rehearse_runs.proofs.listing.write_records.Goals as goal

pub returns-in_err-view-clause-err : goal.returns-in_err-view-clause-err
returns-in_err-view-clause-err g c =
    let p = err_from_is_err_and c.from_residual.result c.from_residual.ensures.1 in
    rw (p.1, p.2) (refused_by g.S.Store c.args.page _ c.next.result _ c.in_err-view.was c.next.follows.holds-at-none c.loop-left.invariant.1)

pub returns-in_err-write_record-clause-err : goal.returns-in_err-write_record-clause-err
returns-in_err-write_record-clause-err g c =
    let p = err_from_is_err_and c.from_residual-in_err-write_record.result c.from_residual-in_err-write_record.ensures.1 in
    let n : reached c.loop-left.left ≡ false = cc in
    let r = c.loop-left.invariant.1 in
    let m = given_by g.S.Store c.loop-left.runs c.next.follows.lender-at-none c.next.result c.in_ok-view.field-0 c.in-Some.view c.in_ok-view.was c.in-Some.is c.next.follows.holds-at-none in
    rw (p.1, p.2) (broke_record _ c.next.follows.lender-at-none r n m.0 (BrokeOff-as _ _ _ _ (record_written g.S.Store c.in-Some.view r m) c.in_err-write_record.ensures))

pub loop-left-preserved : goal.loop-left-preserved
loop-left-preserved g c =
    let n : reached c.loop-left.left ≡ false = cc in
    let r = c.loop-left.invariant.1 in
    let new = c.next.follows.lender-at-none in
    let m = given_by g.S.Store c.loop-left.runs new c.next.result c.in_ok-view.field-0 c.in-Some.view c.in_ok-view.was c.in-Some.is c.next.follows.holds-at-none in
    (c.loop-left.invariant.0 ++ last_given new ∷ [], rw c.lower-left.ensures (recorded_more _ new r n m.0 (Wrote-as _ _ _ _ (record_written g.S.Store c.in-Some.view r m) c.in_ok-write_record.ensures)))
