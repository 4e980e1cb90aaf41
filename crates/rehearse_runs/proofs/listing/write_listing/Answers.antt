use Rattle.std.proofs.Common.{sym, ◌∙◌}
use Rattle.std.proofs.lemmas.Result.{err_from_is_err_and}
use Rattle.rehearse_runs.proofs.ListingLemmas.{listed_more, unlisted_more, unlisted_done}
use Rattle.rehearse_runs.proofs.listing.write_listing.Goals as goal

pub returns-in_err-write_more-clause-err : goal.returns-in_err-write_more-clause-err
returns-in_err-write_more-clause-err g c =
    let p = err_from_is_err_and c.from_residual-in_err-write_more.result c.from_residual-in_err-write_more.ensures.1 in
    rw (p.1, p.2) (unlisted_more _ c.in_ok-write_records.ensures.ok c.last_digits.result.now c.requires (sym c.has_more.ensures ∙ c.if-has_more.true) c.last_digits.ensures c.in_err-write_more.ensures)

pub returns-in_err-write_all-clause-err : goal.returns-in_err-write_all-clause-err
returns-in_err-write_all-clause-err g c =
    let p = err_from_is_err_and c.from_residual-in_err-write_all.result c.from_residual-in_err-write_all.ensures.1 in
    rw (p.1, p.2) (unlisted_done _ c.in_ok-write_records.ensures.ok (sym c.has_more.ensures ∙ c.if-has_more.false) c.in_err-write_all.ensures)

pub returns-in_ok-write_more-clause-ok : goal.returns-in_ok-write_more-clause-ok
returns-in_ok-write_more-clause-ok g c =
    listed_more _ c.in_ok-write_records.ensures.ok c.last_digits.result.now c.requires (sym c.has_more.ensures ∙ c.if-has_more.true) c.last_digits.ensures c.in_ok-write_more.ensures
