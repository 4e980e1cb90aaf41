use Rattle.std.proofs.Common.{map}
use Rattle.std.proofs.lemmas.Result.{err_from_is_err_and}
use Rattle.text.specs.TextsShown.{option_bytes}
use Rattle.rehearse_machine.specs.Tasks.{source_shown}
use Rattle.rehearse_runs.proofs.HeadlineLemmas.{unstarted, unwritten, written}
use Rattle.rehearse_runs.proofs.rehearsing.list_runs.Goals as goal

pub returns-in_err-runs-clause-err : goal.returns-in_err-runs-clause-err
returns-in_err-runs-clause-err g c =
    let p = err_from_is_err_and c.from_residual.result c.from_residual.ensures.1 in
    rw (p.1, p.2) (unstarted c.args.env.now c.args.devices.now (source_shown c.args.source) c.args.bounds (option_bytes c.args.after) c.args.page (map (λ n. n.now) c.args.names.now) (g.O.Out.sink c.args.out.now) _ c.in_err-runs.ensures.err)

pub returns-clause-ok : goal.returns-clause-ok
returns-clause-ok g c =
    written c.args.env.now c.args.devices.now (source_shown c.args.source) c.args.bounds (option_bytes c.args.after) c.args.page (map (λ n. n.now) c.args.names.now) c.write_listing.result (g.O.Out.sink c.args.out.now) (g.O.Out.sink c.write_listing.new.out) _ _ c.in_ok-runs.ensures.ok c.write_listing.ensures.ok

pub returns-clause-err : goal.returns-clause-err
returns-clause-err g c =
    unwritten c.args.env.now c.args.devices.now (source_shown c.args.source) c.args.bounds (option_bytes c.args.after) c.args.page (map (λ n. n.now) c.args.names.now) c.write_listing.result (g.O.Out.sink c.args.out.now) (g.O.Out.sink c.write_listing.new.out) _ _ c.in_ok-runs.ensures.ok c.write_listing.ensures.err
