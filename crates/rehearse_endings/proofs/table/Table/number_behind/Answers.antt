use Rattle.std.proofs.Common.{◌≡◌, ◌∙◌, ap, Some, None}
use Rattle.rehearse_reports.specs.Known.{key_of}
use Rattle.rehearse_endings.proofs.IndexLemmas.{number_here}
use Rattle.rehearse_endings.proofs.table.Table.number_behind.Goals as goal

pub returns-in_err-known : goal.returns-in_err-known
returns-in_err-known g c = λ known knows holds. absurd (let e : None ≡ Some knows.0 = c.in_err-known.ensures ∙ knows.1 in cc)

pub returns : goal.returns
returns g c = λ known knows holds.
    let m = (g.S.Store.record_of c.args.store.now).present in
    let there : c.in_ok-known.known.now ≡ knows.0 = let e : Some c.in_ok-known.known.now ≡ Some knows.0 = c.in_ok-known.ensures ∙ knows.1 in cc in
    ap Some (c.mix_here.ensures ∙ number_here c.args.number m c.in_ok-known.known.now known (ap key_of there ∙ knows.2) holds)
