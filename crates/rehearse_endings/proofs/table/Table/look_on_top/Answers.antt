use Rattle.std.proofs.Common.{ap, refl, ◌∙◌}
use Rattle.rehearse_states.specs.PlaceNumbers.{place_number}
use Rattle.rehearse_endings.proofs.BelowLemmas.{number_so}
use Rattle.rehearse_endings.proofs.IndexLemmas.{none_on_top}
use Rattle.rehearse_endings.proofs.table.Table.look_on_top.Goals as goal

pub returns : goal.returns
returns g c =
    none_on_top c.args.bounds.steps c.args.bounds.devices c.args.self.now (g.S.Store.record_of c.args.store.now).present c.args.many c.number_of.result c.in_ok-found.found
    (c.number_of.ensures ∙ number_so c.in-Some.top.now c.in-Some.top.now refl ∙ ap place_number c.in-Some.ensures.1) c.in_ok-found.ensures
