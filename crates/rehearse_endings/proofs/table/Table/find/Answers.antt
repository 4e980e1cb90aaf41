use Rattle.std.proofs.Common.{map}
use Rattle.rehearse_machine.specs.MovesShown.{limits_of}
use Rattle.rehearse_states.specs.Drawing.{nodes_shown}
use Rattle.rehearse_states.specs.SumNodes.{sums_shown}
use Rattle.rehearse_endings.proofs.SearchLemmas.{found_one, looked_up}
use Rattle.rehearse_endings.proofs.EnteredStateLemmas.{something}
use Rattle.rehearse_endings.proofs.IndexLemmas.{nothing}
use Rattle.rehearse_endings.proofs.table.Table.find.Goals as goal

pub returns : goal.returns
returns g c =
    looked_up (map (λ n. n.now) c.args.names.now) (limits_of c.args.devices.now c.args.bounds) (nodes_shown c.args.self.now.flow.nodes) (sums_shown c.args.self.now.sums) c.args.self.now (g.S.Store.record_of c.args.store.now).present c.args.place
    c.requires.table c.requires.noted c.requires.asks c.requires.place (nothing _ _ c.in_ok-found.field-0 c.in_default.is c.in_ok-found.ensures) c.in_ok-found-2.found c.in_ok-found-2.ensures

pub returns-in-Some : goal.returns-in-Some
returns-in-Some g c =
    found_one (map (λ n. n.now) c.args.names.now) (limits_of c.args.devices.now c.args.bounds) (nodes_shown c.args.self.now.flow.nodes) (sums_shown c.args.self.now.sums) c.args.self.now (g.S.Store.record_of c.args.store.now).present c.in-Some.found
    c.requires.table c.requires.asks (something _ _ c.in_ok-found.field-0 c.in-Some.found c.in-Some.is c.in_ok-found.ensures)
