use Rattle.std.proofs.Common.{ap, sym, ◌∙◌, option_map}
use Rattle.std.specs.Map.Iter.{deref_pair}
use Rattle.std.proofs.lemmas.Slice.Eq.{bytes_eq-Decides}
use Rattle.device_list.proofs.PlaceLemmas.{named-at}
use Rattle.device_list.proofs.devices.places_at.Goals as goal

pub returns-then-eq : goal.returns-then-eq
returns-then-eq c = λ list placed.
    let found = c.in_ok-found.found.now in
    let same = (bytes_eq-Decides c.as_slice.result.now c.args.name.now).0 (sym c.eq.ensures ∙ c.if-eq.true) in
    let there = named-at list c.args.names.now.entries c.args.place found c.in_ok-found.places.now placed
    (sym c.get_index.ensures.entry ∙ ap (option_map deref_pair) c.in_ok-found.was) in
    rw (← same, c.as_slice.ensures.value) there
