use Rattle.std.proofs.Common.{sym, subst}
use Rattle.std.proofs.lemmas.List.Elements.{All-same}
use Rattle.text.specs.Lines.{Text}
use Rattle.device_list.specs.NamedPlaces.{IsPlaced}
use Rattle.device_list.proofs.PlaceLemmas.{Named, named-inserted}
use Rattle.device_list.proofs.device_tables.DeviceTables.add_name.Goals as goal

pub returns : goal.returns
returns c =
    let list = c.args.self.now in
    let places = c.args.places in
    All-same (Named list) c.insert.new.self.entries _ c.in_ok-insert.ensures.entries
    (named-inserted list c.args.names.now.entries c.in_ok-name.name places c.requires.names
    (subst (λ (t : Text). IsPlaced list t places) (sym c.in_ok-name.ensures.items) c.requires.placed))
