use Rattle.std.proofs.Common.{Some, None, ◌∙◌, ap, sym}
use Rattle.text.specs.TextsShown.{option_items}
use Rattle.bootstore_state.proofs.TableLemmas.{found}
use Rattle.bootstore_state.proofs.table.Table.get.Goals as goal

pub returns-in-None : goal.returns-in-None
returns-in-None c = found c.args.self.now.slots.entries c.args.name.now None c.in-None.ensures.value

pub returns-in-None-value : goal.returns-in-None-value
returns-in-None-value c =
    sym (ap option_items c.in-None-value.is) ∙ found c.args.self.now.slots.entries c.args.name.now (Some c.in-Some.place.now) c.in-Some.ensures.value

pub returns-in-Some-value : goal.returns-in-Some-value
returns-in-Some-value c =
    ap Some c.as_slice.ensures.value ∙ sym (ap option_items c.in-Some-value.is)
    ∙ found c.args.self.now.slots.entries c.args.name.now (Some c.in-Some.place.now) c.in-Some.ensures.value
