use Rattle.std.proofs.Common.{Some, ◌∙◌, ap, sym}
use Rattle.text.specs.TextsShown.{option_items}
use Rattle.bootstore_state.proofs.TableLemmas.{clone_text}
use Rattle.bootstore_state.proofs.table.copy_value.Goals as goal

pub returns-in_ok-clone-in-Some : goal.returns-in_ok-clone-in-Some
returns-in_ok-clone-in-Some c =
    ap Some (clone_text c.in-Some.bytes c.in_ok-clone-in-Some.field-0 c.in_ok-clone-in-Some.ensures.cases.0) ∙ sym (ap option_items c.in-Some.is)
