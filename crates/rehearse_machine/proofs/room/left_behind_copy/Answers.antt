use Rattle.std.proofs.Common.{◌≡◌, ◌≤◌, ◌-◌, ℕ, SomeIff, ap, subst}
use Rattle.text.specs.TextsShown.{option_bytes}
use Rattle.device_list.specs.DevicesShown.{right_shown}
use Rattle.device_list.specs.DeviceList.{CopyOf}
use Rattle.rehearse_machine.proofs.RoomLemmas.{copied_so}
use Rattle.rehearse_machine.proofs.room.left_behind_copy.Goals as goal

pub returns-in-CopyOf : goal.returns-in-CopyOf
returns-in-CopyOf g c =
    subst (λ (n : ℕ). SomeIff c.left_behind.result (n ≤ c.args.room) (c.args.room - n))
    (copied_so (g.S.Store.record_of c.args.store.now).present.environment (right_shown c.args.copied.now) c.in-CopyOf.name.items c.deref.result.now c.deref-in-CopyOf.result.now (option_bytes c.get_env.result)
    (ap right_shown c.in-CopyOf.is) c.deref.ensures.value c.deref-in-CopyOf.ensures.value c.get_env.ensures)
    c.left_behind.ensures
