use Rattle.std.proofs.Common.{ap, ◌∙◌, List, ℕ}
use Rattle.std.specs.Prelude.{Vec}
use Rattle.std.specs.List.{list_any}
use Rattle.std.specs.Str.{bytes_eq}
use Rattle.std.specs.declared.alloc.Global.{Global}
use Rattle.device_list.specs.DeviceList.{Devices}
use Rattle.commands.proofs.ComputedLemmas.{any_text}
use Rattle.device_list.proofs.device_tables.DeviceTables.is_known.Goals as goal

pub returns : goal.returns
returns c =
    let name = c.args.name.now in
    c.is_among.ensures
    ∙ ap (λ (names : List (Vec ℕ Global)). list_any (λ one. bytes_eq name one.items) names) c.deref.ensures.value
    ∙ any_text name c.self.inside.known.items
    ∙ ap (λ (d : Devices). list_any (bytes_eq name) d.known) c.self.view_is
