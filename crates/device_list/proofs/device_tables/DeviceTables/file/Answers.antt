use Rattle.std.proofs.Common.{ap, sym, ◌∙◌, Some, None}
use Rattle.std.specs.Option.{option_copied, option_map}
use Rattle.device_list.specs.DeviceList.{Devices, FileText, file_in}
use Rattle.device_list.specs.CommandsShown.{text_shown}
use Rattle.device_list.proofs.MapLemmas.{looked_up}
use Rattle.device_list.proofs.device_tables.DeviceTables.file.Goals as goal

pub returns-in_err-file : goal.returns-in_err-file
returns-in_err-file c =
    let gone = looked_up text_shown c.self.inside.files.entries c.args.name.now None (sym c.get.ensures.value ∙ ap option_copied c.in_err-file.was) in
    rw c.from_residual.ensures
    (sym (ap (λ (d : Devices). file_in d c.args.name.now) (sym c.self.view_is) ∙ ap (option_map (λ (f : FileText). f.text)) gone))

pub returns : goal.returns
returns c =
    let found = looked_up text_shown c.self.inside.files.entries c.args.name.now (Some c.in_ok-file.file.now) (sym c.get.ensures.value ∙ ap option_copied c.in_ok-file.was) in
    ap Some c.deref.ensures.value ∙ sym (ap (λ (d : Devices). file_in d c.args.name.now) (sym c.self.view_is) ∙ ap (option_map (λ (f : FileText). f.text)) found)
