use Rattle.std.proofs.Common.{ap, sym, ◌∙◌, ℕ, List, Some, None, false}
use Rattle.std.specs.Fmt.{digits}
use Rattle.std.specs.Option.{option_copied, option_map}
use Rattle.device_list.specs.CommandsShown.{text_shown}
use Rattle.device_list.specs.Settings.{FileText, Literal}
use Rattle.device_list.proofs.MapLemmas.{looked_up}
use Rattle.device_list.proofs.setting.size_of.Goals as goal

pub returns-in_ok-hexadecimal-in-Some : goal.returns-in_ok-hexadecimal-in-Some
returns-in_ok-hexadecimal-in-Some c =
    let found = looked_up text_shown c.args.files.now.entries c.args.name.now (Some c.in-Some.file.now) (sym c.get.ensures.value ∙ ap option_copied c.in-Some.is) in
    ap (λ (v : List ℕ). Some (Literal v)) c.in_ok-hexadecimal-in-Some.ensures
    ∙ sym (ap (option_map (λ (file : FileText). Literal (digits 16 false file.size))) found)

pub returns-in-None : goal.returns-in-None
returns-in-None c =
    let gone = looked_up text_shown c.args.files.now.entries c.args.name.now None (sym c.get.ensures.value ∙ ap option_copied c.in-None.is) in
    sym (ap (option_map (λ (file : FileText). Literal (digits 16 false file.size))) gone)
