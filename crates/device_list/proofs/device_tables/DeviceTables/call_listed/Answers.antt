use Rattle.std.proofs.Common.{ap, sym, ◌∙◌, List, Option, Some, None}
use Rattle.std.specs.Option.{option_copied}
use Rattle.commands.specs.TextsShown.{texts}
use Rattle.device_list.specs.DeviceList.{Devices, Pattern, Effect, call_effect, first_fitting}
use Rattle.device_list.specs.CommandsShown.{lines_shown, call_lines_shown}
use Rattle.device_list.specs.declared.call_line.CallLine.{CallLine}
use Rattle.device_list.proofs.MapLemmas.{looked_up}
use Rattle.device_list.proofs.device_tables.DeviceTables.call_listed.Goals as goal

pub returns-in_err-lines : goal.returns-in_err-lines
returns-in_err-lines c =
    let words = texts c.args.words.now in
    let gone = looked_up lines_shown c.self.inside.calls.entries c.args.name.now None (sym c.get.ensures.value ∙ ap option_copied c.in_err-lines.was) in
    rw c.from_residual.ensures
    (sym (ap (λ (d : Devices). call_effect d c.args.name.now words) (sym c.self.view_is) ∙ ap (λ (o : Option (List (Pattern × Effect))). let r : Option Effect = elim o [ None ↦ None | Some lines ↦ first_fitting lines words ] in r) gone))

pub returns : goal.returns
returns c =
    let words = texts c.args.words.now in
    let found = looked_up lines_shown c.self.inside.calls.entries c.args.name.now (Some c.in_ok-lines.lines.now) (sym c.get.ensures.value ∙ ap option_copied c.in_ok-lines.was) in
    c.first_fitting.ensures ∙ ap (λ (lines : List CallLine). first_fitting (call_lines_shown lines) words) c.deref.ensures.value ∙ sym (ap (λ (d : Devices). call_effect d c.args.name.now words) (sym c.self.view_is) ∙ ap (λ (o : Option (List (Pattern × Effect))). let r : Option Effect = elim o [ None ↦ None | Some lines ↦ first_fitting lines words ] in r) found)
