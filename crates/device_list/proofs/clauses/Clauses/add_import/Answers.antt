use Rattle.std.proofs.Common.{ap, sym, ◌∙◌, List, Option, Some, None, map}
use Rattle.std.proofs.lemmas.List.{map-append}
use Rattle.std.specs.Option.{option_copied, option_map}
use Rattle.device_list.specs.CallLines as calls
use Rattle.device_list.specs.CommandsShown.{clauses_shown, text_shown}
use Rattle.device_list.specs.DevicesShown.{setting_shown, settings_shown}
use Rattle.device_list.specs.Settings.{FileText, Setting}
use Rattle.device_list.specs.declared.clauses.Awaited.TheVariants.{Clause}
use Rattle.device_list.proofs.MapLemmas.{looked_up}
use Rattle.device_list.proofs.clauses.Clauses.add_import.Goals as goal

-- by the file that was found
abbrev by_file : calls.Clauses → Option FileText → Option calls.Clauses
by_file clauses o = elim o [ None ↦ None | Some file ↦ calls.with_imported clauses (calls.imported_file file) ]

pub returns-in_default : goal.returns-in_default
returns-in_default c =
    ap (by_file (clauses_shown c.args.self.now)) (looked_up text_shown c.args.files.now.entries c.args.name.now None (sym c.get.ensures.value ∙ ap option_copied c.in_default.is))

pub returns-in_default-2 : goal.returns-in_default-2
returns-in_default-2 c =
    let old = clauses_shown c.args.self.now in
    let found = looked_up text_shown c.args.files.now.entries c.args.name.now (Some c.in-Some.file.now) (sym c.get.ensures.value ∙ ap option_copied c.in-Some.is) in
    ap (by_file old) found ∙ ap (calls.with_imported old) (sym c.in_ok-sets.ensures ∙ ap (option_map settings_shown) c.in_default-2.is)

pub returns : goal.returns
returns c =
    let old = clauses_shown c.args.self.now in
    let found = looked_up text_shown c.args.files.now.entries c.args.name.now (Some c.in-Some.file.now) (sym c.get.ensures.value ∙ ap option_copied c.in-Some.is) in
    let with_sets : List Setting → Option calls.Clauses = λ sets. Some (record { effect = record old.effect { sets = sets }; awaited = Clause }) in
    ap (by_file old) found ∙ ap (calls.with_imported old) (sym c.in_ok-sets.ensures ∙ ap (option_map settings_shown) c.in-Some-2.is)
    ∙ ap with_sets (sym (map-append setting_shown c.args.self.now.sets.items c.in-Some-2.sets.items) ∙ ap (map setting_shown) (sym c.in_ok-append.ensures.items))
