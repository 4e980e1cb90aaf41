use Rattle.std.proofs.Common.{◌≡◌, ◌∙◌, [], ap, sym, refl, Ok}
use Rattle.std.specs.Option.{option_copied}
use Rattle.board_start.specs.Boards.{board_of}
use Rattle.rehearse_terms.specs.declared.shell.Shell.{Shell}
use Rattle.text.specs.TextsShown.{option_bytes}
use Rattle.tool_images.specs.PrintingImages.{environment_in}
use Rattle.ubtool.specs.Beginning.{beginning_of, beginning_shown, with_image}
use Rattle.ubtool.specs.CausesOfImages.{causes_given}
use Rattle.ubtool.specs.ListsShown.{list_shown}
use Rattle.ubtool.proofs.image_causes.causes_of_one.Goals as goal

pub returns-in-Ok-clause-ok : goal.returns-in-Ok-clause-ok
returns-in-Ok-clause-ok g c =
    let image = environment_in c.args.order c.args.first.now (option_copied c.args.second) in
    let given = causes_given c.args.order c.args.first.now (option_copied c.args.second) (list_shown c.args.list) c.args.list.taking c.args.ask.now in
    let found : beginning_of given ≡ Ok (beginning_shown c.in-Ok.beginning) =
    ap (λ (shell : Shell). with_image image shell (board_of (list_shown c.args.list)) c.args.list.taking c.args.ask.now.name.now (option_bytes c.args.ask.now.text) []) (sym c.shell-shell.ensures) ∙ c.in-Ok.ensures in
    c.causes_told-told.ensures.ok given (found, refl)

pub returns-in-Ok-clause-err : goal.returns-in-Ok-clause-err
returns-in-Ok-clause-err g c =
    let image = environment_in c.args.order c.args.first.now (option_copied c.args.second) in
    let given = causes_given c.args.order c.args.first.now (option_copied c.args.second) (list_shown c.args.list) c.args.list.taking c.args.ask.now in
    let found : beginning_of given ≡ Ok (beginning_shown c.in-Ok.beginning) =
    ap (λ (shell : Shell). with_image image shell (board_of (list_shown c.args.list)) c.args.list.taking c.args.ask.now.name.now (option_bytes c.args.ask.now.text) []) (sym c.shell-shell.ensures) ∙ c.in-Ok.ensures in
    c.causes_told-told.ensures.err given (found, refl)
