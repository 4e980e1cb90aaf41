use Rattle.std.proofs.Common.{◌≡◌, ◌∙◌, ap, map, sym, refl, Ok}
use Rattle.std.specs.Option.{option_copied}
use Rattle.board_start.specs.Boards.{board_of}
use Rattle.rehearse_runs.specs.AskShown.{asking_of, text_given}
use Rattle.rehearse_terms.specs.declared.shell.Shell.{Shell}
use Rattle.tool_images.specs.PrintingImages.{environment_in}
use Rattle.ubtool.specs.Beginning.{beginning_of, beginning_shown, with_image}
use Rattle.ubtool.specs.Given.{given}
use Rattle.ubtool.specs.ListsShown.{list_shown}
use Rattle.ubtool.proofs.image_rehearsal.rehearse_in.Goals as goal

pub returns-in-Ok-clause-ok : goal.returns-in-Ok-clause-ok
returns-in-Ok-clause-ok g c =
    let image = environment_in c.args.order c.args.first.now (option_copied c.args.second) in
    let all = given c.args.order c.args.first.now (option_copied c.args.second) (list_shown c.args.list) c.args.list.taking (text_given c.args.ask.now) (asking_of c.args.ask.now) in
    let found : beginning_of all ≡ Ok (beginning_shown c.in-Ok.beginning) =
    ap (λ (shell : Shell). with_image image shell (board_of (list_shown c.args.list)) c.args.list.taking c.args.ask.now.name.now (text_given c.args.ask.now) (map (λ n. n.now) c.args.ask.now.names.now)) (sym c.requires.shell) ∙ c.in-Ok.ensures in
    c.rehearse_told-told.ensures.ok all (found, refl)

pub returns-in-Ok-clause-err : goal.returns-in-Ok-clause-err
returns-in-Ok-clause-err g c =
    let image = environment_in c.args.order c.args.first.now (option_copied c.args.second) in
    let all = given c.args.order c.args.first.now (option_copied c.args.second) (list_shown c.args.list) c.args.list.taking (text_given c.args.ask.now) (asking_of c.args.ask.now) in
    let found : beginning_of all ≡ Ok (beginning_shown c.in-Ok.beginning) =
    ap (λ (shell : Shell). with_image image shell (board_of (list_shown c.args.list)) c.args.list.taking c.args.ask.now.name.now (text_given c.args.ask.now) (map (λ n. n.now) c.args.ask.now.names.now)) (sym c.requires.shell) ∙ c.in-Ok.ensures in
    c.rehearse_told-told.ensures.err all (found, refl)
