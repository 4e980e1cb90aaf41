use Rattle.std.proofs.Common.{subst, Ok}
use Rattle.std.specs.Option.{option_copied}
use Rattle.rehearse_terms.specs.declared.shell.Shell.{Shell}
use Rattle.tool_images.specs.PrintingImages.{environment_in}
use Rattle.ubtool.specs.BoardEnvironment.{FindsOnBoard}
use Rattle.ubtool.proofs.image_boots.boots_bytes.Goals as goal

pub returns-in-Ok-clause-err : goal.returns-in-Ok-clause-err
returns-in-Ok-clause-err g c =
    c.boots_in-told.ensures.err c.args.order c.args.first.now (option_copied c.args.second)
    (subst (λ (shell : Shell). FindsOnBoard shell (environment_in c.args.order c.args.first.now (option_copied c.args.second)) (Ok c.in-Ok.env)) c.shell-shell.ensures c.in-Ok.ensures)
