use Rattle.std.proofs.Common.{refl, subst, sym}
use Rattle.rehearse_causes.specs.TellingCauses as below
use Rattle.rehearse_runs.specs.RehearsedEnvironment.{task_asked}
use Rattle.rehearse_terms.specs.Asking.{Asking}
use Rattle.text.specs.TextsShown.{option_items}
use Rattle.ubtool.specs.Beginning.{beginning_shown}
use Rattle.ubtool.specs.CausesOfImages.{RefusesOne}
use Rattle.ubtool.specs.declared.rehearsal_error.RehearsalError.{RehearsalError}
use Rattle.ubtool.proofs.ImageCausesLemmas.{causes-image, refused-causes}
use Rattle.ubtool.proofs.image_causes.causes_told.Goals as goal

pub returns-in-Ok-clause-ok : goal.returns-in-Ok-clause-ok
returns-in-Ok-clause-ok g c given starts =
    let b = c.args.beginning.now in
    let out = g.O.Out.sink c.args.out.now in
    let out' = g.O.Out.sink c.causes_begun.new.out in
    causes-image given c.args.ask.now.check (beginning_shown b) (option_items b.text) out out' starts.0 refl c.in-Ok.fine
    (subst (λ (a : Asking). below.TellsCauses (task_asked b.env b.devices (option_items b.text) a) c.args.ask.now.check out out' c.in-Ok.fine) (sym starts.1) c.in-Ok.ensures.ok)

pub returns-in-Err-clause-err : goal.returns-in-Err-clause-err
returns-in-Err-clause-err g c given starts =
    let b = c.args.beginning.now in
    let out = g.O.Out.sink c.args.out.now in
    let out' = g.O.Out.sink c.causes_begun.new.out in
    let P : RehearsalError → Type 0 = λ e. RefusesOne given c.args.ask.now.check out out' e in
    subst P (sym c.into.ensures)
    (refused-causes given c.args.ask.now.check (beginning_shown b) (option_items b.text) out out' starts.0 refl c.in-Err.error
    (subst (λ (a : Asking). below.RefusesCauses (task_asked b.env b.devices (option_items b.text) a) c.args.ask.now.check out out' c.in-Err.error) (sym starts.1) c.in-Err.ensures.err))
