-- From the causes of an environment's runs to the causes of an image's runs.
use Rattle.std.proofs.Common.{◌≡◌, refl, Bool, Option, None, Ok}
use Rattle.output.specs.Sink.{Sink}
use Rattle.rehearse_rules.specs.Runs.{Task}
use Rattle.rehearse_runs.specs.RehearsedEnvironment.{task_asked}
use Rattle.rehearse_causes.specs.Causes.{causes}
use Rattle.rehearse_causes.specs.CauseLines.{causes_text, is_fine, reported}
use Rattle.rehearse_causes.specs.TellingCauses as below
use Rattle.rehearse_causes.specs.TellingCauses.{WithCauses}
use Rattle.rehearse_rules.specs.declared.rehearse_error.RehearseError.{RehearseError}
use Rattle.rehearse_rules.specs.declared.rehearse_error.RehearseError.TheVariants as rehearsal
use Rattle.rehearse_terms.specs.State.{Text}
use Rattle.ubtool.specs.Beginning.{Beginning, beginning_of}
use Rattle.ubtool.specs.CausesOfImages.{RefusesOne, TellsOne}
use Rattle.ubtool.specs.Faults.{rehearse_error}
use Rattle.ubtool.specs.Given.{Given}
use Rattle.ubtool.specs.Headline.{HasBoard}
use Rattle.ubtool.proofs.BeginningLemmas.{has-image, on_board}

module _ (g : Given) (check : Bool) (beginning : Beginning) (text : Option Text) (old new : Sink) (found : beginning_of g ≡ Ok beginning) (same : text ≡ beginning.text) where
  on_image : (IsSo : Option Task → Type 0) → IsSo (task_asked beginning.environment beginning.devices text g.asking) → HasBoard g (λ asking task. IsSo task)
  on_image IsSo h = on_board g beginning found text same (λ asking task. IsSo task) h

  pub causes-image : (fine : Bool) → below.TellsCauses (task_asked beginning.environment beginning.devices text g.asking) check old new fine → TellsOne g check old new fine
  causes-image fine h = (
    causes_text (reported check (causes h.task)),
    on_image (λ task. WithCauses task check (λ told. (causes_text (reported check (causes h.task)) ≡ causes_text told) × (fine ≡ is_fine check told))) (record { task = h.task; task_is = h.task_is; so = (refl, h.so.1) }),
    h.so.0,
  )

  pub refused-causes : (error : RehearseError) → below.RefusesCauses (task_asked beginning.environment beginning.devices text g.asking) check old new error → RefusesOne g check old new (rehearse_error error)
  refused-causes (rehearsal.DeviceList fault) h = absurd h
  refused-causes rehearsal.NoSuchVariable h = (on_image (λ task. task ≡ None) h.0, h.1)
  refused-causes rehearsal.States h = absurd h
  refused-causes (rehearsal.Steps count) h = absurd h
  refused-causes (rehearsal.Bytes count) h = absurd h
  refused-causes rehearsal.Write h = (
    (causes_text (reported check (causes h.task)), is_fine check (reported check (causes h.task))),
    on_image (λ task. WithCauses task check (λ told. (causes_text (reported check (causes h.task)) ≡ causes_text told) × (is_fine check (reported check (causes h.task)) ≡ is_fine check told))) (record { task = h.task; task_is = h.task_is; so = (refl, refl) }),
    h.so,
  )
  refused-causes rehearsal.NotARun h = absurd h
  refused-causes rehearsal.Failed h = absurd h
  refused-causes rehearsal.Memory h = (has-image g beginning found, h)
