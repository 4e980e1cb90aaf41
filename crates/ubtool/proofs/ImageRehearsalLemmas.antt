-- From the rehearsal of an environment to the rehearsal of an image.
use Rattle.std.proofs.Common.{◌≡◌, Option, None, Ok, inl, inr}
use Rattle.output.specs.Sink.{Sink}
use Rattle.rehearse_rules.specs.Runs.{Task}
use Rattle.rehearse_runs.specs.RehearsedEnvironment as below
use Rattle.rehearse_runs.specs.declared.listing.Finish.{Finish}
use Rattle.rehearse_rules.specs.declared.rehearse_error.RehearseError.{RehearseError}
use Rattle.rehearse_rules.specs.declared.rehearse_error.RehearseError.TheVariants as rehearsal
use Rattle.rehearse_terms.specs.Asking.{Asking}
use Rattle.rehearse_terms.specs.State.{Text}
use Rattle.ubtool.specs.Beginning.{Beginning, beginning_of}
use Rattle.ubtool.specs.Faults.{rehearse_error}
use Rattle.ubtool.specs.Given.{Given}
use Rattle.ubtool.specs.Headline.{HasBoard, Rehearses, asked_of}
use Rattle.ubtool.specs.Refusing.{Refuses}
use Rattle.ubtool.proofs.BeginningLemmas.{has-image, on_board}

module _ (g : Given) (beginning : Beginning) (text : Option Text) (old new : Sink) (found : beginning_of g ≡ Ok beginning) (same : text ≡ beginning.text) where
  on_image : (IsSo : Asking → Option Task → Type 0) → IsSo (asked_of beginning g.asking) (below.task_asked beginning.environment beginning.devices text (asked_of beginning g.asking)) → HasBoard g IsSo
  on_image IsSo h = on_board g beginning found text same IsSo h

  pub rehearses-image : (finish : Finish) → below.Rehearses (below.task_asked beginning.environment beginning.devices text (asked_of beginning g.asking)) (asked_of beginning g.asking) old new finish → Rehearses g old new finish
  rehearses-image finish h = on_image (λ asking task. below.Rehearses task asking old new finish) h

  pub refused-image : (error : RehearseError) → below.Refuses (below.task_asked beginning.environment beginning.devices text (asked_of beginning g.asking)) (asked_of beginning g.asking) old new error → Refuses g old new (rehearse_error error)
  refused-image (rehearsal.DeviceList fault) h = absurd h
  refused-image rehearsal.NoSuchVariable h = (on_image (λ asking task. task ≡ None) h.0, h.1)
  refused-image rehearsal.NotARun h = (on_image (λ asking task. below.LacksRun task asking.wanted) h.0, h.1)
  refused-image rehearsal.States h = h
  refused-image (rehearsal.Steps count) h = h
  refused-image (rehearsal.Bytes count) h = h
  refused-image rehearsal.Failed h = h
  refused-image rehearsal.Write h = on_image (λ asking task. below.LeavesPrefix task asking old new) h
  refused-image rehearsal.Memory (inl nothing) = inl (has-image g beginning found, nothing)
  refused-image rehearsal.Memory (inr h) = inr (on_image (λ asking task. below.LeavesRecords task asking old new) h)
