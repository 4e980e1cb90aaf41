-- From the endings of an environment's runs to the endings of an image's runs.
use Rattle.std.proofs.Common.{◌≡◌, List, Option, None, Ok, subst, sym}
use Rattle.output.specs.Sink.{Sink}
use Rattle.rehearse_rules.specs.Runs.{Task}
use Rattle.rehearse_runs.specs.RehearsedEnvironment.{task_asked}
use Rattle.rehearse_terms.specs.Asking.{Asking}
use Rattle.rehearse_terms.specs.State.{Text}
use Rattle.rehearse_endings.specs.TellingEndings as below
use Rattle.rehearse_endings.specs.TellingEndings.{AreLines, HasMoreBytes, HasMoreStates, HasMoreSteps, names_of}
use Rattle.rehearse_endings.specs.declared.telling.EndingsAsk.{EndingsAsk}
use Rattle.rehearse_rules.specs.declared.rehearse_error.RehearseError.{RehearseError}
use Rattle.rehearse_rules.specs.declared.rehearse_error.RehearseError.TheVariants as rehearsal
use Rattle.ubtool.specs.Beginning.{Beginning, beginning_of}
use Rattle.ubtool.specs.EndingsOfImages.{RefusesOne, TellsOne, runs_by}
use Rattle.ubtool.specs.Faults.{rehearse_error}
use Rattle.ubtool.specs.Given.{Given}
use Rattle.ubtool.specs.Headline.{HasBoard, asked_of}
use Rattle.ubtool.proofs.BeginningLemmas.{has-image, on_board}

module _ (g : Given) (ask : EndingsAsk) (beginning : Beginning) (text : Option Text) (old new : Sink) (found : beginning_of g ≡ Ok beginning) (asked : asked_of beginning g.asking ≡ runs_by ask) (same : text ≡ beginning.text) where
  on_image : (IsSo : List Text → Option Task → Type 0) → IsSo (names_of ask) (task_asked beginning.environment beginning.devices text (runs_by ask)) → HasBoard g (λ asking task. IsSo asking.names task)
  on_image IsSo h = on_board g beginning found text same (λ asking task. IsSo asking.names task) (subst (λ (a : Asking). IsSo a.names (task_asked beginning.environment beginning.devices text a)) (sym asked) h)

  pub tells-image : below.TellsEndings (task_asked beginning.environment beginning.devices text (runs_by ask)) ask old new → TellsOne g ask.flow ask.states ask.memory old new
  tells-image h = (h.0, on_image (λ names task. AreLines names ask.flow ask.states ask.memory task h.0) h.1, h.2)

  pub refused-endings : (error : RehearseError) → below.RefusesEndings (task_asked beginning.environment beginning.devices text (runs_by ask)) ask old new error → RefusesOne g ask.flow ask.states ask.work ask.memory old new (rehearse_error error)
  refused-endings (rehearsal.DeviceList fault) h = absurd h
  refused-endings rehearsal.NoSuchVariable h = (on_image (λ names task. task ≡ None) h.0, h.1)
  refused-endings rehearsal.States h = (on_image (λ names task. HasMoreStates names ask.states task) h.0, h.1)
  refused-endings (rehearsal.Steps count) h = (on_image (λ names task. HasMoreSteps names count ask.work task) h.0, h.1)
  refused-endings (rehearsal.Bytes count) h = (on_image (λ names task. HasMoreBytes names count ask.memory task) h.0, h.1)
  refused-endings rehearsal.Write h = (h.0, on_image (λ names task. AreLines names ask.flow ask.states ask.memory task h.0) h.1, h.2)
  refused-endings rehearsal.NotARun h = absurd h
  refused-endings rehearsal.Failed h = absurd h
  refused-endings rehearsal.Memory h = (has-image g beginning found, h)
