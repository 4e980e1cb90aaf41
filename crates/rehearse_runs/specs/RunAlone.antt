-- What writing the run of one word does. Ours.
use Rattle.std.specs.Prelude.{◌≡◌, ◌++◌, List, codes}
use Rattle.output.specs.Sink.{Sink, Wrote, BrokeOff}
use Rattle.rehearse_rules.specs.RunsToCome.{SpellsNoRun}
use Rattle.rehearse_rules.specs.Listing.{spelled, record_of, line}
use Rattle.rehearse_terms.specs.Outcomes.{OutcomeWord, Run}
use Rattle.rehearse_rules.specs.Runs.{Task, kind}
use Rattle.rehearse_terms.specs.State.{Text}
use Rattle.rehearse_rules.specs.declared.rehearse_error.RehearseError.{RehearseError}
use Rattle.rehearse_rules.specs.declared.rehearse_error.RehearseError.TheVariants.{NotARun, Write, Memory}

-- the text is the printed word of a run
pub record IsRunOf (task : Task) (printed : Text) : Type 0 where
  pub word : OutcomeWord
  pub spells : printed ≡ spelled word
  pub run : kind task word ≡ Run

-- the record of the run of this word, and the closing line
abbrev pub alone_text : Task → (names : List Text) → OutcomeWord → Text
alone_text task names word = record_of task names word ++ line (codes "done")

-- it was written
pub record WritesAlone (task : Task) (printed : Text) (names : List Text) (old new : Sink) : Type 0 where
  pub is_run : IsRunOf task printed
  pub wrote : Wrote old new (alone_text task names is_run.word)

-- the output failed inside it
pub record BreaksInside (task : Task) (printed : Text) (names : List Text) (old new : Sink) : Type 0 where
  pub is_run : IsRunOf task printed
  pub broke : BrokeOff old new (alone_text task names is_run.word)

abbrev pub BreaksAlone : Task → (printed : Text) → (names : List Text) → (old new : Sink) → RehearseError → Type 0
BreaksAlone task printed names old new NotARun = SpellsNoRun task printed × (new ≡ old)
BreaksAlone task printed names old new Write = BreaksInside task printed names old new
BreaksAlone task printed names old new Memory = new ≡ old
BreaksAlone task printed names old new _ = ⊥
