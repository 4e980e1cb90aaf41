-- What the whole program `ubtool` has done when it ends with a status. Ours.
use Rattle.std.specs.Prelude.{◌≡◌, ◌≤◌, ℕ, List, [], Option, codes}
use Rattle.clap.specs.Words.{Text}
use Rattle.output.specs.Outputs.{Outputs}
use Rattle.output.specs.Sink.{Wrote}
use Rattle.tool_words.specs.Called.{name_of}
use Rattle.tool_words.specs.CommandAnswers.{Answers}
use Rattle.tool_words.specs.declared.called.CalledAs.{CalledAs}
use Rattle.tool_images.specs.Input.{PrintsInput, RefusesInput, TellsOnly}
use Rattle.ubtool.specs.Performing.{Does, Leaves}
use Rattle.tool_steps.specs.Running.{FilesShown, HasDone, HasRefused, IsMisused}
use Rattle.tool_steps.specs.declared.build.Build.{Build}

-- Without words: the image on the input was printed, or it was refused. No file was touched, and no lock was taken.
pub record HasPrinted (input : Option (List ℕ)) (before after : FilesShown) (outputs : Outputs) (status : ℕ) : Type 0
  where
    pub bound : status ≤ 1
    pub printed : status ≡ 0 → PrintsInput input outputs.out outputs.out'
    pub quiet : status ≡ 0 → Wrote outputs.err outputs.err' []
    pub refused : status ≡ 1 → RefusesInput input outputs.out outputs.out'
    pub told : status ≡ 1 → TellsOnly (codes "ubtool") outputs.err outputs.err'
    pub untouched : after ≡ before

-- With words: they ask for something, and it was done or refused; or they were refused. A change was made under the
-- lock, and nothing else took it (`Leaves`).
pub record HasEnded (called : CalledAs) (build : Build) (input : Option (List ℕ)) (words : List Text)
    (before after : FilesShown) (outputs : Outputs) (status : ℕ) : Type 0 where
  pub bound : status ≤ 2
  pub done : status ≡ 0 → HasDone (Answers called) Leaves (Does (name_of called) build input) words before after outputs
  pub refused : status ≡ 1 → HasRefused (name_of called) (Answers called) Leaves (Does (name_of called) build input)
      words before after outputs
  pub misused : status ≡ 2 → IsMisused (name_of called) (Answers called) words before after outputs
