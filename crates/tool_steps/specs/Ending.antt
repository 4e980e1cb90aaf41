-- How a whole program ends: its output is flushed, and a flush that fails is no status 0. Ours.
use Rattle.std.specs.Prelude.{◌≡◌, ◌⊎◌, ℕ, Bool, true, false, List, max}
use Rattle.output.specs.Over.{failures_of, is_flushed}
use Rattle.output.specs.Sink.{Sink, counted}
use Rattle.output.specs.declared.over.Over.{Over}
use Rattle.tool_images.specs.FaultLines.{TellsLine}

-- the failure is reported, unless something was reported before
abbrev pub IsReported : (program : List ℕ) → (told : Bool) → (err err' : Sink) → Type 0
IsReported program true err err' = err' ≡ err
IsReported program false err err' = TellsLine program err err'

-- The output was flushed, and nothing more was reported: the status stays.
pub record HasFlushed {W : Type 0} (out out' : Over W) (err err' : Sink) (status ended : ℕ) : Type 0 where
  pub flushed : is_flushed out' ≡ true
  pub sound : failures_of out' ≡ failures_of out
  pub quiet : err' ≡ err
  pub stays : ended ≡ status

-- The flush failed, which is reported unless something was before: a lower status becomes the one of a refusal.
pub record HasNotFlushed {W : Type 0} (program : List ℕ) (refused : ℕ) (told : Bool) (out out' : Over W)
    (err err' : Sink) (status ended : ℕ) : Type 0 where
  pub failed : failures_of out' ≡ counted (failures_of out)
  pub reported : IsReported program told err err'
  pub refuses : ended ≡ max status refused

-- one or the other
abbrev pub Finishes : {W : Type 0} (program : List ℕ) → (refused : ℕ) → (told : Bool) → (out out' : Over W) →
    (err err' : Sink) → (status ended : ℕ) → Type 0
Finishes program refused told out out' err err' status ended =
    HasFlushed out out' err err' status ended ⊎ HasNotFlushed program refused told out out' err err' status ended
