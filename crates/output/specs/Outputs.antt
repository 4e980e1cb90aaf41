-- Two outputs of a program, before and after a call: what it prints, and what it reports of errors.
use Rattle.std.specs.Prelude.{◌≡◌, ◌⊎◌, ℕ, List, ◌++◌}
use Rattle.output.specs.Sink.{Sink, Wrote, BrokeOff}

pub record Outputs : Type 0 where
  pub out : Sink
  pub out' : Sink
  pub err : Sink
  pub err' : Sink

-- each output before and after
abbrev pub outputs : (out out' err err' : Sink) → Outputs
outputs out out' err err' = record { out = out; out' = out'; err = err; err' = err' }

-- nothing was written
pub record AreUnchanged (s : Outputs) : Type 0 where
  pub out : s.out' ≡ s.out
  pub err : s.err' ≡ s.err

-- the first bytes of the text were taken, and nothing failed
pub record WroteFront (old new : Sink) (text : List ℕ) : Type 0 where
  pub front : List ℕ
  pub rest : List ℕ
  pub whole : text ≡ front ++ rest
  pub wrote : Wrote old new front

-- one of two outputs failed inside its text, and the other has a prefix of its own text
abbrev pub BreaksEither : Sink → Sink → Sink → Sink → List ℕ → List ℕ → Type 0
BreaksEither out out' err err' output errors =
    (BrokeOff out out' output × WroteFront err err' errors) ⊎ (WroteFront out out' output × BrokeOff err err' errors)
