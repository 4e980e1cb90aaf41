-- What contracts see of an output over a writer of std.
use Rattle.std.specs.Prelude.{ℕ, Bool, Result, Ok, Err}
use Rattle.output.specs.Sink.{counted}
use Rattle.output.specs.declared.over.Over.{Over}

-- the writer, which shows the bytes
abbrev pub writer_of : {W : Type 0} → Over W → W
writer_of o = o.writer

-- how often it failed
abbrev pub failures_of : {W : Type 0} → Over W → ℕ
failures_of o = o.failures

-- all that was written is flushed
abbrev pub is_flushed : {W : Type 0} → Over W → Bool
is_flushed o = o.flushed

-- the count after a flush: an error is a failure
abbrev pub failures_flushed : {T E : Type 0} → Result T E → ℕ → ℕ
failures_flushed (Ok _) count = count
failures_flushed (Err _) count = counted count
