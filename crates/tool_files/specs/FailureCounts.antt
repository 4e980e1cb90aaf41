-- What an answer of a call on files says of the count of the device's failures. The count is ours.
use Rattle.std.specs.Prelude.{◌≡◌, ℕ, Result, Err}
use Rattle.output.specs.Sink.{counted}
use Rattle.tool_files.specs.declared.files.FileFault.{FileFault}
use Rattle.tool_files.specs.declared.files.FileFault.TheVariants.{Failed}

-- a failure is answered only if one more is counted, and no other answer changes the count
abbrev pub CountsFault : {T : Type 0} → ℕ → ℕ → Result T FileFault → Type 0
CountsFault old new (Err Failed) = new ≡ counted old
CountsFault old new _ = new ≡ old
