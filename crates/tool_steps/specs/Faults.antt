-- Which faults say that a file failed. They are ours.
use Rattle.std.specs.Prelude.{◌≡◌, ◌⊎◌, ℕ, Bool, true, false, Result, Err}
use Rattle.output.specs.Sink.{counted}
use Rattle.tool_images.specs.declared.fault.Fault.{Fault}
use Rattle.tool_images.specs.declared.fault.Fault.TheVariants.{Config, CannotRead, CannotWrite, FileShort, FileTooLong, Memory, NoScript, Text, TextTooLarge, UnequalSizes}

-- If "cannot read" or "cannot write" is answered, one more failure of the device is counted. No other answer changes
-- the count.
abbrev pub CountsTold : {T : Type 0} → ℕ → ℕ → Result T Fault → Type 0
CountsTold old new (Err (CannotRead path)) = new ≡ counted old
CountsTold old new (Err (CannotWrite path)) = new ≡ counted old
CountsTold old new _ = new ≡ old

-- If one copy of a pair is enough, one more failure may be counted than the answer says: that of the copy that is lost.
abbrev pub CountsReads : {T : Type 0} → (one_copy : Bool) → ℕ → ℕ → Result T Fault → Type 0
CountsReads false old new answer = CountsTold old new answer
CountsReads true old new answer = CountsTold old new answer ⊎ CountsTold (counted old) new answer

-- the faults of reading files, a configuration and a text of variables
abbrev pub IsReadFault : Fault → Type 0
IsReadFault (Config error) = Unit {0}
IsReadFault (CannotRead path) = Unit {0}
IsReadFault (FileShort path) = Unit {0}
IsReadFault (FileTooLong path) = Unit {0}
IsReadFault UnequalSizes = Unit {0}
IsReadFault (Text error) = Unit {0}
IsReadFault TextTooLarge = Unit {0}
IsReadFault Memory = Unit {0}
IsReadFault _ = ⊥

-- and that of a file without a script
abbrev pub IsScriptReadFault : Fault → Type 0
IsScriptReadFault (NoScript path why) = Unit {0}
IsScriptReadFault fault = IsReadFault fault

-- the faults of writing a copy
abbrev pub IsWriteFault : Fault → Type 0
IsWriteFault (CannotWrite path) = Unit {0}
IsWriteFault Memory = Unit {0}
IsWriteFault _ = ⊥
