-- What the machine's files count, and whether their lock was taken. Both are ours.
use Rattle.std.specs.Prelude.{ℕ, Bool, true, false}
use Rattle.tool_files.specs.declared.lock.Lock.{Lock}
use Rattle.tool_files.specs.declared.lock.Lock.TheVariants.{Held, Missing, NotTaken}
use Rattle.tool_files.specs.declared.machine.Machine.{Machine}

-- how often the device has failed
abbrev pub faults_of : {R W : Type 0} → Machine R W → ℕ
faults_of m = m.faults

-- the lock was asked for and not refused: it is held, or there is no folder for its file
abbrev pub is_taken : Lock → Bool
is_taken NotTaken = false
is_taken (Held file) = true
is_taken Missing = true

abbrev pub is_locked : {R W : Type 0} → Machine R W → Bool
is_locked m = is_taken m.lock
