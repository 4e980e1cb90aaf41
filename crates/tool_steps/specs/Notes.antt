-- What is reported while a call goes on. It is ours.
use Rattle.std.specs.Prelude.{◌≡◌, ◌⊎◌, ℕ, Bool, true, false, List, Result, Ok, Err}
use Rattle.output.specs.Sink.{Sink}
use Rattle.tool_images.specs.FaultLines.{TellsLine}
use Rattle.tool_images.specs.declared.fault.Fault.{Fault}
use Rattle.tool_images.specs.declared.fault.Fault.TheVariants.{CannotWrite, Memory}

-- one line of the program, if this is so, and nothing otherwise
abbrev pub TellsIf : (program : List ℕ) → Bool → Sink → Sink → Type 0
TellsIf program true old new = TellsLine program old new
TellsIf program false old new = new ≡ old

-- one line of the program or nothing, if a line is allowed, and nothing otherwise
abbrev pub MayTell : (program : List ℕ) → (allowed : Bool) → Sink → Sink → Type 0
MayTell program true old new = (new ≡ old) ⊎ TellsLine program old new
MayTell program false old new = new ≡ old

-- if one copy of a pair is enough, a line may say that the other is lost; before a write one may say that the two overlap
abbrev pub TellsBoth : (program : List ℕ) → (one_copy : Bool) → Sink → Sink → Type 0
TellsBoth program one_copy old new = (from : Sink) × MayTell program one_copy old from × MayTell program true from new

-- what is reported while a change is made, by its answer: nothing is said of a write that is not tried
abbrev pub TellsNotes : {T : Type 0} → (program : List ℕ) → (one_copy : Bool) → Result T Fault → Sink → Sink → Type 0
TellsNotes program one_copy (Ok done) old new = TellsBoth program one_copy old new
TellsNotes program one_copy (Err (CannotWrite path)) old new = TellsBoth program one_copy old new
TellsNotes program one_copy (Err Memory) old new = TellsBoth program one_copy old new
TellsNotes program one_copy (Err fault) old new = MayTell program one_copy old new
