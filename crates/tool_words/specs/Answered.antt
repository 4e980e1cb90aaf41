-- The answer to the words of any program that `clap` reads (ours).
use Rattle.std.specs.Prelude.{◌≡◌, ◌≢◌, List, [], Result, Ok, Err}
use Rattle.clap.specs.Words.{App, IsAmong, Text, fault_of}
use Rattle.clap.specs.declared.error.kind.ErrorKind.{ErrorKind}
use Rattle.clap.specs.declared.error.kind.ErrorKind.TheVariants.{DisplayHelp, DisplayVersion, OutOfMemory}
use Rattle.tool_words.specs.declared.answer.Answer.{Answer}
use Rattle.tool_words.specs.declared.answer.Answer.TheVariants.{Asks, Help, Version}
use Rattle.tool_words.specs.declared.ask.UseError.{UseError}
use Rattle.tool_words.specs.declared.ask.UseError.TheVariants.{Line, Memory}

-- `clap` finds no fault in the words
abbrev pub IsAccepted : App → List Text → Type 0
IsAccepted app words = fault_of app words ≡ []

-- `clap` refuses the words for some mistake, not to show the help or the version
abbrev pub IsMistaken : App → List Text → Type 0
IsMistaken app words = (k : ErrorKind) × IsAmong k (fault_of app words) × (k ≢ DisplayHelp)
    × (k ≢ DisplayVersion)

-- no other refusal comes from `clap`
abbrev pub Refuses : App → List Text → UseError → Type 0
Refuses app words (Line text) = IsMistaken app words
Refuses app words Memory = Unit {0}
Refuses app words _ = ⊥

-- the answer to words that ask for what has this meaning
abbrev pub AnswersBy : {T : Type 0} → App → List Text → (T → Type 0) → Result (Answer T) UseError → Type 0
AnswersBy app words Means (Ok (Asks ask)) = IsAccepted app words × Means ask
AnswersBy app words Means (Ok (Help text)) = IsAmong DisplayHelp (fault_of app words)
AnswersBy app words Means (Ok Version) = IsAmong DisplayVersion (fault_of app words)
AnswersBy app words Means (Err error) = Refuses app words error

-- the answer to an error of `clap`
abbrev pub Reports : {T : Type 0} → ErrorKind → Result (Answer T) UseError → Type 0
Reports k (Ok (Help text)) = k ≡ DisplayHelp
Reports k (Ok Version) = k ≡ DisplayVersion
Reports k (Err (Line text)) = (k ≢ DisplayHelp) × (k ≢ DisplayVersion) × (k ≢ OutOfMemory)
Reports k (Err Memory) = Unit {0}
Reports k _ = ⊥
