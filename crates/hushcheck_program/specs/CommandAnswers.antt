-- The answer to the words of a call. Ours.
use Rattle.std.specs.Prelude.{◌≡◌, ◌⊎◌, List, Option, Some, None, Result, Ok, Err}
use Rattle.clap.specs.Words.{IsAmong, Text, fault_of, matches_of}
use Rattle.clap.specs.declared.error.kind.ErrorKind.TheVariants.{DisplayHelp, DisplayVersion}
use Rattle.hushcheck_program.specs.Asked.{Asked, asked_by, asked_of}
use Rattle.hushcheck_program.specs.CommandLine.{hushcheck}
use Rattle.hushcheck_program.specs.declared.ask.Ask.{Ask}
use Rattle.tool_words.specs.Answered.{IsAccepted, IsMistaken}
use Rattle.tool_words.specs.declared.answer.Answer.{Answer}
use Rattle.tool_words.specs.declared.answer.Answer.TheVariants.{Asks, Help, Version}
use Rattle.tool_words.specs.declared.ask.OriginError.{OriginError}
use Rattle.tool_words.specs.declared.ask.UseError.{UseError}
use Rattle.tool_words.specs.declared.ask.UseError.TheVariants.{Line, Memory, Misnamed}

-- what the words ask for, or which words that name the images are refused, by the entries that `clap` finds in them
abbrev pub asked : List Text → Option (Result Asked OriginError)
asked words = asked_of (matches_of hushcheck words)

-- what is read of the entries: a line says that a variable is named beside a script, that a folder of files is given without
-- a device list, or that no shell has the name that is given
abbrev pub Says : Option (Result Asked OriginError) → Result Ask UseError → Type 0
Says asked (Ok ask) = asked ≡ Some (Ok (asked_by ask.origin ask.devices_file ask.what ask.order))
Says asked (Err (Line text)) = asked ≡ None
Says asked (Err (Misnamed error)) = asked ≡ Some (Err error)
Says asked (Err Memory) = Unit {0}
Says asked (Err error) = ⊥

-- The answer to words. A line without a mistake is that of a name that no shell has, of a variable beside a script, or of files
-- without a device list, which `clap` accepts.
abbrev pub Answers : List Text → Result (Answer Ask) UseError → Type 0
Answers words (Ok (Asks ask)) =
    IsAccepted hushcheck words
    × (asked words ≡ Some (Ok (asked_by ask.origin ask.devices_file ask.what ask.order)))
Answers words (Ok (Help text)) = IsAmong DisplayHelp (fault_of hushcheck words)
Answers words (Ok Version) = IsAmong DisplayVersion (fault_of hushcheck words)
Answers words (Err (Line text)) = IsMistaken hushcheck words ⊎ (IsAccepted hushcheck words × (asked words ≡ None))
Answers words (Err (Misnamed error)) = IsAccepted hushcheck words × (asked words ≡ Some (Err error))
Answers words (Err Memory) = Unit {0}
Answers words (Err error) = ⊥
