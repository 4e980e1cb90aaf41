-- What `clap` finds in the words of a call.
use Rattle.std.proofs.Common.{◌≡◌, Err, List, inl, inr, refl, true}
use Rattle.clap.specs.Words.{Text, is_simple, is_simple_and_free}
use Rattle.clap.proofs.OnLiterals.{clap_on_literals}
use Rattle.hushcheck_program.specs.CommandAnswers.{Answers, Says, asked}
use Rattle.hushcheck_program.specs.CommandLine.{hushcheck}
use Rattle.tool_words.specs.Answered.{IsAccepted, Refuses}
use Rattle.tool_words.specs.declared.ask.UseError.{UseError}
use Rattle.tool_words.specs.declared.ask.UseError.TheVariants.{BadFill, BadSize, BadValue, HeaderNeedsOne, Line, LockNeedsFolder, Memory, Misnamed, NeedEnding, NeedExpect, NeedName, ScriptAndName, TooManyDevices, WordAlone}

pub hushcheck_simple : is_simple hushcheck ≡ true
unfolding clap_on_literals hushcheck
hushcheck_simple = refl

pub hushcheck_free : is_simple_and_free hushcheck ≡ true
unfolding clap_on_literals hushcheck
hushcheck_free = refl

-- what `clap` refuses
pub clap-refused : (words : List Text) (error : UseError) → Refuses hushcheck words error → Answers words (Err error)
clap-refused words (Line text) h = inl h
clap-refused words Memory h = tt
clap-refused words LockNeedsFolder h = absurd h
clap-refused words NeedName h = absurd h
clap-refused words ScriptAndName h = absurd h
clap-refused words HeaderNeedsOne h = absurd h
clap-refused words WordAlone h = absurd h
clap-refused words TooManyDevices h = absurd h
clap-refused words BadSize h = absurd h
clap-refused words BadFill h = absurd h
clap-refused words NeedExpect h = absurd h
clap-refused words NeedEnding h = absurd h
clap-refused words BadValue h = absurd h
clap-refused words (Misnamed error) h = absurd h

-- a name that no shell has, a variable beside a script, or words that name no images
pub entries-refused : (words : List Text) (error : UseError) → IsAccepted hushcheck words → Says (asked words) (Err error) → Answers words (Err error)
entries-refused words (Line text) accepted h = inr (accepted, h)
entries-refused words Memory accepted h = tt
entries-refused words LockNeedsFolder accepted h = absurd h
entries-refused words NeedName accepted h = absurd h
entries-refused words ScriptAndName accepted h = absurd h
entries-refused words HeaderNeedsOne accepted h = absurd h
entries-refused words WordAlone accepted h = absurd h
entries-refused words TooManyDevices accepted h = absurd h
entries-refused words BadSize accepted h = absurd h
entries-refused words BadFill accepted h = absurd h
entries-refused words NeedExpect accepted h = absurd h
entries-refused words NeedEnding accepted h = absurd h
entries-refused words BadValue accepted h = absurd h
entries-refused words (Misnamed error) accepted h = (accepted, h)
