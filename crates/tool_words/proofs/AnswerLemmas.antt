-- From what `clap` answers to the answer to the words, and to the lock that they name.
use Rattle.std.proofs.Common.{◌≡◌, ◌≢◌, ◌∙◌, ◌⊎◌, inl, inr, refl, sym, ap, ap₂, subst, true, List, [], Option, Some, None, option_map, unwrap_or, Global}
use Rattle.std.specs.Prelude.{Box, Result, Ok, Err, option_and_then}
use Rattle.std.specs.Box.{box_value}
use Rattle.clap.specs.Words.{App, HasKind, HasMatchesOf, IsAmong, Row, Text, fault_of, is_simple_and_free, kind_of, subcommand_name_of, subcommand_rows, subcommand_rows_of}
use Rattle.clap.specs.declared.error.Error.{Error}
use Rattle.clap.specs.declared.parser.matches.ArgMatches.{ArgMatches}
use Rattle.clap.specs.declared.parser.matches.SubCommand.{SubCommand}
use Rattle.clap.specs.declared.parser.matches.ArgMatches.TheViews.{out-ArgMatches, out-SubCommand}
use Rattle.clap.specs.declared.error.kind.ErrorKind.{ErrorKind}
use Rattle.clap.specs.declared.error.kind.ErrorKind.TheVariants.{DisplayHelp, DisplayVersion, OutOfMemory}
use Rattle.tool_words.specs.declared.ask.Ask.{Ask}
use Rattle.tool_words.specs.declared.ask.Ask.TheVariants as ask
use Rattle.tool_words.specs.declared.answer.Answer.{Answer}
use Rattle.tool_words.specs.declared.answer.Answer.TheVariants.{Asks, Help, Version}
use Rattle.tool_words.specs.declared.ask.UseError.{UseError}
use Rattle.tool_words.specs.declared.called.CalledAs.{CalledAs}
use Rattle.tool_words.specs.declared.ask.UseError.TheVariants.{BadFill, BadSize, BadValue, Line, LockNeedsFolder, NeedEnding, NeedExpect, NeedName, ScriptAndName, HeaderNeedsOne, Misnamed, WordAlone, TooManyDevices, Memory}
use Rattle.tool_words.specs.Asked.{Asked, asked_of, lock_of}
use Rattle.tool_words.specs.CommandAnswers.{Answers, NamesLock, Says, asked}
use Rattle.tool_words.specs.Answered.{AnswersBy, IsAccepted, Refuses, Reports}
use Rattle.tool_words.specs.CommandLine.{ubtool}
use Rattle.tool_words.proofs.OneSubcommand.{AnswersAs}

-- if the words are accepted
pub accepted_answer : (called : CalledAs) (words : List Text) (a : Option Asked) (r : Result Ask UseError) → IsAccepted ubtool words → a ≡ asked called words → Says a r → Answers called words r
accepted_answer called words a (Ok (ask.Help text)) fine is says = absurd says
accepted_answer called words a (Ok ask.Version) fine is says = absurd says
accepted_answer called words a (Ok (ask.Print origin what order one_copy)) fine is says = (fine, says ∙ is)
accepted_answer called words a (Ok (ask.Setenv origin change order one_copy)) fine is says = (fine, says ∙ is)
accepted_answer called words a (Ok (ask.Rehearse inputs what order)) fine is says = (fine, says ∙ is)
accepted_answer called words a (Ok (ask.Endings inputs what order)) fine is says = (fine, says ∙ is)
accepted_answer called words a (Ok (ask.Boots inputs what order)) fine is says = (fine, says ∙ is)
accepted_answer called words a (Ok (ask.Causes inputs what order)) fine is says = (fine, says ∙ is)
accepted_answer called words a (Ok (ask.Image text output what)) fine is says = (fine, says ∙ is)
accepted_answer called words a (Ok (ask.Inspect origin order)) fine is says = (fine, says ∙ is)
accepted_answer called words a (Err LockNeedsFolder) fine is says = (fine, says ∙ is)
accepted_answer called words a (Err NeedName) fine is says = (fine, says ∙ is)
accepted_answer called words a (Err ScriptAndName) fine is says = (fine, says ∙ is)
accepted_answer called words a (Err HeaderNeedsOne) fine is says = (fine, says ∙ is)
accepted_answer called words a (Err (Misnamed error)) fine is says = (fine, says ∙ is)
accepted_answer called words a (Err BadSize) fine is says = (fine, says ∙ is)
accepted_answer called words a (Err BadFill) fine is says = (fine, says ∙ is)
accepted_answer called words a (Err WordAlone) fine is says = (fine, says ∙ is)
accepted_answer called words a (Err TooManyDevices) fine is says = (fine, says ∙ is)
accepted_answer called words a (Err NeedExpect) fine is says = (fine, says ∙ is)
accepted_answer called words a (Err NeedEnding) fine is says = (fine, says ∙ is)
accepted_answer called words a (Err BadValue) fine is says = (fine, says ∙ is)
accepted_answer called words a (Err (Line text)) fine is says = inr (fine, says ∙ is)
accepted_answer called words a (Err Memory) fine is says = tt

-- if they are not
pub refused_answer : (called : CalledAs) (app : App) (words : List Text) (e : UseError) → AnswersAs app words → Refuses app words e → Answers called words (Err e)
refused_answer called app words (Line text) alike is = inl (is.0, subst (IsAmong is.0) alike.faults is.1, is.2, is.3)
refused_answer called app words Memory alike is = tt
refused_answer called app words LockNeedsFolder alike is = absurd is
refused_answer called app words NeedName alike is = absurd is
refused_answer called app words ScriptAndName alike is = absurd is
refused_answer called app words HeaderNeedsOne alike is = absurd is
refused_answer called app words (Misnamed error) alike is = absurd is
refused_answer called app words BadSize alike is = absurd is
refused_answer called app words BadFill alike is = absurd is
refused_answer called app words WordAlone alike is = absurd is
refused_answer called app words TooManyDevices alike is = absurd is
refused_answer called app words NeedExpect alike is = absurd is
refused_answer called app words NeedEnding alike is = absurd is
refused_answer called app words BadValue alike is = absurd is

-- an error of `clap`, for any program
pub reported : {T : Type 0} (app : App) (words : List Text) (Means : T → Type 0) (k : ErrorKind) (r : Result (Answer T) UseError) → (k ≡ OutOfMemory) ⊎ IsAmong k (fault_of app words) → Reports k r → AnswersBy app words Means r
reported app words Means k (Ok (Asks ask)) among is = absurd is
reported app words Means k (Ok (Help text)) among is = elim among [
  | inl memory ↦
      let bad : DisplayHelp ≡ OutOfMemory = sym is ∙ memory in
      cc
  | inr one ↦ subst (λ (x : ErrorKind). IsAmong x (fault_of app words)) is one
]
reported app words Means k (Ok Version) among is = elim among [
  | inl memory ↦
      let bad : DisplayVersion ≡ OutOfMemory = sym is ∙ memory in
      cc
  | inr one ↦ subst (λ (x : ErrorKind). IsAmong x (fault_of app words)) is one
]
reported app words Means k (Err (Line text)) among is = elim among [
  | inl memory ↦ absurd (is.2 memory)
  | inr one ↦ (k, one, is.0, is.1)
]
reported app words Means k (Err Memory) among is = tt
reported app words Means k (Err LockNeedsFolder) among is = absurd is
reported app words Means k (Err NeedName) among is = absurd is
reported app words Means k (Err ScriptAndName) among is = absurd is
reported app words Means k (Err HeaderNeedsOne) among is = absurd is
reported app words Means k (Err (Misnamed error)) among is = absurd is
reported app words Means k (Err BadSize) among is = absurd is
reported app words Means k (Err BadFill) among is = absurd is
reported app words Means k (Err WordAlone) among is = absurd is
reported app words Means k (Err TooManyDevices) among is = absurd is
reported app words Means k (Err NeedExpect) among is = absurd is
reported app words Means k (Err NeedEnding) among is = absurd is
reported app words Means k (Err BadValue) among is = absurd is

-- the subcommand that a parse entered, from its name and its entries
pub subcommand_met : (m : ArgMatches) (name : Text) (rows : List Row) → Some name ≡ subcommand_name_of m
    → Some rows ≡ option_map (λ p. p.1) (subcommand_rows_of m) → subcommand_rows_of m ≡ Some (name, rows)
subcommand_met m name rows = go (out-ArgMatches m).subcommand
  where
    go : (o : Option (Box SubCommand Global)) → Some name ≡ option_map (λ b. (out-SubCommand (box_value b)).name.now) o
        → Some rows ≡ option_map (λ p. p.1) (subcommand_rows o) → subcommand_rows o ≡ Some (name, rows)
    go None n r = cc
    go (Some b) n r = ap₂ (λ x y. Some (x, y)) (sym (ap (λ o. unwrap_or o name) n)) (sym (ap (λ o. unwrap_or o rows) r))

-- a parse that succeeds
pub parsed_answer : (called : CalledAs) (app : App) (words : List Text) (m : ArgMatches) (r : Result Ask UseError) → AnswersAs app words → IsAccepted app words → HasMatchesOf app words m
    → Says (option_and_then (λ s. asked_of called s.0 s.1) (subcommand_rows_of m)) r → Answers called words r
parsed_answer called app words m r alike fine matches says =
    let found = (matches alike.simple).1 ∙ alike.enters in
    accepted_answer called words _ r (sym alike.faults ∙ fine) (ap (option_and_then (λ s. asked_of called s.0 s.1)) found) says

-- the lock, if a parse succeeds
pub parsed_lock : (app : App) (words : List Text) (m : ArgMatches) (folder : Option Text) → AnswersAs app words → HasMatchesOf app words m
    → (is_simple_and_free app ≡ true → fault_of app words ≡ []) → folder ≡ option_and_then (λ s. lock_of s.1) (subcommand_rows_of m) → NamesLock words folder
parsed_lock app words m folder alike matches kinds names =
    let found = (matches alike.simple).1 ∙ alike.enters in
    inl (sym alike.faults ∙ kinds alike.free, names ∙ ap (option_and_then (λ s. lock_of s.1)) found)

-- the lock, if a parse fails
pub failed_lock : (app : App) (words : List Text) (e : Error) → AnswersAs app words → (is_simple_and_free app ≡ true → HasKind (fault_of app words) e)
    → (kind_of e ≢ OutOfMemory) → NamesLock words None
failed_lock app words e alike kinds other =
    let has : HasKind (fault_of ubtool words) e = subst (λ ks. HasKind ks e) alike.faults (kinds alike.free) in
    elim has [ inl memory ↦ absurd (other memory) | inr one ↦ inr ((kind_of e, one), refl) ]
