-- Lists that have only names.
use Rattle.std.proofs.Common.{◌≡◌, ℕ, ◌≤◌, Bool, true, false, cond, nat_le, List, [], ◌∷◌, length, Some, None, Result, Ok, Err, refl, sym, ap, subst, ◌∙◌, arith}
use Rattle.std.specs.List.{list_all, AllByRecursion}
use Rattle.std.specs.Str.{bytes_eq}
use Rattle.std.proofs.lemmas.Bool.{and_parts}
use Rattle.std.proofs.lemmas.Bool.Decides.{nat_tests}
use Rattle.text.specs.Lines.{numbered_lines}
use Rattle.text.specs.Lines.{Text}
use Rattle.text.specs.Words.{has_nul}
use Rattle.builtins.specs.Builtins.{is_built_in}
use Rattle.device_list.specs.DeviceList.{Effect, Effects, Devices, effect_in, line_effect, effect_of, joint, joined_in, only, device_words, begins_comment, with_line, after_words, after_line, listed_lines}
use Rattle.device_list.specs.DeviceLaws.{quiet, is_name_alone, NamesAreQuiet}
use Rattle.device_list.specs.declared.devices_error.DevicesError.{DevicesError}
use Rattle.device_list.specs.declared.devices_error.DevicesError.TheVariants.{BadLine, BuiltIn}
use Rattle.device_list.proofs.JoinedLines.{ok-same}
use Rattle.device_list.proofs.MarkLemmas.{lines_of}
use Rattle.device_list.proofs.PlaceLemmas.{without_calls}

abbrev AllQuiet : Effects → Type 0
AllQuiet = AllByRecursion (λ d. d.1 ≡ quiet)

-- no command does anything, and there is no `sub` line and no line of calls
abbrev AreQuiet : Devices → Type 0
AreQuiet devices = AllQuiet devices.commands × ((devices.subs ≡ []) × (devices.calls ≡ []))

joined-quiet : (effects : Effects) (name : Text) → AllQuiet effects → AllQuiet (joined_in effects name quiet)
joined-quiet [] name all = (refl, tt)
joined-quiet (d ∷ effects) name all = by (bytes_eq name d.0) (joined-quiet effects name all.1)
  where
    by : (b : Bool) → AllQuiet (joined_in effects name quiet) → AllQuiet (cond b ((d.0, joint d.1 quiet) ∷ effects) (d ∷ joined_in effects name quiet))
    by true rest = (ap (λ e. joint e quiet) all.0, all.1)
    by false rest = (all.0, rest)

named-quiet : (effects : Effects) (name : Text) (effect : Effect) → AllQuiet effects → effect_in effects name ≡ Some effect → effect ≡ quiet
named-quiet [] name effect all e = cc
named-quiet (d ∷ effects) name effect all e = by (bytes_eq name d.0) e (named-quiet effects name effect all.1)
  where
    by : (b : Bool) → cond b (Some d.1) (effect_in effects name) ≡ Some effect → (effect_in effects name ≡ Some effect → effect ≡ quiet) → effect ≡ quiet
    by true f rest = let same : d.1 ≡ effect = cc in sym same ∙ all.0
    by false f rest = rest f

-- without `sub` lines, the name decides what a call does
by_name : (devices : Devices) (name : Text) (words : List Text) → devices.subs ≡ [] → line_effect devices name words ≡ effect_in devices.commands name
by_name devices name [] e = refl
by_name devices name (word ∷ words) e = rw e refl

found-quiet : (devices : Devices) (name : Text) (words : List Text) (effect : Effect) → AreQuiet devices → effect_of devices name words ≡ Some effect → effect ≡ quiet
found-quiet devices name words effect all e = named-quiet devices.commands name effect all.0 (sym (by_name devices name words all.1.0) ∙ (sym (without_calls devices name words all.1.1) ∙ e))

words-quiet : (devices next : Devices) (number : ℕ) (line : Text) (words : List Text) → nat_le (length words) 1 ≡ true → after_words devices number line words ≡ Ok next → AreQuiet devices → AreQuiet next
words-quiet devices next number line [] short e all = subst AreQuiet (ok-same e) all
words-quiet devices next number line (first ∷ []) short e all =
    by (begins_comment first) (has_nul line) (is_built_in first) e
  where
    by : (comment nul built_in : Bool) → cond comment (Ok devices) (cond nul (Err (BadLine number)) (with_line devices (cond built_in (Err (BuiltIn number)) (Ok (record { name = first; word = None; effect = quiet }))))) ≡ Ok next → AreQuiet next
    by true nul built_in e = subst AreQuiet (ok-same e) all
    by false true built_in e = cc
    by false false true e = cc
    by false false false e = subst AreQuiet (ok-same e) (joined-quiet devices.commands first all.0, all.1)
words-quiet devices next number line (first ∷ second ∷ words) short e all =
    let few : length (first ∷ second ∷ words) ≤ 1 = grind (arith, nat_tests) in absurd (omega (arith, few))

lines-quiet : (lines : List (ℕ × Text)) (devices done : Devices) → list_all (λ l. is_name_alone l.1) lines ≡ true → listed_lines devices lines ≡ Ok done → AreQuiet devices → AreQuiet done
lines-quiet [] devices done short e all = subst AreQuiet (ok-same e) all
lines-quiet (l ∷ lines) devices done short e all =
    let both = and_parts (is_name_alone l.1) (list_all (λ l. is_name_alone l.1) lines) short in
    by (after_line devices l.0 l.1) refl e (λ next. lines-quiet lines next done both.1) both.0
  where
    by : (r : Result Devices DevicesError) → after_line devices l.0 l.1 ≡ r → ◌≡◌ {A = Result Devices DevicesError} (elim r [ Ok next ↦ listed_lines next lines | Err fault ↦ Err fault ]) (Ok done)
        → ((next : Devices) → listed_lines next lines ≡ Ok done → AreQuiet next → AreQuiet done) → is_name_alone l.1 ≡ true → AreQuiet done
    by (Err fault) is f later alone = cc
    by (Ok next) is f later alone = later next f (words-quiet devices next l.0 l.1 (device_words l.1) alone is all)

pub names_are_quiet : NamesAreQuiet
names_are_quiet text devices e short name words effect found =
    found-quiet devices name words effect (lines-quiet (numbered_lines text) (only []) devices short (lines_of text devices e) (tt, (refl, refl))) found
