-- What the lines of one name, and the `sub` lines of one name and one first word, say together. Ours.
use Rattle.std.specs.Prelude.{◌≡◌, ℕ, nat_le, Bool, true, false, length, ◌&&◌, List, [], ◌∷◌, map, filter, Option, Some, None, Ok, if◌then◌else◌}
use Rattle.std.specs.Str.{bytes_eq}
use Rattle.std.specs.List.{list_any, list_all, flat_map}
use Rattle.std.specs.Result.{result_ok}
use Rattle.text.specs.Lines.{numbered_lines}
use Rattle.text.specs.Lines.{Text}
use Rattle.device_list.specs.Finishes.{first_of}
use Rattle.device_list.specs.DeviceList.{Effect, Devices, Files, DeviceLine, effect_at, effect_of, device_words, begins_comment, heading_of, line_of, listed, listed_with}

-- the command that a line names, if it names one, in a list without a faulty line
abbrev pub line_said : ℕ → List Text → Option DeviceLine
line_said number [] = None
line_said number (first ∷ words) = if begins_comment first then None
    else result_ok (line_of number (heading_of first words))

abbrev pub with_said : Option DeviceLine → List DeviceLine → List DeviceLine
with_said None more = more
with_said (Some one) more = one ∷ more

-- the lines that name a command, in order
abbrev pub lines_said : List (ℕ × Text) → List DeviceLine
lines_said [] = []
lines_said (l ∷ lines) = with_said (line_said l.0 (device_words l.1)) (lines_said lines)

abbrev pub same_word : Option Text → Option Text → Bool
same_word None None = true
same_word None (Some w) = false
same_word (Some v) None = false
same_word (Some v) (Some w) = bytes_eq v w

-- the lines of a name, or its `sub` lines of a first word
abbrev pub lines_at : (name : Text) → (word : Option Text) → List DeviceLine → List DeviceLine
lines_at name word = filter (λ one. same_word word one.word && bytes_eq name one.name)

-- some lines together: they end the run as the first says that says so, and are steady if one of them is, with all settings
-- in their order
abbrev pub whole_effect : List DeviceLine → Option Effect
whole_effect [] = None
whole_effect (one ∷ more) = Some (record {
  ends = first_of (map (λ l. l.effect.ends) (one ∷ more));
  stays = list_any (λ l. l.effect.stays) (one ∷ more);
  always = one.effect.always;
  needs = one.effect.needs;
  normal = one.effect.normal;
  runs = one.effect.runs;
  sets = flat_map (λ l. l.effect.sets) (one ∷ more);
})

-- A name, or its calls with a first word, are listed if a line names them, and do what all those lines say.
abbrev pub LinesAreJoined : Type 0
LinesAreJoined = (text : Text) (devices : Devices) → listed text ≡ Ok devices → (name : Text) (word : Option Text)
    → effect_at devices name word ≡ whole_effect (lines_at name word (lines_said (numbered_lines text)))

-- ---- lists that have only names

-- a command that only succeeds or fails
abbrev pub quiet : Effect
quiet = record { ends = None; stays = false; always = None; needs = []; normal = false; runs = []; sets = [] }

abbrev pub is_name_alone : Text → Bool
is_name_alone line = nat_le (length (device_words line)) 1

-- A list with no second word in any line says only names.
abbrev pub NamesAreQuiet : Type 0
NamesAreQuiet = (text : Text) (devices : Devices) → listed text ≡ Ok devices →
    list_all (λ l. is_name_alone l.1) (numbered_lines text) ≡ true
    → (name : Text) (words : List Text) (effect : Effect) → effect_of devices name words ≡ Some effect → effect ≡ quiet

-- ---- files

-- A list that is accepted without files is accepted with any, and says the same.
abbrev pub FilesChangeNothing : Type 0
FilesChangeNothing = (files : Files) (text : Text) (devices : Devices) → listed text ≡ Ok devices →
    listed_with files text ≡ Ok (record devices { files = files })
