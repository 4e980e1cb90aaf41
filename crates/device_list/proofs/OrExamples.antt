-- Worked examples of lines `or`, computed.
use Rattle.std.proofs.Common.{◌≡◌, ℕ, true, false, List, [], ◌∷◌, ◌++◌, drop, length, map, Some, None, Ok, Err, refl}
use Rattle.std.specs.Prelude.{codes}
use Rattle.text.specs.Lines.{Text}
use Rattle.device_list.specs.CallLines.{FileText, Files, Pattern, Exactly, Starting}
use Rattle.device_list.specs.DeviceList.{Effect, Devices, Variable, Literal, with_files, effect_of, is_choice, expected, all_steady, listed, listed_with}
use Rattle.device_list.specs.DeviceLaws.{quiet}
use Rattle.device_list.specs.Kinds.{Settings, Calls, kinds_of}
use Rattle.device_list.specs.NamedFiles.{named_files}
use Rattle.device_list.specs.declared.devices_error.DevicesError.TheVariants.{BadLine}

abbrev plain : Text → FileText
plain text = record { text = text; size = length text }

-- a card with three scripts, and two whose names no call of `runs` names
abbrev card : Files
card = (codes "a.scr", plain (codes "bootm")) ∷ (codes "b.scr", plain (codes "reset")) ∷ (codes "c.scr", plain []) ∷ (codes "$d", plain []) ∷ (codes "'d e'", plain []) ∷ []

abbrev runs : List Text → Effect
runs files = record quiet { runs = files }

abbrev any : Pattern
any = record { words = []; more = true }

abbrev asks : Text → Pattern × Effect
asks file = (record { words = Exactly file ∷ []; more = false }, record quiet { stays = true })

-- ---- two files, and three

two_files : listed_with card (codes "call source ** : runs a.scr\nor call source ** : runs b.scr")
    ≡ Ok (record (with_files card) { calls = (codes "source", (any, runs (codes "a.scr" ∷ codes "b.scr" ∷ [])) ∷ []) ∷ (codes "runs", asks (codes "a.scr") ∷ []) ∷ []; choices = codes "a.scr" ∷ [] })
two_files = refl

three_files : listed_with card (codes "call source ** : runs a.scr\nor call source ** : runs b.scr\nor call source ** : runs c.scr")
    ≡ Ok (record (with_files card) { calls = (codes "source", (any, runs (codes "a.scr" ∷ codes "b.scr" ∷ codes "c.scr" ∷ [])) ∷ []) ∷ (codes "runs", asks (codes "a.scr") ∷ asks (codes "b.scr") ∷ []) ∷ []; choices = codes "a.scr" ∷ codes "b.scr" ∷ [] })
three_files = refl

-- the line before may say more, and lines about other commands may be between; the last line of the name goes on
among_others : listed_with card (codes "call source x : runs c.scr\ncall source y* * : steady runs a.scr\nload\n or  call source y* * :  runs b.scr")
    ≡ Ok (record (with_files card) {
      commands = (codes "load", quiet) ∷ [];
      calls = (
        codes "source",
        (record { words = Exactly (codes "x") ∷ []; more = false }, runs (codes "c.scr" ∷ []))
            ∷ (record { words = Starting (codes "y") ∷ Starting [] ∷ []; more = false }, record (runs (codes "a.scr" ∷ codes "b.scr" ∷ [])) { stays = true }) ∷ [],
      ) ∷ (codes "runs", asks (codes "a.scr") ∷ []) ∷ [];
      choices = codes "a.scr" ∷ [];
    })
among_others = refl

-- ---- bad lines

-- no line before, another pattern, and a line before without a file
nothing_before : map (listed_with card) (codes "or call source ** : runs b.scr" ∷ codes "call load ** : runs a.scr\nor call source ** : runs b.scr" ∷ codes "call source x : runs a.scr\nor call source ** : runs b.scr"
    ∷ codes "call source x : runs a.scr\nor call source x* : runs b.scr" ∷ codes "call source ** : steady\nor call source ** : runs b.scr" ∷ codes "call source ** : runs a.scr\ncall source x : final\nor call source ** : runs b.scr" ∷ [])
    ≡ Err (BadLine 1) ∷ Err (BadLine 2) ∷ Err (BadLine 2) ∷ Err (BadLine 2) ∷ Err (BadLine 2) ∷ Err (BadLine 3) ∷ []
nothing_before = refl

-- another clause, none, and an unknown file
other_clauses : map (λ more. listed_with card more) (codes "call source ** : runs a.scr\nor call source ** : steady runs b.scr" ∷ codes "call source ** : runs a.scr\nor call source ** : runs b.scr a=1" ∷ codes "call source ** : runs a.scr\nor call source ** : normal 1 runs b.scr"
    ∷ codes "call source ** : runs a.scr\nor call source ** :" ∷ codes "call source ** : runs a.scr\nor call source ** : runs x.scr" ∷ codes "call source ** : runs a.scr\nor call source ** : final" ∷ [])
    ≡ Err (BadLine 2) ∷ Err (BadLine 2) ∷ Err (BadLine 2) ∷ Err (BadLine 2) ∷ Err (BadLine 2) ∷ Err (BadLine 2) ∷ []
other_clauses = refl

-- the name of a file that is asked for has no `$` and no blank; that of the last file may have it
names : map (listed_with card) (codes "call source ** : runs $d\nor call source ** : runs a.scr" ∷ codes "call source ** : runs a.scr\nor call source ** : runs $d\nor call source ** : runs b.scr" ∷ codes "call source ** : runs 'd e'\nor call source ** : runs a.scr" ∷ [])
    ≡ Err (BadLine 2) ∷ Err (BadLine 3) ∷ Err (BadLine 2) ∷ []
names = refl

last_name : listed_with card (codes "call source ** : runs a.scr\nor call source ** : runs $d")
    ≡ Ok (record (with_files card) { calls = (codes "source", (any, runs (codes "a.scr" ∷ codes "$d" ∷ [])) ∷ []) ∷ (codes "runs", asks (codes "a.scr") ∷ []) ∷ []; choices = codes "a.scr" ∷ [] })
last_name = refl

-- without a `:`, and without `call`, it is the line of a command `or`
command_or : map (λ line. listed line) (codes "or" ∷ codes "or a=1" ∷ codes "or call" ∷ codes "or call a : b" ∷ codes "or x : runs a" ∷ [])
    ≡ Ok (record (with_files []) { commands = (codes "or", quiet) ∷ [] }) ∷ Ok (record (with_files []) { commands = (codes "or", record quiet { sets = (Variable (codes "a"), Literal (codes "1")) ∷ [] }) ∷ [] }) ∷ Err (BadLine 1) ∷ Err (BadLine 1) ∷ Err (BadLine 1) ∷ []
command_or = refl

-- ---- kinds, and the files that a list names

kinds : map kinds_of (codes "or call a : runs b" ∷ codes "or call" ∷ codes "or" ∷ []) ≡ (Calls ∷ []) ∷ (Settings ∷ []) ∷ [] ∷ []
kinds = refl

names_files : named_files (codes "call source ** : runs a.scr\nor call source ** : runs b.scr\nor runs c : runs d\n#or call a : runs e") ≡ codes "a.scr" ∷ codes "b.scr" ∷ []
names_files = refl

-- ---- calls

abbrev two : Devices
two = record (with_files card) { calls = (codes "source", (any, runs (codes "a.scr" ∷ codes "b.scr" ∷ [])) ∷ []) ∷ (codes "runs", asks (codes "a.scr") ∷ []) ∷ []; choices = codes "a.scr" ∷ [] }

calls_run : map (λ (words : List Text). effect_of two (codes "source") words) ([] ∷ (codes "40" ∷ []) ∷ []) ≡ Some (runs (codes "a.scr" ∷ codes "b.scr" ∷ [])) ∷ Some (runs (codes "a.scr" ∷ codes "b.scr" ∷ [])) ∷ []
calls_run = refl

-- a question is expected to be answered in no way; a call of another number of words, of another name or file, or one whose answer
-- does not stay is none
abbrev not_staying : Devices
not_staying = record two { calls = (codes "runs", (any, quiet) ∷ []) ∷ [] }

choices : map (is_choice two) ((codes "runs" ∷ codes "a.scr" ∷ []) ∷ (codes "runs" ∷ codes "b.scr" ∷ []) ∷ (codes "run" ∷ codes "a.scr" ∷ []) ∷ (codes "runs" ∷ []) ∷ (codes "runs" ∷ codes "a.scr" ∷ codes "a.scr" ∷ []) ∷ [] ∷ [])
    ≡ true ∷ false ∷ false ∷ false ∷ false ∷ false ∷ []
choices = refl

steady_choices : map (λ devices. is_choice devices (codes "runs" ∷ codes "a.scr" ∷ [])) (not_staying ∷ all_steady not_staying ∷ all_steady two ∷ []) ≡ false ∷ true ∷ true ∷ []
steady_choices = refl

nothing_expected : map (expected (record two { commands = (codes "load", quiet) ∷ [] })) ((codes "runs" ∷ codes "a.scr" ∷ []) ∷ (codes "load" ∷ codes "a.scr" ∷ []) ∷ (codes "runs" ∷ codes "b.scr" ∷ []) ∷ []) ≡ None ∷ Some true ∷ Some true ∷ []
nothing_expected = refl

-- there are at most eight questions
abbrev many : (first : Text) → List Text → Text
many text [] = text
many text (file ∷ files) = many (text ++ codes "\nor call source ** : runs " ++ file) files

abbrev asked_of : List Text → ℕ
asked_of files = elim (listed_with card (many (codes "call source ** : runs a.scr") files)) [ Ok devices ↦ length devices.choices | Err fault ↦ 100 ]

eight : map asked_of ((codes "a.scr" ∷ codes "a.scr" ∷ codes "a.scr" ∷ codes "a.scr" ∷ codes "a.scr" ∷ codes "a.scr" ∷ codes "a.scr" ∷ codes "b.scr" ∷ []) ∷ (codes "a.scr" ∷ codes "a.scr" ∷ codes "a.scr" ∷ codes "a.scr" ∷ codes "a.scr" ∷ codes "a.scr" ∷ codes "a.scr" ∷ codes "b.scr" ∷ codes "c.scr" ∷ []) ∷ [])
    ≡ 8 ∷ 100 ∷ []
eight = refl

-- of a list with more, the first eight count
abbrev nine : Devices
nine = record two { choices = codes "b.scr" ∷ codes "b.scr" ∷ codes "b.scr" ∷ codes "b.scr" ∷ codes "b.scr" ∷ codes "b.scr" ∷ codes "b.scr" ∷ codes "b.scr" ∷ codes "a.scr" ∷ [] }

first_eight : map (λ (skipped : ℕ). is_choice (record nine { choices = drop skipped nine.choices }) (codes "runs" ∷ codes "a.scr" ∷ [])) (0 ∷ 1 ∷ []) ≡ false ∷ true ∷ []
first_eight = refl

-- of the last file no question is asked
questions : map (λ (words : List Text). effect_of two (codes "runs") words) ((codes "a.scr" ∷ []) ∷ (codes "b.scr" ∷ []) ∷ [] ∷ (codes "a.scr" ∷ codes "x" ∷ []) ∷ [])
    ≡ Some (record quiet { stays = true }) ∷ None ∷ None ∷ None ∷ []
questions = refl
