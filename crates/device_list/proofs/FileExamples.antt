-- Worked examples of lines that name files, computed.
use Rattle.std.proofs.Common.{◌≡◌, true, [], ◌∷◌, length, map, Some, None, Ok, Err, refl}
use Rattle.std.specs.Prelude.{codes}
use Rattle.text.specs.Lines.{Text}
use Rattle.device_list.specs.CallLines.{FileText, Files}
use Rattle.device_list.specs.DeviceList.{Effect, Devices, Variable, Literal, with_files, file_in, listed, listed_with, all_steady}
use Rattle.device_list.specs.DeviceLaws.{quiet}
use Rattle.device_list.specs.NamedFiles.{named_files}
use Rattle.device_list.specs.declared.devices_error.DevicesError.TheVariants.{BadLine}

-- a text that is no image
abbrev plain : Text → FileText
plain text = record { text = text; size = length text }

-- a card with two scripts
abbrev card : Files
card = (codes "boot.scr", plain (codes "bootm")) ∷ (codes "b.scr", plain (codes "reset")) ∷ []

-- what `source` does on it
abbrev one : Effect → Devices
one effect = record (with_files card) { calls = (codes "source", (record { words = []; more = true }, effect) ∷ []) ∷ [] }

-- ---- the clause

runs_a_file : listed_with card (codes "call source ** : runs boot.scr") ≡ Ok (one (record quiet { runs = codes "boot.scr" ∷ [] }))
runs_a_file = refl

-- no file, another one, and none at all
no_file : map (λ line. listed_with card line) (codes "call source ** : runs" ∷ codes "call source ** : runs boot.txt" ∷ codes "call source ** : runs final" ∷ []) ≡ Err (BadLine 1) ∷ Err (BadLine 1) ∷ Err (BadLine 1) ∷ []
no_file = refl

without_files : listed (codes "call source ** : runs boot.scr") ≡ Err (BadLine 1)
without_files = refl

runs_once : map (λ line. listed_with card line) (codes "call source ** : runs boot.scr runs b.scr" ∷ codes "call source ** : final runs boot.scr" ∷ codes "call source ** : runs boot.scr final" ∷ []) ≡ Err (BadLine 1) ∷ Err (BadLine 1) ∷ Err (BadLine 1) ∷ []
runs_once = refl

among_others : map (λ line. listed_with card line) (codes "call source ** : steady runs b.scr a=1" ∷ codes "call source ** : a=1 runs b.scr steady" ∷ [])
    ≡ Ok (one (record quiet { stays = true; runs = codes "b.scr" ∷ []; sets = (Variable (codes "a"), Literal (codes "1")) ∷ [] })) ∷ Ok (one (record quiet { stays = true; runs = codes "b.scr" ∷ []; sets = (Variable (codes "a"), Literal (codes "1")) ∷ [] })) ∷ []
among_others = refl

behind_needs : listed_with card (codes "call source ** : needs load runs b.scr") ≡ Ok (one (record quiet { needs = codes "load" ∷ []; runs = codes "b.scr" ∷ [] }))
behind_needs = refl

-- only lines of calls have it
other_lines : map (λ line. listed_with card line) (codes "source runs boot.scr" ∷ codes "sub source runs boot.scr" ∷ codes "call source : a=1\nruns boot.scr" ∷ []) ≡ Err (BadLine 1) ∷ Err (BadLine 1) ∷ Err (BadLine 2) ∷ []
other_lines = refl

-- ---- what a list says with files

texts : map (file_in (with_files card)) (codes "boot.scr" ∷ codes "b.scr" ∷ codes "boot" ∷ []) ≡ Some (codes "bootm") ∷ Some (codes "reset") ∷ None ∷ []
texts = refl

-- of two files of one name, the first
first_of_two : file_in (with_files ((codes "a", plain (codes "1")) ∷ (codes "a", plain (codes "2")) ∷ [])) (codes "a") ≡ Some (codes "1")
first_of_two = refl

steady_files : all_steady (one (record quiet { runs = codes "b.scr" ∷ [] })) ≡ record (one (record quiet { stays = true; runs = codes "b.scr" ∷ [] })) { test_stays = true }
steady_files = refl

-- ---- the files that a list names

names_files : named_files (codes "call source ** : runs boot.scr\nload\ncall go a : a=1 runs b.scr\n# call go : runs c.scr\ncall x : runs boot.scr") ≡ codes "boot.scr" ∷ codes "b.scr" ∷ codes "boot.scr" ∷ []
names_files = refl

-- only after the first `:` of a line of calls, and only after `runs`
names_none : named_files (codes "call runs a : steady\nruns a\nabsent runs\ncall a runs b\ncall go : runs\nstart : runs a") ≡ []
names_none = refl
