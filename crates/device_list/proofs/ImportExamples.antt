-- Worked examples of texts that are imported, computed. Each reading is that of U-Boot's sandbox.
use Rattle.std.proofs.Common.{◌≡◌, Bool, true, false, List, [], ◌∷◌, ◌++◌, length, map, Option, Some, None, Ok, Err, refl}
use Rattle.std.specs.Prelude.{codes}
use Rattle.std.specs.Fmt.{digits}
use Rattle.text.specs.Lines.{Text}
use Rattle.device_list.specs.Called.{Value, Unset, sets_in}
use Rattle.device_list.specs.CallLines.{FileText, Files}
use Rattle.device_list.specs.DeviceList.{Devices, Effect, Setting, Imported, Variable, Literal, Deleted, listed, listed_with, with_files}
use Rattle.device_list.specs.DeviceLaws.{quiet}
use Rattle.device_list.specs.Imports.{Entry, entries_in, imported, moved_entries, takes, unsized_room, without_returns}
use Rattle.device_list.specs.NamedFiles.{named_files}
use Rattle.device_list.specs.declared.devices_error.DevicesError.TheVariants.{BadLine}
use Rattle.device_list.specs.declared.setting.Reading.{Reading}
use Rattle.device_list.specs.declared.setting.Reading.TheVariants.{Both, WithReturns, WithoutReturns, Unsized}

-- ---- the entries of a text

abbrev read : Text → Option (List Entry)
read text = entries_in (length text) text

abbrev is : Text → Text → Entry
is name value = (name, Some value)

abbrev gone : Text → Entry
gone name = (name, None)

-- the last line needs no newline
entries : map read (codes "a=1\nb=2\n" ∷ codes "a=1\nb=2" ∷ [] ∷ codes "\n\n" ∷ [])
    ≡ Some (is (codes "a") (codes "1") ∷ is (codes "b") (codes "2") ∷ []) ∷ Some (is (codes "a") (codes "1") ∷ is (codes "b") (codes "2") ∷ []) ∷ Some [] ∷ Some [] ∷ []
entries = refl

-- a name alone is deleted, and so is one without a value
deletes : read (codes "a\nb=\nc") ≡ Some (gone (codes "a") ∷ gone (codes "b") ∷ gone (codes "c") ∷ [])
deletes = refl

-- blanks are dropped in front of an entry alone, and a comment begins there alone
comments : map read (codes "# a=1\n \t#b=1\n \tc=1 \nd = #1" ∷ codes "#" ∷ codes "  " ∷ [])
    ≡ Some (is (codes "c") (codes "1 ") ∷ is (codes "d ") (codes " #1") ∷ []) ∷ Some [] ∷ Some [] ∷ []
comments = refl

-- in a value a backslash makes the byte after it one of the value, a newline too
escapes : read (codes "a=1\\\n2\nb=\\#\\=\\\\\nc=3\\") ≡ Some (is (codes "a") (codes "1\n2") ∷ is (codes "b") (codes "#=\\") ∷ is (codes "c") (codes "3\\") ∷ [])
escapes = refl

-- but not in a name, and not in a comment
no_escapes : map read (codes "a\\\nb=1" ∷ codes "#a\\\nb=1" ∷ []) ≡ Some (gone (codes "a\\") ∷ is (codes "b") (codes "1") ∷ []) ∷ Some (is (codes "b") (codes "1") ∷ []) ∷ []
no_escapes = refl

first_equals : read (codes "a=1=2\nb==") ≡ Some (is (codes "a") (codes "1=2") ∷ is (codes "b") (codes "=") ∷ [])
first_equals = refl

-- a value needs a name; an empty name without a value is deleted, which does nothing
faults : map read (codes "=1" ∷ codes "a=1\n =1\nb=2" ∷ codes "=\\\n" ∷ codes "=" ∷ codes "=\na=1" ∷ [])
    ≡ None ∷ None ∷ None ∷ Some [] ∷ Some (is (codes "a") (codes "1") ∷ []) ∷ []
faults = refl

-- ---- with `-r`

abbrev moved : Text → Option (List Entry)
moved text = moved_entries (length (without_returns text)) (without_returns text) text

-- of a call that names no size
abbrev moved_unsized : Text → Option (List Entry)
moved_unsized text = moved_entries (unsized_room (without_returns text) text) (without_returns text) text

-- carriage returns in front of newlines are left out, and others are bytes as any
returns : map without_returns (codes "a\r\nb\r\n" ∷ codes "\r\r\n" ∷ codes "a\rb\r" ∷ []) ≡ codes "a\nb\n" ∷ codes "\r\n" ∷ codes "a\rb\r" ∷ []
returns = refl

both_ways : map (λ (way : Text → Option (List Entry)). way (codes "a=1\r\nb=2\r\n")) (read ∷ moved ∷ [])
    ≡ Some (is (codes "a") (codes "1\r") ∷ is (codes "b") (codes "2\r") ∷ []) ∷ Some (is (codes "a") (codes "1") ∷ is (codes "b") (codes "2") ∷ []) ∷ []
both_ways = refl

-- The last entry goes on in the last bytes, which are there twice, if no newline ends it. No entry begins in these.
last_bytes : map moved (codes "a=1\r\nb=23" ∷ codes "a=1\r\nb=2\r\nc" ∷ codes "b\r\nc=1\n" ∷ codes "\r\n\r\nc\r\n " ∷ [])
    ≡ Some (is (codes "a") (codes "1") ∷ is (codes "b") (codes "233") ∷ []) ∷ Some (is (codes "a") (codes "1") ∷ is (codes "b") (codes "2") ∷ gone (codes "c") ∷ [])
    ∷ Some (gone (codes "b") ∷ is (codes "c") (codes "1") ∷ []) ∷ Some (gone (codes "c") ∷ gone (codes "\r") ∷ []) ∷ []
last_bytes = refl

-- Without a size one more entry begins in the last bytes, and each of them if no newline ends the text.
unsized : map moved_unsized (codes "a=1\r\nb=2\r\n" ∷ codes "a=1\r\nb=2\n" ∷ codes "a=1\r\nb=23" ∷ codes "a\r\nb\r\nc\r\nd=1\r\ne" ∷ [])
    ≡ Some (is (codes "a") (codes "1") ∷ is (codes "b") (codes "2") ∷ gone (codes "\r") ∷ []) ∷ Some (is (codes "a") (codes "1") ∷ is (codes "b") (codes "2") ∷ [])
    ∷ Some (is (codes "a") (codes "1") ∷ is (codes "b") (codes "233") ∷ [])
    ∷ Some (gone (codes "a") ∷ gone (codes "b") ∷ gone (codes "c") ∷ is (codes "d") (codes "1") ∷ gone (codes "e1\r") ∷ gone (codes "e") ∷ []) ∷ []
unsized = refl

sized : moved (codes "a\r\nb\r\nc\r\nd=1\r\ne") ≡ Some (gone (codes "a") ∷ gone (codes "b") ∷ gone (codes "c") ∷ is (codes "d") (codes "1") ∷ gone (codes "e1\r") ∷ [])
sized = refl

-- ---- the settings

first_of_a_name : imported (codes "a=1\nb\na=2") ≡ Some ((Imported (codes "a") Both true, Literal (codes "1")) ∷ (Imported (codes "b") Both true, Deleted) ∷ (Imported (codes "a") Both false, Literal (codes "2")) ∷ [])
first_of_a_name = refl

three_readings : imported (codes "a=1\r\na=2\n")
    ≡ Some ((Imported (codes "a") WithReturns true, Literal (codes "1\r")) ∷ (Imported (codes "a") WithReturns false, Literal (codes "2"))
    ∷ (Imported (codes "a") WithoutReturns true, Literal (codes "1")) ∷ (Imported (codes "a") WithoutReturns false, Literal (codes "2"))
    ∷ (Imported (codes "a") Unsized true, Literal (codes "1")) ∷ (Imported (codes "a") Unsized false, Literal (codes "2")) ∷ [])
three_readings = refl

-- a fault of one reading is enough
no_settings : map imported (codes "=1" ∷ codes "a\r\n=" ∷ []) ≡ None ∷ None ∷ []
no_settings = refl

-- ---- what a call asks for

abbrev import : List Text → List Text
import words = codes "import" ∷ words

abbrev taken : List Text → List Bool
taken words = map (λ (way : Reading). takes words (codes "a") way true) (Both ∷ WithReturns ∷ WithoutReturns ∷ Unsized ∷ []) ++ takes words (codes "a") Both false ∷ []

all_names : map taken (import (codes "-t" ∷ codes "40" ∷ codes "9" ∷ []) ∷ import (codes "40" ∷ []) ∷ import (codes "-t" ∷ codes "40" ∷ []) ∷ [])
    ≡ (true ∷ true ∷ false ∷ false ∷ true ∷ []) ∷ (true ∷ true ∷ false ∷ false ∷ true ∷ []) ∷ (true ∷ true ∷ false ∷ false ∷ true ∷ []) ∷ []
all_names = refl

-- a call that names the size, by a word that is no `-`, takes other entries than one that does not
option_r : map taken (import (codes "-r" ∷ codes "40" ∷ codes "9" ∷ []) ∷ import (codes "-tr" ∷ codes "40" ∷ codes "9" ∷ []) ∷ import (codes "-t" ∷ codes "-r" ∷ codes "40" ∷ codes "9" ∷ []) ∷ import (codes "-t" ∷ codes "40" ∷ codes "-r" ∷ []) ∷ [])
    ≡ (true ∷ false ∷ true ∷ false ∷ true ∷ []) ∷ (true ∷ false ∷ true ∷ false ∷ true ∷ []) ∷ (true ∷ false ∷ true ∷ false ∷ true ∷ []) ∷ (true ∷ true ∷ false ∷ false ∷ true ∷ []) ∷ []
option_r = refl

no_size : map taken (import (codes "-r" ∷ codes "40" ∷ []) ∷ import (codes "-tr" ∷ codes "40" ∷ codes "-" ∷ []) ∷ import (codes "-tr" ∷ codes "40" ∷ codes "-" ∷ codes "a" ∷ []) ∷ import (codes "-r" ∷ []) ∷ [])
    ≡ (true ∷ false ∷ false ∷ true ∷ true ∷ []) ∷ (true ∷ false ∷ false ∷ true ∷ true ∷ []) ∷ (true ∷ false ∷ false ∷ true ∷ false ∷ []) ∷ (true ∷ false ∷ false ∷ true ∷ true ∷ []) ∷ []
no_size = refl

-- of a name that is asked for the first entry, and no other name
asked_names : map taken (import (codes "-t" ∷ codes "40" ∷ codes "9" ∷ codes "b" ∷ codes "a" ∷ []) ∷ import (codes "-t" ∷ codes "40" ∷ codes "-" ∷ codes "a" ∷ []) ∷ import (codes "-t" ∷ codes "40" ∷ codes "9" ∷ codes "b" ∷ []) ∷ import (codes "40" ∷ codes "a" ∷ []) ∷ [])
    ≡ (true ∷ true ∷ false ∷ false ∷ false ∷ []) ∷ (true ∷ true ∷ false ∷ false ∷ false ∷ []) ∷ (false ∷ false ∷ false ∷ false ∷ false ∷ []) ∷ (true ∷ true ∷ false ∷ false ∷ true ∷ []) ∷ []
asked_names = refl

-- other formats, and a text that replaces all
no_text : map taken (import (codes "-b" ∷ codes "40" ∷ []) ∷ import (codes "-c" ∷ codes "40" ∷ codes "9" ∷ []) ∷ import (codes "-t" ∷ codes "-d" ∷ codes "40" ∷ []) ∷ [])
    ≡ (false ∷ false ∷ false ∷ false ∷ false ∷ []) ∷ (false ∷ false ∷ false ∷ false ∷ false ∷ []) ∷ (false ∷ false ∷ false ∷ false ∷ false ∷ []) ∷ []
no_text = refl

-- a call that is no `import`
other_calls : map taken ([] ∷ (codes "load" ∷ codes "-r" ∷ []) ∷ (codes "-r" ∷ codes "40" ∷ codes "9" ∷ codes "b" ∷ []) ∷ [])
    ≡ (true ∷ true ∷ false ∷ false ∷ true ∷ []) ∷ (true ∷ true ∷ false ∷ false ∷ true ∷ []) ∷ (true ∷ true ∷ false ∷ false ∷ true ∷ []) ∷ []
other_calls = refl

abbrev sets_of : Text → List Setting
sets_of text = elim (imported text) [ None ↦ [] | Some sets ↦ sets ]

sets_and_deletes : sets_in (import (codes "-t" ∷ codes "40" ∷ [])) (sets_of (codes "a=1\nb\na=2")) ≡ (codes "a", Value (codes "1")) ∷ (codes "b", Unset) ∷ (codes "a", Value (codes "2")) ∷ []
sets_and_deletes = refl

sets_what_is_asked : sets_in (import (codes "-t" ∷ codes "40" ∷ codes "9" ∷ codes "a" ∷ [])) (sets_of (codes "a=1\nb\na=2")) ≡ (codes "a", Value (codes "1")) ∷ []
sets_what_is_asked = refl

-- ---- the clause, and sizes

abbrev plain : Text → FileText
plain text = record { text = text; size = length text }

-- a text, and the script of an image
abbrev card : Files
card = (codes "u.txt", plain (codes "a=1")) ∷ (codes "b.scr", record { text = codes "bootm"; size = 77 }) ∷ []

abbrev one : Text → Effect → Devices
one name effect = record (with_files card) { calls = (name, (record { words = []; more = true }, effect) ∷ []) ∷ [] }

abbrev from_text : Setting
from_text = (Imported (codes "a") Both true, Literal (codes "1"))

imports_a_file : map (listed_with card) (codes "call env ** : imports u.txt" ∷ codes "call env ** : b=2 imports u.txt c=3 imports u.txt steady" ∷ [])
    ≡ Ok (one (codes "env") (record quiet { sets = from_text ∷ [] }))
    ∷ Ok (one (codes "env") (record quiet { stays = true; sets = (Variable (codes "b"), Literal (codes "2")) ∷ from_text ∷ (Variable (codes "c"), Literal (codes "3")) ∷ from_text ∷ [] })) ∷ []
imports_a_file = refl

imports_and_runs : listed_with card (codes "call env ** : needs load imports u.txt runs b.scr") ≡ Ok (one (codes "env") (record quiet { needs = codes "load" ∷ []; runs = codes "b.scr" ∷ []; sets = from_text ∷ [] }))
imports_and_runs = refl

-- no file, an unknown one, an image, and a text with a fault
imports_none : map (listed_with ((codes "f.txt", plain (codes "=1")) ∷ card)) (codes "call env ** : imports" ∷ codes "call env ** : imports x" ∷ codes "call env ** : imports b.scr" ∷ codes "call env ** : imports f.txt" ∷ codes "env imports u.txt" ∷ [])
    ≡ Err (BadLine 1) ∷ Err (BadLine 1) ∷ Err (BadLine 1) ∷ Err (BadLine 1) ∷ Err (BadLine 1) ∷ []
imports_none = refl

sizes : map (listed_with card) (codes "call load ** : filesize=@size(u.txt)" ∷ codes "call load ** : filesize=@size(b.scr)" ∷ codes "call load ** : filesize='@size(u.txt)'" ∷ [])
    ≡ Ok (one (codes "load") (record quiet { sets = (Variable (codes "filesize"), Literal (codes "3")) ∷ [] }))
    ∷ Ok (one (codes "load") (record quiet { sets = (Variable (codes "filesize"), Literal (codes "4d")) ∷ [] }))
    ∷ Ok (one (codes "load") (record quiet { sets = (Variable (codes "filesize"), Literal (codes "@size(u.txt)")) ∷ [] })) ∷ []
unfolding digits
sizes = refl

no_sizes : map (listed_with card) (codes "call load ** : a=@size(x)" ∷ codes "call load ** : a=@size()" ∷ codes "call load ** : a=@size(u.txt" ∷ codes "call load ** : a=@size" ∷ codes "call load ** : @size(u.txt)=1" ∷ [])
    ≡ Err (BadLine 1) ∷ Err (BadLine 1) ∷ Err (BadLine 1) ∷ Err (BadLine 1) ∷ Err (BadLine 1) ∷ []
no_sizes = refl

without_files : map (λ line. listed line) (codes "call load ** : a=@size(u.txt)" ∷ codes "call env ** : imports u.txt" ∷ []) ≡ Err (BadLine 1) ∷ Err (BadLine 1) ∷ []
without_files = refl

-- only in a line of calls
plain_value : listed_with card (codes "load a=@size(u.txt)") ≡ Ok (record (with_files card) { commands = (codes "load", record quiet { sets = (Variable (codes "a"), Literal (codes "@size(u.txt)")) ∷ [] }) ∷ [] })
plain_value = refl

names_files : named_files (codes "call env ** : a=@size(b.scr) imports u.txt imports runs b=1 runs c=@size(d) c=@size(e)") ≡ codes "b.scr" ∷ codes "u.txt" ∷ codes "runs" ∷ codes "c=@size(d)" ∷ codes "e" ∷ []
names_files = refl

names_none : named_files (codes "load a=@size(b)\ncall env ** : @size(a) a=size(b) a=@size(b a=@last imports") ≡ []
names_none = refl
