-- Worked examples of the lines of calls, computed.
use Rattle.std.proofs.Common.{◌≡◌, true, false, List, [], ◌∷◌, map, Some, None, Ok, Err, refl}
use Rattle.std.specs.Prelude.{codes}
use Rattle.text.specs.Lines.{Text}
use Rattle.device_list.specs.declared.finish.BoardEnd.TheVariants.{Boots, Restarts, Halts}
use Rattle.device_list.specs.Called.{Value, sets_in}
use Rattle.device_list.specs.CallLines.{Exactly, Starting, Pattern, fits}
use Rattle.device_list.specs.DeviceList.{Setting, Variable, WordAt, LastWord, Literal, ValueAt, LastValue, Effect, Devices, only, effect_of, fails_normally, is_listed, listed, all_steady}
use Rattle.device_list.specs.DeviceLaws.{quiet}
use Rattle.device_list.specs.Quotes.{quoted_words, unquoted}
use Rattle.device_list.specs.declared.devices_error.DevicesError.TheVariants.{BadLine, BuiltIn}

-- a list of one line
abbrev one : (name : Text) → Pattern → Effect → Devices
one name pattern effect = record (only []) { calls = (name, (pattern, effect) ∷ []) ∷ [] }

abbrev any : Pattern
any = record { words = []; more = true }

abbrev alone : Pattern
alone = record { words = []; more = false }

-- ---- patterns

words_exactly : listed (codes "call mmc dev 0 :") ≡ Ok (one (codes "mmc") (record { words = Exactly (codes "dev") ∷ Exactly (codes "0") ∷ []; more = false }) quiet)
words_exactly = refl

stars : listed (codes "call mmc d* * ** :") ≡ Ok (one (codes "mmc") (record { words = Starting (codes "d") ∷ Starting [] ∷ []; more = true }) quiet)
stars = refl

name_alone : listed (codes "call reset : final") ≡ Ok (one (codes "reset") alone (record quiet { ends = Some Boots }))
name_alone = refl

-- the words fit one by one, and only `**` fits further ones
fitting : map (fits (record { words = Exactly (codes "dev") ∷ Starting (codes "m") ∷ []; more = false }))
    ((codes "dev" ∷ codes "mmc" ∷ []) ∷ (codes "dev" ∷ codes "m" ∷ []) ∷ (codes "dev" ∷ codes "usb" ∷ []) ∷ (codes "de" ∷ codes "mmc" ∷ []) ∷ (codes "dev" ∷ []) ∷ (codes "dev" ∷ codes "mmc" ∷ codes "0" ∷ []) ∷ [] ∷ [])
    ≡ true ∷ true ∷ false ∷ false ∷ false ∷ false ∷ false ∷ []
fitting = refl

rest_fits : map (fits (record { words = Exactly (codes "dev") ∷ []; more = true })) ((codes "dev" ∷ []) ∷ (codes "dev" ∷ codes "0" ∷ codes "1" ∷ []) ∷ [] ∷ (codes "x" ∷ []) ∷ []) ≡ true ∷ true ∷ false ∷ false ∷ []
rest_fits = refl

rest_not_last : map (λ line. listed line) (codes "call mmc ** dev :" ∷ codes "call mmc ** ** :" ∷ []) ≡ Err (BadLine 1) ∷ Err (BadLine 1) ∷ []
rest_not_last = refl

star_in_the_name : listed (codes "call mm* dev :") ≡ Err (BadLine 1)
star_in_the_name = refl

no_name : listed (codes "load\ncall : final") ≡ Err (BadLine 2)
no_name = refl

built_in_name : listed (codes "call echo ** : steady") ≡ Err (BuiltIn 1)
built_in_name = refl

-- ---- clauses

-- how a success ends the run is said once
ends_once : map (λ line. listed line) (codes "call go : restart" ∷ codes "call go : halt" ∷ codes "call go : restart restart" ∷ codes "call go : final halt" ∷ [])
    ≡ Ok (one (codes "go") alone (record quiet { ends = Some Restarts })) ∷ Ok (one (codes "go") alone (record quiet { ends = Some Halts })) ∷ Err (BadLine 1) ∷ Err (BadLine 1) ∷ []
ends_once = refl

in_any_order : map (λ line. listed line) (codes "call go ** : final a=1 steady" ∷ codes "call go ** : steady final a=1" ∷ [])
    ≡ Ok (one (codes "go") any (record { ends = Some Boots; stays = true; always = None; needs = []; normal = false; runs = []; sets = (Variable (codes "a"), Literal (codes "1")) ∷ [] }))
    ∷ Ok (one (codes "go") any (record { ends = Some Boots; stays = true; always = None; needs = []; normal = false; runs = []; sets = (Variable (codes "a"), Literal (codes "1")) ∷ [] })) ∷ []
in_any_order = refl

always_succeeds : listed (codes "call pci enum : always 0") ≡ Ok (one (codes "pci") (record { words = Exactly (codes "enum") ∷ []; more = false }) (record quiet { always = Some true }))
always_succeeds = refl

-- an answer that is always the same is not remembered
always_fails : listed (codes "call usb ** : steady always 1") ≡ Ok (one (codes "usb") any (record quiet { always = Some false }))
always_fails = refl

other_status : map (λ line. listed line) (codes "call usb ** : always 2" ∷ codes "call usb ** : always" ∷ codes "call usb ** : always final" ∷ []) ≡ Err (BadLine 1) ∷ Err (BadLine 1) ∷ Err (BadLine 1) ∷ []
other_status = refl

-- what follows the status is the next clause, before other clauses and after them
after_the_status : map (λ line. listed line) (codes "call usb ** : always 0 a=1 final" ∷ codes "call usb ** : final a=1 always 0" ∷ [])
    ≡ Ok (one (codes "usb") any (record { ends = Some Boots; stays = false; always = Some true; needs = []; normal = false; runs = []; sets = (Variable (codes "a"), Literal (codes "1")) ∷ [] }))
    ∷ Ok (one (codes "usb") any (record { ends = Some Boots; stays = false; always = Some true; needs = []; normal = false; runs = []; sets = (Variable (codes "a"), Literal (codes "1")) ∷ [] })) ∷ []
after_the_status = refl

-- ---- `needs`

-- a list of one line, which needs a call that begins so
abbrev needing : Effect → List Text → Devices
needing effect needs = one (codes "boot") any (record effect { needs = needs })

needs_a_name : listed (codes "call boot ** : needs load") ≡ Ok (needing quiet (codes "load" ∷ []))
needs_a_name = refl

needs_a_first_word : listed (codes "call boot ** : needs load mmc") ≡ Ok (needing quiet (codes "load" ∷ codes "mmc" ∷ []))
needs_a_first_word = refl

-- the word after the name is no first word if it is a clause, and the clause counts
needs_before_a_clause : map (λ line. listed line) (codes "call boot ** : needs load final" ∷ codes "call boot ** : needs load steady" ∷ codes "call boot ** : needs load always 0" ∷ codes "call boot ** : needs load a=1" ∷ [])
    ≡ Ok (needing (record quiet { ends = Some Boots }) (codes "load" ∷ [])) ∷ Ok (needing (record quiet { stays = true }) (codes "load" ∷ []))
    ∷ Ok (needing (record quiet { always = Some true }) (codes "load" ∷ [])) ∷ Ok (needing (record quiet { sets = (Variable (codes "a"), Literal (codes "1")) ∷ [] }) (codes "load" ∷ [])) ∷ []
needs_before_a_clause = refl

-- in any order, and what follows the first word is the next clause
needs_in_any_order : map (λ line. listed line) (codes "call boot ** : needs load mmc final steady" ∷ codes "call boot ** : steady needs load mmc final" ∷ codes "call boot ** : final steady needs load mmc" ∷ [])
    ≡ (let list = Ok (needing (record quiet { ends = Some Boots; stays = true }) (codes "load" ∷ codes "mmc" ∷ [])) in list ∷ list ∷ list ∷ [])
needs_in_any_order = refl

-- a status is a word as any other
needs_a_digit : listed (codes "call boot ** : needs mmc 1 always 0") ≡ Ok (needing (record quiet { always = Some true }) (codes "mmc" ∷ codes "1" ∷ []))
needs_a_digit = refl

-- without a name, twice, with a third word, with a word that is kept for a clause
bad_needs : map (λ line. listed line) (codes "call boot : needs" ∷ codes "call boot : needs final" ∷ codes "call boot : needs a=1" ∷ codes "call boot : needs needs" ∷ codes "call boot : needs load needs load" ∷ codes "call boot : needs load mmc 0" ∷ codes "call boot : needs normal" ∷ codes "call boot : needs load normal" ∷ [])
    ≡ Err (BadLine 1) ∷ Err (BadLine 1) ∷ Err (BadLine 1) ∷ Err (BadLine 1) ∷ Err (BadLine 1) ∷ Err (BadLine 1) ∷ Err (BadLine 1) ∷ Err (BadLine 1) ∷ []
bad_needs = refl

-- a star, a quote, a `:`, and the name of a built-in command
odd_needs : map (λ line. listed line) (codes "call boot : needs lo*" ∷ codes "call boot : needs load *" ∷ codes "call boot : needs 'load'" ∷ codes "call boot : needs load 'a'" ∷ codes "call boot : needs :" ∷ codes "call boot : needs load :" ∷ codes "call boot : needs echo" ∷ [])
    ≡ Err (BadLine 1) ∷ Err (BadLine 1) ∷ Err (BadLine 1) ∷ Err (BadLine 1) ∷ Err (BadLine 1) ∷ Err (BadLine 1) ∷ Err (BadLine 1) ∷ []
odd_needs = refl

-- each line has its own
own_needs : elim (listed (codes "call a : needs load\ncall b : needs load mmc\ncall c :\ncall a x : needs load")) [ Ok devices ↦ map (λ table. map (λ line. line.1.needs) table.1) devices.calls | Err fault ↦ [] ]
    ≡ ((codes "load" ∷ []) ∷ (codes "load" ∷ []) ∷ []) ∷ ((codes "load" ∷ codes "mmc" ∷ []) ∷ []) ∷ ([] ∷ []) ∷ []
own_needs = refl

-- in the other lines it is a name, or no setting
needs_elsewhere : map (λ line. listed line) (codes "needs" ∷ codes "load needs" ∷ [])
    ≡ Ok (only ((codes "needs", quiet) ∷ [])) ∷ Err (BadLine 1) ∷ []
needs_elsewhere = refl

-- ---- `normal`

failure_is_normal : listed (codes "call tftp ** : normal 1") ≡ Ok (one (codes "tftp") any (record quiet { normal = true }))
failure_is_normal = refl

-- in any order with others
normal_in_any_order : map (λ line. listed line) (codes "call tftp ** : normal 1 final steady" ∷ codes "call tftp ** : final normal 1 steady" ∷ codes "call tftp ** : steady final normal 1" ∷ [])
    ≡ (let list = Ok (one (codes "tftp") any (record quiet { ends = Some Boots; stays = true; normal = true })) in list ∷ list ∷ list ∷ [])
normal_in_any_order = refl

-- also after the name of a call that is needed
normal_behind_needs : map (λ line. listed line) (codes "call boot ** : needs load normal 1" ∷ codes "call boot ** : needs load mmc normal 1" ∷ [])
    ≡ Ok (needing (record quiet { normal = true }) (codes "load" ∷ [])) ∷ Ok (needing (record quiet { normal = true }) (codes "load" ∷ codes "mmc" ∷ [])) ∷ []
normal_behind_needs = refl

-- without a status, with another one, twice
bad_normal : map (λ line. listed line) (codes "call tftp ** : normal" ∷ codes "call tftp ** : normal 0" ∷ codes "call tftp ** : normal 2" ∷ codes "call tftp ** : normal final" ∷ codes "call tftp ** : normal 1 normal 1" ∷ codes "call tftp ** : normal=1 normal" ∷ [])
    ≡ Err (BadLine 1) ∷ Err (BadLine 1) ∷ Err (BadLine 1) ∷ Err (BadLine 1) ∷ Err (BadLine 1) ∷ Err (BadLine 1) ∷ []
bad_normal = refl

-- an answer that is always the same takes no outcome, so none is expected
normal_or_always : map (λ line. listed line) (codes "call tftp ** : always 0 normal 1" ∷ codes "call tftp ** : normal 1 always 0" ∷ codes "call tftp ** : normal 1 always 1" ∷ [])
    ≡ Err (BadLine 1) ∷ Err (BadLine 1) ∷ Err (BadLine 1) ∷ []
normal_or_always = refl

-- in the other lines it is a name, or no setting
normal_elsewhere : map (λ line. listed line) (codes "normal" ∷ codes "normal 1" ∷ codes "tftp normal" ∷ [])
    ≡ Ok (only ((codes "normal", quiet) ∷ [])) ∷ Err (BadLine 1) ∷ Err (BadLine 1) ∷ []
normal_elsewhere = refl

-- of built-in commands only that a failure of `test -e` is normal
test_fails_normally : listed (codes "call test -e ** : normal 1") ≡ Ok (one (codes "test") (record { words = Exactly (codes "-e") ∷ []; more = true }) (record quiet { normal = true }))
test_fails_normally = refl

only_normal_of_test : map (λ line. listed line) (codes "call test ** :" ∷ codes "call test ** : steady" ∷ codes "call test ** : normal 1 steady" ∷ codes "call test ** : always 1" ∷ codes "call test ** : normal 0" ∷ codes "call echo ** : normal 1" ∷ codes "absent test" ∷ [])
    ≡ Err (BuiltIn 1) ∷ Err (BuiltIn 1) ∷ Err (BuiltIn 1) ∷ Err (BuiltIn 1) ∷ Err (BadLine 1) ∷ Err (BuiltIn 1) ∷ Err (BuiltIn 1) ∷ []
only_normal_of_test = refl

normal_tests : elim (listed (codes "call test -e mmc * /x* : normal 1")) [ Ok devices ↦ map (λ call. fails_normally devices call) ((codes "test" ∷ codes "-e" ∷ codes "mmc" ∷ codes "0:1" ∷ codes "/xy" ∷ []) ∷ (codes "test" ∷ codes "-e" ∷ codes "mmc" ∷ codes "0:1" ∷ codes "/y" ∷ []) ∷ []) | Err fault ↦ [] ]
    ≡ true ∷ false ∷ []
normal_tests = refl

-- the first line that fits decides, as of all that is said of a call; what is not listed does not fail normally
normal_calls : elim (listed (codes "call tftp boot : normal 1\ntftp\ncall tftp ** :\nload")) [ Ok devices ↦ map (λ call. fails_normally devices call) ((codes "tftp" ∷ codes "boot" ∷ []) ∷ (codes "tftp" ∷ codes "kernel" ∷ []) ∷ (codes "tftp" ∷ []) ∷ (codes "load" ∷ []) ∷ (codes "dhcp" ∷ []) ∷ [] ∷ []) | Err fault ↦ [] ]
    ≡ true ∷ false ∷ false ∷ false ∷ false ∷ false ∷ []
normal_calls = refl

-- ---- other clauses

-- the first `:` ends the pattern, and a second one is no clause
second_colon : listed (codes "call usb : final : steady") ≡ Err (BadLine 1)
second_colon = refl

-- a bad line is refused as one before its name is looked at
bad_before_built_in : map (λ line. listed line) (codes "call echo ** a : final" ∷ codes "call echo : a" ∷ codes "call echo : a='1" ∷ []) ≡ Err (BadLine 1) ∷ Err (BadLine 1) ∷ Err (BadLine 1) ∷ []
bad_before_built_in = refl

twice : map (λ line. listed line) (codes "call usb ** : final final" ∷ codes "call usb ** : steady steady" ∷ codes "call usb ** : always 0 always 0" ∷ []) ≡ Err (BadLine 1) ∷ Err (BadLine 1) ∷ Err (BadLine 1) ∷ []
twice = refl

settings_in_order : listed (codes "call part ** : a=1 @1=2 @last= a=3") ≡ Ok (one (codes "part") any (record quiet {
  sets = (Variable (codes "a"), Literal (codes "1")) ∷ (WordAt 0, Literal (codes "2")) ∷ (LastWord, Literal []) ∷ (Variable (codes "a"), Literal (codes "3")) ∷ [];
}))
settings_in_order = refl

values_of_words : listed (codes "call fdt addr * : fdtaddr=@2 x=@last @1=@01") ≡ Ok (one (codes "fdt") (record { words = Exactly (codes "addr") ∷ Starting [] ∷ []; more = false }) (record quiet {
  sets = (Variable (codes "fdtaddr"), ValueAt 1) ∷ (Variable (codes "x"), LastValue) ∷ (WordAt 0, ValueAt 0) ∷ [];
}))
values_of_words = refl

bad_values : map (λ line. listed line) (codes "call fdt ** : a=@" ∷ codes "call fdt ** : a=@0" ∷ codes "call fdt ** : a=@x" ∷ codes "call fdt ** : @0=1" ∷ codes "call fdt ** : -a=1" ∷ codes "call fdt ** : a" ∷ [])
    ≡ Err (BadLine 1) ∷ Err (BadLine 1) ∷ Err (BadLine 1) ∷ Err (BadLine 1) ∷ Err (BadLine 1) ∷ Err (BadLine 1) ∷ []
bad_values = refl

-- an `@` that is not the first byte of a value is one as any other
at_inside : listed (codes "call fdt : a=b@1") ≡ Ok (one (codes "fdt") alone (record quiet { sets = (Variable (codes "a"), Literal (codes "b@1")) ∷ [] }))
at_inside = refl

-- ---- quotes

abbrev args : (value : Text) → Setting
args value = (Variable (codes "args"), Literal value)

value_with_blanks : listed (codes "call fdt : args='a  b' final") ≡ Ok (one (codes "fdt") alone (record quiet { ends = Some Boots; sets = args (codes "a  b") ∷ [] }))
value_with_blanks = refl

value_in_parts : listed (codes "call fdt : args=a'b c'd''e") ≡ Ok (one (codes "fdt") alone (record quiet { sets = args (codes "ab cde") ∷ [] }))
value_in_parts = refl

-- in quotes, an `@` is a byte, and a `:` is no end of a pattern
quoted_at : listed (codes "call fdt : args='@1'") ≡ Ok (one (codes "fdt") alone (record quiet { sets = args (codes "@1") ∷ [] }))
quoted_at = refl

quoted_colon : listed (codes "call fdt ':' : args='x : y'") ≡ Err (BadLine 1)
quoted_colon = refl

colon_in_value : listed (codes "call fdt : args='x : y'") ≡ Ok (one (codes "fdt") alone (record quiet { sets = args (codes "x : y") ∷ [] }))
colon_in_value = refl

-- a quote that is not closed, one in a pattern, in a name, and round a clause
bad_quotes : map (λ line. listed line) (codes "call fdt : a='b" ∷ codes "call fdt : a=b'c'd'e" ∷ codes "call 'fdt' :" ∷ codes "call fdt 'a' :" ∷ codes "call fdt : 'a'=b" ∷ codes "call fdt : 'final'" ∷ [])
    ≡ Err (BadLine 1) ∷ Err (BadLine 1) ∷ Err (BadLine 1) ∷ Err (BadLine 1) ∷ Err (BadLine 1) ∷ Err (BadLine 1) ∷ []
bad_quotes = refl

-- in the other lines a quote is a byte
other_lines : listed (codes "fdt a='b'") ≡ Ok (only ((codes "fdt", record quiet { sets = (Variable (codes "a"), Literal (codes "'b'")) ∷ [] }) ∷ []))
other_lines = refl

words_quoted : quoted_words (codes " \ta='b  c'd e\t") ≡ codes "a='b  c'd" ∷ codes "e" ∷ []
words_quoted = refl

-- blanks beside blanks make no words, and a tab in quotes is a byte
words_apart : quoted_words (codes "a  b \t 'c\td'") ≡ codes "a" ∷ codes "b" ∷ codes "'c\td'" ∷ []
words_apart = refl

value_with_a_backslash : unquoted (codes "'a\\b'") ≡ Some (codes "a\\b")
value_with_a_backslash = refl

-- a quote that is not closed goes to the end of the line
words_open : quoted_words (codes "a 'b c") ≡ codes "a" ∷ codes "'b c" ∷ []
words_open = refl

value_empty : map (λ value. unquoted value) ([] ∷ codes "''" ∷ codes "'" ∷ []) ≡ Some [] ∷ Some [] ∷ None ∷ []
value_empty = refl

-- ---- `absent`

absent : listed (codes "absent part") ≡ listed (codes "call part ** : always 1")
absent = refl

absent_says : listed (codes "absent part") ≡ Ok (one (codes "part") any (record quiet { always = Some false }))
absent_says = refl

absent_colon : listed (codes "absent :") ≡ Err (BadLine 1)
absent_colon = refl

absent_built_in : listed (codes "absent echo") ≡ Err (BuiltIn 1)
absent_built_in = refl

absent_of_two : map (λ line. listed line) (codes "absent part mmc" ∷ codes "absent p*" ∷ codes "absent 'p'" ∷ []) ≡ Err (BadLine 1) ∷ Err (BadLine 1) ∷ Err (BadLine 1) ∷ []
absent_of_two = refl

-- ---- commands of these names

commands : map (λ line. listed line) (codes "call" ∷ codes "absent" ∷ codes "call a=1" ∷ codes "absent a=1" ∷ codes "final call" ∷ [])
    ≡ Ok (only ((codes "call", quiet) ∷ [])) ∷ Ok (only ((codes "absent", quiet) ∷ []))
    ∷ Ok (only ((codes "call", record quiet { sets = (Variable (codes "a"), Literal (codes "1")) ∷ [] }) ∷ []))
    ∷ Ok (only ((codes "absent", record quiet { sets = (Variable (codes "a"), Literal (codes "1")) ∷ [] }) ∷ []))
    ∷ Ok (only ((codes "call", record quiet { ends = Some Boots }) ∷ [])) ∷ []
commands = refl

-- without a `:` it is no line of calls
no_colon : map (λ line. listed line) (codes "call mmc dev" ∷ codes "call mmc: final" ∷ []) ≡ Err (BadLine 1) ∷ Err (BadLine 1) ∷ []
no_colon = refl

-- ---- which line decides

abbrev rescan : Devices
rescan = record {
  commands = (codes "mmc", quiet) ∷ [];
  subs = (codes "mmc", (codes "dev", record quiet { stays = true }) ∷ []) ∷ [];
  calls = (codes "mmc", (record { words = Exactly (codes "dev") ∷ Exactly (codes "0") ∷ []; more = false }, record quiet { always = Some true }) ∷ (record { words = Exactly (codes "dev") ∷ []; more = true }, record quiet { ends = Some Boots }) ∷ (record { words = Exactly (codes "dev") ∷ Exactly (codes "1") ∷ []; more = false }, quiet) ∷ []) ∷ [];
  known = [];
  test_stays = false;
  choices = [];
  files = [];
}

read_so : listed (codes "call mmc dev 0 : always 0\nmmc\ncall mmc dev ** : final\nsteady sub mmc dev\ncall mmc dev 1 :") ≡ Ok rescan
read_so = refl

first_that_fits : map (λ words. effect_of rescan (codes "mmc") words) ((codes "dev" ∷ codes "0" ∷ []) ∷ (codes "dev" ∷ codes "1" ∷ []) ∷ (codes "dev" ∷ []) ∷ (codes "part" ∷ []) ∷ [] ∷ [])
    ≡ Some (record quiet { always = Some true }) ∷ Some (record quiet { ends = Some Boots }) ∷ Some (record quiet { ends = Some Boots }) ∷ Some quiet ∷ Some quiet ∷ []
first_that_fits = refl

-- a call that no line of its name fits goes by its `sub` lines, and then by its name, if these are there
others_go_on : map (λ words. effect_of (record rescan { calls = (codes "mmc", (alone, record quiet { ends = Some Boots }) ∷ []) ∷ [] }) (codes "mmc") words) ([] ∷ (codes "dev" ∷ []) ∷ (codes "x" ∷ []) ∷ [])
    ≡ Some (record quiet { ends = Some Boots }) ∷ Some (record quiet { stays = true }) ∷ Some quiet ∷ []
others_go_on = refl

not_listed : effect_of (one (codes "mmc") alone quiet) (codes "mmc") (codes "dev" ∷ []) ≡ None
not_listed = refl

named : map (is_listed (one (codes "mmc") alone quiet)) (codes "mmc" ∷ codes "usb" ∷ []) ≡ true ∷ false ∷ []
named = refl

-- ---- values in a call

sets_words : sets_in (codes "addr" ∷ codes "40" ∷ codes "r" ∷ []) ((Variable (codes "a"), ValueAt 1) ∷ (Variable (codes "b"), LastValue) ∷ (WordAt 2, ValueAt 0) ∷ [])
    ≡ (codes "a", Value (codes "40")) ∷ (codes "b", Value (codes "r")) ∷ (codes "r", Value (codes "addr")) ∷ []
sets_words = refl

-- a word that is not there sets nothing
no_word : sets_in (codes "addr" ∷ []) ((Variable (codes "a"), ValueAt 1) ∷ (Variable (codes "b"), Literal (codes "1")) ∷ []) ≡ (codes "b", Value (codes "1")) ∷ []
no_word = refl

no_words : sets_in [] ((Variable (codes "a"), LastValue) ∷ []) ≡ []
no_words = refl

-- ---- every line steady

steady_lines : all_steady rescan ≡ record {
  commands = (codes "mmc", record quiet { stays = true }) ∷ [];
  subs = (codes "mmc", (codes "dev", record quiet { stays = true }) ∷ []) ∷ [];
  calls = (codes "mmc", (record { words = Exactly (codes "dev") ∷ Exactly (codes "0") ∷ []; more = false }, record quiet { always = Some true }) ∷ (record { words = Exactly (codes "dev") ∷ []; more = true }, record quiet { ends = Some Boots; stays = true }) ∷ (record { words = Exactly (codes "dev") ∷ Exactly (codes "1") ∷ []; more = false }, record quiet { stays = true }) ∷ []) ∷ [];
  known = [];
  test_stays = true;
  choices = [];
  files = [];
}
steady_lines = refl

-- what is expected of a call, is expected if its answers stay
steady_normal : all_steady (one (codes "tftp") any (record quiet { normal = true })) ≡ record (one (codes "tftp") any (record quiet { stays = true; normal = true })) { test_stays = true }
steady_normal = refl

-- what a call needs, it needs if its answers stay
steady_needs : all_steady (needing quiet (codes "load" ∷ [])) ≡ record (needing (record quiet { stays = true }) (codes "load" ∷ [])) { test_stays = true }
steady_needs = refl

-- as the list would say it
as_if_said : map (λ text. listed text) (codes "steady load a=1\nfinal steady go\nsteady sub mmc dev\nsteady test" ∷ []) ≡ Ok (all_steady (record (only ((codes "load", record quiet { sets = (Variable (codes "a"), Literal (codes "1")) ∷ [] }) ∷ (codes "go", record quiet { ends = Some Boots }) ∷ [])) { subs = (codes "mmc", (codes "dev", quiet) ∷ []) ∷ [] })) ∷ []
as_if_said = refl
