-- The command line that `clap` is given: eight subcommands with their options and names. It is ours, but `-c`, `-l`,
-- `-n` and `-s` and their long forms are those of fw_printenv and fw_setenv (U-Boot, tools/env README), and
-- `--no-header` is libubootenv's.
use Rattle.std.specs.Prelude.{ℕ, List, [], ◌∷◌, Option, None, true, codes, find}
use Rattle.std.specs.Option.{option_map_or}
use Rattle.std.specs.Str.{bytes_eq}
use Rattle.clap.specs.Words.{App, Rule, Shape, Text, new_app}
use Rattle.clap.specs.Simple.{on_top}
use Rattle.tool_words.specs.Arguments.{command, lettered_flag, lettered_option, long_option, many, number_option, one, repeated_option, with_subcommands}
pub use Rattle.tool_words.specs.Arguments.{long_flag}
use Rattle.rehearse_terms.specs.Bounds.{most_run_devices, most_steps}

-- the byte of a letter
abbrev letter : Text → ℕ
letter [] = 0
letter (b ∷ text) = b

-- the greatest limit of the records of a listing
abbrev pub most_records : ℕ
most_records = 4294967295

-- the most device commands of a run that a listing may allow to fail
abbrev pub most_failures : ℕ
most_failures = 32

-- `-c FILE`
abbrev pub config : Rule
config = lettered_option (codes "config") (letter (codes "c"))

-- `-i FILE`, and the second copy of a pair beside it
abbrev pub image : Rule
image = lettered_option (codes "image") (letter (codes "i"))

abbrev pub second : Rule
second = long_option (codes "second")

-- `--text FILE`, in place of images
abbrev pub text_file : Rule
text_file = long_option (codes "text")

-- `--script FILE`, in place of a variable
abbrev pub script_file : Rule
script_file = long_option (codes "script")

-- `--files FOLDER`, of the files that the device list names
abbrev pub files : Rule
files = long_option (codes "files")

abbrev pub big_endian : Rule
big_endian = long_flag (codes "big-endian")

-- `-l DIR`
abbrev pub lock : Rule
lock = lettered_option (codes "lock") (letter (codes "l"))

-- `-n`, with two long forms
abbrev pub no_header : Rule
no_header = record (lettered_flag (codes "noheader") (letter (codes "n"))) { aliases = codes "no-header" ∷ [] }

-- the other copy of a pair counts if one cannot be read
abbrev pub one_copy : Rule
one_copy = long_flag (codes "one-copy")

-- `-0`: each variable is ended by a NUL byte
abbrev pub null : Rule
null = lettered_flag (codes "null") (letter (codes "0"))

-- names and values are printed so that each variable is one line
abbrev pub escaped : Rule
escaped = long_flag (codes "escaped")

-- `[NAME]..`, of variables
abbrev pub names : Rule
names = many (codes "names")

abbrev pub printenv : App
printenv = command (codes "printenv")
    (config ∷ image ∷ second ∷ text_file ∷ big_endian ∷ lock ∷ one_copy ∷ no_header ∷ null ∷ escaped ∷ names ∷ [])

-- `-s FILE`, `[NAME]` and `[VALUE]..`
abbrev pub script : Rule
script = lettered_option (codes "script") (letter (codes "s"))

abbrev pub name : Rule
name = one (codes "name")

abbrev pub values : Rule
values = many (codes "values")

abbrev pub setenv : App
setenv = command (codes "setenv") (config ∷ image ∷ second ∷ big_endian ∷ lock ∷ one_copy ∷ script ∷ name ∷ values ∷ [])

-- `-d FILE`, which each call needs
abbrev pub device_list : Rule
device_list = record (lettered_option (codes "device-list") (letter (codes "d"))) { required = true }

-- each device command and `test -e` is steady
abbrev pub steady : Rule
steady = long_flag (codes "steady")

-- which alternative of the list is taken, and the greatest number of them
abbrev pub most_alternatives : ℕ
most_alternatives = 64

abbrev pub given : Rule
given = number_option (codes "given") 1 most_alternatives

-- `-b NAME`, and the two bounds
abbrev pub variable : Rule
variable = lettered_option (codes "variable") (letter (codes "b"))

abbrev pub devices : Rule
devices = number_option (codes "devices") 0 most_run_devices

abbrev pub steps : Rule
steps = number_option (codes "steps") 0 most_steps

-- `--shell NAME`, by whose rules the scripts run
abbrev pub shell : Rule
shell = long_option (codes "shell")

-- the one run that is written; or how many device commands of a listed run may fail, the run after which the listing
-- starts, and how many records it has
abbrev pub word : Rule
word = long_option (codes "word")

abbrev pub failures : Rule
failures = number_option (codes "failures") 0 most_failures

abbrev pub after : Rule
after = long_option (codes "after")

abbrev pub limit : Rule
limit = number_option (codes "limit") 1 most_records

abbrev pub rehearse : App
rehearse = command (codes "rehearse")
    (config ∷ image ∷ second ∷ text_file ∷ big_endian ∷ device_list ∷ files ∷ steady ∷ given ∷ variable ∷ script_file ∷ devices ∷ steps ∷ shell ∷ word ∷ failures ∷ after ∷ limit ∷ names ∷ [])

-- how many states may be searched, and the greatest number of them that can be allowed
abbrev pub most_states : ℕ
most_states = 4294967295

abbrev pub states : Rule
states = number_option (codes "states") 0 most_states

-- how many steps may be begun in all, and the greatest number of them that can be allowed
abbrev pub most_work : ℕ
most_work = 4294967295

abbrev pub work : Rule
work = number_option (codes "work") 0 most_work

-- how many MiB the states may count together that are kept, and the greatest number of them that can be allowed
abbrev pub most_memory : ℕ
most_memory = 4294967295

abbrev pub memory : Rule
memory = number_option (codes "memory") 0 most_memory

-- to write the flow
abbrev pub flow : Rule
flow = long_flag (codes "flow")

abbrev pub endings : App
endings = command (codes "endings")
    (config ∷ image ∷ second ∷ text_file ∷ big_endian ∷ device_list ∷ files ∷ steady ∷ given ∷ variable ∷ script_file ∷ devices ∷ steps ∷ shell ∷ states ∷ work ∷ memory ∷ flow ∷ names ∷ [])

-- how many boots may be rehearsed, and the greatest number of them that can be allowed
abbrev pub most_boots : ℕ
most_boots = 4294967295

abbrev pub boot_bound : Rule
boot_bound = number_option (codes "boots") 0 most_boots

-- `--then FILE`, a script of changes that may follow a boot
abbrev pub changes : Rule
changes = long_option (codes "then")

-- `--expect ENDING`, which is expected of each boot; within how many boots; and `--expect-var NAME=VALUE`, a value that it
-- leaves, as often as it is given
abbrev pub expect : Rule
expect = long_option (codes "expect")

abbrev pub within : Rule
within = number_option (codes "within") 1 most_boots

abbrev pub expect_variable : Rule
expect_variable = repeated_option (codes "expect-var")

abbrev pub boots : App
boots = command (codes "boots")
    (config ∷ image ∷ second ∷ text_file ∷ big_endian ∷ device_list ∷ files ∷ steady ∷ given ∷ variable ∷ script_file ∷ devices ∷ steps ∷ shell ∷ states ∷ work ∷ memory ∷ boot_bound ∷ failures ∷ changes ∷ expect ∷ within ∷ expect_variable ∷ names ∷ [])

-- how many device commands may fail in a run that `causes` looks at, and the greatest number of them that can be allowed
abbrev pub most_cause_failures : ℕ
most_cause_failures = 3

abbrev pub cause_failures : Rule
cause_failures = number_option (codes "failures") 0 most_cause_failures

-- to write only what does not boot
abbrev pub check : Rule
check = long_flag (codes "check")

abbrev pub causes : App
causes = command (codes "causes")
    (config ∷ image ∷ second ∷ text_file ∷ big_endian ∷ device_list ∷ files ∷ steady ∷ given ∷ variable ∷ script_file ∷ devices ∷ steps ∷ shell ∷ cause_failures ∷ check ∷ [])

-- `--size N` and `-o FILE`, which each call of `image` needs, and `TEXT`
abbrev pub size : Rule
size = record (long_option (codes "size")) { required = true }

abbrev pub redundant : Rule
redundant = long_flag (codes "redundant")

abbrev pub fill : Rule
fill = long_option (codes "fill")

abbrev pub output : Rule
output = record (lettered_option (codes "output") (letter (codes "o"))) { required = true }

abbrev pub variables : Rule
variables = record (one (codes "text")) { required = true }

abbrev pub making : App
making = command (codes "image") (size ∷ redundant ∷ big_endian ∷ fill ∷ output ∷ variables ∷ [])

abbrev pub inspect : App
inspect = command (codes "inspect") (config ∷ image ∷ second ∷ big_endian ∷ [])

-- the program, which has no words of its own; its version can be asked for at each subcommand too
abbrev pub base : App
base = on_top (λ (s : Shape). record s {
  no_binary_name = true;
  subcommand_required = true;
  disable_help_subcommand = true;
  has_version = true;
  propagate_version = true;
}) (new_app (codes "ubtool"))

-- the subcommands, in the order of the help
abbrev pub subcommands : List App
subcommands = printenv ∷ setenv ∷ rehearse ∷ endings ∷ boots ∷ causes ∷ making ∷ inspect ∷ []

unfoldable pub ubtool : App
ubtool = with_subcommands base subcommands

-- the subcommand of this name
abbrev pub named : Text → Option App
named word = find (λ (sub : App). bytes_eq sub.top.name word) subcommands

-- the subcommand that the first of the words names
abbrev pub first_named : List Text → Option App
first_named [] = None
first_named (word ∷ words) = named word

-- the program with one subcommand alone
abbrev pub with_one : App → App
with_one sub = with_subcommands base (sub ∷ [])

-- what is described to `clap` for these words: the subcommand that the first of them names, if it names one, or all
unfoldable pub ubtool_for : List Text → App
ubtool_for words = option_map_or with_one (first_named words) ubtool
