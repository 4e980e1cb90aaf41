-- What the words of a call ask for, from the entries that `clap` finds in them. Ours; that `bootcmd` is the variable
-- that boots is U-Boot's (doc/usage/environment).
use Rattle.std.specs.Prelude.{◌∷◌, ◌||◌, ◌&&◌, not, is_some, Bool, false, List, [], Option, Some, None, Result, Ok, Err, codes, map, option_map, string_bytes, String, if◌then◌else◌}
use Rattle.std.specs.Option.{option_map_or}
use Rattle.std.specs.declared.alloc.Global.{Global}
use Rattle.clap.specs.Words.{Row, Text, first_of}
use Rattle.envimage.specs.declared.image.ByteOrder.{ByteOrder}
use Rattle.hushcheck_program.specs.declared.ask.CheckAsk.{CheckAsk}
use Rattle.tool_words.specs.Asked.{OriginShown, is_set, order_of, origin_beside, shell_named, values_of}
use Rattle.tool_words.specs.CommandAnswers.{origin_shown}
use Rattle.tool_words.specs.declared.ask.Origin.{Origin}
use Rattle.tool_words.specs.declared.ask.OriginError.{OriginError}
use Rattle.rehearse_terms.specs.declared.shell.Shell.{Shell}

-- what names the images, and the paths of the device list, of the folder of the files that it names and of the script, if there
-- are any; the variables to check, and whether every variable is checked after them; the shell that is named, if one is;
-- whether a warning is a fault; and how the checksum is stored
pub record Asked : Type 0 where
  pub origin : OriginShown
  pub device_list : Option Text
  pub files : Option Text
  pub script : Option Text
  pub names : List Text
  pub all : Bool
  pub shell : Option Shell
  pub strict : Bool
  pub order : ByteOrder

-- `bootcmd` if no name is given, and neither every variable nor a script is asked for
abbrev pub or_bootcmd : (other : Bool) → List Text → List Text
or_bootcmd other [] = if other then [] else codes "bootcmd" ∷ []
or_bootcmd other (name ∷ names) = name ∷ names

-- an option is given
abbrev pub is_given : (option : Text) → List Row → Bool
is_given option rows = is_some (first_of option rows)

-- a script is asked for
abbrev pub has_script : List Row → Bool
has_script rows = is_given (codes "script") rows

-- a script is asked for, and a variable by its name
abbrev pub is_mixed : (script : Bool) → (names : List Text) → Bool
is_mixed script [] = false
is_mixed script (name ∷ names) = script

abbrev pub is_mixed_in : List Row → Bool
is_mixed_in rows = is_mixed (has_script rows) (values_of (codes "names") rows)

-- a folder of files is asked for, and no device list, which would name them
abbrev pub is_unlisted : List Row → Bool
is_unlisted rows = is_given (codes "files") rows && not (is_given (codes "device-list") rows)

-- the shell of a name, as one that is named; nothing if no shell has it
abbrev pub some_shell : Text → Option (Option Shell)
some_shell name = option_map (λ shell. Some shell) (shell_named name)

-- the shell that is named, if one is; nothing if no shell has the name
abbrev pub shell_by : Option Text → Option (Option Shell)
shell_by name = option_map_or some_shell name (Some None)

abbrev pub asked_from : List Row → Option Shell → OriginShown → Asked
asked_from rows shell origin = record {
  origin = origin;
  device_list = first_of (codes "device-list") rows;
  files = first_of (codes "files") rows;
  script = first_of (codes "script") rows;
  names = or_bootcmd (is_set (codes "all") rows || has_script rows) (values_of (codes "names") rows);
  all = is_set (codes "all") rows;
  shell = shell;
  strict = is_set (codes "strict") rows;
  order = order_of rows;
}

-- the call with these images, or the refusal of the words that name them
abbrev pub asked_with : List Row → Option Shell → Result OriginShown OriginError → Result Asked OriginError
asked_with rows shell (Ok origin) = Ok (asked_from rows shell origin)
asked_with rows shell (Err error) = Err error

abbrev pub asked_in : List Row → Option Shell → Result Asked OriginError
asked_in rows shell = asked_with rows shell (origin_beside rows)

-- nothing is asked for if a variable is named beside a script, if a folder of files is given without a device list, or if no
-- shell has the name that is given, whatever names the images
abbrev pub asked_of : List Row → Option (Result Asked OriginError)
asked_of rows =
    if is_mixed_in rows then None else if is_unlisted rows then None
    else option_map (asked_in rows) (shell_by (first_of (codes "shell") rows))

-- what the program's answer asks for
abbrev pub asked_by : Origin → Option (String Global) → CheckAsk → ByteOrder → Asked
asked_by origin list what order = record {
  origin = origin_shown origin;
  device_list = option_map string_bytes list;
  files = option_map string_bytes what.files;
  script = option_map string_bytes what.script;
  names = map string_bytes what.names.items;
  all = what.all;
  shell = what.shell;
  strict = what.strict;
  order = order;
}
