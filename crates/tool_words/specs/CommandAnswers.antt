-- What an answer of the reader of words says, and when each refusal comes. The refusals are ours.
use Rattle.std.specs.Prelude.{◌≡◌, ◌⊎◌, Bool, List, map, Option, Some, None, Result, Ok, Err, option_and_then, option_map, string_bytes, String}
use Rattle.std.specs.declared.alloc.Global.{Global}
use Rattle.clap.specs.Words.{IsAmong, Text, fault_of, subcommand_of}
use Rattle.clap.specs.declared.error.kind.ErrorKind.{ErrorKind}
use Rattle.clap.specs.declared.error.kind.ErrorKind.TheVariants.{DisplayHelp, DisplayVersion}
use Rattle.envimage.specs.declared.image.ByteOrder.{ByteOrder}
use Rattle.tool_words.specs.declared.ask.Ask.{Ask}
use Rattle.tool_words.specs.declared.ask.Ask.TheVariants.{Print, Setenv, Rehearse, Endings, Boots, Causes, Image, Inspect, Help, Version}
use Rattle.tool_words.specs.declared.ask.BootsAsk.{BootsAsk}
use Rattle.tool_words.specs.declared.ask.CausesAsk.{CausesAsk}
use Rattle.tool_words.specs.declared.ask.Change.{Change}
use Rattle.tool_words.specs.declared.ask.Change.TheVariants.{Input, One, Script}
use Rattle.tool_words.specs.declared.ask.EndingsAsk.{EndingsAsk}
use Rattle.tool_words.specs.declared.ask.ExpectedAsk.{ExpectedAsk}
use Rattle.tool_words.specs.declared.ask.Inputs.{Inputs}
use Rattle.tool_words.specs.declared.called.CalledAs.{CalledAs}
use Rattle.tool_words.specs.declared.ask.Origin.{Origin}
use Rattle.tool_words.specs.declared.ask.Origin.TheVariants as named
use Rattle.tool_words.specs.declared.ask.OriginError.{OriginError}
use Rattle.tool_words.specs.declared.ask.RehearseAsk.{RehearseAsk}
use Rattle.tool_words.specs.declared.ask.UseError.{UseError}
use Rattle.tool_words.specs.declared.ask.ValueAsk.{ValueAsk}
use Rattle.rehearse_terms.specs.declared.wanted.Wanted.{Wanted}
use Rattle.tool_words.specs.declared.ask.UseError.TheVariants.{BadFill, BadSize, BadValue, Line, LockNeedsFolder, NeedEnding, NeedExpect, NeedName, ScriptAndName, HeaderNeedsOne, Memory, Misnamed, TooManyDevices, WordAlone}
use Rattle.tool_words.specs.Answered.{IsAccepted, IsMistaken}
use Rattle.tool_words.specs.Asked as what
use Rattle.tool_words.specs.Asked.{Asked, Expected, ExpectedAsked, InputsShown, WantedAsked, OriginShown, asked_of, bad_fill, bad_size, bad_value, booting, causing, configured, ending, input_scripted, inspecting, lock_of, making, no_images, printing, setting, scripted, rehearsing, lock_needs_folder, needs_ending, needs_expect, needs_name, script_and_name, header_needs_one, misnamed, texts, too_many_devices, whole, word_alone}
use Rattle.tool_words.specs.CommandLine.{ubtool}
use Rattle.rehearse_terms.specs.WantedShown.{wanted_bounds, wanted_strings}
use Rattle.rehearse_terms.specs.Asking.{Asking}

abbrev pub asking_of : RehearseAsk → Asking
asking_of r = record {
  variable = string_bytes r.name;
  bounds = wanted_bounds r.wanted;
  wanted = wanted_strings r.wanted;
  names = map string_bytes r.names.items;
}

abbrev pub endings_of : EndingsAsk → what.Endings
endings_of e = record {
  variable = string_bytes e.name;
  bounds = e.bounds;
  states = e.states;
  work = e.work;
  memory = e.memory;
  names = map string_bytes e.names.items;
  flow = e.flow;
}

abbrev pub value_shown : ValueAsk → Text × Text
value_shown value = (string_bytes value.name, string_bytes value.value)

abbrev pub expected_shown : ExpectedAsk → Expected
expected_shown expected = record {
  ending = string_bytes expected.ending;
  within = expected.within;
  values = map value_shown expected.values.items;
}

abbrev pub boots_of : BootsAsk → what.Boots
boots_of b = record {
  variable = string_bytes b.name;
  bounds = b.bounds;
  states = b.states;
  work = b.work;
  memory = b.memory;
  boots = b.boots;
  failures = b.failures;
  names = map string_bytes b.names.items;
  changes = option_map string_bytes b.changes;
  expected = option_map expected_shown b.expected;
}

abbrev pub causes_of : CausesAsk → what.Causes
causes_of c = record {
  variable = string_bytes c.name;
  bounds = c.bounds;
  check = c.check;
}

abbrev pub origin_shown : Origin → OriginShown
origin_shown (named.Config config) = configured (string_bytes config)
origin_shown (named.Files first second) = whole (string_bytes first) (option_map string_bytes second)
origin_shown (named.Text path order) = texts (string_bytes path) order
origin_shown (named.Empty order) = no_images order

abbrev pub inputs_shown : Inputs → InputsShown
inputs_shown inputs = record {
  origin = origin_shown inputs.origin;
  device_list = string_bytes inputs.device_list;
  taking = inputs.taking;
  script = option_map string_bytes inputs.script;
  files = option_map string_bytes inputs.files;
}

abbrev pub change_of : OriginShown → Change → ByteOrder → (one_copy : Bool) → Asked
change_of origin (One name words) order one_copy =
    setting origin (string_bytes name) (map string_bytes words.items) order one_copy
change_of origin (Script file) order one_copy = scripted origin (string_bytes file) order one_copy
change_of origin Input order one_copy = input_scripted origin order one_copy

-- what the value asks for, if it is neither a help text nor the version
abbrev pub meaning_of : Ask → Option Asked
meaning_of (Print origin what order one_copy) =
    Some (printing (origin_shown origin) what.form (map string_bytes what.names.items) order one_copy)
meaning_of (Setenv origin change order one_copy) =
    Some (change_of (origin_shown origin) change order one_copy)
meaning_of (Rehearse inputs what order) = Some (rehearsing (inputs_shown inputs) (asking_of what) order)
meaning_of (Endings inputs what order) = Some (ending (inputs_shown inputs) (endings_of what) order)
meaning_of (Boots inputs what order) = Some (booting (inputs_shown inputs) (boots_of what) order)
meaning_of (Causes inputs what order) = Some (causing (inputs_shown inputs) (causes_of what) order)
meaning_of (Image text output what) = Some (making (string_bytes text) (string_bytes output) what)
meaning_of (Inspect origin order) = Some (inspecting (origin_shown origin) order)
meaning_of (Help text) = None
meaning_of Version = None

-- what the words ask for, by the subcommand that `clap` finds in them and its entries
abbrev pub asked : CalledAs → List Text → Option Asked
asked called words = option_and_then (λ s. asked_of called s.0 s.1) (subcommand_of ubtool words)

-- The answer to words. A line without a mistake is that of a number with a sign, or of a name that no shell has, which
-- `clap` accepts. It accepts no `rehearse`, `endings`, `boots` or `causes` without a device list, no `image` without a size, an
-- output and a text, and no number out of its range.
abbrev pub Answers : CalledAs → List Text → Result Ask UseError → Type 0
Answers called words (Ok (Help text)) = IsAmong DisplayHelp (fault_of ubtool words)
Answers called words (Ok Version) = IsAmong DisplayVersion (fault_of ubtool words)
Answers called words (Ok ask) = IsAccepted ubtool words × (meaning_of ask ≡ asked called words)
Answers called words (Err LockNeedsFolder) =
    IsAccepted ubtool words × (Some lock_needs_folder ≡ asked called words)
Answers called words (Err NeedName) = IsAccepted ubtool words × (Some needs_name ≡ asked called words)
Answers called words (Err ScriptAndName) = IsAccepted ubtool words × (Some script_and_name ≡ asked called words)
Answers called words (Err HeaderNeedsOne) = IsAccepted ubtool words × (Some header_needs_one ≡ asked called words)
Answers called words (Err (Misnamed error)) = IsAccepted ubtool words × (Some (misnamed error) ≡ asked called words)
Answers called words (Err BadSize) = IsAccepted ubtool words × (Some bad_size ≡ asked called words)
Answers called words (Err BadFill) = IsAccepted ubtool words × (Some bad_fill ≡ asked called words)
Answers called words (Err WordAlone) = IsAccepted ubtool words × (Some word_alone ≡ asked called words)
Answers called words (Err TooManyDevices) = IsAccepted ubtool words × (Some too_many_devices ≡ asked called words)
Answers called words (Err NeedExpect) = IsAccepted ubtool words × (Some needs_expect ≡ asked called words)
Answers called words (Err NeedEnding) = IsAccepted ubtool words × (Some needs_ending ≡ asked called words)
Answers called words (Err BadValue) = IsAccepted ubtool words × (Some bad_value ≡ asked called words)
Answers called words (Err (Line text)) = IsMistaken ubtool words ⊎ (IsAccepted ubtool words × (None ≡ asked called words))
Answers called words (Err Memory) = Unit {0}

-- the folder of the lock that accepted words name, if they name one; words that `clap` refuses name none
abbrev pub NamesLock : List Text → Option Text → Type 0
NamesLock words folder =
    (IsAccepted ubtool words × (folder ≡ option_and_then (λ s. lock_of s.1) (subcommand_of ubtool words)))
    ⊎ (((k : ErrorKind) × IsAmong k (fault_of ubtool words)) × (folder ≡ None))

-- the answer says this, or memory ran out; a line says nothing
abbrev pub Says : Option Asked → Result Ask UseError → Type 0
Says a (Ok (Help text)) = ⊥
Says a (Ok Version) = ⊥
Says a (Ok ask) = meaning_of ask ≡ a
Says a (Err LockNeedsFolder) = Some lock_needs_folder ≡ a
Says a (Err NeedName) = Some needs_name ≡ a
Says a (Err ScriptAndName) = Some script_and_name ≡ a
Says a (Err HeaderNeedsOne) = Some header_needs_one ≡ a
Says a (Err (Misnamed error)) = Some (misnamed error) ≡ a
Says a (Err BadSize) = Some bad_size ≡ a
Says a (Err BadFill) = Some bad_fill ≡ a
Says a (Err WordAlone) = Some word_alone ≡ a
Says a (Err TooManyDevices) = Some too_many_devices ≡ a
Says a (Err NeedExpect) = Some needs_expect ≡ a
Says a (Err NeedEnding) = Some needs_ending ≡ a
Says a (Err BadValue) = Some bad_value ≡ a
Says a (Err (Line text)) = None ≡ a
Says a (Err Memory) = Unit {0}

-- the same for the runs that `rehearse` is to list
abbrev pub SaysWanted : Option WantedAsked → Result (Wanted (String Global)) UseError → Type 0
SaysWanted a (Ok wanted) = Some (Ok (wanted_bounds wanted, wanted_strings wanted)) ≡ a
SaysWanted a (Err WordAlone) = Some (Err word_alone) ≡ a
SaysWanted a (Err TooManyDevices) = Some (Err too_many_devices) ≡ a
SaysWanted a (Err (Line text)) = None ≡ a
SaysWanted a (Err Memory) = Unit {0}
SaysWanted a (Err error) = ⊥

-- the same for what is expected of boots
abbrev pub SaysExpected : ExpectedAsked → Result (Option ExpectedAsk) UseError → Type 0
SaysExpected a (Ok expected) = Ok (option_map expected_shown expected) ≡ a
SaysExpected a (Err NeedExpect) = Err needs_expect ≡ a
SaysExpected a (Err NeedEnding) = Err needs_ending ≡ a
SaysExpected a (Err BadValue) = Err bad_value ≡ a
SaysExpected a (Err Memory) = Unit {0}
SaysExpected a (Err error) = ⊥

-- the same for what names the images
abbrev pub SaysOrigin : Result OriginShown OriginError → Result Origin UseError → Type 0
SaysOrigin a (Ok origin) = Ok (origin_shown origin) ≡ a
SaysOrigin a (Err (Misnamed error)) = Err error ≡ a
SaysOrigin a (Err Memory) = Unit {0}
SaysOrigin a (Err error) = ⊥

-- the same for what a rehearsal reads
abbrev pub SaysInputs : Result InputsShown OriginError → Result Inputs UseError → Type 0
SaysInputs a (Ok inputs) = Ok (inputs_shown inputs) ≡ a
SaysInputs a (Err (Misnamed error)) = Err error ≡ a
SaysInputs a (Err Memory) = Unit {0}
SaysInputs a (Err error) = ⊥

-- a line, or memory ran out
abbrev pub IsUnread : UseError → Type 0
IsUnread (Line text) = Unit {0}
IsUnread Memory = Unit {0}
IsUnread _ = ⊥
