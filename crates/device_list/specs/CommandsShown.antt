-- The commands of the maps, seen as the list of definitions.
use Rattle.std.specs.Prelude.{◌≡◌, Bool, true, false, List, Option, Some, None, map}
use Rattle.std.specs.Borrow.{Bor}
use Rattle.std.specs.Prelude.{Vec}
use Rattle.std.specs.declared.alloc.Global.{Global}
use Rattle.indexmap.specs.IndexMap.{IndexMap}
use Rattle.text.specs.Lines.{Text}
use Rattle.commands.specs.TextsShown.{texts}
use Rattle.device_list.specs.DeviceList.{Effect, Effects}
use Rattle.device_list.specs.CallLines as calls
use Rattle.device_list.specs.DevicesShown.{Bytes, setting_shown, settings_shown, pattern_shown}
use Rattle.device_list.specs.declared.listed.Effect.{Effect as LentEffect}
use Rattle.device_list.specs.declared.listed.Listed.{Listed}
use Rattle.device_list.specs.declared.clauses.Clauses.{Clauses}
use Rattle.device_list.specs.declared.file_text.FileText.{FileText}
use Rattle.device_list.specs.declared.call_line.CallLine.{CallLine}
use Rattle.device_list.specs.declared.call_line.Call.{Call}

abbrev pub listed_shown : Listed → Effect
listed_shown l = record { ends = l.ends; stays = l.stays; always = l.always; needs = texts l.needs.items; normal = l.normal; runs = texts l.runs.items; sets = settings_shown l.sets }

abbrev pub found_shown : Bor Listed → Effect
found_shown l = listed_shown l.now

abbrev pub lent_effect : LentEffect → Effect
lent_effect e = record { ends = e.ends; stays = e.stays; always = e.always; needs = texts e.needs.now; normal = e.normal; runs = texts e.runs.now; sets = map setting_shown e.sets.now }

abbrev pub commands_shown : List (Bytes × Listed) → Effects
commands_shown = map (λ c. (c.0.items, listed_shown c.1))

abbrev pub table_shown : {S : Type 0} → IndexMap Bytes Listed S → Effects
table_shown table = commands_shown table.entries

abbrev pub subs_shown : {S : Type 0} → List (Bytes × IndexMap Bytes Listed S) → List (Text × Effects)
subs_shown = map (λ c. (c.0.items, table_shown c.1))

-- files, each with its name
abbrev pub text_shown : FileText → calls.FileText
text_shown f = record { text = f.text.items; size = f.size }

abbrev pub files_shown : List (Bytes × FileText) → calls.Files
files_shown = map (λ f. (f.0.items, text_shown f.1))

-- ---- lines of calls

abbrev pub clauses_shown : Clauses → calls.Clauses
clauses_shown c = record {
  effect = record { ends = c.ends; stays = c.stays; always = c.always; needs = texts c.needs.items; normal = c.normal; runs = texts c.runs.items; sets = settings_shown c.sets };
  awaited = c.awaited;
}

-- one more word is a clause, or a part of one, or it is none
abbrev pub IsTaken : (after : Option calls.Clauses) → calls.Clauses → (taken : Bool) → Type 0
IsTaken after new true = after ≡ Some new
IsTaken after new false = after ≡ None

abbrev pub line_shown : CallLine → calls.Pattern × Effect
line_shown l = (pattern_shown l.pattern, listed_shown l.listed)

abbrev pub call_lines_shown : List CallLine → List (calls.Pattern × Effect)
call_lines_shown = map line_shown

abbrev pub lines_shown : Vec CallLine Global → List (calls.Pattern × Effect)
lines_shown v = call_lines_shown v.items

abbrev pub calls_shown : List (Bytes × Vec CallLine Global) → List (Text × List (calls.Pattern × Effect))
calls_shown = map (λ c. (c.0.items, lines_shown c.1))

abbrev pub said_shown : Call → calls.Call
said_shown c = record { name = c.name.now; pattern = pattern_shown c.line.pattern; effect = listed_shown c.line.listed }

-- what goes on from a line, or from lines, is one of these, and the file before; or nothing goes on
abbrev pub IsFurther : {A : Type 0} → (after : Option (A × Text)) → A → (before : Option Bytes) → Type 0
IsFurther after new None = after ≡ None
IsFurther after new (Some file) = after ≡ Some (new, file.items)
