-- What the program's trees say.
use Rattle.std.specs.Prelude.{ℕ, List, [], ◌∷◌, map, Option, Some, None}
use Rattle.hushlang.specs.Tree as tree
use Rattle.hushlang.specs.Tree.{Script, AndOr, Joined, Command, Arms}
use Rattle.std.specs.declared.alloc.Global.{Global}
use Rattle.std.specs.declared.rc.Rc.{Rc}
use Rattle.std.specs.declared.vec.Vec.{Vec}
use Rattle.hushlang.specs.declared.tree.Op.{Op}
use Rattle.hushlang.specs.declared.tree.Word.{Word}
use Rattle.hushlang.specs.declared.call.Call.{Call}
pub use Rattle.hushlang.specs.WordsShown.{piece, word, fields_in, known}
use Rattle.hushlang.specs.declared.tree.Command.{Command-F, fold-Command}
use Rattle.hushlang.specs.declared.tree.Command as code
use Rattle.hushlang.specs.declared.tree.Command.TheOpen as open_command
use Rattle.hushlang.specs.declared.tree.AndOr.{AndOr-F, fold-AndOr}
use Rattle.hushlang.specs.declared.tree.AndOr as code_list
use Rattle.hushlang.specs.declared.tree.Script.{Script-F, fold-Script}
use Rattle.hushlang.specs.declared.tree.Script as code_script

-- the words of a simple command
abbrev pub call : Call → List tree.Word
call c = map word c.words.items

abbrev pub runs : List AndOr → Script
runs [] = tree.Empty
runs (list ∷ more) = tree.Runs list (runs more)

abbrev pub joins : List (Op × Command) → Joined
joins [] = tree.Alone
joins (one ∷ more) = tree.Joins one.0 one.1 (joins more)

abbrev pub arms : List (Script × Script) → Option Script → Arms
arms [] None = tree.NoElse
arms [] (Some body) = tree.Else body
arms (arm ∷ more) other = tree.Arm arm.0 arm.1 (arms more other)

abbrev pub shared : Option (Rc Script Global) → Option Script
shared None = None
shared (Some body) = Some body.value

-- one level
abbrev pub command_level : Command-F Command AndOr Script → Command
command_level (open_command.Simple c) = tree.Simple (call c)
command_level (open_command.Assign values) = tree.Assign (map (λ v. (v.0.items, word v.1)) values.items)
command_level (open_command.If all other) =
    tree.If (arms (map (λ arm. (arm.0.value, arm.1.value)) all.items) (shared other))
command_level (open_command.Loop until cond body) = tree.Loop until cond.value body.value
command_level (open_command.For name words body) = tree.For name.items (map word words.items) body.value

abbrev pub list_level : AndOr-F Command AndOr Script → AndOr
list_level a = tree.Starts a.first (joins a.rest.items)

abbrev pub script_level : Script-F Command AndOr Script → Script
script_level s = runs s.lists.items

-- what a command, an and-or list and a script say
unfoldable pub command : code.Command → Command
command = fold-Command Command AndOr Script command_level list_level script_level

unfoldable pub list : code_list.AndOr → AndOr
list = fold-AndOr Command AndOr Script command_level list_level script_level

unfoldable pub script : code_script.Script → Script
script = fold-Script Command AndOr Script command_level list_level script_level

abbrev pub script_in : Option (Rc code_script.Script Global) → Option Script
script_in None = None
script_in (Some body) = Some (script body.value)

abbrev pub arm : Rc code_script.Script Global × Rc code_script.Script Global → Script × Script
arm p = (script p.0.value, script p.1.value)

abbrev pub joined : Op × code.Command → Op × Command
joined p = (p.0, command p.1)

abbrev pub arms_of : Vec (Rc code_script.Script Global × Rc code_script.Script Global) Global
    × Option (Rc code_script.Script Global) → Arms
arms_of p = arms (map arm p.0.items) (script_in p.1)

abbrev pub value : Vec ℕ Global × Word → List ℕ × tree.Word
value v = (v.0.items, word v.1)

abbrev pub words_in : Vec Word Global → List tree.Word
words_in words = map word words.items

abbrev pub values_in : Vec (Vec ℕ Global × Word) Global → List (List ℕ × tree.Word)
values_in values = map value values.items

abbrev pub joins_in : Vec (Op × code.Command) Global → Joined
joins_in rest = joins (map joined rest.items)

abbrev pub lists_in : Vec code_list.AndOr Global → Script
lists_in lists = runs (map list lists.items)
