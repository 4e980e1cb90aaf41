-- What the program's built-in commands call.
use Rattle.builtins.specs.BuiltinsShown.{builtin_shown}
use Rattle.builtins.specs.declared.builtins.Builtin.{Builtin}
use Rattle.commands.specs.BuiltInCommands as says
use Rattle.device_list.specs.Called as called

-- a built-in command is called
abbrev pub builtin_called : Builtin → called.Called
builtin_called builtin = called.BuiltIn (says.deed_of (builtin_shown builtin))
