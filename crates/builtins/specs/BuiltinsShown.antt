-- The built-in commands of the program, seen as those of the definitions.
use Rattle.builtins.specs.Builtins as says
use Rattle.builtins.specs.declared.builtins.Builtin.{Builtin}
use Rattle.builtins.specs.declared.builtins.Builtin.TheVariants as names

abbrev pub builtin_shown : Builtin → says.Builtin
builtin_shown names.SetEnv = says.SetEnv
builtin_shown names.Run = says.Run
builtin_shown names.Test = says.Test
builtin_shown names.Echo = says.Echo
builtin_shown names.True = says.True
builtin_shown names.False = says.False
builtin_shown names.Leave = says.Leave
