-- What the program was called as, and the words that it reads. The names are those of U-Boot's tools (tools/env
-- README). That the last part of the path decides is ours, and so are the words `help` and `version`.
use Rattle.std.specs.Prelude.{◌==◌, ℕ, Bool, true, false, List, [], ◌∷◌, Option, Some, None, codes, slice_index, if◌then◌else◌}
use Rattle.std.specs.Option.{option_map_or}
use Rattle.std.specs.List.{after_last}
use Rattle.std.specs.Str.{bytes_eq}
use Rattle.clap.specs.Words.{Text}
use Rattle.tool_words.specs.declared.called.CalledAs.{CalledAs}
use Rattle.tool_words.specs.declared.called.CalledAs.TheVariants.{FwPrintenv, FwSetenv, Ubtool}

-- `/`
abbrev pub slash : ℕ
slash = slice_index (codes "/") 0

-- what is after the last slash of a path, or all of the path
abbrev pub last_part : Text → Text
last_part path = after_last (λ c. c == slash) path

-- what a program of this name is called as
abbrev pub called_by : Text → CalledAs
called_by name =
    if bytes_eq name (codes "fw_printenv") then FwPrintenv
    else (if bytes_eq name (codes "fw_setenv") then FwSetenv else Ubtool)

-- what the program is called as, from its path and the words after it
abbrev pub called_as : List Text → CalledAs
called_as [] = Ubtool
called_as (path ∷ words) = called_by (last_part path)

-- the name of the program
abbrev pub name_of : CalledAs → Text
name_of Ubtool = codes "ubtool"
name_of FwPrintenv = codes "fw_printenv"
name_of FwSetenv = codes "fw_setenv"

-- this is one of U-Boot's tools
abbrev pub is_tool : CalledAs → Bool
is_tool Ubtool = false
is_tool FwPrintenv = true
is_tool FwSetenv = true

-- the flag that a word alone means
abbrev pub flag_meant : Text → Option Text
flag_meant word =
    if bytes_eq word (codes "help") then Some (codes "--help")
    else (if bytes_eq word (codes "version") then Some (codes "--version") else None)

-- the words as `clap` knows them: `help` and `version` alone are flags, and `help NAME` is `NAME --help`
abbrev pub spelled : List Text → List Text
spelled (word ∷ []) = option_map_or (λ flag. flag) (flag_meant word) word ∷ []
spelled (word ∷ name ∷ []) =
    if bytes_eq word (codes "help") then name ∷ codes "--help" ∷ [] else word ∷ name ∷ []
spelled words = words

-- the words that the program reads, called as this: the subcommand that it means, and these words
abbrev pub words_for : CalledAs → List Text → List Text
words_for Ubtool words = spelled words
words_for FwPrintenv words = codes "printenv" ∷ words
words_for FwSetenv words = codes "setenv" ∷ words

-- the words that the program reads, from its path and the words after it
abbrev pub words_called : List Text → List Text
words_called [] = []
words_called (path ∷ words) = words_for (called_by (last_part path)) words
