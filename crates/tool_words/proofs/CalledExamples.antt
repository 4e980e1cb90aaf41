-- Worked calls by other names, computed.
use Rattle.std.proofs.Common.{◌≡◌, refl, [], ◌∷◌, codes}
use Rattle.tool_words.specs.Called.{called_as, words_called}
use Rattle.tool_words.specs.declared.called.CalledAs.TheVariants.{FwPrintenv, FwSetenv, Ubtool}

-- by its path, without words
printenv_without_words : words_called (codes "/usr/bin/fw_printenv" ∷ []) ≡ codes "printenv" ∷ []
printenv_without_words = refl

-- by its name alone, with words
setenv_with_words : words_called (codes "fw_setenv" ∷ codes "a" ∷ codes "1" ∷ []) ≡ codes "setenv" ∷ codes "a" ∷ codes "1" ∷ []
setenv_with_words = refl

-- by its own name, in a folder that has another's name
own_name : words_called (codes "/opt/fw_setenv/ubtool" ∷ codes "printenv" ∷ []) ≡ codes "printenv" ∷ []
own_name = refl

-- a name that only ends like this
longer_name : words_called (codes "xfw_printenv" ∷ codes "a" ∷ []) ≡ codes "a" ∷ []
longer_name = refl

-- a path that ends with a slash
no_last_part : words_called (codes "fw_printenv/" ∷ codes "a" ∷ []) ≡ codes "a" ∷ []
no_last_part = refl

-- `ubtool help`, `ubtool help setenv`, `ubtool version`
help_alone : words_called (codes "ubtool" ∷ codes "help" ∷ []) ≡ codes "--help" ∷ []
help_alone = refl

help_of_setenv : words_called (codes "ubtool" ∷ codes "help" ∷ codes "setenv" ∷ []) ≡ codes "setenv" ∷ codes "--help" ∷ []
help_of_setenv = refl

version_alone : words_called (codes "ubtool" ∷ codes "version" ∷ []) ≡ codes "--version" ∷ []
version_alone = refl

-- variables that are called `help` and `version`
help_printed : words_called (codes "ubtool" ∷ codes "printenv" ∷ codes "help" ∷ []) ≡ codes "printenv" ∷ codes "help" ∷ []
help_printed = refl

version_printed : words_called (codes "fw_printenv" ∷ codes "version" ∷ []) ≡ codes "printenv" ∷ codes "version" ∷ []
version_printed = refl

-- no name at all
nothing_called : words_called [] ≡ []
nothing_called = refl

-- what the program is called as: by the path of one of U-Boot's tools
called_by_path : called_as (codes "/usr/bin/fw_setenv" ∷ codes "-s" ∷ codes "-" ∷ []) ≡ FwSetenv
called_by_path = refl

printing_by_path : called_as (codes "./fw_printenv" ∷ []) ≡ FwPrintenv
printing_by_path = refl

-- by a name that only ends like this
called_by_longer_name : called_as (codes "xfw_setenv" ∷ []) ≡ Ubtool
called_by_longer_name = refl

-- by its own name, with another's as a word
called_by_own_name : called_as (codes "ubtool" ∷ codes "fw_setenv" ∷ []) ≡ Ubtool
called_by_own_name = refl

-- by no name
called_by_none : called_as [] ≡ Ubtool
called_by_none = refl
