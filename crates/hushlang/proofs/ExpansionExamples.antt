-- Worked examples of expansion, computed.
use Rattle.std.specs.Prelude.{◌≡◌, ℕ, List, [], ◌∷◌, true, false, Some, None, codes, if◌then◌else◌}
use Rattle.std.proofs.Common.{refl, bytes_eq}
use Rattle.std.specs.Fmt.{digits}
use Rattle.hushlang.specs.Tree.{Word, Piece, Bytes, Mark, Var, Status}
use Rattle.hushlang.specs.Expansion.{Parameters, atoms, fields, joined}
use Rattle.builtins.specs.Builtins.{Echo, SetEnv}
use Rattle.hushlang.specs.KnownFields.{known_builtin, known_fields, known_name}

-- one variable alone is set
abbrev pub only : List ℕ → List ℕ → ℕ → Parameters
only name value status = record { value = λ asked. (if bytes_eq asked name then Some value else None); status = status }

-- `x` is ` a  b `, with a blank at each end
abbrev pub blanks : Parameters
blanks = only (codes "x") (codes " a  b ") 0

abbrev pub x : Piece
x = Var (codes "x") true

abbrev pub text : List ℕ → Piece
text bytes = Bytes bytes

-- `$x`
value_alone : fields blanks ((x ∷ []) ∷ []) ≡ codes "a" ∷ codes "b" ∷ []
unfolding fields atoms
value_alone = refl

-- `-$x-`
value_within : fields blanks ((text (codes "-") ∷ x ∷ text (codes "-") ∷ []) ∷ []) ≡ codes "-" ∷ codes "a" ∷ codes "b" ∷ codes "-" ∷ []
unfolding fields atoms
value_within = refl

-- `$x''`
mark_behind : fields blanks ((x ∷ Mark ∷ []) ∷ []) ≡ codes "a" ∷ codes "b" ∷ [] ∷ []
unfolding fields atoms
mark_behind = refl

-- `''$x`
mark_before : fields blanks ((Mark ∷ x ∷ []) ∷ []) ≡ [] ∷ codes "a" ∷ codes "b" ∷ []
unfolding fields atoms
mark_before = refl

-- `-$x-`, uncut
value_joined : joined blanks (text (codes "-") ∷ x ∷ text (codes "-") ∷ []) ≡ codes "- a  b -"
unfolding joined atoms
value_joined = refl

-- `echo $x "$x" ''`, with `x` as `a  b`
echo_words : List Word
echo_words = (text (codes "echo") ∷ []) ∷ (x ∷ []) ∷ (Mark ∷ Var (codes "x") false ∷ []) ∷ (Mark ∷ []) ∷ []

echo_fields : fields (only (codes "x") (codes "a  b") 0) echo_words ≡ codes "echo" ∷ codes "a" ∷ codes "b" ∷ codes "a  b" ∷ [] ∷ []
unfolding fields atoms echo_words
echo_fields = refl

-- `load 'a b' '' \\`
load_words : List Word
load_words = (text (codes "load") ∷ []) ∷ (Mark ∷ text (codes "a b") ∷ []) ∷ (Mark ∷ []) ∷ (text (92 ∷ []) ∷ []) ∷ []

load_fields : fields blanks load_words ≡ codes "load" ∷ codes "a b" ∷ [] ∷ (92 ∷ []) ∷ []
unfolding fields atoms load_words
load_fields = refl

-- a variable that is not set gives no field, and one in double quotes an empty one
unset : fields blanks ((Var (codes "y") true ∷ []) ∷ (Mark ∷ Var (codes "y") false ∷ []) ∷ []) ≡ [] ∷ []
unfolding fields atoms
unset = refl

-- tabs and newlines separate too, and a carriage return does not
other_blanks : fields (only (codes "x") (97 ∷ 9 ∷ 98 ∷ 10 ∷ 99 ∷ 13 ∷ 100 ∷ []) 0) ((x ∷ []) ∷ []) ≡ codes "a" ∷ codes "b" ∷ (99 ∷ 13 ∷ 100 ∷ []) ∷ []
unfolding fields atoms
other_blanks = refl

-- `$?`
status : fields (only [] [] 7) ((Status ∷ []) ∷ []) ≡ codes "7" ∷ []
unfolding fields atoms digits
status = refl

greatest_status : joined (only [] [] 255) (text (codes "a") ∷ Status ∷ []) ≡ codes "a255"
unfolding joined atoms digits
greatest_status = refl

no_status : joined (only [] [] 0) (Status ∷ []) ≡ codes "0"
unfolding joined atoms digits
no_status = refl

-- ---- fields that are known before a command runs

known_load : known_fields load_words ≡ Some (codes "load" ∷ codes "a b" ∷ [] ∷ (92 ∷ []) ∷ [])
unfolding fields atoms load_words
known_load = refl

-- `echo $x "$x" ''`
unknown_echo : known_fields echo_words ≡ None
unfolding fields atoms echo_words
unknown_echo = refl

-- `echo "$x"`
unknown_value : known_fields ((text (codes "echo") ∷ []) ∷ (Mark ∷ Var (codes "x") false ∷ []) ∷ []) ≡ None
unknown_value = refl

-- `echo $?`
unknown_status : known_fields ((text (codes "echo") ∷ []) ∷ (Status ∷ []) ∷ []) ≡ None
unknown_status = refl

known_nothing : known_fields [] ≡ Some []
unfolding fields
known_nothing = refl

-- ---- the name that words start with

-- `echo $x "$x" ''`: what is after the name does not matter
known_name_echo : known_name echo_words ≡ Some (codes "echo")
unfolding fields atoms echo_words
known_name_echo = refl

-- `$x load`
unknown_name : known_name ((x ∷ []) ∷ (text (codes "load") ∷ []) ∷ []) ≡ None
unknown_name = refl

-- `ec$x`
unknown_end : known_name ((text (codes "ec") ∷ x ∷ []) ∷ []) ≡ None
unknown_end = refl

-- `'' $x`: an empty field
empty_name : known_name ((Mark ∷ []) ∷ (x ∷ []) ∷ []) ≡ Some []
unfolding fields atoms
empty_name = refl

no_name : known_name [] ≡ None
unfolding fields
no_name = refl

-- ---- the built-in command of that name

-- `echo ''`
names_echo : known_builtin ((text (codes "echo") ∷ []) ∷ (Mark ∷ []) ∷ []) ≡ Some Echo
unfolding fields atoms
names_echo = refl

-- `load echo`: only the first field counts
names_none : known_builtin ((text (codes "load") ∷ []) ∷ (text (codes "echo") ∷ []) ∷ []) ≡ None
unfolding fields atoms
names_none = refl

-- `setenv $?`: the name is enough
names_setenv : known_builtin ((text (codes "setenv") ∷ []) ∷ (Status ∷ []) ∷ []) ≡ Some SetEnv
unfolding fields atoms
names_setenv = refl

-- `$x echo`
names_unknown : known_builtin ((x ∷ []) ∷ (text (codes "echo") ∷ []) ∷ []) ≡ None
names_unknown = refl

no_field_names : known_builtin [] ≡ None
unfolding fields
no_field_names = refl
