-- Worked examples of the tokens that U-Boot's modern shell finds, computed. A sandbox of U-Boot 2025.01 runs each text as this says.
use Rattle.std.proofs.Common.{◌≡◌, ℕ, Bool, true, false, List, [], ◌∷◌, map, refl, Some, None}
use Rattle.std.specs.Prelude.{codes}
use Rattle.hushlang.specs.Tree.{Piece, Bytes, Mark, Var, Status}
use Rattle.hushlang.specs.declared.tree.Op.TheVariants.{And, Or}
use Rattle.hushlang_modern.specs.ModernTokens.{FoundTokens, Token, Word, NewLine, Semicolon, Ampersand, Bar, Joins, Opening, Closing, modern_tokens, read, read_open}
use Rattle.hushlang_modern.specs.declared.stop.Stop.TheVariants.{Fails, Panics, Unsupported}

-- a word without quotes, one with them, and one that is an assignment
abbrev bare : List Piece → Token
bare pieces = Word (record { pieces = pieces; quoted = false; assigns = false })

abbrev quoted : List Piece → Token
quoted pieces = Word (record { pieces = pieces; quoted = true; assigns = false })

abbrev assigns : (quoted : Bool) → List Piece → Token
assigns quoted pieces = Word (record { pieces = pieces; quoted = quoted; assigns = true })

abbrev whole : List Token → FoundTokens
whole tokens = record { tokens = tokens; stop = None; quoted = false }

abbrev text : List ℕ → Piece
text bytes = Bytes bytes

-- separators, operators and comments
signs : map modern_tokens (codes "a && b||c;\n#d" ∷ codes "a#b # \\\nc" ∷ codes "a\\\nb \\\n" ∷ codes "a&b &\"c\"&" ∷ codes "a&\\" ∷ codes "a|b|" ∷ codes "|\\" ∷ [])
    ≡ whole (bare (text (codes "a") ∷ []) ∷ Joins And ∷ bare (text (codes "b") ∷ []) ∷ Joins Or ∷ bare (text (codes "c") ∷ []) ∷ Semicolon ∷ NewLine ∷ [])
    ∷ whole (bare (text (codes "a#b") ∷ []) ∷ NewLine ∷ bare (text (codes "c") ∷ []) ∷ []) ∷ whole (bare (text (codes "ab") ∷ []) ∷ [])
    ∷ whole (bare (text (codes "a") ∷ []) ∷ Ampersand ∷ bare (text (codes "b") ∷ []) ∷ Ampersand ∷ quoted (text (codes "c") ∷ []) ∷ Ampersand ∷ [])
    ∷ record { tokens = bare (text (codes "a") ∷ []) ∷ []; stop = Some Unsupported; quoted = false }
    ∷ whole (bare (text (codes "a") ∷ []) ∷ Bar ∷ bare (text (codes "b") ∷ []) ∷ Bar ∷ []) ∷ record { tokens = []; stop = Some Unsupported; quoted = false } ∷ []
unfolding modern_tokens read read_open
signs = refl

-- groups, which do not end here; a `)` after a byte of a word is one, and so is a `(` that is quoted
groups : map modern_tokens (codes "a) )(b " ∷ codes "\"a\"(" ∷ codes "\\(\"(\"'('a" ∷ codes "(${a" ∷ codes "{(" ∷ codes "a})" ∷ codes "})" ∷ codes "$(b" ∷ codes "(a; }" ∷ [])
    ≡ record { tokens = bare (text (codes "a)") ∷ []) ∷ Closing ∷ Opening false ∷ bare (text (codes "b") ∷ []) ∷ []; stop = Some Fails; quoted = false }
    ∷ record { tokens = Opening true ∷ []; stop = Some Fails; quoted = false } ∷ whole (quoted (text (codes "\\(((a") ∷ []) ∷ [])
    ∷ record { tokens = Opening false ∷ []; stop = Some Panics; quoted = false } ∷ record { tokens = []; stop = Some Unsupported; quoted = false } ∷ whole (bare (text (codes "a})") ∷ []) ∷ [])
    ∷ record { tokens = []; stop = Some Unsupported; quoted = false } ∷ record { tokens = Opening false ∷ []; stop = Some Fails; quoted = false }
    ∷ record { tokens = Opening false ∷ bare (text (codes "a") ∷ []) ∷ Semicolon ∷ []; stop = Some Unsupported; quoted = false } ∷ []
unfolding modern_tokens read read_open
groups = refl

-- quotes: the bytes that would act in a pattern have a backslash in front of them, and one in the script stays
quotes : map modern_tokens (codes "'a*'\"-$\\\"\" \\;\\*" ∷ codes "'' \"\" \"\\a\\\\\\\nb\"" ∷ [])
    ≡ whole (quoted (text (codes "a\\*\\-$\"") ∷ []) ∷ quoted (text (codes "\\;\\*") ∷ []) ∷ []) ∷ whole (quoted [] ∷ quoted (Mark ∷ []) ∷ quoted (text (codes "\\\\a\\\\b") ∷ []) ∷ []) ∷ []
unfolding modern_tokens read read_open
quotes = refl

-- variables
variables : map modern_tokens (codes "$a-${b#}$?" ∷ codes "\"$a b$?\"$ $" ∷ codes "$_1.${?}" ∷ [])
    ≡ whole (bare (Var (codes "a") true ∷ text (codes "-") ∷ Var (codes "b#") true ∷ Status ∷ []) ∷ [])
    ∷ whole (quoted (Mark ∷ Var (codes "a") false ∷ text (codes " b") ∷ Mark ∷ Status ∷ text (codes "$") ∷ []) ∷ bare (text (codes "$") ∷ []) ∷ [])
    ∷ whole (bare (Var (codes "_1") true ∷ text (codes ".") ∷ Status ∷ []) ∷ []) ∷ []
unfolding modern_tokens read read_open
variables = refl

-- the parameters of the shell, which are nothing but `$#` and the variable `-`
parameters : map modern_tokens (codes "a$1b \"$*\" \"$@\" $#$- \"$-\"" ∷ codes "${1}\"${2}\"" ∷ codes "${1a" ∷ codes "${1" ∷ codes "${12" ∷ codes "${1:" ∷ [])
    ≡ whole (quoted (text (codes "ab") ∷ []) ∷ quoted (Mark ∷ []) ∷ quoted [] ∷ quoted (text (codes "0") ∷ Var (codes "-") true ∷ []) ∷ quoted (Mark ∷ Var (codes "-") false ∷ []) ∷ [])
    ∷ whole (quoted (Mark ∷ []) ∷ []) ∷ record { tokens = []; stop = Some Fails; quoted = false } ∷ record { tokens = []; stop = Some Fails; quoted = false }
    ∷ record { tokens = []; stop = Some Unsupported; quoted = false } ∷ record { tokens = []; stop = Some Unsupported; quoted = false } ∷ []
unfolding modern_tokens read read_open
parameters = refl

-- an operator in braces is the last byte of the name
operators : map modern_tokens (codes "${a:-b}\"${b#%}c\" ${d" ∷ codes "${a+$b}${c?" ∷ codes "${a:\"b\"}" ∷ codes "\"${a-" ∷ codes "${a:/" ∷ codes "${a=" ∷ [])
    ≡ record { tokens = quoted (Var (codes "a:") true ∷ text (codes "-b}") ∷ Mark ∷ Var (codes "b#%") false ∷ text (codes "}c") ∷ []) ∷ []; stop = Some Panics; quoted = false }
    ∷ whole (bare (Var (codes "a+") true ∷ Var (codes "b") true ∷ text (codes "}") ∷ Var (codes "c?") true ∷ []) ∷ [])
    ∷ whole (quoted (Var (codes "a:") true ∷ text (codes "b}") ∷ []) ∷ []) ∷ record { tokens = []; stop = Some Fails; quoted = true }
    ∷ record { tokens = []; stop = Some Unsupported; quoted = false } ∷ record { tokens = []; stop = Some Unsupported; quoted = false } ∷ []
unfolding modern_tokens read read_open
operators = refl

-- assignments
assignments : map modern_tokens (codes "a=b=c 'd'=\"e\" 1=f" ∷ codes "\"a\"=b $c=d \\e=f g\\=h" ∷ [])
    ≡ whole (assigns false (text (codes "a=b=c") ∷ []) ∷ assigns true (text (codes "d=e") ∷ []) ∷ bare (text (codes "1=f") ∷ []) ∷ [])
    ∷ whole (quoted (text (codes "a=b") ∷ []) ∷ bare (Var (codes "c") true ∷ text (codes "=d") ∷ []) ∷ quoted (text (codes "\\e=f") ∷ []) ∷ quoted (text (codes "g\\=h") ∷ []) ∷ []) ∷ []
unfolding modern_tokens read read_open
assignments = refl

-- where the reading stops: the word on the way is no token
stops : map modern_tokens (codes "a b" ∷ codes "a 'b" ∷ codes "a; ${b" ∷ codes "a (b)" ∷ codes "a ${}c" ∷ [])
    ≡ whole (bare (text (codes "a") ∷ []) ∷ bare (text (codes "b") ∷ []) ∷ []) ∷ record { tokens = bare (text (codes "a") ∷ []) ∷ []; stop = Some Fails; quoted = true }
    ∷ record { tokens = bare (text (codes "a") ∷ []) ∷ Semicolon ∷ []; stop = Some Panics; quoted = false } ∷ record { tokens = bare (text (codes "a") ∷ []) ∷ Opening false ∷ []; stop = Some Fails; quoted = false }
    ∷ record { tokens = bare (text (codes "a") ∷ []) ∷ []; stop = Some Fails; quoted = false } ∷ []
unfolding modern_tokens read read_open
stops = refl
