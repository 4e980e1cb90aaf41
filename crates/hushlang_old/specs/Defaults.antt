-- What is in the braces of a variable, as U-Boot's old shell takes it (U-Boot 2023.01 and 2025.01, common/cli_hush.c, `lookup_param`):
-- the name, and after a `:` what it expands to by its value. `:=` sets the variable too, which is not followed.
use Rattle.std.specs.Prelude.{ℕ, ◌==◌, Bool, true, false, not, List, [], ◌∷◌, take, drop, if◌then◌else◌, Some}
use Rattle.std.specs.List.{prefix_len}
use Rattle.text.specs.Bytes as ascii
use Rattle.hushlang.specs.Expansion.{Parameters, value_of}
use Rattle.hushlang_uboot.specs.ReadBytes.{has_bytes}

abbrev pub is_no_colon : ℕ → Bool
is_no_colon byte = not (byte == ascii.colon)

-- the variable, and what is after its name
unfoldable pub variable_of : (inside : List ℕ) → List ℕ
variable_of inside = take (prefix_len is_no_colon inside) inside

unfoldable pub behind_variable : (inside : List ℕ) → List ℕ
behind_variable inside = drop (prefix_len is_no_colon inside) inside

-- whether there is more than the name
abbrev pub has_more : (inside : List ℕ) → Bool
has_more inside = has_bytes (behind_variable inside)

-- what is in the place of a value: after `:-` it is for a variable that has none, and so it is after `:+`, where a variable with
-- a value expands to nothing, other than in other shells (43 is `+`)
abbrev pub with_default : (value : List ℕ) → (rest : List ℕ) → List ℕ
with_default value (colon ∷ sign ∷ default) =
    if sign == ascii.minus then (if has_bytes value then value else default)
    else (if sign == 43 then (if has_bytes value then [] else default) else value)
with_default value rest = value

abbrev pub found_value : Parameters → (inside : List ℕ) → List ℕ
found_value parameters inside = with_default (value_of parameters (variable_of inside)) (behind_variable inside)

-- the parameters by which words expand
abbrev pub looked_up : Parameters → Parameters
looked_up parameters = record parameters { value = λ inside. Some (found_value parameters inside) }

abbrev pub is_assigned : (rest : List ℕ) → Bool
is_assigned (colon ∷ sign ∷ default) = sign == ascii.equals
is_assigned rest = false

-- whether the variable is set too
abbrev pub sets_variable : (inside : List ℕ) → Bool
sets_variable inside = is_assigned (behind_variable inside)
