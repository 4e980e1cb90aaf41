-- Device lists in their plain form, which has only names: one name on each line. Ours.
use Rattle.std.specs.Prelude.{◌≡◌, ℕ, ◌==◌, ◌||◌, false, List, [], ◌∷◌, ◌++◌, map, Result, Ok, Err, if◌then◌else◌}
use Rattle.std.specs.List.{list_any}
use Rattle.std.specs.Str.{bytes_eq}
use Rattle.text.specs.Bytes as ascii
use Rattle.text.specs.Lines.{numbered_lines}
use Rattle.text.specs.Words.{is_space, trimmed}
use Rattle.text.specs.Lines.{Text}
use Rattle.builtins.specs.Builtins.{is_built_in}
use Rattle.device_list.specs.DeviceList.{only, is_marked, listed}
use Rattle.device_list.specs.DeviceLaws.{quiet}
use Rattle.device_list.specs.declared.devices_error.DevicesError.{DevicesError}
use Rattle.device_list.specs.declared.devices_error.DevicesError.TheVariants.{BadLine, BuiltIn}

-- a name that is listed twice counts once
abbrev pub with_name : List Text → Text → List Text
with_name names name = if list_any (bytes_eq name) names then names else names ++ name ∷ []

-- The names after one more line, without the blanks around it, or the fault of the line. An empty line and a comment,
-- which starts with `#`, say nothing. Any other line is one word without a NUL that names no built-in command.
abbrev pub plain_line : List Text → ℕ → Text → Result (List Text) DevicesError
plain_line names number [] = Ok names
plain_line names number (b ∷ bytes) =
    if b == ascii.hash then Ok names
    else (if list_any (λ c. is_space c || c == ascii.nul) (b ∷ bytes) then Err (BadLine number)
    else (if is_built_in (b ∷ bytes) then Err (BuiltIn number) else Ok (with_name names (b ∷ bytes))))

-- the lines one after another, up to the first faulty one
abbrev pub plain_lines : List Text → List (ℕ × Text) → Result (List Text) DevicesError
plain_lines names [] = Ok names
plain_lines names (l ∷ lines) =
    elim (plain_line names l.0 (trimmed l.1)) [
      | Ok next ↦ plain_lines next lines
      | Err fault ↦ Err fault
    ]

-- the names of a list in the plain form, or its first fault
abbrev pub plain_names : Text → Result (List Text) DevicesError
plain_names text = plain_lines [] (numbered_lines text)

-- Every list that the plain form accepts is accepted if it starts with no byte order mark, with the same names; none is
-- final, and none sets a variable.
abbrev pub PlainListsStand : Type 0
PlainListsStand = (text : Text) (names : List Text) → is_marked text ≡ false → plain_names text ≡ Ok names →
    listed text ≡ Ok (only (map (λ name. (name, quiet)) names))
