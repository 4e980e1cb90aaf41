-- What `exit` and its words say in U-Boot 2023.01 and 2025.01 (cmd/exit.c, `do_exit`, and cmd_process of common/command.c). More
-- than one word is an error of usage, with status 1, which ends nothing.
use Rattle.std.specs.Prelude.{ℕ, ◌%◌, ◌^◌, ◌==◌, ◌&&◌, ◌||◌, nat_le, nat_lt, Bool, true, List, [], ◌∷◌, if◌then◌else◌, Option, Some, None, is_some, unwrap_or}
use Rattle.text.specs.Bytes as ascii
use Rattle.commands.specs.Hexadecimal.{in_word}
use Rattle.commands.specs.Verdict.{Text, begins_hexadecimal, behind_first, read_in}

-- the number at the start of a word (lib/strto.c, `simple_strtoul`): hexadecimal after `0x`, else decimal
abbrev pub leading_number : Text → ℕ
leading_number [] = 0
leading_number (b ∷ bytes) =
    if b == ascii.digit_zero && begins_hexadecimal bytes then read_in 16 (behind_first bytes)
    else read_in 10 (b ∷ bytes)

-- ---- 2023.01: a command with a status, which ends nothing

-- 0 without a word, else whether the number of the word is 0 in 32 bits
abbrev pub uboot_exit_status : List Text → ℕ
uboot_exit_status [] = 0
uboot_exit_status (word ∷ []) = if in_word (leading_number word) % 2 ^ 32 == 0 then 0 else 1
uboot_exit_status (word ∷ v ∷ ws) = 1

-- ---- 2025.01: for the number n `do_exit` returns -n-2, which the old shell takes for an end with status n (`run_list_real`)

-- whether -n-2 is a number of 32 bits
abbrev pub ends_text : Text → Bool
ends_text word = nat_lt (in_word (leading_number word)) 2147483647

-- the status that a word names, if it is at most 255: a larger one is no status here
abbrev pub status_named : Text → Option ℕ
status_named word = let number = in_word (leading_number word) in if nat_le number 255 then Some number else None

-- the status with which the text ends, if it ends
abbrev pub newer_exit : List Text → Option ℕ
newer_exit [] = Some 0
newer_exit (word ∷ []) = status_named word
newer_exit (word ∷ v ∷ ws) = None

-- the status of an `exit` that does not end the text
abbrev pub newer_exit_status : List Text → ℕ
newer_exit_status words = unwrap_or (newer_exit words) 1

-- whether -n-2 is -1 as a number of 32 bits, by which a command prints its usage: it ends nothing then, and its status is 1
abbrev pub tells_usage : Text → Bool
tells_usage word = in_word (leading_number word) % 2 ^ 32 == 4294967295

-- whether the words are followed
abbrev pub follows_exit : List Text → Bool
follows_exit [] = true
follows_exit (word ∷ []) = is_some (status_named word) || tells_usage word
follows_exit (word ∷ v ∷ ws) = true
