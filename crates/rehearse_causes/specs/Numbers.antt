-- The numbers under which causes are kept: what can cover a cause has the number of a part of what fails in it. Ours.
use Rattle.std.specs.Prelude.{ℕ, ◌+◌, ◌*◌, ◌/◌, ◌%◌, ◌^◌, bit_xor, List, [], ◌∷◌, fold}
use Rattle.std.specs.List.{flat_map}
use Rattle.rehearse_terms.specs.State.{Text}
use Rattle.rehearse_causes.specs.Causes.{Cause, calls}

-- one more byte
abbrev pub mixed : (hash byte : ℕ) → ℕ
mixed hash byte = (bit_xor hash (hash / 2 ^ 32) * 0xff51afd7ed558ccd % 2 ^ 64 + byte) % 2 ^ 64

-- one more word, with a space before it
abbrev pub with_word : (hash : ℕ) → Text → ℕ
with_word hash word = fold mixed (mixed hash 32) word

-- of a command; two more steps, so that commands with other ends have numbers far apart
abbrev pub command_number : List Text → ℕ
command_number command = mixed (mixed (fold with_word 0 command) 0) 0

-- with the number of one more
abbrev pub with_number : (sum number : ℕ) → ℕ
with_number sum number = (sum + number) % 2 ^ 64

-- with one more command that fails
abbrev pub with_fail : (sum : ℕ) → List Text → ℕ
with_fail sum command = with_number sum (command_number command)

-- of all these, whatever their order
abbrev pub fails_number : List (List Text) → ℕ
fails_number fails = fold with_fail 0 fails

abbrev pub cause_number : Cause → ℕ
cause_number c = fails_number (calls c)

-- each without the number of one more and with it
abbrev pub each_with : (sums : List ℕ) → (number : ℕ) → List ℕ
each_with sums number = flat_map (λ sum. sum ∷ with_number sum number ∷ []) sums

-- without one more command that fails and with it
abbrev pub each_fail : (sums : List ℕ) → List Text → List ℕ
each_fail sums command = each_with sums (command_number command)

-- of each part of these
abbrev pub part_numbers : List (List Text) → List ℕ
part_numbers fails = fold each_fail (0 ∷ []) fails
