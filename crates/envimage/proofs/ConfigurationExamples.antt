-- Worked examples of configurations, computed, for devices whose names are ASCII.
use Rattle.std.proofs.Common.{◌≡◌, true, [], ◌∷◌, Ok, Err, refl}
use Rattle.std.specs.Prelude.{codes}
use Rattle.envimage.specs.Config.{places, is_text}
use Rattle.envimage.proofs.ConfigLemmas.{is_text-ascii}
use Rattle.envimage.specs.declared.config.ConfigError.TheVariants.{BadLine, BadNumber, NoPlace, SizeOutOfRange, UnequalSizes}

text_a : is_text (codes "a") ≡ true
text_a = is_text-ascii (codes "a") refl

text_b : is_text (codes "b") ≡ true
text_b = is_text-ascii (codes "b") refl

text_e : is_text (codes "e") ≡ true
text_e = is_text-ascii (codes "e") refl

text_mmc : is_text (codes "/dev/mmcblk0") ≡ true
text_mmc = is_text-ascii (codes "/dev/mmcblk0") refl

text_bin : is_text (codes "env.bin") ≡ true
text_bin = is_text-ascii (codes "env.bin") refl

-- a comment, hexadecimal, octal, and words after the third
two_places : places (codes "# device offset size\n/dev/mmcblk0 0x3F8000 0x8000\nenv.bin 010 8000 200 2\n") ≡ Ok (record { device = codes "/dev/mmcblk0"; offset = 4161536; size = 32768 } ∷ record { device = codes "env.bin"; offset = 8; size = 32768 } ∷ [])
two_places = rw (text_mmc, text_bin) refl

short_line : places (codes "e 0") ≡ Err (BadLine 1)
short_line = refl

negative_offset : places (codes "e -1 4000") ≡ Err (BadNumber 1)
negative_offset = rw text_e refl

size_four : places (codes "e 0 4") ≡ Err (SizeOutOfRange 1)
size_four = rw text_e refl

size_five : places (codes "e 0 5") ≡ Ok (record { device = codes "e"; offset = 0; size = 5 } ∷ [])
size_five = rw text_e refl

no_place : places (codes "") ≡ Err NoPlace
no_place = refl

unequal_sizes : places (codes "a 0 10\nb 0 20") ≡ Err UnequalSizes
unequal_sizes = rw (text_a, text_b) refl

pair_of_five : places (codes "a 0 5\nb 0 5") ≡ Err (SizeOutOfRange 1)
pair_of_five = rw (text_a, text_b) refl

greatest_size : places (codes "e 0 100000 zz") ≡ Ok (record { device = codes "e"; offset = 0; size = 1048576 } ∷ [])
greatest_size = rw text_e refl

size_above : places (codes "e 0 100001") ≡ Err (SizeOutOfRange 1)
size_above = rw text_e refl

offset_above : places (codes "e 9223372036854775808 9") ≡ Err (BadNumber 1)
offset_above = rw text_e refl

greatest_offset : places (codes "e 9223372036854775807 9") ≡ Ok (record { device = codes "e"; offset = 9223372036854775807; size = 9 } ∷ [])
greatest_offset = rw text_e refl

second_line_short : places (codes "a 0 4\nb 0") ≡ Err (BadLine 2)
second_line_short = rw text_a refl

third_line_unread : places (codes "a 0 10\nb 0 10\nx") ≡ Ok (record { device = codes "a"; offset = 0; size = 16 } ∷ record { device = codes "b"; offset = 0; size = 16 } ∷ [])
third_line_unread = rw (text_a, text_b) refl

no_digit : places (codes "e 0x 9") ≡ Err (BadNumber 1)
no_digit = rw text_e refl

digit_outside_its_base : places (codes "e 08 9") ≡ Err (BadNumber 1)
digit_outside_its_base = rw text_e refl

-- blanks, carriage returns and lines that are skipped
blanks : places (codes "\n \t\r\n  # x\n\te\t0\t0X9\r\n") ≡ Ok (record { device = codes "e"; offset = 0; size = 9 } ∷ [])
blanks = rw text_e refl
