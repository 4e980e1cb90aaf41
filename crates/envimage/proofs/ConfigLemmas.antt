-- Text and lines of a configuration.
use Rattle.std.proofs.Common.{◌≡◌, ◌<◌, ℕ, zero, suc, nat_lt, true, false, List, [], ◌∷◌, length, Ok, Err, ap, ◌∙◌, arith, eq-eqb}
use Rattle.std.proofs.lemmas.Bool.{ltb-true, and_parts}
use Rattle.std.proofs.lemmas.Bool.Decides.{nat_tests}
use Rattle.std.proofs.lemmas.Str.{utf8_valid_len-IsUtf8, IsUtf8-from_ascii}
use Rattle.std.specs.Prelude.{IsUtf8, slice_index}
use Rattle.std.specs.List.{list_all}
use Rattle.std.specs.Str.Lossy.{utf8_valid_len}
use Rattle.envimage.specs.Config.{PlaceShown, is_text, places, places_among, place_lines, place_of, single, pair}
use Rattle.text.specs.Words.{words_of}
use Rattle.envimage.specs.declared.config.ConfigError.{ConfigError}
use Rattle.envimage.specs.declared.config.ConfigError.TheVariants.{NoPlace}

pub is_text-utf8 : (bytes : List ℕ) → IsUtf8 bytes → is_text bytes ≡ true
is_text-utf8 bytes h = eq-eqb (utf8_valid_len bytes) (length bytes) (utf8_valid_len-IsUtf8 bytes h)

pub is_text-not : (bytes : List ℕ) (n : ℕ) → n ≡ utf8_valid_len bytes → n < length bytes → is_text bytes ≡ false
is_text-not bytes n e h = grind (arith, nat_tests)

ascii : (bytes : List ℕ) → list_all (λ b. nat_lt b 128) bytes ≡ true → (i : ℕ) → slice_index bytes i < 128
ascii [] e i = omega arith
ascii (b ∷ bs) e zero = ltb-true b 128 (and_parts (nat_lt b 128) (list_all (λ b. nat_lt b 128) bs) e).0
ascii (b ∷ bs) e (suc i) = ascii bs (and_parts (nat_lt b 128) (list_all (λ b. nat_lt b 128) bs) e).1 i

-- ASCII is text
pub is_text-ascii : (bytes : List ℕ) → list_all (λ b. nat_lt b 128) bytes ≡ true → is_text bytes ≡ true
is_text-ascii bytes e = is_text-utf8 bytes (IsUtf8-from_ascii bytes (ascii bytes e))

pub ruleset texts = (is_text-utf8, is_text-not)

-- ---- the first and the second place line

pub places-none : (text : List ℕ) → place_lines text ≡ [] → places text ≡ Err NoPlace
places-none text e = ap places_among e

bad_first : (number : ℕ) (line : List ℕ) (more : List (ℕ × List ℕ)) (fault : ConfigError) → place_of number (words_of line) ≡ Err fault → places_among ((number, line) ∷ more) ≡ Err fault
bad_first number line [] fault bad = ap (single number) bad
bad_first number line (m ∷ more) fault bad = ap (λ p. pair number m.0 p (place_of m.0 (words_of m.1))) bad

pub places-bad_first : (text : List ℕ) (number : ℕ) (line : List ℕ) (more : List (ℕ × List ℕ)) (fault : ConfigError)
    → place_lines text ≡ (number, line) ∷ more → place_of number (words_of line) ≡ Err fault → places text ≡ Err fault
places-bad_first text number line more fault e bad = ap places_among e ∙ bad_first number line more fault bad

pub places-single : (text : List ℕ) (number : ℕ) (line : List ℕ) (more : List (ℕ × List ℕ)) (p : PlaceShown)
    → place_lines text ≡ (number, line) ∷ more → more ≡ [] → place_of number (words_of line) ≡ Ok p → places text ≡ single number (Ok p)
places-single text number line more p e none good =
    ap places_among e ∙ (ap (λ rest. places_among ((number, line) ∷ rest)) none ∙ ap (single number) good)

-- two place lines
two_lines : (text : List ℕ) (number : ℕ) (line : List ℕ) (more : List (ℕ × List ℕ)) (p : PlaceShown) (second : ℕ) (next : List ℕ) (others : List (ℕ × List ℕ))
    → place_lines text ≡ (number, line) ∷ more → place_of number (words_of line) ≡ Ok p → more ≡ (second, next) ∷ others → places text ≡ pair number second (Ok p) (place_of second (words_of next))
two_lines text number line more p second next others e good f =
    ap places_among e ∙ (ap (λ rest. places_among ((number, line) ∷ rest)) f ∙ ap (λ q. pair number second q (place_of second (words_of next))) good)

pub places-bad_second : (text : List ℕ) (number : ℕ) (line : List ℕ) (more : List (ℕ × List ℕ)) (p : PlaceShown) (second : ℕ) (next : List ℕ) (others : List (ℕ × List ℕ)) (fault : ConfigError)
    → place_lines text ≡ (number, line) ∷ more → place_of number (words_of line) ≡ Ok p → more ≡ (second, next) ∷ others → place_of second (words_of next) ≡ Err fault → places text ≡ Err fault
places-bad_second text number line more p second next others fault e good f bad =
    two_lines text number line more p second next others e good f ∙ ap (pair number second (Ok p)) bad

pub places-pair : (text : List ℕ) (number : ℕ) (line : List ℕ) (more : List (ℕ × List ℕ)) (p : PlaceShown) (second : ℕ) (next : List ℕ) (others : List (ℕ × List ℕ)) (q : PlaceShown)
    → place_lines text ≡ (number, line) ∷ more → place_of number (words_of line) ≡ Ok p → more ≡ (second, next) ∷ others → place_of second (words_of next) ≡ Ok q → places text ≡ pair number second (Ok p) (Ok q)
places-pair text number line more p second next others q e good f fine =
    two_lines text number line more p second next others e good f ∙ ap (pair number second (Ok p)) fine

pub ruleset lists = (places-none, places-bad_first, places-single, places-bad_second, places-pair)
