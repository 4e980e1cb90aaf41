-- Words of computed calls, and the names that a list has computed.
use Rattle.std.proofs.Common.{◌≡◌, ℕ, ◌+◌, ◌*◌, ◌%◌, ◌^◌, ◌<◌, true, List, [], ◌∷◌, length, drop, get_or, refl, sym, ap, subst, ◌∙◌, ◌||◌, add-one, drop-cons}
use Rattle.std.proofs.lemmas.Bool.{lt-ltb}
use Rattle.std.proofs.Math.Nat.{mod-add-mod}
use Rattle.text.specs.Numbers.{digit_of}
use Rattle.commands.specs.Hexadecimal.{read_behind}
use Rattle.std.specs.Prelude.{Vec}
use Rattle.std.specs.declared.alloc.Global.{Global}
use Rattle.std.specs.List.{list_any}
use Rattle.std.specs.Str.{bytes_eq}
use Rattle.commands.specs.Verdict.{Text}
use Rattle.commands.specs.Computed.{is_option, forces, behind_options}
use Rattle.commands.specs.TextsShown.{texts}

-- a name among names
pub any_text : (name : Text) (names : List (Vec ℕ Global)) → list_any (λ one. bytes_eq name one.items) names ≡ list_any (bytes_eq name) (texts names)
any_text name [] = refl
any_text name (one ∷ names) = ap (λ b. bytes_eq name one.items || b) (any_text name names)

-- after one more option
pub option_passed : (rest : List Text) (first : Text) (more : List Text) → rest ≡ first ∷ more → is_option first ≡ true → forces first ≡ true → behind_options rest ≡ behind_options more
option_passed rest first more e is force = ap behind_options e ∙ rw (is, force) refl

-- ---- numbers

read_one : (n d b : ℕ) (rest : Text) → d ≡ digit_of b → d < 16 → read_behind ((n * 16 % 2 ^ 64 + d) % 2 ^ 64) rest ≡ read_behind n (b ∷ rest)
read_one n d b rest is small =
    let test = lt-ltb (digit_of b) 16 (let P : ℕ → Type 0 = λ m. m < 16 in subst P is small) in
    ap (λ m. read_behind m rest) (mod-add-mod (n * 16) (2 ^ 64) d ∙ ap (λ m. (n * 16 + m) % 2 ^ 64) is) ∙ sym (rw test refl)

next_digit : (bytes : Text) (i : ℕ) → i < length bytes → drop i bytes ≡ get_or bytes i 0 ∷ drop (i + 1) bytes
next_digit bytes i inside = drop-cons bytes i 0 inside ∙ rw add-one refl

-- one digit more
pub read_next : (bytes : Text) (i n d : ℕ) → i < length bytes → d ≡ digit_of (get_or bytes i 0) → d < 16 → read_behind n (drop i bytes) ≡ read_behind 0 bytes → read_behind ((n * 16 % 2 ^ 64 + d) % 2 ^ 64) (drop (i + 1) bytes) ≡ read_behind 0 bytes
read_next bytes i n d inside is small before =
    read_one n d (get_or bytes i 0) (drop (i + 1) bytes) is small
    ∙ sym (ap (read_behind n) (next_digit bytes i inside))
    ∙ before
