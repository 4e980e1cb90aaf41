-- A pair of two equal copies: the first is current, so a change is made of the second.
use Rattle.std.proofs.Common.{◌≡◌, ◌∙◌, ℕ, Bool, true, false, refl, sym, ap, List, Option, Some, None, Ok, Err, arith, length, drop}
use Rattle.std.proofs.lemmas.Bool.Decides.{nat_tests}
use Rattle.std.specs.Prelude.{Result, ◌||◌, ◌==◌, not, if◌then◌else◌, nat_lt, slice_index}
use Rattle.envimage.specs.Data.{Pair, data_fault, pairs_of}
use Rattle.envimage.specs.Encoding.{needed}
use Rattle.envimage.specs.Image.{checked, chosen_of, copy_shown, current, is_newer, is_right, is_size, loaded_shown_of, or_bad_crc, then_checked}
use Rattle.envimage.specs.declared.content.DataError.{DataError}
use Rattle.envimage.specs.declared.image.ByteOrder.{ByteOrder}
use Rattle.envimage.specs.declared.image.ImageError.{ImageError}
use Rattle.envimage.specs.declared.image.ImageError.TheVariants.{TooLarge, WrongSize}
use Rattle.envimage.specs.declared.image.Which.{Which}
use Rattle.envimage.specs.declared.image.Which.TheVariants.{First, Second}
use Rattle.envtools.specs.Environment.{env_of}
use Rattle.envtools.specs.Saving.{next_flag, saved_image, size_of}
use Rattle.tool_images.specs.ChangingImages.{edited, set_of, then_edited, then_written}
use Rattle.tool_images.specs.declared.change.Edit.{Edit}
use Rattle.tool_images.specs.declared.error.ToolError.{ToolError}
use Rattle.tool_images.specs.declared.error.ToolError.TheVariants.{Image}

-- no copy is newer than itself
never-newer : (flag : ℕ) → is_newer flag flag ≡ false
never-newer flag = grind (arith, nat_tests)

equal-right : (order : ByteOrder) (copy : List ℕ) (right : Bool) → is_right order 5 copy ≡ right → current order copy copy ≡ (if right then Some First else None)
equal-right order copy true is = rw (is, never-newer (slice_index copy 4)) refl
equal-right order copy false is = rw is refl

never-second : (right : Bool) → (if right then Some First else None) ≡ Some Second → ⊥
never-second true is = cc
never-second false is = cc

then-first : (wrong : Bool) (which : Option Which) → (which ≡ Some Second → ⊥) → (if wrong then Err WrongSize else or_bad_crc which) ≡ Ok Second → ⊥
then-first true which never is = cc
then-first false None never is = cc
then-first false (Some First) never is = cc
then-first false (Some Second) never is = never refl

-- the second of two equal copies is not current
never-current : (order : ByteOrder) (copy : List ℕ) → chosen_of order copy (Some copy) ≡ Ok Second → ⊥
never-current order copy =
    then-first (not (is_size 6 (length copy)) || not (length copy == length copy)) (current order copy copy)
    (λ is. never-second (is_right order 5 copy) (sym (equal-right order copy (is_right order 5 copy) refl) ∙ is))

-- the copy that is written of a pair whose first copy is current
abbrev unless : Bool → ToolError → Which × List ℕ → Result (Which × List ℕ) ToolError
unless large error w = if large then Err error else Ok w

if-written : (large : Bool) (error : ToolError) (w : Which × List ℕ) (which : Which) (bytes : List ℕ) → unless large error w ≡ Ok (which, bytes) → w.0 ≡ which
if-written true error w which bytes is = cc
if-written false error w which bytes is = let same : w ≡ (which, bytes) = cc in ap (λ (w : Which × List ℕ). w.0) same

first-written : (order : ByteOrder) (copy : List ℕ) (answer : Result (List Pair) ToolError) (which : Which) (bytes : List ℕ) → then_written (copy_shown order First copy) answer ≡ Ok (which, bytes)
    → which ≡ Second
first-written order copy (Err error) which bytes is = cc
first-written order copy (Ok env) which bytes is =
    let shown = copy_shown order First copy in
    sym (if-written (nat_lt (size_of shown) (needed (next_flag shown.flag) env)) (Image TooLarge) (Second, saved_image env shown) which bytes is)

first-checked : (order : ByteOrder) (copy : List ℕ) (edit : Edit) (fault : Option DataError) (which : Which) (bytes : List ℕ)
    → then_edited edit (checked (copy_shown order First copy) fault) ≡ Ok (which, bytes) → which ≡ Second
first-checked order copy edit (Some fault) which bytes is = cc
first-checked order copy edit None which bytes is = first-written order copy (edited (env_of (pairs_of (drop 5 copy))) edit) which bytes is

first-chosen : (order : ByteOrder) (copy : List ℕ) (edit : Edit) (chosen : Result Which ImageError) (which : Which) (bytes : List ℕ) → (chosen ≡ Ok Second → ⊥)
    → then_edited edit (then_checked chosen (loaded_shown_of order copy (Some copy))) ≡ Ok (which, bytes) → which ≡ Second
first-chosen order copy edit (Err error) which bytes never is = cc
first-chosen order copy edit (Ok First) which bytes never is = first-checked order copy edit (data_fault (drop 5 copy)) which bytes is
first-chosen order copy edit (Ok Second) which bytes never is = absurd (never refl)

-- a change of two equal copies is made of the second
pub equal-second : (order : ByteOrder) (copy : List ℕ) (edit : Edit) (which : Which) (bytes : List ℕ) → set_of order copy (Some copy) edit ≡ Ok (which, bytes) → which ≡ Second
equal-second order copy edit which bytes is = first-chosen order copy edit (chosen_of order copy (Some copy)) which bytes (never-current order copy) is
