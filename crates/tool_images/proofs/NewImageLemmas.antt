-- A new image has its size, and is read back.
use Rattle.std.proofs.Common.{◌≡◌, ◌∙◌, ◌+◌, ◌-◌, ◌≤◌, ℕ, Bool, true, false, refl, sym, ap, List, ◌∷◌, drop, length, length-append, replicate, Option, None, Some, Ok, arith, eq-eqb}
use Rattle.std.specs.Prelude.{◌==◌, slice_index}
use Rattle.std.specs.List.{flat_map, AllByRecursion}
use Rattle.std.proofs.lemmas.Bool.Decides.{nat_tests}
use Rattle.std.proofs.lemmas.List.{length-replicate}
use Rattle.envimage.proofs.LawLemmas.{data_is_computed}
use Rattle.envimage.proofs.RoundTrip.{encoded_is_right, flag-there}
use Rattle.envimage.specs.Crc.{crc}
use Rattle.envimage.specs.Data.{IsData, IsVariable, Pair, data_fault, entry, pairs_of}
use Rattle.envimage.specs.Encoding.{header_len, needed, with_header}
use Rattle.envimage.specs.Image.{LoadedShown, is_newer, is_right, is_size, load_of, stored_bytes}
use Rattle.envimage.specs.declared.image.ByteOrder.{ByteOrder}
use Rattle.envimage.specs.declared.image.ByteOrder.TheVariants.{Little, Big}
use Rattle.envimage.specs.declared.image.Which.TheVariants.{First}
use Rattle.envtools.proofs.ListLemmas.{env_of-distinct}
use Rattle.envtools.specs.Environment.{IsEnvironment, env_of}
use Rattle.tool_images.proofs.ImageLemmas.{image-env}
use Rattle.tool_images.specs.NewImages.{IsImageOfText, beside, data_of, flag_of, image_of, is_size_of, needed_of}
use Rattle.tool_images.specs.PrintingImages.{environment_in}
use Rattle.tool_images.specs.TextImages.{HasText}
use Rattle.tool_images.specs.declared.new_image.Layout.{Layout}

-- ---- its size

length-stored : (order : ByteOrder) (n : ℕ) → length (stored_bytes order n) ≡ 4
length-stored Little n = refl
length-stored Big n = refl

length-headed : (order : ByteOrder) (flag : Option ℕ) (body : List ℕ) → length (with_header order flag body) ≡ header_len flag + length body
length-headed order None body = length-append (stored_bytes order (crc body)) body ∙ ap (λ n. n + length body) (length-stored order (crc body))
length-headed order (Some flag) body =
    length-append (stored_bytes order (crc body)) (flag ∷ body) ∙ omega (arith, length-stored order (crc body))

length-data : (pairs : List Pair) (filling fill : ℕ) → length (data_of pairs filling fill) ≡ length (flat_map entry pairs) + (1 + filling)
length-data pairs filling fill = length-append (flat_map entry pairs) (0 ∷ replicate filling fill) ∙ omega (arith, length-replicate {A = ℕ} filling fill)

length-filled : (order : ByteOrder) (flag : Option ℕ) (size fill : ℕ) (pairs : List Pair) → needed flag pairs ≤ size
    → length (with_header order flag (data_of pairs (size - needed flag pairs) fill)) ≡ size
length-filled order flag size fill pairs fits =
    omega (arith, fits, length-headed order flag (data_of pairs (size - needed flag pairs) fill), length-data pairs (size - needed flag pairs) fill)

-- ---- what it is read as

-- its data, however they are filled
filled-data : (pairs : List Pair) (filling fill : ℕ) → AllByRecursion IsVariable pairs → (data_fault (data_of pairs filling fill) ≡ None) × (pairs_of (data_of pairs filling fill) ≡ pairs)
filled-data pairs filling fill all =
    let d : IsData (data_of pairs filling fill) pairs = record { filling = replicate filling fill; whole = refl; each = all } in
    data_is_computed (data_of pairs filling fill) pairs d

never-newer : (a : ℕ) → is_newer a a ≡ false
never-newer a = grind (arith, nat_tests)

loads-alone : (order : ByteOrder) (image body : List ℕ) → is_size 5 (length image) ≡ true → is_right order 4 image ≡ true → drop 4 image ≡ body → data_fault body ≡ None
    → load_of order image None ≡ Ok (record { which = First; flag = None; order = order; body = body })
loads-alone order image body size right rest sound = rw (size, right, rest, sound) refl

loads-twice : (order : ByteOrder) (flag : ℕ) (image body : List ℕ) → is_size 6 (length image) ≡ true → is_right order 5 image ≡ true → slice_index image 4 ≡ flag → drop 5 image ≡ body → data_fault body ≡ None
    → load_of order image (Some image) ≡ Ok (record { which = First; flag = Some flag; order = order; body = body })
loads-twice order flag image body size right there rest sound =
    let same : (length image == length image) ≡ true = eq-eqb (length image) (length image) refl in
    rw (size, same, right, never-newer (slice_index image 4), there, rest, sound) refl

-- the environment of data that are loaded
found : (order : ByteOrder) (first : List ℕ) (second : Option (List ℕ)) (s : LoadedShown) (env : List Pair) → load_of order first second ≡ Ok s → pairs_of s.body ≡ env → env_of env ≡ env
    → environment_in order first second ≡ Ok env
found order first second s env loaded pairs same = image-env order first second s env loaded (sym (ap env_of pairs ∙ same))

back : (redundant : Bool) (order : ByteOrder) (size fill : ℕ) (env : List Pair) → IsEnvironment env → is_size (header_len (flag_of redundant) + 1) size ≡ true
    → needed (flag_of redundant) env ≤ size
    → environment_in order (with_header order (flag_of redundant) (data_of env (size - needed (flag_of redundant) env) fill))
    (beside redundant (with_header order (flag_of redundant) (data_of env (size - needed (flag_of redundant) env) fill)))
    ≡ Ok env
back false order size fill env is in_range fits =
    let body : List ℕ = data_of env (size - needed None env) fill in
    let image : List ℕ = with_header order None body in
    let right = encoded_is_right order None body in
    let read = filled-data env (size - needed None env) fill is.each in
    let len : length image ≡ size = length-filled order None size fill env fits in
    found order image None _ env (loads-alone order image body (ap (is_size 5) len ∙ in_range) right.0 right.1 read.0) read.1 (env_of-distinct env is.distinct)
back true order size fill env is in_range fits =
    let body : List ℕ = data_of env (size - needed (Some 1) env) fill in
    let image : List ℕ = with_header order (Some 1) body in
    let right = encoded_is_right order (Some 1) body in
    let read = filled-data env (size - needed (Some 1) env) fill is.each in
    let len : length image ≡ size = length-filled order (Some 1) size fill env fits in
    found order image (Some image) _ env (loads-twice order 1 image body (ap (is_size 6) len ∙ in_range) right.0 (flag-there order 1 body) right.1 read.0) read.1 (env_of-distinct env is.distinct)

sized : (redundant : Bool) (size : ℕ) (layout : Layout) → layout.redundant ≡ redundant → layout.size ≡ size → is_size_of layout ≡ true → is_size (header_len (flag_of redundant) + 1) size ≡ true
sized false size layout flag same is = rw (flag, same) at is
sized true size layout flag same is = rw (flag, same) at is

-- the image of a text's environment
pub of-text : (layout : Layout) (text bytes : List ℕ) (env : List Pair) → IsEnvironment env → HasText text env → is_size_of layout ≡ true → needed_of layout env ≤ layout.size
    → bytes ≡ image_of layout env → IsImageOfText layout text bytes
of-text layout text bytes env is text_is size fits are = record {
  env = env;
  of_text = text_is;
  fits = fits;
  are = are;
  size = ap length are ∙ length-filled layout.order (flag_of layout.redundant) layout.size layout.fill env fits;
  back = rw are (back layout.redundant layout.order layout.size layout.fill env is (sized layout.redundant layout.size layout refl refl size) fits);
}
