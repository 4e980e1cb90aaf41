-- A redundant pair with other bytes in place of its spare copy.
use Rattle.std.proofs.Common.{◌≡◌, ◌≤◌, ◌<◌, ℕ, ◌+◌, ◌%◌, ◌==◌, Bool, true, false, ◌-◌, List, length, length-take, length-drop, take, eqb-true, drop, Option, None, Some, Ok, refl, sym, ap, subst, ◌∙◌, arith, eq-eqb, inl, inr}
use Rattle.std.specs.Prelude.{slice_index}
use Rattle.std.proofs.lemmas.Bool.{cases_Bool, cases_eq}
use Rattle.std.proofs.lemmas.Bool.Decides.{nat_tests}
use Rattle.std.proofs.lemmas.List.{length-append}
use Rattle.std.specs.List.{AllByRecursion}
use Rattle.envimage.specs.Data.{Pair, IsVariable, data_fault, pairs_of}
use Rattle.envimage.specs.Encoding.{needed, image_of, data_bytes, is_image_size}
use Rattle.envimage.specs.Image.{LoadedShown, load_of, is_right, is_size, is_newer, checked}
use Rattle.envimage.specs.declared.content.DataError.{DataError}
use Rattle.envimage.specs.declared.image.ByteOrder.{ByteOrder}
use Rattle.envimage.specs.declared.image.Which.TheVariants.{First, Second}
use Rattle.envimage.proofs.RoundTrip.{encoded_is_right, data_is_read_back, length-image_of, flag-there}
use Rattle.envtools.specs.Saving.{FrontMayStand, SpareMayBreak, SavedIsLoaded, half_written, spare_of, with_spare, load_pair, size_of, next_flag, copy_to_write, other_copy, saved_image}

-- what loading a pair gives, by the copy that is current
record LoadedFirst (order : ByteOrder) (first second : List ℕ) (s : LoadedShown) : Type 0 where
  size : is_size 6 (length first) ≡ true
  equal : (length first == length second) ≡ true
  right : is_right order 5 first ≡ true
  shown : s ≡ record { which = First; flag = Some (slice_index first 4); order = order; body = drop 5 first }
  sound : data_fault (drop 5 first) ≡ None

record LoadedSecond (order : ByteOrder) (first second : List ℕ) (s : LoadedShown) : Type 0 where
  size : is_size 6 (length first) ≡ true
  equal : (length first == length second) ≡ true
  right : is_right order 5 second ≡ true
  shown : s ≡ record { which = Second; flag = Some (slice_index second 4); order = order; body = drop 5 second }
  sound : data_fault (drop 5 second) ≡ None

data Loading (order : ByteOrder) (first second : List ℕ) (s : LoadedShown) : Type 0 where
  loaded_first : LoadedFirst order first second s → Loading order first second s
  loaded_second : LoadedSecond order first second s → Loading order first second s

checked-ok : (shown s : LoadedShown) (fault : Option DataError) → checked shown fault ≡ Ok s → (fault ≡ None) × (s ≡ shown)
checked-ok shown s None e = (refl, cc)
checked-ok shown s (Some fault) e = cc

module _ (order : ByteOrder) (first second : List ℕ) (s : LoadedShown) where
  by_choice : (size equal : Bool) → is_size 6 (length first) ≡ size → (length first == length second) ≡ equal → (a b n : Bool) → is_right order 5 first ≡ a → is_right order 5 second ≡ b → is_newer (slice_index first 4) (slice_index second 4) ≡ n
      → load_of order first (Some second) ≡ Ok s → Loading order first second s
  by_choice false equal es ee a b n ea eb en h = let bad = rw es at h in cc
  by_choice true false es ee a b n ea eb en h = let bad = rw (es, ee) at h in cc
  by_choice true true es ee true true true ea eb en h =
      let good = rw (es, ee, ea, eb, en) at h in
      let parts = checked-ok _ s (data_fault (drop 5 second)) good in
      loaded_second (record { size = es; equal = ee; right = eb; shown = parts.1; sound = parts.0 })
  by_choice true true es ee true true false ea eb en h =
      let good = rw (es, ee, ea, eb, en) at h in
      let parts = checked-ok _ s (data_fault (drop 5 first)) good in
      loaded_first (record { size = es; equal = ee; right = ea; shown = parts.1; sound = parts.0 })
  by_choice true true es ee true false n ea eb en h =
      let good = rw (es, ee, ea, eb) at h in
      let parts = checked-ok _ s (data_fault (drop 5 first)) good in
      loaded_first (record { size = es; equal = ee; right = ea; shown = parts.1; sound = parts.0 })
  by_choice true true es ee false true n ea eb en h =
      let good = rw (es, ee, ea, eb) at h in
      let parts = checked-ok _ s (data_fault (drop 5 second)) good in
      loaded_second (record { size = es; equal = ee; right = eb; shown = parts.1; sound = parts.0 })
  by_choice true true es ee false false n ea eb en h = let bad = rw (es, ee, ea, eb) at h in cc

  loading : load_of order first (Some second) ≡ Ok s → Loading order first second s
  loading h = by_choice _ _ refl refl _ _ _ refl refl refl h

-- ---- the spare copy is broken

first_kept : (order : ByteOrder) (first bytes : List ℕ) → is_size 6 (length first) ≡ true → (length first == length bytes) ≡ true → is_right order 5 first ≡ true → is_right order 5 bytes ≡ false → data_fault (drop 5 first) ≡ None
    → load_of order first (Some bytes) ≡ Ok (record { which = First; flag = Some (slice_index first 4); order = order; body = drop 5 first })
first_kept order first bytes size equal right broken sound = rw (size, equal, right, broken, sound) refl

second_kept : (order : ByteOrder) (bytes second : List ℕ) → is_size 6 (length bytes) ≡ true → (length bytes == length second) ≡ true → is_right order 5 bytes ≡ false → is_right order 5 second ≡ true → data_fault (drop 5 second) ≡ None
    → load_of order bytes (Some second) ≡ Ok (record { which = Second; flag = Some (slice_index second 4); order = order; body = drop 5 second })
second_kept order bytes second size equal broken right sound = rw (size, equal, broken, right, sound) refl

-- bytes of the size of both copies
equal_first : (first bytes : List ℕ) → length bytes ≡ length first → (length first == length bytes) ≡ true
equal_first first bytes len = eq-eqb (length first) (length bytes) (sym len)

equal_second : (first second bytes : List ℕ) → (length first == length second) ≡ true → length bytes ≡ length first → (length bytes == length second) ≡ true
equal_second first second bytes equal len = ap (λ n. n == length second) len ∙ equal

pub spare_may_break : SpareMayBreak
spare_may_break order first second bytes loaded h len broken =
    let P : LoadedShown → Type 0 = λ s. load_pair order (with_spare s.which first second bytes) ≡ Ok s in
    elim (loading order first second loaded h) [
      | loaded_first p ↦ subst P (sym p.shown) (first_kept order first bytes p.size (equal_first first bytes len) p.right broken p.sound)
      | loaded_second p ↦ subst P (sym p.shown) (second_kept order bytes second (ap (is_size 6) len ∙ p.size) (equal_second first second bytes p.equal len) broken p.right p.sound)
    ]

-- ---- the spare copy is written

next_is_newer : (f : ℕ) → f < 256 → is_newer f ((f + 1) % 256) ≡ true
next_is_newer f h =
    elim (cases_eq f 255) [
      | inl last ↦ rw last refl
      | inr before ↦ let next : (f + 1) % 256 ≡ f + 1 = omega arith in rw next (grind (arith, nat_tests))
    ]

before_is_older : (f : ℕ) → f < 256 → is_newer ((f + 1) % 256) f ≡ false
before_is_older f h =
    elim (cases_eq f 255) [
      | inl last ↦ rw last refl
      | inr before ↦ let next : (f + 1) % 256 ≡ f + 1 = omega arith in rw next (grind (arith, nat_tests))
    ]

second_saved : (order : ByteOrder) (first image body : List ℕ) (flag : ℕ) → is_size 6 (length first) ≡ true → (length first == length image) ≡ true → is_right order 5 first ≡ true → is_right order 5 image ≡ true
    → is_newer (slice_index first 4) (slice_index image 4) ≡ true → slice_index image 4 ≡ flag → drop 5 image ≡ body → data_fault body ≡ None
    → load_of order first (Some image) ≡ Ok (record { which = Second; flag = Some flag; order = order; body = body })
second_saved order first image body flag size equal right saved newer there rest sound = rw (size, equal, right, saved, newer, there, rest, sound) refl

first_saved : (order : ByteOrder) (image second body : List ℕ) (flag : ℕ) → is_size 6 (length image) ≡ true → (length image == length second) ≡ true → is_right order 5 image ≡ true → is_right order 5 second ≡ true
    → is_newer (slice_index image 4) (slice_index second 4) ≡ false → slice_index image 4 ≡ flag → drop 5 image ≡ body → data_fault body ≡ None
    → load_of order image (Some second) ≡ Ok (record { which = First; flag = Some flag; order = order; body = body })
first_saved order image second body flag size equal saved right older there rest sound = rw (size, equal, saved, right, older, there, rest, sound) refl

whole_size : (copy : List ℕ) → is_size 6 (length copy) ≡ true → 5 + length (drop 5 copy) ≡ length copy
whole_size copy size =
    let least : 6 ≤ length copy = grind (arith, nat_tests) in
    omega (arith, least, length-drop 5 copy)

-- what is saved for a copy with this flag
module _ (order : ByteOrder) (flag size : ℕ) (env : List Pair) (all : AllByRecursion IsVariable env) (fits : needed (Some flag) env ≤ size) where
  abbrev saved : List ℕ
  saved = image_of order (Some flag) size env

  abbrev saved_body : List ℕ
  saved_body = data_bytes env (size - needed (Some flag) env)

  saved_second : (first : List ℕ) → length first ≡ size → is_size 6 (length first) ≡ true → is_right order 5 first ≡ true → is_newer (slice_index first 4) flag ≡ true
      → load_of order first (Some saved) ≡ Ok (record { which = Second; flag = Some flag; order = order; body = saved_body })
  saved_second first len in_range right newer =
      let is = encoded_is_right order (Some flag) saved_body in
      let there = flag-there order flag saved_body in
      second_saved order first saved saved_body flag in_range (equal_first first saved (length-image_of order (Some flag) size env fits ∙ sym len)) right is.0
      (ap (λ f. is_newer (slice_index first 4) f) there ∙ newer) there is.1 (data_is_read_back env (size - needed (Some flag) env) all).0

  saved_first : (second : List ℕ) → length second ≡ size → is_size 6 size ≡ true → is_right order 5 second ≡ true → is_newer flag (slice_index second 4) ≡ false
      → load_of order saved (Some second) ≡ Ok (record { which = First; flag = Some flag; order = order; body = saved_body })
  saved_first second len in_range right older =
      let is = encoded_is_right order (Some flag) saved_body in
      let there = flag-there order flag saved_body in
      let whole = length-image_of order (Some flag) size env fits in
      first_saved order saved second saved_body flag (ap (is_size 6) whole ∙ in_range) (eq-eqb (length saved) (length second) (whole ∙ sym len)) is.0 right
      (ap (λ f. is_newer f (slice_index second 4)) there ∙ older) there is.1 (data_is_read_back env (size - needed (Some flag) env) all).0

abbrev Saved : ByteOrder → List ℕ → List ℕ → List Pair → LoadedShown → Type 0
Saved order first second env loaded =
    (body : List ℕ) × (load_pair order (with_spare loaded.which first second (saved_image env loaded))
    ≡ Ok (record { which = copy_to_write loaded; flag = next_flag loaded.flag; order = order; body = body }))
    × (pairs_of body ≡ env)

pub saved_is_loaded : SavedIsLoaded
saved_is_loaded order first second loaded env h f g all fits = by loaded (loading order first second loaded h) fits
  where
    by : (s : LoadedShown) → Loading order first second s → needed (next_flag s.flag) env ≤ size_of s → Saved order first second env s
    by s (loaded_first p) room =
        let flag : ℕ = (slice_index first 4 + 1) % 256 in
        let enough = subst (λ t. needed (next_flag t.flag) env ≤ size_of t) p.shown room in
        let size : ℕ = 5 + length (drop 5 first) in
        subst (Saved order first second env) (sym p.shown) (
          saved_body order flag size env all enough,
          saved_second order flag size env all enough first (sym (whole_size first p.size)) p.size p.right (next_is_newer (slice_index first 4) f),
          (data_is_read_back env (size - needed (Some flag) env) all).1,
        )
    by s (loaded_second p) room =
        let flag : ℕ = (slice_index second 4 + 1) % 256 in
        let enough = subst (λ t. needed (next_flag t.flag) env ≤ size_of t) p.shown room in
        let size : ℕ = 5 + length (drop 5 second) in
        let same : length first ≡ length second = eqb-true (length first) (length second) p.equal in
        let in_range : is_size 6 (length second) ≡ true = ap (is_size 6) (sym same) ∙ p.size in
        let whole : size ≡ length second = whole_size second in_range in
        subst (Saved order first second env) (sym p.shown) (
          saved_body order flag size env all enough,
          saved_first order flag size env all enough second (sym whole) (ap (is_size 6) whole ∙ in_range) p.right (before_is_older (slice_index second 4) g),
          (data_is_read_back env (size - needed (Some flag) env) all).1,
        )

-- ---- the spare copy starts with a prefix of what is saved

length-half_written : (copy bytes : List ℕ) (n : ℕ) → length bytes ≡ length copy → length (half_written copy n bytes) ≡ length copy
length-half_written copy bytes n same =
    omega (arith, same, length-append (take n bytes) (drop n copy), length-take n bytes, length-drop n copy)

-- what is saved has the length of both copies
saved-length : (order : ByteOrder) (first second : List ℕ) (s : LoadedShown) (env : List Pair) → Loading order first second s → needed (next_flag s.flag) env ≤ size_of s
    → (length (saved_image env s) ≡ length first) × (length (spare_of s.which first second) ≡ length first)
saved-length order first second s env (loaded_first p) fits =
    let same : length first ≡ length second = eqb-true (length first) (length second) p.equal in
    let whole : size_of s ≡ length first = ap size_of p.shown ∙ whole_size first p.size in
    (length-image_of s.order (next_flag s.flag) (size_of s) env fits ∙ whole, ap (λ t. length (spare_of t.which first second)) p.shown ∙ sym same)
saved-length order first second s env (loaded_second p) fits =
    let same : length first ≡ length second = eqb-true (length first) (length second) p.equal in
    let in_range : is_size 6 (length second) ≡ true = ap (is_size 6) (sym same) ∙ p.size in
    let whole : size_of s ≡ length second = ap size_of p.shown ∙ whole_size second in_range in
    (length-image_of s.order (next_flag s.flag) (size_of s) env fits ∙ (whole ∙ sym same), ap (λ t. length (spare_of t.which first second)) p.shown)

pub front_may_stand : FrontMayStand
front_may_stand order first second loaded env n h fits =
    let lengths = saved-length order first second loaded env (loading order first second loaded h) fits in
    let spare : List ℕ = half_written (spare_of loaded.which first second) n (saved_image env loaded) in
    let len : length spare ≡ length first =
    length-half_written (spare_of loaded.which first second) (saved_image env loaded) n (lengths.0 ∙ sym lengths.1) ∙ lengths.1 in
    elim (cases_Bool (is_right order 5 spare)) [
      | inl right ↦ inr right
      | inr broken ↦ inl (spare_may_break order first second spare loaded h len broken)
    ]

-- a change of a pair writes the copy that was not loaded
pub spare-is-written : (order : ByteOrder) (first second : List ℕ) (s : LoadedShown) → load_of order first (Some second) ≡ Ok s → copy_to_write s ≡ other_copy s.which
spare-is-written order first second s h =
    let P : LoadedShown → Type 0 = λ t. copy_to_write t ≡ other_copy t.which in
    elim (loading order first second s h) [
      | loaded_first p ↦ subst P (sym p.shown) refl
      | loaded_second p ↦ subst P (sym p.shown) refl
    ]

-- ---- the size of what is loaded

single_size : (first : List ℕ) → is_size 5 (length first) ≡ true → 4 + length (drop 4 first) ≡ length first
single_size first size =
    let least : 5 ≤ length first = grind (arith, nat_tests) in
    omega (arith, least, length-drop 4 first)

single_loaded : (order : ByteOrder) (first : List ℕ) (s : LoadedShown) (size right : Bool) → is_size 5 (length first) ≡ size → is_right order 4 first ≡ right → load_of order first None ≡ Ok s
    → (is_size 5 (length first) ≡ true) × (s ≡ record { which = First; flag = None; order = order; body = drop 4 first })
single_loaded order first s false right es er h = let bad = rw es at h in cc
single_loaded order first s true false es er h = let bad = rw (es, er) at h in cc
single_loaded order first s true true es er h =
    let good = rw (es, er) at h in (es, (checked-ok _ s (data_fault (drop 4 first)) good).1)

-- what is loaded has a size that an image may have
pub loaded-size : (order : ByteOrder) (first : List ℕ) (second : Option (List ℕ)) (s : LoadedShown) → load_of order first second ≡ Ok s → is_image_size s.flag (size_of s) ≡ true
loaded-size order first None s h =
    let is = single_loaded order first s _ _ refl refl h in
    ap (λ t. is_image_size t.flag (size_of t)) is.1 ∙ (ap (is_size 5) (single_size first is.0) ∙ is.0)
loaded-size order first (Some second) s h = by (loading order first second s h)
  where
    by : Loading order first second s → is_image_size s.flag (size_of s) ≡ true
    by (loaded_first p) = ap (λ t. is_image_size t.flag (size_of t)) p.shown ∙ (ap (is_size 6) (whole_size first p.size) ∙ p.size)
    by (loaded_second p) =
        let same : length first ≡ length second = eqb-true (length first) (length second) p.equal in
        let in_range : is_size 6 (length second) ≡ true = ap (is_size 6) (sym same) ∙ p.size in
        ap (λ t. is_image_size t.flag (size_of t)) p.shown ∙ (ap (is_size 6) (whole_size second in_range) ∙ in_range)
