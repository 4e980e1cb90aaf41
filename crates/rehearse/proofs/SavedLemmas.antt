-- After a call that saves, the copies of the variables that are asked for are of what is there.
use Rattle.std.proofs.Common.{◌≡◌, ◌∙◌, refl, sym, ap, subst, Bool, true, false, cond, List, [], ◌∷◌, ◌++◌, append_assoc, map, drop, Option, Some, None}
use Rattle.std.specs.FinMap.{nat_cmp-IsAntisymmetric, slice_cmp-IsAntisymmetric}
use Rattle.std.specs.FinMap.Entries.{find-put}
use Rattle.std.specs.declared.cmp.Ordering.{Ordering}
use Rattle.std.specs.declared.cmp.Ordering.TheVariants.{Less, Equal, Greater}
use Rattle.std.specs.Ordering.{nat_cmp, eq_by_cmp, is_eq}
use Rattle.std.specs.Cmp.{tied_itself}
use Rattle.std.specs.Cmp.Lexicographic.{slice_cmp}
use Rattle.std.specs.List.{AllByRecursion}
use Rattle.std.proofs.lemmas.Cmp.{nat_list_cmp_total}
use Rattle.device_list.specs.Called.{NewValue, variable_of, value_of, set_in, sets_in}
use Rattle.device_list.specs.DeviceList.{Setting}
use Rattle.device_list.specs.Saving.{are_saving, copies_for, copying, copy_of, saved_name, saved_of}
use Rattle.rehearse_terms.specs.State.{Text, Variables, get, with_value}
use Rattle.rehearse_rules.specs.Execution.{with_all}
use Rattle.rehearse.specs.SavedCopies.{CopiesAreRight, SavesWhatIsThere}

abbrev by_bytes : Text → Text → Ordering
by_bytes = slice_cmp nat_cmp

equal : (o : Ordering) → is_eq o ≡ true → o ≡ Equal
equal Less e = absurd (let f = e in cc)
equal Equal e = refl
equal Greater e = absurd (let f = e in cc)

exact : (one other : Text) → eq_by_cmp by_bytes one other ≡ true → one ≡ other
exact one other e = slice_cmp-IsAntisymmetric nat_cmp-IsAntisymmetric one other (equal (by_bytes one other) e)

get-put : (variables : Variables) (name value q : Text) → get (with_value variables name value) q ≡ cond (eq_by_cmp by_bytes q name) (Some value) (get variables q)
get-put variables name value q = find-put by_bytes nat_list_cmp_total q name value variables

-- a variable is no copy
differs : (q name : Text) → saved_of q ≡ None → eq_by_cmp by_bytes q (saved_name name) ≡ false
differs q name plain = by (eq_by_cmp by_bytes q (saved_name name)) refl
  where
    by : (b : Bool) → eq_by_cmp by_bytes q (saved_name name) ≡ b → b ≡ false
    by true e = let f : None ≡ Some name = sym plain ∙ ap saved_of (exact q (saved_name name) e) in absurd (cc)
    by false e = refl

same_name : (one other : Text) → eq_by_cmp by_bytes (saved_name one) (saved_name other) ≡ true → one ≡ other
same_name one other e = ap (drop 1) (exact (saved_name one) (saved_name other) e)

-- ---- copies alone

abbrev pub copies : List Text → Variables → Variables
copies [] environment = environment
copies (name ∷ names) environment = copies names (with_value environment (saved_name name) (copy_of (get environment name)))

copies_so : (words names : List Text) (environment : Variables) → with_all (sets_in words (map copying names)) environment ≡ copies names environment
copies_so words [] environment = refl
copies_so words (name ∷ names) environment = copies_so words names (with_value environment (saved_name name) (copy_of (get environment name)))

-- the variables are as before
one_kept : (environment : Variables) (name value q : Text) → saved_of q ≡ None → get (with_value environment (saved_name name) value) q ≡ get environment q
one_kept environment name value q plain =
    get-put environment (saved_name name) value q ∙ ap (λ b. cond b (Some value) (get environment q)) (differs q name plain)

kept : (names : List Text) (environment : Variables) (q : Text) → saved_of q ≡ None → get (copies names environment) q ≡ get environment q
kept [] environment q plain = refl
kept (name ∷ names) environment q plain =
    let value : Text = copy_of (get environment name) in
    kept names (with_value environment (saved_name name) value) q plain ∙ one_kept environment name value q plain

-- a copy that is right stays right
stays : (names : List Text) (environment : Variables) (q : Text) → saved_of q ≡ None → get environment (saved_name q) ≡ Some (copy_of (get environment q))
    → get (copies names environment) (saved_name q) ≡ Some (copy_of (get environment q))
stays [] environment q plain there = there
stays (name ∷ names) environment q plain there =
    let value : Text = copy_of (get environment name) in
    let next : Variables = with_value environment (saved_name name) value in
    let same : get next q ≡ get environment q = one_kept environment name value q plain in
    stays names next q plain (get-put environment (saved_name name) value (saved_name q) ∙ by (eq_by_cmp by_bytes (saved_name q) (saved_name name)) refl ∙ ap (λ o. Some (copy_of o)) (sym same))
    ∙ ap (λ o. Some (copy_of o)) same
  where
    by : (b : Bool) → eq_by_cmp by_bytes (saved_name q) (saved_name name) ≡ b → cond b (Some (copy_of (get environment name))) (get environment (saved_name q)) ≡ Some (copy_of (get environment q))
    by true e = ap (λ n. Some (copy_of (get environment n))) (sym (same_name q name e))
    by false e = there

itself : (name : Text) → eq_by_cmp by_bytes name name ≡ true
itself name = ap is_eq (tied_itself nat_list_cmp_total name)

all_right : (names : List Text) (environment : Variables) → AllByRecursion (λ name. saved_of name ≡ None) names
    → AllByRecursion (λ name. get (copies names environment) (saved_name name) ≡ Some (copy_of (get (copies names environment) name))) names
all_right [] environment plain = tt
all_right (name ∷ names) environment plain =
    let value : Text = copy_of (get environment name) in
    let next : Variables = with_value environment (saved_name name) value in
    let same : get next name ≡ get environment name = one_kept environment name value name plain.0 in
    let there : get next (saved_name name) ≡ Some value =
    get-put environment (saved_name name) value (saved_name name) ∙ ap (λ b. cond b (Some value) (get environment (saved_name name))) (itself (saved_name name)) in (
      stays names next name plain.0 (there ∙ ap (λ o. Some (copy_of o)) (sym same))
          ∙ ap (λ o. Some (copy_of o)) (sym (kept names next name plain.0)),
      all_right names next plain.1,
    )

-- ---- after other settings

sets_joined : (words : List Text) (one other : List Setting) → sets_in words (one ++ other) ≡ sets_in words one ++ sets_in words other
sets_joined words [] other = refl
sets_joined words (set ∷ one) other =
    let here : List (Text × NewValue) = set_in (variable_of set.0 words) (value_of set.1 words) in
    ap (λ rest. here ++ rest) (sets_joined words one other) ∙ sym (append_assoc here (sets_in words one) (sets_in words other))

with_joined : (one other : List (Text × NewValue)) (environment : Variables) → with_all (one ++ other) environment ≡ with_all other (with_all one environment)
with_joined [] other environment = refl
with_joined (e ∷ one) other environment = with_joined one other _

pub saves_what_is_there : SavesWhatIsThere
saves_what_is_there names words sets environment plain saving =
    let before : Variables = with_all (sets_in words sets) environment in
    let asked : copies_for names sets ≡ map copying names = ap (λ b. cond b (map copying names) []) saving in
    let so : with_all (sets_in words (sets ++ copies_for names sets)) environment ≡ copies names before =
    ap (λ more. with_all (sets_in words (sets ++ more)) environment) asked
    ∙ ap (λ all. with_all all environment) (sets_joined words sets (map copying names))
    ∙ with_joined (sets_in words sets) (sets_in words (map copying names)) environment
    ∙ copies_so words names before in
    subst (CopiesAreRight names) (sym so) (all_right names before plain)
