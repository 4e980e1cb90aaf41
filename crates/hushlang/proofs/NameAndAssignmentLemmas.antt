-- What is read of a word so far, and what is left.
use Rattle.std.proofs.Common.{◌≡◌, ℕ, suc, ◌+◌, length, ◌<◌, get_or, arith, Bool, true, false, if◌then◌else◌, ◌&&◌, ◌||◌, List, [], ◌∷◌, ◌++◌, ◌==◌, Option, Some, None, option_map, is_some, refl, ap, sym, subst, ◌∙◌, append-nil, append_assoc}
use Rattle.std.specs.List.{prefix_len, list_all}
use Rattle.std.proofs.lemmas.List.Folds.{list_all-append}
use Rattle.std.proofs.Math.Bool.{and_assoc, or-false}
use Rattle.std.proofs.Math.Dec.{eqb-suc-suc, eqb-zero-suc}
use Rattle.std.proofs.lemmas.Bool.{and_from}
use Rattle.std.proofs.lemmas.Option.{same_Some}
use Rattle.hushlang.specs.ByteClasses.{begins_name, is_name_byte, continues_name, is_between}
use Rattle.hushlang.specs.Token.{Part, Plain, Kept, Mark, Var, Status}
use Rattle.hushlang.specs.Words.{plain_bytes, plain_byte}
use Rattle.hushlang.specs.Tokenizing.{Seen, Takes, Refuses, in_front, row}
use Rattle.hushlang.specs.CuttersShown.{IsTaken}
use Rattle.hushlang.specs.LexerShown.{IsCut, parts_in}
use Rattle.hushlang.specs.Grammar.{up_to_equals, with_front, is_name, name_of, name_at, assignment, named}
use Rattle.hushlang.specs.declared.token.Token as code
use Rattle.hushlang.specs.declared.word_parts.Mode.TheVariants.{Bare}

prefix_if : (b : Bool) (n size : ℕ) (all : Bool) → (n == size) ≡ all → ((if b then 1 + n else 0) == suc size) ≡ (b && all)
prefix_if true n size all e = let k : 1 + n ≡ suc n = omega arith in ap (λ k. k == suc size) k ∙ eqb-suc-suc n size ∙ e
prefix_if false n size all e = eqb-zero-suc size

-- all bytes pass a test if the bytes at the start that pass are all
prefix_all : (test : ℕ → Bool) (xs : List ℕ) → (prefix_len test xs == length xs) ≡ list_all test xs
prefix_all test [] = refl
prefix_all test (x ∷ xs) = prefix_if (test x) (prefix_len test xs) (length xs) (list_all test xs) (prefix_all test xs)

-- a byte that starts a name is a byte of a name
pub name_all : (s : List ℕ) (d : ℕ) → 0 < length s → begins_name (get_or s 0 d) ≡ true → (prefix_len is_name_byte s == length s) ≡ is_name s
name_all [] d h e = absurd (omega arith)
name_all (b ∷ s) d h e = prefix_all is_name_byte (b ∷ s) ∙ rw e

-- ---- parts that are not refused

pub cut_taken : (t : code.Token) → IsCut t → IsTaken (row Bare 0 0 0 t.text.now)
cut_taken t cut = subst IsTaken (sym cut.1) tt

pub part_taken : (part : Part) (old new : Seen) → IsTaken old → old ≡ in_front (part ∷ []) new → IsTaken new × (parts_in old ≡ part ∷ parts_in new)
part_taken part old (Takes stop parts) h e = (tt, ap parts_in e)
part_taken part old (Refuses error) h e = absurd (subst IsTaken e h)

-- ---- bytes before what is found

unfoldable pub behind : List ℕ → Option (List ℕ) → Option (List ℕ)
behind front None = None
behind front (Some bytes) = Some (front ++ bytes)

pub behind_nothing : (o : Option (List ℕ)) → behind [] o ≡ o
unfolding behind
behind_nothing None = refl
behind_nothing (Some bytes) = refl

behind_one : (front : List ℕ) (b : ℕ) (o : Option (List ℕ)) → behind front (option_map (λ bytes. b ∷ bytes) o) ≡ behind (front ++ b ∷ []) o
unfolding behind
behind_one front b None = refl
behind_one front b (Some bytes) = ap Some (sym (append_assoc front (b ∷ []) bytes))

behind_end : (front : List ℕ) → behind front (plain_bytes []) ≡ Some front
unfolding behind
behind_end front = ap Some (append-nil front)

unfoldable pub found_behind : List ℕ → Option (List ℕ × List Part) → Option (List ℕ × List Part)
found_behind front None = None
found_behind front (Some found) = Some (front ++ found.0, found.1)

pub found_behind_nothing : (o : Option (List ℕ × List Part)) → found_behind [] o ≡ o
unfolding found_behind
found_behind_nothing None = refl
found_behind_nothing (Some found) = refl

found_one : (front : List ℕ) (b : ℕ) (o : Option (List ℕ × List Part)) → found_behind front (with_front b o) ≡ found_behind (front ++ b ∷ []) o
unfolding found_behind
found_one front b None = refl
found_one front b (Some found) = ap (λ bytes. Some (bytes, found.1)) (sym (append_assoc front (b ∷ []) found.0))

found_byte : (front : List ℕ) (b : ℕ) (parts : List Part) → (b == 61) ≡ false → found_behind front (up_to_equals (Plain b ∷ parts)) ≡ found_behind (front ++ b ∷ []) (up_to_equals parts)
found_byte front b parts e = rw e (found_one front b (up_to_equals parts))

found_equals : (front : List ℕ) (b : ℕ) (parts : List Part) → (b == 61) ≡ true → found_behind front (up_to_equals (Plain b ∷ parts)) ≡ Some (front, parts)
unfolding found_behind
found_equals front b parts e = rw e (ap (λ bytes. Some (bytes, parts)) (append-nil front))

pub plain_is : (part : Part) (b : ℕ) → Some b ≡ plain_byte part → part ≡ Plain b
plain_is (Plain c) b e = ap Plain (sym (same_Some b c e))
plain_is (Kept c) b e = absurd (cc)
plain_is Mark b e = absurd (cc)
plain_is (Var name split) b e = absurd (cc)
plain_is Status b e = absurd (cc)

-- ---- a name: `whole` is read from all parts, `old` and `new` are the parts to come before and after one more is read

pub name_step : (whole : Option (List ℕ)) (front : List ℕ) (part : Part) (b : ℕ) (old new : Seen) → IsTaken old → old ≡ in_front (part ∷ []) new → Some b ≡ plain_byte part → whole ≡ behind front (plain_bytes (parts_in old)) → whole ≡ behind (front ++ b ∷ []) (plain_bytes (parts_in new))
name_step whole front part b old new h e is inv =
    let all = (part_taken part old new h e).1 ∙ ap (λ p. p ∷ parts_in new) (plain_is part b is) in
    inv ∙ ap (λ x. behind front (plain_bytes x)) all ∙ behind_one front b (plain_bytes (parts_in new))

plain_none : (part : Part) (parts : List Part) → None ≡ plain_byte part → plain_bytes (part ∷ parts) ≡ None
plain_none (Plain c) parts e = absurd (cc)
plain_none (Kept c) parts e = refl
plain_none Mark parts e = refl
plain_none (Var name split) parts e = refl
plain_none Status parts e = refl

pub no_name : (parts : List Part) (front : List ℕ) (part : Part) (old new : Seen) → IsTaken old → old ≡ in_front (part ∷ []) new → None ≡ plain_byte part → plain_bytes parts ≡ behind front (plain_bytes (parts_in old)) → None ≡ name_of parts
unfolding name_of behind
no_name parts front part old new h e is inv =
    sym (ap name_at (inv ∙ ap (λ x. behind front (plain_bytes x)) (part_taken part old new h e).1 ∙ ap (behind front) (plain_none part (parts_in new) is)))

pub some_name : (parts : List Part) (front : List ℕ) (stop : ℕ) (is : Bool) (old : Seen) → old ≡ Takes stop [] → is ≡ is_name front → plain_bytes parts ≡ behind front (plain_bytes (parts_in old)) → (if is then Some front else None) ≡ name_of parts
unfolding name_of
some_name parts front stop is old end h inv =
    ap (λ b. if b then Some front else None) h ∙ sym (ap name_at (inv ∙ ap (λ x. behind front (plain_bytes (parts_in x))) end ∙ behind_end front))

-- ---- an assignment

pub found_step : (whole : Option (List ℕ × List Part)) (front : List ℕ) (part : Part) (b : ℕ) (old new : Seen) → IsTaken old → old ≡ in_front (part ∷ []) new → Some b ≡ plain_byte part → (b == 61) ≡ false → whole ≡ found_behind front (up_to_equals (parts_in old)) → whole ≡ found_behind (front ++ b ∷ []) (up_to_equals (parts_in new))
found_step whole front part b old new h e is other inv =
    let all = (part_taken part old new h e).1 ∙ ap (λ p. p ∷ parts_in new) (plain_is part b is) in
    inv ∙ ap (λ x. found_behind front (up_to_equals x)) all ∙ found_byte front b (parts_in new) other

pub found_done : (parts : List Part) (front : List ℕ) (part : Part) (b : ℕ) (is_one : Bool) (old new : Seen) → IsTaken old → old ≡ in_front (part ∷ []) new → Some b ≡ plain_byte part → (b == 61) ≡ true → is_one ≡ is_name front → up_to_equals parts ≡ found_behind front (up_to_equals (parts_in old)) → (if is_one then Some (front, parts_in new) else None) ≡ assignment parts
unfolding assignment
found_done parts front part b is_one old new h e is equals name inv =
    let all = (part_taken part old new h e).1 ∙ ap (λ p. p ∷ parts_in new) (plain_is part b is) in
    ap (λ b. if b then Some (front, parts_in new) else None) name
    ∙ sym (ap named (inv ∙ ap (λ x. found_behind front (up_to_equals x)) all ∙ found_equals front b (parts_in new) equals))

equals_none : (part : Part) (parts : List Part) → None ≡ plain_byte part → up_to_equals (part ∷ parts) ≡ None
equals_none (Plain c) parts e = absurd (cc)
equals_none (Kept c) parts e = refl
equals_none Mark parts e = refl
equals_none (Var name split) parts e = refl
equals_none Status parts e = refl

pub no_assignment : (parts : List Part) (front : List ℕ) (part : Part) (old new : Seen) → IsTaken old → old ≡ in_front (part ∷ []) new → None ≡ plain_byte part → up_to_equals parts ≡ found_behind front (up_to_equals (parts_in old)) → None ≡ assignment parts
unfolding assignment found_behind
no_assignment parts front part old new h e is inv =
    sym (ap named (inv ∙ ap (λ x. found_behind front (up_to_equals x)) (part_taken part old new h e).1 ∙ ap (found_behind front) (equals_none part (parts_in new) is)))

pub assignment_end : (parts : List Part) (front : List ℕ) (stop : ℕ) (old : Seen) → old ≡ Takes stop [] → up_to_equals parts ≡ found_behind front (up_to_equals (parts_in old)) → None ≡ assignment parts
unfolding assignment found_behind
assignment_end parts front stop old end inv = sym (ap named (inv ∙ ap (λ x. found_behind front (up_to_equals (parts_in x))) end))

-- ---- whether a name goes on

pub and_none : (x y : Bool) → y ≡ false → (x && y) ≡ false
and_none true y e = e
and_none false y e = refl

or_same : (x y : Bool) → (x || (x || y)) ≡ (x || y)
or_same true y = refl
or_same false y = refl

all_behind : (x : ℕ) (front : List ℕ) (b : ℕ) (more : List ℕ) → is_name (x ∷ front ++ b ∷ more) ≡ (is_name (x ∷ front) && (is_name_byte b && list_all is_name_byte more))
all_behind x front b more =
    ap (λ (all : Bool). begins_name x && all) (list_all-append is_name_byte front (b ∷ more))
    ∙ sym (and_assoc (begins_name x) (list_all is_name_byte front) (is_name_byte b && list_all is_name_byte more))

pub name_goes_on : (front : List ℕ) (b : ℕ) (named : Bool) → named ≡ is_name front → (named ≡ false → front ≡ []) → continues_name named b ≡ true → is_name (front ++ b ∷ []) ≡ true
name_goes_on [] b false is none e = and_from (begins_name b) true (sym (or-false (begins_name b)) ∙ e) refl
name_goes_on (x ∷ front) b false is none e = let no = none refl in absurd (cc)
name_goes_on [] b true is none e = absurd (cc)
name_goes_on (x ∷ front) b true is none e =
    all_behind x front b [] ∙ and_from (is_name (x ∷ front)) (is_name_byte b && true) (sym is)
    (and_from (is_name_byte b) true (sym (or_same (begins_name b) (is_between 48 57 b)) ∙ e) refl)

pub name_stops : (front : List ℕ) (b : ℕ) (more : List ℕ) (named : Bool) → named ≡ is_name front → (named ≡ false → front ≡ []) → continues_name named b ≡ false → is_name (front ++ b ∷ more) ≡ false
name_stops [] b more false is none e = ap (λ (x : Bool). x && list_all is_name_byte more) (sym (or-false (begins_name b)) ∙ e)
name_stops (x ∷ front) b more false is none e = let no = none refl in absurd (cc)
name_stops [] b more true is none e = absurd (cc)
name_stops (x ∷ front) b more true is none e =
    all_behind x front b more
    ∙ and_none (is_name (x ∷ front)) (is_name_byte b && list_all is_name_byte more)
    (ap (λ (x : Bool). x && list_all is_name_byte more) (sym (or_same (begins_name b) (is_between 48 57 b)) ∙ e))

-- ---- an assignment that is asked for

-- no name is before `=` if what is found so far does not go on
named_none : (front : List ℕ) (o : Option (List ℕ × List Part)) → ((more : List ℕ) → is_name (front ++ more) ≡ false) → named (found_behind front o) ≡ None
unfolding found_behind
named_none front None none = refl
named_none front (Some found) none = ap (λ b. if b then Some (front ++ found.0, found.1) else None) (none found.0)

pub stopped : (parts : List Part) (front : List ℕ) (part : Part) (b : ℕ) (begun : Bool) (old new : Seen) → IsTaken old → old ≡ in_front (part ∷ []) new → Some b ≡ plain_byte part → (b == 61) ≡ false → begun ≡ is_name front → (begun ≡ false → front ≡ []) → continues_name begun b ≡ false → up_to_equals parts ≡ found_behind front (up_to_equals (parts_in old)) → false ≡ is_some (assignment parts)
unfolding assignment
stopped parts front part b begun old new h e is other name none stops inv =
    let step = found_step (up_to_equals parts) front part b old new h e is other inv in
    sym (ap (λ o. is_some (named o)) step ∙ ap is_some (named_none (front ++ b ∷ []) (up_to_equals (parts_in new)) (λ more. ap is_name (append_assoc front (b ∷ []) more) ∙ name_stops front b more begun name none stops)))

some_if : {A : Type 0} (b : Bool) (a : A) → b ≡ is_some (if b then Some a else None)
some_if true a = refl
some_if false a = refl

pub equals_found : (parts : List Part) (front : List ℕ) (part : Part) (b : ℕ) (begun : Bool) (old new : Seen) → IsTaken old → old ≡ in_front (part ∷ []) new → Some b ≡ plain_byte part → (b == 61) ≡ true → begun ≡ is_name front → up_to_equals parts ≡ found_behind front (up_to_equals (parts_in old)) → begun ≡ is_some (assignment parts)
equals_found parts front part b begun old new h e is equals name inv =
    some_if begun (front, parts_in new) ∙ ap is_some (found_done parts front part b begun old new h e is equals name inv)
