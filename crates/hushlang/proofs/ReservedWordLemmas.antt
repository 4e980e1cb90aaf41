-- The parts of a word: ordinary bytes at its start, and the parts to come.
use Rattle.std.specs.Cmp.Lexicographic.{pointwise}
use Rattle.std.proofs.Common.{◌≡◌, ℕ, nat_eq, ◌<◌, ◌≤◌, length, map, Bool, true, false, ◌&&◌, ◌==◌, List, [], ◌∷◌, ◌++◌, Some, None, codes, refl, ap, sym, ◌∙◌, append-nil, append_assoc, arith}
use Rattle.std.proofs.lemmas.List.{map-append, length-append, length-map}
use Rattle.hushlang.specs.Token.{Part, Plain, Kept, Mark, Var, Status}
use Rattle.hushlang.specs.Words.{plain_byte, is_plain, reserved}
use Rattle.hushlang.specs.Tokenizing.{Seen, Takes, Refuses, in_front}
use Rattle.hushlang.specs.LexerShown.{parts_in}
use Rattle.hushlang.specs.declared.token.SyntaxError.{SyntaxError}
use Rattle.hushlang.proofs.NameAndAssignmentLemmas.{and_none, plain_is}

-- none, if the parts to come are refused
unfoldable pub fronted : List ℕ → Seen → List Part
fronted front (Takes stop parts) = map Plain front ++ parts
fronted front (Refuses error) = []

pub fronted_nothing : (seen : Seen) → fronted [] seen ≡ parts_in seen
unfolding fronted
fronted_nothing (Takes stop parts) = refl
fronted_nothing (Refuses error) = refl

pub fronted_step : (front : List ℕ) (part : Part) (b : ℕ) (old new : Seen) → Some b ≡ plain_byte part → old ≡ in_front (part ∷ []) new → fronted front old ≡ fronted (front ++ b ∷ []) new
unfolding fronted
fronted_step front part b old (Takes stop parts) is e =
    ap (fronted front) e
    ∙ ap (λ (p : Part). map Plain front ++ p ∷ parts) (plain_is part b is)
    ∙ sym (append_assoc (map Plain front) (Plain b ∷ []) parts)
    ∙ ap (λ (ps : List Part). ps ++ parts) (sym (map-append Plain front (b ∷ [])))
fronted_step front part b old (Refuses error) is e = ap (fronted front) e

pub fronted_end : (front : List ℕ) (stop : ℕ) (old : Seen) → old ≡ Takes stop [] → fronted front old ≡ map Plain front
unfolding fronted
fronted_end front stop old e = ap (fronted front) e ∙ append-nil (map Plain front)

-- ---- words that are not reserved

too_long : (word : List ℕ) (parts : List Part) → length word < length parts → is_plain word parts ≡ false
too_long [] [] h = absurd (omega arith)
too_long [] (part ∷ parts) h = refl
too_long (c ∷ word) [] h = absurd (omega arith)
too_long (c ∷ word) (Plain b ∷ parts) h = rw (too_long word parts (omega (arith, h))) (and_false (b == c))
  where
    and_false : (x : Bool) → (x && false) ≡ false
    and_false true = refl
    and_false false = refl
too_long (c ∷ word) (Kept b ∷ parts) h = refl
too_long (c ∷ word) (Mark ∷ parts) h = refl
too_long (c ∷ word) (Var name split ∷ parts) h = refl
too_long (c ∷ word) (Status ∷ parts) h = refl

not_plain : (word front : List ℕ) (part : Part) (parts : List Part) → None ≡ plain_byte part → is_plain word (map Plain front ++ part ∷ parts) ≡ false
not_plain [] [] part parts e = refl
not_plain [] (b ∷ front) part parts e = refl
not_plain (c ∷ word) [] (Plain b) parts e = absurd (cc)
not_plain (c ∷ word) [] (Kept b) parts e = refl
not_plain (c ∷ word) [] Mark parts e = refl
not_plain (c ∷ word) [] (Var name split) parts e = refl
not_plain (c ∷ word) [] Status parts e = refl
not_plain (c ∷ word) (b ∷ front) part parts e = and_none (b == c) _ (not_plain word front part parts e)

none_reserved : (parts : List Part) → ((word : List ℕ) → length word ≤ 5 → is_plain word parts ≡ false) → reserved parts ≡ None
unfolding reserved
none_reserved parts h =
    rw (h (codes "if") (omega arith), h (codes "then") (omega arith), h (codes "elif") (omega arith), h (codes "else") (omega arith), h (codes "fi") (omega arith), h (codes "for") (omega arith), h (codes "while") (omega arith), h (codes "until") (omega arith), h (codes "do") (omega arith), h (codes "done") (omega arith)) refl

no_parts : reserved [] ≡ None
unfolding reserved
no_parts = refl

-- a part that is not an ordinary byte
pub other_part : (front : List ℕ) (part : Part) (old new : Seen) → None ≡ plain_byte part → old ≡ in_front (part ∷ []) new → None ≡ reserved (fronted front old)
unfolding fronted
other_part front part old (Takes stop parts) is e = sym (ap (λ seen. reserved (fronted front seen)) e ∙ none_reserved (map Plain front ++ part ∷ parts) (λ word within. not_plain word front part parts is))
other_part front part old (Refuses error) is e = sym (ap (λ seen. reserved (fronted front seen)) e ∙ no_parts)

-- more parts than a reserved word has bytes
pub part_too_many : (front : List ℕ) (part : Part) (old new : Seen) → 5 ≤ length front → old ≡ in_front (part ∷ []) new → None ≡ reserved (fronted front old)
unfolding fronted
part_too_many front part old (Takes stop parts) h e =
    let many : 5 < length (map Plain front ++ part ∷ parts) = omega (arith, h, length-append (map Plain front) (part ∷ parts), length-map front Plain) in
    sym (ap (λ seen. reserved (fronted front seen)) e ∙ none_reserved (map Plain front ++ part ∷ parts) (λ word within. too_long word (map Plain front ++ part ∷ parts) (omega (arith, many, within))))
part_too_many front part old (Refuses error) h e = sym (ap (λ seen. reserved (fronted front seen)) e ∙ no_parts)

-- what is refused
pub refused_parts : (front : List ℕ) (error : SyntaxError) (old : Seen) → old ≡ Refuses error → None ≡ reserved (fronted front old)
unfolding fronted
refused_parts front error old e = sym (ap (λ seen. reserved (fronted front seen)) e ∙ no_parts)

-- ---- bytes that are compared

pub are_plain : (word bytes : List ℕ) → is_plain word (map Plain bytes) ≡ pointwise nat_eq bytes word
are_plain [] [] = refl
are_plain [] (b ∷ bytes) = refl
are_plain (c ∷ word) [] = refl
are_plain (c ∷ word) (b ∷ bytes) = ap (λ x. b == c && x) (are_plain word bytes)

pub ruleset fronting = (fronted_nothing, fronted_step, fronted_end, other_part, part_too_many, refused_parts)
