-- What is gathered from the left is what the definitions cut from the right.
use Rattle.std.proofs.Common.{◌≡◌, ◌∙◌, refl, sym, ap, ℕ, ◌+◌, ◌<◌, ◌≤◌, Bool, true, false, cond, ◌||◌, not, ◌==◌, List, [], ◌∷◌, ◌++◌, length, map, drop, get_or, suc, append_assoc, append-nil, arith, drop-cons, add-one, length-append}
use Rattle.std.specs.List.{flat_map, filter}
use Rattle.std.proofs.lemmas.List.Sums.{sum_by-append}
use Rattle.hushlang.specs.Tree as tree
use Rattle.hushlang.specs.Tree.{Word, Piece}
use Rattle.hushlang.specs.Expansion.{Atom, Kept, Separator, Mark, Parameters, value_of, separates, split_atom, atoms_of_piece, atoms, onto_first, cut, is_field, kept_bytes, fields_of_word, fields, all_bytes, size, most_bytes}
use Rattle.hushlang.specs.Splitting.{FieldsSoFar, nothing_gathered, begun_field, left_field, closed, with_atom, with_atoms, with_word, with_words, gathered_size}

-- ---- bytes that are not cut

pub all_bytes_kept : (bytes : List ℕ) → all_bytes (map Kept bytes) ≡ bytes
all_bytes_kept [] = refl
all_bytes_kept (byte ∷ bytes) = ap (λ rest. byte ∷ rest) (all_bytes_kept bytes)

all_bytes_of : (blank : Bool) (byte : ℕ) (rest : List Atom) → all_bytes (cond blank (Separator byte) (Kept byte) ∷ rest) ≡ byte ∷ all_bytes rest
all_bytes_of true byte rest = refl
all_bytes_of false byte rest = refl

pub all_bytes_split : (bytes : List ℕ) → all_bytes (map split_atom bytes) ≡ bytes
all_bytes_split [] = refl
all_bytes_split (byte ∷ bytes) = all_bytes_of (separates byte) byte (map split_atom bytes) ∙ ap (λ rest. byte ∷ rest) (all_bytes_split bytes)

pub all_bytes_var : (parameters : Parameters) (name : List ℕ) (split : Bool) → all_bytes (atoms_of_piece parameters (tree.Var name split)) ≡ value_of parameters name
all_bytes_var parameters name true = all_bytes_split (value_of parameters name)
all_bytes_var parameters name false = all_bytes_kept (value_of parameters name)

pub all_bytes-append : (a b : List Atom) → all_bytes (a ++ b) ≡ all_bytes a ++ all_bytes b
all_bytes-append [] b = refl
all_bytes-append (Kept byte ∷ a) b = ap (λ rest. byte ∷ rest) (all_bytes-append a b)
all_bytes-append (Separator byte ∷ a) b = ap (λ rest. byte ∷ rest) (all_bytes-append a b)
all_bytes-append (Mark ∷ a) b = all_bytes-append a b

pub ruleset uncut = (all_bytes_kept, all_bytes_split, all_bytes_var, all_bytes-append)

-- ---- how much is gathered

size_closed : (begun : Bool) (whole : List (List ℕ)) (field : List ℕ) → size (whole ++ begun_field begun field) + length (left_field begun field) ≡ size whole + length field
size_closed true whole field = omega (arith, sum_by-append length whole (field ∷ []))
size_closed false whole field = omega (arith, sum_by-append length whole [])

pub gathered_size-closed : (g : FieldsSoFar) → gathered_size (closed g) ≡ gathered_size g
gathered_size-closed g = size_closed g.begun g.whole g.field

grows_by_atom : (g : FieldsSoFar) (atom : Atom) → gathered_size g ≤ gathered_size (with_atom g atom)
grows_by_atom g (Kept byte) = omega (arith, length-append g.field (byte ∷ []))
grows_by_atom g (Separator byte) = omega (arith, gathered_size-closed g)
grows_by_atom g Mark = omega arith

pub grows_by_atoms : (g : FieldsSoFar) (more : List Atom) → gathered_size g ≤ gathered_size (with_atoms g more)
grows_by_atoms g [] = omega arith
grows_by_atoms g (atom ∷ more) = omega (arith, grows_by_atom g atom, grows_by_atoms (with_atom g atom) more)

pub grows_by_word : (parameters : Parameters) (g : FieldsSoFar) (word : Word) → gathered_size g ≤ gathered_size (with_word parameters g word)
grows_by_word parameters g word = omega (arith, grows_by_atoms g (atoms parameters word), gathered_size-closed (with_atoms g (atoms parameters word)))

pub grows_by_words : (parameters : Parameters) (g : FieldsSoFar) (words : List Word) → gathered_size g ≤ gathered_size (with_words parameters g words)
grows_by_words parameters g [] = omega arith
grows_by_words parameters g (word ∷ words) = omega (arith, grows_by_word parameters g word, grows_by_words parameters (with_word parameters g word) words)

pub with_atoms-append : (g : FieldsSoFar) (a b : List Atom) → with_atoms g (a ++ b) ≡ with_atoms (with_atoms g a) b
with_atoms-append g [] b = refl
with_atoms-append g (atom ∷ a) b = with_atoms-append (with_atom g atom) a b

some_begun : (begun : Bool) (n : ℕ) → begun || not (suc n == 0) ≡ true
some_begun true n = refl
some_begun false n = grind arith

-- bytes that are all kept
pub with_atoms-kept : (whole : List (List ℕ)) (field : List ℕ) (begun : Bool) (bytes : List ℕ) → with_atoms (record { whole = whole; field = field; begun = begun }) (map Kept bytes) ≡ record { whole = whole; field = field ++ bytes; begun = begun || not (length bytes == 0) }
with_atoms-kept whole field true [] = ap (λ all. record { whole = whole; field = all; begun = true }) (sym (append-nil field))
with_atoms-kept whole field false [] = ap (λ all. record { whole = whole; field = all; begun = false }) (sym (append-nil field))
with_atoms-kept whole field begun (byte ∷ bytes) =
    with_atoms-kept whole (field ++ byte ∷ []) true bytes ∙ ap (λ all. record { whole = whole; field = all; begun = true }) (append_assoc field (byte ∷ []) bytes) ∙ ap (λ now. record { whole = whole; field = field ++ byte ∷ bytes; begun = now }) (sym (some_begun begun (length bytes)))

pub size-kept : (g : FieldsSoFar) (bytes : List ℕ) → gathered_size (with_atoms g (map Kept bytes)) ≡ gathered_size g + length bytes
size-kept g bytes = omega (arith, ap gathered_size (with_atoms-kept g.whole g.field g.begun bytes), length-append g.field bytes)

pub ruleset kept_at_once = (with_atoms-kept)

-- ---- from the left as from the right

-- the field on the way, before the parts that follow
abbrev behind : Bool → List ℕ → List (List Atom) → List (List ℕ)
behind false field parts = map kept_bytes (filter is_field parts)
behind true field [] = field ∷ []
behind true field (part ∷ parts) = (field ++ kept_bytes part) ∷ map kept_bytes (filter is_field parts)

kept_behind : (begun : Bool) (field : List ℕ) (byte : ℕ) (parts : List (List Atom)) → (begun ≡ false → field ≡ []) → behind true (field ++ byte ∷ []) parts ≡ behind begun field (onto_first (Kept byte) parts)
kept_behind true field byte [] clean = refl
kept_behind true field byte (part ∷ parts) clean = ap (λ first. first ∷ map kept_bytes (filter is_field parts)) (append_assoc field (byte ∷ []) (kept_bytes part))
kept_behind false field byte [] clean = ap (λ front. (front ++ byte ∷ []) ∷ []) (clean refl)
kept_behind false field byte (part ∷ parts) clean = ap (λ front. ((front ++ byte ∷ []) ++ kept_bytes part) ∷ map kept_bytes (filter is_field parts)) (clean refl)

mark_behind : (begun : Bool) (field : List ℕ) (parts : List (List Atom)) → (begun ≡ false → field ≡ []) → behind true field parts ≡ behind begun field (onto_first Mark parts)
mark_behind true field [] clean = ap (λ first. first ∷ []) (sym (append-nil field))
mark_behind true field (part ∷ parts) clean = refl
mark_behind false field [] clean = ap (λ first. first ∷ []) (clean refl)
mark_behind false field (part ∷ parts) clean = ap (λ front. (front ++ kept_bytes part) ∷ map kept_bytes (filter is_field parts)) (clean refl)

separator_behind : (begun : Bool) (whole : List (List ℕ)) (field : List ℕ) (parts : List (List Atom)) → (whole ++ begun_field begun field) ++ behind false [] parts ≡ whole ++ behind begun field ([] ∷ parts)
separator_behind true whole field parts = append_assoc whole (field ∷ []) _ ∙ ap (λ first. whole ++ first ∷ map kept_bytes (filter is_field parts)) (sym (append-nil field))
separator_behind false whole field parts = ap (λ front. front ++ behind false [] parts) (append-nil whole)

end_behind : (begun : Bool) (whole : List (List ℕ)) (field : List ℕ) → whole ++ begun_field begun field ≡ whole ++ behind begun field ([] ∷ [])
end_behind true whole field = ap (λ first. whole ++ first ∷ []) (sym (append-nil field))
end_behind false whole field = refl

left_clean : (begun : Bool) (field : List ℕ) → (begun ≡ false → field ≡ []) → left_field begun field ≡ []
left_clean true field clean = refl
left_clean false field clean = clean refl

-- what is gathered from atoms, if a field that has not begun has no bytes
closed-with_atoms : (begun : Bool) (whole : List (List ℕ)) (field : List ℕ) (rest : List Atom) → (begun ≡ false → field ≡ []) → closed (with_atoms (record { whole = whole; field = field; begun = begun }) rest) ≡ record { whole = whole ++ behind begun field (cut rest); field = []; begun = false }
closed-with_atoms begun whole field [] clean = ap (λ front. record { whole = front; field = left_field begun field; begun = false }) (end_behind begun whole field) ∙ ap (λ left. record { whole = whole ++ behind begun field ([] ∷ []); field = left; begun = false }) (left_clean begun field clean)
closed-with_atoms begun whole field (Kept byte ∷ rest) clean =
    closed-with_atoms true whole (field ++ byte ∷ []) rest (λ e. cc) ∙ ap (λ fields. record { whole = whole ++ fields; field = []; begun = false }) (kept_behind begun field byte (cut rest) clean)
closed-with_atoms begun whole field (Separator byte ∷ rest) clean =
    closed-with_atoms false (whole ++ begun_field begun field) (left_field begun field) rest (λ e. left_clean begun field clean) ∙ ap (λ all. record { whole = all; field = []; begun = false }) (separator_behind begun whole field (cut rest))
closed-with_atoms begun whole field (Mark ∷ rest) clean =
    closed-with_atoms true whole field rest (λ e. cc) ∙ ap (λ fields. record { whole = whole ++ fields; field = []; begun = false }) (mark_behind begun field (cut rest) clean)

-- nothing is on the way
abbrev pub between_words : List (List ℕ) → FieldsSoFar
between_words whole = record { whole = whole; field = []; begun = false }

with_word-fields : (parameters : Parameters) (whole : List (List ℕ)) (word : Word) → with_word parameters (between_words whole) word ≡ between_words (whole ++ fields_of_word parameters word)
with_word-fields parameters whole word = closed-with_atoms false whole [] (atoms parameters word) (λ e. refl)

with_words-behind : (parameters : Parameters) (whole : List (List ℕ)) (words : List Word) → with_words parameters (between_words whole) words ≡ between_words (whole ++ flat_map (fields_of_word parameters) words)
with_words-behind parameters whole [] = ap between_words (sym (append-nil whole))
with_words-behind parameters whole (word ∷ words) =
    ap (λ g. with_words parameters g words) (with_word-fields parameters whole word) ∙ with_words-behind parameters (whole ++ fields_of_word parameters word) words ∙ ap between_words (append_assoc whole (fields_of_word parameters word) _)

-- all words: their fields
pub with_words-fields : (parameters : Parameters) (words : List Word) → with_words parameters nothing_gathered words ≡ between_words (fields parameters words)
unfolding fields
with_words-fields parameters words = with_words-behind parameters [] words

pub size-fields : (parameters : Parameters) (words : List Word) → gathered_size (with_words parameters nothing_gathered words) ≡ size (fields parameters words)
size-fields parameters words = omega (arith, ap gathered_size (with_words-fields parameters words))

-- ---- what is too long on the way is too long as a whole

pub over_by_atom : (make : ℕ → Atom) (g all : FieldsSoFar) (bytes : List ℕ) (i d : ℕ) → i < length bytes → with_atoms g (map make (drop i bytes)) ≡ all → most_bytes < gathered_size (with_atom g (make (get_or bytes i d))) → most_bytes < gathered_size all
over_by_atom make g all bytes i d inside same over =
    let first : with_atoms g (map make (drop i bytes)) ≡ with_atoms (with_atom g (make (get_or bytes i d))) (map make (drop (suc i) bytes)) = ap (λ rest. with_atoms g (map make rest)) (drop-cons bytes i d inside) in
    omega (arith, grows_by_atoms (with_atom g (make (get_or bytes i d))) (map make (drop (suc i) bytes)), ap gathered_size first, ap gathered_size same)

pub over_by_piece : (parameters : Parameters) (g all : FieldsSoFar) (piece : Piece) (these rest : List Piece) → these ≡ piece ∷ rest → with_atoms g (flat_map (atoms_of_piece parameters) these) ≡ all → most_bytes < gathered_size (with_atoms g (atoms_of_piece parameters piece)) → most_bytes < gathered_size all
over_by_piece parameters g all piece these rest first same over =
    let parts : with_atoms g (flat_map (atoms_of_piece parameters) these) ≡ with_atoms (with_atoms g (atoms_of_piece parameters piece)) (flat_map (atoms_of_piece parameters) rest) = ap (λ pieces. with_atoms g (flat_map (atoms_of_piece parameters) pieces)) first ∙ with_atoms-append g (atoms_of_piece parameters piece) _ in
    omega (arith, grows_by_atoms (with_atoms g (atoms_of_piece parameters piece)) (flat_map (atoms_of_piece parameters) rest), ap gathered_size parts, ap gathered_size same)

pub over_by_word : (parameters : Parameters) (g all : FieldsSoFar) (word : Word) (these rest : List Word) → these ≡ word ∷ rest → with_words parameters g these ≡ all → most_bytes < gathered_size (with_word parameters g word) → most_bytes < gathered_size all
over_by_word parameters g all word these rest first same over =
    let words : with_words parameters g these ≡ with_words parameters (with_word parameters g word) rest = ap (λ words. with_words parameters g words) first in
    omega (arith, grows_by_words parameters (with_word parameters g word) rest, ap gathered_size words, ap gathered_size same)

-- ---- one more of a list

pub drop_next : {A : Type 0} (xs : List A) (i : ℕ) (x : A) → i < length xs → x ≡ get_or xs i x → drop i xs ≡ x ∷ drop (i + 1) xs
drop_next xs i x inside is = drop-cons xs i x inside ∙ ap (λ item. item ∷ drop (suc i) xs) (sym is) ∙ rw add-one refl

-- the next piece is gathered
pub next_piece : (parameters : Parameters) (g after all : FieldsSoFar) (piece : Piece) (these rest : List Piece) → these ≡ piece ∷ rest → with_atoms g (flat_map (atoms_of_piece parameters) these) ≡ all → after ≡ with_atoms g (atoms_of_piece parameters piece) → with_atoms after (flat_map (atoms_of_piece parameters) rest) ≡ all
next_piece parameters g after all piece these rest first same is =
    ap (λ now. with_atoms now (flat_map (atoms_of_piece parameters) rest)) is ∙ sym (with_atoms-append g (atoms_of_piece parameters piece) _) ∙ ap (λ pieces. with_atoms g (flat_map (atoms_of_piece parameters) pieces)) (sym first) ∙ same

-- the next piece is appended
pub next_bytes : (parameters : Parameters) (value after all : List ℕ) (piece : Piece) (these rest : List Piece) → these ≡ piece ∷ rest → value ++ all_bytes (flat_map (atoms_of_piece parameters) these) ≡ all → after ≡ value ++ all_bytes (atoms_of_piece parameters piece) → after ++ all_bytes (flat_map (atoms_of_piece parameters) rest) ≡ all
next_bytes parameters value after all piece these rest first same is =
    ap (λ now. now ++ all_bytes (flat_map (atoms_of_piece parameters) rest)) is ∙ append_assoc value _ _ ∙ ap (λ bytes. value ++ bytes) (sym (all_bytes-append (atoms_of_piece parameters piece) _)) ∙ ap (λ pieces. value ++ all_bytes (flat_map (atoms_of_piece parameters) pieces)) (sym first) ∙ same

pub over_by_bytes : (parameters : Parameters) (value all : List ℕ) (piece : Piece) (these rest : List Piece) → these ≡ piece ∷ rest → value ++ all_bytes (flat_map (atoms_of_piece parameters) these) ≡ all → most_bytes < length (value ++ all_bytes (atoms_of_piece parameters piece)) → most_bytes < length all
over_by_bytes parameters value all piece these rest first same over =
    let e = next_bytes parameters value (value ++ all_bytes (atoms_of_piece parameters piece)) all piece these rest first same refl in
    omega (arith, length-append (value ++ all_bytes (atoms_of_piece parameters piece)) (all_bytes (flat_map (atoms_of_piece parameters) rest)), ap length e)

-- a byte at which nothing is cut
pub split_atom-kept : (byte : ℕ) → separates byte ≡ false → split_atom byte ≡ Kept byte
split_atom-kept byte not_blank = ap (λ blank. cond blank (Separator byte) (Kept byte)) not_blank
