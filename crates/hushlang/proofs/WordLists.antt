-- Words and assignments, taken one by one.
use Rattle.std.proofs.Common.{◌≡◌, ℕ, ◌<◌, ◌≤◌, length, map, Bool, true, false, if◌then◌else◌, List, [], ◌∷◌, ◌++◌, Option, Some, None, option_map, Result, Ok, Err, refl, ap, sym, ◌∙◌, append-nil, append_assoc, arith}
use Rattle.hushlang.specs.Token.{Token, Part}
use Rattle.hushlang.specs.Tree.{Word, Simple, Assign}
use Rattle.hushlang.specs.Grammar.{is_word, word_of, words, words_if, past, past_if, assignment, value_of}
use Rattle.hushlang.specs.Parsing as spec
use Rattle.hushlang.specs.Parsing.{Input, Parsed, behind, next, word_ahead, all_words, all_values, values_by, assignments, simple, word_next, assignment_next}
use Rattle.hushlang.proofs.RestLengthLemmas.{past-shorter}
use Rattle.hushlang.specs.declared.token.SyntaxError.{SyntaxError}
use Rattle.hushlang.specs.declared.token.SyntaxError.TheVariants.{AssignmentBeforeCommand}

-- ---- the word that comes next

one_if : (b : Bool) (u : Token) (tokens : List Token) (t : Token) → is_word u ≡ b → (if b then Some u else None) ≡ Some t → (words (u ∷ tokens) ≡ t ∷ words tokens) × (past is_word (u ∷ tokens) ≡ past is_word tokens)
one_if true u tokens t is e =
    let same : u ≡ t = cc in
    (ap (λ b. words_if b u (words tokens)) is ∙ ap (λ (x : Token). x ∷ words tokens) same, ap (λ b. past_if b (u ∷ tokens) (past is_word tokens)) is)
one_if false u tokens t is e = absurd (cc)

one_word : (tokens : List Token) (t : Token) → spec.word_first_of tokens ≡ Some t → (words tokens ≡ t ∷ words (spec.rest_of tokens)) × (past is_word tokens ≡ past is_word (spec.rest_of tokens))
one_word [] t e = absurd (cc)
one_word (u ∷ tokens) t e = one_if (is_word u) u tokens t refl e

none_if : (b : Bool) (u : Token) (tokens : List Token) → is_word u ≡ b → ◌≡◌ {A = Option Token} (if b then Some u else None) None → (words (u ∷ tokens) ≡ []) × (past is_word (u ∷ tokens) ≡ u ∷ tokens)
none_if true u tokens is e = absurd (cc)
none_if false u tokens is e = (ap (λ b. words_if b u (words tokens)) is, ap (λ b. past_if b (u ∷ tokens) (past is_word tokens)) is)

no_word : (tokens : List Token) → spec.word_first_of tokens ≡ None → (words tokens ≡ []) × (past is_word tokens ≡ tokens)
no_word [] e = (refl, refl)
no_word (u ∷ tokens) e = none_if (is_word u) u tokens refl e

behind_word : (i : Input) (t : Token) → word_ahead i ≡ Some t → behind is_word i ≡ behind is_word (next i)
unfolding behind next
behind_word i t e = ap (λ (l : List Token). record i { tokens = l }) (one_word i.tokens t e).1

behind_words : (i : Input) → word_ahead i ≡ None → behind is_word i ≡ i
unfolding behind
behind_words i e = ap (λ (l : List Token). record i { tokens = l }) (no_word i.tokens e).1

words_next : (i : Input) (t : Token) → word_ahead i ≡ Some t → words i.tokens ≡ t ∷ words (next i).tokens
unfolding next
words_next i t e = (one_word i.tokens t e).0

-- ---- all words

pub words_begin : (i : Input) → all_words i ≡ Ok (map word_of (words i.tokens), behind is_word i)
unfolding all_words
words_begin i = refl

pub words_step : (old i : Input) (front : List Word) (t : Token) (w : Word) → word_ahead i ≡ Some t → w ≡ word_of t → all_words old ≡ Ok (front ++ map word_of (words i.tokens), behind is_word i) → all_words old ≡ Ok ((front ++ w ∷ []) ++ map word_of (words (next i).tokens), behind is_word (next i))
words_step old i front t w e is inv =
    inv
    ∙ ap (λ (x : List Token). Ok (front ++ map word_of x, behind is_word i)) (words_next i t e)
    ∙ ap (λ (x : Word). Ok (front ++ x ∷ map word_of (words (next i).tokens), behind is_word i)) (sym is)
    ∙ ap (λ (x : List Word). Ok (x, behind is_word i)) (sym (append_assoc front (w ∷ []) (map word_of (words (next i).tokens))))
    ∙ ap (λ (j : Input). Ok ((front ++ w ∷ []) ++ map word_of (words (next i).tokens), j)) (behind_word i t e)

pub words_end : (old i : Input) (front : List Word) → word_ahead i ≡ None → all_words old ≡ Ok (front ++ map word_of (words i.tokens), behind is_word i) → all_words old ≡ Ok (front, i)
words_end old i front e inv =
    inv
    ∙ ap (λ (x : List Token). Ok (front ++ map word_of x, behind is_word i)) (no_word i.tokens e).0
    ∙ ap (λ (x : List Word). Ok (x, behind is_word i)) (append-nil front)
    ∙ ap (λ (j : Input). Ok (front, j)) (behind_words i e)

-- ---- all assignments

-- values before further ones
unfoldable pub ahead : List (List ℕ × Word) → Result (List (List ℕ × Word)) SyntaxError → Result (List (List ℕ × Word)) SyntaxError
ahead front (Ok values) = Ok (front ++ values)
ahead front (Err e) = Err e

ahead_nothing : (r : Result (List (List ℕ × Word)) SyntaxError) → r ≡ ahead [] r
unfolding ahead
ahead_nothing (Ok values) = refl
ahead_nothing (Err e) = refl

ahead_end : (front : List (List ℕ × Word)) → ahead front (assignments []) ≡ Ok front
unfolding ahead assignments
ahead_end front = ap Ok (append-nil front)

ahead_found : (front : List (List ℕ × Word)) (t : Token) (found : List ℕ × List Part) (r : Result (List (List ℕ × Word)) SyntaxError) → ahead front (spec.assigned t (Some found) r) ≡ ahead (front ++ value_of found ∷ []) r
unfolding ahead
ahead_found front t found (Ok values) = ap Ok (sym (append_assoc front (value_of found ∷ []) values))
ahead_found front t found (Err e) = refl

ahead_some : (front : List (List ℕ × Word)) (t : Token) (o : Option (List ℕ × List Part)) (v : List ℕ × Word) (r : Result (List (List ℕ × Word)) SyntaxError) → option_map value_of o ≡ Some v → ahead front (spec.assigned t o r) ≡ ahead (front ++ v ∷ []) r
ahead_some front t None v r e = search e
ahead_some front t (Some found) v r e = let same : value_of found ≡ v = cc in ahead_found front t found r ∙ ap (λ x. ahead (front ++ x ∷ []) r) same

values_on : (r : Result (List (List ℕ × Word)) SyntaxError) (i : Input) (t : Token) → word_ahead i ≡ Some t → values_by r i ≡ values_by r (next i)
values_on (Ok values) i t e = ap (λ (j : Input). Ok (values, j)) (behind_word i t e)
values_on (Err error) i t e = refl

pub values_begin : (i : Input) → all_values i ≡ values_by (ahead [] (assignments (words i.tokens))) i
unfolding all_values
values_begin i = ap (λ r. values_by r i) (ahead_nothing (assignments (words i.tokens)))

pub values_step : (old i : Input) (front : List (List ℕ × Word)) (t : Token) (v : List ℕ × Word) → word_ahead i ≡ Some t → option_map value_of (assignment t.parts) ≡ Some v → all_values old ≡ values_by (ahead front (assignments (words i.tokens))) i → all_values old ≡ values_by (ahead (front ++ v ∷ []) (assignments (words (next i).tokens))) (next i)
unfolding assignments
values_step old i front t v e is inv =
    let more = assignments (words (next i).tokens) in
    inv
    ∙ ap (λ (x : List Token). values_by (ahead front (assignments x)) i) (words_next i t e)
    ∙ ap (λ r. values_by r i) (ahead_some front t (assignment t.parts) v more is)
    ∙ values_on (ahead (front ++ v ∷ []) more) i t e

pub values_none : (old i : Input) (front : List (List ℕ × Word)) (t : Token) → word_ahead i ≡ Some t → assignment t.parts ≡ None → all_values old ≡ values_by (ahead front (assignments (words i.tokens))) i → all_values old ≡ Err (AssignmentBeforeCommand t.start)
unfolding assignments ahead
values_none old i front t e is inv =
    let more = assignments (words (next i).tokens) in
    inv
    ∙ ap (λ (x : List Token). values_by (ahead front (assignments x)) i) (words_next i t e)
    ∙ ap (λ o. values_by (ahead front (spec.assigned t o more)) i) is

pub values_end : (old i : Input) (front : List (List ℕ × Word)) → word_ahead i ≡ None → all_values old ≡ values_by (ahead front (assignments (words i.tokens))) i → all_values old ≡ Ok (front, i)
values_end old i front e inv =
    inv
    ∙ ap (λ (x : List Token). values_by (ahead front (assignments x)) i) (no_word i.tokens e).0
    ∙ ap (λ r. values_by r i) (ahead_end front)
    ∙ ap (λ (j : Input). Ok (front, j)) (behind_words i e)

-- ---- simple commands

simple_is : (i : Input) (word assigns : Bool) → word_next i ≡ word → assignment_next i ≡ assigns → simple i ≡ spec.simple_by word assigns i
unfolding simple
simple_is i word assigns w a = ap (λ b. spec.simple_by b (assignment_next i) i) w ∙ ap (λ b. spec.simple_by word b i) a

ok_first : {A : Type 0} (p q : A × Input) → ◌≡◌ {A = Parsed A} (Ok p) (Ok q) → p.0 ≡ q.0
ok_first {A = A} p q e = let same : p ≡ q = cc in ap (λ (x : A × Input). x.0) same

ok_second : {A : Type 0} (p q : A × Input) → ◌≡◌ {A = Parsed A} (Ok p) (Ok q) → p.1 ≡ q.1
ok_second {A = A} p q e = let same : p ≡ q = cc in ap (λ (x : A × Input). x.1) same

words_same : (i j : Input) (all : List Word) → all_words i ≡ Ok (all, j) → (map word_of (words i.tokens) ≡ all) × (behind is_word i ≡ j)
unfolding all_words
words_same i j all e = (ok_first (map word_of (words i.tokens), behind is_word i) (all, j) e, ok_second (map word_of (words i.tokens), behind is_word i) (all, j) e)

pub words_are_read : (i : Input) (error : SyntaxError) → all_words i ≡ Err error → ⊥
unfolding all_words
words_are_read i error e = absurd (cc)

pub simple_words : (i j : Input) (all : List Word) → word_next i ≡ true → assignment_next i ≡ false → all_words i ≡ Ok (all, j) → simple i ≡ Ok (Simple all, j)
simple_words i j all w a e =
    let same = words_same i j all e in
    simple_is i true false w a ∙ ap (λ (x : List Word). Ok (Simple x, behind is_word i)) same.0 ∙ ap (λ (x : Input). Ok (Simple all, x)) same.1

assign_ok : (r : Result (List (List ℕ × Word)) SyntaxError) (i j : Input) (all : List (List ℕ × Word)) → values_by r i ≡ Ok (all, j) → (spec.assign_by r i ≡ Ok (Assign all, j)) × (behind is_word i ≡ j)
assign_ok (Ok values) i j all e =
    let v = ok_first (values, behind is_word i) (all, j) e in
    let b = ok_second (values, behind is_word i) (all, j) e in
    (ap (λ (x : List (List ℕ × Word)). Ok (Assign x, behind is_word i)) v ∙ ap (λ (x : Input). Ok (Assign all, x)) b, b)
assign_ok (Err error) i j all e = absurd (cc)

assign_err : (r : Result (List (List ℕ × Word)) SyntaxError) (i : Input) (error : SyntaxError) → values_by r i ≡ Err error → spec.assign_by r i ≡ Err error
assign_err (Ok values) i error e = absurd (cc)
assign_err (Err other) i error e = let same : other ≡ error = cc in ap Err same

pub simple_values : (i j : Input) (all : List (List ℕ × Word)) → word_next i ≡ true → assignment_next i ≡ true → all_values i ≡ Ok (all, j) → simple i ≡ Ok (Assign all, j)
unfolding all_values
simple_values i j all w a e = simple_is i true true w a ∙ (assign_ok (assignments (words i.tokens)) i j all e).0

pub simple_refused : (i : Input) (error : SyntaxError) → word_next i ≡ true → assignment_next i ≡ true → all_values i ≡ Err error → simple i ≡ Err error
unfolding all_values
simple_refused i error w a e = simple_is i true true w a ∙ assign_err (assignments (words i.tokens)) i error e

-- ---- what is taken

shorter_if : (b : Bool) (u : Token) (tokens : List Token) → is_word u ≡ b → b ≡ true → length (past is_word (u ∷ tokens)) < length (u ∷ tokens)
shorter_if true u tokens is e =
    let h = past-shorter is_word tokens in
    let same = ap (λ b. length (past_if b (u ∷ tokens) (past is_word tokens))) is in
    omega (arith, same, h)
shorter_if false u tokens is e = absurd (cc)

past_words : (tokens : List Token) → spec.word_first tokens ≡ true → length (past is_word tokens) < length tokens
past_words [] e = absurd (cc)
past_words (u ∷ tokens) e = shorter_if (is_word u) u tokens refl e

pub words_within : (i j : Input) (all : List Word) → all_words i ≡ Ok (all, j) → length j.tokens ≤ length i.tokens
unfolding behind
words_within i j all e = let h = past-shorter is_word i.tokens in let same = ap (λ (x : Input). length x.tokens) (words_same i j all e).1 in omega (arith, h, same)

pub words_shorter : (i j : Input) (all : List Word) → word_next i ≡ true → all_words i ≡ Ok (all, j) → length j.tokens < length i.tokens
unfolding word_next behind
words_shorter i j all w e = let h = past_words i.tokens w in let same = ap (λ (x : Input). length x.tokens) (words_same i j all e).1 in omega (arith, h, same)

pub values_shorter : (i j : Input) (all : List (List ℕ × Word)) → word_next i ≡ true → all_values i ≡ Ok (all, j) → length j.tokens < length i.tokens
unfolding word_next behind all_values
values_shorter i j all w e = let h = past_words i.tokens w in let same = ap (λ (x : Input). length x.tokens) (assign_ok (assignments (words i.tokens)) i j all e).1 in omega (arith, h, same)
