-- Lists with and without a boot counter.
use Rattle.std.proofs.Common.{◌≡◌, ◌∙◌, ℕ, ◌+◌, ltb, ◌==◌, ◌&&◌, ◌||◌, not, Bool, true, false, cond, List, [], ◌∷◌, Option, Some, None, Result, Ok, Err, length, take, drop, codes, refl, sym, ap}
use Rattle.std.proofs.lemmas.Bool.{and_parts}
use Rattle.std.specs.Prelude.{is_none, nat_lt}
use Rattle.std.specs.List.{list_all, list_any, position}
use Rattle.std.specs.Str.{bytes_eq}
use Rattle.text.specs.Lines.{Text, numbered_lines}
use Rattle.text.specs.Words.{has_nul, is_equals, trimmed, words_of}
use Rattle.envimage.specs.Data.{Pair}
use Rattle.device_list.specs.DeviceList.{changed_at}
use Rattle.board_start.specs.Counter.{Counter, count_words}
use Rattle.board_start.specs.StartLines.{Said, Given, Before, Counts, Faulty, Other, said, cut_word, value_from, is_given_name, pair_said, pair_of, given_said, is_plain_name, ends_lone, before_said, count_said}
use Rattle.board_start.specs.Start.{Start, no_start, choices, most, with_value, is_further, with_before, after_said, started_by, place_of, alternatives, begun_at}
use Rattle.board_start.specs.StartLaws.{NoCounterIsSaid, NothingIsCounted, begun_uncounted}
use Rattle.board_start.specs.declared.start_error.StartError.{StartError}
use Rattle.board_start.specs.declared.start_error.StartError.TheVariants.{TooMany}

-- ---- without a boot counter

uncounted : (start : Start) (counter : Option Counter) (place : Result ℕ StartError) (environment : List Pair) (name : Text) (text : Option Text) → start.counter ≡ counter → counter ≡ None
    → begun_at start place environment name text ≡ begun_uncounted start place environment name text
uncounted start counter (Err fault) environment name text is none = refl
uncounted start counter (Ok place) environment name text is none = rw (is ∙ none) refl

pub nothing_is_counted : NothingIsCounted
nothing_is_counted start alternative environment name text none =
    uncounted start start.counter (place_of (alternatives start) alternative) environment name text refl none

-- ---- lists without the line

-- whether a line says that there is a counter
abbrev counts : Said → Bool
counts (Given name value) = false
counts (Before name) = false
counts (Counts counter) = true
counts Faulty = false
counts Other = false

one-of : (b : Bool) (s t : Said) → counts s ≡ false → counts t ≡ false → counts (cond b s t) ≡ false
one-of true s t e f = e
one-of false s t e f = f

of-pair : (name : Text) (value : Option Text) → counts (pair_said name value) ≡ false
of-pair name None = refl
of-pair name (Some value) = one-of (is_given_name name) (Given name value) Faulty refl refl

of-place : (rest : Text) (place : Option ℕ) → counts (elim place [ None ↦ Other | Some at ↦ pair_said (take at rest) (value_from false (drop (at + 1) rest)) ]) ≡ false
of-place rest None = refl
of-place rest (Some at) = of-pair (take at rest) (value_from false (drop (at + 1) rest))

of-given : (line rest : Text) → counts (given_said line rest) ≡ false
of-given line rest =
    one-of (not (list_any is_equals (cut_word rest).0)) Other (cond (has_nul line) Faulty (pair_of rest)) refl
    (one-of (has_nul line) Faulty (pair_of rest) refl (of-place rest (position is_equals rest)))

of-before : (rest : Text) → counts (before_said rest) ≡ false
of-before rest =
    one-of (length rest == 0 || list_any ends_lone rest) Other (cond (is_plain_name rest) (Before rest) Faulty) refl
    (one-of (is_plain_name rest) (Before rest) Faulty refl refl)

of-none : (names : Option Counter) → is_none names ≡ true → counts (count_said names) ≡ false
of-none None e = refl
of-none (Some names) e = absurd (let f = e in cc)

-- without the six words a line says of no counter
of-line : (line : Text) → is_none (count_words (words_of line)) ≡ true → counts (said line) ≡ false
of-line line e =
    let words = cut_word (trimmed line) in
    let counted : Said = count_said (count_words (words_of line)) in
    one-of (bytes_eq words.0 (codes "given")) (given_said line words.1) (cond (bytes_eq words.0 (codes "before")) (before_said words.1) counted) (of-given line words.1)
    (one-of (bytes_eq words.0 (codes "before")) (before_said words.1) counted (of-before words.1) (of-none (count_words (words_of line)) e))

is-start : (one next : Start) → ◌≡◌ {A = Result Start StartError} (Ok one) (Ok next) → one ≡ next
is-start one next e = cc

same-counter : (one next : Start) → ◌≡◌ {A = Result Start StartError} (Ok one) (Ok next) → next.counter ≡ one.counter
same-counter one next e = ap (λ (s : Start). s.counter) (sym (is-start one next e))

after : (start : Start) (number : ℕ) (s : Said) (next : Start) → counts s ≡ false → after_said start number s ≡ Ok next → next.counter ≡ start.counter
after start number (Given name value) next c e = by (is_further start.givens name value && nat_lt most (choices new.givens)) e
  where
    new : Start
    new = record start { givens = changed_at (with_value value) start.givens name }

    by : (refused : Bool) → ◌≡◌ {A = Result Start StartError} (cond refused (Err (TooMany number)) (Ok new)) (Ok next) → next.counter ≡ start.counter
    by true e = absurd (let f = e in cc)
    by false e = same-counter new next e
after start number (Before name) next c e = same-counter (with_before start name) next e
after start number (Counts counter) next c e = absurd (let f = c in cc)
after start number Faulty next c e = same-counter start next e
after start number Other next c e = same-counter start next e

none-counted : (lines : List (ℕ × Text)) (start done : Start) → list_all (λ l. is_none (count_words (words_of l.1))) lines ≡ true → started_by start lines ≡ Ok done → done.counter ≡ start.counter
none-counted [] start done all e = same-counter start done e
none-counted (l ∷ lines) start done all e =
    let both = and_parts (is_none (count_words (words_of l.1))) (list_all (λ l. is_none (count_words (words_of l.1))) lines) all in
    by (after_said start l.0 (said l.1)) refl (of-line l.1 both.0) e (λ next. none-counted lines next done both.1)
  where
    by : (r : Result Start StartError) → after_said start l.0 (said l.1) ≡ r → counts (said l.1) ≡ false → ◌≡◌ {A = Result Start StartError} (elim r [ Ok next ↦ started_by next lines | Err fault ↦ Err fault ]) (Ok done)
        → ((next : Start) → started_by next lines ≡ Ok done → done.counter ≡ next.counter) → done.counter ≡ start.counter
    by (Ok next) is none f rest = rest next f ∙ after start l.0 (said l.1) next none is
    by (Err fault) is none f rest = absurd (let g = f in cc)

pub no_counter_is_said : NoCounterIsSaid
no_counter_is_said text start all e = none-counted (numbered_lines text) no_start start all e
