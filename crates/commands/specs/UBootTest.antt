-- The truth of the words after `test` as U-Boot's shells find it (U-Boot 2023.01, cmd/test.c, `do_test`; 2025.01 has
-- the same). `verdict`, in Verdict.antt, is the truth in ubtool's own language. Here no list of words is wrong: words
-- that U-Boot cannot read hold. Whether a file is there, for which `-e` asks, is answered from outside; which files
-- those are depends on the words alone. U-Boot computes in its machine's words; here they are of 64 bits (ours). How
-- many words a command may have (`CONFIG_SYS_MAXARGS`) is decided before `do_test` begins, and not said here.
use Rattle.std.specs.Prelude.{◌≡◌, ◌≤◌, ℕ, zero, suc, ◌-◌, ◌^◌, ◌==◌, nat_lt, Bool, true, false, not, ◌&&◌, ◌||◌, List, [], ◌∷◌, ◌++◌, length, Option, Some, None, codes, ℤ, int_lt, int_le, if◌then◌else◌}
use Rattle.std.specs.Str.{bytes_eq}
use Rattle.std.specs.Map.{lookup}
use Rattle.std.specs.Int.{w64, cast_signed}
use Rattle.std.specs.Cmp.Lexicographic.{slice_cmp}
use Rattle.std.specs.Ordering.{nat_cmp, int_eq, is_lt, is_gt}
use Rattle.commands.specs.Hexadecimal.{in_word}
use Rattle.commands.specs.Verdict.{Text, Comparison, magnitude, behind_minus}

-- ---- numbers (lib/strto.c, `simple_strtol`): the same digits as in Verdict.antt, in 64 bits that wrap

abbrev pub number : Text → ℤ
number word =
    elim (behind_minus word) [
      | Some digits ↦ cast_signed w64 (in_word (2 ^ 64 - in_word (magnitude digits)))
      | None ↦ cast_signed w64 (in_word (magnitude word))
    ]

-- ---- comparisons

-- texts are compared byte by byte, and numbers by what they spell
abbrev pub comparisons : List (Text × Comparison)
comparisons =
    (codes "=", λ a b. bytes_eq a b)
    ∷ (codes "!=", λ a b. not (bytes_eq a b))
    ∷ (codes "<", λ a b. is_lt (slice_cmp nat_cmp a b))
    ∷ (codes ">", λ a b. is_gt (slice_cmp nat_cmp a b))
    ∷ (codes "-eq", λ a b. int_eq (number a) (number b))
    ∷ (codes "-ne", λ a b. not (int_eq (number a) (number b)))
    ∷ (codes "-lt", λ a b. int_lt (number a) (number b))
    ∷ (codes "-le", λ a b. int_le (number a) (number b))
    ∷ (codes "-gt", λ a b. int_lt (number b) (number a))
    ∷ (codes "-ge", λ a b. int_le (number b) (number a))
    ∷ []

-- the comparison that an operator names
abbrev pub comparison_of : (operator : Text) → Option Comparison
comparison_of operator = lookup (bytes_eq operator) comparisons

-- ---- terms

-- how the next truth goes together with what was found before: it takes its place, unless `-a` or `-o` is between them
pub data Joint : Type 0 where
  Alone : Joint
  And : Joint
  Or : Joint

pub data Term : Type 0 where
  -- `!`: the next truth is turned
  Turns : Term
  -- `-a` or `-o`
  Joins : Joint → Term
  -- a truth that the words have
  Finds : Bool → Term
  -- whether a file is there: its interface, its part and its path
  Asks : (file : List Text) → Term
  -- words that U-Boot cannot read: no term begins so, or it lacks words
  Breaks : Term

-- a term, and how many words it takes after its first
abbrev pub Begun : Type 0
Begun = Option (Term × ℕ)

abbrev pub tests_word : (Text → Bool) → List Text → Begun
tests_word test [] = None
tests_word test (word ∷ words) = Some (Finds (test word), 1)

abbrev pub asks : List Text → Begun
asks (interface ∷ part ∷ path ∷ words) = Some (Asks (interface ∷ part ∷ path ∷ []), 3)
asks _ = None

-- by the first word
abbrev pub begins_with : Text → List Text → Begun
begins_with first words =
    if bytes_eq first (codes "!") then Some (Turns, 0)
    else (if bytes_eq first (codes "-o") then Some (Joins Or, 0)
    else (if bytes_eq first (codes "-a") then Some (Joins And, 0)
    else (if bytes_eq first (codes "-z") then tests_word (λ word. length word == 0) words
    else (if bytes_eq first (codes "-n") then tests_word (λ word. not (length word == 0)) words
    else (if bytes_eq first (codes "-e") then asks words else None)))))

abbrev pub compares : Comparison → Text → List Text → Begun
compares compare left [] = None
compares compare left (right ∷ words) = Some (Finds (compare left right), 2)

-- an operator of a comparison in second place decides first, whatever the first word is
abbrev pub begins : List Text → Begun
begins [] = None
begins (first ∷ []) = begins_with first []
begins (first ∷ second ∷ words) =
    elim (comparison_of second) [
      | Some compare ↦ compares compare first words
      | None ↦ begins_with first (second ∷ words)
    ]

-- ---- the whole

-- the terms from the left, after so many words that are passed; nothing is read after words that U-Boot cannot read
abbrev pub terms_behind : ℕ → List Text → List Term
terms_behind passed [] = []
terms_behind (suc passed) (word ∷ words) = terms_behind passed words
terms_behind zero (word ∷ words) =
    elim (begins (word ∷ words)) [ Some t ↦ t.0 ∷ terms_behind t.1 words | None ↦ Breaks ∷ [] ]

abbrev pub terms : List Text → List Term
terms words = terms_behind 0 words

abbrev pub files_in : List Term → List (List Text)
files_in [] = []
files_in (Turns ∷ terms) = files_in terms
files_in (Joins joint ∷ terms) = files_in terms
files_in (Finds truth ∷ terms) = files_in terms
files_in (Asks file ∷ terms) = file ∷ files_in terms
files_in (Breaks ∷ terms) = files_in terms

-- the files that the words after `test` ask for, in order
abbrev pub questions : List Text → List (List Text)
questions words = files_in (terms words)

-- what has to be asked before it is known whether the words hold
pub data Question : Type 0 where
  Nothing : Question
  File : (file : List Text) → Question
  -- more than one file
  Files : Question

abbrev pub question_of : (files : List (List Text)) → Question
question_of [] = Nothing
question_of (file ∷ []) = File file
question_of (file ∷ other ∷ files) = Files

abbrev pub together : Joint → Bool → Bool → Bool
together Alone before truth = truth
together And before truth = before && truth
together Or before truth = before || truth

-- the truth, or its opposite after an odd number of `!`
abbrev pub turned : Bool → Bool → Bool
turned false truth = truth
turned true truth = not truth

-- a file that has no answer is not there
abbrev pub first_answer : List Bool → Bool
first_answer [] = false
first_answer (answer ∷ answers) = answer

abbrev pub other_answers : List Bool → List Bool
other_answers [] = []
other_answers (answer ∷ answers) = answers

-- the truth in the end: after what was found before, how the next truth goes together with it, and whether it is turned
abbrev pub holds : Bool → Joint → Bool → (answers : List Bool) → List Term → Bool
holds before joint turns answers [] = before
holds before joint turns answers (Turns ∷ terms) = holds before joint (not turns) answers terms
holds before joint turns answers (Joins next ∷ terms) = holds before next turns answers terms
holds before joint turns answers (Finds truth ∷ terms) =
    holds (together joint before (turned turns truth)) Alone false answers terms
holds before joint turns answers (Asks file ∷ terms) =
    holds (together joint before (turned turns (first_answer answers))) Alone false (other_answers answers) terms
holds before joint turns answers (Breaks ∷ terms) = true

-- whether the words after `test` hold (status 0), if the files that they ask for are there or not as these answers say
abbrev pub truth_by : (answers : List Bool) → List Text → Bool
truth_by answers words =
    if nat_lt (length words) 2 then false else holds false Alone false answers (terms words)

-- what `questions` lists is all that is asked: further answers change nothing
abbrev pub OnlyQuestionsCount : Type 0
OnlyQuestionsCount =
    (answers more : List Bool) (words : List Text)
    → length (questions words) ≤ length answers
    → truth_by (answers ++ more) words ≡ truth_by answers words
