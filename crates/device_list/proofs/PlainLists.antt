-- Device lists in their plain form.
use Rattle.std.proofs.Common.{◌≡◌, ℕ, zero, suc, ◌||◌, not, Bool, true, false, cond, eqb, List, [], ◌∷◌, ◌++◌, map, length, filter, None, Result, Ok, Err, refl, sym, ap, ◌∙◌, inl, inr, eqb-true, arith}
use Rattle.std.proofs.lemmas.Bool.{cases_Bool, or_parts}
use Rattle.std.proofs.lemmas.Bool.Decides.{eqb_tells}
use Rattle.std.proofs.lemmas.List.Splits.{slice_split-cons_no}
use Rattle.std.specs.List.{list_any, slice_split, onto_first}
use Rattle.std.specs.Str.{bytes_eq}
use Rattle.text.specs.Lines.{numbered_lines}
use Rattle.text.specs.Words.{has_nul, is_blank, is_space, cut_front, onto_line, cut_behind, trimmed}
use Rattle.text.specs.Lines.{Text}
use Rattle.builtins.specs.Builtins.{is_built_in}
use Rattle.device_list.specs.DeviceList.{Effects, Devices, joined_in, only, with_line, after_words, after_line, listed_lines}
use Rattle.device_list.specs.DeviceLaws.{quiet}
use Rattle.device_list.specs.PlainList.{with_name, plain_line, plain_lines, PlainListsStand}
use Rattle.device_list.specs.declared.devices_error.DevicesError.{DevicesError}
use Rattle.device_list.specs.declared.devices_error.DevicesError.TheVariants.{BadLine, BuiltIn}
use Rattle.device_list.proofs.JoinedLines.{ok-same}
use Rattle.device_list.proofs.MarkLemmas.{by_lines}

-- the commands of a list that has only names
abbrev pub quiet_effects : List Text → Effects
quiet_effects = map (λ name. (name, quiet))

abbrev pub quiet_names : List Text → Devices
quiet_names names = only (quiet_effects names)

-- ---- one more name

joined-name : (names : List Text) (name : Text) → joined_in (quiet_effects names) name quiet ≡ quiet_effects (with_name names name)
joined-name [] name = refl
joined-name (n ∷ names) name = by (bytes_eq name n) (list_any (bytes_eq name) names) (joined-name names name)
  where
    by : (here there : Bool) → joined_in (quiet_effects names) name quiet ≡ quiet_effects (cond there names (names ++ name ∷ []))
        → cond here ((n, quiet) ∷ quiet_effects names) ((n, quiet) ∷ joined_in (quiet_effects names) name quiet) ≡ quiet_effects (cond (here || there) (n ∷ names) (n ∷ names ++ name ∷ []))
    by true there rest = refl
    by false true rest = ap (λ ds. (n, quiet) ∷ ds) rest
    by false false rest = ap (λ ds. (n, quiet) ∷ ds) rest

not_zero : (n : ℕ) → eqb (suc n) 0 ≡ false
not_zero n = elim (eqb_tells (suc n) 0) [ inl h ↦ absurd (let e = h.1 in omega arith) | inr h ↦ h.0 ]

-- ---- a NUL is not a blank

not_nul : (b : ℕ) → is_blank b ≡ true → eqb b 0 ≡ false
not_nul zero e = sym e
not_nul (suc b) e = not_zero b

cut_front-nul : (line : Text) → has_nul (cut_front is_blank line) ≡ has_nul line
cut_front-nul [] = refl
cut_front-nul (b ∷ line) =
    elim (cases_Bool (is_blank b)) [
      | inl blank ↦ let no = not_nul b blank in rw (blank, no) (cut_front-nul line)
      | inr other ↦ rw other refl
    ]

onto_line-nul : (b : ℕ) (line : Text) → has_nul (onto_line is_blank b line) ≡ (eqb b 0 || has_nul line)
onto_line-nul b [] =
    elim (cases_Bool (is_blank b)) [
      | inl blank ↦ let no = not_nul b blank in rw (blank, no) refl
      | inr other ↦ rw other refl
    ]
onto_line-nul b (c ∷ line) = refl

cut_behind-nul : (line : Text) → has_nul (cut_behind is_blank line) ≡ has_nul line
cut_behind-nul [] = refl
cut_behind-nul (b ∷ line) = onto_line-nul b (cut_behind is_blank line) ∙ ap (λ r. eqb b 0 || r) (cut_behind-nul line)

trimmed-nul : (line : Text) → has_nul (trimmed line) ≡ has_nul line
trimmed-nul line = cut_behind-nul (cut_front is_blank line) ∙ cut_front-nul line

-- ---- the words of a line

one_word : (line : Text) → list_any is_space line ≡ false → slice_split is_space line ≡ line ∷ []
one_word [] e = refl
one_word (b ∷ line) e =
    let both = or_parts (is_space b) (list_any is_space line) e in
    slice_split-cons_no is_space b line both.0 ∙ ap (onto_first b) (one_word line both.1)

no_gap : (line : Text) → list_any (λ c. is_space c || eqb c 0) line ≡ false → (list_any is_space line ≡ false) × (has_nul line ≡ false)
no_gap [] e = (refl, refl)
no_gap (b ∷ line) e =
    let both = or_parts (is_space b || eqb b 0) (list_any (λ c. is_space c || eqb c 0) line) e in
    let here = or_parts (is_space b) (eqb b 0) both.0 in
    let rest = no_gap line both.1 in
    (rw (here.0, rest.0) refl, rw (here.1, rest.1) refl)

abbrev full : List Text → List Text
full = filter (λ word. not (eqb (length word) 0))

full-some : (b : ℕ) (word : Text) (words : List Text) → full ((b ∷ word) ∷ words) ≡ (b ∷ word) ∷ full words
full-some b word words = let e = not_zero (length word) in rw e refl

abbrev words_in : Text → List Text
words_in word = full (slice_split is_space word)

-- ---- one more line

abbrev accepted : List Text → Result Devices DevicesError
accepted names = Ok (quiet_names names)

module _ (names : List Text) (number : ℕ) (line : Text) where
  -- a comment
  comment-words : (b : ℕ) (parts : List Text) → eqb b 35 ≡ true → after_words (quiet_names names) number line (full (onto_first b parts)) ≡ accepted names
  comment-words b [] e = rw e refl
  comment-words b (part ∷ parts) e = rw (full-some b part parts, e) refl

  comment-stands : (b : ℕ) (bytes : Text) → eqb b 35 ≡ true → after_words (quiet_names names) number line (words_in (b ∷ bytes)) ≡ accepted names
  comment-stands b bytes e =
      let is : b ≡ 35 = eqb-true b 35 e in
      let no : is_space b ≡ false = ap is_space is in
      ap (λ ws. after_words (quiet_names names) number line (full ws)) (slice_split-cons_no is_space b bytes no) ∙ comment-words b (slice_split is_space bytes) e

  -- a name
  name-stands : (next : List Text) (b : ℕ) (bytes : Text) → eqb b 35 ≡ false → list_any is_space (b ∷ bytes) ≡ false → has_nul line ≡ false
      → cond (is_built_in (b ∷ bytes)) (Err (BuiltIn number)) (Ok (with_name names (b ∷ bytes))) ≡ Ok next → after_words (quiet_names names) number line (words_in (b ∷ bytes)) ≡ accepted next
  name-stands next b bytes no_comment no_space no_nul e =
      ap (λ ws. after_words (quiet_names names) number line (full ws)) (one_word (b ∷ bytes) no_space)
      ∙ rw (full-some b bytes [], no_comment, no_nul) (by (is_built_in (b ∷ bytes)) e)
    where
      by : (built_in : Bool) → cond built_in (Err (BuiltIn number)) (Ok (with_name names (b ∷ bytes))) ≡ Ok next → with_line (quiet_names names) (cond built_in (Err (BuiltIn number)) (Ok (record { name = b ∷ bytes; word = None; effect = quiet }))) ≡ accepted next
      by true e = cc
      by false e = ap (λ ds. let r : Result Devices DevicesError = Ok (only ds) in r) (joined-name names (b ∷ bytes)) ∙ ap accepted (ok-same e)

  line-stands : (next : List Text) (word : Text) → has_nul word ≡ has_nul line → plain_line names number word ≡ Ok next → after_words (quiet_names names) number line (words_in word) ≡ accepted next
  line-stands next [] nul e = ap accepted (ok-same e)
  line-stands next (b ∷ bytes) nul e = by (eqb b 35) (list_any (λ c. is_space c || eqb c 0) (b ∷ bytes)) refl refl e
    where
      by : (comment gap : Bool) → eqb b 35 ≡ comment → list_any (λ c. is_space c || eqb c 0) (b ∷ bytes) ≡ gap
          → cond comment (Ok names) (cond gap (Err (BadLine number)) (cond (is_built_in (b ∷ bytes)) (Err (BuiltIn number)) (Ok (with_name names (b ∷ bytes))))) ≡ Ok next
          → after_words (quiet_names names) number line (words_in (b ∷ bytes)) ≡ accepted next
      by true gap is_comment is_gap e = comment-stands b bytes is_comment ∙ ap accepted (ok-same e)
      by false true is_comment is_gap e = cc
      by false false is_comment is_gap e = let free = no_gap (b ∷ bytes) is_gap in name-stands next b bytes is_comment free.0 (sym nul ∙ free.1) e

-- ---- all lines

lines-stand : (lines : List (ℕ × Text)) (names done : List Text) → plain_lines names lines ≡ Ok done → listed_lines (quiet_names names) lines ≡ accepted done
lines-stand [] names done e = ap accepted (ok-same e)
lines-stand (l ∷ lines) names done e = by (plain_line names l.0 (trimmed l.1)) refl e (λ next. lines-stand lines next done)
  where
    by : (r : Result (List Text) DevicesError) → plain_line names l.0 (trimmed l.1) ≡ r → ◌≡◌ {A = Result (List Text) DevicesError} (elim r [ Ok next ↦ plain_lines next lines | Err fault ↦ Err fault ]) (Ok done)
        → ((next : List Text) → plain_lines next lines ≡ Ok done → listed_lines (quiet_names next) lines ≡ accepted done)
        → ◌≡◌ {A = Result Devices DevicesError} (elim (after_line (quiet_names names) l.0 l.1) [ Ok next ↦ listed_lines next lines | Err fault ↦ Err fault ]) (accepted done)
    by (Err fault) is f later = cc
    by (Ok next) is f later = let this : after_line (quiet_names names) l.0 l.1 ≡ accepted next = line-stands names l.0 l.1 next (trimmed l.1) (trimmed-nul l.1) is in rw this (later next f)

pub plain_lists_stand : PlainListsStand
plain_lists_stand text names plain e = by_lines text plain ∙ lines-stand (numbered_lines text) [] names e
