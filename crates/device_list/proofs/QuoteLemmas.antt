-- The words of a line with quotes, byte by byte.
use Rattle.std.proofs.Common.{◌≡◌, ℕ, ◌+◌, ◌-◌, ◌≤◌, ◌<◌, ◌||◌, ◌++◌, not, suc, Bool, true, false, cond, List, [], ◌∷◌, length, filter, take, drop, Option, Some, None, option_map, append_assoc, refl, sym, ap, ◌∙◌, arith}
use Rattle.std.proofs.Math.ListN.{get_or}
use Rattle.std.proofs.Math.Seq.{drop-cons, take-suc}
use Rattle.std.proofs.lemmas.List.{get_or-drop, length-drop, append-nil}
use Rattle.text.specs.Words.{is_space}
use Rattle.text.specs.Lines.{Text}
use Rattle.device_list.specs.Quotes.{is_quote, onto_first, pieces, has_byte}

-- bytes in front of the first piece
abbrev pub behind : (word : Text) → List Text → List Text
behind word [] = word ∷ []
behind word (piece ∷ more) = (word ++ piece) ∷ more

behind_byte : (word : Text) (b : ℕ) (ps : List Text) → behind word (onto_first b ps) ≡ behind (word ++ b ∷ []) ps
behind_byte word b [] = refl
behind_byte word b (piece ∷ more) = ap (λ (w : Text). w ∷ more) (sym (append_assoc word (b ∷ []) piece))

-- a byte of a word, and a blank between words
abbrev next_quoted : (quoted : Bool) → ℕ → Bool
next_quoted quoted b = cond (is_quote b) (not quoted) quoted

of_word : (quoted : Bool) (b : ℕ) (line : Text) → (quoted || not (is_space b)) ≡ true → pieces quoted (b ∷ line) ≡ onto_first b (pieces (next_quoted quoted b) line)
of_word true b line goes = ap (λ (q : Bool). onto_first b (pieces q line)) (by (is_quote b))
  where
    by : (q : Bool) → not q ≡ cond q (not true) true
    by true = refl
    by false = refl
of_word false b line goes = by (is_space b) goes ∙ ap (λ (q : Bool). onto_first b (pieces q line)) (is (is_quote b))
  where
    by : (s : Bool) → not s ≡ true → cond s ([] ∷ pieces false line) (onto_first b (pieces (is_quote b) line)) ≡ onto_first b (pieces (is_quote b) line)
    by true e = absurd (let f = e in cc)
    by false e = refl

    is : (q : Bool) → q ≡ cond q (not false) false
    is true = refl
    is false = refl

blank : (quoted : Bool) (b : ℕ) (line : Text) → (quoted || not (is_space b)) ≡ false → (quoted ≡ false) × (pieces quoted (b ∷ line) ≡ [] ∷ pieces false line)
blank true b line goes = absurd (let f = goes in cc)
blank false b line goes = (refl, by (is_space b) goes)
  where
    by : (s : Bool) → not s ≡ false → cond s ([] ∷ pieces false line) (onto_first b (pieces (is_quote b) line)) ≡ [] ∷ pieces false line
    by true e = refl
    by false e = absurd (let f = e in cc)

-- no bytes in front of pieces, of which there is one at least
pub none_behind : (quoted : Bool) (line : Text) → behind [] (pieces quoted line) ≡ pieces quoted line
none_behind quoted [] = by quoted
  where
    by : (q : Bool) → behind [] (pieces q []) ≡ pieces q []
    by true = refl
    by false = refl
none_behind true (b ∷ line) = onto b (pieces (not (is_quote b)) line)
  where
    onto : (b : ℕ) (ps : List Text) → behind [] (onto_first b ps) ≡ onto_first b ps
    onto b [] = refl
    onto b (p ∷ ps) = refl
none_behind false (b ∷ line) = by (is_space b)
  where
    onto : (b : ℕ) (ps : List Text) → behind [] (onto_first b ps) ≡ onto_first b ps
    onto b [] = refl
    onto b (p ∷ ps) = refl

    by : (s : Bool) → behind [] (cond s ([] ∷ pieces false line) (onto_first b (pieces (is_quote b) line))) ≡ cond s ([] ∷ pieces false line) (onto_first b (pieces (is_quote b) line))
    by true = refl
    by false = onto b (pieces (is_quote b) line)

-- a piece that is done, in front of others
split_first : (word : Text) (ps : List Text) → filter has_byte (word ∷ ps) ≡ filter has_byte (word ∷ []) ++ filter has_byte ps
split_first [] ps = refl
split_first (b ∷ word) ps = refl

module _ (quoted : Bool) (line : Text) (start at : ℕ) (ordered : start ≤ at) (within : at < length line) where
  abbrev byte : ℕ
  byte = get_or line at 0

  abbrev pub word : Text
  word = take (at - start) (drop start line)

  here : drop at line ≡ byte ∷ drop (at + 1) line
  here = let n : suc at ≡ at + 1 = omega arith in drop-cons line at 0 within ∙ ap (λ (k : ℕ). byte ∷ drop k line) n

  longer : take (at + 1 - start) (drop start line) ≡ word ++ byte ∷ []
  longer =
      let n : at + 1 - start ≡ suc (at - start) = omega (arith, ordered) in
      let long = length-drop start line in
      let found : get_or (drop start line) (at - start) 0 ≡ byte = (let m : start + (at - start) ≡ at = omega (arith, ordered) in get_or-drop start line (at - start) 0 ∙ ap (λ (k : ℕ). get_or line k 0) m) in
      ap (λ (k : ℕ). take k (drop start line)) n
      ∙ take-suc (drop start line) (at - start) 0 (omega (arith, long, ordered, within))
      ∙ ap (λ (b : ℕ). word ++ b ∷ []) found

  -- one more byte of a word
  pub goes_on : (quoted || not (is_space byte)) ≡ true
      → behind word (pieces quoted (drop at line)) ≡ behind (take (at + 1 - start) (drop start line)) (pieces (next_quoted quoted byte) (drop (at + 1) line))
  goes_on goes =
      ap (λ (rest : Text). behind word (pieces quoted rest)) here
      ∙ ap (behind word) (of_word quoted byte (drop (at + 1) line) goes)
      ∙ behind_byte word byte (pieces (next_quoted quoted byte) (drop (at + 1) line))
      ∙ ap (λ (w : Text). behind w (pieces (next_quoted quoted byte) (drop (at + 1) line))) (sym longer)

  -- a blank between words
  pub ends : (quoted || not (is_space byte)) ≡ false
      → filter has_byte (behind word (pieces quoted (drop at line)))
      ≡ filter has_byte (word ∷ []) ++ filter has_byte (behind (take (at + 1 - (at + 1)) (drop (at + 1) line)) (pieces quoted (drop (at + 1) line)))
  ends goes =
      let done = blank quoted byte (drop (at + 1) line) goes in
      let none : at + 1 - (at + 1) ≡ 0 = omega arith in
      ap (λ (rest : Text). filter has_byte (behind word (pieces quoted rest))) here
      ∙ ap (λ (ps : List Text). filter has_byte (behind word ps)) done.1
      ∙ ap (λ (w : Text). filter has_byte (w ∷ pieces false (drop (at + 1) line))) (append-nil word)
      ∙ split_first word (pieces false (drop (at + 1) line))
      ∙ ap (λ (ps : List Text). filter has_byte (word ∷ []) ++ filter has_byte ps) (sym (none_behind false (drop (at + 1) line)))
      ∙ (λ i. filter has_byte (word ∷ []) ++ filter has_byte (behind (take (sym none i) (drop (at + 1) line)) (pieces (sym done.0 i) (drop (at + 1) line))))

-- the bytes so far in front of those left, if the quotes are closed
abbrev pub behind_bytes : (bytes : Text) → Option Text → Option Text
behind_bytes bytes rest = option_map (λ more. bytes ++ more) rest

pub no_bytes : (rest : Option Text) → behind_bytes [] rest ≡ rest
no_bytes None = refl
no_bytes (Some more) = refl

pub one_byte : (bytes : Text) (b : ℕ) (rest : Option Text) → behind_bytes bytes (option_map (λ more. b ∷ more) rest) ≡ behind_bytes (bytes ++ b ∷ []) rest
one_byte bytes b None = refl
one_byte bytes b (Some more) = ap Some (sym (append_assoc bytes (b ∷ []) more))
