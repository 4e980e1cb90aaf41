-- What is at the start of a text, as the program finds it.
use Rattle.std.proofs.Common.{◌≡◌, ℕ, zero, suc, ◌+◌, ◌-◌, ◌<◌, ◌≤◌, Bool, true, not, ◌&&◌, ◌==◌, List, [], ◌∷◌, length, take, drop, get_or, refl, ap, sym, ◌∙◌, arith, Ok, Err}
use Rattle.std.proofs.lemmas.List.{length-append, length-drop, drop-drop, drop_more}
use Rattle.std.proofs.Math.Seq.{take-append_seam}
use Rattle.std.proofs.lemmas.Bool.{cond_both, false≢true, and_from, not_from_false}
use Rattle.text.specs.Bytes.{newline}
use Rattle.text.specs.Words.{is_space}
use Rattle.hushlang.specs.ByteClasses.{is_separator, begins}
use Rattle.hushlang.specs.Token.{Part, Token, sign}
use Rattle.hushlang.specs.Tokenizing.{Seen, Takes, Refuses, row, Ends, Front, Gap, Sees, Stops, word_at, word_front, separator_front, front, skip_of, follow, Lexed, lexed, lexed_from}
use Rattle.hushlang.specs.CuttersShown.{stop_of}
use Rattle.hushlang.specs.LexerShown.{front_shown, BeginsWord, parts_in}
use Rattle.hushlang.specs.declared.word_parts.Mode.TheVariants.{Bare}
use Rattle.hushlang.specs.declared.token.Kind.{Kind}
use Rattle.hushlang.specs.declared.token.Kind.TheVariants as kinds
use Rattle.hushlang.specs.declared.token.SyntaxError.{SyntaxError}
use Rattle.hushlang.specs.declared.lexer.Front.TheVariants as code
use Rattle.hushlang.proofs.SpellingLemmas.{row_step, bare_separator, lexed_step}
use Rattle.hushlang.proofs.WordsAtAnyPlace.{takes, word_takes}

-- a token is where it is seen, and its own bytes have its parts
abbrev pub IsSound : (at b : ℕ) → List ℕ → Front → Type 0
IsSound at b text (Sees token skip) = (token.start ≡ at) × (token.stop ≡ at + suc skip) × (skip ≤ length text) × ((stop : ℕ) × (row Bare 0 0 0 (b ∷ take skip text) ≡ Takes stop token.parts))
IsSound at b text other = Unit {0}

sign_parts : (b : ℕ) (text : List ℕ) → is_separator b ≡ true → (stop : ℕ) × (row Bare 0 0 0 (b ∷ text) ≡ Takes stop [])
sign_parts b text e = (0, row_step Bare 0 0 b text Ends (bare_separator 0 b text e))

begins_some : (test : ℕ → Bool) (text : List ℕ) → begins test text ≡ true → 1 ≤ length text
begins_some test [] e = absurd (false≢true e)
begins_some test (b ∷ text) e = omega arith

module _ (at b : ℕ) (text : List ℕ) where
  sound_separator : is_separator b ≡ true → IsSound at b text (separator_front at b text)
  sound_separator e =
      let P : Front → Type 0 = IsSound at b text in
      let one : (kind : Kind) → P (Sees (sign kind at (suc at)) 0) = λ kind. (refl, omega arith, omega arith, sign_parts b _ e) in
      let two : (kind : Kind) → 1 ≤ length text → P (Sees (sign kind at (suc (suc at))) 1) = λ kind h. (refl, omega arith, h, sign_parts b _ e) in
      cond_both (is_space b) _ _ P (λ _. tt)
      (λ _. cond_both (b == 59) _ _ P (λ _. one kinds.Semi)
      (λ _. cond_both (b == 38) _ _ P (λ _. cond_both (begins (λ c. c == 38) text) _ _ P (λ h. two kinds.AndAnd (begins_some _ text h)) (λ _. tt))
      (λ _. cond_both (b == 124) _ _ P (λ _. cond_both (begins (λ c. c == 124) text) _ _ P (λ h. two kinds.OrOr (begins_some _ text h)) (λ _. tt))
      (λ _. one kinds.Newline))))

  sound_seen : BeginsWord b text → (seen : Seen) → row Bare at 0 at (b ∷ text) ≡ seen → IsSound at b text (word_at at seen)
  sound_seen begins (Refuses error) is = tt
  sound_seen begins (Takes stop parts) is = elim (word_takes at b text begins.0 begins.1 stop parts is) [
    | takes bytes rest cut n on ↦
        let size : stop - suc at ≡ length bytes = omega (arith, n) in (
          refl,
          omega (arith, n),
          omega (arith, n, ap length cut, length-append bytes rest),
          (0 + suc (length bytes), ap (λ k. row Bare 0 0 0 (b ∷ take k text)) size ∙ ap (λ (x : List ℕ). row Bare 0 0 0 (b ∷ x)) (ap (take (length bytes)) cut ∙ take-append_seam bytes rest) ∙ on 0),
        )
  ]

  pub sound_word : BeginsWord b text → IsSound at b text (word_front at b text)
  unfolding word_front
  sound_word begins = sound_seen begins (row Bare at 0 at (b ∷ text)) refl

  pub sound : IsSound at b text (front at b text)
  unfolding front
  sound =
      let P : Front → Type 0 = IsSound at b text in
      cond_both (is_separator b) _ _ P sound_separator
      (λ no_end. cond_both (b == 35) _ _ P (λ _. tt)
      (λ no35. cond_both (b == 92 && begins (λ c. c == newline) text) _ _ P (λ _. tt)
      (λ no_pair. sound_word (no_end, and_from (not (b == 35)) (not (b == 92 && begins (λ c. c == newline) text)) (not_from_false _ no35) (not_from_false _ no_pair)))))

-- ---- what the program found

lexed_drop : (skip at : ℕ) (text : List ℕ) → skip ≤ length text → lexed_from skip at text ≡ lexed_from 0 (at + skip) (drop skip text)
lexed_drop zero at [] h = refl
lexed_drop zero at (b ∷ text) h = let e : at ≡ at + 0 = omega arith in ap (λ n. lexed_from 0 n (b ∷ text)) e
lexed_drop (suc skip) at [] h = absurd (omega arith)
lexed_drop (suc skip) at (b ∷ text) h = let e : suc at + skip ≡ at + suc skip = omega arith in lexed_drop skip (suc at) text (omega arith) ∙ ap (λ n. lexed_from 0 n (drop skip text)) e

-- a token is its fields
same_token : (token : Token) (more : Lexed) (kind : Kind) (start stop : ℕ) (parts : List Part) → token.kind ≡ kind → token.start ≡ start → token.stop ≡ stop → token.parts ≡ parts → follow (Sees token 0) more ≡ record { tokens = record { kind = kind; start = start; stop = stop; parts = parts } ∷ more.tokens; end = more.end }
same_token token more kind start stop parts a b c d =
    let with : Kind → ℕ → ℕ → List Part → Lexed = λ k s t p. record { tokens = record { kind = k; start = s; stop = t; parts = p } ∷ more.tokens; end = more.end } in
    ap (λ k. with k token.start token.stop token.parts) a ∙ ap (λ s. with kind s token.stop token.parts) b ∙ ap (λ t. with kind start t token.parts) c ∙ ap (λ (p : List Part). with kind start stop p) d

module _ (source : List ℕ) (at : ℕ) (inside : at < length source) where
  abbrev first : ℕ
  first = get_or source at 0

  abbrev behind : List ℕ
  behind = drop (at + 1) source

  behind_length : suc at + length behind ≡ length source
  behind_length = omega (arith, length-drop (at + 1) source)

  word_seen : BeginsWord first behind → (stop : ℕ) (seen : Seen) → row Bare at 0 at (first ∷ behind) ≡ seen → Ok stop ≡ stop_of seen → (Ok (code.Token kinds.Word stop) ≡ front_shown at (word_at at seen)) × (at < stop) × (stop ≤ length source)
  word_seen begins stop (Refuses error) is e = absurd (cc)
  word_seen begins stop (Takes stop' parts) is e =
      let same : stop ≡ stop' = cc in
      let s = sound_seen at first behind begins (Takes stop' parts) is in
      let n : stop ≡ at + suc (stop' - suc at) = same ∙ s.1 in
      let size = behind_length in
      (ap (λ n. Ok (code.Token kinds.Word n)) n, omega (arith, n), omega (arith, n, s.2, size))

  pub word_ok : BeginsWord first behind → (stop : ℕ) → Ok stop ≡ stop_of (row Bare at 0 at (drop at source)) → (Ok (code.Token kinds.Word stop) ≡ front_shown at (word_front at first behind)) × (at < stop) × (stop ≤ length source)
  unfolding word_front
  word_ok begins stop e = word_seen begins stop (row Bare at 0 at (first ∷ behind)) refl (e ∙ ap (λ (x : List ℕ). stop_of (row Bare at 0 at x)) (drop_more source at 0 inside))

  word_refused : (error : SyntaxError) (seen : Seen) → Err error ≡ stop_of seen → Err error ≡ front_shown at (word_at at seen)
  word_refused error (Refuses error') e = cc
  word_refused error (Takes stop parts) e = absurd (cc)

  pub word_err : (error : SyntaxError) → Err error ≡ stop_of (row Bare at 0 at (drop at source)) → Err error ≡ front_shown at (word_front at first behind)
  unfolding word_front
  word_err error e = word_refused error (row Bare at 0 at (first ∷ behind)) (e ∙ ap (λ (x : List ℕ). stop_of (row Bare at 0 at x)) (drop_more source at 0 inside))

  on_from : (found : Front) (skip : ℕ) → front at first behind ≡ found → skip_of found ≡ skip → skip ≤ length behind → lexed at (drop at source) ≡ follow found (lexed (at + suc skip) (drop (at + suc skip) source))
  on_from found skip is s h =
      let n : suc at + skip ≡ at + suc skip = omega arith in
      let k : (at + 1) + skip ≡ at + suc skip = omega arith in
      ap (λ (x : List ℕ). lexed at x) (drop_more source at 0 inside)
      ∙ lexed_step at first behind found is
      ∙ ap (λ k. follow found (lexed_from k (suc at) behind)) s
      ∙ ap (follow found) (lexed_drop skip (suc at) behind h
      ∙ ap (λ (x : List ℕ). lexed_from 0 (suc at + skip) x) (drop-drop skip (at + 1) source ∙ ap (λ n. drop n source) k)
      ∙ ap (λ n. lexed_from 0 n (drop (at + suc skip) source)) n)

  gap_seen : (stop : ℕ) (found : Front) → front at first behind ≡ found → Ok (code.Gap stop) ≡ front_shown at found → stop ≤ length source → lexed at (drop at source) ≡ lexed stop (drop stop source)
  gap_seen stop (Gap skip) is e h =
      let n : stop ≡ at + suc skip = cc in
      let size = behind_length in
      on_from (Gap skip) skip is refl (omega arith) ∙ ap (λ n. lexed n (drop n source)) (sym n)
  gap_seen stop (Sees token skip) is e h = absurd (cc)
  gap_seen stop (Stops error) is e h = absurd (cc)

  pub gap_next : (stop : ℕ) → Ok (code.Gap stop) ≡ front_shown at (front at first behind) → stop ≤ length source → lexed at (drop at source) ≡ lexed stop (drop stop source)
  gap_next stop e h = gap_seen stop (front at first behind) refl e h

  abbrev slice : ℕ → List ℕ
  slice stop = take (stop - at) (drop at source)

  -- what a token and the tokens after it are
  abbrev with_token : Kind → ℕ → Lexed → Lexed
  with_token kind stop more = record { tokens = record { kind = kind; start = at; stop = stop; parts = parts_in (row Bare 0 0 0 (slice stop)) } ∷ more.tokens; end = more.end }

  abbrev IsNext : Kind → ℕ → Type 0
  IsNext kind stop = (lexed at (drop at source) ≡ with_token kind stop (lexed stop (drop stop source))) × ((end : ℕ) × (row Bare 0 0 0 (slice stop) ≡ Takes end (parts_in (row Bare 0 0 0 (slice stop)))))

  token_seen : (kind : Kind) (stop : ℕ) (found : Front) → front at first behind ≡ found → IsSound at first behind found → Ok (code.Token kind stop) ≡ front_shown at found → IsNext kind stop
  token_seen kind stop (Gap skip) is s e = absurd (cc)
  token_seen kind stop (Stops error) is s e = absurd (cc)
  token_seen kind stop (Sees token skip) is s e =
      let k : token.kind ≡ kind = cc in
      let n : at + suc skip ≡ stop = cc in
      let size : stop - at ≡ suc skip = omega (arith, n) in
      let same : first ∷ take skip behind ≡ slice stop = ap (take (suc skip)) (sym (drop_more source at 0 inside)) ∙ ap (λ n. take n (drop at source)) (sym size) in
      let reads : row Bare 0 0 0 (slice stop) ≡ Takes s.3.0 token.parts = ap (λ (x : List ℕ). row Bare 0 0 0 x) (sym same) ∙ s.3.1 in
      let parts : token.parts ≡ parts_in (row Bare 0 0 0 (slice stop)) = sym (ap parts_in reads) in (
        on_from (Sees token skip) skip is refl s.2
            ∙ ap (λ n. follow (Sees token skip) (lexed n (drop n source))) n
            ∙ same_token token (lexed stop (drop stop source)) kind at stop _ k s.0 (s.1 ∙ n) parts,
        (s.3.0, reads ∙ ap (Takes s.3.0) parts),
      )

  pub token_next : (kind : Kind) (stop : ℕ) → Ok (code.Token kind stop) ≡ front_shown at (front at first behind) → IsNext kind stop
  token_next kind stop e = token_seen kind stop (front at first behind) refl (sound at first behind) e
