-- Each text is spelled.
use Rattle.std.proofs.Common.{◌≡◌, ◌≢◌, ℕ, zero, suc, ◌+◌, ◌<◌, ◌≤◌, ◌⊎◌, inl, inr, Bool, true, false, not, ◌&&◌, ◌||◌, ◌==◌, List, [], ◌∷◌, ◌++◌, map, length, refl, ap, sym, ◌∙◌, subst, arith, append_assoc, append-nil}
use Rattle.std.proofs.lemmas.Bool.{cases_Bool, eqb-true, eqb-false, false≢true, and_from, or_from, not_from_false, not-false, and_parts}
use Rattle.std.proofs.lemmas.List.{length-append}
use Rattle.std.specs.List.{list_all}
use Rattle.text.specs.Bytes.{newline}
use Rattle.text.specs.Words.{is_space}
use Rattle.hushlang.specs.ByteClasses.{is_separator, begins_name, is_name_byte, is_brace_byte, is_escapable, begins}
use Rattle.hushlang.specs.Token.{Part, Plain, Kept, Mark, Token, sign, word, End, Whole}
use Rattle.hushlang.specs.Token as ends
use Rattle.hushlang.specs.Spelling as spelling
use Rattle.hushlang.specs.Spelling.{IsDollar, IsBadDollar, open_brace, no_name, no_brace, Contents, Row, EndsWord, IsFaulty, may_begin_word, Spells}
use Rattle.hushlang.specs.declared.token.SyntaxError.{SyntaxError}
use Rattle.hushlang.specs.declared.token.SyntaxError.TheVariants.{SingleAmp, SinglePipe}
use Rattle.hushlang.specs.declared.token.Kind.TheVariants as kinds
use Rattle.hushlang.specs.Tokenizing.{Lexed, lexed}
use Rattle.hushlang.specs.Laws.{EachSpelled, SpelledOnce}
use Rattle.hushlang.proofs.SpellingLemmas.{row_span, tokens_read}

-- the bytes at the start of a text that pass a test, and the rest
pub data Cut (test : ℕ → Bool) (text : List ℕ) : Type 0 where
  cut : (front rest : List ℕ) → text ≡ front ++ rest → list_all test front ≡ true → begins test rest ≡ false → Cut test text

cut_more : (test : ℕ → Bool) (b : ℕ) (text : List ℕ) → test b ≡ true → Cut test text → Cut test (b ∷ text)
cut_more test b text e (cut front rest is all stops) = cut (b ∷ front) rest (ap (λ (x : List ℕ). b ∷ x) is) (and_from (test b) (list_all test front) e all) stops

pub cut_at : (test : ℕ → Bool) (text : List ℕ) → Cut test text
cut_at test [] = cut [] [] refl refl refl
cut_at test (b ∷ text) = elim (cases_Bool (test b)) [ inl e ↦ cut_more test b text e (cut_at test text) | inr e ↦ cut [] (b ∷ text) refl refl e ]

-- ---- a `$`

data DollarAnswer (split : Bool) (at : ℕ) (text : List ℕ) : Type 0 where
  Good : (spelled rest : List ℕ) {part : Part} → text ≡ spelled ++ rest → length rest < length text → IsDollar split spelled rest part → DollarAnswer split at text
  Bad : {error : SyntaxError} → IsBadDollar at text error → DollarAnswer split at text

module _ (split : Bool) (at : ℕ) where
  braced_named : (first : ℕ) (name rest : List ℕ) → list_all is_brace_byte (first ∷ name) ≡ true → first ∷ name ≢ 63 ∷ [] → DollarAnswer split at (36 ∷ 123 ∷ first ∷ name ++ 125 ∷ rest)
  braced_named first name rest all ne =
      Good (36 ∷ 123 ∷ first ∷ name ++ 125 ∷ []) rest (ap (λ (x : List ℕ). 36 ∷ 123 ∷ first ∷ x) (sym (append_assoc name (125 ∷ []) rest))) (omega (arith, length-append name (125 ∷ rest))) (spelling.braced name all ne)

  braced_closed : (first : ℕ) (name rest : List ℕ) → list_all is_brace_byte (first ∷ name) ≡ true → DollarAnswer split at (36 ∷ 123 ∷ first ∷ name ++ 125 ∷ rest)
  braced_closed first [] rest all = elim (cases_Bool (first == 63)) [
    | inl e ↦ subst (λ b. DollarAnswer split at (36 ∷ 123 ∷ b ∷ 125 ∷ rest)) (sym (eqb-true first 63 e)) (Good (36 ∷ 123 ∷ 63 ∷ 125 ∷ []) rest refl (omega arith) spelling.braced_status)
    | inr e ↦ braced_named first [] rest all (λ same. eqb-false first 63 e (cc))
  ]
  braced_closed first (c ∷ name) rest all = braced_named first (c ∷ name) rest all (λ same. cc)

  braced_by : (name rest : List ℕ) → list_all is_brace_byte name ≡ true → begins is_brace_byte rest ≡ false → DollarAnswer split at (36 ∷ 123 ∷ name ++ rest)
  braced_by name [] all stops = subst (λ (x : List ℕ). DollarAnswer split at (36 ∷ 123 ∷ x)) (sym (append-nil name)) (Bad (open_brace all))
  braced_by [] (b ∷ rest) all stops = Bad (no_name stops)
  braced_by (first ∷ name) (b ∷ rest) all stops = elim (cases_Bool (b == 125)) [
    | inl e ↦ subst (λ b. DollarAnswer split at (36 ∷ 123 ∷ first ∷ name ++ b ∷ rest)) (sym (eqb-true b 125 e)) (braced_closed first name rest all)
    | inr e ↦ Bad (no_brace name rest all stops (eqb-false b 125 e))
  ]

  braced_cut : {text : List ℕ} → Cut is_brace_byte text → DollarAnswer split at (36 ∷ 123 ∷ text)
  braced_cut (cut name rest is all stops) = subst (λ (x : List ℕ). DollarAnswer split at (36 ∷ 123 ∷ x)) (sym is) (braced_by name rest all stops)

  named_cut : (first : ℕ) {text : List ℕ} → begins_name first ≡ true → Cut is_name_byte text → DollarAnswer split at (36 ∷ first ∷ text)
  named_cut first f (cut name rest is all stops) = Good (36 ∷ first ∷ name) rest (ap (λ (x : List ℕ). 36 ∷ first ∷ x) is) (omega (arith, ap length is, length-append name rest)) (spelling.name f all stops)

  dollar_total : (text : List ℕ) → DollarAnswer split at (36 ∷ text)
  dollar_total [] = Good (36 ∷ []) [] refl (omega arith) spelling.at_end
  dollar_total (b ∷ text) = elim (cases_Bool (b == 63)) [
    | inl e ↦ subst (λ b. DollarAnswer split at (36 ∷ b ∷ text)) (sym (eqb-true b 63 e)) (Good (36 ∷ 63 ∷ []) text refl (omega arith) spelling.status)
    | inr no63 ↦ elim (cases_Bool (b == 123)) [
      | inl e ↦ subst (λ b. DollarAnswer split at (36 ∷ b ∷ text)) (sym (eqb-true b 123 e)) (braced_cut (cut_at is_brace_byte text))
      | inr no123 ↦ elim (cases_Bool (begins_name b)) [
        | inl e ↦ named_cut b e (cut_at is_name_byte text)
        | inr none ↦ Good (36 ∷ []) (b ∷ text) refl (omega arith) (spelling.before_other (and_from (not (begins_name b) && not (b == 63)) (not (b == 123)) (and_from (not (begins_name b)) (not (b == 63)) (not_from_false _ none) (not_from_false _ no63)) (not_from_false _ no123)))
      ]
    ]
  ]

-- ---- inside double quotes

data ContentsAnswer (at : ℕ) (text : List ℕ) : Type 0 where
  Closed : {close : ℕ} {after : List ℕ} {parts : List Part} → Contents at text parts close (34 ∷ after) → length after < length text → ContentsAnswer at text
  Open : {stop : ℕ} {parts : List Part} → Contents at text parts stop [] → ContentsAnswer at text
  Refused : {stop : ℕ} {rest : List ℕ} {parts : List Part} {error : SyntaxError} → Contents at text parts stop rest → IsBadDollar stop rest error → ContentsAnswer at text

grow : {at later : ℕ} {text more : List ℕ} (front : List Part → List Part) → ((parts : List Part) (stop : ℕ) (rest : List ℕ) → Contents later more parts stop rest → Contents at text (front parts) stop rest) → length more ≤ length text → ContentsAnswer later more → ContentsAnswer at text
grow front on fewer (Closed c lt) = Closed (on _ _ _ c) (omega arith)
grow front on fewer (Open c) = Open (on _ _ _ c)
grow front on fewer (Refused c bad) = Refused (on _ _ _ c) bad

behind_backslash : (turns at : ℕ) (text : List ℕ) → length text ≤ turns → ((later : ℕ) (text : List ℕ) → length text ≤ turns → ContentsAnswer later text) → ContentsAnswer at (92 ∷ text)
behind_backslash turns at [] h more = Open (spelling.last_backslash spelling.none)
behind_backslash turns at (b ∷ text) h more =
    elim (cases_Bool (is_escapable b)) [
      | inl e ↦ grow (λ (x : List Part). Kept b ∷ x) (λ _ _ _ c. spelling.escaped e c) (omega arith) (more (suc (suc at)) text (omega arith))
      | inr plain ↦ elim (cases_Bool (b == 10)) [
        | inl e ↦ subst (λ b. ContentsAnswer at (92 ∷ b ∷ text)) (sym (eqb-true b 10 e)) (grow (λ (x : List Part). x) (λ _ _ _ c. spelling.joined c) (omega arith) (more (suc (suc at)) text (omega arith)))
        | inr other ↦ grow (λ (x : List Part). Kept 92 ∷ x) (λ _ _ _ c. spelling.backslash plain (eqb-false b 10 other) c) (omega arith) (more (suc at) (b ∷ text) (omega arith))
      ]
    ]

behind_dollar : (turns at : ℕ) (text : List ℕ) → DollarAnswer false at (36 ∷ text) → length text ≤ turns → ((later : ℕ) (text : List ℕ) → length text ≤ turns → ContentsAnswer later text) → ContentsAnswer at (36 ∷ text)
behind_dollar turns at text (Good spelled rest {part = part} is fewer d) h more =
    subst (λ (x : List ℕ). ContentsAnswer at x) (sym is) (grow (λ (x : List Part). part ∷ x) (λ _ _ _ c. spelling.dollar d c) (omega (arith, length-append spelled rest)) (more (at + length spelled) rest (omega arith)))
behind_dollar turns at text (Bad bad) h more = Refused spelling.none bad

contents_total : (turns at : ℕ) (text : List ℕ) → length text ≤ turns → ContentsAnswer at text
contents_total turns at [] h = Open spelling.none
contents_total zero at (b ∷ text) h = absurd (omega arith)
contents_total (suc turns) at (b ∷ text) h =
    let more : (later : ℕ) (text : List ℕ) → length text ≤ turns → ContentsAnswer later text = contents_total turns in
    elim (cases_Bool (b == 34)) [
      | inl e ↦ subst (λ b. ContentsAnswer at (b ∷ text)) (sym (eqb-true b 34 e)) (Closed spelling.none (omega arith))
      | inr no34 ↦ elim (cases_Bool (b == 92)) [
        | inl e ↦ subst (λ b. ContentsAnswer at (b ∷ text)) (sym (eqb-true b 92 e)) (behind_backslash turns at text (omega arith) more)
        | inr no92 ↦ elim (cases_Bool (b == 36)) [
          | inl e ↦ subst (λ b. ContentsAnswer at (b ∷ text)) (sym (eqb-true b 36 e)) (behind_dollar turns at text (dollar_total false at text) (omega arith) more)
          | inr no36 ↦ grow (λ (x : List Part). Kept b ∷ x) (λ _ _ _ c. spelling.byte (or_from (b == 36 || b == 34) (b == 92) (or_from (b == 36) (b == 34) no36 no34) no92) c) (omega arith) (more (suc at) text (omega arith))
        ]
      ]
    ]

-- ---- rows of pieces

pub data RowAnswer (at : ℕ) (text : List ℕ) : Type 0 where
  Done : (parts : List Part) {stop : ℕ} {rest : List ℕ} → Row at text parts stop rest → EndsWord rest → RowAnswer at text
  Broken : {stop : ℕ} {rest : List ℕ} (parts : List Part) {error : SyntaxError} → Row at text parts stop rest → IsFaulty stop rest error → RowAnswer at text

row_nothing : {at stop : ℕ} {text rest : List ℕ} → Row at text [] stop rest → (text ≡ rest) × (at ≡ stop)
row_nothing spelling.none = (refl, refl)

-- a row goes on after more pieces
lengthen : {at later : ℕ} {text more : List ℕ} (front : List Part → List Part) → ((parts : List Part) (stop : ℕ) (rest : List ℕ) → Row later more parts stop rest → Row at text (front parts) stop rest) → RowAnswer later more → RowAnswer at text
lengthen front on (Done parts r w) = Done (front parts) (on _ _ _ r) w
lengthen front on (Broken parts r f) = Broken (front parts) (on _ _ _ r) f

-- a pair that vanishes, and what follows
vanish : {at : ℕ} {text : List ℕ} → RowAnswer (suc (suc at)) text → RowAnswer at (92 ∷ 10 ∷ text)
vanish (Done [] r w) = Done [] spelling.none (spelling.joined (let P : List ℕ → Type 0 = EndsWord in subst P (sym (row_nothing r).0) w))
vanish (Done (part ∷ parts) r w) = Done (part ∷ parts) (spelling.joined r) w
vanish {at = at} {text = text} (Broken {rest = rest} [] {error = error} r f) =
    let n = row_nothing r in
    Broken [] spelling.none (spelling.joined (subst (λ (x : List ℕ). IsFaulty (suc (suc at)) x error) (sym n.0) (subst (λ k. IsFaulty k rest error) (sym n.1) f)))
vanish (Broken (part ∷ parts) r f) = Broken (part ∷ parts) (spelling.joined r) f

module _ (turns : ℕ) (more : (later : ℕ) (text : List ℕ) → length text ≤ turns → RowAnswer later text) (at : ℕ) where
  row_backslash : (text : List ℕ) → length text ≤ turns → RowAnswer at (92 ∷ text)
  row_backslash [] h = Broken [] spelling.none spelling.backslash
  row_backslash (b ∷ text) h =
      elim (cases_Bool (b == 10)) [
        | inl e ↦ subst (λ b. RowAnswer at (92 ∷ b ∷ text)) (sym (eqb-true b 10 e)) (vanish (more (suc (suc at)) text (omega arith)))
        | inr e ↦ lengthen (λ (x : List Part). Kept b ∷ x) (λ _ _ _ r. spelling.escaped (eqb-false b 10 e) r) (more (suc (suc at)) text (omega arith))
      ]

  row_single : {text : List ℕ} → length text ≤ turns → Cut (λ b. not (b == 39)) text → RowAnswer at (39 ∷ text)
  row_single h (cut quoted [] is all stops) = subst (λ (x : List ℕ). RowAnswer at (39 ∷ x)) (sym (is ∙ append-nil quoted)) (Broken [] spelling.none (spelling.single all))
  row_single h (cut quoted (b ∷ rest) is all stops) =
      let closes : b ≡ 39 = eqb-true b 39 (not-false (b == 39) stops) in
      subst (λ (x : List ℕ). RowAnswer at (39 ∷ x)) (sym (is ∙ ap (λ b. quoted ++ b ∷ rest) closes))
      (lengthen (λ (x : List Part). Mark ∷ map Kept quoted ++ x) (λ _ _ _ r. spelling.single quoted all r) (more (suc (suc (at + length quoted))) rest (omega (arith, ap length is, length-append quoted (b ∷ rest)))))

  row_double : (text : List ℕ) → length text ≤ turns → ContentsAnswer (suc at) text → RowAnswer at (34 ∷ text)
  row_double text h (Closed {close = close} {after = after} {parts = quoted} c fewer) = lengthen (λ (x : List Part). Mark ∷ quoted ++ x) (λ _ _ _ r. spelling.double c r) (more (suc close) after (omega arith))
  row_double text h (Open c) = Broken [] spelling.none (spelling.double c)
  row_double text h (Refused c bad) = Broken [] spelling.none (spelling.inside c bad)

  row_dollar : (text : List ℕ) → length text ≤ turns → DollarAnswer true at (36 ∷ text) → RowAnswer at (36 ∷ text)
  row_dollar text h (Good spelled rest {part = part} is fewer d) = subst (λ (x : List ℕ). RowAnswer at x) (sym is) (lengthen (λ (x : List Part). part ∷ x) (λ _ _ _ r. spelling.dollar d r) (more (at + length spelled) rest (omega arith)))
  row_dollar text h (Bad bad) = Broken [] spelling.none (spelling.dollar bad)

  row_first : (b : ℕ) (text : List ℕ) → length text ≤ turns → RowAnswer at (b ∷ text)
  row_first b text h =
      elim (cases_Bool (is_separator b)) [
        | inl e ↦ Done [] spelling.none (spelling.separator e)
        | inr no_end ↦ elim (cases_Bool (b == 92)) [
          | inl e ↦ subst (λ b. RowAnswer at (b ∷ text)) (sym (eqb-true b 92 e)) (row_backslash text h)
          | inr no92 ↦ elim (cases_Bool (b == 39)) [
            | inl e ↦ subst (λ b. RowAnswer at (b ∷ text)) (sym (eqb-true b 39 e)) (row_single h (cut_at (λ b. not (b == 39)) text))
            | inr no39 ↦ elim (cases_Bool (b == 34)) [
              | inl e ↦ subst (λ b. RowAnswer at (b ∷ text)) (sym (eqb-true b 34 e)) (row_double text h (contents_total turns (suc at) text h))
              | inr no34 ↦ elim (cases_Bool (b == 36)) [
                | inl e ↦ subst (λ b. RowAnswer at (b ∷ text)) (sym (eqb-true b 36 e)) (row_dollar text h (dollar_total true at text))
                | inr no36 ↦ lengthen (λ (x : List Part). Plain b ∷ x) (λ _ _ _ r. spelling.ordinary (not_from_false _ (or_from (is_separator b || b == 39 || b == 34 || b == 92) (b == 36) (or_from (is_separator b || b == 39 || b == 34) (b == 92) (or_from (is_separator b || b == 39) (b == 34) (or_from (is_separator b) (b == 39) no_end no39) no34) no92) no36)) r) (more (suc at) text h)
              ]
            ]
          ]
        ]
      ]

pub row_total : (turns at : ℕ) (text : List ℕ) → length text ≤ turns → RowAnswer at text
row_total turns at [] h = Done [] spelling.none spelling.at_end
row_total zero at (b ∷ text) h = absurd (omega arith)
row_total (suc turns) at (b ∷ text) h = row_first turns (row_total turns) at b text (omega arith)

-- ---- tokens

data SpellsAnswer (at : ℕ) (text : List ℕ) : Type 0 where
  Says : (tokens : List Token) (end : End) → Spells at text tokens end → SpellsAnswer at text

further : {at later : ℕ} {text more : List ℕ} (front : List Token → List Token) → ((tokens : List Token) (end : End) → Spells later more tokens end → Spells at text (front tokens) end) → SpellsAnswer later more → SpellsAnswer at text
further front on (Says tokens end s) = Says (front tokens) end (on tokens end s)

-- a word does not end where a word may start
pub begins_no_end : (b : ℕ) (text : List ℕ) → is_separator b ≡ false → may_begin_word (b ∷ text) ≡ true → EndsWord (b ∷ text) → ⊥
begins_no_end b text no_end may (spelling.separator e) = false≢true (sym no_end ∙ e)
begins_no_end b text no_end may (spelling.joined w) = false≢true may

fewer_left : (b : ℕ) (text bytes rest : List ℕ) → b ∷ text ≡ bytes ++ rest → (b ∷ text ≢ rest) → length rest ≤ length text
fewer_left b text [] rest e other = absurd (other e)
fewer_left b text (c ∷ bytes) rest e other = omega (arith, ap length e, length-append bytes rest)

comment_end : (text : List ℕ) → begins (λ b. not (b == newline)) text ≡ false → (text ≡ []) ⊎ (begins (λ b. b == newline) text ≡ true)
comment_end [] stops = inl refl
comment_end (b ∷ text) stops = inr (not-false (b == newline) stops)

module _ (turns : ℕ) (more : (later : ℕ) (text : List ℕ) → length text ≤ turns → SpellsAnswer later text) (at : ℕ) where
  comment_cut : {text : List ℕ} → length text ≤ turns → Cut (λ b. not (b == newline)) text → SpellsAnswer at (35 ∷ text)
  comment_cut h (cut note rest is all stops) =
      subst (λ (x : List ℕ). SpellsAnswer at (35 ∷ x)) (sym is)
      (further (λ (x : List Token). x) (λ _ _ s. spelling.comment note all (comment_end rest stops) s) (more (suc at + length note) rest (omega (arith, ap length is, length-append note rest))))

  and_next : (text : List ℕ) → length text ≤ turns → SpellsAnswer at (38 ∷ text)
  and_next [] h = Says [] _ (spelling.single_amp refl)
  and_next (c ∷ text) h = elim (cases_Bool (c == 38)) [
    | inl e ↦ subst (λ b. SpellsAnswer at (38 ∷ b ∷ text)) (sym (eqb-true c 38 e)) (further (λ (x : List Token). sign kinds.AndAnd at (suc (suc at)) ∷ x) (λ _ _ s. spelling.and_and s) (more (suc (suc at)) text (omega arith)))
    | inr e ↦ Says [] (ends.Refused (SingleAmp at)) (spelling.single_amp e)
  ]

  or_next : (text : List ℕ) → length text ≤ turns → SpellsAnswer at (124 ∷ text)
  or_next [] h = Says [] _ (spelling.single_pipe refl)
  or_next (c ∷ text) h = elim (cases_Bool (c == 124)) [
    | inl e ↦ subst (λ b. SpellsAnswer at (124 ∷ b ∷ text)) (sym (eqb-true c 124 e)) (further (λ (x : List Token). sign kinds.OrOr at (suc (suc at)) ∷ x) (λ _ _ s. spelling.or_or s) (more (suc (suc at)) text (omega arith)))
    | inr e ↦ Says [] (ends.Refused (SinglePipe at)) (spelling.single_pipe e)
  ]

  word_next : (b : ℕ) (text : List ℕ) → length text ≤ turns → is_separator b ≡ false → may_begin_word (b ∷ text) ≡ true → RowAnswer at (b ∷ text) → SpellsAnswer at (b ∷ text)
  word_next b text h no_end may (Done [] {rest = rest} r w) = absurd (begins_no_end b text no_end may (let P : List ℕ → Type 0 = EndsWord in subst P (sym (row_nothing r).0) w))
  word_next b text h no_end may (Done (part ∷ parts) {stop = stop} {rest = rest} r w) =
      let span = row_span r in
      let other : b ∷ text ≢ rest = λ e. begins_no_end b text no_end may (let P : List ℕ → Type 0 = EndsWord in subst P (sym e) w) in
      let fewer = fewer_left b text span.0 rest span.1 other in
      further (λ (x : List Token). word at stop (part ∷ parts) ∷ x) (λ _ _ s. spelling.word_token may r w s) (more stop rest (omega arith))
  word_next b text h no_end may (Broken parts {error = error} r f) = Says [] (ends.Refused error) (spelling.broken may r f)

  behind_pair : (text : List ℕ) → length text ≤ turns → begins (λ c. c == newline) text ≡ true → SpellsAnswer at (92 ∷ text)
  behind_pair [] h e = absurd (false≢true e)
  behind_pair (b ∷ text) h e = subst (λ b. SpellsAnswer at (92 ∷ b ∷ text)) (sym (eqb-true b 10 e)) (further (λ (x : List Token). x) (λ _ _ s. spelling.joined s) (more (suc (suc at)) text (omega arith)))

  at_separator : (b : ℕ) (text : List ℕ) → length text ≤ turns → is_separator b ≡ true → SpellsAnswer at (b ∷ text)
  at_separator b text h e = elim (cases_Bool (is_space b)) [
    | inl e ↦ further (λ (x : List Token). x) (λ _ _ s. spelling.blank e s) (more (suc at) text h)
    | inr no_blank ↦ elim (cases_Bool (b == 59)) [
      | inl e ↦ subst (λ b. SpellsAnswer at (b ∷ text)) (sym (eqb-true b 59 e)) (further (λ (x : List Token). sign kinds.Semi at (suc at) ∷ x) (λ _ _ s. spelling.semi s) (more (suc at) text h))
      | inr no59 ↦ elim (cases_Bool (b == 38)) [
        | inl e ↦ subst (λ b. SpellsAnswer at (b ∷ text)) (sym (eqb-true b 38 e)) (and_next text h)
        | inr no38 ↦ elim (cases_Bool (b == 124)) [
          | inl e ↦ subst (λ b. SpellsAnswer at (b ∷ text)) (sym (eqb-true b 124 e)) (or_next text h)
          | inr no124 ↦ elim (cases_Bool (b == newline)) [
            | inl e ↦ subst (λ b. SpellsAnswer at (b ∷ text)) (sym (eqb-true b 10 e)) (further (λ (x : List Token). sign kinds.Newline at (suc at) ∷ x) (λ _ _ s. spelling.newline_token s) (more (suc at) text h))
            | inr no10 ↦ absurd (false≢true (sym (or_from (is_space b || b == 59 || b == 38 || b == 124) (b == newline) (or_from (is_space b || b == 59 || b == 38) (b == 124) (or_from (is_space b || b == 59) (b == 38) (or_from (is_space b) (b == 59) no_blank no59) no38) no124) no10) ∙ e))
          ]
        ]
      ]
    ]
  ]

  spells_first : (b : ℕ) (text : List ℕ) → length text ≤ turns → SpellsAnswer at (b ∷ text)
  spells_first b text h = elim (cases_Bool (is_separator b)) [
    | inl e ↦ at_separator b text h e
    | inr no_end ↦ elim (cases_Bool (b == 35)) [
      | inl e ↦ subst (λ b. SpellsAnswer at (b ∷ text)) (sym (eqb-true b 35 e)) (comment_cut h (cut_at (λ b. not (b == newline)) text))
      | inr no35 ↦ elim (cases_Bool (b == 92 && begins (λ c. c == newline) text)) [
        | inl e ↦ let p = and_parts (b == 92) (begins (λ c. c == newline) text) e in subst (λ b. SpellsAnswer at (b ∷ text)) (sym (eqb-true b 92 p.0)) (behind_pair text h p.1)
        | inr no_pair ↦ word_next b text h no_end (and_from (not (b == 35)) (not (b == 92 && begins (λ c. c == newline) text)) (not_from_false _ no35) (not_from_false _ no_pair)) (row_total (suc turns) at (b ∷ text) (omega arith))
      ]
    ]
  ]

spells_total : (turns at : ℕ) (text : List ℕ) → length text ≤ turns → SpellsAnswer at text
spells_total turns at [] h = Says [] Whole spelling.whole
spells_total zero at (b ∷ text) h = absurd (omega arith)
spells_total (suc turns) at (b ∷ text) h = spells_first turns (spells_total turns) at b text (omega arith)

-- ---- the laws

answered : {at : ℕ} {text : List ℕ} → SpellsAnswer at text → Spells at text (lexed at text).tokens (lexed at text).end
answered {at = at} {text = text} (Says tokens end s) = subst (λ (x : Lexed). Spells at text x.tokens x.end) (sym (tokens_read s)) s

pub each_spelled : EachSpelled
each_spelled at text = answered (spells_total (length text) at text (omega arith))

pub spelled_once : SpelledOnce
spelled_once at text tokens end s = tokens_read s
