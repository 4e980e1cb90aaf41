-- A word has the same parts alone and at any other place.
use Rattle.std.proofs.Common.{◌≡◌, ◌≢◌, ℕ, suc, ◌+◌, Bool, true, false, List, [], ◌∷◌, ◌++◌, length, refl, ap, sym, ◌∙◌, subst, arith, append_assoc, append-nil}
use Rattle.std.proofs.lemmas.List.{length-append}
use Rattle.std.proofs.lemmas.Bool.{true≢false}
use Rattle.text.specs.Bytes.{newline}
use Rattle.hushlang.specs.ByteClasses.{is_separator, is_name_byte, is_escapable, begins}
use Rattle.hushlang.specs.Token.{Part, Kept, Mark}
use Rattle.hushlang.specs.Spelling as spelling
use Rattle.hushlang.specs.Spelling.{is_bare, IsDollar, Contents, Row, EndsWord, may_begin_word}
use Rattle.hushlang.specs.Tokenizing.{Takes, Refuses, in_front, row}
use Rattle.hushlang.specs.declared.word_parts.Mode.TheVariants.{Bare}
use Rattle.hushlang.proofs.SpellingLemmas.{row_reads, ends_reads, faulty_reads}
use Rattle.hushlang.proofs.SpellingOfEachText.{RowAnswer, Done, Broken, row_total, begins_no_end}

module _ {split : Bool} where
  -- with less text after it
  dollar_front : {spelled text : List ℕ} {part : Part} → IsDollar split spelled text part → (bytes rest : List ℕ) → text ≡ bytes ++ rest → IsDollar split spelled bytes part
  dollar_front (spelling.name f n e) [] rest is = spelling.name f n refl
  dollar_front (spelling.name f n e) (c ∷ bytes) rest is = spelling.name f n (ap (begins is_name_byte) (sym is) ∙ e)
  dollar_front spelling.status bytes rest is = spelling.status
  dollar_front (spelling.braced name all ne) bytes rest is = spelling.braced name all ne
  dollar_front spelling.braced_status bytes rest is = spelling.braced_status
  dollar_front (spelling.before_other h) [] rest is = spelling.at_end
  dollar_front (spelling.before_other {b = b} h) (c ∷ bytes) rest is = let same : b ≡ c = cc in spelling.before_other (ap is_bare (sym same) ∙ h)
  dollar_front spelling.at_end [] rest is = spelling.at_end
  dollar_front spelling.at_end (c ∷ bytes) rest is = absurd (cc)

  -- with other text after a closing quote
  dollar_quoted : {spelled text : List ℕ} {part : Part} → IsDollar split spelled text part → (bytes after other : List ℕ) → text ≡ bytes ++ 34 ∷ after → IsDollar split spelled (bytes ++ 34 ∷ other) part
  dollar_quoted (spelling.name f n e) [] after other is = spelling.name f n refl
  dollar_quoted (spelling.name f n e) (c ∷ bytes) after other is = spelling.name f n (ap (begins is_name_byte) (sym is) ∙ e)
  dollar_quoted spelling.status bytes after other is = spelling.status
  dollar_quoted (spelling.braced name all ne) bytes after other is = spelling.braced name all ne
  dollar_quoted spelling.braced_status bytes after other is = spelling.braced_status
  dollar_quoted (spelling.before_other h) [] after other is = spelling.before_other refl
  dollar_quoted (spelling.before_other {b = b} h) (c ∷ bytes) after other is = let same : b ≡ c = cc in spelling.before_other (ap is_bare (sym same) ∙ h)
  dollar_quoted spelling.at_end [] after other is = absurd (cc)
  dollar_quoted spelling.at_end (c ∷ bytes) after other is = absurd (cc)

stop_at : {at stop stop' : ℕ} {text rest : List ℕ} {parts : List Part} → stop ≡ stop' → Row at text parts stop rest → Row at text parts stop' rest
stop_at {at = at} {text = text} {rest = rest} {parts = parts} e r = subst (λ n. Row at text parts n rest) e r

close_at : {at stop stop' : ℕ} {text rest : List ℕ} {parts : List Part} → stop ≡ stop' → Contents at text parts stop rest → Contents at text parts stop' rest
close_at {at = at} {text = text} {rest = rest} {parts = parts} e c = subst (λ n. Contents at text parts n rest) e c

no_close : (bytes after : List ℕ) → [] ≡ bytes ++ 34 ∷ after → ⊥
no_close [] after e = cc
no_close (b ∷ bytes) after e = cc

-- bytes up to a closing quote, whatever follows it
pub data UpToQuote (at : ℕ) (text after : List ℕ) (parts : List Part) (stop : ℕ) : Type 0 where
  up_to : (bytes : List ℕ) → text ≡ bytes ++ 34 ∷ after → stop ≡ at + length bytes → ((from : ℕ) (other : List ℕ) → Contents from (bytes ++ 34 ∷ other) parts (from + length bytes) (34 ∷ other)) → UpToQuote at text after parts stop

quoted_backslash : {at stop b : ℕ} {text after : List ℕ} {parts : List Part} → is_escapable b ≡ false → b ≢ newline → UpToQuote (suc at) (b ∷ text) after parts stop → UpToQuote at (92 ∷ b ∷ text) after (Kept 92 ∷ parts) stop
quoted_backslash p ne (up_to [] is n on) = absurd (true≢false (sym (ap (λ (x : List ℕ). begins is_escapable x) is) ∙ p))
quoted_backslash {b = b} p ne (up_to (c ∷ bytes) is n on) =
    let same : b ≡ c = cc in
    up_to (92 ∷ c ∷ bytes) (ap (λ (x : List ℕ). 92 ∷ x) is) (omega (arith, n)) (λ from other. close_at (omega arith) (spelling.backslash (ap is_escapable (sym same) ∙ p) (λ e. ne (same ∙ e)) (on (suc from) other)))

quoted_dollar : {at stop : ℕ} {spelled text after : List ℕ} {part : Part} {parts : List Part} → IsDollar false spelled text part → UpToQuote (at + length spelled) text after parts stop → UpToQuote at (spelled ++ text) after (part ∷ parts) stop
quoted_dollar {spelled = spelled} {after = after} {part = part} {parts = parts} d (up_to bytes is n on) =
    up_to (spelled ++ bytes) (ap (λ (x : List ℕ). spelled ++ x) is ∙ sym (append_assoc spelled bytes (34 ∷ after))) (omega (arith, n, length-append spelled bytes))
    (λ from other. close_at (omega (arith, length-append spelled bytes)) (subst (λ (x : List ℕ). Contents from x (part ∷ parts) (from + length spelled + length bytes) (34 ∷ other)) (sym (append_assoc spelled bytes (34 ∷ other))) (spelling.dollar (dollar_quoted d bytes after other is) (on (from + length spelled) other))))

contents_alone : {at stop : ℕ} {text rest : List ℕ} {parts : List Part} → Contents at text parts stop rest → (after : List ℕ) → rest ≡ 34 ∷ after → UpToQuote at text after parts stop
contents_alone spelling.none after e = up_to [] e (omega arith) (λ from other. close_at (omega arith) spelling.none)
contents_alone (spelling.byte {b = b} p c) after e = elim (contents_alone c after e) [ up_to bytes is n on ↦ up_to (b ∷ bytes) (ap (λ (x : List ℕ). b ∷ x) is) (omega (arith, n)) (λ from other. close_at (omega arith) (spelling.byte p (on (suc from) other))) ]
contents_alone (spelling.escaped {b = b} p c) after e = elim (contents_alone c after e) [ up_to bytes is n on ↦ up_to (92 ∷ b ∷ bytes) (ap (λ (x : List ℕ). 92 ∷ b ∷ x) is) (omega (arith, n)) (λ from other. close_at (omega arith) (spelling.escaped p (on (suc (suc from)) other))) ]
contents_alone (spelling.joined c) after e = elim (contents_alone c after e) [ up_to bytes is n on ↦ up_to (92 ∷ 10 ∷ bytes) (ap (λ (x : List ℕ). 92 ∷ 10 ∷ x) is) (omega (arith, n)) (λ from other. close_at (omega arith) (spelling.joined (on (suc (suc from)) other))) ]
contents_alone (spelling.backslash p ne c) after e = quoted_backslash p ne (contents_alone c after e)
contents_alone (spelling.last_backslash c) after e = elim (contents_alone c after e) [ up_to bytes is n on ↦ absurd (no_close bytes after is) ]
contents_alone (spelling.dollar d c) after e = quoted_dollar d (contents_alone c after e)

-- ---- rows

-- bytes that are alone, at any place
pub data AloneToo (at : ℕ) (text : List ℕ) (parts : List Part) (stop : ℕ) (rest : List ℕ) : Type 0 where
  alone : (bytes : List ℕ) → text ≡ bytes ++ rest → stop ≡ at + length bytes → ((from : ℕ) → Row from bytes parts (from + length bytes) []) → AloneToo at text parts stop rest

double_alone : {at close stop : ℕ} {text after rest : List ℕ} {quoted parts : List Part} → UpToQuote (suc at) text after quoted close → AloneToo (suc close) after parts stop rest → AloneToo at (34 ∷ text) (Mark ∷ quoted ++ parts) stop rest
double_alone {rest = rest} (up_to inner is n on) (alone bytes is' n' on') =
    alone (34 ∷ inner ++ 34 ∷ bytes) (ap (λ (x : List ℕ). 34 ∷ x) (is ∙ ap (λ (x : List ℕ). inner ++ 34 ∷ x) is' ∙ sym (append_assoc inner (34 ∷ bytes) rest))) (omega (arith, n, n', length-append inner (34 ∷ bytes)))
    (λ from. stop_at (omega (arith, length-append inner (34 ∷ bytes))) (spelling.double (on (suc from) bytes) (on' (suc (suc from + length inner)))))

dollar_alone : {at stop : ℕ} {spelled text rest : List ℕ} {part : Part} {parts : List Part} → IsDollar true spelled text part → AloneToo (at + length spelled) text parts stop rest → AloneToo at (spelled ++ text) (part ∷ parts) stop rest
dollar_alone {spelled = spelled} {rest = rest} d (alone bytes is n on) =
    alone (spelled ++ bytes) (ap (λ (x : List ℕ). spelled ++ x) is ∙ sym (append_assoc spelled bytes rest)) (omega (arith, n, length-append spelled bytes))
    (λ from. stop_at (omega (arith, length-append spelled bytes)) (spelling.dollar (dollar_front d bytes rest is) (on (from + length spelled))))

pub row_alone : {at stop : ℕ} {text rest : List ℕ} {parts : List Part} → Row at text parts stop rest → AloneToo at text parts stop rest
row_alone spelling.none = alone [] refl (omega arith) (λ from. stop_at (omega arith) spelling.none)
row_alone (spelling.ordinary {b = b} o r) = elim (row_alone r) [ alone bytes is n on ↦ alone (b ∷ bytes) (ap (λ (x : List ℕ). b ∷ x) is) (omega (arith, n)) (λ from. stop_at (omega arith) (spelling.ordinary o (on (suc from)))) ]
row_alone (spelling.escaped {b = b} ne r) = elim (row_alone r) [ alone bytes is n on ↦ alone (92 ∷ b ∷ bytes) (ap (λ (x : List ℕ). 92 ∷ b ∷ x) is) (omega (arith, n)) (λ from. stop_at (omega arith) (spelling.escaped ne (on (suc (suc from))))) ]
row_alone {rest = rest} (spelling.single quoted all r) = elim (row_alone r) [
  | alone bytes is n on ↦
      alone (39 ∷ quoted ++ 39 ∷ bytes) (ap (λ (x : List ℕ). 39 ∷ quoted ++ 39 ∷ x) is ∙ ap (λ (x : List ℕ). 39 ∷ x) (sym (append_assoc quoted (39 ∷ bytes) rest))) (omega (arith, n, length-append quoted (39 ∷ bytes)))
      (λ from. stop_at (omega (arith, length-append quoted (39 ∷ bytes))) (spelling.single quoted all (on (suc (suc (from + length quoted))))))
]
row_alone (spelling.double {after = after} c r) = double_alone (contents_alone c after refl) (row_alone r)
row_alone (spelling.dollar d r) = dollar_alone d (row_alone r)
row_alone (spelling.joined r) = elim (row_alone r) [ alone bytes is n on ↦ alone (92 ∷ 10 ∷ bytes) (ap (λ (x : List ℕ). 92 ∷ 10 ∷ x) is) (omega (arith, n)) (λ from. stop_at (omega arith) (spelling.joined (on (suc (suc from))))) ]

-- ---- words

-- a word takes these bytes after its first, and has the same parts alone and at any place
pub data WordTakes (at b : ℕ) (text : List ℕ) (stop : ℕ) (parts : List Part) : Type 0 where
  takes : (bytes rest : List ℕ) → text ≡ bytes ++ rest → stop ≡ at + suc (length bytes) → ((from : ℕ) → row Bare from 0 from (b ∷ bytes) ≡ Takes (from + suc (length bytes)) parts) → WordTakes at b text stop parts

row_whole : {at stop : ℕ} {text : List ℕ} {parts : List Part} → Row at text parts stop [] → row Bare at 0 at text ≡ Takes stop parts
row_whole {stop = stop} {parts = parts} r = row_reads r _ (λ _. refl) ∙ ap (Takes stop) (append-nil parts)

word_alone : {at b stop : ℕ} {text rest : List ℕ} {parts : List Part} → (b ∷ text ≢ rest) → AloneToo at (b ∷ text) parts stop rest → WordTakes at b text stop parts
word_alone other (alone [] is n on) = absurd (other is)
word_alone {b = b} {rest = rest} {parts = parts} other (alone (c ∷ bytes) is n on) =
    let same : c ≡ b = cc in
    let tail : _ ≡ bytes ++ rest = cc in
    takes bytes rest tail n (λ from. ap (λ b. row Bare from 0 from (b ∷ bytes)) (sym same) ∙ row_whole (on from))

word_answer : (at b : ℕ) (text : List ℕ) → is_separator b ≡ false → may_begin_word (b ∷ text) ≡ true → (stop : ℕ) (parts : List Part) → row Bare at 0 at (b ∷ text) ≡ Takes stop parts → RowAnswer at (b ∷ text) → WordTakes at b text stop parts
word_answer at b text no_end may stop parts seen (Done found {stop = stop'} {rest = rest} r w) =
    let reads : row Bare at 0 at (b ∷ text) ≡ Takes stop' found = row_reads r at (λ _. refl) ∙ ap (in_front found) (ends_reads w stop' stop') ∙ ap (Takes stop') (append-nil found) in
    let both : Takes stop' found ≡ Takes stop parts = sym reads ∙ seen in
    let s : stop' ≡ stop = cc in
    let p : found ≡ parts = cc in
    let other : b ∷ text ≢ rest = λ e. begins_no_end b text no_end may (let P : List ℕ → Type 0 = EndsWord in subst P (sym e) w) in
    subst (λ n. WordTakes at b text n parts) s (subst (λ (x : List Part). WordTakes at b text stop' x) p (word_alone other (row_alone r)))
word_answer at b text no_end may stop parts seen (Broken found {error = error} r f) =
    let reads : row Bare at 0 at (b ∷ text) ≡ Refuses error = row_reads r at (λ _. refl) ∙ ap (in_front found) (faulty_reads f _) in
    let both : Refuses error ≡ Takes stop parts = sym reads ∙ seen in
    absurd (cc)

pub word_takes : (at b : ℕ) (text : List ℕ) → is_separator b ≡ false → may_begin_word (b ∷ text) ≡ true → (stop : ℕ) (parts : List Part) → row Bare at 0 at (b ∷ text) ≡ Takes stop parts → WordTakes at b text stop parts
word_takes at b text no_end may stop parts seen = word_answer at b text no_end may stop parts seen (row_total (suc (length text)) at (b ∷ text) (omega arith))
