-- What a text spells is what is computed.
use Rattle.std.proofs.Common.{◌≡◌, ◌≢◌, ℕ, suc, ◌+◌, ◌-◌, ◌⊎◌, inl, inr, Bool, true, false, not, ◌&&◌, ◌||◌, ◌==◌, List, [], ◌∷◌, ◌++◌, map, length, take, drop, refl, ap, sym, ◌∙◌, arith, append_assoc, append-nil}
use Rattle.std.proofs.lemmas.Bool.{not-true, or_parts, and_parts, ne_eqb, false≢true, not_from_true, false_from_ne_true}
use Rattle.std.proofs.Math.Seq.{take-append_seam, drop-append_seam}
use Rattle.std.proofs.lemmas.List.{length-append}
use Rattle.std.specs.List.{prefix_len, list_all}
use Rattle.text.specs.Bytes.{newline}
use Rattle.hushlang.specs.ByteClasses.{is_separator, is_ordinary, begins_name, is_name_byte, is_brace_byte, is_escapable, begins}
use Rattle.hushlang.specs.Token.{Part, Plain, Kept, Mark, Var, Status, Token, sign, word, End, Refused}
use Rattle.hushlang.specs.Spelling as spelling
use Rattle.hushlang.specs.Spelling.{dollar_itself, is_bare, IsDollar, IsBadDollar, open_brace, no_name, no_brace, Contents, Row, EndsWord, IsFaulty, may_begin_word, Spells}
use Rattle.hushlang.specs.Tokenizing.{Step, Goes, Ends, Fails, splits, variable, closed, braced, named, dollar, bare, inside, step, Seen, Takes, Refuses, in_front, mode_behind, skip_behind, stop_behind, onto, row, Front, Gap, Sees, Stops, word_at, word_front, front, skip_of, follow, lexed_from}
use Rattle.hushlang.specs.declared.word_parts.Mode.{Mode}
use Rattle.hushlang.specs.declared.word_parts.Mode.TheVariants.{Bare, Single, Double}
use Rattle.hushlang.specs.declared.token.SyntaxError.{SyntaxError}
use Rattle.hushlang.specs.declared.token.Kind.TheVariants as kinds
use Rattle.hushlang.specs.declared.token.SyntaxError.TheVariants.{OpenQuote, OpenBrace, BadVariable, SingleAmp, SinglePipe}

-- ---- tests of bytes

-- a byte that passes a test differs from one that fails it
pub differs : (test : ℕ → Bool) (n b : ℕ) → test n ≡ false → test b ≡ true → (b == n) ≡ false
differs test n b fails passes = ne_eqb b n (λ e. false≢true (sym fails ∙ ap test (sym e) ∙ passes))

pub ordinary_tests : (b : ℕ) → is_ordinary b ≡ true → (is_separator b ≡ false) × ((b == 39) ≡ false) × ((b == 34) ≡ false) × ((b == 92) ≡ false) × ((b == 36) ≡ false)
ordinary_tests b h =
    let e = not-true (is_separator b || b == 39 || b == 34 || b == 92 || b == 36) h in
    let p36 = or_parts (is_separator b || b == 39 || b == 34 || b == 92) (b == 36) e in
    let p92 = or_parts (is_separator b || b == 39 || b == 34) (b == 92) p36.0 in
    let p34 = or_parts (is_separator b || b == 39) (b == 34) p92.0 in
    let p39 = or_parts (is_separator b) (b == 39) p34.0 in
    (p39.0, p39.1, p34.1, p92.1, p36.1)

pub escapable_tests : (b : ℕ) → is_escapable b ≡ false → ((b == 36) ≡ false) × ((b == 34) ≡ false) × ((b == 92) ≡ false)
escapable_tests b h =
    let p92 = or_parts (b == 36 || b == 34) (b == 92) h in
    let p34 = or_parts (b == 36) (b == 34) p92.0 in
    (p34.0, p34.1, p92.1)

pub bare_tests : (b : ℕ) → is_bare b ≡ true → (begins_name b ≡ false) × ((b == 63) ≡ false) × ((b == 123) ≡ false)
bare_tests b h =
    let p123 = and_parts (not (begins_name b) && not (b == 63)) (not (b == 123)) h in
    let p63 = and_parts (not (begins_name b)) (not (b == 63)) p123.0 in
    (not-true (begins_name b) p63.0, not-true (b == 63) p63.1, not-true (b == 123) p123.1)

-- as many as pass, if the next does not
pub prefix_of : (test : ℕ → Bool) (name rest : List ℕ) → list_all test name ≡ true → begins test rest ≡ false → prefix_len test (name ++ rest) ≡ length name
prefix_of test [] [] all stops = refl
prefix_of test [] (b ∷ rest) all stops = rw stops
prefix_of test (b ∷ name) rest all stops =
    let p = and_parts (test b) (list_all test name) all in
    let ih = prefix_of test name rest p.1 stops in
    rw p.0 (omega arith)

-- ---- rows

pub in_front-nil : (x : Seen) → in_front [] x ≡ x
in_front-nil (Takes stop parts) = refl
in_front-nil (Refuses error) = refl

pub in_front-append : (xs ys : List Part) (x : Seen) → in_front xs (in_front ys x) ≡ in_front (xs ++ ys) x
in_front-append xs ys (Takes stop parts) = ap (Takes stop) (sym (append_assoc xs ys parts))
in_front-append xs ys (Refuses error) = refl

pub row_step : (mode : Mode) (s at b : ℕ) (text : List ℕ) (found : Step) → step mode at b text ≡ found → row mode s 0 at (b ∷ text) ≡ onto found s (row (mode_behind mode found) (stop_behind s at found) (skip_behind found) (suc at) text)
row_step mode s at b text found e = ap (λ (w : Step). onto w s (row (mode_behind mode w) (stop_behind s at w) (skip_behind w) (suc at) text)) e

pub row_skip : (front : List ℕ) (mode : Mode) (s at : ℕ) (text : List ℕ) → row mode s (length front) at (front ++ text) ≡ row mode s 0 (at + length front) text
row_skip [] mode s at text = let e : at ≡ at + 0 = omega arith in ap (λ n. row mode s 0 n text) e
row_skip (b ∷ front) mode s at text = let e : suc at + length front ≡ at + suc (length front) = omega arith in row_skip front mode s (suc at) text ∙ ap (λ n. row mode s 0 n text) e

-- ---- a `$`

pub variable_is : (split : Bool) (first : ℕ) (name : List ℕ) → first ∷ name ≢ 63 ∷ [] → variable split first name ≡ Var (first ∷ name) split
variable_is split first [] ne = let e : (first == 63) ≡ false = ne_eqb first 63 (λ e. ne (ap (λ b. b ∷ []) e)) in rw e
variable_is split first (b ∷ name) ne = refl

braced_at : (mode : Mode) (at first : ℕ) (name rest : List ℕ) → list_all is_brace_byte (first ∷ name) ≡ true → begins is_brace_byte rest ≡ false → braced mode at (first ∷ name ++ rest) ≡ closed mode at (first ∷ name) rest
unfolding braced
braced_at mode at first name rest all stops =
    let e = prefix_of is_brace_byte (first ∷ name) rest all stops in
    ap (λ n. closed mode at (take n (first ∷ name ++ rest)) (drop n (first ∷ name ++ rest))) e
    ∙ ap (λ (x : List ℕ). closed mode at x (drop (suc (length name)) (first ∷ name ++ rest))) (take-append_seam (first ∷ name) rest)
    ∙ ap (λ (x : List ℕ). closed mode at (first ∷ name) x) (drop-append_seam (first ∷ name) rest)

module _ (mode : Mode) (s at : ℕ) (here : (text : List ℕ) → step mode at 36 text ≡ dollar mode at text) where
  row_dollar_at : (more rest : List ℕ) (part : Part) → dollar mode at (more ++ rest) ≡ Goes mode (length more) (part ∷ []) → row mode s 0 at (36 ∷ more ++ rest) ≡ in_front (part ∷ []) (row mode (at + suc (length more)) 0 (at + suc (length more)) rest)
  row_dollar_at more rest part e =
      let n : suc at + length more ≡ at + suc (length more) = omega arith in
      row_step mode s at 36 (more ++ rest) (Goes mode (length more) (part ∷ [])) (here (more ++ rest) ∙ e)
      ∙ ap (in_front (part ∷ [])) (row_skip more mode (suc at + length more) (suc at) rest ∙ ap (λ n. row mode n 0 n rest) n)

  pub row_dollar : {spelled rest : List ℕ} {part : Part} → IsDollar (splits mode) spelled rest part → row mode s 0 at (spelled ++ rest) ≡ in_front (part ∷ []) (row mode (at + length spelled) 0 (at + length spelled) rest)
  unfolding dollar
  row_dollar (spelling.name {first = first} {name = name} {rest = rest} f n e) =
      let is63 = differs begins_name 63 first refl f in
      let is123 = differs begins_name 123 first refl f in
      let inner = prefix_of is_name_byte name rest n e in
      let size : 1 + prefix_len is_name_byte (name ++ rest) ≡ suc (length name) = omega arith in
      row_dollar_at (first ∷ name) rest (Var (first ∷ name) (splits mode))
      (rw (is63, is123, f) (ap (λ n. named mode n (first ∷ name ++ rest)) size ∙ ap (λ (x : List ℕ). Goes mode (suc (length name)) (Var x (splits mode) ∷ [])) (take-append_seam (first ∷ name) rest)))
  row_dollar {rest = rest} spelling.status = row_dollar_at (63 ∷ []) rest Status refl
  row_dollar {rest = rest} (spelling.braced {first = first} name all ne) =
      let k : 3 + length name ≡ suc (suc (length (name ++ 125 ∷ []))) = omega (arith, length-append name (125 ∷ [])) in
      row_dollar_at (123 ∷ first ∷ name ++ 125 ∷ []) rest (Var (first ∷ name) (splits mode))
      (ap (λ (x : List ℕ). braced mode at (first ∷ x)) (append_assoc name (125 ∷ []) rest)
      ∙ braced_at mode at first name (125 ∷ rest) all refl
      ∙ ap (λ (p : Part). Goes mode (3 + length name) (p ∷ [])) (variable_is (splits mode) first name ne)
      ∙ ap (λ n. Goes mode n (Var (first ∷ name) (splits mode) ∷ [])) k)
  row_dollar {rest = rest} spelling.braced_status = row_dollar_at (123 ∷ 63 ∷ 125 ∷ []) rest Status (braced_at mode at 63 [] (125 ∷ rest) refl refl)
  row_dollar (spelling.before_other {b = b} {rest = rest} other) =
      let t = bare_tests b other in
      row_dollar_at [] (b ∷ rest) (dollar_itself (splits mode)) (rw (t.1, t.2, t.0))
  row_dollar spelling.at_end = row_dollar_at [] [] (dollar_itself (splits mode)) refl

  row_bad_at : (more : List ℕ) (error : SyntaxError) → braced mode at more ≡ Fails error → row mode s 0 at (36 ∷ 123 ∷ more) ≡ Refuses error
  unfolding dollar
  row_bad_at more error e = row_step mode s at 36 (123 ∷ more) (Fails error) (here (123 ∷ more) ∙ e)

  pub row_bad : {text : List ℕ} {error : SyntaxError} → IsBadDollar at text error → row mode s 0 at text ≡ Refuses error
  unfolding braced
  row_bad (open_brace {name = []} all) = row_bad_at [] (OpenBrace at) refl
  row_bad (open_brace {name = first ∷ name} all) = row_bad_at (first ∷ name) (OpenBrace at) (ap (braced mode at) (sym (append-nil (first ∷ name))) ∙ braced_at mode at first name [] all refl)
  row_bad (no_name {b = b} {rest = rest} none) = row_bad_at (b ∷ rest) (BadVariable at) (rw none)
  row_bad (no_brace {first = first} {b = b} name rest all none ne) =
      let e : (b == 125) ≡ false = ne_eqb b 125 ne in
      row_bad_at (first ∷ name ++ b ∷ rest) (BadVariable at) (braced_at mode at first name (b ∷ rest) all none ∙ rw e)

-- ---- quotes

quoted_reads : (quoted : List ℕ) (opening s at : ℕ) (text : List ℕ) → list_all (λ b. not (b == 39)) quoted ≡ true → (t : ℕ) × (row (Single opening) s 0 at (quoted ++ text) ≡ in_front (map Kept quoted) (row (Single opening) t 0 (at + length quoted) text))
unfolding step
quoted_reads [] opening s at text all =
    let e : at ≡ at + 0 = omega arith in
    (s, ap (λ n. row (Single opening) s 0 n text) e ∙ sym (in_front-nil (row (Single opening) s 0 (at + 0) text)))
quoted_reads (b ∷ quoted) opening s at text all =
    let p = and_parts (not (b == 39)) (list_all (λ b. not (b == 39)) quoted) all in
    let no39 = not-true (b == 39) p.0 in
    let more = quoted_reads quoted opening (suc at + 0) (suc at) text p.1 in
    let e : suc at + length quoted ≡ at + suc (length quoted) = omega arith in
    let rest : Seen = row (Single opening) more.0 0 (suc at + length quoted) text in
    (more.0, row_step (Single opening) s at b (quoted ++ text) (Goes (Single opening) 0 (Kept b ∷ [])) (rw no39) ∙ ap (in_front (Kept b ∷ [])) more.1 ∙ in_front-append (Kept b ∷ []) (map Kept quoted) rest ∙ ap (λ n. in_front (map Kept (b ∷ quoted)) (row (Single opening) more.0 0 n text)) e)

module _ (opening : ℕ) where
  inside_dollar : (at : ℕ) (text : List ℕ) → step (Double opening) at 36 text ≡ dollar (Double opening) at text
  unfolding step inside
  inside_dollar at text = refl

  inside_byte : (at b : ℕ) (text : List ℕ) → is_escapable b ≡ false → step (Double opening) at b text ≡ Goes (Double opening) 0 (Kept b ∷ [])
  unfolding step inside
  inside_byte at b text no_escape = let t = escapable_tests b no_escape in rw (t.1, t.2, t.0)

  -- the parts of one look, and then those of what follows
  on : (s at b skip : ℕ) (text : List ℕ) (now parts : List Part) (more : Seen) → step (Double opening) at b text ≡ Goes (Double opening) skip now → row (Double opening) (suc at + skip) skip (suc at) text ≡ in_front parts more → row (Double opening) s 0 at (b ∷ text) ≡ in_front (now ++ parts) more
  on s at b skip text now parts more e ih = row_step (Double opening) s at b text (Goes (Double opening) skip now) e ∙ ap (in_front now) ih ∙ in_front-append now parts more

  contents_read : {at stop : ℕ} {text rest : List ℕ} {parts : List Part} → Contents at text parts stop rest → (s : ℕ) → (t : ℕ) × (row (Double opening) s 0 at text ≡ in_front parts (row (Double opening) t 0 stop rest))
  unfolding step inside
  contents_read {at = at} {rest = rest} spelling.none s = (s, sym (in_front-nil (row (Double opening) s 0 at rest)))
  contents_read {stop = stop} {rest = rest} (spelling.byte {at = at} {b = b} {text = text} {parts = parts} e c) s =
      let ih = contents_read c (suc at + 0) in
      (ih.0, on s at b 0 text (Kept b ∷ []) parts (row (Double opening) ih.0 0 stop rest) (inside_byte at b text e) ih.1)
  contents_read {stop = stop} {rest = rest} (spelling.escaped {at = at} {b = b} {text = text} {parts = parts} e c) s =
      let ih = contents_read c (suc at + 1) in
      (ih.0, on s at 92 1 (b ∷ text) (Kept b ∷ []) parts (row (Double opening) ih.0 0 stop rest) (rw e) ih.1)
  contents_read {stop = stop} {rest = rest} (spelling.joined {at = at} {text = text} {parts = parts} c) s =
      let ih = contents_read c (suc at + 1) in
      (ih.0, on s at 92 1 (10 ∷ text) [] parts (row (Double opening) ih.0 0 stop rest) refl ih.1)
  contents_read {stop = stop} {rest = rest} (spelling.backslash {at = at} {b = b} {text = text} {parts = parts} e ne c) s =
      let ih = contents_read c (suc at + 0) in
      let other : (b == 10) ≡ false = ne_eqb b 10 ne in
      let t = escapable_tests b e in
      (ih.0, on s at 92 0 (b ∷ text) (Kept 92 ∷ []) parts (row (Double opening) ih.0 0 stop rest) (rw (t.0, t.1, t.2, other)) ih.1)
  contents_read {stop = stop} {rest = rest} (spelling.last_backslash {at = at} {parts = parts} c) s =
      let ih = contents_read c (suc at + 0) in
      (ih.0, on s at 92 0 [] (Kept 92 ∷ []) parts (row (Double opening) ih.0 0 stop rest) refl ih.1)
  contents_read {stop = stop} {rest = rest} (spelling.dollar {at = at} {spelled = spelled} {text = text} {part = part} {parts = parts} d c) s =
      let ih = contents_read c (at + length spelled) in
      (ih.0, row_dollar (Double opening) s at (inside_dollar at) d ∙ ap (in_front (part ∷ [])) ih.1 ∙ in_front-append (part ∷ []) parts (row (Double opening) ih.0 0 stop rest))

-- ---- rows of pieces

bare_dollar : (at : ℕ) (text : List ℕ) → step Bare at 36 text ≡ dollar Bare at text
unfolding step bare
bare_dollar at text = refl

bare_ordinary : (at b : ℕ) (text : List ℕ) → is_ordinary b ≡ true → step Bare at b text ≡ Goes Bare 0 (Plain b ∷ [])
unfolding step bare
bare_ordinary at b text h = let t = ordinary_tests b h in rw (t.0, t.3, t.1, t.2, t.4)

pub bare_separator : (at b : ℕ) (text : List ℕ) → is_separator b ≡ true → step Bare at b text ≡ Ends
unfolding step bare
bare_separator at b text h = rw h

closing : (opening s at : ℕ) (text : List ℕ) → row (Single opening) s 0 at (39 ∷ text) ≡ row Bare (suc at + 0) 0 (suc at) text
unfolding step
closing opening s at text = in_front-nil (row Bare (suc at + 0) 0 (suc at) text)

closing_double : (opening s at : ℕ) (text : List ℕ) → row (Double opening) s 0 at (34 ∷ text) ≡ row Bare (suc at + 0) 0 (suc at) text
unfolding step inside
closing_double opening s at text = in_front-nil (row Bare (suc at + 0) 0 (suc at) text)

pub row_reads : {at stop : ℕ} {text rest : List ℕ} {parts : List Part} → Row at text parts stop rest → (s : ℕ) → (parts ≡ [] → s ≡ at) → row Bare s 0 at text ≡ in_front parts (row Bare stop 0 stop rest)
unfolding step bare
row_reads {at = at} {rest = rest} spelling.none s same = ap (λ n. row Bare n 0 at rest) (same refl) ∙ sym (in_front-nil (row Bare at 0 at rest))
row_reads {stop = stop} {rest = rest} (spelling.ordinary {at = at} {b = b} {text = text} {parts = parts} o r) s same =
    row_step Bare s at b text (Goes Bare 0 (Plain b ∷ [])) (bare_ordinary at b text o)
    ∙ ap (in_front (Plain b ∷ [])) (row_reads r (suc at + 0) (λ _. omega arith))
    ∙ in_front-append (Plain b ∷ []) parts (row Bare stop 0 stop rest)
row_reads {stop = stop} {rest = rest} (spelling.escaped {at = at} {b = b} {text = text} {parts = parts} ne r) s same =
    let other : (b == 10) ≡ false = ne_eqb b 10 ne in
    row_step Bare s at 92 (b ∷ text) (Goes Bare 1 (Kept b ∷ [])) (rw other)
    ∙ ap (in_front (Kept b ∷ [])) (row_reads r (suc at + 1) (λ _. omega arith))
    ∙ in_front-append (Kept b ∷ []) parts (row Bare stop 0 stop rest)
row_reads {stop = stop} {rest = rest} (spelling.single {at = at} quoted {text = text} {parts = parts} all r) s same =
    let q = quoted_reads quoted at (suc at + 0) (suc at) (39 ∷ text) all in
    let j : ℕ = suc (at + length quoted) in
    let same_place : suc at + length quoted ≡ j = omega arith in
    row_step Bare s at 39 (quoted ++ 39 ∷ text) (Goes (Single at) 0 (Mark ∷ [])) refl
    ∙ ap (in_front (Mark ∷ [])) (q.1 ∙ ap (in_front (map Kept quoted)) (closing at q.0 (suc at + length quoted) text ∙ ap (λ n. row Bare (suc n + 0) 0 (suc n) text) same_place ∙ row_reads r (suc j + 0) (λ _. omega arith)))
    ∙ ap (in_front (Mark ∷ [])) (in_front-append (map Kept quoted) parts (row Bare stop 0 stop rest))
    ∙ in_front-append (Mark ∷ []) (map Kept quoted ++ parts) (row Bare stop 0 stop rest)
row_reads {stop = stop} {rest = rest} (spelling.double {at = at} {close = close} {text = text} {after = after} {quoted = quoted} {parts = parts} c r) s same =
    let q = contents_read at c (suc at + 0) in
    row_step Bare s at 34 text (Goes (Double at) 0 (Mark ∷ [])) refl
    ∙ ap (in_front (Mark ∷ [])) (q.1 ∙ ap (in_front quoted) (closing_double at q.0 close after ∙ row_reads r (suc close + 0) (λ _. omega arith)))
    ∙ ap (in_front (Mark ∷ [])) (in_front-append quoted parts (row Bare stop 0 stop rest))
    ∙ in_front-append (Mark ∷ []) (quoted ++ parts) (row Bare stop 0 stop rest)
row_reads {stop = stop} {rest = rest} (spelling.dollar {at = at} {spelled = spelled} {text = text} {part = part} {parts = parts} d r) s same =
    row_dollar Bare s at (bare_dollar at) d
    ∙ ap (in_front (part ∷ [])) (row_reads r (at + length spelled) (λ _. refl))
    ∙ in_front-append (part ∷ []) parts (row Bare stop 0 stop rest)
row_reads {stop = stop} {rest = rest} (spelling.joined {at = at} {text = text} {part = part} {parts = parts} r) s same =
    row_reads r s (λ e. cc)

-- ---- where a row ends, and what refuses it

pub ends_reads : {rest : List ℕ} → EndsWord rest → (s at : ℕ) → row Bare s 0 at rest ≡ Takes s []
unfolding step bare
ends_reads spelling.at_end s at = refl
ends_reads (spelling.separator {b = b} {rest = rest} e) s at = row_step Bare s at b rest Ends (bare_separator at b rest e)
ends_reads (spelling.joined w) s at = ends_reads w s (suc (suc at))

quoted_open : (quoted : List ℕ) (opening s at : ℕ) → list_all (λ b. not (b == 39)) quoted ≡ true → row (Single opening) s 0 at quoted ≡ Refuses (OpenQuote opening)
quoted_open quoted opening s at all =
    let q = quoted_reads quoted opening s at [] all in
    ap (λ (x : List ℕ). row (Single opening) s 0 at x) (sym (append-nil quoted)) ∙ q.1

pub faulty_reads : {at : ℕ} {text : List ℕ} {error : SyntaxError} → IsFaulty at text error → (s : ℕ) → row Bare s 0 at text ≡ Refuses error
unfolding step bare
faulty_reads (spelling.single {at = at} {quoted = quoted} all) s =
    row_step Bare s at 39 quoted (Goes (Single at) 0 (Mark ∷ [])) refl ∙ ap (in_front (Mark ∷ [])) (quoted_open quoted at (suc at + 0) (suc at) all)
faulty_reads (spelling.double {at = at} {text = text} {parts = parts} c) s =
    let q = contents_read at c (suc at + 0) in
    row_step Bare s at 34 text (Goes (Double at) 0 (Mark ∷ [])) refl ∙ ap (in_front (Mark ∷ [])) q.1
faulty_reads (spelling.inside {at = at} {stop = stop} {text = text} {parts = parts} c bad) s =
    let q = contents_read at c (suc at + 0) in
    row_step Bare s at 34 text (Goes (Double at) 0 (Mark ∷ [])) refl ∙ ap (in_front (Mark ∷ [])) (q.1 ∙ ap (in_front parts) (row_bad (Double at) q.0 stop (inside_dollar at stop) bad))
faulty_reads spelling.backslash s = refl
faulty_reads (spelling.dollar {at = at} bad) s = row_bad Bare s at (bare_dollar at) bad
faulty_reads (spelling.joined f) s = faulty_reads f s

-- ---- the bytes of a row

pub contents_span : {at stop : ℕ} {text rest : List ℕ} {parts : List Part} → Contents at text parts stop rest → (bytes : List ℕ) × (text ≡ bytes ++ rest) × (stop ≡ at + length bytes)
contents_span spelling.none = ([], refl, omega arith)
contents_span (spelling.byte {b = b} e c) = let w = contents_span c in (b ∷ w.0, ap (λ (x : List ℕ). b ∷ x) w.1, omega (arith, w.2))
contents_span (spelling.escaped {b = b} e c) = let w = contents_span c in (92 ∷ b ∷ w.0, ap (λ (x : List ℕ). 92 ∷ b ∷ x) w.1, omega (arith, w.2))
contents_span (spelling.joined c) = let w = contents_span c in (92 ∷ 10 ∷ w.0, ap (λ (x : List ℕ). 92 ∷ 10 ∷ x) w.1, omega (arith, w.2))
contents_span (spelling.backslash e ne c) = let w = contents_span c in (92 ∷ w.0, ap (λ (x : List ℕ). 92 ∷ x) w.1, omega (arith, w.2))
contents_span (spelling.last_backslash c) = let w = contents_span c in (92 ∷ w.0, ap (λ (x : List ℕ). 92 ∷ x) w.1, omega (arith, w.2))
contents_span {rest = rest} (spelling.dollar {spelled = spelled} d c) =
    let w = contents_span c in
    (spelled ++ w.0, ap (λ (x : List ℕ). spelled ++ x) w.1 ∙ sym (append_assoc spelled w.0 rest), omega (arith, w.2, length-append spelled w.0))

pub row_span : {at stop : ℕ} {text rest : List ℕ} {parts : List Part} → Row at text parts stop rest → (bytes : List ℕ) × (text ≡ bytes ++ rest) × (stop ≡ at + length bytes)
row_span spelling.none = ([], refl, omega arith)
row_span (spelling.ordinary {b = b} o r) = let w = row_span r in (b ∷ w.0, ap (λ (x : List ℕ). b ∷ x) w.1, omega (arith, w.2))
row_span (spelling.escaped {b = b} ne r) = let w = row_span r in (92 ∷ b ∷ w.0, ap (λ (x : List ℕ). 92 ∷ b ∷ x) w.1, omega (arith, w.2))
row_span {rest = rest} (spelling.single quoted all r) =
    let w = row_span r in
    (39 ∷ quoted ++ 39 ∷ w.0, ap (λ (x : List ℕ). 39 ∷ quoted ++ 39 ∷ x) w.1 ∙ ap (λ (x : List ℕ). 39 ∷ x) (sym (append_assoc quoted (39 ∷ w.0) rest)), omega (arith, w.2, length-append quoted (39 ∷ w.0)))
row_span {rest = rest} (spelling.double c r) =
    let q = contents_span c in
    let w = row_span r in
    (34 ∷ q.0 ++ 34 ∷ w.0, ap (λ (x : List ℕ). 34 ∷ x) (q.1 ∙ ap (λ (x : List ℕ). q.0 ++ 34 ∷ x) w.1 ∙ sym (append_assoc q.0 (34 ∷ w.0) rest)), omega (arith, w.2, q.2, length-append q.0 (34 ∷ w.0)))
row_span {rest = rest} (spelling.dollar {spelled = spelled} d r) =
    let w = row_span r in
    (spelled ++ w.0, ap (λ (x : List ℕ). spelled ++ x) w.1 ∙ sym (append_assoc spelled w.0 rest), omega (arith, w.2, length-append spelled w.0))
row_span (spelling.joined r) = let w = row_span r in (92 ∷ 10 ∷ w.0, ap (λ (x : List ℕ). 92 ∷ 10 ∷ x) w.1, omega (arith, w.2))

-- ---- tokens

pub lexed_skip : (front : List ℕ) (at : ℕ) (text : List ℕ) → lexed_from (length front) at (front ++ text) ≡ lexed_from 0 (at + length front) text
lexed_skip [] at text = let e : at ≡ at + 0 = omega arith in ap (λ n. lexed_from 0 n text) e
lexed_skip (b ∷ front) at text = let e : suc at + length front ≡ at + suc (length front) = omega arith in lexed_skip front (suc at) text ∙ ap (λ n. lexed_from 0 n text) e

pub lexed_step : (at b : ℕ) (text : List ℕ) (found : Front) → front at b text ≡ found → lexed_from 0 at (b ∷ text) ≡ follow found (lexed_from (skip_of found) (suc at) text)
lexed_step at b text found e = ap (λ (w : Front). follow w (lexed_from (skip_of w) (suc at) text)) e

pub front_word : (at b : ℕ) (text : List ℕ) → is_separator b ≡ false → may_begin_word (b ∷ text) ≡ true → front at b text ≡ word_front at b text
unfolding front
front_word at b text sep may =
    let m = and_parts (not (b == 35)) (not (b == 92 && begins (λ c. c == newline) text)) may in
    rw (sep, not-true (b == 35) m.0, not-true (b == 92 && begins (λ c. c == newline) text) m.1)

-- a text that starts with a separator has no row
no_separator : (s at b : ℕ) (text : List ℕ) → (row Bare s 0 at (b ∷ text) ≢ Takes s []) → is_separator b ≡ false
no_separator s at b text other = false_from_ne_true (is_separator b) (λ e. other (row_step Bare s at b text Ends (bare_separator at b text e)))

-- after a row of bytes
behind_row : (at stop b : ℕ) (text rest bytes : List ℕ) → b ∷ text ≡ bytes ++ rest → stop ≡ at + length bytes → (b ∷ text ≢ rest) → lexed_from (stop - suc at) (suc at) text ≡ lexed_from 0 stop rest
behind_row at stop b text rest [] e n other = absurd (other e)
behind_row at stop b text rest (c ∷ bytes) e n other =
    let tail : text ≡ bytes ++ rest = cc in
    let count : stop - suc at ≡ length bytes = omega arith in
    let place : suc at + length bytes ≡ stop = omega arith in
    ap (λ n. lexed_from n (suc at) text) count ∙ ap (λ (x : List ℕ). lexed_from (length bytes) (suc at) x) tail ∙ lexed_skip bytes (suc at) rest ∙ ap (λ n. lexed_from 0 n rest) place

word_reads : (at b : ℕ) (text : List ℕ) {stop : ℕ} {rest : List ℕ} {part : Part} {parts : List Part} → may_begin_word (b ∷ text) ≡ true → Row at (b ∷ text) (part ∷ parts) stop rest → EndsWord rest → lexed_from 0 at (b ∷ text) ≡ follow (Sees (word at stop (part ∷ parts)) (stop - suc at)) (lexed_from 0 stop rest)
unfolding word_front
word_reads at b text {stop = stop} {rest = rest} {part = part} {parts = parts} may r w =
    let reads : row Bare at 0 at (b ∷ text) ≡ Takes stop (part ∷ parts) = row_reads r at (λ e. cc) ∙ ap (in_front (part ∷ parts)) (ends_reads w stop stop) ∙ ap (λ (x : List Part). Takes stop (part ∷ x)) (append-nil parts) in
    let sep = no_separator at at b text (λ e. let both : Takes stop (part ∷ parts) ≡ Takes at [] = sym reads ∙ e in cc) in
    let seen : front at b text ≡ Sees (word at stop (part ∷ parts)) (stop - suc at) = front_word at b text sep may ∙ ap (word_at at) reads in
    let span = row_span r in
    let other : b ∷ text ≢ rest = λ e. let both : Takes stop (part ∷ parts) ≡ Takes at [] = sym reads ∙ ap (λ (x : List ℕ). row Bare at 0 at x) e ∙ ends_reads w at at in cc in
    lexed_step at b text (Sees (word at stop (part ∷ parts)) (stop - suc at)) seen
    ∙ ap (follow (Sees (word at stop (part ∷ parts)) (stop - suc at))) (behind_row at stop b text rest span.0 span.1 span.2 other)

broken_reads : (at b : ℕ) (text : List ℕ) {stop : ℕ} {rest : List ℕ} {parts : List Part} {error : SyntaxError} → may_begin_word (b ∷ text) ≡ true → Row at (b ∷ text) parts stop rest → IsFaulty stop rest error → lexed_from 0 at (b ∷ text) ≡ record { tokens = []; end = Refused error }
unfolding word_front
broken_reads at b text {stop = stop} {parts = parts} {error = error} may r f =
    let reads : row Bare at 0 at (b ∷ text) ≡ Refuses error = row_reads r at (λ e. refl) ∙ ap (in_front parts) (faulty_reads f stop) in
    let sep = no_separator at at b text (λ e. let both : Refuses error ≡ Takes at [] = sym reads ∙ e in cc) in
    lexed_step at b text (Stops error) (front_word at b text sep may ∙ ap (word_at at) reads)

comment_ends : (text : List ℕ) → (text ≡ []) ⊎ (begins (λ b. b == newline) text ≡ true) → begins (λ b. not (b == newline)) text ≡ false
comment_ends [] ends = refl
comment_ends (b ∷ text) (inl e) = absurd (cc)
comment_ends (b ∷ text) (inr e) = not_from_true (b == newline) e

pub tokens_read : {at : ℕ} {text : List ℕ} {tokens : List Token} {end : End} → Spells at text tokens end → lexed_from 0 at text ≡ record { tokens = tokens; end = end }
unfolding front
tokens_read spelling.whole = refl
tokens_read (spelling.blank {at = at} {b = b} {text = text} e more) = lexed_step at b text (Gap 0) (rw e) ∙ tokens_read more
tokens_read (spelling.joined more) = tokens_read more
tokens_read (spelling.comment {at = at} note {text = text} all ends more) =
    let size = prefix_of (λ b. not (b == newline)) note text all (comment_ends text ends) in
    lexed_step at 35 (note ++ text) (Gap (length note)) (ap Gap size) ∙ lexed_skip note (suc at) text ∙ tokens_read more
tokens_read (spelling.semi {at = at} more) = ap (follow (Sees (sign kinds.Semi at (suc at)) 0)) (tokens_read more)
tokens_read (spelling.newline_token {at = at} more) = ap (follow (Sees (sign kinds.Newline at (suc at)) 0)) (tokens_read more)
tokens_read (spelling.and_and {at = at} more) = ap (follow (Sees (sign kinds.AndAnd at (suc (suc at))) 1)) (tokens_read more)
tokens_read (spelling.or_or {at = at} more) = ap (follow (Sees (sign kinds.OrOr at (suc (suc at))) 1)) (tokens_read more)
tokens_read (spelling.word_token {text = []} may r w more) = absurd (false≢true may)
tokens_read (spelling.word_token {at = at} {stop = stop} {text = b ∷ text} {part = part} {parts = parts} may r w more) =
    word_reads at b text may r w ∙ ap (follow (Sees (word at stop (part ∷ parts)) (stop - suc at))) (tokens_read more)
tokens_read (spelling.single_amp {at = at} {text = text} no_more) = lexed_step at 38 text (Stops (SingleAmp at)) (rw no_more)
tokens_read (spelling.single_pipe {at = at} {text = text} no_more) = lexed_step at 124 text (Stops (SinglePipe at)) (rw no_more)
tokens_read (spelling.broken {text = []} may r f) = absurd (false≢true may)
tokens_read (spelling.broken {at = at} {text = b ∷ text} may r f) = broken_reads at b text may r f
