-- Tokens follow one another.
use Rattle.std.proofs.Common.{◌≡◌, ℕ, ◌+◌, ◌<◌, ◌≤◌, Bool, List, [], ◌∷◌, length, ap, subst, arith}
use Rattle.std.proofs.lemmas.List.{length-append}
use Rattle.hushlang.specs.Token.{Part, Token, End, Whole, Refused}
use Rattle.hushlang.specs.Spelling as spelling
use Rattle.hushlang.specs.Spelling.{IsDollar, IsBadDollar, open_brace, no_name, no_brace, Row, IsFaulty, Spells}
use Rattle.hushlang.specs.Laws.{StandsWithin, AreInOrder, TokensInOrder}
use Rattle.hushlang.specs.declared.token.SyntaxError.{SyntaxError}
use Rattle.hushlang.specs.declared.token.SyntaxError.TheVariants.{OpenQuote, LoneBackslash, OpenBrace, BadVariable, SingleAmp, SinglePipe}
use Rattle.hushlang.proofs.SpellingLemmas.{row_span, contents_span}

-- ---- what refuses a text is inside it

within_wider : {start stop start' stop' : ℕ} (error : SyntaxError) → start' ≤ start → stop ≤ stop' → StandsWithin start stop error → StandsWithin start' stop' error
within_wider (OpenQuote at) a b h = (omega arith, omega arith)
within_wider (LoneBackslash at) a b h = (omega arith, omega arith)
within_wider (OpenBrace at) a b h = (omega arith, omega arith)
within_wider (BadVariable at) a b h = (omega arith, omega arith)
within_wider (SingleAmp at) a b h = (omega arith, omega arith)
within_wider (SinglePipe at) a b h = (omega arith, omega arith)
within_wider _ a b h = absurd h

bad_within : {at : ℕ} {text : List ℕ} {error : SyntaxError} → IsBadDollar at text error → StandsWithin at (at + length text) error
bad_within (open_brace all) = (omega arith, omega arith)
bad_within (no_name none) = (omega arith, omega arith)
bad_within (no_brace name rest all none ne) = (omega arith, omega arith)

faulty_within : {at : ℕ} {text : List ℕ} {error : SyntaxError} → IsFaulty at text error → StandsWithin at (at + length text) error
faulty_within (spelling.single all) = (omega arith, omega arith)
faulty_within (spelling.double c) = (omega arith, omega arith)
faulty_within (spelling.inside {rest = rest} {error = error} c bad) = let w = contents_span c in within_wider error (omega (arith, w.2)) (omega (arith, w.2, ap length w.1, length-append w.0 rest)) (bad_within bad)
faulty_within spelling.backslash = (omega arith, omega arith)
faulty_within (spelling.dollar bad) = bad_within bad
faulty_within (spelling.joined {error = error} f) = within_wider error (omega arith) (omega arith) (faulty_within f)

-- ---- a word has a byte

dollar_some : {split : Bool} {spelled rest : List ℕ} {part : Part} → IsDollar split spelled rest part → 0 < length spelled
dollar_some (spelling.name f n e) = omega arith
dollar_some spelling.status = omega arith
dollar_some (spelling.braced name all ne) = omega arith
dollar_some spelling.braced_status = omega arith
dollar_some (spelling.before_other other) = omega arith
dollar_some spelling.at_end = omega arith

row_some : {at stop : ℕ} {text rest : List ℕ} {part : Part} {parts : List Part} → Row at text (part ∷ parts) stop rest → at < stop
row_some (spelling.ordinary o r) = let w = row_span r in omega (arith, w.2)
row_some (spelling.escaped ne r) = let w = row_span r in omega (arith, w.2)
row_some (spelling.single quoted all r) = let w = row_span r in omega (arith, w.2)
row_some (spelling.double c r) = let q = contents_span c in let w = row_span r in omega (arith, w.2, q.2)
row_some (spelling.dollar d r) = let some = dollar_some d in let w = row_span r in omega (arith, w.2, some)
row_some (spelling.joined r) = let some = row_some r in omega arith

-- ---- tokens

later : {start start' stop stop' : ℕ} (tokens : List Token) (end : End) → start' ≤ start → stop ≡ stop' → AreInOrder start stop tokens end → AreInOrder start' stop' tokens end
later [] Whole a b h = tt
later [] (Refused error) a b h = within_wider error a (omega arith) h
later {stop = stop} {stop' = stop'} (t ∷ tokens) end a b h = (omega arith, h.1, omega arith, subst (λ n. AreInOrder t.stop n tokens end) b h.3)

in_order : {at : ℕ} {text : List ℕ} {tokens : List Token} {end : End} → Spells at text tokens end → AreInOrder at (at + length text) tokens end
in_order spelling.whole = tt
in_order (spelling.blank {tokens = tokens} {end = end} e more) = later tokens end (omega arith) (omega arith) (in_order more)
in_order (spelling.joined {tokens = tokens} {end = end} more) = later tokens end (omega arith) (omega arith) (in_order more)
in_order (spelling.comment note {text = text} {tokens = tokens} {end = end} all ends more) = later tokens end (omega arith) (omega (arith, length-append note text)) (in_order more)
in_order (spelling.semi {tokens = tokens} {end = end} more) = (omega arith, omega arith, omega arith, later tokens end (omega arith) (omega arith) (in_order more))
in_order (spelling.newline_token {tokens = tokens} {end = end} more) = (omega arith, omega arith, omega arith, later tokens end (omega arith) (omega arith) (in_order more))
in_order (spelling.and_and {tokens = tokens} {end = end} more) = (omega arith, omega arith, omega arith, later tokens end (omega arith) (omega arith) (in_order more))
in_order (spelling.or_or {tokens = tokens} {end = end} more) = (omega arith, omega arith, omega arith, later tokens end (omega arith) (omega arith) (in_order more))
in_order (spelling.word_token {rest = rest} {tokens = tokens} {end = end} may r w more) =
    let span = row_span r in
    let some = row_some r in
    let size = length-append span.0 rest in
    (omega arith, some, omega (arith, span.2, ap length span.1, size), later tokens end (omega arith) (omega (arith, span.2, ap length span.1, size)) (in_order more))
in_order (spelling.single_amp none) = (omega arith, omega arith)
in_order (spelling.single_pipe none) = (omega arith, omega arith)
in_order (spelling.broken {rest = rest} {error = error} may r f) =
    let span = row_span r in
    within_wider error (omega (arith, span.2)) (omega (arith, span.2, ap length span.1, length-append span.0 rest)) (faulty_within f)

pub tokens_in_order : TokensInOrder
tokens_in_order at text tokens end s = in_order s
