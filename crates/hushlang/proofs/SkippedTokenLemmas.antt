-- Skipping tokens one by one.
use Rattle.std.proofs.Common.{◌≡◌, Bool, true, false, List, [], ◌∷◌, refl, sym, ap, ◌∙◌}
use Rattle.std.proofs.lemmas.Bool.{true≢false}
use Rattle.hushlang.specs.Token.{Token}
use Rattle.hushlang.specs.Grammar.{past, past_if, is_newline_token, is_separator}
use Rattle.hushlang.specs.Parsing as spec
use Rattle.hushlang.specs.Parsing.{Input, behind, next}

more_if : (test : Token → Bool) (t : Token) (tokens : List Token) → test t ≡ true → past test (t ∷ tokens) ≡ past test tokens
more_if test t tokens e = ap (λ b. past_if b (t ∷ tokens) (past test tokens)) e

none_if : (test : Token → Bool) (t : Token) (tokens : List Token) → test t ≡ false → past test (t ∷ tokens) ≡ t ∷ tokens
none_if test t tokens e = ap (λ b. past_if b (t ∷ tokens) (past test tokens)) e

more_newlines : (tokens : List Token) → spec.newline_first tokens ≡ true → past is_newline_token tokens ≡ past is_newline_token (spec.rest_of tokens)
more_newlines [] e = refl
more_newlines (t ∷ tokens) e = more_if is_newline_token t tokens e

no_newlines : (tokens : List Token) → spec.newline_first tokens ≡ false → past is_newline_token tokens ≡ tokens
no_newlines [] e = refl
no_newlines (t ∷ tokens) e = none_if is_newline_token t tokens e

more_separators : (tokens : List Token) → spec.separator_first tokens ≡ true → past is_separator tokens ≡ past is_separator (spec.rest_of tokens)
more_separators [] e = refl
more_separators (t ∷ tokens) e = more_if is_separator t tokens e

-- if no separator comes first, none is skipped
pub no_separators : (tokens : List Token) → spec.separator_first tokens ≡ false → past is_separator tokens ≡ tokens
no_separators [] e = refl
no_separators (t ∷ tokens) e = none_if is_separator t tokens e

abbrev head_or : Token → List Token → Token
head_or d [] = d
head_or d (t ∷ tokens) = t

past_first_if : (test : Token → Bool) (b : Bool) (s : Token) (tokens : List Token) (t : Token) (more : List Token) → test s ≡ b → (past test tokens ≡ t ∷ more → test t ≡ false)
    → past_if b (s ∷ tokens) (past test tokens) ≡ t ∷ more → test t ≡ false
past_first_if test true s tokens t more is h e = h e
past_first_if test false s tokens t more is h e = let same : s ≡ t = ap (head_or s) e in ap test (sym same) ∙ is

-- the first token that is left is one that is not skipped
pub past_first : (test : Token → Bool) (tokens : List Token) (t : Token) (more : List Token) → past test tokens ≡ t ∷ more → test t ≡ false
past_first test [] t more e = absurd (true≢false (ap spec.is_empty e))
past_first test (s ∷ tokens) t more e = past_first_if test (test s) s tokens t more refl (past_first test tokens t more) e

pub newline_passed : (i : Input) → spec.newline_next i ≡ true → behind is_newline_token i ≡ behind is_newline_token (next i)
unfolding behind next
newline_passed i e = ap (λ (l : List Token). record i { tokens = l }) (more_newlines i.tokens e)

pub newlines_passed : (i : Input) → spec.newline_next i ≡ false → behind is_newline_token i ≡ i
unfolding behind
newlines_passed i e = ap (λ (l : List Token). record i { tokens = l }) (no_newlines i.tokens e)

pub separator_passed : (i : Input) → spec.separator_next i ≡ true → behind is_separator i ≡ behind is_separator (next i)
unfolding behind next spec.separator_next
separator_passed i e = ap (λ (l : List Token). record i { tokens = l }) (more_separators i.tokens e)

pub separators_passed : (i : Input) → spec.separator_next i ≡ false → behind is_separator i ≡ i
unfolding behind spec.separator_next
separators_passed i e = ap (λ (l : List Token). record i { tokens = l }) (no_separators i.tokens e)

pub ruleset passing = (newline_passed, newlines_passed, separator_passed, separators_passed)
