-- One turn of the rules of lists and arms, by what was read.
use Rattle.std.proofs.Common.{◌≡◌, ℕ, ◌-◌, ◌<◌, ◌≤◌, Bool, true, false, List, [], ◌∷◌, ◌++◌, length, Option, Some, Ok, Err, refl, ap, ◌∙◌, arith}
use Rattle.std.proofs.lemmas.Bool.{true≢false}
use Rattle.hushlang.specs.Token.{Token}
use Rattle.hushlang.specs.Tree.{Command, Script, AndOr, Arms}
use Rattle.hushlang.specs.Parsing as spec
use Rattle.hushlang.specs.Parsing.{Input, Parser, Parsed, and_then, keyword}
use Rattle.hushlang.specs.Grammar.{is_separator}
use Rattle.hushlang.proofs.ReadTreesAreDerived.{is_keyword-sound}
use Rattle.hushlang.proofs.SkippedTokenLemmas.{no_separators}
use Rattle.hushlang.proofs.DerivedTreesAreRead.{lists_once, arms_once}
use Rattle.hushlang.specs.declared.words.Reserved.{Reserved}
use Rattle.hushlang.specs.declared.token.SyntaxError.{SyntaxError}
use Rattle.hushlang.specs.declared.words.Reserved.TheVariants as r

-- what is seen is the next keyword
pub keyword_seen : (word : Reserved) (i : Input) → spec.sees word i ≡ true → keyword i ≡ Some word
unfolding spec.sees
keyword_seen word i e = is_keyword-sound word (keyword i) e

pub not_seen : (word : Reserved) (i : Input) → spec.sees word i ≡ false → spec.is_keyword word (keyword i) ≡ false
unfolding spec.sees
not_seen word i e = e

pub arms_by : (rule : Parser Command) (turns : ℕ) (found : List (Script × Script)) (i : Input) (one : Script × Script) (j : Input) (word : Option Reserved) → 0 < turns → spec.arm rule i ≡ Ok (one, j) → keyword j ≡ word → spec.arms rule turns found i ≡ spec.more_by rule (spec.arms rule (turns - 1)) (found ++ one ∷ []) word j
arms_by rule turns found i one j word some e is =
    arms_once rule turns found i some
    ∙ ap (λ (x : Parsed (Script × Script)). and_then x (λ one. λ i. spec.more_by rule (spec.arms rule (turns - 1)) (found ++ one ∷ []) (keyword i) i)) e
    ∙ ap (λ o. spec.more_by rule (spec.arms rule (turns - 1)) (found ++ one ∷ []) o j) is

pub arms_fail : (rule : Parser Command) (turns : ℕ) (found : List (Script × Script)) (i : Input) (e : SyntaxError) → 0 < turns → spec.arm rule i ≡ Err e → spec.arms rule turns found i ≡ Err e
arms_fail rule turns found i x some e =
    arms_once rule turns found i some
    ∙ ap (λ (x : Parsed (Script × Script)). and_then x (λ one. λ i. spec.more_by rule (spec.arms rule (turns - 1)) (found ++ one ∷ []) (keyword i) i)) e

-- none of the words that may follow an arm follows it
pub more_refuses : (rule : Parser Command) (more : List (Script × Script) → Parser Arms) (found : List (Script × Script)) (word : Option Reserved) (i : Input) → spec.is_keyword r.Elif word ≡ false → spec.is_keyword r.Else word ≡ false → spec.is_keyword r.Fi word ≡ false → spec.more_by rule more found word i ≡ Err (spec.refusal i)
more_refuses rule more found (Some r.Elif) i a b c = absurd (true≢false a)
more_refuses rule more found (Some r.Else) i a b c = absurd (true≢false b)
more_refuses rule more found (Some r.Fi) i a b c = absurd (true≢false c)
more_refuses rule more found word i a b c = refl

pub lists_by_turn : (rule : Parser Command) (turns : ℕ) (found : List AndOr) (i : Input) (one : AndOr) (j : Input) (separated ends : Bool) → 0 < turns → spec.and_or rule i ≡ Ok (one, j) → spec.separator_next j ≡ separated → spec.closes_next (spec.behind is_separator j) ≡ ends → spec.lists rule turns found i ≡ spec.lists_by (spec.lists rule (turns - 1) (found ++ one ∷ [])) (found ++ one ∷ []) separated ends j
lists_by_turn rule turns found i one j separated ends some e s c =
    lists_once rule turns found i some
    ∙ ap (λ (x : Parsed AndOr). and_then x (λ one. λ i. spec.lists_by (spec.lists rule (turns - 1) (found ++ one ∷ [])) (found ++ one ∷ []) (spec.separator_next i) (spec.closes_next (spec.behind is_separator i)) i)) e
    ∙ ap (λ b. spec.lists_by (spec.lists rule (turns - 1) (found ++ one ∷ [])) (found ++ one ∷ []) b (spec.closes_next (spec.behind is_separator j)) j) s
    ∙ ap (λ b. spec.lists_by (spec.lists rule (turns - 1) (found ++ one ∷ [])) (found ++ one ∷ []) separated b j) c

pub lists_fail : (rule : Parser Command) (turns : ℕ) (found : List AndOr) (i : Input) (e : SyntaxError) → 0 < turns → spec.and_or rule i ≡ Err e → spec.lists rule turns found i ≡ Err e
lists_fail rule turns found i x some e =
    lists_once rule turns found i some
    ∙ ap (λ (x : Parsed AndOr). and_then x (λ one. λ i. spec.lists_by (spec.lists rule (turns - 1) (found ++ one ∷ [])) (found ++ one ∷ []) (spec.separator_next i) (spec.closes_next (spec.behind is_separator i)) i)) e

-- if no separator comes next, none is skipped
pub behind_unmoved : (i : Input) → spec.separator_next i ≡ false → spec.behind is_separator i ≡ i
unfolding spec.separator_next spec.behind
behind_unmoved i e = ap (λ l. record i { tokens = l }) (no_separators i.tokens e)

rest_shorter : (tokens : List Token) → length (spec.rest_of tokens) ≤ length tokens
rest_shorter [] = omega arith
rest_shorter (t ∷ tokens) = omega arith

pub next_shorter : (i : Input) → length (spec.next i).tokens ≤ length i.tokens
unfolding spec.next
next_shorter i = rest_shorter i.tokens
