-- Words straight after compound commands, token by token.
use Rattle.std.proofs.Common.{◌≡◌, ◌<◌, ℕ, length, Bool, true, false, ◌&&◌, if◌then◌else◌, List, [], ◌∷◌, refl, ap, ◌∙◌}
use Rattle.std.proofs.Common.{Option, Some, None, arith}
use Rattle.hushlang.specs.Token.{Token}
use Rattle.hushlang.specs.Grammar.{is_word, reserved_of}
use Rattle.hushlang.specs.Parsing as spec
use Rattle.hushlang.specs.Parsing.{Input, next, keyword, at_last, word_ahead}
use Rattle.hushlang.specs.declared.after_compound.Stand.{Stand}
use Rattle.hushlang.specs.declared.after_compound.Stand.TheVariants.{Begins}
use Rattle.hushlang.specs.AfterCompound.{straight_from, behind_word, behind_token, is_behind}

none_in : (tokens : List Token) (stand : Stand) → spec.is_empty tokens ≡ true → straight_from stand tokens ≡ None
none_in [] stand e = refl
none_in (t ∷ tokens) stand e = absurd (cc)

pub none_left : (i : Input) (stand : Stand) → at_last i ≡ true → straight_from stand i.tokens ≡ None
unfolding at_last
none_left i stand e = none_in i.tokens stand e

some_in : (tokens : List Token) → spec.is_empty tokens ≡ false → 0 < length tokens
some_in [] e = absurd (cc)
some_in (t ∷ tokens) e = omega arith

pub some_left : (i : Input) → at_last i ≡ false → 0 < length i.tokens
unfolding at_last
some_left i e = some_in i.tokens e

-- what is found from a token on, by whether it is straight after a compound command, and whether it is a word
abbrev from : (behind word : Bool) → Token → List Token → Stand → Option ℕ
from behind word t tokens stand =
    if behind && word then Some t.start else straight_from (behind_token word stand (reserved_of t)) tokens

found_if : (b : Bool) (u t : Token) (tokens : List Token) (stand : Stand) → is_word u ≡ b
    → (if b then Some u else None) ≡ Some t → is_behind stand ≡ true
    → straight_from stand (u ∷ tokens) ≡ Some t.start
found_if true u t tokens stand is e behind =
    let same : u ≡ t = cc in
    ap (λ a. from a (is_word u) u tokens stand) behind
    ∙ ap (λ b. from true b u tokens stand) is
    ∙ ap (λ (x : Token). Some x.start) same
found_if false u t tokens stand is e behind = absurd (cc)

found_in : (tokens : List Token) (t : Token) (stand : Stand) → spec.word_first_of tokens ≡ Some t
    → is_behind stand ≡ true → straight_from stand tokens ≡ Some t.start
found_in [] t stand e behind = absurd (cc)
found_in (u ∷ tokens) t stand e behind = found_if (is_word u) u t tokens stand refl e behind

pub found : (i : Input) (t : Token) (stand : Stand) → word_ahead i ≡ Some t → is_behind stand ≡ true
    → straight_from stand i.tokens ≡ Some t.start
found i t stand e behind = found_in i.tokens t stand e behind

past_if : (b : Bool) (u t : Token) (tokens : List Token) (stand : Stand) → is_word u ≡ b
    → (if b then Some u else None) ≡ Some t → is_behind stand ≡ false
    → straight_from stand (u ∷ tokens) ≡ straight_from (behind_word stand (reserved_of u)) tokens
past_if true u t tokens stand is e behind =
    ap (λ a. from a (is_word u) u tokens stand) behind ∙ ap (λ b. from false b u tokens stand) is
past_if false u t tokens stand is e behind = absurd (cc)

past_in : (tokens : List Token) (t : Token) (stand : Stand) → spec.word_first_of tokens ≡ Some t
    → is_behind stand ≡ false
    → straight_from stand tokens ≡ straight_from (behind_word stand (spec.reserved_first tokens)) (spec.rest_of tokens)
past_in [] t stand e behind = absurd (cc)
past_in (u ∷ tokens) t stand e behind = past_if (is_word u) u t tokens stand refl e behind

pub past_word : (i : Input) (t : Token) (stand : Stand) → word_ahead i ≡ Some t → is_behind stand ≡ false
    → straight_from stand i.tokens ≡ straight_from (behind_word stand (keyword i)) (next i).tokens
unfolding keyword next
past_word i t stand e behind = past_in i.tokens t stand e behind

sign_if : (b a : Bool) (u : Token) (tokens : List Token) (stand : Stand) → is_word u ≡ b → is_behind stand ≡ a
    → ◌≡◌ {A = Option Token} (if b then Some u else None) None
    → straight_from stand (u ∷ tokens) ≡ straight_from Begins tokens
sign_if true a u tokens stand is behind e = absurd (cc)
sign_if false true u tokens stand is behind e =
    ap (λ a. from a (is_word u) u tokens stand) behind ∙ ap (λ b. from true b u tokens stand) is
sign_if false false u tokens stand is behind e =
    ap (λ a. from a (is_word u) u tokens stand) behind ∙ ap (λ b. from false b u tokens stand) is

sign_in : (tokens : List Token) (stand : Stand) → spec.is_empty tokens ≡ false
    → spec.word_first_of tokens ≡ None → straight_from stand tokens ≡ straight_from Begins (spec.rest_of tokens)
sign_in [] stand some e = absurd (cc)
sign_in (u ∷ tokens) stand some e = sign_if (is_word u) (is_behind stand) u tokens stand refl refl e

pub past_sign : (i : Input) (stand : Stand) → at_last i ≡ false → word_ahead i ≡ None
    → straight_from stand i.tokens ≡ straight_from Begins (next i).tokens
unfolding at_last next
past_sign i stand some e = sign_in i.tokens stand some e

pub ruleset stepping = (none_left, some_left, found, past_word, past_sign)
