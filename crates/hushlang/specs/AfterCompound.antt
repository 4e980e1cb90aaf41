-- A word straight after a compound command, as in `fi fi`, with no separator and no operator between. Ours: the
-- language takes it, and the hush shell of U-Boot refuses it.
use Rattle.std.specs.Prelude.{ℕ, Bool, true, false, ◌&&◌, if◌then◌else◌, List, [], ◌∷◌, Option, Some, None}
use Rattle.hushlang.specs.Token.{Token}
use Rattle.hushlang.specs.Grammar.{is_word, reserved_of}
use Rattle.hushlang.specs.declared.words.Reserved.{Reserved}
use Rattle.hushlang.specs.declared.words.Reserved.TheVariants as r
use Rattle.hushlang.specs.declared.after_compound.Stand.{Stand}
use Rattle.hushlang.specs.declared.after_compound.Stand.TheVariants.{Begins, Within, Behind}

-- where the token after a word is, if the word may start a command and is this reserved word, or no reserved word
abbrev pub behind_reserved : Option Reserved → Stand
behind_reserved (Some r.Fi) = Behind
behind_reserved (Some r.Done) = Behind
behind_reserved (Some r.For) = Within
behind_reserved None = Within
behind_reserved _ = Begins

-- where the token after a word is: among the words of a command, no word is reserved
abbrev pub behind_word : Stand → Option Reserved → Stand
behind_word Within word = Within
behind_word Begins word = behind_reserved word
behind_word Behind word = behind_reserved word

abbrev pub behind_token : (word : Bool) → Stand → Option Reserved → Stand
behind_token true stand word = behind_word stand word
behind_token false stand word = Begins

abbrev pub is_behind : Stand → Bool
is_behind Behind = true
is_behind Begins = false
is_behind Within = false

-- the place of the first word that is straight after a compound command
abbrev pub straight_from : Stand → List Token → Option ℕ
straight_from stand [] = None
straight_from stand (t ∷ tokens) =
    if is_behind stand && is_word t then Some t.start
    else straight_from (behind_token (is_word t) stand (reserved_of t)) tokens

abbrev pub straight : List Token → Option ℕ
straight tokens = straight_from Begins tokens
