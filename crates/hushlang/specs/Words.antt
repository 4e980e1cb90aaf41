-- What the grammar sees in a word.
-- Ours: the reserved words are those of the hush shell of the U-Boot documentation, doc/usage/cmdline.
use Rattle.std.specs.Prelude.{ℕ, Bool, true, false, ◌&&◌, ◌==◌, List, [], ◌∷◌, Option, Some, None, if◌then◌else◌, codes, option_map}
use Rattle.hushlang.specs.Token.{Part, Plain}
use Rattle.hushlang.specs.Tokenizing.{Seen, Takes, Refuses}
use Rattle.hushlang.specs.declared.words.Reserved.{Reserved}
use Rattle.hushlang.specs.declared.words.Reserved.TheVariants as r

-- the bytes of a word of ordinary bytes only
abbrev pub plain_bytes : List Part → Option (List ℕ)
plain_bytes [] = Some []
plain_bytes (Plain b ∷ parts) = option_map (λ bytes. b ∷ bytes) (plain_bytes parts)
plain_bytes (part ∷ parts) = None

-- the parts are ordinary bytes that spell this word
abbrev pub is_plain : (word : List ℕ) → List Part → Bool
is_plain [] [] = true
is_plain (c ∷ word) (Plain b ∷ parts) = b == c && is_plain word parts
is_plain word parts = false

-- the reserved word that the parts of a word spell
unfoldable pub reserved : List Part → Option Reserved
reserved parts =
    if is_plain (codes "if") parts then Some r.If
    else (if is_plain (codes "then") parts then Some r.Then
    else (if is_plain (codes "elif") parts then Some r.Elif
    else (if is_plain (codes "else") parts then Some r.Else
    else (if is_plain (codes "fi") parts then Some r.Fi
    else (if is_plain (codes "for") parts then Some r.For
    else (if is_plain (codes "while") parts then Some r.While
    else (if is_plain (codes "until") parts then Some r.Until
    else (if is_plain (codes "do") parts then Some r.Do
    else (if is_plain (codes "done") parts then Some r.Done
    else None)))))))))

abbrev pub plain_byte : Part → Option ℕ
plain_byte (Plain b) = Some b
plain_byte part = None

-- the same for what a reader of parts finds; if it refuses something, no word is spelled
abbrev pub spells : (word : List ℕ) → Seen → Bool
spells word (Takes stop parts) = is_plain word parts
spells word (Refuses error) = false
