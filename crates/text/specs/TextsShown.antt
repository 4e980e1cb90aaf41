-- The texts that values of the program hold.
use Rattle.std.specs.Prelude.{ℕ, List, ◌∷◌, map, Option, Some, None, option_map}
use Rattle.std.specs.Borrow.{Bor}
use Rattle.std.specs.declared.alloc.Global.{Global}
use Rattle.std.specs.declared.vec.Vec.{Vec}
use Rattle.text.specs.Bytes as ascii
use Rattle.text.specs.Escapes.{word_form}
use Rattle.text.specs.Lines.{Text}

-- the texts that a vector of byte vectors holds
abbrev pub bytes_of_words : List (Vec ℕ Global) → List Text
bytes_of_words ws = map (λ w. w.items) ws

-- the text of an optional vector
abbrev pub option_items : Option (Vec ℕ Global) → Option Text
option_items None = None
option_items (Some v) = Some v.items

-- the text of an optional reference
abbrev pub option_bytes : Option (Bor (List ℕ)) → Option Text
option_bytes = option_map (λ b. b.now)

-- the word that a vector holds as it is printed, after a space
abbrev pub spaced : Vec ℕ Global → Text
spaced word = ascii.space ∷ word_form word.items
