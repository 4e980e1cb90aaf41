-- An `exit` of several words.
use Rattle.std.proofs.Common.{◌≡◌, ℕ, ◌≤◌, true, List, [], ◌∷◌, length, None, refl, arith}
use Rattle.std.specs.Prelude.{Vec}
use Rattle.std.specs.declared.alloc.Global.{Global}
use Rattle.text.specs.TextsShown.{bytes_of_words}
use Rattle.commands.specs.UBootExit.{newer_exit, follows_exit}

pub several_end_nothing : (words : List (Vec ℕ Global)) → 2 ≤ length words → None ≡ newer_exit (bytes_of_words words)
several_end_nothing [] h = absurd (omega arith)
several_end_nothing (word ∷ []) h = absurd (omega arith)
several_end_nothing (word ∷ v ∷ words) h = refl

pub several_followed : (words : List (Vec ℕ Global)) → 2 ≤ length words → true ≡ follows_exit (bytes_of_words words)
several_followed [] h = absurd (omega arith)
several_followed (word ∷ []) h = absurd (omega arith)
several_followed (word ∷ v ∷ words) h = refl
