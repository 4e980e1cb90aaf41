-- The frames of files: what is left of their names, and where an `exit` goes on outwards.
use Rattle.std.proofs.Common.{ℕ, zero, suc, List, [], ◌∷◌, take, drop, length, ◌-◌, refl, ap, ◌≡◌, ◌∙◌, false}
use Rattle.std.proofs.lemmas.List.{take_rest}
use Rattle.std.specs.Prelude.{Vec, nat_eq}
use Rattle.std.proofs.Math.Dec.{eqb}
use Rattle.std.specs.declared.alloc.Global.{Global}
use Rattle.text.specs.TextsShown.{bytes_of_words}
use Rattle.bootstore_state.specs.Moment.{RunningFrame}
use Rattle.rehearse_terms.specs.State.{State}
use Rattle.rehearse_terms.specs.declared.shell.Shell.{Shell}
use Rattle.rehearse_machine.specs.Places.{PlaceNext, left_file}

words_dropped : (n : ℕ) (words : List (Vec ℕ Global)) → bytes_of_words (drop n words) ≡ drop n (bytes_of_words words)
words_dropped zero words = refl
words_dropped (suc n) [] = refl
words_dropped (suc n) (word ∷ words) = words_dropped n words

-- what a slice from there on says
pub words_left : (n : ℕ) (words : List (Vec ℕ Global)) → bytes_of_words (take (length words - n) (drop n words)) ≡ drop n (bytes_of_words words)
words_left n words = ap bytes_of_words (take_rest words n) ∙ words_dropped n words

-- a frame of files ends an `exit` only while the text of one runs
pub outwards_elsewhere : (shell : Shell) (turn : ℕ) (fs : List RunningFrame) (outwards : PlaceNext) (s : State) → eqb turn 1 ≡ false → left_file shell turn fs outwards s ≡ outwards
outwards_elsewhere shell zero fs outwards s e = refl
outwards_elsewhere shell (suc zero) fs outwards s e = absurd (let f = e in cc)
outwards_elsewhere shell (suc (suc k)) fs outwards s e = refl
