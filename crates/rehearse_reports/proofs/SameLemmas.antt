-- What is compared and found the same is the same.
use Rattle.std.proofs.Common.{◌≡◌, ◌∙◌, refl, sym, ap, ℕ, Bool, true, false, not, List, [], ◌∷◌, ◌++◌, append_assoc, Vec, Global}
use Rattle.std.proofs.Math.Bool.{beq}
use Rattle.std.proofs.lemmas.Bool.{not-false}
use Rattle.std.proofs.lemmas.Slice.Eq.{bytes_eq-Decides}
use Rattle.std.specs.Cmp.Lexicographic.{pointwise}
use Rattle.std.specs.Str.{bytes_eq}
use Rattle.text.specs.TextsShown.{bytes_of_words}
use Rattle.rehearse_terms.specs.State.{Text, LoggedCommand, Variables}
use Rattle.rehearse_machine.proofs.ToldLemmas.{words_compared}
use Rattle.rehearse_reads.specs.Keys.{AnswerTo}
use Rattle.rehearse_reports.proofs.MemberLemmas.{equal_keys}

pub same_text : (differ : Bool) (v w : Text) → differ ≡ not (bytes_eq v w) → differ ≡ false → v ≡ w
same_text differ v w e f = (bytes_eq-Decides v w).0 (not-false (bytes_eq v w) (sym e ∙ f))

pub same_flag : (a b : Bool) → not (beq a b) ≡ false → a ≡ b
same_flag true true e = refl
same_flag true false e = absurd (let f = e in cc)
same_flag false true e = absurd (let f = e in cc)
same_flag false false e = refl

same_calls : (v w : List Text) → AnswerTo v ≡ AnswerTo w → v ≡ w
same_calls v w e = cc

pub same_texts : (same : Bool) (vs ws : List (Vec ℕ Global)) → same ≡ pointwise (λ v w. bytes_eq v.items w.items) vs ws → same ≡ true → bytes_of_words vs ≡ bytes_of_words ws
same_texts same vs ws e f =
    let v : List Text = bytes_of_words vs in
    let w : List Text = bytes_of_words ws in
    same_calls v w (equal_keys (AnswerTo v) (AnswerTo w) (sym (words_compared vs ws) ∙ sym e ∙ f))

pub same_logged : (one other : LoggedCommand) → one.success ≡ other.success → one.words ≡ other.words → one.stays ≡ other.stays → one.again ≡ other.again → one ≡ other
same_logged one other e f g h = λ i. record { success = e i; words = f i; stays = g i; again = h i }

-- variables so far, and one more
pub one_more : (all done here rest : Variables) (name value : Text) → all ≡ done ++ here → here ≡ (name, value) ∷ rest → all ≡ (done ++ (name, value) ∷ []) ++ rest
one_more all done here rest name value e f = e ∙ ap (λ (x : Variables). done ++ x) f ∙ sym (append_assoc done ((name, value) ∷ []) rest)
