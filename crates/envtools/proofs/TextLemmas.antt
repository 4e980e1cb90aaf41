-- A text, read byte by byte, and its data, which always end.
use Rattle.std.proofs.Common.{◌≡◌, ◌≢◌, ◌∙◌, ℕ, Bool, true, false, refl, ap, sym, subst, List, [], ◌∷◌, ◌++◌, ◌+◌, length, append_assoc, Some}
use Rattle.std.specs.Prelude.{if◌then◌else◌}
use Rattle.std.specs.List.{list_any}
use Rattle.text.specs.Bytes as ascii
use Rattle.text.specs.Words.{is_equals, is_nul}
use Rattle.envimage.specs.Data.{data_fault, onto_first, texts_fault, texts_of}
use Rattle.envimage.specs.declared.content.DataError.TheVariants.{EmptyName, NoEquals, NotTerminated}
use Rattle.envtools.specs.FromText.{TextsEnd, data_from, step}
use Rattle.envtools.specs.declared.text_file.Position.{Position}
use Rattle.envtools.specs.declared.text_file.Position.TheVariants.{Escaped, InComment, InLine, LineStart}

-- one byte more
pub one-more : (made made' whole : List ℕ) (at : Position) (b : ℕ) (bs : List ℕ) → made ++ data_from at (b ∷ bs) ≡ whole → made' ≡ made ++ (step at b).1 → made' ++ data_from (step at b).0 bs ≡ whole
one-more made made' whole at b bs h is =
    ap (λ (d : List ℕ). d ++ data_from (step at b).0 bs) is ∙ append_assoc made (step at b).1 (data_from (step at b).0 bs) ∙ h

-- ---- the data end

-- one of the texts is empty, and one after the first
abbrev HasEmpty : List (List ℕ) → Type 0
HasEmpty [] = ⊥
HasEmpty ([] ∷ texts) = Unit {0}
HasEmpty ((b ∷ bs) ∷ texts) = HasEmpty texts

abbrev HasEnd : List (List ℕ) → Type 0
HasEnd [] = ⊥
HasEnd (text ∷ texts) = HasEmpty texts

empty-among : (texts : List (List ℕ)) → HasEnd texts → HasEmpty texts
empty-among [] h = h
empty-among ([] ∷ texts) h = tt
empty-among ((b ∷ bs) ∷ texts) h = h

byte-more : (nul : Bool) (b : ℕ) (texts : List (List ℕ)) → HasEnd texts → HasEnd (if nul then [] ∷ texts else onto_first b texts)
byte-more true b texts h = empty-among texts h
byte-more false b [] h = h
byte-more false b (text ∷ texts) h = h

ended : (front : List ℕ) → HasEnd (texts_of (front ++ ascii.nul ∷ ascii.nul ∷ []))
ended [] = tt
ended (b ∷ front) = byte-more (is_nul b) b (texts_of (front ++ ascii.nul ∷ ascii.nul ∷ [])) (ended front)

-- texts with an empty one end
not-open : (at : ℕ) (texts : List (List ℕ)) → HasEmpty texts → texts_fault at texts ≢ Some NotTerminated
not-open at [] h = absurd h
not-open at ([] ∷ texts) h = λ e. cc
not-open at ((b ∷ bs) ∷ texts) h = by (is_equals b) (list_any is_equals bs) (not-open (at + (length bs + 2)) texts h)
  where
    by : (first any : Bool) → texts_fault (at + (length bs + 2)) texts ≢ Some NotTerminated → (if first then Some (EmptyName at) else (if any then texts_fault (at + (length bs + 2)) texts else Some (NoEquals at))) ≢ Some NotTerminated
    by true any more = λ e. cc
    by false true more = more
    by false false more = λ e. cc

-- what comes before the two NULs
two-nuls : (at : Position) (text : List ℕ) → (front : List ℕ) × (data_from at text ≡ front ++ ascii.nul ∷ ascii.nul ∷ [])
two-nuls LineStart [] = ([], refl)
two-nuls InLine [] = ([], refl)
two-nuls InComment [] = ([], refl)
two-nuls Escaped [] = (ascii.backslash ∷ [], refl)
two-nuls at (b ∷ bs) =
    let rest = two-nuls (step at b).0 bs in
    ((step at b).1 ++ rest.0, ap (λ (d : List ℕ). (step at b).1 ++ d) rest.1 ∙ sym (append_assoc (step at b).1 rest.0 (ascii.nul ∷ ascii.nul ∷ [])))

pub texts_end : TextsEnd
texts_end text =
    let whole = two-nuls LineStart text in
    subst (λ (d : List ℕ). data_fault d ≢ Some NotTerminated) (sym whole.1) (not-open 0 (texts_of (whole.0 ++ ascii.nul ∷ ascii.nul ∷ [])) (empty-among (texts_of (whole.0 ++ ascii.nul ∷ ascii.nul ∷ [])) (ended whole.0)))
