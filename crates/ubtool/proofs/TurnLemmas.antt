-- One more alternative in turn.
use Rattle.std.proofs.Common.{◌≡◌, ◌∙◌, ◌+◌, ℕ, List, [], ◌∷◌, ◌++◌, length, length-append, append-nil, refl, sym, ap, subst, Result, Ok, arith}
use Rattle.std.proofs.lemmas.Grind.{flat_map-append}
use Rattle.std.specs.List.{AllByRecursion, enumerate_from, flat_map}
use Rattle.board_start.specs.Start.{Start, start_of}
use Rattle.board_start.specs.declared.start_error.StartError.{StartError}
use Rattle.rehearse_terms.specs.State.{Text}
use Rattle.ubtool.specs.Given.{Given}
use Rattle.ubtool.specs.Turns.{AreInTurn, headed, named}

numbered-append : {A : Type 0} (xs : List A) (x : A) (n : ℕ) → enumerate_from n (xs ++ x ∷ []) ≡ enumerate_from n xs ++ (n + length xs, x) ∷ []
numbered-append [] x n = let e : n + 0 ≡ n = omega arith in ap (λ k. (k, x) ∷ []) (sym e)
numbered-append (y ∷ xs) x n =
    let e : n + 1 + length xs ≡ n + length (y ∷ xs) = omega arith in
    ap (λ ps. (n, y) ∷ ps) (numbered-append xs x (n + 1) ∙ ap (λ k. enumerate_from (n + 1) xs ++ (k, x) ∷ []) e)

all-and-one : {A : Type 0} (P : A → Type 0) (xs : List A) (x : A) → AllByRecursion P xs → P x → AllByRecursion P (xs ++ x ∷ [])
all-and-one P [] x all one = (one, tt)
all-and-one P (y ∷ xs) x all one = (all.0, all-and-one P xs x all.1 one)

module _ {A : Type 0} (IsPart : Given → A → Type 0) (lines_in : A → Text) (g : Given) where
  -- none yet
  pub none_yet : (start : Start) → start_of g.device_list.text ≡ Ok start → AreInTurn IsPart lines_in g 0 [] []
  none_yet start is = record { start = start; start_is = is; each = refl; so = tt; whole = refl }

  -- and one more
  pub one_more : (count : ℕ) (parts : List A) (text : Text) (part : A) (so_far : AreInTurn IsPart lines_in g count parts text) → IsPart (named g (count + 1)) part
      → AreInTurn IsPart lines_in g (count + 1) (parts ++ part ∷ []) (text ++ headed so_far.start count (lines_in part))
  one_more count parts text part so_far is =
      let numbered : enumerate_from 0 (parts ++ part ∷ []) ≡ enumerate_from 0 parts ++ (count, part) ∷ [] =
      numbered-append parts part 0 ∙ (let z : 0 + length parts ≡ length parts = omega arith in let e : 0 + length parts ≡ count = z ∙ so_far.each in ap (λ k. enumerate_from 0 parts ++ (k, part) ∷ []) e) in
      let one_text : ℕ × A → Text = λ p. headed so_far.start p.0 (lines_in p.1) in
      let more : length (parts ++ part ∷ []) ≡ count + 1 = length-append parts (part ∷ []) ∙ ap (λ k. k + 1) so_far.each in
      record {
        start = so_far.start;
        start_is = so_far.start_is;
        each = more;
        so = subst (λ (ps : List (ℕ × A)). AllByRecursion (λ p. IsPart (named g (p.0 + 1)) p.1) ps) (sym numbered)
            (all-and-one (λ (p : ℕ × A). IsPart (named g (p.0 + 1)) p.1) (enumerate_from 0 parts) (count, part) so_far.so is);
        whole = ap (λ t. t ++ headed so_far.start count (lines_in part)) so_far.whole
            ∙ ap (λ t. flat_map one_text (enumerate_from 0 parts) ++ t) (sym (append-nil (headed so_far.start count (lines_in part))))
            ∙ sym (flat_map-append one_text (enumerate_from 0 parts) ((count, part) ∷ []))
            ∙ ap (flat_map one_text) (sym numbered);
      }

-- a list says one thing of the start
pub one-start : (text : Text) (a b : Start) → start_of text ≡ Ok a → start_of text ≡ Ok b → a ≡ b
one-start text a b is other = by (sym is ∙ other)
  where
    by : ◌≡◌ {A = Result Start StartError} (Ok a) (Ok b) → a ≡ b
    by e = cc
