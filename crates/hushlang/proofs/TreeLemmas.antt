-- The tree that is computed is the text's tree.
use Rattle.std.proofs.Common.{◌≡◌, ℕ, List, length, Option, Some, None, Result, Ok, Err, refl, ap, sym, ◌∙◌, subst}
use Rattle.hushlang.specs.Token.{Whole}
use Rattle.hushlang.specs.Tokenizing.{Lexed, lexed}
use Rattle.hushlang.specs.Spelling.{Spells}
use Rattle.hushlang.specs.Tree.{Script}
use Rattle.hushlang.specs.Grammar.{max_nesting}
use Rattle.hushlang.specs.Parsing.{whole}
use Rattle.hushlang.specs.CursorShown.{input_with, input_in}
use Rattle.hushlang.specs.Texts.{IsTreeOf}
use Rattle.hushlang.specs.declared.token.SyntaxError.{SyntaxError}
use Rattle.hushlang.proofs.SpellingOfEachText.{each_spelled, spelled_once}
use Rattle.hushlang.proofs.DerivedTreesAreRead.{each_tree_is_read}
use Rattle.hushlang.proofs.ReadTreesAreDerived.{what_is_read_is_a_tree}
use Rattle.hushlang.specs.Trees.{tree_of, script_in}
use Rattle.hushlang.specs.TreeLaws.{TreesAreRead, RefusedTexts}

abbrev read_in : List ℕ → Result Script SyntaxError
read_in text = whole max_nesting (input_in text)

tree_is : (text : List ℕ) → tree_of text ≡ script_in (read_in text)
unfolding tree_of
tree_is text = refl

is_ok : (x : Result Script SyntaxError) (s : Script) → script_in x ≡ Some s → x ≡ Ok s
is_ok (Ok t) s e = let f : t ≡ s = cc in ap Ok f
is_ok (Err a) s e = absurd (let f = e in cc)

read : (text : List ℕ) (s : Script) → read_in text ≡ Ok s → IsTreeOf text s
read text s e =
    let all = lexed 0 text in
    let found = what_is_read_is_a_tree max_nesting all.tokens all.end s (length text) e in
    (all.tokens, subst (λ x. Spells 0 text all.tokens x) found.0 (each_spelled 0 text), found.1)

found : (text : List ℕ) (s : Script) → IsTreeOf text s → read_in text ≡ Ok s
found text s t = ap (λ (x : Lexed). whole max_nesting (input_with x (length text))) (spelled_once 0 text t.0 Whole t.1) ∙ each_tree_is_read max_nesting t.0 s (length text) t.2

pub trees_are_read : TreesAreRead
trees_are_read text s = (λ e. read text s (is_ok (read_in text) s (sym (tree_is text) ∙ e)), λ t. tree_is text ∙ ap script_in (found text s t))

none_or_some : (o : Option Script) → ((s : Script) → o ≡ Some s → ⊥) → o ≡ None
none_or_some None h = refl
none_or_some (Some s) h = absurd (h s refl)

not_both : (o : Option Script) (s : Script) → o ≡ None → o ≡ Some s → ⊥
not_both o s e f = let g = sym e ∙ f in cc

pub refused_texts : RefusedTexts
refused_texts text = (λ e s t. not_both (tree_of text) s e ((trees_are_read text s).1 t), λ h. none_or_some (tree_of text) (λ s e. h s ((trees_are_read text s).0 e)))
