-- A lexical fault is the answer if all tokens before it start a script.
use Rattle.std.proofs.Common.{◌≡◌, ℕ, List, [], ◌∷◌, ◌++◌, Result, Ok, Err, refl, ap, sym, ◌∙◌, subst, append_assoc}
use Rattle.hushlang.specs.Token.{Token, End, Whole, Refused}
use Rattle.hushlang.specs.Tree.{Script}
use Rattle.hushlang.specs.Grammar.{IsScript}
use Rattle.hushlang.specs.Parsing.{whole}
use Rattle.hushlang.specs.RefusalPlaces.{IsViable, IsRefusal, at_token, at_fault, at_end}
use Rattle.hushlang.specs.Laws.{FaultsAreAnswered, PrefixIsViable}
use Rattle.hushlang.proofs.ReadTreesAreDerived.{what_is_read_is_a_tree}
use Rattle.hushlang.proofs.RefusalPlaceLemmas.{refusals_are_placed}
use Rattle.hushlang.specs.declared.token.SyntaxError.{SyntaxError}

IsWhole : End → Type 0
IsWhole Whole = Unit
IsWhole (Refused e) = ⊥

pub not_whole : {e : SyntaxError} → Whole ≡ Refused e → ⊥
unfolding IsWhole
not_whole p = subst IsWhole p tt

fault_or : SyntaxError → End → SyntaxError
fault_or d Whole = d
fault_or d (Refused e) = e

pub same_fault : (a e : SyntaxError) → Refused a ≡ Refused e → a ≡ e
unfolding fault_or
same_fault a e p = ap (fault_or a) p

-- a prefix of a viable row is viable
prefix : (depth : ℕ) (front : List Token) (t : Token) (more : List Token) → IsViable depth (front ++ t ∷ more) → IsViable depth (front ++ t ∷ [])
prefix depth front t more v =
    let same : (front ++ t ∷ more) ++ v.0 ≡ (front ++ t ∷ []) ++ (more ++ v.0) = append_assoc front (t ∷ more) v.0 ∙ sym (append_assoc front (t ∷ []) (more ++ v.0)) in
    (more ++ v.0, v.1, subst (λ l. IsScript depth l v.1) same v.2)

pub prefix_is_viable : PrefixIsViable
prefix_is_viable depth front more v = (more ++ v.0, v.1, subst (λ (l : List Token). IsScript depth l v.1) (append_assoc front more v.0) v.2)

fault : {depth size : ℕ} {tokens : List Token} {end : End} {a : SyntaxError} (e : SyntaxError) → IsRefusal depth tokens end size a → IsViable depth tokens → end ≡ Refused e → a ≡ e
fault {depth = depth} e (at_token front t more v n p) w is = absurd (n (prefix depth front t more w))
fault {a = a} e (at_fault v) w is = same_fault a e is
fault e (at_end v p) w is = absurd (not_whole is)

answered : (depth : ℕ) (tokens : List Token) (size : ℕ) (e : SyntaxError) → IsViable depth tokens → (x : Result Script SyntaxError) → whole depth record { tokens = tokens; end = Refused e; size = size } ≡ x → x ≡ Err e
answered depth tokens size e v (Ok s) is = absurd (not_whole (sym (what_is_read_is_a_tree depth tokens (Refused e) s size is).0))
answered depth tokens size e v (Err a) is = ap Err (fault e (refusals_are_placed depth tokens (Refused e) size a is) v refl)

pub faults_are_answered : FaultsAreAnswered
faults_are_answered depth tokens size e v = answered depth tokens size e v (whole depth record { tokens = tokens; end = Refused e; size = size }) refl
