-- What an answer of the parser says of the text.
use Rattle.std.proofs.Common.{◌≡◌, ◌≢◌, ℕ, ◌+◌, List, [], ◌∷◌, ◌++◌, length, Option, Some, None, Result, Ok, Err, IfOk, IfErr, refl, ap, sym, ◌∙◌, subst, append_assoc, append-nil}
use Rattle.std.proofs.lemmas.Option.{same_Some}
use Rattle.hushlang.specs.Token.{Token, End, Whole, Refused}
use Rattle.hushlang.specs.Tokenizing.{Lexed, lexed}
use Rattle.hushlang.specs.Spelling.{Spells}
use Rattle.hushlang.specs.Tree as tree
use Rattle.hushlang.specs.Tree.{IsProper}
use Rattle.hushlang.specs.TreesShown as view
use Rattle.hushlang.specs.Grammar.{Derives, max_nesting}
use Rattle.hushlang.specs.Parsing.{Answers, whole}
use Rattle.hushlang.specs.CursorShown.{input_with, input_in}
use Rattle.hushlang.specs.RefusalPlaces.{IsViable, IsRefusal, place_of, at_token, at_fault, at_end}
use Rattle.hushlang.specs.Texts as texts
use Rattle.hushlang.specs.Texts.{IsTreeOf, HasNoTree, IsFaultOf, IsBlocked, IsPlaced, IsFaultIf, AnswersFault, fault_place}
use Rattle.hushlang.specs.Laws.{OneTreeOfText, OneBlockedPlace, EachTextIsBlocked, AreInOrder, StandsWithin}
use Rattle.hushlang.proofs.SpellingOfEachText.{each_spelled, spelled_once}
use Rattle.hushlang.proofs.OrderOfTokens.{tokens_in_order}
use Rattle.hushlang.proofs.DerivedTreesAreRead.{each_tree_is_read, one_tree_only}
use Rattle.hushlang.proofs.ReadTreesAreDerived.{what_is_read_is_a_tree, err_not_ok}
use Rattle.hushlang.proofs.CommandsInBlocks.{blocks_hold_commands}
use Rattle.hushlang.proofs.LexicalFaultLemmas.{faults_are_answered, prefix_is_viable, not_whole, same_fault}
use Rattle.hushlang.proofs.RefusalPlaceLemmas.{refusals_are_placed}
use Rattle.hushlang.specs.declared.tree.Script.{Script}
use Rattle.hushlang.specs.declared.token.SyntaxError.{SyntaxError}
use Rattle.hushlang.specs.declared.token.SyntaxError.TheVariants as error

-- ---- one tree of a text

same_tokens : (text : List ℕ) (tokens others : List Token) (end last : End) → Spells 0 text tokens end → Spells 0 text others last → tokens ≡ others
same_tokens text tokens others end last s t = ap (λ (x : Lexed). x.tokens) (sym (spelled_once 0 text tokens end s) ∙ spelled_once 0 text others last t)

same_end : (text : List ℕ) (tokens others : List Token) (end last : End) → Spells 0 text tokens end → Spells 0 text others last → end ≡ last
same_end text tokens others end last s t = ap (λ (x : Lexed). x.end) (sym (spelled_once 0 text tokens end s) ∙ spelled_once 0 text others last t)

pub one_tree_of_text : OneTreeOfText
one_tree_of_text text s other a b =
    one_tree_only max_nesting a.0 s other a.2 (subst (λ (x : List Token). Derives x other) (sym (same_tokens text a.0 b.0 Whole Whole a.1 b.1)) b.2)

-- ---- what the parser answers

input_is : (text : List ℕ) (tokens : List Token) (end : End) → Spells 0 text tokens end → input_in text ≡ record { tokens = tokens; end = end; size = length text }
input_is text tokens end s = ap (λ (x : Lexed). input_with x (length text)) (spelled_once 0 text tokens end s)

module _ (text : List ℕ) where
  abbrev Told : Result Script SyntaxError → Type 0
  Told x = Answers view.script (whole max_nesting (input_in text)) x

  read : (s : tree.Script) → whole max_nesting (input_in text) ≡ Ok s → IsTreeOf text s
  read s e =
      let all = lexed 0 text in
      let found = what_is_read_is_a_tree max_nesting all.tokens all.end s (length text) e in
      (all.tokens, subst (λ x. Spells 0 text all.tokens x) found.0 (each_spelled 0 text), found.1)

  pub tree_told : (x : Result Script SyntaxError) → Told x → IfOk x (λ s. IsTreeOf text (view.script s))
  tree_told (Ok s) h = read (view.script s) h
  tree_told (Err e) h = tt

  pub blocks_told : (x : Result Script SyntaxError) → Told x → IfOk x (λ s. IsProper (view.script s))
  blocks_told (Ok s) h = let t = read (view.script s) h in blocks_hold_commands max_nesting t.0 (view.script s) t.2
  blocks_told (Err e) h = tt

  no_tree : (e : SyntaxError) → whole max_nesting (input_in text) ≡ Err e → HasNoTree text
  no_tree e h s t = err_not_ok (sym h ∙ ap (whole max_nesting) (input_is text t.0 Whole t.1) ∙ each_tree_is_read max_nesting t.0 s (length text) t.2)

  pub refusal_told : (x : Result Script SyntaxError) → Told x → IfErr x (λ e. e ≢ error.Memory → HasNoTree text)
  refusal_told (Ok s) h = tt
  refusal_told (Err e) h = λ n. no_tree e (h n)

-- ---- places

order_ends : (start stop : ℕ) (tokens : List Token) (e : SyntaxError) → AreInOrder start stop tokens (Refused e) → (from : ℕ) × StandsWithin from stop e
order_ends start stop [] e h = (start, h)
order_ends start stop (t ∷ tokens) e h = order_ends t.stop stop tokens e h.3

within_lexical : (from stop : ℕ) (e : SyntaxError) → StandsWithin from stop e → place_of e ≡ None
within_lexical from stop (error.OpenQuote at) h = refl
within_lexical from stop (error.LoneBackslash at) h = refl
within_lexical from stop (error.OpenBrace at) h = refl
within_lexical from stop (error.BadVariable at) h = refl
within_lexical from stop (error.SingleAmp at) h = refl
within_lexical from stop (error.SinglePipe at) h = refl
within_lexical from stop (error.Unexpected at) h = absurd h
within_lexical from stop (error.MissingWord at) h = absurd h
within_lexical from stop (error.AssignmentBeforeCommand at) h = absurd h
within_lexical from stop (error.TooDeep at) h = absurd h
within_lexical from stop error.Memory h = absurd h

fault_lexical : (text : List ℕ) (tokens : List Token) (e : SyntaxError) → Spells 0 text tokens (Refused e) → place_of e ≡ None
fault_lexical text tokens e s =
    let w = order_ends 0 (0 + length text) tokens e (tokens_in_order 0 text tokens (Refused e) s) in
    within_lexical w.0 (0 + length text) e w.1

some_not_none : {A : Type 0} (a : A) → Some a ≡ None → ⊥
some_not_none a e = absurd (cc)

placed : (text : List ℕ) (place : ℕ) (e : SyntaxError) (tokens : List Token) (end : End) (size : ℕ) → size ≡ length text → Spells 0 text tokens end → IsRefusal max_nesting tokens end size e → place_of e ≡ Some place → IsBlocked text place
placed text place e tokens end size n s (at_token front t more v not at) is = subst (IsBlocked text) (same_Some t.start place (sym at ∙ is)) (texts.at_token front t more s v not)
placed text place e tokens end size n s (at_fault v) is = absurd (some_not_none place (sym is ∙ fault_lexical text tokens e s))
placed text place e tokens end size n s (at_end v at) is = subst (IsBlocked text) (sym n ∙ same_Some size place (sym at ∙ is)) (texts.at_end tokens s v)

faulty : (text : List ℕ) (e : SyntaxError) (tokens : List Token) (end : End) (size : ℕ) → Spells 0 text tokens end → IsRefusal max_nesting tokens end size e → place_of e ≡ None → IsFaultOf text e
faulty text e tokens end size s (at_token front t more v not at) is = absurd (some_not_none t.start (sym at ∙ is))
faulty text e tokens end size s (at_fault v) is = (tokens, s, v)
faulty text e tokens end size s (at_end v at) is = absurd (some_not_none size (sym at ∙ is))

module _ (text : List ℕ) (e : SyntaxError) (h : whole max_nesting (input_in text) ≡ Err e) where
  refused : IsRefusal max_nesting (lexed 0 text).tokens (lexed 0 text).end (length text) e
  refused = refusals_are_placed max_nesting (lexed 0 text).tokens (lexed 0 text).end (length text) e h

  at_place : (place : ℕ) → place_of e ≡ Some place → IsBlocked text place
  at_place place is = placed text place e (lexed 0 text).tokens (lexed 0 text).end (length text) refl (each_spelled 0 text) refused is

  at_its_fault : place_of e ≡ None → IsFaultOf text e
  at_its_fault is = faulty text e (lexed 0 text).tokens (lexed 0 text).end (length text) (each_spelled 0 text) refused is

place_by : (text : List ℕ) (e : SyntaxError) → (e ≢ error.Memory → whole max_nesting (input_in text) ≡ Err e) → IsPlaced text (place_of e)
place_by text (error.Unexpected at) h = at_place text (error.Unexpected at) (h (λ e. absurd (cc))) at refl
place_by text (error.MissingWord at) h = at_place text (error.MissingWord at) (h (λ e. absurd (cc))) at refl
place_by text (error.AssignmentBeforeCommand at) h = at_place text (error.AssignmentBeforeCommand at) (h (λ e. absurd (cc))) at refl
place_by text (error.TooDeep at) h = at_place text (error.TooDeep at) (h (λ e. absurd (cc))) at refl
place_by text e h = tt

pub place_told : (text : List ℕ) (x : Result Script SyntaxError) → Answers view.script (whole max_nesting (input_in text)) x → IfErr x (λ e. IsPlaced text (place_of e))
place_told text (Ok s) h = tt
place_told text (Err e) h = place_by text e h

fault_by : (text : List ℕ) (e : SyntaxError) → (e ≢ error.Memory → whole max_nesting (input_in text) ≡ Err e) → IsFaultIf text e (fault_place e)
fault_by text (error.OpenQuote at) h = at_its_fault text (error.OpenQuote at) (h (λ e. absurd (cc))) refl
fault_by text (error.LoneBackslash at) h = at_its_fault text (error.LoneBackslash at) (h (λ e. absurd (cc))) refl
fault_by text (error.OpenBrace at) h = at_its_fault text (error.OpenBrace at) (h (λ e. absurd (cc))) refl
fault_by text (error.BadVariable at) h = at_its_fault text (error.BadVariable at) (h (λ e. absurd (cc))) refl
fault_by text (error.SingleAmp at) h = at_its_fault text (error.SingleAmp at) (h (λ e. absurd (cc))) refl
fault_by text (error.SinglePipe at) h = at_its_fault text (error.SinglePipe at) (h (λ e. absurd (cc))) refl
fault_by text e h = tt

pub fault_told : (text : List ℕ) (x : Result Script SyntaxError) → Answers view.script (whole max_nesting (input_in text)) x → IfErr x (λ e. IsFaultIf text e (fault_place e))
fault_told text (Ok s) h = tt
fault_told text (Err e) h = fault_by text e h

same_error : (a e : SyntaxError) → ◌≡◌ {A = Result tree.Script SyntaxError} (Err a) (Err e) → a ≡ e
same_error a e p = cc

pub faults_told : (text : List ℕ) (x : Result Script SyntaxError) → Answers view.script (whole max_nesting (input_in text)) x → (e : SyntaxError) → IsFaultOf text e → AnswersFault x e
faults_told text x h e f = answered x h
  where
    is : whole max_nesting (input_in text) ≡ Err e
    is = ap (whole max_nesting) (input_is text f.0 (Refused e) f.1) ∙ faults_are_answered max_nesting f.0 (length text) e f.2

    answered : (x : Result Script SyntaxError) → Answers view.script (whole max_nesting (input_in text)) x → AnswersFault x e
    answered (Ok s) h = err_not_ok (sym is ∙ h)
    answered (Err a) h = λ n. same_error a e (sym (h n) ∙ is)

-- ---- one place

-- two ways to split tokens before one of them
data Parted : (front : List Token) (t : Token) (other : List Token) (u : Token) → Type 0 where
  same : {front other : List Token} {t u : Token} → front ≡ other → t ≡ u → Parted front t other u
  shorter : {front other : List Token} {t u : Token} (k : List Token) → other ≡ (front ++ t ∷ []) ++ k → Parted front t other u
  longer : {front other : List Token} {t u : Token} (k : List Token) → front ≡ (other ++ u ∷ []) ++ k → Parted front t other u

head_same : (a b : Token) (x y : List Token) → a ∷ x ≡ b ∷ y → a ≡ b
head_same a b x y e = cc

tail_same : (a b : Token) (x y : List Token) → a ∷ x ≡ b ∷ y → x ≡ y
tail_same a b x y e = cc

parted_on : (a b : Token) (front : List Token) (t : Token) (other : List Token) (u : Token) → a ≡ b → Parted front t other u → Parted (a ∷ front) t (b ∷ other) u
parted_on a b front t other u e (same f is) = same (ap (λ (x : Token). x ∷ front) e ∙ ap (λ (x : List Token). b ∷ x) f) is
parted_on a b front t other u e (shorter k is) = shorter k (ap (λ (x : Token). x ∷ other) (sym e) ∙ ap (λ (x : List Token). a ∷ x) is)
parted_on a b front t other u e (longer k is) = longer k (ap (λ (x : Token). x ∷ front) e ∙ ap (λ (x : List Token). b ∷ x) is)

parted : (front : List Token) (t : Token) (more : List Token) (other : List Token) (u : Token) (rest : List Token) → front ++ t ∷ more ≡ other ++ u ∷ rest → Parted front t other u
parted [] t more [] u rest e = same refl (head_same t u more rest e)
parted [] t more (b ∷ other) u rest e = shorter other (ap (λ (x : Token). x ∷ other) (sym (head_same t b more (other ++ u ∷ rest) e)))
parted (a ∷ front) t more [] u rest e = longer front (ap (λ (x : Token). x ∷ front) (head_same a u (front ++ t ∷ more) rest e))
parted (a ∷ front) t more (b ∷ other) u rest e = parted_on a b front t other u (head_same a b (front ++ t ∷ more) (other ++ u ∷ rest) e) (parted front t more other u rest (tail_same a b (front ++ t ∷ more) (other ++ u ∷ rest) e))

one_start : (front : List Token) (t : Token) (other : List Token) (u : Token) → IsViable max_nesting front → (IsViable max_nesting (front ++ t ∷ []) → ⊥) → IsViable max_nesting other → (IsViable max_nesting (other ++ u ∷ []) → ⊥) → Parted front t other u → t.start ≡ u.start
one_start front t other u v n w m (same f is) = ap (λ (x : Token). x.start) is
one_start front t other u v n w m (shorter k is) = absurd (n (prefix_is_viable max_nesting (front ++ t ∷ []) k (subst (IsViable max_nesting) is w)))
one_start front t other u v n w m (longer k is) = absurd (m (prefix_is_viable max_nesting (other ++ u ∷ []) k (subst (IsViable max_nesting) is v)))

-- no token is blocked if all are viable
never : (text : List ℕ) (front : List Token) (t : Token) (more tokens : List Token) (end last : End) → Spells 0 text (front ++ t ∷ more) end → (IsViable max_nesting (front ++ t ∷ []) → ⊥) → Spells 0 text tokens last → IsViable max_nesting tokens → ⊥
never text front t more tokens end last s n u v =
    let all = subst (IsViable max_nesting) (same_tokens text tokens (front ++ t ∷ more) last end u s) v in
    n (prefix_is_viable max_nesting (front ++ t ∷ []) more (subst (IsViable max_nesting) (sym (append_assoc front (t ∷ []) more)) all))

pub one_blocked_place : OneBlockedPlace
one_blocked_place text place other (texts.at_token {end = end} front t more s v n) (texts.at_token {end = last} front' u rest s' v' m) = one_start front t front' u v n v' m (parted front t more front' u rest (same_tokens text (front ++ t ∷ more) (front' ++ u ∷ rest) end last s s'))
one_blocked_place text place other (texts.at_token {end = end} front t more s v n) (texts.at_fault e f is) = absurd (never text front t more f.0 end (Refused e) s n f.1 f.2)
one_blocked_place text place other (texts.at_token {end = end} front t more s v n) (texts.at_end tokens u w) = absurd (never text front t more tokens end Whole s n u w)
one_blocked_place text place other (texts.at_fault e f is) (texts.at_token {end = end} front t more s v n) = absurd (never text front t more f.0 end (Refused e) s n f.1 f.2)
one_blocked_place text place other (texts.at_fault e f is) (texts.at_fault a g it) = same_Some place other (sym is ∙ ap fault_place (same_fault e a (same_end text f.0 g.0 (Refused e) (Refused a) f.1 g.1)) ∙ it)
one_blocked_place text place other (texts.at_fault e f is) (texts.at_end tokens s v) = absurd (not_whole (same_end text tokens f.0 Whole (Refused e) s f.1))
one_blocked_place text place other (texts.at_end tokens u w) (texts.at_token {end = end} front t more s v n) = absurd (never text front t more tokens end Whole s n u w)
one_blocked_place text place other (texts.at_end tokens s v) (texts.at_fault e f is) = absurd (not_whole (same_end text tokens f.0 Whole (Refused e) s f.1))
one_blocked_place text place other (texts.at_end tokens s v) (texts.at_end others u w) = refl

-- ---- each text is blocked at a place

fault_placed : (from stop : ℕ) (e : SyntaxError) → StandsWithin from stop e → (place : ℕ) × (fault_place e ≡ Some place)
fault_placed from stop (error.OpenQuote at) h = (at, refl)
fault_placed from stop (error.LoneBackslash at) h = (at, refl)
fault_placed from stop (error.OpenBrace at) h = (at, refl)
fault_placed from stop (error.BadVariable at) h = (at, refl)
fault_placed from stop (error.SingleAmp at) h = (at, refl)
fault_placed from stop (error.SinglePipe at) h = (at, refl)
fault_placed from stop (error.Unexpected at) h = absurd h
fault_placed from stop (error.MissingWord at) h = absurd h
fault_placed from stop (error.AssignmentBeforeCommand at) h = absurd h
fault_placed from stop (error.TooDeep at) h = absurd h
fault_placed from stop error.Memory h = absurd h

blocked_by_fault : (text : List ℕ) (e : SyntaxError) → IsFaultOf text e → (place : ℕ) × IsBlocked text place
blocked_by_fault text e f =
    let w = order_ends 0 (0 + length text) f.0 e (tokens_in_order 0 text f.0 (Refused e) f.1) in
    let at = fault_placed w.0 (0 + length text) e w.1 in
    (at.0, texts.at_fault e f at.1)

blocked_by_error : (text : List ℕ) (e : SyntaxError) → whole max_nesting (input_in text) ≡ Err e → (at : Option ℕ) → place_of e ≡ at → (place : ℕ) × IsBlocked text place
blocked_by_error text e h (Some place) is = (place, at_place text e h place is)
blocked_by_error text e h None is = blocked_by_fault text e (at_its_fault text e h is)

blocked_by : (text : List ℕ) (x : Result tree.Script SyntaxError) → whole max_nesting (input_in text) ≡ x → (place : ℕ) × IsBlocked text place
blocked_by text (Ok s) h =
    let t = read text s h in
    (length text, texts.at_end t.0 t.1 ([], s, subst (λ (l : List Token). Derives l s) (sym (append-nil t.0)) t.2))
blocked_by text (Err e) h = blocked_by_error text e h (place_of e) refl

pub each_text_is_blocked : EachTextIsBlocked
each_text_is_blocked text = blocked_by text (whole max_nesting (input_in text)) refl
