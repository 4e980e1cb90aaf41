-- The grammar has the same blocks and scripts as the productions.
use Rattle.std.proofs.Common.{◌≡◌, ℕ, Bool, true, false, ◌&&◌, List, [], ◌∷◌, ◌++◌, Some, refl, ap, sym, ◌∙◌, subst, append-nil}
use Rattle.std.specs.List.{list_all}
use Rattle.std.proofs.lemmas.Bool.{and_parts}
use Rattle.hushlang.specs.Token.{Token, Part}
use Rattle.hushlang.specs.Tree.{Script, AndOr, Command, ends_compound}
use Rattle.hushlang.specs.Grammar as g
use Rattle.hushlang.specs.Grammar.{IsCommand, simple, assign, «if», «while», until, for_in, IsBlock, block, IsLists, last, more, IsAndOr, starts, no_command, commands, past, past_if, is_word, is_separator, reserved_of, ends_block, closes_at}
use Rattle.hushlang.specs.Productions.{AreSeparators, IsRow, one, another, IsProduced, separated, compound, IsProducedScript, separators_alone, and_or_lists}
use Rattle.hushlang.specs.Laws.{EachProducedBlockIsDerived, EachDerivedBlockIsProduced, EachProducedScriptIsDerived, EachDerivedScriptIsProduced}
use Rattle.hushlang.specs.declared.token.Kind.{Kind}
use Rattle.hushlang.specs.declared.token.Kind.TheVariants as kinds
use Rattle.hushlang.specs.declared.words.Reserved.{Reserved}
use Rattle.hushlang.proofs.BlockEndLemmas.{blocks_are_closed, closes_word}

-- ---- skipping separators

past-first : (t : Token) (tokens : List Token) (b : Bool) → is_separator t ≡ b → past is_separator (t ∷ tokens) ≡ past_if b (t ∷ tokens) (past is_separator tokens)
past-first t tokens b is = ap (λ b. past_if b (t ∷ tokens) (past is_separator tokens)) is

past-separators : (front tokens : List Token) → AreSeparators front → past is_separator (front ++ tokens) ≡ past is_separator tokens
past-separators [] tokens all = refl
past-separators (t ∷ front) tokens all =
    let both = and_parts (is_separator t) (list_all is_separator front) all in
    past-first t (front ++ tokens) true both.0 ∙ past-separators front tokens both.1

-- a word is not a separator, and a command starts with a word
word_separates : (kind : Kind) → g.word_token kind ≡ true → g.separates kind ≡ false
word_separates kinds.Word e = refl
word_separates kinds.Semi e = cc
word_separates kinds.Newline e = cc
word_separates kinds.AndAnd e = cc
word_separates kinds.OrOr e = cc

reserved_separates : (kind : Kind) (parts : List Part) (word : Reserved) → g.reserved_if kind parts ≡ Some word → g.separates kind ≡ false
reserved_separates kinds.Word parts word e = refl
reserved_separates kinds.Semi parts word e = cc
reserved_separates kinds.Newline parts word e = cc
reserved_separates kinds.AndAnd parts word e = cc
reserved_separates kinds.OrOr parts word e = cc

word_stays : (t : Token) (tokens : List Token) → is_word t ≡ true → past is_separator (t ∷ tokens) ≡ t ∷ tokens
word_stays t tokens w = past-first t tokens false (word_separates t.kind w)

reserved_stays : (t : Token) (tokens : List Token) (word : Reserved) → reserved_of t ≡ Some word → past is_separator (t ∷ tokens) ≡ t ∷ tokens
unfolding reserved_of
reserved_stays t tokens word k = past-first t tokens false (reserved_separates t.kind t.parts word k)

command_stays : {d : ℕ} {tokens rest : List Token} {c : Command} → IsCommand d tokens c rest → past is_separator tokens ≡ tokens
command_stays (simple t tokens w k a) = word_stays t tokens w
command_stays (assign t tokens w k a v) = word_stays t tokens w
command_stays («if» k a f) = reserved_stays _ _ _ k
command_stays («while» k l) = reserved_stays _ _ _ k
command_stays (until k l) = reserved_stays _ _ _ k
command_stays (for_in tokens k n i e s b) = reserved_stays _ _ _ k

list_stays : {d : ℕ} {tokens rest : List Token} {a : AndOr} → IsAndOr d tokens a rest → past is_separator tokens ≡ tokens
list_stays (starts c j) = command_stays c

row_stays : {d : ℕ} {tokens rest : List Token} {lists : Script} {final : AndOr} → IsRow d tokens lists final rest → past is_separator tokens ≡ tokens
row_stays (one a) = list_stays a
row_stays (another sep separators s a r) = list_stays a

-- ---- what the productions give is derived

row_derived : {d : ℕ} {tokens rest : List Token} {lists : Script} {final : AndOr} → IsRow d tokens lists final rest → ends_block (past is_separator rest) ≡ true → IsLists d tokens lists (past is_separator rest)
row_derived {rest = rest} (one a) ends = last rest a ends
row_derived {d = d} {rest = rest} (another {after = after} {lists = lists} sep separators s a r) ends =
    let both = and_parts (is_separator sep) (list_all is_separator separators) s in
    let same : past is_separator (separators ++ after) ≡ after = past-separators separators after both.1 ∙ row_stays r in
    more a both.0 (subst (λ tokens. IsLists d tokens lists (past is_separator rest)) (sym same) (row_derived r ends))

block_derived : {d : ℕ} {tokens rest end : List Token} {lists : Script} {final : AndOr} (front : List Token) → AreSeparators front → IsRow d tokens lists final end → past is_separator end ≡ rest → ends_block rest ≡ true → IsBlock d (front ++ tokens) lists rest
block_derived {d} {tokens} {rest} {end} {lists} front f r behind ends =
    let same : past is_separator (front ++ tokens) ≡ tokens = past-separators front tokens f ∙ row_stays r in
    let derived : IsLists d tokens lists rest = subst (λ rest. IsLists d tokens lists rest) behind (row_derived r (ap ends_block behind ∙ ends)) in
    block (front ++ tokens) (subst (λ tokens. IsLists d tokens lists rest) (sym same) derived)

produced_derived : {d : ℕ} {tokens rest : List Token} {lists : Script} → IsProduced d tokens lists rest → past is_separator rest ≡ rest → ends_block rest ≡ true → IsBlock d tokens lists rest
produced_derived {rest = rest} (separated front sep separators f s r) stays ends = block_derived front f r (past-separators (sep ∷ separators) rest s ∙ stays) ends
produced_derived (compound front f r c) stays ends = block_derived front f r stays ends

pub each_produced_block_is_derived : EachProducedBlockIsDerived
each_produced_block_is_derived depth tokens behind t lists closes p = produced_derived p (word_stays t behind (closes_word t closes)) closes

-- ---- what is derived comes by the productions

-- the separators at the start
abbrev front_if : Bool → Token → List Token → List Token
front_if true t front = t ∷ front
front_if false t front = []

abbrev front_of : List Token → List Token
front_of [] = []
front_of (t ∷ tokens) = front_if (is_separator t) t (front_of tokens)

split_if : (b : Bool) (t : Token) (tokens : List Token) → tokens ≡ front_of tokens ++ past is_separator tokens → t ∷ tokens ≡ front_if b t (front_of tokens) ++ past_if b (t ∷ tokens) (past is_separator tokens)
split_if true t tokens e = ap (λ tokens. t ∷ tokens) e
split_if false t tokens e = refl

front_split : (tokens : List Token) → tokens ≡ front_of tokens ++ past is_separator tokens
front_split [] = refl
front_split (t ∷ tokens) = split_if (is_separator t) t tokens (front_split tokens)

with_first : (t : Token) (tokens : List Token) → is_separator t ≡ true → AreSeparators tokens → AreSeparators (t ∷ tokens)
with_first t tokens s all = ap (λ b. b && list_all is_separator tokens) s ∙ all

separators_if : (b : Bool) (t : Token) (tokens : List Token) → is_separator t ≡ b → AreSeparators tokens → AreSeparators (front_if b t tokens)
separators_if true t tokens s all = with_first t tokens s all
separators_if false t tokens s all = refl

front_separates : (tokens : List Token) → AreSeparators (front_of tokens)
front_separates [] = refl
front_separates (t ∷ tokens) = separators_if (is_separator t) t (front_of tokens) refl (front_separates tokens)

-- a row, then separators, or a compound command if a token follows
data IsEnded (d : ℕ) (tokens : List Token) (lists : Script) (rest : List Token) : Type 0 where
  ended : {final : AndOr} (separators : List Token) → AreSeparators separators → IsRow d tokens lists final (separators ++ rest) → ((t : Token) (behind : List Token) → rest ≡ t ∷ behind → separators ≡ [] → ends_compound final ≡ true) → IsEnded d tokens lists rest

lists_ended : {d : ℕ} {tokens rest : List Token} {lists : Script} → IsLists d tokens lists rest → IsEnded d tokens lists rest
lists_ended {d} {tokens} (last after {list = list} a ends) =
    let split = front_split after in
    ended (front_of after) (front_separates after) (one (subst (λ rest. IsAndOr d tokens list rest) split a))
    (λ t behind is none.
    let closes : closes_at (reserved_of t) ≡ true = sym (ap ends_block is) ∙ ends in
    let here : after ≡ t ∷ behind = split ∙ ap (λ front. front ++ past is_separator after) none ∙ is in
    blocks_are_closed d tokens behind t list (subst (λ rest. IsAndOr d tokens list rest) here a) closes)
lists_ended {d} {tokens} (more {sep = sep} {after = after} {list = list} a s l) =
    elim (lists_ended l) [
      | ended separators all row closed ↦ ended separators all (another sep (front_of after) (with_first sep (front_of after) s (front_separates after)) (subst (λ after. IsAndOr d tokens list (sep ∷ after)) (front_split after) a) row) closed
    ]

ended_produced : {d : ℕ} {tokens rest : List Token} {lists : Script} (front : List Token) (t : Token) (behind : List Token) → rest ≡ t ∷ behind → AreSeparators front → IsEnded d tokens lists rest → IsProduced d (front ++ tokens) lists rest
ended_produced front t behind is f (ended [] all row closed) = compound front f row (closed t behind is refl)
ended_produced front t behind is f (ended (sep ∷ separators) all row closed) = separated front sep separators f all row

block_produced : {d : ℕ} {tokens rest : List Token} {lists : Script} (t : Token) (behind : List Token) → rest ≡ t ∷ behind → IsBlock d tokens lists rest → IsProduced d tokens lists rest
block_produced {d} {rest = rest} {lists = lists} t behind is (block tokens l) =
    subst (λ tokens. IsProduced d tokens lists rest) (sym (front_split tokens)) (ended_produced (front_of tokens) t behind is (front_separates tokens) (lists_ended l))

pub each_derived_block_is_produced : EachDerivedBlockIsProduced
each_derived_block_is_produced depth tokens behind t lists b = block_produced t behind refl b

-- ---- scripts

past-all : (tokens : List Token) → AreSeparators tokens → past is_separator tokens ≡ []
past-all [] all = refl
past-all (t ∷ tokens) all =
    let both = and_parts (is_separator t) (list_all is_separator tokens) all in
    past-first t tokens true both.0 ∙ past-all tokens both.1

all_front : (tokens : List Token) → past is_separator tokens ≡ [] → AreSeparators tokens
all_front tokens none =
    let same : tokens ≡ front_of tokens = front_split tokens ∙ ap (λ rest. front_of tokens ++ rest) none ∙ append-nil (front_of tokens) in
    subst AreSeparators (sym same) (front_separates tokens)

pub each_produced_script_is_derived : EachProducedScriptIsDerived
each_produced_script_is_derived depth tokens script (separators_alone all) = no_command (past-all tokens all)
each_produced_script_is_derived depth all script (and_or_lists {tokens = tokens} {behind = behind} front f r b) =
    let same : past is_separator (front ++ tokens) ≡ tokens = past-separators front tokens f ∙ row_stays r in
    let none : past is_separator behind ≡ [] = past-all behind b in
    let derived : IsLists depth tokens script [] = subst (λ rest. IsLists depth tokens script rest) none (row_derived r (ap ends_block none)) in
    commands (front ++ tokens) (subst (λ tokens. IsLists depth tokens script []) (sym same) derived)

script_produced : {d : ℕ} {tokens rest : List Token} {script : Script} (front : List Token) → AreSeparators front → rest ≡ [] → IsEnded d tokens script rest → IsProducedScript d (front ++ tokens) script
script_produced {d} {tokens} {rest} {script} front f none (ended {final = final} separators all row closed) =
    let behind : separators ++ rest ≡ separators = ap (λ rest. separators ++ rest) none ∙ append-nil separators in
    and_or_lists front f (subst (λ rest. IsRow d tokens script final rest) behind row) all

pub each_derived_script_is_produced : EachDerivedScriptIsProduced
each_derived_script_is_produced depth tokens script (no_command none) = separators_alone (all_front tokens none)
each_derived_script_is_produced depth all script (commands tokens l) =
    subst (λ tokens. IsProducedScript depth tokens script) (sym (front_split tokens)) (script_produced (front_of tokens) (front_separates tokens) refl (lists_ended l))
