-- The laws of the language.
use Rattle.std.specs.Prelude.{◌≡◌, ◌+◌, ◌<◌, ◌≤◌, ◌||◌, ◌&&◌, ℕ, Bool, true, false, List, [], ◌∷◌, ◌++◌, length, Ok, Err, is_some, codes}
use Rattle.std.specs.List.{list_all}
use Rattle.hushlang.specs.Token.{Part, Token, End, Whole, Refused}
use Rattle.hushlang.specs.declared.token.SyntaxError.{SyntaxError}
use Rattle.hushlang.specs.declared.token.SyntaxError.TheVariants.{OpenQuote, LoneBackslash, OpenBrace, BadVariable, SingleAmp, SinglePipe}
use Rattle.hushlang.specs.Tree.{Piece, Bytes, Script, AndOr, IsProper, ends_compound}
use Rattle.hushlang.specs.WordPieces.{pieces}
use Rattle.hushlang.specs.Spelling.{Spells}
use Rattle.hushlang.specs.Tokenizing.{lexed}
use Rattle.hushlang.specs.Words.{is_plain}
use Rattle.hushlang.specs.Grammar.{IsScript, IsBlock, IsAndOr, closes_at, reserved_of, is_separator, is_word, is_in_word}
use Rattle.hushlang.specs.Productions.{IsProduced, IsProducedScript}
use Rattle.hushlang.specs.RefusalPlaces.{IsRefusal, IsViable}
use Rattle.hushlang.specs.Texts.{IsTreeOf, IsBlocked}
use Rattle.hushlang.specs.Parsing.{whole}

-- a text spells only the tokens that are computed, so it spells at most one row of them
abbrev pub SpelledOnce : Type 0
SpelledOnce = (at : ℕ) (text : List ℕ) (tokens : List Token) (end : End) → Spells at text tokens end →
    lexed at text ≡ record { tokens = tokens; end = end }

-- and it spells those
abbrev pub EachSpelled : Type 0
EachSpelled = (at : ℕ) (text : List ℕ) → Spells at text (lexed at text).tokens (lexed at text).end

abbrev pub begins_with_bytes : List Piece → Bool
begins_with_bytes (Bytes bytes ∷ more) = true
begins_with_bytes more = false

-- no piece of bytes is empty, and no two are next to each other
abbrev pub AreJoined : List Piece → Type 0
AreJoined [] = Unit {0}
AreJoined (Bytes bytes ∷ more) = (0 < length bytes) × (begins_with_bytes more ≡ false) × AreJoined more
AreJoined (piece ∷ more) = AreJoined more

abbrev pub PiecesJoined : Type 0
PiecesJoined = (parts : List Part) → AreJoined (pieces parts)

-- a fault of the tokens, at a place from start up to stop
abbrev pub StandsWithin : (start stop : ℕ) → SyntaxError → Type 0
StandsWithin start stop (OpenQuote at) = (start ≤ at) × (at < stop)
StandsWithin start stop (LoneBackslash at) = (start ≤ at) × (at < stop)
StandsWithin start stop (OpenBrace at) = (start ≤ at) × (at < stop)
StandsWithin start stop (BadVariable at) = (start ≤ at) × (at < stop)
StandsWithin start stop (SingleAmp at) = (start ≤ at) × (at < stop)
StandsWithin start stop (SinglePipe at) = (start ≤ at) × (at < stop)
StandsWithin start stop other = ⊥

-- tokens that follow one another, and what refuses the text after them
abbrev pub AreInOrder : (start stop : ℕ) → List Token → End → Type 0
AreInOrder start stop [] Whole = Unit {0}
AreInOrder start stop [] (Refused error) = StandsWithin start stop error
AreInOrder start stop (t ∷ tokens) end = (start ≤ t.start) × (t.start < t.stop) × (t.stop ≤ stop)
    × AreInOrder t.stop stop tokens end

abbrev pub TokensInOrder : Type 0
TokensInOrder = (at : ℕ) (text : List ℕ) (tokens : List Token) (end : End) → Spells at text tokens end →
    AreInOrder at (at + length text) tokens end

-- ---- trees

-- the reader finds each tree
abbrev pub EachTreeIsRead : Type 0
EachTreeIsRead = (depth : ℕ) (tokens : List Token) (s : Script) (size : ℕ) → IsScript depth tokens s →
    whole depth record { tokens = tokens; end = Whole; size = size } ≡ Ok s

-- what the reader finds is a tree of the tokens, and the tokens end without a fault
abbrev pub WhatIsReadIsATree : Type 0
WhatIsReadIsATree = (depth : ℕ) (tokens : List Token) (end : End) (s : Script) (size : ℕ) →
    whole depth record { tokens = tokens; end = end; size = size } ≡ Ok s → (end ≡ Whole) × IsScript depth tokens s

-- tokens have at most one tree
abbrev pub OneTree : Type 0
OneTree = (depth : ℕ) (tokens : List Token) (s other : Script) → IsScript depth tokens s →
    IsScript depth tokens other → s ≡ other

-- and so has a text
abbrev pub OneTreeOfText : Type 0
OneTreeOfText = (text : List ℕ) (s other : Script) → IsTreeOf text s → IsTreeOf text other → s ≡ other

-- the grammar's trees are proper: each condition and each body holds a command, and each `if` has a condition
abbrev pub BlocksHoldCommands : Type 0
BlocksHoldCommands = (depth : ℕ) (tokens : List Token) (s : Script) → IsScript depth tokens s → IsProper s

-- if a closing word is right after an and-or list, without a separator, the list's last command is compound
abbrev pub BlocksAreClosed : Type 0
BlocksAreClosed = (depth : ℕ) (tokens more : List Token) (t : Token) (list : AndOr) →
    IsAndOr depth tokens list (t ∷ more) → closes_at (reserved_of t) ≡ true → ends_compound list ≡ true

-- each block by the productions, if a closing word follows it, is derived
abbrev pub EachProducedBlockIsDerived : Type 0
EachProducedBlockIsDerived = (depth : ℕ) (tokens more : List Token) (t : Token) (block : Script) →
    closes_at (reserved_of t) ≡ true → IsProduced depth tokens block (t ∷ more) → IsBlock depth tokens block (t ∷ more)

-- and each derived block, if a token follows it, is one by the productions
abbrev pub EachDerivedBlockIsProduced : Type 0
EachDerivedBlockIsProduced = (depth : ℕ) (tokens more : List Token) (t : Token) (block : Script) →
    IsBlock depth tokens block (t ∷ more) → IsProduced depth tokens block (t ∷ more)

-- the scripts by the productions are the derived ones
abbrev pub EachProducedScriptIsDerived : Type 0
EachProducedScriptIsDerived = (depth : ℕ) (tokens : List Token) (s : Script) → IsProducedScript depth tokens s →
    IsScript depth tokens s

abbrev pub EachDerivedScriptIsProduced : Type 0
EachDerivedScriptIsProduced = (depth : ℕ) (tokens : List Token) (s : Script) → IsScript depth tokens s →
    IsProducedScript depth tokens s

-- ---- places

-- a refusal names the first token with which no script can go on, or the fault or the end after all tokens
abbrev pub RefusalsArePlaced : Type 0
RefusalsArePlaced = (depth : ℕ) (tokens : List Token) (end : End) (size : ℕ) (e : SyntaxError) →
    whole depth record { tokens = tokens; end = end; size = size } ≡ Err e → IsRefusal depth tokens end size e

-- a lexical fault is the answer if all tokens before it start a script
abbrev pub FaultsAreAnswered : Type 0
FaultsAreAnswered = (depth : ℕ) (tokens : List Token) (size : ℕ) (e : SyntaxError) → IsViable depth tokens →
    whole depth record { tokens = tokens; end = Refused e; size = size } ≡ Err e

-- if tokens start a script, so does each prefix of them
abbrev pub PrefixIsViable : Type 0
PrefixIsViable = (depth : ℕ) (front more : List Token) → IsViable depth (front ++ more) → IsViable depth front

-- the words `true` and `in`, separators and reserved words
abbrev pub completes : Token → Bool
completes t = is_separator t
    || (is_some (reserved_of t) || (is_in_word t || (is_word t && is_plain (codes "true") t.parts)))

-- only these complete tokens that start a script
abbrev pub FewTokensComplete : Type 0
FewTokensComplete = (depth : ℕ) (tokens : List Token) → IsViable depth tokens → (more : List Token)
    × (list_all completes more ≡ true) × ((s : Script) × IsScript depth (tokens ++ more) s)

-- each text is blocked at a place; a script is blocked at its end
abbrev pub EachTextIsBlocked : Type 0
EachTextIsBlocked = (text : List ℕ) → (place : ℕ) × IsBlocked text place

-- and at no other
abbrev pub OneBlockedPlace : Type 0
OneBlockedPlace = (text : List ℕ) (place other : ℕ) → IsBlocked text place → IsBlocked text other → place ≡ other
