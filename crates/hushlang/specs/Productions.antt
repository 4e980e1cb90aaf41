-- Blocks and scripts by the productions of the grammar, which do not look at what follows:
--   block  := sep* andor (sep+ andor)* sep+
--           | sep* andor (sep+ andor)*        if the last command is compound
--   script := sep* | sep* andor (sep+ andor)* sep*
-- Ours, after docs/LANGUAGE.md. The grammar has one constructor with a look-ahead instead of the two cases of a block.
-- Laws say that they agree.
use Rattle.std.specs.Prelude.{◌≡◌, ℕ, true, List, ◌∷◌, ◌++◌}
use Rattle.std.specs.List.{list_all}
use Rattle.hushlang.specs.Token.{Token}
use Rattle.hushlang.specs.Tree.{Script, Empty, Runs, AndOr, ends_compound}
use Rattle.hushlang.specs.Grammar.{IsAndOr, is_separator}

abbrev pub AreSeparators : List Token → Type 0
AreSeparators tokens = list_all is_separator tokens ≡ true

-- andor (sep+ andor)*, up to the last and-or list
pub data IsRow : (depth : ℕ) → (tokens : List Token) → (lists : Script) → (final : AndOr) → (rest : List Token) →
    Type 0 where
  one : {depth : ℕ} {tokens rest : List Token} {list : AndOr} → IsAndOr depth tokens list rest →
      IsRow depth tokens (Runs list Empty) list rest
  another : {depth : ℕ} {tokens after rest : List Token} {list final : AndOr} {lists : Script} (sep : Token)
      (separators : List Token) → AreSeparators (sep ∷ separators) →
      IsAndOr depth tokens list (sep ∷ separators ++ after) → IsRow depth after lists final rest →
      IsRow depth tokens (Runs list lists) final rest

pub data IsProduced : (depth : ℕ) → (tokens : List Token) → (block : Script) → (rest : List Token) → Type 0 where
  separated : {depth : ℕ} {tokens rest : List Token} {block : Script} {final : AndOr} (front : List Token)
      (sep : Token) (separators : List Token) → AreSeparators front → AreSeparators (sep ∷ separators) →
      IsRow depth tokens block final (sep ∷ separators ++ rest) → IsProduced depth (front ++ tokens) block rest
  compound : {depth : ℕ} {tokens rest : List Token} {block : Script} {final : AndOr} (front : List Token) →
      AreSeparators front → IsRow depth tokens block final rest → ends_compound final ≡ true →
      IsProduced depth (front ++ tokens) block rest

pub data IsProducedScript : (depth : ℕ) → (tokens : List Token) → (script : Script) → Type 0 where
  separators_alone : {depth : ℕ} {tokens : List Token} → AreSeparators tokens → IsProducedScript depth tokens Empty
  and_or_lists : {depth : ℕ} {tokens behind : List Token} {script : Script} {final : AndOr} (front : List Token) →
      AreSeparators front → IsRow depth tokens script final behind → AreSeparators behind →
      IsProducedScript depth (front ++ tokens) script
