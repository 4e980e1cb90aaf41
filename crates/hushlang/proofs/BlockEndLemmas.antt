-- A block ends with a separator or with a compound command.
use Rattle.std.proofs.Common.{◌≡◌, ℕ, true, List, ◌∷◌, refl, sym, ◌∙◌}
use Rattle.std.proofs.lemmas.Bool.{false≢true}
use Rattle.hushlang.specs.Token.{Token, Part}
use Rattle.hushlang.specs.Tree.{AndOr, Joined, Command, is_compound, last_is_compound, ends_compound}
use Rattle.hushlang.specs.Grammar as g
use Rattle.hushlang.specs.Grammar.{IsCommand, simple, assign, «if», «while», until, for_in, IsAndOr, starts, IsJoined, alone, joins, is_word, closes_at, reserved_of}
use Rattle.hushlang.specs.Laws.{BlocksAreClosed}
use Rattle.hushlang.specs.declared.token.Kind.{Kind}
use Rattle.hushlang.specs.declared.token.Kind.TheVariants as kinds
use Rattle.hushlang.proofs.SkippedTokenLemmas.{past_first}

word_kind : (kind : Kind) (parts : List Part) → closes_at (g.reserved_if kind parts) ≡ true → g.word_token kind ≡ true
word_kind kinds.Word parts e = refl
word_kind kinds.Semi parts e = absurd (false≢true e)
word_kind kinds.Newline parts e = absurd (false≢true e)
word_kind kinds.AndAnd parts e = absurd (false≢true e)
word_kind kinds.OrOr parts e = absurd (false≢true e)

pub closes_word : (t : Token) → closes_at (reserved_of t) ≡ true → is_word t ≡ true
unfolding reserved_of
closes_word t e = word_kind t.kind t.parts e

command_closed : {d : ℕ} {tokens rest : List Token} {c : Command} (t : Token) (more : List Token) → IsCommand d tokens c rest → rest ≡ t ∷ more → is_word t ≡ true → is_compound c ≡ true
command_closed t more (simple s tokens w k a) e is = absurd (false≢true (sym (past_first is_word (s ∷ tokens) t more e) ∙ is))
command_closed t more (assign s tokens w k a v) e is = absurd (false≢true (sym (past_first is_word (s ∷ tokens) t more e) ∙ is))
command_closed t more («if» k a f) e is = refl
command_closed t more («while» k l) e is = refl
command_closed t more (until k l) e is = refl
command_closed t more (for_in tokens k n i s l b) e is = refl

joined_closed : {d : ℕ} {tokens after rest : List Token} {c : Command} {j : Joined} (t : Token) (more : List Token) → IsCommand d tokens c after → IsJoined d after j rest → rest ≡ t ∷ more → is_word t ≡ true → last_is_compound c j ≡ true
joined_closed t more k (alone n) e is = command_closed t more k e is
joined_closed t more k (joins tokens o c j) e is = joined_closed t more c j e is

list_closed : {d : ℕ} {tokens rest : List Token} {a : AndOr} (t : Token) (more : List Token) → IsAndOr d tokens a rest → rest ≡ t ∷ more → is_word t ≡ true → ends_compound a ≡ true
list_closed t more (starts c j) e is = joined_closed t more c j e is

pub blocks_are_closed : BlocksAreClosed
blocks_are_closed depth tokens more t list a e = list_closed t more a refl (closes_word t e)
