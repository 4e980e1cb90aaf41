-- What is read is removed from the tokens.
use Rattle.std.proofs.Common.{◌≡◌, ℕ, ◌<◌, ◌≤◌, Bool, true, false, List, [], ◌∷◌, length, ap, arith}
use Rattle.hushlang.specs.Token.{Token}
use Rattle.hushlang.specs.Tree.{Script, AndOr, Joined, Command, Arms}
use Rattle.hushlang.specs.Grammar.{IsCommand, simple, assign, «if», «while», until, for_in, IsArms, arm, IsMore, arms_end, «else», elif, IsLoop, loop, IsBody, body, IsBlock, block, IsLists, last, more, IsAndOr, starts, IsJoined, alone, joins, past, past_if, is_word, is_separator, is_newline_token}

past_if-shorter : (b : Bool) (all rest : List Token) → length rest ≤ length all → length (past_if b all rest) ≤ length all
past_if-shorter true all rest h = h
past_if-shorter false all rest h = omega arith

pub past-shorter : (test : Token → Bool) (tokens : List Token) → length (past test tokens) ≤ length tokens
past-shorter test [] = omega arith
past-shorter test (t ∷ tokens) = let h = past-shorter test tokens in past_if-shorter (test t) (t ∷ tokens) (past test tokens) (omega arith)

-- after a token that passes
past-passed : (test : Token → Bool) (t : Token) (tokens : List Token) → test t ≡ true → length (past test (t ∷ tokens)) < length (t ∷ tokens)
past-passed test t tokens is = let h = past-shorter test tokens in rw is (omega arith)

behind : (test : Token → Bool) (tokens : List Token) (t : Token) (after : List Token) → past test tokens ≡ t ∷ after → length after < length tokens
behind test tokens t after e = let h = past-shorter test tokens in let l : length (past test tokens) ≡ length (t ∷ after) = ap length e in omega arith

mutual
  pub command_shorter : {d : ℕ} {tokens rest : List Token} {c : Command} → IsCommand d tokens c rest → length rest < length tokens
  command_shorter (simple t tokens w k a) = past-passed is_word t tokens w
  command_shorter (assign t tokens w k a v) = past-passed is_word t tokens w
  command_shorter («if» k a f) = let h = arms_shorter a in omega arith
  command_shorter («while» k l) = let h = loop_shorter l in omega arith
  command_shorter (until k l) = let h = loop_shorter l in omega arith
  command_shorter (for_in tokens {after = after} k n i e s l) = let h = body_shorter l in let g = behind is_word tokens _ _ e in let f = past-shorter is_separator after in omega arith

  pub arms_shorter : {d : ℕ} {tokens rest : List Token} {a : Arms} → IsArms d tokens a rest → length rest < length tokens
  arms_shorter (arm c k b m) = let h = block_shorter c in let g = block_shorter b in let f = more_shorter m in omega arith

  pub more_shorter : {d : ℕ} {tokens rest : List Token} {a : Arms} → IsMore d tokens a rest → length rest ≤ length tokens
  more_shorter (arms_end k) = omega arith
  more_shorter («else» k b) = let h = block_shorter b in omega arith
  more_shorter (elif k a) = let h = arms_shorter a in omega arith

  pub loop_shorter : {d : ℕ} {tokens rest : List Token} {c b : Script} → IsLoop d tokens c b rest → length rest < length tokens
  loop_shorter (loop c b) = let h = block_shorter c in let g = body_shorter b in omega arith

  pub body_shorter : {d : ℕ} {tokens rest : List Token} {b : Script} → IsBody d tokens b rest → length rest < length tokens
  body_shorter (body k b e) = let h = block_shorter b in omega arith

  pub block_shorter : {d : ℕ} {tokens rest : List Token} {b : Script} → IsBlock d tokens b rest → length rest < length tokens
  block_shorter (block tokens l) = let h = lists_shorter l in let g = past-shorter is_separator tokens in omega arith

  pub lists_shorter : {d : ℕ} {tokens rest : List Token} {l : Script} → IsLists d tokens l rest → length rest < length tokens
  lists_shorter (last after a e) = let h = and_or_shorter a in let g = past-shorter is_separator after in omega arith
  lists_shorter (more {after = after} a s l) = let h = and_or_shorter a in let g = lists_shorter l in let f = past-shorter is_separator after in omega arith

  pub and_or_shorter : {d : ℕ} {tokens rest : List Token} {a : AndOr} → IsAndOr d tokens a rest → length rest < length tokens
  and_or_shorter (starts c j) = let h = command_shorter c in let g = joined_shorter j in omega arith

  pub joined_shorter : {d : ℕ} {tokens rest : List Token} {j : Joined} → IsJoined d tokens j rest → length rest ≤ length tokens
  joined_shorter (alone n) = omega arith
  joined_shorter (joins tokens o c j) = let h = command_shorter c in let g = joined_shorter j in let f = past-shorter is_newline_token tokens in omega arith
