-- Each condition and each body in a tree holds a command, and each `if` has a condition.
use Rattle.std.proofs.Common.{ℕ, List}
use Rattle.hushlang.specs.Token.{Token}
use Rattle.hushlang.specs.Tree.{Script, AndOr, Joined, Command, Arms, IsProper, IsProperList, IsProperJoined, IsProperCommand, HasArm, AreProperArms, HoldsCommand}
use Rattle.hushlang.specs.Laws.{BlocksHoldCommands}
use Rattle.hushlang.specs.Grammar.{no_command, commands, IsCommand, simple, assign, «if», «while», until, for_in, IsArms, arm, IsMore, arms_end, «else», elif, IsLoop, loop, IsBody, body, IsBlock, block, IsLists, last, more, IsAndOr, starts, IsJoined, alone, joins}

mutual
  proper_command : {d : ℕ} {tokens rest : List Token} {c : Command} → IsCommand d tokens c rest → IsProperCommand c
  proper_command (simple t tokens w k a) = tt
  proper_command (assign t tokens w k a v) = tt
  proper_command («if» k a f) = has_arm a
  proper_command («while» k l) = proper_loop l
  proper_command (until k l) = proper_loop l
  proper_command (for_in tokens k n i e s l) = proper_body l

  has_arm : {d : ℕ} {tokens rest : List Token} {a : Arms} → IsArms d tokens a rest → HasArm a
  has_arm (arm c k b m) = (proper_block c, proper_block b, proper_more m)

  proper_arms : {d : ℕ} {tokens rest : List Token} {a : Arms} → IsArms d tokens a rest → AreProperArms a
  proper_arms (arm c k b m) = (proper_block c, proper_block b, proper_more m)

  proper_more : {d : ℕ} {tokens rest : List Token} {a : Arms} → IsMore d tokens a rest → AreProperArms a
  proper_more (arms_end k) = tt
  proper_more («else» k b) = proper_block b
  proper_more (elif k a) = proper_arms a

  proper_loop : {d : ℕ} {tokens rest : List Token} {c b : Script} → IsLoop d tokens c b rest → HoldsCommand c × HoldsCommand b
  proper_loop (loop c b) = (proper_block c, proper_body b)

  proper_body : {d : ℕ} {tokens rest : List Token} {b : Script} → IsBody d tokens b rest → HoldsCommand b
  proper_body (body k b e) = proper_block b

  proper_block : {d : ℕ} {tokens rest : List Token} {b : Script} → IsBlock d tokens b rest → HoldsCommand b
  proper_block (block tokens (last after a e)) = (proper_and_or a, tt)
  proper_block (block tokens (more a s l)) = (proper_and_or a, proper_lists l)

  proper_lists : {d : ℕ} {tokens rest : List Token} {l : Script} → IsLists d tokens l rest → IsProper l
  proper_lists (last after a e) = (proper_and_or a, tt)
  proper_lists (more a s l) = (proper_and_or a, proper_lists l)

  proper_and_or : {d : ℕ} {tokens rest : List Token} {a : AndOr} → IsAndOr d tokens a rest → IsProperList a
  proper_and_or (starts c j) = (proper_command c, proper_joined j)

  proper_joined : {d : ℕ} {tokens rest : List Token} {j : Joined} → IsJoined d tokens j rest → IsProperJoined j
  proper_joined (alone n) = tt
  proper_joined (joins tokens o c j) = (proper_command c, proper_joined j)

pub blocks_hold_commands : BlocksHoldCommands
blocks_hold_commands depth tokens s (no_command e) = tt
blocks_hold_commands depth tokens s (commands all l) = proper_lists l
