use Rattle.std.proofs.Common.{◌≡◌, ◌≤◌, drop, ℕ, List}
use Rattle.commands.specs.BuiltInCommands.{decimal_from}
use Rattle.rehearse_machine.proofs.built_in.decimal.Given as goal

pub record IsRead (number : ℕ) (rest word : List ℕ) : Type 0 where
  pub same : decimal_from number rest ≡ decimal_from 0 word
  pub small : number ≤ 255

abbrev pub invariant-loop-byte : goal.invariant-loop-byte
invariant-loop-byte l = IsRead l.number (drop l.byte-index l.word) l.word
