use Rattle.std.proofs.Common.{◌≡◌, drop}
use Rattle.commands.specs.TextsShown.{texts}
use Rattle.device_list.specs.Imports.{has_letter}
use Rattle.device_list.proofs.import_call.has_letter.Given as goal

-- the words so far are flags without the letter
abbrev pub invariant-loop-word : goal.invariant-loop-word
invariant-loop-word l = has_letter l.letter (texts l.words) ≡ has_letter l.letter (texts (drop l.word-index l.words))
