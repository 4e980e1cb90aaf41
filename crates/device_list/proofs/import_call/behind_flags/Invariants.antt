use Rattle.std.proofs.Common.{◌≡◌, length}
use Rattle.commands.specs.TextsShown.{texts}
use Rattle.device_list.specs.Imports.{behind_flags}
use Rattle.device_list.proofs.import_call.behind_flags.Given as goal

-- the words so far are flags
abbrev pub invariant-loop-word : goal.invariant-loop-word
invariant-loop-word l = behind_flags (texts l.words) ≡ behind_flags (texts l.left)

abbrev pub decreases-loop-word : goal.decreases-loop-word
decreases-loop-word l = length l.left
