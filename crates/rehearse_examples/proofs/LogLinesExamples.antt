-- The lines of a log of device commands, and where each starts, computed.
use Rattle.std.proofs.Common.{◌≡◌, refl, true, false, [], ◌∷◌, codes}
use Rattle.rehearse_terms.specs.State.{LoggedCommand}
use Rattle.bootstore_state.specs.DeviceLog.{AreLines, entry_line, starts_from}

abbrev loaded : LoggedCommand
loaded = record { success = true; words = codes "load" ∷ codes "a" ∷ []; stays = false; again = false }

-- one with an empty word, and with a space in a word
abbrev failed : LoggedCommand
failed = record { success = false; words = codes "boot" ∷ [] ∷ codes "b c" ∷ []; stays = false; again = true }

of_a_success : entry_line loaded ≡ codes "dev 0 load a\n"
of_a_success = refl

-- also of a command that is given its answer again
of_a_failure : entry_line failed ≡ codes "dev 1 boot \\e b\\x20c\n"
of_a_failure = refl

no_start : starts_from 7 [] ≡ []
no_start = refl

-- each starts where the one before it ends
starts : starts_from 7 (loaded ∷ failed ∷ loaded ∷ []) ≡ 7 ∷ 20 ∷ 41 ∷ []
starts = refl

of_a_log : AreLines (loaded ∷ failed ∷ []) (codes "dev 0 load a\ndev 1 boot \\e b\\x20c\n") (0 ∷ 13 ∷ [])
of_a_log = record { whole = refl; cuts = refl }
