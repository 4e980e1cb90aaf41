-- Worked examples of the names that are checked on a board, and of its environment, computed.
use Rattle.std.proofs.Common.{◌≡◌, [], ◌∷◌, List, Option, Some, None, codes, refl}
use Rattle.std.specs.Fmt.{digits}
use Rattle.hushcheck.specs.Names.{Text}
use Rattle.envimage.specs.Data.{Pair}
use Rattle.device_list.specs.DeviceList.{only}
use Rattle.board_start.specs.Boards.{Board}
use Rattle.board_start.specs.Counter.{Counter, counter_of}
use Rattle.hushcheck_program.specs.Checking.{behind_first, env_on}

abbrev uboot : Counter
uboot = counter_of (codes "bootcount") (codes "bootlimit") (codes "altbootcmd")

abbrev board_with : (before : List Text) → Option Counter → Board
board_with before counter = record { start = record { givens = (codes "p", record { first = codes "load"; others = [] }) ∷ []; before = before; counter = counter }; devices = only [] }

abbrev stored : List Pair
stored = (codes "altbootcmd", codes "run p") ∷ (codes "p", codes "load") ∷ []

asked_alone : behind_first None stored (codes "bootcmd" ∷ []) ≡ codes "bootcmd" ∷ []
asked_alone = refl

-- the texts that run first, the names that are asked for, and the alternative
alternative_last : behind_first (Some (board_with (codes "p" ∷ codes "q" ∷ []) (Some uboot))) stored (codes "bootcmd" ∷ []) ≡ codes "p" ∷ codes "bootcmd" ∷ codes "altbootcmd" ∷ []
alternative_last = refl

alternative_not_set : behind_first (Some (board_with [] (Some uboot))) [] (codes "bootcmd" ∷ []) ≡ codes "bootcmd" ∷ []
alternative_not_set = refl

no_counter : behind_first (Some (board_with [] None)) stored (codes "bootcmd" ∷ []) ≡ codes "bootcmd" ∷ []
no_counter = refl

-- what is given, and the raised counter
counter_raised : env_on (Some (board_with [] (Some uboot))) ((codes "altbootcmd", codes "run p") ∷ []) ≡ (codes "altbootcmd", codes "run p") ∷ (codes "p", codes "load") ∷ (codes "bootcount", codes "1") ∷ []
unfolding digits
counter_raised = refl

given_alone : env_on (Some (board_with [] None)) [] ≡ (codes "p", codes "load") ∷ []
given_alone = refl

no_board : env_on None stored ≡ stored
no_board = refl
