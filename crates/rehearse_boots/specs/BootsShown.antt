-- What contracts see of boots.
use Rattle.std.specs.Prelude.{◌≡◌, ℕ, List, map, option_map, Result, Ok, Err, Vec}
use Rattle.std.specs.declared.alloc.Global.{Global}
use Rattle.board_start.specs.Boards.{Fault, OfDevices, OfStart}
use Rattle.board_start.specs.declared.board_error.BoardError.{BoardError}
use Rattle.board_start.specs.declared.board_error.BoardError.TheVariants as error
use Rattle.envimage.specs.Data.{Pair}
use Rattle.envimage.specs.Entries.{pair_at}
use Rattle.rehearse_boots.specs.Boots.{Asked, Expected, Kept, Started}
use Rattle.rehearse_boots.specs.declared.ask.BootsAsk.{BootsAsk}
use Rattle.rehearse_boots.specs.declared.ask.Expected as rt_expected
use Rattle.rehearse_boots.specs.declared.ask.Started as rt
use Rattle.text.specs.TextsShown.{bytes_of_words, option_items}

abbrev pub started_shown : rt.Started → Started
started_shown s = record { environment = s.env; devices = s.devices; text = option_items s.text; saves = s.saves }

-- what a boot starts with, or why it does not; memory may run out before that is known
abbrev pub Starts : Result Started Fault → Result rt.Started BoardError → Type 0
Starts start (Ok s) = start ≡ Ok (started_shown s)
Starts start (Err (error.Start fault)) = start ≡ Err (OfStart fault)
Starts start (Err (error.Devices fault)) = start ≡ Err (OfDevices fault)
Starts start (Err error.Memory) = Unit {0}

abbrev pub expected_shown : rt_expected.Expected → Expected
expected_shown e = record { ending = e.ending.now; values = map pair_at e.values.now; within = e.within }

-- what is asked of the boots of a board whose image has this environment
abbrev pub asked_of : List Pair → BootsAsk → Asked
asked_of environment ask = record {
  environment = environment;
  name = ask.name.now;
  bounds = ask.bounds;
  failures = ask.failures;
  names = map (λ n. n.now) ask.names.now;
  kept = map (λ n. n.now) ask.kept.now;
  room = ask.room;
  changes = option_map (λ n. n.now) ask.changes;
  expected = option_map expected_shown ask.expected;
}

abbrev pub kept_shown : Vec (Vec ℕ Global) Global → Kept
kept_shown kept = bytes_of_words kept.items
