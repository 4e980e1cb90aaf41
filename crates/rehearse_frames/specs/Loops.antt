-- Moves one after another, what they read and write, and stretches of a run. Ours.
use Rattle.std.specs.Prelude.{◌≡◌, ℕ, zero, suc, ◌+◌, ◌≤◌, List, [], ◌++◌}
use Rattle.rehearse_terms.specs.Outcomes.{OutcomeWord}
use Rattle.rehearse_terms.specs.State.{Text, State}
use Rattle.rehearse_rules.specs.Execution.{Limits}
use Rattle.rehearse_machine.specs.Frames.{Frame, Next, Go, Ask, Stop, move}
use Rattle.rehearse_machine.specs.Meaning.{comes_to}
use Rattle.rehearse_reads.specs.Keys.{Key, Access, keys_in_front}
use Rattle.rehearse_frames.specs.MoveAccesses.{of_move}
use Rattle.rehearse_frames.specs.KeysToCome.{AreEnough}

-- the same state, with this many steps more
abbrev pub later : (steps : ℕ) → State → State
later steps s = record s { steps = s.steps + steps }

module _ (limits : Limits) where
  -- one move more, unless a device command asks or the run is over
  abbrev pub moved_on : Next → Next
  moved_on (Go fs s) = move limits fs s
  moved_on (Ask request fs s) = Ask request fs s
  moved_on (Stop ending s) = Stop ending s

  abbrev pub after_moves : (count : ℕ) → Next → Next
  after_moves zero next = next
  after_moves (suc count) next = moved_on (after_moves count next)

  -- what the next move reads and writes
  abbrev pub of_next_move : Next → List Access
  of_next_move (Go fs s) = of_move limits fs s
  of_next_move (Ask request fs s) = []
  of_next_move (Stop ending s) = []

  abbrev pub of_moves : (count : ℕ) → Next → List Access
  of_moves zero next = []
  of_moves (suc count) next = of_moves count next ++ of_next_move (after_moves count next)

  -- the second one comes after the first one: the same is to come, and keys that are enough at the second one, moved in front
  -- of these accesses, are enough at the first one
  pub record ComesAfter (first second : Next) (accesses : List Access) : Type 0 where
    pub comes : (w : OutcomeWord) → comes_to limits w second ≡ comes_to limits w first
    pub enough : (wanted : List Text) (keys : List Key) → AreEnough limits wanted second keys →
        AreEnough limits wanted first (keys_in_front accesses keys)

  -- a stretch of a run from one place to another: however many steps were begun before it, it goes the same way, as far as the
  -- bound allows
  pub record Stretch (fs : List Frame) (s : State) (gs : List Frame) (t : State) (accesses : List Access) : Type 0 where
    pub goes : (before : ℕ) → t.steps + before ≤ limits.step_bound →
        ComesAfter (Go fs (later before s)) (Go gs (later before t)) accesses
