-- What contracts see of the variables and files that wait for their turns.
use Rattle.std.specs.Prelude.{◌+◌, ◌||◌, ℕ, Bool, List, [], length, nat_lt, slice_index_or, if◌then◌else◌}
use Rattle.envimage.specs.Data.{Pair}
use Rattle.hushcheck.specs.Names.{Text}
use Rattle.hushcheck.specs.Order.{File, Turn, Variable, called_by, run_by, with_names}
use Rattle.hushcheck.specs.Rules.{Rules}
use Rattle.hushcheck.specs.declared.queue.Turn as code
use Rattle.hushcheck.specs.declared.queue.Turn.TheVariants as turns

-- what is reached so far, and how many of the variables and of the files had their turns
pub record Queue : Type 0 where
  pub variables : List Text
  pub at : ℕ
  pub files : List Text
  pub file_at : ℕ

abbrev pub first_queue : (variables files : List Text) → Queue
first_queue variables files = record { variables = variables; at = 0; files = files; file_at = 0 }

abbrev pub has_variable : Queue → Bool
has_variable q = nat_lt q.at (length q.variables)

abbrev pub has_file : Queue → Bool
has_file q = nat_lt q.file_at (length q.files)

abbrev pub has_turn : Queue → Bool
has_turn q = has_variable q || has_file q

-- the next variable, or if none is left the next file
abbrev pub next_turn : Queue → Turn
next_turn q = if has_variable q then Variable (slice_index_or q.variables q.at []) else File (slice_index_or q.files q.file_at [])

abbrev pub passed : Queue → Queue
passed q = if has_variable q then record q { at = q.at + 1 } else record q { file_at = q.file_at + 1 }

-- these are reached, too
abbrev pub with_reached : Queue → (variables files : List Text) → Queue
with_reached q variables files = record q {
  variables = with_names q.variables variables;
  files = with_names q.files files;
}

-- after the next turn
abbrev pub after_turn : Rules → List Pair → Queue → Queue
after_turn rules env q =
    with_reached (passed q) (run_by rules env (next_turn q)) (called_by rules env (next_turn q))

-- a turn of the program
abbrev pub turn_shown : code.Turn → Turn
turn_shown (turns.Variable name) = Variable name.now
turn_shown (turns.File name) = File name.now
