-- A device command that asks for its outcome: where it is, and how it is found again. Ours.
use Rattle.rehearse_rules.specs.ByShell.{fields_in, reads_again}
use Rattle.std.specs.Prelude.{◌≡◌, ℕ, zero, suc, List, [], ◌∷◌, Option, Some, None}
use Rattle.hushlang.specs.Tree as tree
use Rattle.hushlang.specs.Tree.{Command}
use Rattle.bootstore_state.specs.Moment.{RunningFrame}
use Rattle.rehearse_terms.specs.State.{State}
use Rattle.rehearse_rules.specs.Parameters.{parameters_in}
use Rattle.rehearse_rules.specs.Execution.{Limits, End}
use Rattle.rehearse_machine.specs.Places.{PlaceNext, GoOn, AskOn, StopOn, list_at, command_at, place_fitting, place_fields}

-- the command before the place of a frame
abbrev pub command_in_front : ℕ → RunningFrame → Option Command
command_in_front zero f = None
command_in_front (suc command) f = command_at (list_at f.script f.place.list) command

-- the words of a simple command
abbrev pub words_of : Option Command → Option (List tree.Word)
words_of None = None
words_of (Some (tree.Simple words)) = Some words
words_of (Some (tree.Assign values)) = None
words_of (Some (tree.If arms)) = None
words_of (Some (tree.Loop until cond body)) = None
words_of (Some (tree.For name words body)) = None

abbrev pub words_in_front : RunningFrame → Option (List tree.Word)
words_in_front f = words_of (command_in_front f.place.command f)

-- the result of the words of a simple command that has begun
abbrev pub fields_again : Limits → Option (List tree.Word) → RunningFrame → List RunningFrame → State → PlaceNext
fields_again limits None f fs s = StopOn (End s.memory.status) s
fields_again limits (Some words) f fs s =
    place_fitting (fields_in limits.shell (parameters_in s.memory) words)
    (λ found. place_fields limits (reads_again words) found f.script (f ∷ fs)) s

-- the command before the place of the innermost frame, found again: a device command that asks, if it is one
abbrev pub found_again : Limits → List RunningFrame → State → PlaceNext
found_again limits [] s = StopOn (End s.memory.status) s
found_again limits (f ∷ fs) s = fields_again limits (words_in_front f) f fs s

-- if a command asks, it is found again
abbrev pub AsksAgain : Limits → PlaceNext → Type 0
AsksAgain limits (GoOn fs s) = Unit {0}
AsksAgain limits (AskOn request fs s) = found_again limits fs s ≡ AskOn request fs s
AsksAgain limits (StopOn ending s) = Unit {0}
