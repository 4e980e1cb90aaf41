-- What the innermost frame does next, as a value. Ours.
use Rattle.std.specs.Prelude.{◌≡◌, ℕ, ◌+◌, ◌^◌, ◌<◌, List, ◌∷◌, map}
use Rattle.hushlang.specs.Tree as tree
use Rattle.hushlang.specs.TreesShown as view
use Rattle.bootstore_state.specs.Moment.{RunningFrame}
use Rattle.rehearse_terms.specs.State.{State}
use Rattle.rehearse_terms.specs.declared.shell.Shell.{Shell}
use Rattle.rehearse_rules.specs.Execution.{Limits, set_status}
use Rattle.rehearse_machine.specs.declared.next_move.Next.{Next}
use Rattle.rehearse_machine.specs.declared.next_move.Next.TheVariants as nexts
use Rattle.rehearse_machine.specs.Places.{PlaceNext, GoOn, moved_to, block_frame, place_command, place_counted, for_move, run_move, command_at, list_at, place_for, file_move}

-- what the frame f does next, over the frames below it
abbrev pub continued : Limits → Next → RunningFrame → List RunningFrame → State → PlaceNext
continued limits nexts.Leaves f fs s = GoOn fs s
continued limits (nexts.Goes at) f fs s = GoOn (moved_to at f ∷ fs) s
continued limits (nexts.Finishes at status) f fs s = GoOn (moved_to at f ∷ fs) (set_status status s)
continued limits (nexts.Enters at script) f fs s = GoOn (block_frame (view.script script.now.value) ∷ moved_to at f ∷ fs) s
continued limits (nexts.Skips at status script) f fs s =
    GoOn (block_frame (view.script script.now.value) ∷ moved_to at f ∷ fs) (set_status status s)
continued limits (nexts.Calls call) f fs s = place_command limits (tree.Simple (view.call call.now)) f fs s
continued limits (nexts.Assigns values) f fs s = place_command limits (tree.Assign (map view.value values.now)) f fs s
continued limits (nexts.Loops name words) f fs s =
    place_counted limits (place_for limits.shell name.now (map view.word words.now) f fs) s
continued limits nexts.Turns f fs s =
    for_move limits.shell (command_at (list_at f.script f.place.list) f.place.command) f fs s
continued limits nexts.Names f fs s = run_move limits.shell f fs s
continued limits nexts.Hands f fs s = file_move limits f fs s

-- the frame f does next what is said, within any limits
abbrev pub Continues : Next → RunningFrame → (Limits → List RunningFrame → State → PlaceNext) → Type 0
Continues next f says = (limits : Limits) (fs : List RunningFrame) (s : State) → continued limits next f fs s ≡ says limits fs s

-- the same in this shell, at this status
abbrev pub ContinuesAt : Shell → (status : ℕ) → Next → RunningFrame → (Limits → List RunningFrame → State → PlaceNext) →
    Type 0
ContinuesAt shell status next f says =
    (limits : Limits) (fs : List RunningFrame) (s : State) → limits.shell ≡ shell → s.memory.status ≡ status →
    continued limits next f fs s ≡ says limits fs s

-- the same in this shell, after a block that is not run and leaves this status
abbrev pub SkipsTo : Shell → (skipped : ℕ) → Next → RunningFrame → (Limits → List RunningFrame → State → PlaceNext) →
    Type 0
SkipsTo shell skipped next f says =
    (limits : Limits) (fs : List RunningFrame) (s : State) → limits.shell ≡ shell →
    continued limits next f fs s ≡ says limits fs (set_status skipped s)

-- a command that begins has a place after it
abbrev pub HasRoom : Next → RunningFrame → Type 0
HasRoom nexts.Leaves f = Unit {0}
HasRoom (nexts.Goes at) f = Unit {0}
HasRoom (nexts.Finishes at status) f = Unit {0}
HasRoom (nexts.Enters at script) f = Unit {0}
HasRoom (nexts.Skips at status script) f = Unit {0}
HasRoom (nexts.Calls call) f = f.place.command + 1 < 2 ^ 64
HasRoom (nexts.Assigns values) f = f.place.command + 1 < 2 ^ 64
HasRoom (nexts.Loops name words) f = f.place.command + 1 < 2 ^ 64
HasRoom nexts.Turns f = Unit {0}
HasRoom nexts.Names f = Unit {0}
HasRoom nexts.Hands f = Unit {0}
