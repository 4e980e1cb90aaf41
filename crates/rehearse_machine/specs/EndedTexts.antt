-- Texts of `run` that have nothing left to do. Of three of them in a row one may be dropped, with the blocks at its end: the same
-- is to come. Ours.
use Rattle.std.specs.Prelude.{◌≡◌, suc, nat_eq, Bool, true, false, not, ◌&&◌, ◌||◌, List, [], ◌∷◌, Option, Some, None, is_some, option_and_then, slice_get}
use Rattle.hushlang.specs.Tree.{AndOr, Command}
use Rattle.bootstore_state.specs.declared.frame.At.{At}
use Rattle.bootstore_state.specs.declared.frame.FrameKind.{FrameKind}
use Rattle.bootstore_state.specs.declared.frame.FrameKind.TheVariants as kinds
use Rattle.bootstore_state.specs.Moment.{RunningFrame, Moment}
use Rattle.bootstore_state.specs.Record.{Record, changed, without_first}
use Rattle.rehearse_rules.specs.Execution.{Limits, Answer}
use Rattle.rehearse_machine.specs.Places.{list_at, command_in, frames_of}
use Rattle.rehearse_machine.specs.Meaning.{continue}
use Rattle.rehearse_machine.specs.Turning.{IsSound}

abbrev pub is_text : FrameKind → Bool
is_text kinds.Text = true
is_text kinds.Block = false
is_text kinds.For = false
is_text kinds.Run = false
is_text kinds.File = false

abbrev pub is_block : FrameKind → Bool
is_block kinds.Text = false
is_block kinds.Block = true
is_block kinds.For = false
is_block kinds.Run = false
is_block kinds.File = false

abbrev pub is_run : FrameKind → Bool
is_run kinds.Text = false
is_run kinds.Block = false
is_run kinds.For = false
is_run kinds.Run = true
is_run kinds.File = false

-- whether the command of a place is over, as that of an `if` whose block runs
abbrev pub is_over : At → Bool
is_over at = nat_eq at.turn 2 && nat_eq at.last 1

-- whether a place is in no command, or in one that is over
abbrev pub is_between : At → Bool
is_between at = nat_eq at.turn 0 || is_over at

-- the next command of a list: that of the place, or the one after it
abbrev pub next_command : AndOr → At → Option Command
next_command list at = elim (is_over at) [ true ↦ command_in list (suc at.command) | false ↦ command_in list at.command ]

-- whether a list, from this place on, or the lists after it have a command
abbrev pub has_more : Option AndOr → At → (after : Option AndOr) → Bool
has_more None at after = false
has_more (Some list) at after = is_some (next_command list at) || is_some after

-- whether a frame has a command of its script left
abbrev pub has_command : RunningFrame → Bool
has_command f = has_more (list_at f.script f.place.list) f.place (list_at f.script (suc f.place.list))

-- a script at its end: what it does next is to leave
abbrev pub is_at_end : RunningFrame → Bool
is_at_end f = is_between f.place && not (has_command f)

-- a text at its end
abbrev pub has_ended : RunningFrame → Bool
has_ended f = is_text f.kind && is_at_end f

-- a block at its end
abbrev pub is_done : RunningFrame → Bool
is_done f = is_block f.kind && is_at_end f

-- a `run` that has begun and has no name left: what it does next is to take the status of its last text
abbrev pub has_run_all : RunningFrame → Bool
has_run_all f = not (is_some (slice_get f.words f.place.turn)) && is_run f.kind && not (nat_eq f.place.turn 0)

-- a `run` that has begun no text
abbrev pub begins : RunningFrame → Bool
begins f = is_run f.kind && nat_eq f.place.turn 0

-- the frames below the blocks at their end that are innermost
abbrev pub below_blocks : List RunningFrame → List RunningFrame
below_blocks [] = []
below_blocks (f ∷ fs) = elim (is_done f) [ true ↦ below_blocks fs | false ↦ f ∷ fs ]

-- the frames below an ended text and its `run`, if these two are the innermost
abbrev pub below_text : List RunningFrame → Option (List RunningFrame)
below_text [] = None
below_text (text ∷ []) = None
below_text (text ∷ run ∷ fs) = elim (has_ended text && has_run_all run) [ true ↦ Some fs | false ↦ None ]

-- the same, also if blocks at their end are above them
abbrev pub below_ended : List RunningFrame → Option (List RunningFrame)
below_ended fs = below_text (below_blocks fs)

-- the frames below three of them
abbrev pub below_three : List RunningFrame → Option (List RunningFrame)
below_three fs = option_and_then below_ended (option_and_then below_ended (below_ended fs))

-- whether a `run` begins above three of them
abbrev pub may_drop : List RunningFrame → Bool
may_drop [] = false
may_drop (f ∷ fs) = begins f && is_some (below_three fs)

-- the frames without the two below the innermost, and the blocks at their end above these
abbrev pub without_text : List RunningFrame → List RunningFrame
without_text [] = []
without_text (f ∷ fs) = f ∷ without_first (without_first (below_blocks fs))

-- the frames, without an ended text, its blocks and its `run` if three of them are below a `run` that begins
abbrev pub lightened : List RunningFrame → List RunningFrame
lightened fs = elim (may_drop fs) [ true ↦ without_text fs | false ↦ fs ]

abbrev pub without_blocks : Moment → Moment
without_blocks m = record m { frames = below_blocks m.frames }

abbrev pub with_fewer : Moment → Moment
with_fewer m = record m { frames = lightened m.frames }

-- of every answer these frames make the same
abbrev pub GoOnAlike : List RunningFrame → List RunningFrame → Type 0
GoOnAlike fs gs = (limits : Limits) (a : Answer) → continue limits (frames_of fs) a ≡ continue limits (frames_of gs) a

-- nothing but the frames has changed, the same is to come, and the frames still hold proper scripts
pub record DropsEnded (old new : Record) : Type 0 where
  pub frames : new ≡ changed with_fewer old
  pub alike : GoOnAlike new.present.frames old.present.frames
  pub sound : IsSound old.present → IsSound new.present
