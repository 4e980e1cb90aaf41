-- What a store holds, and what each of its calls does to it. Marking and going back are ours; variables, `$?` and
-- the text are those of a script (U-Boot documentation, doc/usage/cmdline, doc/usage/environment and
-- doc/usage/cmd/echo).
use Rattle.std.specs.Prelude.{ℕ, ◌+◌, List, [], ◌∷◌, ◌++◌, Option, Some, None}
use Rattle.std.specs.FinMap.{empty, insert, remove}
use Rattle.bootstore_state.specs.declared.frame.At.{At}
use Rattle.rehearse_terms.specs.State.{LoggedCommand, text_with, unwritten}
use Rattle.rehearse_terms.specs.declared.written.Written.{Written}
use Rattle.rehearse_terms.specs.declared.written.Written.TheVariants.{Kept}
use Rattle.bootstore_state.specs.Moment.{Bytes, Variables, RunningFrame, Moment}

-- the present moment; the marked ones, the last first; and how many steps were ever begun
pub record Record : Type 0 where
  pub present : Moment
  pub marked : List Moment
  pub begun : ℕ

-- the moment at which a run in this environment starts
abbrev pub beginning : Written → Variables → Moment
beginning written environment =
    record { environment = environment; locals = empty; status = 0; text = unwritten written; log = []; steps = 0; frames = [] }

-- the variables with the name set to the value, or without it
abbrev pub assigned : Variables → Bytes → Option Bytes → Variables
assigned variables name (Some value) = insert variables name value
assigned variables name None = remove variables name

abbrev pub with_environment : Bytes → Option Bytes → Moment → Moment
with_environment name value m = record m { environment = assigned m.environment name value }

abbrev pub with_local : Bytes → Bytes → Moment → Moment
with_local name value m = record m { locals = insert m.locals name value }

abbrev pub with_echo : Bytes → Moment → Moment
with_echo written m = record m { text = text_with written m.text }

abbrev pub with_device : LoggedCommand → Moment → Moment
with_device entry m = record m { log = m.log ++ entry ∷ [] }

abbrev pub with_status : ℕ → Moment → Moment
with_status status m = record m { status = status }

abbrev pub with_step : Moment → Moment
with_step m = record m { steps = m.steps + 1 }

abbrev pub with_frame : RunningFrame → Moment → Moment
with_frame frame m = record m { frames = frame ∷ m.frames }

-- the frames, with the innermost at this place; without a frame nothing changes
abbrev pub moved : At → List RunningFrame → List RunningFrame
moved place [] = []
moved place (frame ∷ frames) = record frame { place = place } ∷ frames

abbrev pub with_place : At → Moment → Moment
with_place place m = record m { frames = moved place m.frames }

abbrev pub without_first : List RunningFrame → List RunningFrame
without_first [] = []
without_first (frame ∷ frames) = frames

abbrev pub without_frame : Moment → Moment
without_frame m = record m { frames = without_first m.frames }

-- a change of the present moment
abbrev pub changed : (Moment → Moment) → Record → Record
changed change r = record r { present = change r.present }

-- a run in this environment starts, and nothing is marked
abbrev pub started : Written → Variables → Record → Record
started written environment r = record r { present = beginning written environment; marked = [] }

-- a step is begun
abbrev pub stepped : Record → Record
stepped r = record { present = with_step r.present; marked = r.marked; begun = r.begun + 1 }

-- so many steps are begun at once
abbrev pub stepped_by : (count : ℕ) → Record → Record
stepped_by count r =
    record { present = record r.present { steps = r.present.steps + count }; marked = r.marked; begun = r.begun + count }

-- the present moment is marked
abbrev pub with_mark : Record → Record
with_mark r = record r { marked = r.present ∷ r.marked }

-- the last marked moment becomes the present one and loses its mark; without a mark nothing changes
abbrev pub returned : Moment → ℕ → List Moment → Record
returned present begun [] = record { present = present; marked = []; begun = begun }
returned present begun (m ∷ ms) = record { present = m; marked = ms; begun = begun }

abbrev pub gone_back : Record → Record
gone_back r = returned r.present r.begun r.marked

-- everything is empty or 0, and a text would be kept
abbrev pub fresh : Record
fresh = record { present = beginning Kept empty; marked = []; begun = 0 }
