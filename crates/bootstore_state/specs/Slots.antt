-- Slots in order: each has a name, and a value unless it was deleted (ours).
use Rattle.std.specs.Prelude.{ℕ, List, [], ◌∷◌, Option, Some, None}
use Rattle.std.specs.declared.alloc.Global.{Global}
use Rattle.std.specs.declared.vec.Vec.{Vec}
use Rattle.bootstore_state.specs.declared.table.Place.{Place}
use Rattle.bootstore_state.specs.Moment.{Bytes}

-- a name, and what is at its place
abbrev pub Slot : Type 0
Slot = Vec ℕ Global × Place

-- names, each with its value
abbrev pub NamedValues : Type 0
NamedValues = List (Bytes × Bytes)

abbrev pub live_before : Vec ℕ Global → Option (Vec ℕ Global) → NamedValues → NamedValues
live_before name None rest = rest
live_before name (Some value) rest = (name.items, value.items) ∷ rest

-- the names that have a value
abbrev pub live : List Slot → NamedValues
live [] = []
live (slot ∷ slots) = live_before slot.0 slot.1.value (live slots)
