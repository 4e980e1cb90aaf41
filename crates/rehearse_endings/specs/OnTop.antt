-- Frames that are all frames of a state, or its innermost ones. Ours.
use Rattle.std.specs.Prelude.{◌≡◌, Bool, true, false, List, ◌++◌}
use Rattle.bootstore_state.specs.Moment.{RunningFrame}

-- these frames are the whole of others, or their top
abbrev pub HasOnTop : (whole : Bool) → (top frames : List RunningFrame) → Type 0
HasOnTop true top frames = frames ≡ top
HasOnTop false top frames = (below : List RunningFrame) × (frames ≡ top ++ below)
