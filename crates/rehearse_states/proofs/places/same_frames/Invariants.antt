use Rattle.std.proofs.Common.{◌≡◌, take, ◌++◌}
use Rattle.rehearse_states.proofs.places.same_frames.Given as goal

-- the frames so far are the same
abbrev pub invariant-loop-frame : goal.invariant-loop-frame
invariant-loop-frame l = l.initial.others ≡ take l.frame-index l.a ++ l.others
