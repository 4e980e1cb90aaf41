-- Frames on top of others, computed.
use Rattle.std.proofs.Common.{refl, ap, true, false, List, [], ◌∷◌, Option, None, Some, codes}
use Rattle.hushlang.specs.Tree as tree
use Rattle.bootstore_state.specs.Moment.{RunningFrame}
use Rattle.bootstore_state.specs.declared.frame.FrameKind.{FrameKind}
use Rattle.rehearse_machine.specs.Places.{text_frame, names_frame}
use Rattle.rehearse_endings.specs.OnTop.{HasOnTop}

abbrev text : RunningFrame
text = text_frame tree.Empty

abbrev run : RunningFrame
run = names_frame tree.Empty (codes "a" ∷ [])

-- the kind of the innermost frame, if there is one
abbrev kind_of_first : List RunningFrame → Option FrameKind
kind_of_first [] = None
kind_of_first (frame ∷ frames) = Some frame.kind

-- all frames of a state
all_frames : HasOnTop true (text ∷ run ∷ []) (text ∷ run ∷ [])
all_frames = refl

-- they are not if there is one more
one_more : HasOnTop true (text ∷ []) (text ∷ run ∷ []) → ⊥
one_more h = absurd (cc)

-- the innermost ones, with any others below them, or with none
some_below : HasOnTop false (text ∷ []) (text ∷ run ∷ text ∷ [])
some_below = (run ∷ text ∷ [], refl)

none_below : HasOnTop false (text ∷ run ∷ []) (text ∷ run ∷ [])
none_below = ([], refl)

-- no frame is on top of all
no_frame : HasOnTop false [] (text ∷ run ∷ [])
no_frame = (text ∷ run ∷ [], refl)

-- others are not on top, even if they are there
not_innermost : HasOnTop false (run ∷ []) (text ∷ run ∷ []) → ⊥
not_innermost h = let kinds = ap kind_of_first h.1 in absurd (cc)

-- and there are enough
too_few : HasOnTop false (text ∷ run ∷ []) (text ∷ []) → ⊥
too_few h = let same = h.1 in absurd (cc)
