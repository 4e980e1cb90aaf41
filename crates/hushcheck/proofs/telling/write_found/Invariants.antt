use Rattle.std.proofs.Common.{take}
use Rattle.std.specs.List.{flat_map}
use Rattle.output.specs.Sink.{Wrote}
use Rattle.hushcheck.specs.Calls.{remark_lines}
use Rattle.hushcheck.specs.Place.{IsPoint}
use Rattle.hushcheck.specs.Remarks.{found_at}
use Rattle.hushcheck.proofs.telling.write_found.Given as goal

-- the lines of the words so far were written, and the text was gone through up to the last of them
abbrev pub invariant-loop-word : goal.invariant-loop-word
invariant-loop-word g l =
    Wrote (g.O.Out.sink l.fn.out) (g.O.Out.sink l.out) (flat_map (λ w. remark_lines l.name l.text (found_at w)) (take l.word-index l.found))
    × IsPoint l.text l.point
