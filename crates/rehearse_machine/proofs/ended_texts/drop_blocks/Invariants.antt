use Rattle.std.proofs.Common.{◌≡◌, length}
use Rattle.bootstore_state.specs.Record.{changed}
use Rattle.rehearse_machine.specs.EndedTexts.{without_blocks}
use Rattle.rehearse_machine.proofs.ended_texts.drop_blocks.Given as goal

-- the frames so far were blocks at their end
abbrev pub invariant-loop-frame : goal.invariant-loop-frame
invariant-loop-frame g l = changed without_blocks (g.S.Store.record_of l.store) ≡ changed without_blocks (g.S.Store.record_of l.initial.store)

abbrev pub decreases-loop-frame : goal.decreases-loop-frame
decreases-loop-frame g l = length (g.S.Store.record_of l.store).present.frames
