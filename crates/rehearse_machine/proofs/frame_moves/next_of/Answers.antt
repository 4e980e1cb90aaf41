use Rattle.std.proofs.Common.{ap, ◌∙◌, sym}
use Rattle.bootstore_state.specs.declared.frame.FrameKind.{FrameKind}
use Rattle.rehearse_machine.specs.Places.{place_by}
use Rattle.rehearse_machine.proofs.frame_moves.next_of.Goals as goal

pub returns-in-Text-clause-next : goal.returns-in-Text-clause-next
returns-in-Text-clause-next c limits fs s own e =
    c.next_in_script.ensures.next limits fs s own e ∙ ap (λ (k : FrameKind). place_by limits k c.args.frame.now fs s) (sym c.in-Text.is ∙ c.kind.ensures)

pub returns-in-Block-clause-next : goal.returns-in-Block-clause-next
returns-in-Block-clause-next c limits fs s own e =
    c.next_in_script-in-Block.ensures.next limits fs s own e ∙ ap (λ (k : FrameKind). place_by limits k c.args.frame.now fs s) (sym c.in-Block.is ∙ c.kind.ensures)
