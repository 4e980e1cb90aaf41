use Rattle.std.proofs.Common.{List, reverse, sym, ap, ◌∙◌}
use Rattle.std.proofs.lemmas.List.{reverse-reverse}
use Rattle.std.specs.List.{fold}
use Rattle.bootstore_state.specs.Moment.{RunningFrame}
use Rattle.rehearse_states.specs.PlaceNumbers.{mixed_frame}
use Rattle.rehearse_states.proofs.hashing.hash_of.Goals as goal

pub returns : goal.returns
returns g c =
    let frames = c.frames.result.now in
    c.number_of.ensures ∙ ap (fold mixed_frame 0xcbf29ce484222325) (sym (reverse-reverse frames) ∙ ap reverse c.frames.ensures)
