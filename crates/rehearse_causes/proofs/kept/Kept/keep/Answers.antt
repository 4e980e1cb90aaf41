use Rattle.std.proofs.Common.{◌∙◌, ◌++◌, ◌∷◌, [], ap}
use Rattle.std.specs.declared.alloc.Global.{Global}
use Rattle.std.specs.declared.vec.Vec.{Vec}
use Rattle.rehearse_causes.specs.Causes.{Cause}
use Rattle.rehearse_causes.proofs.PlaceLemmas.{noted_with}
use Rattle.rehearse_causes.proofs.kept.Kept.keep.Goals as goal

pub returns-clause-noted : goal.returns-clause-noted
returns-clause-noted c =
    noted_with c.args.self.now c.note.new.self c.number.result c.len-place.result c.args.cause c.push.new.self.items c.requires c.in_ok-note.ensures.noted
    c.number.ensures (c.len-place.ensures ∙ c.args.self.now.causes.ok.0)
    (c.in_ok-push.ensures.items ∙ ap (λ (v : Vec Cause Global). v.items ++ c.args.cause ∷ []) c.note.ensures.causes)
