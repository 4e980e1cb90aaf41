use Rattle.std.proofs.Common.{◌-◌, ap, refl, ◌∙◌}
use Rattle.hushcheck.proofs.PlaceLemmas.{front_shown_is, rest_is}
use Rattle.hushcheck.proofs.place.shown_at.Goals as goal

pub returns-clause-rest : goal.returns-clause-rest
returns-clause-rest c =
    c.line_end.ensures.line ∙ rest_is c.args.text.now c.args.point c.requires (80 - c.min-room.result) c.min-end.result (ap (λ k. 80 - k) c.min-room.ensures) c.min-end.ensures

pub returns-clause-front : goal.returns-clause-front
returns-clause-front c =
    front_shown_is c.args.text.now c.args.point c.requires _ c.min-kept.result _
    (c.line_end.ensures.line ∙ rest_is c.args.text.now c.args.point c.requires (80 - c.min-room.result) c.min-end.result (ap (λ k. 80 - k) c.min-room.ensures) c.min-end.ensures)
    c.min-kept.ensures refl
