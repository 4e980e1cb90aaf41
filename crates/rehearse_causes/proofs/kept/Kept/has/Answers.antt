use Rattle.std.proofs.Common.{◌∙◌, ap, sym, List}
use Rattle.std.specs.List.{list_any, slice_get}
use Rattle.rehearse_causes.specs.Causes.{Cause}
use Rattle.rehearse_causes.specs.Keeping.{is_one_covering}
use Rattle.rehearse_causes.proofs.PlaceLemmas.{found_nowhere, found_where}
use Rattle.rehearse_causes.proofs.kept.Kept.has.Goals as goal

pub returns-in-Some : goal.returns-in-Some
returns-in-Some c =
    let kept = c.args.self.now in
    let cause = c.args.cause.now in
    c.covers_from.ensures
    ∙ ap (λ (cs : List Cause). list_any (λ p. is_one_covering (slice_get cs p) cause) c.deref-in-Some.result.now) c.deref.ensures.value
    ∙ ap (list_any (λ p. is_one_covering (slice_get kept.causes.items p) cause)) c.deref-in-Some.ensures.value
    ∙ found_where kept c.args.number c.in-Some.places.now cause c.requires (sym c.in-Some.ensures.value)

pub returns-in-None : goal.returns-in-None
returns-in-None c = found_nowhere c.args.self.now c.args.number c.args.cause.now c.requires (sym c.in-None.ensures.value)
