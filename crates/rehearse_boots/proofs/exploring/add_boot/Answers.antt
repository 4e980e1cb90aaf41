use Rattle.std.proofs.Common.{◌≡◌, ◌∷◌, ◌++◌, ◌∙◌, [], ap, map, subst, sym, Err}
use Rattle.std.proofs.lemmas.Result.{err_from_is_err_and}
use Rattle.rehearse_boots.specs.Exploring.{AreStillFound, graph_shown}
use Rattle.rehearse_boots.specs.Ways.{way_shown}
use Rattle.rehearse_boots.specs.declared.boots_error.BootsError.TheVariants.{Memory}
use Rattle.rehearse_boots.proofs.BootLemmas.{map_append, passed_on}
use Rattle.rehearse_boots.proofs.WayLemmas.{all_kept, keeps_boot}
use Rattle.rehearse_boots.proofs.exploring.add_boot.Goals as goal

pub returns-in_err-push-clause-err : goal.returns-in_err-push-clause-err
returns-in_err-push-clause-err g c =
    let error = err_from_is_err_and c.from_residual.result c.from_residual.ensures.1 in
    passed_on _ c.from_residual.result Memory (error.1 ∙ ap Err error.2) tt

pub returns-clause-by : goal.returns-clause-by
returns-clause-by g c =
    let graph = graph_shown c.args.graph.now.items in
    let ways = map way_shown c.in-Ok-add_endings.ways.items in
    let old = c.args.found.now in
    let new = c.add_endings.new.found in
    let pushed : graph_shown c.push.new.self.items ≡ graph ++ ways ∷ [] = ap graph_shown c.in_ok-push.ensures.items ∙ map_append (λ w. map way_shown w.items) c.args.graph.now.items (c.in-Ok-add_endings.ways ∷ []) in
    subst (λ after. AreStillFound c.args.place graph after old.boots new.boots old.by.items new.by.items) (sym pushed)
    (λ long within are. c.in-Ok-add_endings.ensures.by graph long within (all_kept graph (graph ++ [] ∷ []) old.boots old.by.items (keeps_boot graph []) are))
