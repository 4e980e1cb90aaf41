use Rattle.std.proofs.Common.{◌∙◌, ap, rules}
use Rattle.std.specs.List.{flat_map}
use Rattle.std.specs.FinMap.{entries}
use Rattle.rehearse_records.specs.Recording.{set_line}
use Rattle.rehearse_records.specs.RunViewShown.{shown_moment}
use Rattle.rehearse_records.proofs.RecordParts.{all_variables, named_variables}
use Rattle.output.proofs.PageLemmas.{Puts-as}
use Rattle.rehearse_records.proofs.record.put_variables.Goals as goal

pub returns-then-is_empty : goal.returns-then-is_empty
returns-then-is_empty g c =
    let environment = entries (shown_moment g.S.Store c.args.view.now).environment in
    Puts-as _ _ _ _ _ _ c.put_all.result (ap (flat_map set_line) c.variables.ensures ∙ all_variables (λ n. n.now) environment c.args.names.now (search rules)) c.put_all.ensures

pub returns-else-is_empty : goal.returns-else-is_empty
returns-else-is_empty g c =
    let environment = entries (shown_moment g.S.Store c.args.view.now).environment in
    Puts-as _ _ _ _ _ _ c.put_named.result (named_variables (λ n. n.now) environment c.args.names.now (search rules)) c.put_named.ensures
