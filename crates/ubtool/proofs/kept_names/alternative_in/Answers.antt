use Rattle.std.proofs.Common.{◌∙◌, ap, sym}
use Rattle.std.proofs.lemmas.Result.{IfOk-weaker}
use Rattle.ubtool.specs.KeptNames.{alternative_in}
use Rattle.ubtool.proofs.kept_names.alternative_in.Goals as goal

pub returns-in-Ok : goal.returns-in-Ok
returns-in-Ok c =
    IfOk-weaker c.copied_name.result _ _ (λ name h. h ∙ c.alternative.ensures ∙ ap alternative_in (sym c.in-Ok.ensures)) c.copied_name.ensures
