use Rattle.std.proofs.Common.{◌∙◌, sym, ap, Bool, cond, Some}
use Rattle.std.specs.Ordering.{is_eq}
use Rattle.tests_language.proofs.variables.WithVars.get.Goals as goal

pub returns-then-is_eq : goal.returns-then-is_eq
returns-then-is_eq g c =
    ap (λ (same : Bool). cond same (Some c.args.self.now.value.now) ((g.V.Vars.parameters c.args.self.now.others).value c.args.name.now))
    (sym c.if-is_eq.true ∙ (c.is_eq.ensures ∙ ap is_eq c.cmp.ensures))

pub returns-else-is_eq : goal.returns-else-is_eq
returns-else-is_eq g c =
    c.get.ensures
    ∙ ap (λ (same : Bool). cond same (Some c.args.self.now.value.now) ((g.V.Vars.parameters c.args.self.now.others).value c.args.name.now))
    (sym c.if-is_eq.false ∙ (c.is_eq.ensures ∙ ap is_eq c.cmp.ensures))
