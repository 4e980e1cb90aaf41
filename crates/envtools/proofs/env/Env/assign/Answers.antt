use Rattle.std.proofs.Common.{sym, subst, List}
use Rattle.envimage.specs.Data.{Pair}
use Rattle.envtools.specs.Environment.{IsEnvironment}
use Rattle.envtools.proofs.EnvLemmas.{assigned-seen, IsEnvironment-assigned}
use Rattle.envtools.proofs.env.Env.assign.Goals as goal

pub returns-clause-ok : goal.returns-clause-ok
returns-clause-ok c =
    assigned-seen c.args.self.now c.self.inside.variables.entries c.insert.new.self.entries c.args.name.now c.args.value.now c.in_ok-key.key c.in_ok-kept.kept
    c.self.view_is c.in_ok-insert.ensures.entries c.in_ok-key.ensures.items c.in_ok-kept.ensures.items

pub invariant_of-self-2 : goal.invariant_of-self-2
invariant_of-self-2 c =
    let P : List Pair → Type 0 = λ ps. IsEnvironment ps in
    let view = assigned-seen c.args.self.now c.self.inside.variables.entries c.insert.new.self.entries c.args.name.now c.args.value.now c.in_ok-key.key c.in_ok-kept.kept
    c.self.view_is c.in_ok-insert.ensures.entries c.in_ok-key.ensures.items c.in_ok-kept.ensures.items in
    subst P (sym view) (IsEnvironment-assigned c.args.self.now c.args.name.now c.args.value.now c.requires (subst P c.self.view_is c.self.invariant))
