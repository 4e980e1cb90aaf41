use Rattle.std.proofs.Common.{◌≡◌, ◌∙◌, true, arith}
use Rattle.envtools.specs.Importing.{names_variable}
use Rattle.envtools.proofs.ImportLemmas.{imported_is_variable}
use Rattle.envtools.proofs.env.Env.import.Goals as goal

pub assign-requires : goal.assign-requires
assign-requires c =
    let named : names_variable c.imported_name-name.result.now ≡ true = grind (arith, c.names_variable.ensures, c.if-not-names_variable.false, c.if-not-names_variable.ensures) in
    imported_is_variable c.args.name.now c.args.value.now c.imported_name-name.result.now c.deref.result.now c.imported_name-name.ensures (c.deref.ensures.value ∙ c.in_ok-value.ensures) named c.requires
