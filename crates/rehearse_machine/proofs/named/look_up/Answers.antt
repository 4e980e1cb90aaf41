use Rattle.hushlang.specs.KnownFields.{known_fields}
use Rattle.hushlang.specs.TreesShown as view
use Rattle.rehearse_machine.proofs.NamedLemmas.{none_if_mapped}
use Rattle.rehearse_machine.proofs.named.look_up.Goals as goal

pub returns-clause-again : goal.returns-clause-again
returns-clause-again c = none_if_mapped (λ found. view.fields_in found.now) c.fields.result (known_fields (view.call c.args.command.now)) c.is_none-again.result c.is_none-again.ensures c.fields.ensures.known
