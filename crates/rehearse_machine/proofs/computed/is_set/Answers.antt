use Rattle.std.proofs.Common.{ap, sym, ◌∙◌}
use Rattle.std.specs.Option.{is_some}
use Rattle.text.specs.TextsShown.{option_bytes}
use Rattle.bootstore_state.proofs.StateLemmas.{stored_values}
use Rattle.rehearse_machine.proofs.computed.is_set.Goals as goal

pub returns-in-Some : goal.returns-in-Some
returns-in-Some g c = ap is_some (sym (stored_values (g.S.Store.record_of c.args.store.now).present.environment c.args.name.now ∙ sym c.get_env.ensures ∙ ap option_bytes c.in-Some.is))

pub returns-in-None : goal.returns-in-None
returns-in-None g c = ap is_some (sym (stored_values (g.S.Store.record_of c.args.store.now).present.environment c.args.name.now ∙ sym c.get_env.ensures ∙ ap option_bytes c.in-None.is))
