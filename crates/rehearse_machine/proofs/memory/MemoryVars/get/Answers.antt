use Rattle.std.proofs.Common.{sym, ap, ◌∙◌}
use Rattle.text.specs.TextsShown.{option_bytes}
use Rattle.rehearse_machine.proofs.ParameterLemmas.{copied_bytes, from_environment, from_locals}
use Rattle.rehearse_machine.proofs.memory.MemoryVars.get.Goals as goal

pub returns-in-Some : goal.returns-in-Some
returns-in-Some g c = from_environment (g.S.Store.record_of c.args.self.now.store.now).present c.args.name.now c.in-Some.value.now (sym c.get_env.ensures ∙ ap option_bytes c.in-Some.is)

pub returns-in-None : goal.returns-in-None
returns-in-None g c = from_locals (g.S.Store.record_of c.args.self.now.store.now).present c.args.name.now _ (sym c.get_env.ensures ∙ ap option_bytes c.in-None.is) (copied_bytes c.get_local.result ∙ c.get_local.ensures)
