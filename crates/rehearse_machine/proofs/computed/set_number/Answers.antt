use Rattle.std.proofs.Common.{ℕ, List, Some, false, ap, ◌∙◌}
use Rattle.std.specs.Fmt.{digits}
use Rattle.bootstore_state.specs.Record.{changed, with_environment}
use Rattle.rehearse_machine.proofs.ComputedLemmas.{sets_value}
use Rattle.rehearse_machine.proofs.computed.set_number.Goals as goal

pub returns : goal.returns
returns g c =
    let old = g.S.Store.record_of c.args.store.now in
    sets_value c.set_status.result old (g.S.Store.record_of c.set_env.new.self) (g.S.Store.record_of c.set_status.new.self) c.args.name.now (digits 16 false c.args.number)
    (c.in_ok-set_env.ensures.ok ∙ ap (λ (v : List ℕ). changed (with_environment c.args.name.now (Some v)) old) (c.as_bytes.ensures.value ∙ c.in_ok-value.ensures))
    c.set_status.ensures.ok
