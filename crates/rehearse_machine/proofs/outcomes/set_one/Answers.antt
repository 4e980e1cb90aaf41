use Rattle.std.proofs.Common.{Some, None, ap, sym, ◌∙◌}
use Rattle.text.specs.TextsShown.{bytes_of_words}
use Rattle.device_list.specs.Called.{Value, Copied, Unset}
use Rattle.device_list.specs.DevicesShown.{setting_shown}
use Rattle.rehearse_machine.specs.declared.new_value.NewValue.{NewValue}
use Rattle.rehearse_machine.specs.NewValueShown.{new_value_shown}
use Rattle.rehearse_machine.proofs.OutcomeLemmas.{stored_value, stored_copy, stored_unset, sets_one}
use Rattle.rehearse_machine.proofs.outcomes.set_one.Goals as goal

pub returns-in-Value : goal.returns-in-Value
returns-in-Value g c =
    let old = g.S.Store.record_of c.args.store.now in
    let text = c.in-Value.text.now in
    sets_one (bytes_of_words c.args.words.now) (setting_shown c.args.set.now) c.set_env.result old (g.S.Store.record_of c.set_env.new.self) c.in-Some.name.now (Value text) (Some text) (sym c.in-Some.ensures)
    (sym c.in-Some-value_of.ensures ∙ ap (λ (v : NewValue). Some (new_value_shown v)) c.in-Value.is) (stored_value old.present.environment c.in-Some.name.now text) c.set_env.ensures.ok

pub returns-in_ok-copy-in-Copied : goal.returns-in_ok-copy-in-Copied
returns-in_ok-copy-in-Copied g c =
    let old = g.S.Store.record_of c.args.store.now in
    let other = c.in-Copied.other.now in
    let copy = c.deref.result.now in
    sets_one (bytes_of_words c.args.words.now) (setting_shown c.args.set.now) c.set_env-in-Copied.result old (g.S.Store.record_of c.set_env-in-Copied.new.self) c.in-Some.name.now (Copied other) (Some copy) (sym c.in-Some.ensures)
    (sym c.in-Some-value_of.ensures ∙ ap (λ (v : NewValue). Some (new_value_shown v)) c.in-Copied.is) (stored_copy old.present.environment c.in-Some.name.now other copy (c.deref.ensures.value ∙ c.in_ok-copy-in-Copied.ensures)) c.set_env-in-Copied.ensures.ok

pub returns-in-Unset : goal.returns-in-Unset
returns-in-Unset g c =
    let old = g.S.Store.record_of c.args.store.now in
    sets_one (bytes_of_words c.args.words.now) (setting_shown c.args.set.now) c.set_env-in-Unset.result old (g.S.Store.record_of c.set_env-in-Unset.new.self) c.in-Some.name.now Unset None (sym c.in-Some.ensures)
    (sym c.in-Some-value_of.ensures ∙ ap (λ (v : NewValue). Some (new_value_shown v)) c.in-Unset.is) (stored_unset old.present.environment c.in-Some.name.now) c.set_env-in-Unset.ensures.ok
