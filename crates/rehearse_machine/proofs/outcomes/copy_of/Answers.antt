use Rattle.std.proofs.Common.{ℕ, List, [], ◌∷◌, ◌++◌, ◌≡◌, Option, ap, sym, ◌∙◌}
use Rattle.std.specs.Borrow.{Bor}
use Rattle.text.specs.TextsShown.{option_bytes}
use Rattle.device_list.specs.Saving.{copy_of}
use Rattle.rehearse_machine.proofs.OutcomeLemmas.{copy_made}
use Rattle.rehearse_machine.proofs.outcomes.copy_of.Goals as goal

pub returns-in_default : goal.returns-in_default
returns-in_default g c =
    copy_made (g.S.Store.record_of c.args.store.now).present.environment c.args.name.now (option_bytes c.get_env.result) c.new-copy.result.items c.get_env.ensures
    (c.new-copy.ensures.items ∙ sym (ap (λ (o : Option (Bor (List ℕ))). copy_of (option_bytes o)) c.in_default.is))

pub returns : goal.returns
returns g c =
    let begun : c.push.new.self.items ≡ 61 ∷ [] = c.in_ok-push.ensures.items ∙ ap (λ (x : List ℕ). x ++ 61 ∷ []) c.new-copy.ensures.items in
    let made : c.extend_from_slice.new.self.items ≡ 61 ∷ c.in-Some.value.now = c.in_ok-extend_from_slice.ensures.items ∙ ap (λ (x : List ℕ). x ++ c.in-Some.value.now) begun in
    copy_made (g.S.Store.record_of c.args.store.now).present.environment c.args.name.now (option_bytes c.get_env.result) c.extend_from_slice.new.self.items c.get_env.ensures
    (made ∙ sym (ap (λ (o : Option (Bor (List ℕ))). copy_of (option_bytes o)) c.in-Some.is))
