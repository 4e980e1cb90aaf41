use Rattle.std.proofs.Common.{◌≡◌, ◌++◌, ◌∙◌, ap, sym, Bool, true, false, Some, None, cond, [], ◌∷◌, List}
use Rattle.text.specs.Lines.{Text}
use Rattle.commands.specs.TextsShown.{texts}
use Rattle.device_list.specs.CallLines as calls
use Rattle.device_list.specs.CommandsShown.{clauses_shown, text_shown}
use Rattle.device_list.specs.declared.clauses.Awaited.TheVariants.{Clause}
use Rattle.device_list.proofs.MapLemmas.{has-name}
use Rattle.device_list.proofs.clauses.Clauses.add_file.Goals as goal

pub returns-then-contains_key : goal.returns-then-contains_key
returns-then-contains_key c =
    let old = clauses_shown c.args.self.now in
    let here = has-name text_shown c.args.files.now.entries c.args.name.now true (sym c.if-contains_key.true ∙ c.contains_key.ensures) in
    let named : List Text → calls.Clauses = λ names. record { effect = record old.effect { runs = names }; awaited = Clause } in
    let pushed : texts c.push.new.self.items ≡ c.args.name.now ∷ [] =
    ap texts (c.in_ok-push.ensures.items ∙ ap (λ items. items ++ c.in_ok-name.name ∷ []) c.new-runs.ensures.items) ∙ ap (λ name. name ∷ []) c.in_ok-name.ensures.items in
    ap (λ (b : Bool). cond b (Some (named (c.args.name.now ∷ []))) None) (sym here) ∙ ap (λ (names : List Text). Some (named names)) (sym pushed)

pub returns : goal.returns
returns c =
    let old = clauses_shown c.args.self.now in
    let here = has-name text_shown c.args.files.now.entries c.args.name.now false (sym c.if-contains_key.false ∙ c.contains_key.ensures) in
    let named : calls.Clauses = record { effect = record old.effect { runs = c.args.name.now ∷ [] }; awaited = Clause } in
    ap (λ (b : Bool). cond b (Some named) None) (sym here)
