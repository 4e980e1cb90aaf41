use Rattle.std.proofs.Common.{◌≡◌, ◌++◌, ◌∷◌, [], length, ap, ◌∙◌, rules, cond, arith}
use Rattle.std.specs.Prelude.{IsOk}
use Rattle.envtools.specs.Environment.{put}
use Rattle.envtools.specs.Drafting.{place_of}
use Rattle.envtools.proofs.DraftLemmas.{put-written, IsDraft-written}
use Rattle.envtools.proofs.draft.Draft.put.Goals as goal

last : (c : goal.After-unwrap) → c.len-last.result ≡ length c.self.inside.written.items
last c = c.len-last.ensures ∙ (c.reserve.ensures.len ∙ omega arith)

pushed : (c : goal.After-unwrap) → c.push.new.self.items ≡ c.self.inside.written.items ++ (c.args.name, c.args.value) ∷ []
pushed c =
    let ok : IsOk c.push.result = search rules in
    let items = c.reserve.new.self.items in
    c.push.ensures.items ∙ (ap (λ b. cond b (items ++ (c.args.name, c.args.value) ∷ []) items) ok ∙ ap (λ items. items ++ (c.args.name, c.args.value) ∷ []) c.reserve.ensures.items)

pub returns-clause-ok : goal.returns-clause-ok
returns-clause-ok c =
    put-written (place_of c.self.inside.places.entries) (place_of c.move_to.new.places.entries) c.self.inside.written.items c.push.new.self.items
    c.args.name c.args.value c.len-last.result (last c) (pushed c) c.in_ok-move_to.ensures.ok
    ∙ ap (λ ps. put ps c.args.name.now c.args.value.now) c.self.view_is

pub invariant_of-self-2 : goal.invariant_of-self-2
invariant_of-self-2 c =
    IsDraft-written (place_of c.self.inside.places.entries) (place_of c.move_to.new.places.entries) c.self.inside.written.items c.push.new.self.items
    c.args.name c.args.value c.len-last.result (last c) (pushed c) c.in_ok-move_to.ensures.ok c.requires c.self.invariant
