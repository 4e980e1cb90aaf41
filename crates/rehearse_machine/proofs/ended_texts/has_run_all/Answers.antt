use Rattle.std.proofs.Common.{ap, sym, ◌∙◌}
use Rattle.bootstore_state.specs.declared.frame.At.{At}
use Rattle.rehearse_machine.proofs.EndedParts.{name_found, name_left, no_name_left, no_run, run_begun}
use Rattle.rehearse_machine.proofs.ended_texts.has_run_all.Goals as goal

pub returns-then-is_some : goal.returns-then-is_some
returns-then-is_some c =
    let f = c.args.frame.now in
    let found = name_found c.words.result.now f.words c.at-turn.result.turn f.place.turn c.words.ensures (ap (λ (x : At). x.turn) c.at-turn.ensures) in
    name_left f (found ∙ sym (c.is_some.ensures ∙ c.get.ensures.lookup.0) ∙ c.if-is_some.true)

pub returns-then-is_run : goal.returns-then-is_run
returns-then-is_run c =
    let f = c.args.frame.now in
    let turn = ap (λ (x : At). x.turn) c.at-turn.ensures in
    let found = name_found c.words.result.now f.words c.at-turn.result.turn f.place.turn c.words.ensures turn in
    no_name_left f _ (found ∙ sym (c.is_some.ensures ∙ c.get.ensures.lookup.0) ∙ c.if-is_some.false)
    (run_begun f c.kind.result c.at-turn.result.turn (sym c.is_run.ensures ∙ c.if-is_run.true) c.kind.ensures turn)

pub returns-else-is_run : goal.returns-else-is_run
returns-else-is_run c =
    let f = c.args.frame.now in
    let found = name_found c.words.result.now f.words c.at-turn.result.turn f.place.turn c.words.ensures (ap (λ (x : At). x.turn) c.at-turn.ensures) in
    no_name_left f _ (found ∙ sym (c.is_some.ensures ∙ c.get.ensures.lookup.0) ∙ c.if-is_some.false)
    (c.if-is_run.false ∙ no_run f c.kind.result (sym c.is_run.ensures ∙ c.if-is_run.false) c.kind.ensures)
