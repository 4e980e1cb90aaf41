use Rattle.std.proofs.Common.{ap, sym, ◌∙◌, option_map, length, ◌<◌, arith}
use Rattle.device_list.specs.CommandsShown.{call_lines_shown}
use Rattle.device_list.specs.Saving.{lines_save}
use Rattle.device_list.proofs.SavingLemmas.{save_next, saves_here, within}
use Rattle.device_list.proofs.saving.calls_save.Goals as goal
use Rattle.device_list.proofs.saving.calls_save.Goals.{in-Some+else-lines_save, in_default}

pub returns-then-lines_save : goal.returns-then-lines_save
returns-then-lines_save c =
    let there = sym c.value_at.ensures ∙ ap (option_map (λ v. v.now)) c.in-Some.is in
    let some = ap (λ ls. lines_save (call_lines_shown ls)) (sym c.deref.ensures.value) ∙ sym c.lines_save.ensures ∙ c.if-lines_save.true in
    sym (c.loop-at.invariant ∙ saves_here c.args.calls.now.entries c.loop-at.at c.in-Some.lines.now there some)

pub loop-at-preserved : goal.loop-at-preserved
loop-at-preserved c =
    elim c.match-value_at.branch [
      | in-Some+else-lines_save w ↦
          let there = sym c.value_at.ensures ∙ ap (option_map (λ v. v.now)) w.in-Some.is in
          let none = ap (λ ls. lines_save (call_lines_shown ls)) (sym w.deref.ensures.value) ∙ sym w.lines_save.ensures ∙ w.if-lines_save.false in
          c.loop-at.invariant ∙ save_next c.args.calls.now.entries c.loop-at.at w.in-Some.lines.now there none
      | in_default w ↦
          let none = sym c.value_at.ensures ∙ ap (option_map (λ v. v.now)) w.in_default.is in
          let past = within c.args.calls.now.entries c.loop-at.at none in
          let len = c.len-at-end.ensures.len in
          let before = c.loop-at-test.true in
          absurd (omega (arith, len, past, before))
    ]
