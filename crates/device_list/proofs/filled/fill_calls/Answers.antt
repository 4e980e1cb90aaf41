use Rattle.std.proofs.Common.{◌+◌, ◌<◌, length, map, sym, ap, ◌∙◌, arith}
use Rattle.std.proofs.lemmas.List.{with_items_is}
use Rattle.std.specs.Vec.{with_items}
use Rattle.indexmap.specs.Layout.{length-set_value_at}
use Rattle.envtools.specs.Environment.{value_of}
use Rattle.device_list.specs.CallLines.{filled_line}
use Rattle.device_list.specs.CommandsShown.{call_lines_shown, calls_shown}
use Rattle.device_list.proofs.FilledLemmas.{done, named_filled, named-done}
use Rattle.device_list.proofs.filled.fill_calls.Goals as goal
use Rattle.device_list.proofs.filled.fill_calls.Goals.{in-Some+in_ok-fill_lines, in_default}

pub loop-at-preserved : goal.loop-at-preserved
loop-at-preserved c =
    elim c.match-get_index_mut.branch [
      | in-Some+in_ok-fill_lines w ↦
          let values = value_of c.args.env.now in
          let entries = c.loop-at.calls.entries in
          let new = with_items w.in-Some.lines.now w.fill_lines.new.lines in
          let kept = w.fill_lines.auto.lines ∙ w.deref_mut.ensures.len in
          let said = ap call_lines_shown (with_items_is w.in-Some.lines.now w.fill_lines.new.lines kept) ∙ w.in_ok-fill_lines.ensures ∙ ap (λ lines. map (filled_line values) (call_lines_shown lines)) w.deref_mut.ensures.value in (
            ap (λ m. done (named_filled values) (calls_shown m.entries) (c.loop-at.at + 1)) w.calls-is
                ∙ named-done (filled_line values) entries c.loop-at.at w.in-Some.lines.now new (sym w.in-Some.ensures.value) said
                ∙ c.loop-at.invariant.0,
            ap (λ m. length m.entries) w.calls-is ∙ length-set_value_at entries c.loop-at.at new ∙ c.loop-at.invariant.1,
          )
      | in_default w ↦
          let len = c.len-at-end.ensures.len in
          let same = c.loop-at.invariant.1 in
          let before = c.loop-at-test.true in
          let within : c.loop-at.at < length c.loop-at.calls.entries = omega (arith, len, same, before) in
          absurd (let f = w.in_default.ensures.found.1 within in cc)
    ]
