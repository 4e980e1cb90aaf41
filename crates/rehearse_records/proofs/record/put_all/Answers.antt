use Rattle.std.proofs.Common.{◌++◌, ◌∙◌, ap, sym, append_assoc, List}
use Rattle.std.proofs.lemmas.Result.{err_from_is_err_and}
use Rattle.std.specs.List.{flat_map}
use Rattle.rehearse_terms.specs.State.{Text}
use Rattle.rehearse_records.specs.Recording.{set_line}
use Rattle.output.proofs.PageLemmas.{Put-append, Breaks-before, Breaks-after, Breaks-as}
use Rattle.rehearse_records.proofs.record.put_all.Goals as goal

pub loop-name-preserved : goal.loop-name-preserved
loop-name-preserved g c =
    let x : Text × Text = (c.in-Some.name.now, c.in-Some.value.now) in
    let done = c.loop-name.invariant.0 in
    let rest = flat_map set_line c.next.new.self in (
      done ++ set_line x,
      c.loop-name.invariant.1 ∙ ap (λ (t : List (Text × Text)). done ++ flat_map set_line t) c.in-Some.ensures.steps ∙ sym (append_assoc done (set_line x) rest),
      Put-append c.loop-name.invariant.2 c.in_ok-put_set.ensures,
    )

pub returns-in_err-put_set : goal.returns-in_err-put_set
returns-in_err-put_set g c =
    let x : Text × Text = (c.in-Some.name.now, c.in-Some.value.now) in
    let done = c.loop-name.invariant.0 in
    let rest = flat_map set_line c.next.new.self in
    let e = sym (c.loop-name.invariant.1 ∙ ap (λ (t : List (Text × Text)). done ++ flat_map set_line t) c.in-Some.ensures.steps) in
    let p = err_from_is_err_and c.from_residual.result c.from_residual.ensures.1 in
    rw p.1 (Breaks-as _ _ c.args.page.now.items _ _ e (Breaks-after (set_line x ++ rest) c.loop-name.invariant.2 (Breaks-before c.loop-name.page.items (set_line x) rest c.in_err-put_set.ensures)))
