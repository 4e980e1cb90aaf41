use Rattle.std.proofs.Common.{◌||◌, ◌++◌, ◌+◌, ◌∙◌, ap, drop, not, sym}
use Rattle.std.specs.Prelude.{nat_eq}
use Rattle.std.proofs.lemmas.Result.{err_from_is_err_and}
use Rattle.hushcheck.proofs.SetsLemmas.{many-found}
use Rattle.hushcheck.proofs.TellingLemmas.{stops-as, wrote-as}
use Rattle.hushcheck.proofs.UnsetLemmas.{so_at, step_broke, step_so}
use Rattle.hushcheck.specs.Calls.{found_lines}
use Rattle.hushcheck.specs.Remarks.{all_found, all_read}
use Rattle.hushcheck.specs.Unset.{searched}
use Rattle.hushcheck.specs.UsedShown.{all_used, used_shown}
use Rattle.output.proofs.SinkLemmas.{Wrote-append}
use Rattle.hushcheck.proofs.unset.write_new_reads.Goals as goal

pub returns-in_err-write_found-clause-lines : goal.returns-in_err-write_found-clause-lines
returns-in_err-write_found-clause-lines g c =
    let used = all_used c.args.used.now in
    let told = c.loop-text.invariant.0 in
    let any = c.loop-text.any in
    let known = c.loop-text.known in
    let u = used_shown c.text-item.result in
    let left = all_used (drop (c.loop-text.text-index + 1) c.args.used.now) in
    let f = all_found c.in_ok-found.found.items in
    let mid = g.O.Out.sink c.loop-text.out in
    let new = g.O.Out.sink c.write_found.new.out in
    let is = so_at c.args.known.now used told any known c.args.used.now c.loop-text.text-index c.text-item.result c.loop-text-test.true c.text-item.is c.loop-text.invariant.1 in
    let e = c.in_ok-found.ensures ∙ ap (λ r. searched known (all_read r)) c.deref.ensures.value in
    let lines = ap (λ n. found_lines n u.text (all_found c.deref-in-loop-text-2.result.now)) c.deref-in-loop-text.ensures.value ∙ ap (λ fs. found_lines u.name u.text (all_found fs)) c.deref-in-loop-text-2.ensures.value in
    let p = err_from_is_err_and c.from_residual-in_err-write_found.result c.from_residual-in_err-write_found.ensures.1 in
    rw (p.1, p.2) (step_broke c.args.known.now used told any known u left c.search.new.known f e is (g.O.Out.sink c.args.out.now) mid new c.in_err-write_found.field-0.0 c.loop-text.invariant.2
    (stops-as mid new _ _ c.in_err-write_found.field-0.0 lines c.in_err-write_found.ensures))

pub loop-text-preserved : goal.loop-text-preserved
loop-text-preserved g c =
    let used = all_used c.args.used.now in
    let told = c.loop-text.invariant.0 in
    let any = c.loop-text.any in
    let known = c.loop-text.known in
    let u = used_shown c.text-item.result in
    let left = all_used (drop (c.loop-text.text-index + 1) c.args.used.now) in
    let f = all_found c.in_ok-found.found.items in
    let mid = g.O.Out.sink c.loop-text.out in
    let new = g.O.Out.sink c.write_found.new.out in
    let is = so_at c.args.known.now used told any known c.args.used.now c.loop-text.text-index c.text-item.result c.loop-text-test.true c.text-item.is c.loop-text.invariant.1 in
    let e = c.in_ok-found.ensures ∙ ap (λ r. searched known (all_read r)) c.deref.ensures.value in
    let lines = ap (λ n. found_lines n u.text (all_found c.deref-in-loop-text-2.result.now)) c.deref-in-loop-text.ensures.value ∙ ap (λ fs. found_lines u.name u.text (all_found fs)) c.deref-in-loop-text-2.ensures.value in
    let found = c.either-any.ensures ∙ ap (λ b. any || not b) (c.is_empty.ensures ∙ ap (λ n. nat_eq n 0) (c.in_ok-found.found.ok.0 ∙ sym (many-found c.in_ok-found.found.items))) in (
      told ++ found_lines u.name u.text f,
      step_so c.args.known.now used told any known u left c.search.new.known f e is c.either-any.result found,
      Wrote-append c.loop-text.invariant.2 (wrote-as mid new _ _ lines c.in_ok-write_found.ensures),
    )
