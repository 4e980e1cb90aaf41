use Rattle.std.proofs.Common.{◌≡◌, ◌&&◌, ◌++◌, ◌∙◌, ap, map, not}
use Rattle.std.proofs.lemmas.Result.{err_from_is_err_and}
use Rattle.hushcheck.specs.CallSetsShown.{names_shown}
use Rattle.hushcheck.specs.Names.{run_by_found}
use Rattle.hushcheck.specs.Report.{lacks_set, last_lines}
use Rattle.hushcheck.specs.Unset.{has_unset, set_names, unset_lines}
use Rattle.hushcheck.specs.UsedShown.{all_used}
use Rattle.hushcheck.specs.declared.check_error.CheckError.TheVariants.{Memory}
use Rattle.hushcheck.proofs.TellingLemmas.{front-nothing, stops-as, wrote-as}
use Rattle.hushcheck.proofs.UnsetLemmas.{last-broke, last-wrote}
use Rattle.hushcheck.proofs.checking.check_names.Goals as goal

pub returns-in_err-known : goal.returns-in_err-known
returns-in_err-known g c =
    let rules = c.args.rules.now in
    let env = c.args.env.now in
    let before = all_used c.args.used.items in
    let asked = map (λ name. name.now) c.args.asked.now ++ run_by_found c.args.script in
    let called = names_shown c.args.called.now in
    let used = all_used c.check_turns.new.used.items in
    let mid = g.O.Out.sink c.check_turns.new.out in
    let p = err_from_is_err_and c.from_residual-in_err-known.result c.from_residual-in_err-known.ensures.1 in
    rw (p.1, p.2) (last-broke rules env before asked called c.args.so_far used c.in_ok-sound.sound Memory (g.O.Out.sink c.args.out.now) mid mid c.in_ok-sound.ensures
    (front-nothing mid (last_lines env used)))

pub returns-in_err-unset : goal.returns-in_err-unset
returns-in_err-unset g c =
    let rules = c.args.rules.now in
    let env = c.args.env.now in
    let before = all_used c.args.used.items in
    let asked = map (λ name. name.now) c.args.asked.now ++ run_by_found c.args.script in
    let called = names_shown c.args.called.now in
    let items = c.check_turns.new.used.items in
    let mid = g.O.Out.sink c.check_turns.new.out in
    let new = g.O.Out.sink c.write_unset_reads.new.out in
    let known : c.in_ok-known.known ≡ set_names env (all_used items) =
    c.in_ok-known.ensures ∙ ap (λ us. set_names env (all_used us)) c.deref.ensures.value in
    let lines : unset_lines c.in_ok-known.known (all_used c.deref-2.result.now) ≡ last_lines env (all_used items) =
    ap (λ us. unset_lines c.in_ok-known.known (all_used us)) c.deref-2.ensures.value ∙ ap (λ k. unset_lines k (all_used items)) known in
    let p = err_from_is_err_and c.from_residual-in_err-unset.result c.from_residual-in_err-unset.ensures.1 in
    rw (p.1, p.2) (last-broke rules env before asked called c.args.so_far (all_used items) c.in_ok-sound.sound c.in_err-unset.field-0.0 (g.O.Out.sink c.args.out.now) mid new c.in_ok-sound.ensures
    (stops-as mid new _ _ c.in_err-unset.field-0.0 lines c.in_err-unset.ensures.lines))

pub returns : goal.returns
returns g c =
    let rules = c.args.rules.now in
    let env = c.args.env.now in
    let before = all_used c.args.used.items in
    let asked = map (λ name. name.now) c.args.asked.now ++ run_by_found c.args.script in
    let called = names_shown c.args.called.now in
    let items = c.check_turns.new.used.items in
    let mid = g.O.Out.sink c.check_turns.new.out in
    let new = g.O.Out.sink c.write_unset_reads.new.out in
    let known : c.in_ok-known.known ≡ set_names env (all_used items) =
    c.in_ok-known.ensures ∙ ap (λ us. set_names env (all_used us)) c.deref.ensures.value in
    let lines : unset_lines c.in_ok-known.known (all_used c.deref-2.result.now) ≡ last_lines env (all_used items) =
    ap (λ us. unset_lines c.in_ok-known.known (all_used us)) c.deref-2.ensures.value ∙ ap (λ k. unset_lines k (all_used items)) known in
    let any : c.in_ok-unset.unset ≡ lacks_set env (all_used items) =
    c.in_ok-unset.ensures.any ∙ ap (λ us. has_unset c.in_ok-known.known (all_used us)) c.deref-2.ensures.value ∙ ap (λ k. has_unset k (all_used items)) known in
    let sound = c.in_ok-sound.sound in
    let well = c.is_well.ensures ∙ ap (λ r. sound && not (r.strict && c.in_ok-unset.unset)) c.rules.view_is ∙ ap (λ b. sound && not (rules.strict && b)) any in
    last-wrote rules env before asked called c.args.so_far (all_used items) sound c.is_well.result (g.O.Out.sink c.args.out.now) mid new c.in_ok-sound.ensures
    (wrote-as mid new _ _ lines c.in_ok-unset.ensures.lines) well
