use Rattle.std.proofs.Common.{◌≡◌, ◌∙◌, ◌&&◌, ◌++◌, ap, map, subst}
use Rattle.std.proofs.lemmas.Result.{err_from_is_err_and}
use Rattle.envtools.specs.Printing.{all_found}
use Rattle.hushcheck.proofs.ScriptLemmas.{script-behind, script-stopped}
use Rattle.hushcheck.specs.CallSetsShown.{names_shown}
use Rattle.hushcheck.specs.Calls.{files_by_text}
use Rattle.hushcheck.specs.Names.{run_by_found, run_by_text}
use Rattle.hushcheck.specs.Report.{is_fine_text, lines_of_text}
use Rattle.hushcheck.specs.Rules.{Rules}
use Rattle.hushcheck.specs.Telling.{Stops}
use Rattle.output.specs.Sink.{Wrote}
use Rattle.hushcheck.specs.Unset.{used_by_text}
use Rattle.hushcheck.specs.UsedShown.{all_used}
use Rattle.hushcheck.proofs.checking.check_script.Goals as goal

pub returns-in_err-checked : goal.returns-in_err-checked
returns-in_err-checked g c =
    let name = c.args.name.now in
    let text = c.args.text.now in
    let old = g.O.Out.sink c.args.out.now in
    let new = g.O.Out.sink c.check_text.new.out in
    let P : Rules → Type 0 = λ rules. Stops c.in_err-checked.field-0.0 old new (lines_of_text rules name text) in
    let stopped : P c.args.rules.now = subst P c.rules.view_is c.in_err-checked.ensures.lines in
    let p = err_from_is_err_and c.from_residual.result c.from_residual.ensures.1 in
    rw (p.1, p.2) (script-stopped c.args.rules.now c.args.env.now name text (map (λ name. name.now) c.args.asked.now) old new c.in_err-checked.field-0.0 stopped)

pub returns : goal.returns
returns g c =
    let name = c.args.name.now in
    let text = c.args.text.now in
    let asked = map (λ name. name.now) c.args.asked.now in
    let old = g.O.Out.sink c.args.out.now in
    let mid = g.O.Out.sink c.check_text.new.out in
    let new = g.O.Out.sink c.check_names.new.out in
    let P : Rules → Type 0 = λ rules. Wrote old mid (lines_of_text rules name text) in
    let Q : Rules → Type 0 = λ rules. c.in_ok-checked.checked.fine ≡ is_fine_text rules text in
    let R : Rules → Type 0 = λ rules. run_by_found c.in_ok-checked.checked.script ≡ run_by_text rules.shell text in
    let F : Rules → Type 0 = λ rules. names_shown c.in_ok-checked.checked.files.items ≡ files_by_text rules text in
    let U : Rules → Type 0 = λ rules. all_used c.check_text.new.used.items ≡ all_used c.new-used.result.items ++ used_by_text rules name text in
    let wrote : P c.args.rules.now = subst P c.rules.view_is c.in_ok-checked.ensures.lines in
    let fine : Q c.args.rules.now = subst Q c.rules.view_is c.in_ok-checked.ensures.fine in
    let runs : R c.args.rules.now = subst R c.rules.view_is c.in_ok-checked.ensures.script in
    let calls : F c.args.rules.now = subst F c.rules.view_is c.in_ok-checked.ensures.files in
    let all : names_shown c.deref.result.now ≡ files_by_text c.args.rules.now text = ap names_shown c.deref.ensures.value ∙ calls in
    let added : U c.args.rules.now = subst U c.rules.view_is c.in_ok-checked.ensures.used in
    let uses : all_used c.check_text.new.used.items ≡ used_by_text c.args.rules.now name text = added ∙ ap (λ us. all_used us ++ used_by_text c.args.rules.now name text) c.new-used.ensures.items in
    let so_far : c.both-so_far.result ≡ (all_found c.args.env.now asked && is_fine_text c.args.rules.now text) =
    c.both-so_far.ensures ∙ ap (λ b. b && c.in_ok-checked.checked.fine) c.are_set.ensures ∙ ap (λ b. all_found c.args.env.now asked && b) fine in
    script-behind c.args.rules.now c.args.env.now name text asked c.both-so_far.result (run_by_found c.in_ok-checked.checked.script) (names_shown c.deref.result.now) (all_used c.check_text.new.used.items) old mid new c.check_names.result so_far runs all uses wrote c.check_names.ensures
