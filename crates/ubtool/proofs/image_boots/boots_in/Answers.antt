use Rattle.std.proofs.Common.{◌≡◌, ◌∙◌, ap, map, subst, sym, List, ℕ}
use Rattle.std.specs.Borrow.{Bor}
use Rattle.text.specs.TextsShown.{bytes_of_words, option_bytes}
use Rattle.ubtool.specs.BootsOfImages.{RefusesBoots, boots_given, limits_of}
use Rattle.ubtool.specs.Given.{Given}
use Rattle.rehearse_terms.specs.declared.shell.Shell.{Shell}
use Rattle.ubtool.specs.KeptNames.{AreKeptBy, looked, IsKept, first_start, further_names}
use Rattle.ubtool.specs.ListsShown.{list_shown}
use Rattle.ubtool.specs.declared.rehearsal_error.RehearsalError.{RehearsalError}
use Rattle.ubtool.proofs.ImageBootsLemmas.{refused-boots, tells-boots}
use Rattle.ubtool.proofs.image_boots.boots_in.Goals as goal

pub returns-in-Ok-boots_by-clause-ok : goal.returns-in-Ok-boots_by-clause-ok
returns-in-Ok-boots_by-clause-ok g c order first second found =
    let ask = c.args.ask.now in
    let given : Given = boots_given order first second (list_shown c.args.list) c.args.list.taking (option_bytes c.args.text) ask in
    let kept = map (λ (n : Bor (List ℕ)). n.now) c.deref-2.result.now in
    let same : kept ≡ bytes_of_words c.in-Ok.names.items =
    ap (map (λ (n : Bor (List ℕ)). n.now)) c.deref-2.ensures.value ∙ c.in-Ok-slices_of.ensures ∙ ap bytes_of_words c.deref.ensures.value in
    let by : (shell : Shell) → Type 0 = λ shell. AreKeptBy shell (looked given.device_list given.asking.variable given.text) given.asking.names (further_names given.device_list c.args.env.now (option_bytes ask.changes)) (first_start given c.args.env.now) (bytes_of_words c.in-Ok.names.items) in
    let is : IsKept given (option_bytes ask.changes) c.args.env.now kept = subst (IsKept given (option_bytes ask.changes) c.args.env.now) (sym same) (subst by c.shell.ensures c.in-Ok.ensures.ok) in
    tells-boots given (limits_of ask) c.args.env.now kept (g.O.Out.sink c.args.out.now) (g.O.Out.sink c.boots_by.new.out) found is c.in-Ok-boots_by.holds c.in-Ok-boots_by.ensures.ok

pub returns-clause-err : goal.returns-clause-err
returns-clause-err g c order first second found =
    let ask = c.args.ask.now in
    let out = g.O.Out.sink c.args.out.now in
    let out' = g.O.Out.sink c.boots_by.new.out in
    let given : Given = boots_given order first second (list_shown c.args.list) c.args.list.taking (option_bytes c.args.text) ask in
    let kept = map (λ (n : Bor (List ℕ)). n.now) c.deref-2.result.now in
    let same : kept ≡ bytes_of_words c.in-Ok.names.items =
    ap (map (λ (n : Bor (List ℕ)). n.now)) c.deref-2.ensures.value ∙ c.in-Ok-slices_of.ensures ∙ ap bytes_of_words c.deref.ensures.value in
    let by : (shell : Shell) → Type 0 = λ shell. AreKeptBy shell (looked given.device_list given.asking.variable given.text) given.asking.names (further_names given.device_list c.args.env.now (option_bytes ask.changes)) (first_start given c.args.env.now) (bytes_of_words c.in-Ok.names.items) in
    let is : IsKept given (option_bytes ask.changes) c.args.env.now kept = subst (IsKept given (option_bytes ask.changes) c.args.env.now) (sym same) (subst by c.shell.ensures c.in-Ok.ensures.ok) in
    let P : RehearsalError → Type 0 = λ e. RefusesBoots given (limits_of ask) out out' e in
    subst P (sym c.into.ensures) (refused-boots given (limits_of ask) c.args.env.now kept out out' found is c.in-Err-boots_by.error c.in-Err-boots_by.ensures.err)
