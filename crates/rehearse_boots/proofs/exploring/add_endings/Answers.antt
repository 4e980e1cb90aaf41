use Rattle.std.proofs.Common.{rules, ◌≡◌, ◌≢◌, ◌∙◌, [], ap, sym, subst, List, map, Option, Some, option_map}
use Rattle.rehearse_boots.specs.Boots.{boot_with, bounds_in, rehearsed, told_apart}
use Rattle.rehearse_boots.specs.BootsShown.{started_shown}
use Rattle.rehearse_boots.specs.Exploring.{AddsStarted, AddsWays, BreaksAt, IsUntoldStarted, asked_in, next_of_all}
use Rattle.rehearse_boots.specs.Ways.{way_shown}
use Rattle.rehearse_boots.specs.declared.boots_error.BootsError.{BootsError}
use Rattle.rehearse_boots.specs.declared.boots_error.BootsError.TheVariants.{Boots as TooMany, Memory}
use Rattle.rehearse_machine.specs.Tasks.{task_found, task_in}
use Rattle.rehearse_rules.specs.Runs.{Task}
use Rattle.rehearse_states.specs.Drawing.{failing_on, nodes_shown}
use Rattle.rehearse_states.specs.Endings.{Row, endings}
use Rattle.rehearse_states.specs.RowsShown.{rows_shown, saturated}
use Rattle.rehearse_terms.specs.Bounds.{BoundsShown}
use Rattle.rehearse_terms.specs.State.{Text}
use Rattle.text.specs.TextsShown.{bytes_of_words, option_bytes, option_items}
use Rattle.rehearse_boots.proofs.FoundLemmas.{next_of_saturated, started_adds}
use Rattle.rehearse_boots.proofs.ToldLemmas.{if_ok, on_err_both, untold_endings, untold_ways}
use Rattle.rehearse_boots.proofs.exploring.add_endings.Goals as goal

pub returns-in-Ok-clause-ok : goal.returns-in-Ok-clause-ok
returns-in-Ok-clause-ok g c =
    let asked = asked_in c.args.telling.now in
    let kept = bytes_of_words c.args.kept.now in
    let s = started_shown c.args.started.now in
    let task = task_in c.in-Some.rehearsal in
    let b = boot_with asked kept s task in
    let nodes = nodes_shown c.in-Ok.endings.nodes in
    let rows = rows_shown c.in-Ok.endings.rows in
    let given : option_bytes c.as_deref.result ≡ option_items c.args.started.now.text = search rules in
    let set : task_found s.environment s.devices (record { name = asked.name; given = s.text }) (bounds_in asked) ≡ Some task =
    ap (λ (b : BoundsShown). task_found s.environment s.devices (record { name = asked.name; given = s.text }) b) (sym c.requires.1.1)
    ∙ sym (c.in-Some.ensures.found ∙ ap (λ (t : Option Text). task_found s.environment s.devices (record { name = asked.name; given = t }) c.args.telling.now.bounds) given) in
    let found : rehearsed asked kept s ≡ Some b = ap (option_map (boot_with asked kept s)) set in
    let saved : bytes_of_words c.deref.result.now ≡ b.saved = ap bytes_of_words c.deref.ensures.value ∙ c.in_ok-saved.ensures in
    if_ok c.ways_of.result (λ ways. AddsWays asked (bytes_of_words c.deref.result.now) (failing_on s.devices nodes) rows c.args.found.now.boots c.ways_of.new.found.boots [] (map way_shown ways.items))
    (λ ways. AddsStarted asked kept s c.args.found.now.boots c.ways_of.new.found.boots (map way_shown ways.items))
    (λ ways adds. started_adds asked kept s b (map (λ n. n.now) c.args.telling.now.apart.now) s.devices nodes rows c.args.found.now.boots c.ways_of.new.found.boots (map way_shown ways.items) found c.requires.0 c.in-Ok.ensures.rows
    (ap (λ (t : Task). t.limits.devices) c.in-Some.ensures.shown) c.in-Ok.ensures.flow (subst (λ k. AddsWays asked k (failing_on s.devices nodes) rows c.args.found.now.boots c.ways_of.new.found.boots [] (map way_shown ways.items)) saved adds)) c.ways_of.ensures.ok

pub returns-in-Ok-clause-err : goal.returns-in-Ok-clause-err
returns-in-Ok-clause-err g c =
    let asked = asked_in c.args.telling.now in
    let ask = c.args.telling.now.ask.now in
    let kept = bytes_of_words c.args.kept.now in
    let s = started_shown c.args.started.now in
    let task = task_in c.in-Some.rehearsal in
    let b = boot_with asked kept s task in
    let rows = rows_shown c.in-Ok.endings.rows in
    let given : option_bytes c.as_deref.result ≡ option_items c.args.started.now.text = search rules in
    let set : task_found s.environment s.devices (record { name = asked.name; given = s.text }) (bounds_in asked) ≡ Some task =
    ap (λ (b : BoundsShown). task_found s.environment s.devices (record { name = asked.name; given = s.text }) b) (sym c.requires.1.1)
    ∙ sym (c.in-Some.ensures.found ∙ ap (λ (t : Option Text). task_found s.environment s.devices (record { name = asked.name; given = t }) c.args.telling.now.bounds) given) in
    let found : rehearsed asked kept s ≡ Some b = ap (option_map (boot_with asked kept s)) set in
    let saved : bytes_of_words c.deref.result.now ≡ b.saved = ap bytes_of_words c.deref.ensures.value ∙ c.in_ok-saved.ensures in
    let all : List Row = endings (told_apart asked) task in
    let same : next_of_all asked (bytes_of_words c.deref.result.now) rows ≡ next_of_all asked b.saved all =
    ap (λ k. next_of_all asked k rows) saved ∙ ap (next_of_all asked b.saved) (c.in-Ok.ensures.rows ∙ ap (λ (n : List Text). map saturated (endings n task)) c.requires.0) ∙ next_of_saturated asked b.saved all in
    on_err_both c.ways_of.result (λ (e : BootsError). e ≡ TooMany → BreaksAt (next_of_all asked (bytes_of_words c.deref.result.now) rows) ask.boots c.args.found.now.boots c.ways_of.new.found.boots) (λ (e : BootsError). e ≢ TooMany → e ≡ Memory)
    (λ (e : BootsError). IsUntoldStarted asked kept ask.states ask.work ask.memory ask.boots s c.args.found.now.boots c.ways_of.new.found.boots e)
    (λ e many other. untold_ways asked kept ask.states ask.work ask.memory ask.boots s b c.args.found.now.boots c.ways_of.new.found.boots found e (λ is. subst (λ n. BreaksAt n ask.boots c.args.found.now.boots c.ways_of.new.found.boots) same (many is)) other)
    c.ways_of.ensures.many c.ways_of.ensures.other

pub returns-clause-err : goal.returns-clause-err
returns-clause-err g c =
    let asked = asked_in c.args.telling.now in
    let ask = c.args.telling.now.ask.now in
    let kept = bytes_of_words c.args.kept.now in
    let s = started_shown c.args.started.now in
    let task = task_in c.in-Some.rehearsal in
    let b = boot_with asked kept s task in
    let given : option_bytes c.as_deref.result ≡ option_items c.args.started.now.text = search rules in
    let set : task_found s.environment s.devices (record { name = asked.name; given = s.text }) (bounds_in asked) ≡ Some task =
    ap (λ (b : BoundsShown). task_found s.environment s.devices (record { name = asked.name; given = s.text }) b) (sym c.requires.1.1)
    ∙ sym (c.in-Some.ensures.found ∙ ap (λ (t : Option Text). task_found s.environment s.devices (record { name = asked.name; given = t }) c.args.telling.now.bounds) given) in
    let found : rehearsed asked kept s ≡ Some b = ap (option_map (boot_with asked kept s)) set in
    subst (λ (e : BootsError). IsUntoldStarted asked kept ask.states ask.work ask.memory ask.boots s c.args.found.now.boots c.args.found.now.boots e) (sym c.untold.ensures)
    (untold_endings asked kept ask.states ask.work ask.memory ask.boots s b c.args.found.now.boots c.args.found.now.boots found (map (λ n. n.now) c.args.telling.now.apart.now) c.in-Err.error c.requires.0 c.in-Err.ensures.err c.in-Err.ensures.costly c.in-Err.ensures.large)
