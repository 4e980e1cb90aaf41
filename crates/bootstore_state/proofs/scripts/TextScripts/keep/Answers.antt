use Rattle.std.proofs.Common.{sym, ap, subst, ◌∙◌}
use Rattle.hushlang.specs.TreesShown as view
use Rattle.hushlang.specs.declared.tree.Script.{Script as Code}
use Rattle.hushlang_shells.specs.TreesByShell.{Runs}
use Rattle.rehearse_terms.specs.declared.shell.Shell.{Shell}
use Rattle.bootstore_state.specs.Scripts.{AreOfTexts, read_as}
use Rattle.bootstore_state.specs.declared.scripts.Runner.{Runner}
use Rattle.bootstore_state.proofs.KeptScripts.{scripts_kept}
use Rattle.bootstore_state.proofs.scripts.TextScripts.keep.Goals as goal

pub invariant_of-self-2-clause-texts : goal.invariant_of-self-2-clause-texts
invariant_of-self-2-clause-texts c =
    let runner : Runner = c.make_room.new.self.runner in
    let shell : Shell = c.make_room.new.self.shell in
    subst (AreOfTexts runner shell) (sym c.in_ok-insert.ensures.entries)
    (scripts_kept runner shell c.make_room.new.self.kept.entries c.in_ok-key.key c.in_ok-clone.field-0 c.make_room.new.self.texts
    (ap (read_as runner shell) c.in_ok-key.ensures.items ∙ ap (λ (sh : Shell). read_as runner sh c.args.text.now) c.make_room.ensures.shell
    ∙ ap (λ (r : Runner). read_as r c.args.self.now.shell c.args.text.now) c.make_room.ensures.runner ∙ c.requires
    ∙ ap (λ (x : Code). Runs (view.script x)) (sym c.in_ok-clone.ensures.cases)))
