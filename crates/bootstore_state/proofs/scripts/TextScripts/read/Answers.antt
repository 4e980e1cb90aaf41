use Rattle.std.proofs.Common.{Some, ap, ◌∙◌}
use Rattle.hushlang.specs.TreesShown as view
use Rattle.hushlang.specs.declared.tree.Script.{Script as Code}
use Rattle.hushlang_shells.specs.TreesByShell.{TextRead, Runs}
use Rattle.bootstore_state.proofs.KeptScripts.{script_found}
use Rattle.bootstore_state.proofs.scripts.TextScripts.read.Goals as goal

pub returns-in-Some : goal.returns-in-Some
returns-in-Some c =
    ap (λ (x : Code). Some (Runs (view.script x))) c.in_ok-clone.ensures.cases
    ∙ ap (λ (x : TextRead). Some x) (script_found c.args.self.now.runner c.args.self.now.shell c.args.self.now.kept.entries c.args.text.now c.in-Some.script.now c.args.self.now.texts c.in-Some.ensures.value)
