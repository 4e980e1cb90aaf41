use Rattle.std.proofs.Common.{ap, sym}
use Rattle.hushlang.specs.TreesShown as view
use Rattle.hushlang.proofs.TreeLemmas.{trees_are_read, refused_texts}
use Rattle.hushlang_shells.specs.TreesByShell.{Unread, script_or}
use Rattle.hushlang_shells.proofs.trees_by_shell.read_profile.Goals as goal

pub returns-in-Ok : goal.returns-in-Ok
returns-in-Ok c = sym (ap (script_or Unread) ((trees_are_read c.args.text.now (view.script c.in-Ok.script)).1 c.in-Ok.ensures.tree))

pub returns-in_default : goal.returns-in_default
returns-in_default c = sym (ap (script_or Unread) ((refused_texts c.args.text.now).1 (c.in-Err.ensures.refused (λ h. c.in_default.not-Memory h))))
