use Rattle.std.proofs.Common.{◌∙◌}
use Rattle.hushlang.proofs.ViewLemmas.{script_of}
use Rattle.hushlang_shells.proofs.FileEndLemmas.{nothing_behind}
use Rattle.hushlang_shells.proofs.trees_by_shell.with_nothing.Goals as goal

pub returns : goal.returns
returns c =
    script_of c.push.new.self
    ∙ nothing_behind c.args.script c.nothing.result c.push.new.self.items c.nothing.ensures c.in_ok-push.ensures.items
