use Rattle.std.proofs.Common.{None, option_map, ap, sym, ◌∙◌}
use Rattle.builtins.specs.BuiltinsShown.{builtin_shown}
use Rattle.hushlang.specs.TreesShown as view
use Rattle.text.specs.TextsShown.{bytes_of_words}
use Rattle.rehearse_machine.specs.MovesShown.{limits_of}
use Rattle.rehearse_machine.proofs.CommandMoves.{name_called}
use Rattle.rehearse_machine.proofs.simple.run_called.Goals as goal

pub returns-in-None : goal.returns-in-None
returns-in-None g c =
    let limits = limits_of c.args.devices.now c.args.bounds in
    name_called limits c.args.named.again c.args.name.now (bytes_of_words c.args.words.now) None (view.script c.args.script.now.value) c.run_other.result
    (g.S.Store.record_of c.args.store.now) (g.S.Store.record_of c.run_other.new.store)
    (sym (ap (option_map builtin_shown) c.in-None.is) ∙ c.requires) (c.run_other.ensures c.args.named.again (view.script c.args.script.now.value))
