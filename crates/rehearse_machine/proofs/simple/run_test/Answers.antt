use Rattle.std.proofs.Common.{sym, ap, ◌∙◌, refl}
use Rattle.text.specs.TextsShown.{bytes_of_words}
use Rattle.commands.specs.BuiltInCommands as says
use Rattle.device_list.specs.Called as called
use Rattle.rehearse_terms.specs.declared.shell.Shell.{Shell}
use Rattle.rehearse_rules.specs.ByShell.{asks_in}
use Rattle.rehearse_machine.specs.MovesShown.{limits_of}
use Rattle.rehearse_machine.proofs.CommandMoves.{test_comes}
use Rattle.rehearse_machine.proofs.simple.run_test.Goals as goal

pub returns-then-asks_in : goal.returns-then-asks_in
returns-then-asks_in g c again script =
    let devices = c.args.devices.now in
    test_comes (limits_of devices c.args.bounds) again (g.S.Store.record_of c.args.store.now) (g.S.Store.record_of c.ask_file.new.store) c.args.name.now (bytes_of_words c.args.words.now) script c.ask_file.result (called.BuiltIn says.Tests)
    refl (ap (λ (x : Shell). asks_in x (bytes_of_words c.args.words.now)) (sym c.shell-shell.ensures) ∙ sym c.if-asks_in.ensures) c.ask_file.ensures
