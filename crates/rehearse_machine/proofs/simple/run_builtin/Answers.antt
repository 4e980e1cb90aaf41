use Rattle.std.proofs.Common.{ap, refl}
use Rattle.hushlang.specs.TreesShown as view
use Rattle.text.specs.TextsShown.{bytes_of_words}
use Rattle.commands.specs.BuiltInCommands as says
use Rattle.device_list.specs.Called as called
use Rattle.rehearse_machine.specs.MovesShown.{limits_of}
use Rattle.rehearse_machine.specs.CalledShown.{builtin_called}
use Rattle.rehearse_machine.proofs.CommandMoves.{change_does, writing_does, named_comes}
use Rattle.rehearse_machine.proofs.simple.run_builtin.Goals as goal

pub returns-in_ok-setenv-in-SetEnv : goal.returns-in_ok-setenv-in-SetEnv
returns-in_ok-setenv-in-SetEnv g c =
    change_does (limits_of c.args.devices.now c.args.bounds) c.args.again (g.S.Store.record_of c.args.store.now) (g.S.Store.record_of c.setenv.new.store) c.args.name.now (bytes_of_words c.args.words.now) (view.script c.args.script.now.value) (builtin_called c.args.builtin)
    (bytes_of_words c.args.words.now) says.setenv (ap builtin_called c.in-SetEnv.is) refl c.in_ok-setenv-in-SetEnv.ensures

pub returns-in-Run : goal.returns-in-Run
returns-in-Run g c =
    let limits = limits_of c.args.devices.now c.args.bounds in
    let name = c.args.name.now in
    named_comes limits c.args.again name (bytes_of_words c.args.words.now) (view.script c.args.script.now.value) _ c.run_names.result _ _ (builtin_called c.args.builtin) (called.BuiltIn says.RunsTexts) (ap builtin_called c.in-Run.is) (c.run_names.ensures limits c.args.again name)

pub returns-in-Test : goal.returns-in-Test
returns-in-Test g c =
    let script = view.script c.args.script.now.value in
    named_comes (limits_of c.args.devices.now c.args.bounds) c.args.again c.args.name.now (bytes_of_words c.args.words.now) script _ c.run_test.result _ _ (builtin_called c.args.builtin) (called.BuiltIn says.Tests) (ap builtin_called c.in-Test.is) (c.run_test.ensures c.args.again script)

pub returns-in_ok-echo-in-Echo : goal.returns-in_ok-echo-in-Echo
returns-in_ok-echo-in-Echo g c =
    writing_does (limits_of c.args.devices.now c.args.bounds) c.args.again (g.S.Store.record_of c.args.store.now) (g.S.Store.record_of c.echo.new.store) c.args.name.now (bytes_of_words c.args.words.now) (view.script c.args.script.now.value) (builtin_called c.args.builtin)
    (bytes_of_words c.args.words.now) says.echo (ap builtin_called c.in-Echo.is) refl c.in_ok-echo-in-Echo.ensures
