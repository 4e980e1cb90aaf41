use Rattle.std.proofs.Common.{ap, ◌∙◌, sym, option_map}
use Rattle.builtins.specs.BuiltinsShown.{builtin_shown}
use Rattle.builtins.specs.Builtins.{builtin_named}
use Rattle.hushlang.specs.TreesShown as view
use Rattle.hushlang.proofs.KnownFieldLemmas.{named_by_all}
use Rattle.hushlang.proofs.call.Call.builtin_in.Goals as goal

pub returns-in-Some : goal.returns-in-Some
returns-in-Some c p e =
    named_by_all p (view.call c.args.self.now) (option_map builtin_shown c.in-Some.builtin)
    (sym (ap (option_map (option_map builtin_shown)) c.in-Some.is) ∙ c.args.self.now.named_first)
    ∙ ap builtin_named (sym e)
