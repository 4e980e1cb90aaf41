use Rattle.std.proofs.Common.{ap, rules, ◌∙◌}
use Rattle.std.proofs.lemmas.Fn.{filter_same}
use Rattle.hushcheck.specs.Remarks.{all_found}
use Rattle.hushcheck.proofs.ByShellLemmas.{is_told, told_shown}
use Rattle.hushcheck.proofs.by_shell.keep_told.Goals as goal

pub returns : goal.returns
returns c =
    ap all_found (filter_same _ (is_told c.args.shell) _ (λ x b f' k. search rules) _ _ c.retain.ensures.filtered)
    ∙ told_shown c.args.shell c.args.found.now.items
