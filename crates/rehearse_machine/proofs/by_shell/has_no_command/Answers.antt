use Rattle.std.proofs.Common.{◌∙◌, ap, sym}
use Rattle.std.specs.Option.{option_copied}
use Rattle.rehearse_machine.proofs.ShellLemmas.{by_first, without_first, simple_is, other_is}
use Rattle.rehearse_machine.proofs.by_shell.has_no_command.Goals as goal

pub returns-in-Simple : goal.returns-in-Simple
returns-in-Simple c =
    let first = c.in-Some.list.now.first in
    c.is_empty.ensures ∙ simple_is first c.in-Simple.call c.words.result.now c.in-Simple.is c.words.ensures
    ∙ sym (by_first c.args.block.now c.deref.result.now c.deref.ensures.value c.in-Some.list.now (sym c.first.ensures.value ∙ ap option_copied c.in-Some.is))

pub returns-in_default : goal.returns-in_default
returns-in_default c =
    sym (by_first c.args.block.now c.deref.result.now c.deref.ensures.value c.in-Some.list.now (sym c.first.ensures.value ∙ ap option_copied c.in-Some.is)
    ∙ other_is c.in-Some.list.now.first c.in_default.not-Simple)

pub returns-in-None : goal.returns-in-None
returns-in-None c = sym (without_first c.args.block.now c.deref.result.now c.deref.ensures.value (sym c.first.ensures.value ∙ ap option_copied c.in-None.is))
