use Rattle.std.proofs.Common.{ap, ◌∙◌, sym, Some, None}
use Rattle.hushlang.specs.Tree.{Command}
use Rattle.hushlang.specs.TreesShown as view
use Rattle.rehearse_machine.specs.AskingCommand.{words_of}
use Rattle.rehearse_machine.proofs.CommandLemmas.{says_simple}
use Rattle.rehearse_machine.proofs.PartLemmas.{list_found, list_missing}
use Rattle.rehearse_machine.proofs.FoundAgain.{no_list_in_front, command_there_in_front, wordless}
use Rattle.rehearse_machine.proofs.asking.call_in_front.Goals as goal

pub returns-in_default : goal.returns-in_default
returns-in_default c =
    let f = c.args.frame.now in
    let says = ap view.script c.deref.ensures ∙ c.script-script.ensures in
    no_list_in_front c.at-at.result f c.at-at.ensures c.if-at-eq0.false (list_missing c.deref.result.now c.deref-2.result.now c.at-at.result f says c.deref-2.ensures.value c.at-at.ensures c.in_default.ensures.lookup.3)

pub returns-in_default-command_of : goal.returns-in_default-command_of
returns-in_default-command_of c =
    let f = c.args.frame.now in
    let says = ap view.script c.deref.ensures ∙ c.script-script.ensures in
    let l = c.in-Some.list.now in
    let found = list_found c.deref.result.now c.deref-2.result.now c.at-at.result f says c.deref-2.ensures.value c.at-at.ensures l c.in-Some.ensures.lookup.3.0 c.in-Some.ensures.lookup.1 in
    command_there_in_front c.at-at.result f c.at-at.ensures c.if-at-eq0.false l None found c.in_default-command_of.ensures.value

pub returns-in_default-command : goal.returns-in_default-command
returns-in_default-command c =
    let f = c.args.frame.now in
    let says = ap view.script c.deref.ensures ∙ c.script-script.ensures in
    let l = c.in-Some.list.now in
    let found = list_found c.deref.result.now c.deref-2.result.now c.at-at.result f says c.deref-2.ensures.value c.at-at.ensures l c.in-Some.ensures.lookup.3.0 c.in-Some.ensures.lookup.1 in
    let code = c.in-Some-command_of.command.now in
    wordless code c.in_default-command.not-Simple
    ∙ command_there_in_front c.at-at.result f c.at-at.ensures c.if-at-eq0.false l (Some (view.command code)) found c.in-Some-command_of.ensures.value

pub returns : goal.returns
returns c =
    let f = c.args.frame.now in
    let says = ap view.script c.deref.ensures ∙ c.script-script.ensures in
    let l = c.in-Some.list.now in
    let found = list_found c.deref.result.now c.deref-2.result.now c.at-at.result f says c.deref-2.ensures.value c.at-at.ensures l c.in-Some.ensures.lookup.3.0 c.in-Some.ensures.lookup.1 in
    let code = c.in-Some-command_of.command.now in
    sym (ap (λ (k : Command). words_of (Some k)) (says_simple code c.in-Simple.call c.in-Simple.is))
    ∙ command_there_in_front c.at-at.result f c.at-at.ensures c.if-at-eq0.false l (Some (view.command code)) found c.in-Some-command_of.ensures.value
