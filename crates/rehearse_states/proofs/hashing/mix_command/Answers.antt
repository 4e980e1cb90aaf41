use Rattle.std.proofs.Common.{ℕ, List, map, sym, ap, ◌∙◌, Vec}
use Rattle.std.specs.List.{fold}
use Rattle.std.specs.declared.alloc.Global.{Global}
use Rattle.hushlang.specs.TreesShown as view
use Rattle.hushlang.specs.declared.tree.Word.{Word}
use Rattle.hushlang.proofs.ViewLemmas.{command_simple, command_assign, command_loop, command_for, command_if}
use Rattle.rehearse_states.specs.PlaceNumbers.{mixed_command, mixed_value, mixed_written}
use Rattle.rehearse_states.proofs.hashing.mix_command.Goals as goal

pub returns-in-Simple : goal.returns-in-Simple
returns-in-Simple c =
    c.mix_written.ensures ∙ ap (mixed_written c.args.hash) c.words.ensures
    ∙ sym (ap (mixed_command c.args.hash) (ap view.command c.in-Simple.is ∙ command_simple c.in-Simple.call))

pub returns-in-Assign : goal.returns-in-Assign
returns-in-Assign c =
    c.mix_values.ensures ∙ ap (λ (vs : List (Vec ℕ Global × Word)). fold mixed_value c.args.hash (map view.value vs)) c.deref.ensures.value
    ∙ sym (ap (mixed_command c.args.hash) (ap view.command c.in-Assign.is ∙ command_assign c.in-Assign.values))

pub returns-in-For : goal.returns-in-For
returns-in-For c =
    c.mix_written-in-For.ensures ∙ ap (λ (ws : List Word). mixed_written c.args.hash (map view.word ws)) c.deref-in-For.ensures.value
    ∙ sym (ap (mixed_command c.args.hash) (ap view.command c.in-For.is ∙ command_for c.in-For.name c.in-For.words c.in-For.body))

pub returns-in-If : goal.returns-in-If
returns-in-If c = sym (ap (mixed_command c.args.hash) (ap view.command c.in-If.is ∙ command_if c.in-If.arms c.in-If.other))

pub returns-in-Loop : goal.returns-in-Loop
returns-in-Loop c = sym (ap (mixed_command c.args.hash) (ap view.command c.in-Loop.is ∙ command_loop c.in-Loop.until c.in-Loop.cond c.in-Loop.body))
