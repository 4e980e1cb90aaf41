use Rattle.std.proofs.Common.{◌∙◌, ap, sym, subst, List}
use Rattle.std.specs.List.{fold}
use Rattle.clap.specs.Words.{Shape, with_subcommand}
use Rattle.std.proofs.lemmas.Result.{IfOk-weaker}
use Rattle.std.specs.Option.{option_map, option_map_or}
use Rattle.tool_words.specs.Arguments.{app_of_row}
use Rattle.tool_words.specs.CommandLine.{base, ubtool, ubtool_for, with_one}
use Rattle.tool_words.specs.Made.{IsMade}
use Rattle.tool_words.proofs.MadeLemmas.{made_with}
use Rattle.tool_words.proofs.command.ubtool_of.Goals as goal

pub returns-in-Some : goal.returns-in-Some
unfolding ubtool ubtool_for
returns-in-Some g c =
    let named = sym (ap (option_map app_of_row) c.in-Some.is) ∙ c.first_named.ensures in
    IfOk-weaker c.with_subcommands.result _ _
    (λ new adds. subst (λ o. IsMade (option_map_or with_one o ubtool) new) named (made_with _ _ _ _ _ c.in_ok-command.ensures adds)) c.with_subcommands.ensures

pub returns-in-None : goal.returns-in-None
unfolding ubtool ubtool_for
returns-in-None g c =
    let named = sym (ap (option_map app_of_row) c.in-None.is) ∙ c.first_named.ensures in
    IfOk-weaker c.with_subcommands-in-None.result _ _
    (λ new adds. subst (λ o. IsMade (option_map_or with_one o ubtool) new) named (subst (λ (shapes : List Shape). IsMade (fold with_subcommand base shapes) new) c.requires.shapes (made_with _ _ _ _ _ c.in_ok-command.ensures adds))) c.with_subcommands-in-None.ensures
