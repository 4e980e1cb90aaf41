use Rattle.std.proofs.Common.{◌≡◌, rules, codes}
use Rattle.tool_words.proofs.AnswerLemmas.{subcommand_met}
use Rattle.tool_words.proofs.read.ask_of.Goals as goal

pub returns-in-printenv : goal.returns-in-printenv
returns-in-printenv c =
    let met = subcommand_met c.args.matches.now c.in-Some.name.now _ c.in-Some.ensures.name c.in-Some.ensures.rows in
    let is : c.in-Some.name.now ≡ codes "printenv" = search rules in
    rw (met, is) c.print_ask.ensures

pub returns-in-setenv : goal.returns-in-setenv
returns-in-setenv c =
    let met = subcommand_met c.args.matches.now c.in-Some.name.now _ c.in-Some.ensures.name c.in-Some.ensures.rows in
    let is : c.in-Some.name.now ≡ codes "setenv" = search rules in
    rw (met, is) c.set_ask.ensures

pub returns-in-inspect : goal.returns-in-inspect
returns-in-inspect c =
    let met = subcommand_met c.args.matches.now c.in-Some.name.now _ c.in-Some.ensures.name c.in-Some.ensures.rows in
    let is : c.in-Some.name.now ≡ codes "inspect" = search rules in
    rw (met, is) c.inspect_ask.ensures
