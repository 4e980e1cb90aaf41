use Rattle.std.proofs.Common.{subst}
use Rattle.clap.specs.Words.{IsAmong}
use Rattle.clap.specs.declared.error.kind.ErrorKind.TheVariants.{DisplayHelp, DisplayVersion}
use Rattle.tool_words.proofs.AnswerLemmas.{parsed_answer, refused_answer}
use Rattle.tool_words.proofs.OneSubcommand.{answers_as}
use Rattle.tool_words.proofs.read.read_command.Goals as goal

pub parse-requires : goal.parse-requires
parse-requires g c = (answers_as _ _ c.in_ok-ubtool_for.ensures.app_is).free

pub returns-in-Ok-Asks : goal.returns-in-Ok-Asks
returns-in-Ok-Asks g c =
    let parsed = rw c.in-Ok-Asks.field-0-is at c.in-Ok-Asks.ensures in
    parsed_answer _ _ _ _ _ (answers_as _ _ c.in_ok-ubtool_for.ensures.app_is) parsed.0 parsed.1 c.ask_of.ensures

pub returns-in-Err : goal.returns-in-Err
returns-in-Err g c =
    refused_answer _ _ _ _ (answers_as _ _ c.in_ok-ubtool_for.ensures.app_is) c.in-Err.ensures

pub returns-in-Ok-Help : goal.returns-in-Ok-Help
returns-in-Ok-Help g c = subst (IsAmong DisplayHelp) (answers_as _ _ c.in_ok-ubtool_for.ensures.app_is).faults (rw c.in-Ok-Help.field-0-is at c.in-Ok-Help.ensures)

pub returns-in-Ok-Version : goal.returns-in-Ok-Version
returns-in-Ok-Version g c = subst (IsAmong DisplayVersion) (answers_as _ _ c.in_ok-ubtool_for.ensures.app_is).faults (rw c.in-Ok-Version.field-0-is at c.in-Ok-Version.ensures)
