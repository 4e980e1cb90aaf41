use Rattle.std.proofs.Common.{◌∙◌, Err, ap, subst, map, sym}
use Rattle.std.proofs.lemmas.Result.{err_from_is_err_and}
use Rattle.clap.specs.Words.{App, IsAmong, fault_of, is_simple, is_simple_and_free, matches_of}
use Rattle.clap.specs.declared.error.kind.ErrorKind.TheVariants.{DisplayHelp, DisplayVersion}
use Rattle.hushcheck_program.specs.Asked.{asked_of}
use Rattle.hushcheck_program.specs.CommandAnswers.{Says}
use Rattle.tool_words.specs.Answered.{IsAccepted, Refuses}
use Rattle.hushcheck_program.proofs.AnswerLemmas.{clap-refused, hushcheck_free, hushcheck_simple, entries-refused}
use Rattle.hushcheck_program.proofs.words.read_words.Goals as goal

pub parse-requires : goal.parse-requires
parse-requires g c = ap is_simple_and_free c.in_ok-hushcheck.ensures.app_is ∙ hushcheck_free

pub returns-in_ok-ask_of-in-Ok-Asks : goal.returns-in_ok-ask_of-in-Ok-Asks
returns-in_ok-ask_of-in-Ok-Asks g c =
    let words = map g.S.AsStr.text c.args.words.now in
    let is = c.in_ok-hushcheck.ensures.app_is in
    let parsed = rw c.in-Ok-Asks.field-0-is at c.in-Ok-Asks.ensures in
    let found = (parsed.1 (ap is_simple is ∙ hushcheck_simple)).0 ∙ ap (λ (a : App). matches_of a words) is in
    (subst (λ (a : App). IsAccepted a words) is parsed.0, ap asked_of (sym found) ∙ c.in_ok-ask_of-in-Ok-Asks.ensures)

pub returns-in_err-ask_of-in-Ok-Asks : goal.returns-in_err-ask_of-in-Ok-Asks
returns-in_err-ask_of-in-Ok-Asks g c =
    let words = map g.S.AsStr.text c.args.words.now in
    let is = c.in_ok-hushcheck.ensures.app_is in
    let parsed = rw c.in-Ok-Asks.field-0-is at c.in-Ok-Asks.ensures in
    let found = (parsed.1 (ap is_simple is ∙ hushcheck_simple)).0 ∙ ap (λ (a : App). matches_of a words) is in
    let accepted = subst (λ (a : App). IsAccepted a words) is parsed.0 in
    let error = c.in_err-ask_of-in-Ok-Asks.field-0.0 in
    let p = err_from_is_err_and c.from_residual-in_err-ask_of-in-Ok-Asks.result c.from_residual-in_err-ask_of-in-Ok-Asks.ensures.1 in
    rw (p.1, p.2) (entries-refused words error accepted (subst (λ o. Says o (Err error)) (ap asked_of found) c.in_err-ask_of-in-Ok-Asks.ensures))

pub returns-in-Err : goal.returns-in-Err
returns-in-Err g c =
    let words = map g.S.AsStr.text c.args.words.now in
    clap-refused words c.in-Err.error (subst (λ (a : App). Refuses a words c.in-Err.error) c.in_ok-hushcheck.ensures.app_is c.in-Err.ensures)

pub returns-in-Ok-Help : goal.returns-in-Ok-Help
returns-in-Ok-Help g c =
    subst (λ (a : App). IsAmong DisplayHelp (fault_of a (map g.S.AsStr.text c.args.words.now))) c.in_ok-hushcheck.ensures.app_is
    (rw c.in-Ok-Help.field-0-is at c.in-Ok-Help.ensures)

pub returns-in-Ok-Version : goal.returns-in-Ok-Version
returns-in-Ok-Version g c =
    subst (λ (a : App). IsAmong DisplayVersion (fault_of a (map g.S.AsStr.text c.args.words.now))) c.in_ok-hushcheck.ensures.app_is
    (rw c.in-Ok-Version.field-0-is at c.in-Ok-Version.ensures)
