use Rattle.std.proofs.Common.{ap}
use Rattle.text.specs.TextsShown.{option_bytes}
use Rattle.rehearse_machine.specs.Tasks.{source_shown}
use Rattle.rehearse_runs.proofs.HeadlineLemmas.{begins_behind, refused_behind}
use Rattle.rehearse_runs.proofs.rehearsing.begin_runs.Goals as goal

pub returns-in-Some-clause-ok : goal.returns-in-Some-clause-ok
returns-in-Some-clause-ok g c = begins_behind c.behind.result c.args.env.now c.args.devices.now (source_shown c.args.source) c.args.bounds (option_bytes c.args.after) c.in-Some.word.now c.digits_of.result.now (ap option_bytes c.in-Some.is) c.digits_of.ensures c.behind.ensures.ok c.behind.ensures.found

pub returns-in-Some-clause-err : goal.returns-in-Some-clause-err
returns-in-Some-clause-err g c = refused_behind c.behind.result c.args.env.now c.args.devices.now (source_shown c.args.source) c.args.bounds (option_bytes c.args.after) c.in-Some.word.now c.digits_of.result.now (ap option_bytes c.in-Some.is) c.digits_of.ensures c.behind.ensures.err c.behind.ensures.missing
