use Rattle.std.proofs.Common.{codes, map}
use Rattle.hushcheck_program.specs.CommandAnswers.{Answers}
use Rattle.hushcheck_program.specs.Doing.{Does, Leaves}
use Rattle.hushcheck_program.proofs.StatusLemmas.{ends-low, never-misused, status-done, status-refused, status-unsound}
use Rattle.hushcheck_program.proofs.program.run_check.Goals as goal

pub returns-in-Ok-clause-status : goal.returns-in-Ok-clause-status
returns-in-Ok-clause-status g c = ends-low (codes "hushcheck") c.perform-answer.result (g.E.Out.sink c.args.err.now) (g.E.Out.sink c.status_of.new.err) c.status_of.result c.status_of.ensures

pub returns-in-Ok-clause-done : goal.returns-in-Ok-clause-done
returns-in-Ok-clause-done g c =
    let err = g.E.Out.sink c.args.err.now in
    status-done (codes "hushcheck") Answers Leaves (Does c.args.build) (map g.S.AsStr.text c.args.words.now) c.in-Ok.ask (g.F.Files.faults c.args.files.now) (g.F.Files.faults c.perform-answer.new.files) (g.F.Files.told c.args.files.now) (g.F.Files.told c.perform-answer.new.files)
    (g.F.Files.locked c.args.files.now) (g.F.Files.locked c.perform-answer.new.files)
    (g.O.Out.sink c.args.out.now) (g.O.Out.sink c.perform-answer.new.out) err err (g.E.Out.sink c.status_of.new.err)
    c.status_of.result c.in-Ok.ensures c.perform-answer.result c.perform-answer.ensures.count (c.perform-answer.ensures.does err) c.status_of.ensures

pub returns-in-Ok-clause-unsound : goal.returns-in-Ok-clause-unsound
returns-in-Ok-clause-unsound g c =
    let err = g.E.Out.sink c.args.err.now in
    status-unsound (codes "hushcheck") Answers Leaves (Does c.args.build) (map g.S.AsStr.text c.args.words.now) c.in-Ok.ask (g.F.Files.faults c.args.files.now) (g.F.Files.faults c.perform-answer.new.files) (g.F.Files.told c.args.files.now) (g.F.Files.told c.perform-answer.new.files)
    (g.F.Files.locked c.args.files.now) (g.F.Files.locked c.perform-answer.new.files)
    (g.O.Out.sink c.args.out.now) (g.O.Out.sink c.perform-answer.new.out) err err (g.E.Out.sink c.status_of.new.err)
    c.status_of.result c.in-Ok.ensures c.perform-answer.result c.perform-answer.ensures.count (c.perform-answer.ensures.does err) c.status_of.ensures

pub returns-in-Ok-clause-misused : goal.returns-in-Ok-clause-misused
returns-in-Ok-clause-misused g c is = absurd (never-misused (codes "hushcheck") c.perform-answer.result (g.E.Out.sink c.args.err.now) (g.E.Out.sink c.status_of.new.err) c.status_of.result c.status_of.ensures is)

pub returns-in-Ok-clause-refused : goal.returns-in-Ok-clause-refused
returns-in-Ok-clause-refused g c =
    let err = g.E.Out.sink c.args.err.now in
    status-refused (codes "hushcheck") Answers Leaves (Does c.args.build) (map g.S.AsStr.text c.args.words.now) c.in-Ok.ask (g.F.Files.faults c.args.files.now) (g.F.Files.faults c.perform-answer.new.files) (g.F.Files.told c.args.files.now) (g.F.Files.told c.perform-answer.new.files)
    (g.F.Files.locked c.args.files.now) (g.F.Files.locked c.perform-answer.new.files)
    (g.O.Out.sink c.args.out.now) (g.O.Out.sink c.perform-answer.new.out) err err (g.E.Out.sink c.status_of.new.err)
    c.status_of.result c.in-Ok.ensures c.perform-answer.result c.perform-answer.ensures.count (c.perform-answer.ensures.does err) c.status_of.ensures
