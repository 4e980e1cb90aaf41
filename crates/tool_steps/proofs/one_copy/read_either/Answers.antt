use Rattle.tool_steps.proofs.CountLemmas.{pair-counts}
use Rattle.tool_steps.proofs.OneCopyLemmas.{pair-found}
use Rattle.tool_files.proofs.ToldLemmas.{IfTold-then}
use Rattle.tool_steps.proofs.one_copy.read_either.Goals as goal

pub returns-clause-count : goal.returns-clause-count
returns-clause-count g c =
    pair-counts c.args.program.now c.in_ok-first.first c.in_ok-second.second (g.E.Out.sink c.args.err.now) (g.E.Out.sink c.join.new.err) c.join.result
    (g.F.Files.faults c.args.files.now) (g.F.Files.faults c.seek_copy.new.files) (g.F.Files.faults c.seek_copy-2.new.files) c.in_ok-first.ensures.count c.in_ok-second.ensures.count c.join.ensures.images

pub returns-clause-told : goal.returns-clause-told
returns-clause-told g c =
    let a = g.F.Files.told c.args.files.now in
    let b = g.F.Files.told c.seek_copy.new.files in
    let d = g.F.Files.told c.seek_copy-2.new.files in
    IfTold-then a b d
    (λ x y z h i. pair-found c.args.program.now c.args.first c.args.second c.in_ok-first.first c.in_ok-second.second (g.E.Out.sink c.args.err.now) (g.E.Out.sink c.join.new.err) c.join.result x y z h i c.join.ensures.images)
    c.in_ok-first.ensures.told c.in_ok-second.ensures.told
