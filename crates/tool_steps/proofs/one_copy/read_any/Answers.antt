use Rattle.std.proofs.Common.{◌≡◌, Some, string_bytes}
use Rattle.tool_steps.proofs.OneCopyLemmas.{source-found}
use Rattle.tool_files.proofs.ToldLemmas.{IfTold-then}
use Rattle.tool_steps.proofs.one_copy.read_any.Goals as goal

pub returns-clause-told : goal.returns-clause-told
returns-clause-told g c =
    let a = g.F.Files.told c.args.files.now in
    let b = g.F.Files.told c.read_places.new.files in
    let d = g.F.Files.told c.read_either.new.files in
    let named : c.in_ok-first.second ≡ Some c.in-Some.second = c.in-Some.is in
    IfTold-then a b d
    (λ x y z h i. source-found c.args.program.now (string_bytes c.args.config) (g.E.Out.sink c.args.err.now) (g.E.Out.sink c.read_either.new.err) c.in_ok-first.first c.in-Some.second c.in_ok-first.second x y z c.read_either.result named h i)
    c.in_ok-first.ensures.told c.read_either.ensures.told
