use Rattle.std.proofs.Common.{string_bytes}
use Rattle.tool_files.proofs.ToldLemmas.{IfTold-then}
use Rattle.tool_steps.proofs.OriginLemmas.{pair-up}
use Rattle.tool_steps.proofs.origin.read_pair.Goals as goal

pub returns-clause-told : goal.returns-clause-told
returns-clause-told g c =
    let a = g.F.Files.told c.args.files.now in
    let b = g.F.Files.told c.read_file.new.files in
    let d = g.F.Files.told c.read_file-2.new.files in
    IfTold-then a b d
    (λ x y z h i. pair-up (string_bytes c.args.first) (string_bytes c.args.second) c.in_ok-first.first c.in_ok-second.second c.pair_of.result x y z h i c.pair_of.ensures)
    c.in_ok-first.ensures.told c.in_ok-second.ensures.told
