use Rattle.std.proofs.Common.{Bool, map, subst}
use Rattle.device_list.specs.CallLines.{call_between}
use Rattle.device_list.specs.CommandsShown.{files_shown}
use Rattle.device_list.specs.DeviceListAnswers.{SaysCall}
use Rattle.device_list.proofs.call_line.call_parts.Goals as goal

pub returns : goal.returns
returns c =
    let pattern = map (λ w. w.now) c.args.pattern.now in
    let clauses = map (λ w. w.now) c.args.clauses.now in
    subst (λ (of_test : Bool). SaysCall (call_between (files_shown c.args.files.now.entries) c.args.number of_test pattern clauses) c.call_between.result) c.is_of_test-of_test.ensures c.call_between.ensures
