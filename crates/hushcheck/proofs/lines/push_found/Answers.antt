use Rattle.hushcheck.proofs.LinesLemmas.{found_is}
use Rattle.hushcheck.proofs.WalkLemmas.{ok_so}
use Rattle.hushcheck.proofs.lines.push_found.Goals as goal

pub returns : goal.returns
returns c =
    ok_so c.push_shown.result (λ so. found_is c.args.told.now.items c.push_point.new.told.items c.push_remark.new.told.items c.push_shown.new.told.items _ _ _
    c.in_ok-push_point.ensures c.in_ok-push_remark.ensures so) c.push_shown.ensures
