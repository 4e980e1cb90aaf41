use Rattle.std.proofs.Common.{◌++◌, ap, ◌∙◌}
use Rattle.hushcheck.specs.Places.{lines_at}
use Rattle.hushcheck.proofs.LinesLemmas.{found_is}
use Rattle.hushcheck.proofs.PlaceLemmas.{lines_within}
use Rattle.hushcheck.proofs.WalkLemmas.{ok_so}
use Rattle.hushcheck.proofs.lines.push_at.Goals as goal

pub returns : goal.returns
returns c =
    let name = c.args.name.now in
    let text = c.args.text.now in
    let what = c.args.what.now in
    let within = ap (λ at. lines_at name text at what) c.moved-point.ensures.at ∙ lines_within name text c.args.at what in
    ok_so c.push_shown.result (λ so. found_is c.args.told.now.items c.push_point.new.told.items c.extend_from_slice.new.self.items c.push_shown.new.told.items _ _ _
    c.in_ok-push_point.ensures c.in_ok-extend_from_slice.ensures.items so ∙ ap (λ t. c.args.told.now.items ++ t) within) c.push_shown.ensures
