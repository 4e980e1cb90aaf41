use Rattle.std.proofs.Common.{◌∙◌, ◌++◌, ap, map, ℕ, List}
use Rattle.rehearse_boots.specs.Answering.{one_text}
use Rattle.rehearse_boots.specs.Exploring.{asked_in}
use Rattle.rehearse_boots.specs.Ways.{Way, way_shown}
use Rattle.rehearse_boots.proofs.AnswerLemmas.{boots_more}
use Rattle.rehearse_boots.proofs.answering.put_boots.Goals as goal

pub loop-place-preserved : goal.loop-place-preserved
loop-place-preserved c =
    let asked = asked_in c.args.telling.now in
    let boots = c.args.explored.now.found.boots in
    boots_more (λ ways. map way_shown ways.items) (λ (g : ℕ × List Way). one_text asked boots g.0 g.1) c.deref-ways-items.result.now c.loop-place.place c.ways-item.result c.args.text.now.items c.loop-place.text.items c.put_boot.new.text.items
    c.loop-place-test.true c.ways-item.is c.loop-place.invariant
    (c.in_ok-put_boot.ensures ∙ ap (λ ways. c.loop-place.text.items ++ one_text asked boots c.loop-place.place (map way_shown ways)) c.deref.ensures.value)
