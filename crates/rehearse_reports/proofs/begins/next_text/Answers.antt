use Rattle.std.proofs.Common.{ap}
use Rattle.bootstore_state.specs.declared.frame.At.{At}
use Rattle.rehearse_machine.proofs.WordLemmas.{word_some, word_none}
use Rattle.rehearse_reports.proofs.FrameLemmas.{run_text, run_end}
use Rattle.rehearse_reports.proofs.begins.next_text.Goals as goal

pub returns-in-Some : goal.returns-in-Some
returns-in-Some c status limits fs s e =
    let f = c.args.frame.now in
    let v = c.in-Some.name.now in
    run_text limits fs s f c.deref.result.now v.items c.deref.ensures.value
    (word_some c.words.result.now f.words c.at-at.result.turn f.place.turn v c.words.ensures (ap (λ (x : At). x.turn) c.at-at.ensures) c.in-Some.ensures.lookup.3.0 c.in-Some.ensures.lookup.1)

pub returns-in-None : goal.returns-in-None
returns-in-None c status limits fs s e =
    let f = c.args.frame.now in
    run_end limits fs s f (word_none c.words.result.now f.words c.at-at.result.turn f.place.turn c.words.ensures (ap (λ (x : At). x.turn) c.at-at.ensures) c.in-None.ensures.lookup.3)
