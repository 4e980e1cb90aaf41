use Rattle.std.proofs.Common.{rules, sym, ◌∙◌}
use Rattle.rehearse_states.proofs.EqualLemmas.{texts_decided}
use Rattle.rehearse_states.proofs.TreeEqualLemmas.{script_decided}
use Rattle.rehearse_states.proofs.places.same_frame.Goals as goal
use Rattle.rehearse_states.proofs.places.same_frame.Goals.{then-eq-2, else-eq-2}

pub returns-then-eq-3-clause-same : goal.returns-then-eq-3-clause-same
returns-then-eq-3-clause-same c = λ h.
    let script = (script_decided c.script.result.now.value c.script-then-eq-3.result.now.value).0 (sym c.eq-then-eq-3.ensures ∙ h) in
    elim c.if-eq-2.branch [
      | then-eq-2 w ↦
          let words = (texts_decided w.words.result.now w.words-then-eq-2.result.now).0 (sym w.eq-then-eq-2.ensures ∙ sym w.value-is ∙ c.if-eq-3.true) in
          search rules
      | else-eq-2 w ↦ search rules
    ]

pub returns-then-eq-3-clause-told : goal.returns-then-eq-3-clause-told
returns-then-eq-3-clause-told c = λ h.
    let told = (script_decided c.script.result.now.value c.script-then-eq-3.result.now.value).1 in
    search rules

pub returns-else-eq-3-clause-told : goal.returns-else-eq-3-clause-told
returns-else-eq-3-clause-told c = λ h.
    elim c.if-eq-2.branch [
      | then-eq-2 w ↦
          let told = (texts_decided w.words.result.now w.words-then-eq-2.result.now).1 in
          search rules
      | else-eq-2 w ↦ search rules
    ]
