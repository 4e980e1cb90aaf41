use Rattle.std.proofs.Common.{◌++◌, ◌∙◌, ap, append_assoc, sym}
use Rattle.std.specs.Prelude.{codes}
use Rattle.hushcheck.proofs.WalkLemmas.{ok_so}
use Rattle.hushcheck.specs.Calls.{remark_text}
use Rattle.hushcheck.specs.Remarks.{remark}
use Rattle.text.specs.Escapes.{word_form}
use Rattle.hushcheck.proofs.lines.push_remark.Goals as goal

pub returns-in_ok-extend_from_slice-in-Unset : goal.returns-in_ok-extend_from_slice-in-Unset
returns-in_ok-extend_from_slice-in-Unset c =
    let told = c.args.told.now.items in
    let says = codes "warning: nothing sets " in
    let name = c.deref-in-Unset.result.now in
    ok_so c.push_name-in-Unset.result
    (λ so. so ∙ ap (λ t. t ++ word_form name) c.in_ok-extend_from_slice-in-Unset.ensures.items ∙ append_assoc told says (word_form name)
    ∙ ap (λ n. told ++ (says ++ word_form n)) c.deref-in-Unset.ensures.value ∙ ap (λ r. told ++ remark_text (remark r)) (sym c.in-Unset.is))
    c.push_name-in-Unset.ensures
