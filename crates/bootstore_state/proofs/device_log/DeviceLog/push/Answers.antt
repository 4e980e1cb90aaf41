use Rattle.std.proofs.Common.{◌≡◌, ◌++◌, ◌∷◌, [], ◌∙◌, ap, List, ℕ}
use Rattle.rehearse_terms.specs.State.{Text, LoggedCommand}
use Rattle.bootstore_state.specs.DeviceLog.{entry_line}
use Rattle.bootstore_state.proofs.DeviceLogLemmas.{with_line}
use Rattle.bootstore_state.proofs.device_log.DeviceLog.push.Goals as goal

pub invariant_of-self-2 : goal.invariant_of-self-2
invariant_of-self-2 c =
    let log = c.self.inside in
    let e = c.args.entry in
    let made : c.deref.result.now ≡ entry_line e = c.deref.ensures.value ∙ c.in_ok-add_line.ensures ∙ ap (λ (t : Text). t ++ entry_line e) c.clear.ensures.items in
    let entries = c.push_reserved-2.ensures.items ∙ ap (λ (es : List LoggedCommand). es ++ e ∷ []) c.in_ok-reserve.ensures.items in
    let lines = c.in_ok-extend_from_slice.ensures.items ∙ ap (λ (t : Text). log.lines.items ++ t) made in
    let starts = c.push_reserved.ensures.items ∙ ap (λ (ns : List ℕ). ns ++ c.len-start.result ∷ []) c.in_ok-reserve-2.ensures.items ∙ ap (λ (n : ℕ). log.starts.items ++ n ∷ []) (c.len-start.ensures ∙ log.lines.ok.0) in
    rw (entries, lines, starts) (with_line log.entries.items e log.lines.items log.starts.items c.self.invariant)
