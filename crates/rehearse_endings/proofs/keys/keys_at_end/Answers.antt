use Rattle.std.proofs.Common.{◌≡◌, ◌∙◌, sym, ap, subst, List, map, rules, Bor, ℕ}
use Rattle.std.proofs.lemmas.List.{take_all}
use Rattle.rehearse_reads.specs.Keys.{Key, AreAmong, keys_read}
use Rattle.rehearse_reads.proofs.KeysRead.{all_itself}
use Rattle.rehearse_frames.specs.ToCome.{names_read}
use Rattle.rehearse_reports.specs.ReportsShown.{keys_shown}
use Rattle.rehearse_endings.proofs.KeyLemmas.{named_keys, keys_of_names}
use Rattle.rehearse_endings.proofs.keys.keys_at_end.Goals as goal

pub returns : goal.returns
returns c =
    let shown : keys_shown c.loop-name.keys.items ≡ named_keys c.args.names.now = c.loop-name.invariant ∙ ap named_keys (take_all c.loop-name.name-index c.args.names.now c.loop-name-test.false) in
    let read = keys_read (names_read (map (λ n. n.now) c.args.names.now)) in
    subst (AreAmong read) (keys_of_names c.args.names.now ∙ sym shown) (all_itself read)
