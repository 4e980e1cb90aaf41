use Rattle.std.proofs.Common.{◌≡◌, ◌∙◌, sym, ap, map, Option, List, ◌++◌}
use Rattle.std.proofs.lemmas.Result.{on_ok_weaker}
use Rattle.envimage.specs.Data.{Pair}
use Rattle.envimage.specs.Entries.{pair_at}
use Rattle.rehearse_terms.specs.State.{Text}
use Rattle.text.specs.TextsShown.{bytes_of_words, option_bytes}
use Rattle.ubtool.specs.KeptNames.{changed_by, differing}
use Rattle.ubtool.proofs.KeptNamesLemmas.{differing-added}
use Rattle.ubtool.proofs.kept_names.add_changed.Goals as goal

pub returns : goal.returns
returns c =
    let env = c.args.env.now in
    let old = bytes_of_words c.args.names.now.items in
    let new = bytes_of_words c.add_all_differing-2.new.names.items in
    let added = differing-added env c.in_ok-after.after old (bytes_of_words c.add_all_differing.new.names.items) new c.deref.result.now c.deref-2.result.now
    (ap (map pair_at) c.deref.ensures.value ∙ c.in_ok-pairs.ensures.pairs) (ap (map pair_at) c.deref-2.ensures.value ∙ c.in_ok-pairs-2.ensures.pairs) c.in_ok-add_all_differing.ensures in
    let changed : old ++ differing env c.in_ok-after.after ≡ old ++ changed_by env (option_bytes c.args.changes) =
    ap (λ (after : List Pair). old ++ differing env after) c.in_ok-after.ensures ∙ ap (λ (changes : Option Text). old ++ changed_by env changes) (ap option_bytes (sym c.in-Some.is)) in
    on_ok_weaker c.add_all_differing-2.result (λ h. added h ∙ changed) c.add_all_differing-2.ensures
