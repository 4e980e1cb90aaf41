use Rattle.std.proofs.Common.{◌≡◌, sym, ◌∙◌, ap, subst, fold, List, []}
use Rattle.std.specs.List.{AllByRecursion}
use Rattle.envimage.specs.Data.{Pair, IsVariable, pairs_of}
use Rattle.envimage.specs.Entries.{pairs_left}
use Rattle.envimage.proofs.FaultLemmas.{faultless_is_data}
use Rattle.envtools.specs.Environment.{assigned}
use Rattle.envtools.proofs.EnvOf.{fold-assigned}
use Rattle.envtools.proofs.env.Env.from_checked.Goals as goal

pub loop-name-init : goal.loop-name-init
loop-name-init c =
    let left : pairs_left c.into_iter-name-iterator.result ≡ pairs_of c.args.body.now = cc in
    let Each : List Pair → Type 0 = λ ps. AllByRecursion IsVariable ps in
    let d = faultless_is_data c.args.body.now c.requires in
    record {
      whole = ap (λ env. fold (λ env p. assigned env p.0 p.1) env (pairs_left c.into_iter-name-iterator.result)) c.with_hasher-env.ensures
          ∙ (ap (fold (λ env p. assigned env p.0 p.1) []) left ∙ fold-assigned (pairs_of c.args.body.now));
      each = subst Each (sym left) d.each;
    }
