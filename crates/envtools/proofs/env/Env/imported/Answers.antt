use Rattle.std.proofs.Common.{◌≡◌, ◌∙◌, ap, sym, Some}
use Rattle.std.specs.Prelude.{slice_get}
use Rattle.std.specs.Option.{option_map}
use Rattle.envimage.specs.Data.{Pair, IsVariable}
use Rattle.envtools.specs.Importing.{with_imported}
use Rattle.envtools.proofs.EnvOf.{all-at}
use Rattle.envtools.proofs.ImportLemmas.{imported_next, none_blank_next, none_imported}
use Rattle.envtools.proofs.env.Env.imported.Goals as goal

pub returns-then-is_doubtful : goal.returns-then-is_doubtful
returns-then-is_doubtful c =
    let p : Pair = (c.unwrap.result.0.now, c.unwrap.result.1.now) in
    let there : slice_get c.args.self.now c.loop-place.place ≡ Some p =
    sym c.pair.ensures ∙ ap (option_map (λ p. (p.0.now, p.1.now))) c.unwrap.ensures in
    c.new.ensures ∙ none_imported c.args.self.now c.loop-place.place p there (sym c.if-is_doubtful.ensures)

pub import-requires : goal.import-requires
import-requires c =
    let p : Pair = (c.unwrap.result.0.now, c.unwrap.result.1.now) in
    let there : slice_get c.args.self.now c.loop-place.place ≡ Some p =
    sym c.pair.ensures ∙ ap (option_map (λ p. (p.0.now, p.1.now))) c.unwrap.ensures in
    all-at IsVariable c.args.self.now c.loop-place.place p c.allocator.ensures.each there

pub loop-place-preserved : goal.loop-place-preserved
loop-place-preserved c =
    let p : Pair = (c.unwrap.result.0.now, c.unwrap.result.1.now) in
    let there : slice_get c.args.self.now c.loop-place.place ≡ Some p =
    sym c.pair.ensures ∙ ap (option_map (λ p. (p.0.now, p.1.now))) c.unwrap.ensures in
    record {
      some = c.in_ok-import.ensures ∙ ap (λ env. with_imported env p) c.loop-place.invariant.some ∙ imported_next c.args.self.now c.loop-place.place p there;
      none = none_blank_next c.args.self.now c.loop-place.place p there c.loop-place.invariant.none (sym c.if-is_doubtful.ensures);
    }
