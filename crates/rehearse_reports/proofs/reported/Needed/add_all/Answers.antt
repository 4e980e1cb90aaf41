use Rattle.std.proofs.Common.{◌≡◌, ◌∙◌, ◌∷◌, ◌++◌, List, length, sym, ap, subst, rules, arith}
use Rattle.std.proofs.Common.{append-nil}
use Rattle.rehearse_reads.specs.Keys as keys
use Rattle.rehearse_reports.specs.Reports.{AreAlike}
use Rattle.rehearse_reports.specs.ReportsShown.{key_shown, keys_shown, needed_shown}
use Rattle.rehearse_reports.specs.declared.key.Key.{Key}
use Rattle.rehearse_reports.proofs.FrontLemmas.{none_left, alike_itself, all_added, one_stepped}
use Rattle.rehearse_reports.proofs.reported.Needed.add_all.Goals as goal

pub loop-key-init : goal.loop-key-init
loop-key-init c =
    let start = needed_shown c.args.self.now ++ keys_shown c.args.keys.items in
    let items : c.into_iter-key-iterator.result.rest.items ≡ c.args.keys.items = search rules in
    let len : length c.into_iter-key-iterator.result.rest.items ≡ c.into_iter-key-iterator.result.rest.len = search rules in (
      subst (λ (ks : List Key). AreAlike start (needed_shown c.args.self.now ++ keys_shown ks)) (sym items) (alike_itself start),
      len,
    )

pub loop-key-preserved : goal.loop-key-preserved
loop-key-preserved c =
    let start = needed_shown c.args.self.now ++ keys_shown c.args.keys.items in
    let step : c.loop-key.key-iterator.rest.items ≡ c.in-Some.key ∷ c.next.new.self.rest.items = search rules in
    let steps = c.in-Some.ensures.steps in (
      one_stepped start c.loop-key.self.keys.keys c.in-Some.key c.insert.new.self.keys (keys_shown c.next.new.self.rest.items) c.in_ok-insert.ensures.keys
          (subst (λ (ks : List Key). AreAlike start (needed_shown c.loop-key.self ++ keys_shown ks)) step c.loop-key.invariant.0),
      omega (arith, ap length step, c.loop-key.invariant.1, steps.1),
    )

pub returns : goal.returns
returns c =
    let none = none_left c.loop-key.key-iterator.rest.items (c.loop-key.invariant.1 ∙ c.in-None.ensures.steps.0) in
    all_added (needed_shown c.args.self.now ++ keys_shown c.args.keys.items) (needed_shown c.loop-key.self) (keys_shown c.loop-key.key-iterator.rest.items) (ap keys_shown none) c.loop-key.invariant.0
