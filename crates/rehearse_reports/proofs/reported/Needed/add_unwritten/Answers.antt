use Rattle.std.proofs.Common.{◌≡◌, ◌∙◌, ◌∷◌, ◌++◌, List, length, sym, ap, subst, rules, arith}
use Rattle.rehearse_reports.specs.Reports.{AreAlike, unwritten}
use Rattle.rehearse_reports.specs.ReportsShown.{key_shown, keys_shown, needed_shown}
use Rattle.rehearse_reports.specs.declared.key.Key.{Key}
use Rattle.rehearse_reports.proofs.FrontLemmas.{none_left, none_unwritten, alike_itself, alike_then, all_added}
use Rattle.rehearse_reports.proofs.reported.Needed.add_unwritten.Goals as goal

pub loop-key-init : goal.loop-key-init
loop-key-init c =
    let written = keys_shown c.args.written.now.keys in
    let start = needed_shown c.args.self.now ++ unwritten written (keys_shown c.args.keys.items) in
    let items : c.into_iter-key-iterator.result.rest.items ≡ c.args.keys.items = search rules in
    let len : length c.into_iter-key-iterator.result.rest.items ≡ c.into_iter-key-iterator.result.rest.len = search rules in (
      subst (λ (ks : List Key). AreAlike start (needed_shown c.args.self.now ++ unwritten written (keys_shown ks))) (sym items) (alike_itself start),
      len,
    )

pub loop-key-preserved : goal.loop-key-preserved
loop-key-preserved c =
    let written = keys_shown c.args.written.now.keys in
    let start = needed_shown c.args.self.now ++ unwritten written (keys_shown c.args.keys.items) in
    let step : c.loop-key.key-iterator.rest.items ≡ c.in-Some.key ∷ c.next.new.self.rest.items = search rules in
    let rest = keys_shown c.next.new.self.rest.items in
    let steps = c.in-Some.ensures.steps in (
      alike_then start (needed_shown c.loop-key.self ++ unwritten written (key_shown c.in-Some.key ∷ rest)) (needed_shown c.add.new.self ++ unwritten written rest)
          (subst (λ (ks : List Key). AreAlike start (needed_shown c.loop-key.self ++ unwritten written (keys_shown ks))) step c.loop-key.invariant.0)
          (c.in_ok-add.ensures rest),
      omega (arith, ap length step, c.loop-key.invariant.1, steps.1),
    )

pub returns : goal.returns
returns c =
    let written = keys_shown c.args.written.now.keys in
    let none = none_left c.loop-key.key-iterator.rest.items (c.loop-key.invariant.1 ∙ c.in-None.ensures.steps.0) in
    all_added (needed_shown c.args.self.now ++ unwritten written (keys_shown c.args.keys.items)) (needed_shown c.loop-key.self) (unwritten written (keys_shown c.loop-key.key-iterator.rest.items))
    (ap (λ (ks : List Key). unwritten written (keys_shown ks)) none ∙ none_unwritten written) c.loop-key.invariant.0
