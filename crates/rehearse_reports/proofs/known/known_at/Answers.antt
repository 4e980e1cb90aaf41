use Rattle.std.proofs.Common.{◌≡◌, ◌∙◌, [], ◌∷◌, ◌++◌, List, length, sym, ap, subst, rules, arith}
use Rattle.rehearse_reports.specs.declared.known.Known.{Known}
use Rattle.rehearse_reports.specs.ReportsShown.{keys_shown}
use Rattle.rehearse_reports.specs.Known.{keys_of, AllHold}
use Rattle.rehearse_reports.proofs.FrontLemmas.{none_left}
use Rattle.rehearse_reports.proofs.KnownLemmas.{hold_more, known_next, known_all}
use Rattle.rehearse_reports.proofs.known.known_at.Goals as goal

pub loop-key-init : goal.loop-key-init
loop-key-init g c =
    let m = (g.S.Store.record_of c.args.store.now).present in
    let items : c.into_iter-key-iterator.result.rest.items ≡ c.args.keys.items = search rules in
    let len : length c.into_iter-key-iterator.result.rest.items ≡ c.into_iter-key-iterator.result.rest.len = search rules in (
      ap (λ (ks : List Known). keys_of ks ++ keys_shown c.into_iter-key-iterator.result.rest.items) c.new-known.ensures.items ∙ ap keys_shown items,
      subst (AllHold m) (sym c.new-known.ensures.items) tt,
      len,
    )

pub loop-key-preserved : goal.loop-key-preserved
loop-key-preserved g c =
    let m = (g.S.Store.record_of c.args.store.now).present in
    let known = c.in_ok-at.field-0 in
    let step : c.loop-key.key-iterator.rest.items ≡ c.in-Some.key ∷ c.next.new.self.rest.items = search rules in
    let steps = c.in-Some.ensures.steps in (
      known_next c.loop-key.known.items c.push.new.self.items c.in-Some.key c.next.new.self.rest.items (keys_shown c.args.keys.items) known c.in_ok-push.ensures.items c.in_ok-at.ensures.key
          (subst (λ ks. keys_of c.loop-key.known.items ++ keys_shown ks ≡ keys_shown c.args.keys.items) step c.loop-key.invariant.0),
      subst (AllHold m) (sym c.in_ok-push.ensures.items) (hold_more m c.loop-key.known.items (known ∷ []) c.loop-key.invariant.1 (c.in_ok-at.ensures.holds, tt)),
      omega (arith, ap length step, c.loop-key.invariant.2, steps.1),
    )

pub returns-clause-keys : goal.returns-clause-keys
returns-clause-keys g c =
    let none = none_left c.loop-key.key-iterator.rest.items (c.loop-key.invariant.2 ∙ c.in-None.ensures.steps.0) in
    known_all c.loop-key.known.items c.loop-key.key-iterator.rest.items (keys_shown c.args.keys.items) none c.loop-key.invariant.0

pub returns-clause-hold : goal.returns-clause-hold
returns-clause-hold g c = c.loop-key.invariant.1
