use Rattle.std.proofs.Common.{ℕ, ap, sym, ◌∙◌, get_or}
use Rattle.rehearse_reuse.specs.SummedRuns.{moved_by}
use Rattle.rehearse_states.specs.RowsShown.{summary_with}
use Rattle.rehearse_endings.specs.Indexed.{FitsNot, IsTaken, noted, places_in}
use Rattle.rehearse_endings.proofs.IndexLemmas.{all_in_all, all_more, none_in_none}
use Rattle.rehearse_endings.proofs.table.Table.find_alike.Goals as goal

pub returns-in_default : goal.returns-in_default
returns-in_default g c = none_in_none (FitsNot c.args.bounds.steps c.args.bounds.devices c.args.self.now.entries.items (g.S.Store.record_of c.args.store.now).present) (noted c.args.self.now.alike c.args.number) (ap places_in (sym c.in_default.ensures.value))

pub loop-place-preserved : goal.loop-place-preserved
loop-place-preserved g c = all_more (FitsNot c.args.bounds.steps c.args.bounds.devices c.args.self.now.entries.items (g.S.Store.record_of c.args.store.now).present) c.deref-place-items.result.now c.loop-place.place-index 0 c.loop-place-test.true c.loop-place.invariant c.in_default-fitting.ensures

pub returns : goal.returns
returns g c = all_in_all (FitsNot c.args.bounds.steps c.args.bounds.devices c.args.self.now.entries.items (g.S.Store.record_of c.args.store.now).present) c.deref-place-items.result.now (noted c.args.self.now.alike c.args.number) c.loop-place.place-index c.loop-place-test.false (c.deref-place-items.ensures.value ∙ ap places_in c.in-Some.ensures.value) c.loop-place.invariant

pub returns-in-Some-fitting : goal.returns-in-Some-fitting
returns-in-Some-fitting g c =
    let m = (g.S.Store.record_of c.args.store.now).present in
    let e = c.in-Some-fitting.entry.now in
    let taken : IsTaken e m c.in_ok-found.found = record {
      sums = λ rows.
          c.in_ok-found.ensures.sums rows
          ∙ ap (λ (n : ℕ). moved_by e.steps n e.devices c.args.depth (summary_with rows e.summary)) c.steps.ensures
          ∙ ap (λ (n : ℕ). moved_by e.steps m.steps e.devices n (summary_with rows e.summary)) (sym c.requires);
      node = c.in_ok-found.ensures.node;
      place = c.in_ok-found.ensures.place;
      keys = c.in_ok-found.ensures.keys;
      below = c.in_ok-found.ensures.below ∙ c.below_entry-below.ensures;
    } in
    (get_or c.deref-place-items.result.now c.loop-place.place-index 0, e, c.in-Some-fitting.ensures.0, c.in-Some-fitting.ensures.1, taken)
