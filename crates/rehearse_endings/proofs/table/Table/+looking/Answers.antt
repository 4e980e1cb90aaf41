use Rattle.std.proofs.Common.{ap, sym, ◌∙◌, nat_eq, arith, refl}
use Rattle.std.specs.HashMap.{get}
use Rattle.rehearse_endings.specs.Indexed.{NoneBy, noted, places_in}
use Rattle.rehearse_endings.proofs.IndexLemmas.{all_in_all, all_more, all_ways, first_alone, no_first, none_beyond, none_by, none_from, none_in_none, none_too, nothing}
use Rattle.rehearse_endings.proofs.table.Table.+looking.Goals as goal

pub look-returns-in_default-get : goal.look-returns-in_default-get
look-returns-in_default-get g t c =
    let table = c.args.self.now in
    let m = (g.S.Store.record_of c.args.store.now).present in
    let number = c.loop-at.number in
    let at = c.loop-at.at in
    c.loop-at.invariant
    (none_from c.args.bounds.steps c.args.bounds.devices table m number at (nothing _ _ c.in_ok-found.field-0 c.in_default.is c.in_ok-found.ensures)
    (λ within. all_ways _ _ (NoneBy c.args.bounds.steps c.args.bounds.devices table m number at) (no_first (get nat_eq table.onward number) (NoneBy c.args.bounds.steps c.args.bounds.devices table m number at) (sym c.in_default-get.ensures.value)) (nothing _ _ c.in_ok-found-2.field-0 c.in_default-2.is c.in_ok-found-2.ensures)))

pub look-returns-in_default-number_behind : goal.look-returns-in_default-number_behind
look-returns-in_default-number_behind g t c =
    let table = c.args.self.now in
    let m = (g.S.Store.record_of c.args.store.now).present in
    let number = c.loop-at.number in
    let at = c.loop-at.at in
    let place = c.in-Some-get.place.now in
    c.loop-at.invariant
    (none_from c.args.bounds.steps c.args.bounds.devices table m number at (nothing _ _ c.in_ok-found.field-0 c.in_default.is c.in_ok-found.ensures)
    (λ within. all_ways _ _ (NoneBy c.args.bounds.steps c.args.bounds.devices table m number at) (first_alone (get nat_eq table.onward number) place (NoneBy c.args.bounds.steps c.args.bounds.devices table m number at) (sym c.in-Some-get.ensures.value) (none_beyond c.args.bounds.steps c.args.bounds.devices table m number at place c.number_behind.result c.number_behind.ensures c.in_default-number_behind.is)) (nothing _ _ c.in_ok-found-2.field-0 c.in_default-2.is c.in_ok-found-2.ensures)))

pub look-loop-at-preserved : goal.look-loop-at-preserved
look-loop-at-preserved g t c further =
    let table = c.args.self.now in
    let m = (g.S.Store.record_of c.args.store.now).present in
    let number = c.loop-at.number in
    let at = c.loop-at.at in
    let place = c.in-Some-get.place.now in
    c.loop-at.invariant
    (none_from c.args.bounds.steps c.args.bounds.devices table m number at (nothing _ _ c.in_ok-found.field-0 c.in_default.is c.in_ok-found.ensures)
    (λ within. all_ways _ _ (NoneBy c.args.bounds.steps c.args.bounds.devices table m number at) (first_alone (get nat_eq table.onward number) place (NoneBy c.args.bounds.steps c.args.bounds.devices table m number at) (sym c.in-Some-get.ensures.value) (none_by c.args.bounds.steps c.args.bounds.devices table m number at place c.in-Some-number_behind.next c.number_behind.result c.number_behind.ensures c.in-Some-number_behind.is further)) (nothing _ _ c.in_ok-found-2.field-0 c.in_default-2.is c.in_ok-found-2.ensures)))

pub look-returns : goal.look-returns
look-returns g t c =
    let table = c.args.self.now in
    let m = (g.S.Store.record_of c.args.store.now).present in
    let past = c.loop-at-test.false in
    none_too _ _ _ c.in_ok-found-3.found (λ here. c.loop-at.invariant (none_from c.args.bounds.steps c.args.bounds.devices table m c.loop-at.number c.loop-at.at here (λ within. absurd (omega arith)))) c.in_ok-found-3.ensures

pub look_aside-returns-in_default : goal.look_aside-returns-in_default
look_aside-returns-in_default g t c = none_in_none (NoneBy c.args.bounds.steps c.args.bounds.devices c.args.self.now (g.S.Store.record_of c.args.store.now).present c.args.number c.args.at) (noted c.args.self.now.forks c.args.number) (ap places_in (sym c.in_default.ensures.value))

pub look_aside-loop-place-preserved : goal.look_aside-loop-place-preserved
look_aside-loop-place-preserved g t c = all_more (NoneBy c.args.bounds.steps c.args.bounds.devices c.args.self.now (g.S.Store.record_of c.args.store.now).present c.args.number c.args.at) c.deref-place-items.result.now c.loop-place.place-index 0 c.loop-place-test.true c.loop-place.invariant
    (nothing _ _ c.in_ok-found.field-0 c.in_default-2.is c.in_ok-found.ensures)

pub look_aside-returns : goal.look_aside-returns
look_aside-returns g t c = all_in_all (NoneBy c.args.bounds.steps c.args.bounds.devices c.args.self.now (g.S.Store.record_of c.args.store.now).present c.args.number c.args.at) c.deref-place-items.result.now (noted c.args.self.now.forks c.args.number) c.loop-place.place-index c.loop-place-test.false (c.deref-place-items.ensures.value ∙ ap places_in c.in-Some.ensures.value) c.loop-place.invariant

pub look_behind-returns-in_default : goal.look_behind-returns-in_default
look_behind-returns-in_default g t c = none_beyond c.args.bounds.steps c.args.bounds.devices c.args.self.now (g.S.Store.record_of c.args.store.now).present c.args.number c.args.at c.args.place c.number_behind.result c.number_behind.ensures c.in_default.is

pub look_behind-returns : goal.look_behind-returns
look_behind-returns g t c =
    none_too _ _ _ c.in_ok-found.found (λ further. none_by c.args.bounds.steps c.args.bounds.devices c.args.self.now (g.S.Store.record_of c.args.store.now).present c.args.number c.args.at c.args.place c.in-Some.next c.number_behind.result c.number_behind.ensures c.in-Some.is further) c.in_ok-found.ensures
