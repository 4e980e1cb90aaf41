use Rattle.std.proofs.Common.{◌∙◌, ◌≡◌, ap, subst, nat_eq, reverse, ℕ, Err}
use Rattle.std.proofs.lemmas.Result.{err_from_is_err_and}
use Rattle.rehearse_endings.proofs.BelowLemmas.{number_so, top_is}
use Rattle.rehearse_reports.specs.ReportsShown.{keys_shown}
use Rattle.rehearse_endings.specs.Held.{HasNoRoom}
use Rattle.rehearse_endings.specs.Searching.{IsKept}
use Rattle.rehearse_endings.specs.declared.sum_error.SumError.{SumError}
use Rattle.rehearse_endings.specs.declared.sum_error.SumError.TheVariants.{Bytes}
use Rattle.rehearse_endings.proofs.EnteredStateLemmas.{passed_on}
use Rattle.rehearse_endings.proofs.HeldLemmas.{no_room}
use Rattle.rehearse_endings.proofs.searching.keep.Goals as goal

pub keep-requires : goal.keep-requires
keep-requires g c = c.number_of-place.ensures ∙ number_so c.deref-2.result.now c.in_ok-frames.frames.items c.deref-2.ensures.value

pub returns-clause-kept : goal.returns-clause-kept
returns-clause-kept g c =
    record {
      left = c.in_ok-frames.frames.items;
      known = c.in_ok-known.known.items;
      frames = ap reverse (c.in_ok-frames.ensures ∙ c.split_at.ensures.back) ∙ top_is c.args.below c.frames.result.now (g.S.Store.record_of c.args.store.now).present.frames c.frames.ensures c.requires;
      holds = c.in_ok-known.ensures.hold;
      same = c.in_ok-known.ensures.keys;
      kept =
          subst (λ (steps : ℕ). IsKept c.args.table.now.entries.items c.keep.new.self.entries.items c.in_ok-frames.frames.items (nat_eq c.args.below 0) c.in_ok-known.known.items steps c.args.devices c.args.summary)
          c.steps.ensures c.in_ok-keep.ensures.kept;
    }

pub returns-in_err-keep-clause-full : goal.returns-in_err-keep-clause-full
returns-in_err-keep-clause-full g c = λ count.
    let m = (g.S.Store.record_of c.args.store.now).present in
    let keys = keys_shown c.args.keys.items in
    let room = c.args.table.now.room in
    let error = err_from_is_err_and c.from_residual-in_err-keep.result c.from_residual-in_err-keep.ensures.1 in
    passed_on (λ (x : SumError). x ≡ Bytes count → HasNoRoom room c.args.below m keys) c.from_residual-in_err-keep.result c.in_err-keep.field-0.0 (error.1 ∙ ap Err error.2)
    (λ is. no_room room c.args.below m keys c.in_ok-frames.frames.items c.in_ok-known.known.items (ap reverse (c.in_ok-frames.ensures ∙ c.split_at.ensures.back) ∙ top_is c.args.below c.frames.result.now m.frames c.frames.ensures c.requires) c.in_ok-known.ensures.hold c.in_ok-known.ensures.keys (c.in_err-keep.ensures.full count is))

-- it was refused for that, with the number that the table has
pub returns-in_err-keep-clause-counted : goal.returns-in_err-keep-clause-counted
returns-in_err-keep-clause-counted g c = λ count.
    let visited = c.args.table.now.visited in
    let error = err_from_is_err_and c.from_residual-in_err-keep.result c.from_residual-in_err-keep.ensures.1 in
    passed_on (λ (x : SumError). x ≡ Bytes count → count ≡ visited) c.from_residual-in_err-keep.result c.in_err-keep.field-0.0 (error.1 ∙ ap Err error.2)
    (λ is. let told = (c.in_err-keep.ensures.limit (c.in_err-keep.ensures.full count is)).0 in cc)
