use Rattle.std.proofs.Common.{◌∙◌, ◌<◌, sym, subst, arith, get_or}
use Rattle.std.proofs.lemmas.Result.{err_from_is_err_and}
use Rattle.hushlang.specs.Expansion.{Atom, split_atom, most_bytes}
use Rattle.hushlang.specs.Splitting.{fields_so_far, gathered_size, with_atom}
use Rattle.hushlang.proofs.ExpandLemmas.{over_by_atom, split_atom-kept}
use Rattle.hushlang.proofs.expanding.Gathering.split.Goals as goal

pub returns-in_err-keep-clause-too_long : goal.returns-in_err-keep-clause-too_long
returns-in_err-keep-clause-too_long c =
    let p = err_from_is_err_and c.from_residual-in_err-keep.result c.from_residual-in_err-keep.ensures.1 in
    let byte = get_or c.args.value.now c.loop-byte.byte-index 0 in
    let kept = split_atom-kept byte (sym c.separates.ensures ∙ c.if-separates.false) in
    let Over : Atom → Type 0 = λ atom. most_bytes < gathered_size (with_atom (fields_so_far c.loop-byte.self) atom) in
    rw (p.1, p.2) (λ is. over_by_atom split_atom _ _ c.args.value.now c.loop-byte.byte-index 0 (omega arith) c.loop-byte.invariant.same (subst Over (sym kept) (c.in_err-keep.ensures.too_long is)))
