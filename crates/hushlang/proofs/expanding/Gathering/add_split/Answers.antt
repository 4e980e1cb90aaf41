use Rattle.std.proofs.Common.{◌≡◌, ◌∙◌, ◌<◌, OnOk, IfErr, map, sym, ap, subst}
use Rattle.hushlang.specs.Expansion.{value_of, split_atom, most_bytes}
use Rattle.hushlang.specs.Splitting.{fields_so_far, gathered_size, with_atoms, AreCutAlike, AreShort}
use Rattle.hushlang.specs.declared.expanding.ExpandError.TheVariants.{TooLong}
use Rattle.hushlang.proofs.ShortValues.{Entries, short_found, short_added}
use Rattle.hushlang.proofs.expanding.Gathering.add_split.Goals as goal

pub returns-in-Some-clause-added : goal.returns-in-Some-clause-added
returns-in-Some-clause-added g c =
    let parameters = g.V.Vars.parameters c.args.vars.now in
    let now = fields_so_far c.args.self.now in
    let short = short_found parameters c.args.values.now.entries c.args.name.now c.in-Some.short.now c.requires.short c.in-Some.ensures.value in
    let same = ap (λ value. with_atoms now (map split_atom value)) c.deref.ensures.value ∙ sym (short.0 now) in
    subst (λ all. OnOk c.split.result (fields_so_far c.split.new.self ≡ all)) same c.split.ensures.added

pub returns-in-Some-clause-too_long : goal.returns-in-Some-clause-too_long
returns-in-Some-clause-too_long g c =
    let parameters = g.V.Vars.parameters c.args.vars.now in
    let now = fields_so_far c.args.self.now in
    let short = short_found parameters c.args.values.now.entries c.args.name.now c.in-Some.short.now c.requires.short c.in-Some.ensures.value in
    let same = ap (λ value. with_atoms now (map split_atom value)) c.deref.ensures.value ∙ sym (short.0 now) in
    subst (λ all. IfErr c.split.result (λ error. error ≡ TooLong → most_bytes < gathered_size all)) same c.split.ensures.too_long

pub returns-clause-short : goal.returns-clause-short
returns-clause-short g c =
    let parameters = g.V.Vars.parameters c.args.vars.now in
    let key = c.in_ok-from_slice.field-0 in
    let short = c.in_ok-short.short in
    let value = c.value_of-value.ensures ∙ sym (ap (value_of parameters) c.in_ok-from_slice.ensures.items) in
    let alike = subst (λ v. AreCutAlike v short.items) value c.in_ok-short.ensures.alike in
    subst (λ (entries : Entries). AreShort parameters entries) (sym c.in_ok-insert.ensures.entries)
    (short_added parameters c.args.values.now.entries key short c.requires.short (alike, c.in_ok-short.ensures.brief))
