use Rattle.std.proofs.Common.{◌≡◌, ◌∙◌, None, Some, map, ap, sym, subst, arith, List}
use Rattle.std.specs.Prelude.{OnOk}
use Rattle.envimage.specs.Data.{Pair}
use Rattle.envimage.specs.Entries.{pair_at}
use Rattle.envtools.specs.Drafting.{place_of}
use Rattle.envtools.specs.Environment.{assigned, value_of}
use Rattle.envtools.proofs.DraftLemmas.{assigned-absent, assigned-written, IsDraft-assigned, place-there, value-none}
use Rattle.envtools.proofs.draft.Draft.assign.Goals as goal

pub returns-in_default-clause-ok : goal.returns-in_default-clause-ok
returns-in_default-clause-ok c =
    let none : value_of c.args.self.now c.args.name.now ≡ None =
    ap (λ ps. value_of ps c.args.name.now) (sym c.self.view_is)
    ∙ value-none (place_of c.self.inside.places.entries) c.args.name.now (sym c.place_of.ensures ∙ c.in_default.is) 0 (map pair_at c.self.inside.written.items) in
    let P : List Pair → Type 0 = λ ps. OnOk c.put.result (c.put.new.self ≡ ps) in
    subst P (sym (assigned-absent c.args.self.now c.args.name.now c.args.value.now none)) c.put.ensures.ok

pub index_mut-requires : goal.index_mut-requires
index_mut-requires c =
    let within = place-there (place_of c.self.inside.places.entries) c.self.inside.written.items c.args.name.now c.in-Some.place c.self.invariant (sym c.place_of.ensures ∙ c.in-Some.is) in
    let len = c.self.inside.written.ok in
    omega (arith, within, len)

pub invariant_of-self : goal.invariant_of-self
invariant_of-self c =
    IsDraft-assigned (place_of c.self.inside.places.entries) c.self.inside.written.items c.args.name c.args.value c.in-Some.place c.self.invariant (sym c.place_of.ensures ∙ c.in-Some.is) c.requires

pub returns-clause-ok : goal.returns-clause-ok
returns-clause-ok c =
    assigned-written (place_of c.self.inside.places.entries) c.self.inside.written.items c.args.name c.args.value c.in-Some.place c.self.invariant (sym c.place_of.ensures ∙ c.in-Some.is)
    ∙ ap (λ ps. assigned ps c.args.name.now c.args.value.now) c.self.view_is
