use Rattle.std.proofs.Common.{◌≡◌, ◌<◌, length, map, get_or, ap, sym, ◌∙◌, None, Some, true}
use Rattle.std.specs.Prelude.{is_some, slice_get}
use Rattle.std.proofs.lemmas.Bool.{false≢true}
use Rattle.envtools.specs.Environment.{value_of}
use Rattle.envtools.specs.Drafting.{place_of}
use Rattle.envimage.specs.Entries.{pair_at}
use Rattle.envtools.proofs.ListLemmas.{get-mapped}
use Rattle.envtools.proofs.DraftLemmas.{value-none, value-found, place-there}
use Rattle.envtools.proofs.draft.Draft.get.Goals as goal

pub returns-in_err-place : goal.returns-in_err-place
returns-in_err-place c =
    let none : value_of c.args.self.now c.args.name.now ≡ None =
    ap (λ ps. value_of ps c.args.name.now) (sym c.self.view_is)
    ∙ value-none (place_of c.self.inside.places.entries) c.args.name.now (sym c.place_of.ensures ∙ c.in_err-place.was) 0 (map pair_at c.self.inside.written.items) in
    rw c.from_residual.ensures (sym none)

pub returns-in_err-value : goal.returns-in_err-value
returns-in_err-value c =
    let items = c.self.inside.written.items in
    let within : c.in_ok-place.place < length items =
    place-there (place_of c.self.inside.places.entries) items c.args.name.now c.in_ok-place.place c.self.invariant (sym c.place_of.ensures ∙ c.in_ok-place.was) in
    let one : c.deref.result.now ≡ items = c.deref.ensures.value in
    let some : is_some c.get.result ≡ true = c.get.ensures.lookup.2 (rw one within) in
    absurd (false≢true (sym (ap is_some c.in_err-value.was) ∙ some))

pub returns : goal.returns
returns c =
    let items = c.self.inside.written.items in
    let placed = sym c.place_of.ensures ∙ c.in_ok-place.was in
    let within : c.in_ok-place.place < length items =
    place-there (place_of c.self.inside.places.entries) items c.args.name.now c.in_ok-place.place c.self.invariant placed in
    let e = c.in_ok-value.field-0.now in
    let is : e ≡ get_or items c.in_ok-place.place e =
    c.in_ok-value.ensures.lookup.1 ∙ ap (λ xs. get_or xs c.in_ok-place.place e) c.deref.ensures.value in
    let there : slice_get (map pair_at items) c.in_ok-place.place ≡ Some (pair_at e) = get-mapped items c.in_ok-place.place e _ within is in
    sym (value-found (place_of c.self.inside.places.entries) (map pair_at items) c.args.name.now c.in_ok-place.place (pair_at e) c.self.invariant placed there)
    ∙ ap (λ ps. value_of ps c.args.name.now) c.self.view_is
