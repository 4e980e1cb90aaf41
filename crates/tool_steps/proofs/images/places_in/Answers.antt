use Rattle.std.proofs.Common.{arith, ◌+◌, ◌∙◌, ◌≡◌, length, sym}
use Rattle.tool_steps.proofs.PlaceLemmas.{places-named}
use Rattle.tool_steps.proofs.images.places_in.Goals as goal

pub returns-clause-named : goal.returns-clause-named
returns-clause-named c =
    let e = sym c.into_iter-places.ensures.rest ∙ c.in-Some.ensures.items in
    places-named c.args.text.now c.in-Ok.places.items c.next.new.self.rest.items c.next-2.new.self.rest.items c.in-Some.first c.next-2.result c.in-Ok.ensures e c.next-2.ensures.items
    (λ none.
    let n = c.next-2.ensures.cases in
    let m = rw none at n in
    let k : length c.in-Ok.places.items ≡ length c.next.new.self.rest.items + 1 = rw (sym c.into_iter-places.ensures.rest, c.in-Some.ensures.items) (omega arith) in
    let l = c.into_iter-places.ensures.len in
    omega (arith, m.0, k, c.into_iter-places.ensures.len, c.in-Some.ensures.len))
