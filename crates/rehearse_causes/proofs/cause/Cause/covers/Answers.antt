use Rattle.std.proofs.Common.{◌≡◌, ◌∙◌, ap, sym, subst, List, Bool, true, ◌&&◌, map, nat_le}
use Rattle.std.specs.List.{list_all}
use Rattle.std.proofs.lemmas.List.Folds.{list_all-map}
use Rattle.rehearse_terms.specs.State.{LoggedCommand, Text}
use Rattle.rehearse_rules.specs.EndingsShown.{halt_shown}
use Rattle.rehearse_states.specs.Endings.{ending_eq}
use Rattle.rehearse_causes.specs.Causes.{Cause, are_among, calls, covers, times}
use Rattle.rehearse_causes.proofs.CoveringLemmas.{words_of_answers}
use Rattle.rehearse_causes.proofs.cause.Cause.covers.Goals as goal

pub returns-then-same_halt : goal.returns-then-same_halt
returns-then-same_halt c =
    let one : Cause = record { ending = halt_shown c.self.inside.halt; fails = map (λ e. (e.success, e.words)) c.self.inside.fails.items } in
    let other : Cause = record { ending = halt_shown c.other.inside.halt; fails = map (λ e. (e.success, e.words)) c.other.inside.fails.items } in
    let same : ending_eq one.ending other.ending ≡ true = sym c.same_halt.ensures ∙ c.if-same_halt.true in
    let tested : (fewer more : List LoggedCommand) → list_all (λ e. nat_le (times e.words (map (λ e. e.words) fewer)) (times e.words (map (λ e. e.words) more))) fewer ≡ are_among (map (λ e. e.words) fewer) (map (λ e. e.words) more) =
    λ fewer more. sym (list_all-map (λ (c : List Text). nat_le (times c (map (λ e. e.words) fewer)) (times c (map (λ e. e.words) more))) (λ (e : LoggedCommand). e.words) fewer) in
    let here : map (λ e. e.words) c.self.inside.fails.items ≡ calls one = sym (words_of_answers c.self.inside.fails.items) in
    let there : map (λ e. e.words) c.other.inside.fails.items ≡ calls other = sym (words_of_answers c.other.inside.fails.items) in
    let among : c.are_among.result ≡ are_among (calls one) (calls other) =
    c.are_among.ensures ∙ tested c.deref.result.now c.deref-then-same_halt.result.now
    ∙ ap (λ (es : List LoggedCommand). are_among (map (λ e. e.words) es) (map (λ e. e.words) c.deref-then-same_halt.result.now)) c.deref.ensures.value
    ∙ ap (λ (es : List LoggedCommand). are_among (map (λ e. e.words) c.self.inside.fails.items) (map (λ e. e.words) es)) c.deref-then-same_halt.ensures.value
    ∙ (λ i. are_among (here i) (there i)) in
    let base : c.are_among.result ≡ covers one other = among ∙ ap (λ (b : Bool). b && are_among (calls one) (calls other)) (sym same) in
    subst (λ (x : Cause). c.are_among.result ≡ covers x c.args.other.now) c.self.view_is
    (subst (λ (y : Cause). c.are_among.result ≡ covers one y) c.other.view_is base)
