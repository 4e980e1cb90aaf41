use Rattle.std.proofs.Common.{◌≡◌, ◌∙◌, ℕ, ltb, ap, sym, Bool, false, Option, Some, None, length}
use Rattle.std.proofs.lemmas.List.{length-map}
use Rattle.commands.specs.TextsShown.{texts}
use Rattle.board_start.specs.Start.{Values}
use Rattle.board_start.specs.StartShown.{values_shown}
use Rattle.device_list.proofs.MapLemmas.{looked_up}
use Rattle.board_start.proofs.values.varies.Goals as goal

-- whether a table has several values of a name
abbrev has_several : Option Values → Bool
has_several found = elim found [ None ↦ false | Some values ↦ ltb 0 (length values.others) ]

pub returns-in-Some : goal.returns-in-Some
returns-in-Some c =
    let found = looked_up values_shown c.args.givens.now.entries c.args.name.now (Some c.in-Some.values.now) (sym c.in-Some.ensures.value) in
    let n : c.len.result ≡ length (texts c.in-Some.values.now.others.items) = c.len.ensures ∙ c.in-Some.values.now.others.ok.0 ∙ sym (length-map c.in-Some.values.now.others.items (λ w. w.items)) in
    ap (λ (k : ℕ). ltb 0 k) n ∙ sym (ap has_several found)

pub returns-in-None : goal.returns-in-None
returns-in-None c =
    let gone = looked_up values_shown c.args.givens.now.entries c.args.name.now None (sym c.in-None.ensures.value) in
    sym (ap has_several gone)
