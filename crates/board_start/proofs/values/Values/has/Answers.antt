use Rattle.std.proofs.Common.{◌≡◌, ◌||◌, ◌∙◌, ap, sym, false, List}
use Rattle.std.specs.List.{list_any}
use Rattle.std.specs.Str.{bytes_eq}
use Rattle.commands.proofs.ComputedLemmas.{any_text}
use Rattle.commands.specs.TextsShown.{texts}
use Rattle.device_list.specs.DevicesShown.{Bytes}
use Rattle.board_start.proofs.values.Values.has.Goals as goal

pub returns-else-eq : goal.returns-else-eq
returns-else-eq c =
    let value = c.args.value.now in
    let others = c.args.self.now.others.items in
    let first : false ≡ bytes_eq value c.args.self.now.first.items = sym c.if-eq.false ∙ c.eq.ensures ∙ ap (bytes_eq value) c.as_slice.ensures.value in
    c.is_among.ensures
    ∙ ap (λ (names : List Bytes). list_any (λ one. bytes_eq value one.items) names) c.deref.ensures.value
    ∙ any_text value others
    ∙ ap (λ b. b || list_any (bytes_eq value) (texts others)) first
