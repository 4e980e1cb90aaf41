use Rattle.std.proofs.Common.{List, ℕ, subst, string_bytes}
use Rattle.envimage.specs.Config.{places}
use Rattle.tool_steps.specs.Images.{Names}
use Rattle.tool_steps.proofs.ReadingLemmas.{IfTold-weaker, places-told}
use Rattle.tool_steps.proofs.images.read_places.Goals as goal

pub returns-clause-told : goal.returns-clause-told
returns-clause-told g c =
    let a = g.F.Files.told c.args.files.now in
    let b = g.F.Files.told c.read_text.new.files in
    let config = string_bytes c.args.config in
    let named = c.places_in.result in
    let P : List ℕ → Type 0 = λ text. Names (places text) named in
    let names : P c.in_ok-text.text.items = subst P c.deref.ensures.value c.places_in.ensures.named in
    IfTold-weaker a b (λ x y h. places-told config c.in_ok-text.text.items x y named h names) c.in_ok-text.ensures.told
