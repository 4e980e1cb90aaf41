use Rattle.std.proofs.Common.{List, subst}
use Rattle.envimage.specs.Data.{Pair}
use Rattle.envtools.specs.Environment.{HasDistinctNames}
use Rattle.tool_images.proofs.TextLemmas.{stands}
use Rattle.tool_images.proofs.text_image.image_of_text.Goals as goal

pub returns-in-Ok-image_of : goal.returns-in-Ok-image_of
returns-in-Ok-image_of c =
    let P : List Pair → Type 0 = λ env. HasDistinctNames env in
    let distinct : P c.in-Ok.env = subst P c.env.view_is c.env.invariant.distinct in
    stands c.args.order c.args.text.now c.in-Ok-image_of.image.items c.in-Ok.env c.in-Ok.ensures distinct c.in-Ok-image_of.ensures.image
