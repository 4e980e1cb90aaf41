use Rattle.std.proofs.Common.{List, subst, rules, ◌≡◌, true}
use Rattle.envimage.specs.Data.{Pair}
use Rattle.envtools.specs.Environment.{IsEnvironment}
use Rattle.tool_images.proofs.NewImageLemmas.{of-text}
use Rattle.tool_images.proofs.new_image.new_image_of_text.Goals as goal
use Rattle.tool_images.specs.NewImages.{is_size_of}

-- the image has its size, and is read back
pub returns-in-Ok-image_of : goal.returns-in-Ok-image_of
returns-in-Ok-image_of c =
    let env : IsEnvironment c.in-Ok.env = subst (λ (env : List Pair). IsEnvironment env) c.env.view_is c.env.invariant in
    let size : is_size_of c.args.layout ≡ true = search rules in
    (size, of-text c.args.layout c.args.text.now c.in-Ok-image_of.image.items c.in-Ok.env env c.in-Ok.ensures size c.in-Ok-image_of.ensures.0 c.in-Ok-image_of.ensures.1)
