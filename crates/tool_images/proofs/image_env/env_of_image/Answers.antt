use Rattle.std.proofs.Common.{refl}
use Rattle.std.specs.Option.{option_copied}
use Rattle.envimage.specs.Data.{pairs_of}
use Rattle.envimage.specs.Image.{loaded_shown}
use Rattle.envtools.specs.Environment.{env_of}
use Rattle.tool_images.proofs.ImageLemmas.{image-env}
use Rattle.tool_images.proofs.image_env.env_of_image.Goals as goal

-- data without a fault is refused only if memory runs out
pub returns-in-Err : goal.returns-in-Err
returns-in-Err c =
    let s = loaded_shown c.in_ok-loaded.loaded in
    let environment = env_of (pairs_of s.body) in
    (environment, image-env c.args.order c.args.first.now (option_copied c.args.second) s environment c.in_ok-loaded.ensures.answer refl)
