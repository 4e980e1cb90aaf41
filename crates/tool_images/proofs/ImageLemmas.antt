-- The environment of an image that was loaded.
use Rattle.std.proofs.Common.{◌≡◌, ℕ, refl, List, Option, Ok}
use Rattle.envimage.specs.Data.{Pair, pairs_of}
use Rattle.envimage.specs.Image.{LoadedShown, load_of}
use Rattle.envimage.specs.declared.image.ByteOrder.{ByteOrder}
use Rattle.envtools.specs.Environment.{env_of}
use Rattle.tool_images.specs.PrintingImages.{environment_in}

pub image-env : (order : ByteOrder) (first : List ℕ) (second : Option (List ℕ)) (s : LoadedShown) (environment : List Pair) → load_of order first second ≡ Ok s → environment ≡ env_of (pairs_of s.body)
    → environment_in order first second ≡ Ok environment
image-env order first second s environment e h = rw (e, h) refl
