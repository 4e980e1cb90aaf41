-- The image that is made of a text.
use Rattle.std.proofs.Common.{◌≡◌, ◌∙◌, ℕ, List, None, Ok, ap}
use Rattle.envimage.specs.Data.{Pair}
use Rattle.envimage.specs.declared.image.ByteOrder.{ByteOrder}
use Rattle.envtools.proofs.ListLemmas.{env_of-distinct}
use Rattle.envtools.specs.Environment.{HasDistinctNames, env_of}
use Rattle.tool_images.specs.PrintingImages.{environment_in}
use Rattle.tool_images.specs.TextImages.{HasText, StandsFor}

-- an image of the text's environment means it
pub stands : (order : ByteOrder) (text image : List ℕ) (env : List Pair) → HasText text env → HasDistinctNames env → environment_in order image None ≡ Ok (env_of env) → StandsFor order text image
stands order text image env is distinct made = record { env = env; of_text = is; of_image = made ∙ ap Ok (env_of-distinct env distinct) }
