-- The environment that a rehearsal starts with: that of the image, as a board with this shell has it. Ours.
use Rattle.std.specs.Prelude.{◌≡◌, List, Result, Ok, Err}
use Rattle.envimage.specs.Data.{Pair}
use Rattle.envimage.specs.declared.image.ImageError.{ImageError}
use Rattle.envtools.specs.Importing.{imported}
use Rattle.rehearse_terms.specs.declared.shell.Shell.{Shell}
use Rattle.rehearse_terms.specs.declared.shell.Shell.TheVariants.{Profile, Old2023, Old2025, Modern2025}
use Rattle.tool_images.specs.PrintingImages.{Finds}

-- ubtool's own shell has the variables as they are stored, and a shell of U-Boot as U-Boot reads them
abbrev pub on_board : Shell → List Pair → List Pair
on_board Profile environment = environment
on_board Old2023 environment = imported environment
on_board Old2025 environment = imported environment
on_board Modern2025 environment = imported environment

-- the environment that was found, as the board has it, or why there is none
abbrev pub FindsOnBoard : Shell → (answer : Result (List Pair) ImageError) → Result (List Pair) ImageError → Type 0
FindsOnBoard shell answer (Ok board) = (environment : List Pair) × (answer ≡ Ok environment) × (board ≡ on_board shell environment)
FindsOnBoard shell answer (Err error) = Finds answer (Err error)
