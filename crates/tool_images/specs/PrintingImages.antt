-- What printing an image writes and answers.
use Rattle.std.specs.Prelude.{◌≡◌, ℕ, Bool, List, Option, Result, Ok, Err}
use Rattle.envimage.specs.Data.{Pair, pairs_of}
use Rattle.envimage.specs.Image.{LoadedShown, load_of}
use Rattle.output.specs.Sink.{Wrote}
use Rattle.output.specs.Outputs.{AreUnchanged, BreaksEither, Outputs}
use Rattle.envimage.specs.declared.image.ByteOrder.{ByteOrder}
use Rattle.envimage.specs.declared.image.ImageError.{ImageError}
use Rattle.envimage.specs.declared.image.ImageError.TheVariants as image
use Rattle.envtools.specs.Environment.{env_of}
use Rattle.envtools.specs.Printing.{printed_output, printed_errors, all_found}
use Rattle.envtools.specs.declared.print_form.PrintForm.{PrintForm}
use Rattle.tool_images.specs.declared.error.ToolError.{ToolError}
use Rattle.tool_images.specs.declared.error.ToolError.TheVariants.{Image, Write, Memory}

-- the environment of the copy that counts, or the image's refusal
abbrev pub environment_in : ByteOrder → List ℕ → Option (List ℕ) → Result (List Pair) ImageError
environment_in order first second = environment (load_of order first second)
  where
    environment : Result LoadedShown ImageError → Result (List Pair) ImageError
    environment (Ok shown) = Ok (env_of (pairs_of shown.body))
    environment (Err e) = Err e

-- the environment that was found, or why there is none
abbrev pub Finds : Result (List Pair) ImageError → Result (List Pair) ImageError → Type 0
Finds answer (Ok env) = answer ≡ Ok env
Finds answer (Err image.Memory) = (env : List Pair) × (answer ≡ Ok env)
Finds answer (Err error) = answer ≡ Err error

-- The environment was found, and all that it prints was written.
pub record PrintsAll (answer : Result (List Pair) ImageError) (names : List (List ℕ)) (form : PrintForm) (s : Outputs)
    (found : Bool) : Type 0 where
  pub env : List Pair
  pub there : answer ≡ Ok env
  pub found_all : found ≡ all_found env names
  pub output : Wrote s.out s.out' (printed_output env names form)
  pub errors : Wrote s.err s.err' (printed_errors env names)

-- The environment was found, and one output failed inside what it prints.
pub record BreaksInPrinting (answer : Result (List Pair) ImageError) (names : List (List ℕ)) (form : PrintForm)
    (s : Outputs) : Type 0 where
  pub env : List Pair
  pub there : answer ≡ Ok env
  pub broken : BreaksEither s.out s.out' s.err s.err' (printed_output env names form) (printed_errors env names)

-- Each answer, and what is written then.
abbrev pub Prints : Result (List Pair) ImageError → List (List ℕ) → PrintForm → Outputs → Result Bool ToolError → Type 0
Prints answer names form s (Ok found) = PrintsAll answer names form s found
Prints answer names form s (Err (Image e)) = (answer ≡ Err e) × (AreUnchanged s)
Prints answer names form s (Err Write) = BreaksInPrinting answer names form s
Prints answer names form s (Err Memory) = ((env : List Pair) × (answer ≡ Ok env)) × (AreUnchanged s)
Prints answer names form s (Err _) = ⊥
