-- What reading the data of a loaded image answers.
use Rattle.std.proofs.Common.{◌≡◌, ℕ, List, Option, Ok, Err, refl}
use Rattle.envimage.specs.Data.{pairs_of}
use Rattle.envimage.specs.Image.{LoadedShown, load_of}
use Rattle.envimage.specs.declared.image.ByteOrder.{ByteOrder}
use Rattle.envtools.specs.Environment.{env_of}
use Rattle.envtools.specs.Printing.{printout, DataFailure}
use Rattle.envtools.specs.declared.print.PrintDataError.{PrintDataError}
use Rattle.envtools.specs.declared.print.PrintDataError.TheVariants.{Write, Memory}
use Rattle.envtools.specs.declared.print_form.PrintForm.{PrintForm}
use Rattle.tool_images.specs.Errors.{print_fault}
use Rattle.tool_images.specs.PrintingImages.{environment_in, Prints}
use Rattle.output.specs.Outputs.{Outputs}

-- printing the data of what is loaded is refused as the tool refuses it
pub print-refused : (order : ByteOrder) (first : List ℕ) (second : Option (List ℕ)) (s : LoadedShown) (error : PrintDataError) (names : List (List ℕ)) (form : PrintForm) (outputs : Outputs)
    → load_of order first second ≡ Ok s
    → DataFailure (printout (env_of (pairs_of s.body)) names form) outputs error
    → Prints (environment_in order first second) names form outputs (Err (print_fault error))
print-refused order first second s Write names form outputs e broken =
    record { env = env_of (pairs_of s.body); there = rw e refl; broken = broken }
print-refused order first second s Memory names form outputs e same =
    ((env_of (pairs_of s.body), rw e refl), record { out = same.0; err = same.1 })
