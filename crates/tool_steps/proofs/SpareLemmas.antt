-- A change where a copy was lost is written over that copy.
use Rattle.std.proofs.Common.{◌≡◌, ℕ, Bool, true, false, sym, subst, List, Option, Some, None, Ok}
use Rattle.std.specs.Prelude.{IfSome}
use Rattle.envimage.specs.Config.{PlaceShown}
use Rattle.envimage.specs.declared.image.ByteOrder.{ByteOrder}
use Rattle.envimage.specs.declared.image.Which.{Which}
use Rattle.tool_images.proofs.SpareLemmas.{equal-second}
use Rattle.tool_images.specs.declared.change.Edit.{Edit}
use Rattle.tool_files.specs.Told.{Told}
use Rattle.tool_steps.specs.ChangingFiles.{IsPlaceOf, edited}
use Rattle.tool_steps.specs.Images.{Copy}
use Rattle.tool_steps.specs.OneCopy.{Finds, in_its_place}
use Rattle.tool_words.specs.Asked.{OriginShown, configured, no_images, texts, whole}

stands-in : (order : ByteOrder) (copy : Copy) (lost : PlaceShown) (edit : Edit) (which : Which) (bytes : List ℕ) (place : PlaceShown) → edited order (in_its_place copy lost) edit ≡ Ok (which, bytes)
    → IsPlaceOf which (in_its_place copy lost) place → place ≡ lost
stands-in order copy lost edit which bytes place made there =
    subst (λ (w : Which). IsPlaceOf w (in_its_place copy lost) place → place ≡ lost) (sym (equal-second order copy.1 edit which bytes made)) (λ (at : place ≡ lost). at) there

-- a change is written over the copy that was lost
pub over-lost : (one_copy : Bool) (origin : OriginShown) (lost : Option PlaceShown) (old new : Told) (found : List Copy) (order : ByteOrder) (edit : Edit) (which : Which) (bytes : List ℕ) (place : PlaceShown)
    → Finds one_copy origin lost old new found → edited order found edit ≡ Ok (which, bytes) → IsPlaceOf which found place → IfSome lost (λ lost. place ≡ lost)
over-lost one_copy origin None old new found order edit which bytes place h made there = tt
over-lost false origin (Some lost) old new found order edit which bytes place h made there = absurd h
over-lost true (whole first second) (Some lost) old new found order edit which bytes place h made there = absurd h
over-lost true (texts path stored) (Some lost) old new found order edit which bytes place h made there = absurd h
over-lost true (no_images stored) (Some lost) old new found order edit which bytes place h made there = absurd h
over-lost true (configured config) (Some lost) old new found order edit which bytes place h made there =
    subst (λ (found : List Copy). edited order found edit ≡ Ok (which, bytes) → IsPlaceOf which found place → place ≡ lost) (sym h.loses.are)
    (stands-in order h.loses.copy lost edit which bytes place) made there
