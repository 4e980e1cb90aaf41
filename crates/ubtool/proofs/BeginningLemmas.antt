-- What a rehearsal starts with, and why there is nothing to start with.
use Rattle.std.proofs.Common.{◌≡◌, ◌∙◌, refl, sym, ap, subst, List, Option, Result, Ok, Err}
use Rattle.envimage.specs.Data.{Pair}
use Rattle.envimage.specs.declared.image.ImageError.{ImageError}
use Rattle.board_start.specs.Boards.{Board, Fault, OfDevices, OfStart, board_of}
use Rattle.board_start.specs.StartAnswers.{IsBoard}
use Rattle.board_start.specs.declared.board_error.BoardError.{BoardError}
use Rattle.board_start.specs.declared.board_error.BoardError.TheVariants as faulty
use Rattle.board_start.specs.declared.start_error.StartError.{StartError}
use Rattle.device_list.specs.declared.devices_error.DevicesError.{DevicesError}
use Rattle.rehearse_rules.specs.declared.rehearse_error.RehearseError.TheVariants as rehearsal
use Rattle.rehearse_rules.specs.Runs.{Task}
use Rattle.rehearse_runs.specs.RehearsedEnvironment.{task_asked}
use Rattle.rehearse_terms.specs.Asking.{Asking}
use Rattle.rehearse_terms.specs.State.{Text}
use Rattle.rehearse_terms.specs.declared.shell.Shell.{Shell}
use Rattle.tool_images.specs.PrintingImages.{environment_in}
use Rattle.tool_words.specs.declared.ask.Taking.{Taking}
use Rattle.ubtool.specs.Beginning.{Beginning, NoBeginning, OfBoard, OfImage, Begins, beginning_of, with_board, with_image}
use Rattle.ubtool.specs.BoardEnvironment.{on_board as on_board_of}
use Rattle.ubtool.specs.Faults.{board_error}
use Rattle.ubtool.specs.Given.{Given}
use Rattle.ubtool.specs.declared.beginning.Beginning.{Beginning as BeginningRead}
use Rattle.ubtool.specs.Headline.{HasBoard, asked_of}
use Rattle.ubtool.specs.Refusing.{HasImage}
use Rattle.ubtool.specs.declared.rehearsal_error.RehearsalError.{RehearsalError}
use Rattle.ubtool.specs.declared.rehearsal_error.RehearsalError.TheVariants as refused

-- what holds of the refusals of an image and of a device list, and if memory runs out, holds of each
pub not_begun : (image : Result (List Pair) ImageError) (answer : Result Beginning NoBeginning) (IsSo : RehearsalError → Type 0)
    → ((fault : ImageError) → answer ≡ Err (OfImage fault) → IsSo (refused.Image fault))
    → ((fault : DevicesError) → answer ≡ Err (OfBoard (OfDevices fault)) → IsSo (refused.Rehearsal (rehearsal.DeviceList fault)))
    → ((fault : StartError) → answer ≡ Err (OfBoard (OfStart fault)) → IsSo (refused.Start fault))
    → ((environment : List Pair) → image ≡ Ok environment → IsSo refused.Memory)
    → (error : RehearsalError) → Begins image answer (Err error) → IsSo error
not_begun image answer IsSo told listed starts memory (refused.Image fault) h = told fault h
not_begun image answer IsSo told listed starts memory (refused.Rehearsal (rehearsal.DeviceList fault)) h = listed fault h
not_begun image answer IsSo told listed starts memory (refused.Rehearsal rehearsal.NoSuchVariable) h = absurd h
not_begun image answer IsSo told listed starts memory (refused.Rehearsal rehearsal.NotARun) h = absurd h
not_begun image answer IsSo told listed starts memory (refused.Rehearsal rehearsal.States) h = absurd h
not_begun image answer IsSo told listed starts memory (refused.Rehearsal (rehearsal.Steps count)) h = absurd h
not_begun image answer IsSo told listed starts memory (refused.Rehearsal (rehearsal.Bytes count)) h = absurd h
not_begun image answer IsSo told listed starts memory (refused.Rehearsal rehearsal.Write) h = absurd h
not_begun image answer IsSo told listed starts memory (refused.Rehearsal rehearsal.Memory) h = absurd h
not_begun image answer IsSo told listed starts memory (refused.Rehearsal rehearsal.Failed) h = absurd h
not_begun image answer IsSo told listed starts memory (refused.Start fault) h = starts fault h
not_begun image answer IsSo told listed starts memory refused.Boots h = absurd h
not_begun image answer IsSo told listed starts memory (refused.Changes error) h = absurd h
not_begun image answer IsSo told listed starts memory refused.Unnamed h = absurd h
not_begun image answer IsSo told listed starts memory refused.Write h = absurd h
not_begun image answer IsSo told listed starts memory refused.Memory h = memory h.0 h.1

-- where the list of the board is faulty
pub no_board : (list : Result Board Fault) (environment : List Pair) (taking : Taking) (name : Text) (text : Option Text) (names : List Text)
    → (error : BoardError) → IsBoard list (Err error) → Begins (Ok environment) (with_board list taking environment name text names) (Err (board_error error))
no_board list environment taking name text names (faulty.Start fault) h = ap (λ b. with_board b taking environment name text names) h
no_board list environment taking name text names (faulty.Devices fault) h = ap (λ b. with_board b taking environment name text names) h
no_board list environment taking name text names faulty.Memory h = (environment, refl)

-- what begins in the environment that a board has of an image starts with the image
pub from_image : (image : Result (List Pair) ImageError) (shell : Shell) (list : Result Board Fault) (taking : Taking) (name : Text) (text : Option Text) (names : List Text) (environment found : List Pair) → image ≡ Ok environment → found ≡ on_board_of shell environment
    → (result : Result BeginningRead RehearsalError) → Begins (Ok found) (with_board list taking found name text names) result → Begins image (with_image image shell list taking name text names) result
from_image image shell list taking name text names environment found is same result h = by result h
  where
    alike : with_image image shell list taking name text names ≡ with_board list taking found name text names
    alike = ap (λ i. with_image i shell list taking name text names) is ∙ ap (λ e. with_board list taking e name text names) (sym same)

    by : (r : Result BeginningRead RehearsalError) → Begins (Ok found) (with_board list taking found name text names) r → Begins image (with_image image shell list taking name text names) r
    by (Ok beginning) k = alike ∙ k
    by (Err error) k =
        not_begun (Ok found) (with_board list taking found name text names) (λ e. Begins image (with_image image shell list taking name text names) (Err e))
        (λ fault said. alike ∙ said) (λ fault said. alike ∙ said) (λ fault said. alike ∙ said) (λ e said. (environment, is)) error k

-- where there is something to start with, the image is right
pub has-image : (g : Given) (beginning : Beginning) → beginning_of g ≡ Ok beginning → HasImage g
has-image g beginning found = by (environment_in g.order g.first g.second) refl found
  where
    by : (image : Result (List Pair) ImageError) → environment_in g.order g.first g.second ≡ image → with_image image g.asking.bounds.shell (board_of g.device_list) g.taking g.asking.variable g.text g.asking.names ≡ Ok beginning → HasImage g
    by (Ok environment) is f = record { environment = environment; image = is }
    by (Err fault) is f = absurd (let e : ◌≡◌ {A = Result Beginning NoBeginning} (Err (OfImage fault)) (Ok beginning) = f in cc)

-- and where the list says of the start what cannot be
pub image-of-start : (g : Given) (fault : StartError) → beginning_of g ≡ Err (OfBoard (OfStart fault)) → HasImage g
image-of-start g fault found = by (environment_in g.order g.first g.second) refl found
  where
    by : (image : Result (List Pair) ImageError) → environment_in g.order g.first g.second ≡ image → with_image image g.asking.bounds.shell (board_of g.device_list) g.taking g.asking.variable g.text g.asking.names ≡ Err (OfBoard (OfStart fault)) → HasImage g
    by (Ok environment) is f = record { environment = environment; image = is }
    by (Err other) is f = absurd (let e : ◌≡◌ {A = Result Beginning NoBeginning} (Err (OfImage other)) (Err (OfBoard (OfStart fault))) = f in cc)

-- what holds of the rehearsal of what it starts with holds of what it was read from
pub on_board : (g : Given) (beginning : Beginning) → beginning_of g ≡ Ok beginning → (text : Option Text) → text ≡ beginning.text → (IsSo : Asking → Option Task → Type 0)
    → IsSo (asked_of beginning g.asking) (task_asked beginning.environment beginning.devices text (asked_of beginning g.asking)) → HasBoard g IsSo
on_board g beginning found text same IsSo h = record {
  beginning = beginning;
  found = found;
  so = subst (λ (t : Option Text). IsSo (asked_of beginning g.asking) (task_asked beginning.environment beginning.devices t (asked_of beginning g.asking))) same h;
}
