-- What is asked of a rehearsal. Ours.
use Rattle.std.specs.Prelude.{◌≢◌, List, Option, Some, None}
use Rattle.rehearse_terms.specs.Bounds.{BoundsShown}
use Rattle.rehearse_terms.specs.State.{Text}
use Rattle.rehearse_terms.specs.declared.wanted.Page.{Page}

-- all of the listing
abbrev pub whole_page : Page
whole_page = record { limit = None }

-- a page has room for a record
abbrev pub HasRoom : Page → Type 0
HasRoom page = page.limit ≢ Some 0

-- a page of a listing, of the runs or of those after the run of a word; or only the run of a word. A word is written as
-- a listing prints it, the empty one as a dot
pub data Wanted : Type 0 where
  Listed : (after : Option Text) (page : Page) → Wanted
  Alone : (word : Text) → Wanted

pub record Asking : Type 0 where
  -- the variable that is rehearsed; `bootcmd` if the program is given no other
  pub variable : Text
  pub bounds : BoundsShown
  pub wanted : Wanted
  -- the variables that a record shows; none for all
  pub names : List Text

-- how much of it is written at one time: all, of one run
abbrev pub page_of : Wanted → Page
page_of (Listed after page) = page
page_of (Alone word) = whole_page
