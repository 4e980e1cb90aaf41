-- What a rehearsal is given. Ours.
use Rattle.std.specs.Prelude.{ℕ, List, Option, None}
use Rattle.board_start.specs.Boards.{ListRead}
use Rattle.envimage.specs.declared.image.ByteOrder.{ByteOrder}
use Rattle.rehearse_terms.specs.Asking.{Asking, Listed, whole_page}
use Rattle.rehearse_terms.specs.Bounds.{BoundsShown}
use Rattle.rehearse_terms.specs.State.{Text}
use Rattle.tool_words.specs.declared.ask.Taking.{Taking}

pub record Given : Type 0 where
  -- the bytes of a single image, or of the copies of a pair, and how their checksum is stored
  pub order : ByteOrder
  pub first : List ℕ
  pub second : Option (List ℕ)
  -- the device list with the files that it names, and how it is taken
  pub device_list : ListRead
  pub taking : Taking
  -- a text that is rehearsed in place of a variable's
  pub text : Option Text
  -- the variable, or what the text is called, the bounds, and the runs that are wanted
  pub asking : Asking

abbrev pub given : ByteOrder → List ℕ → Option (List ℕ) → (device_list : ListRead) → (taking : Taking) →
    (text : Option Text) → Asking → Given
given order first second device_list taking text asking = record {
  order = order;
  first = first;
  second = second;
  device_list = device_list;
  taking = taking;
  text = text;
  asking = asking;
}

-- all runs of a variable: no start word, and the whole page
abbrev pub all_runs : (variable : Text) → BoundsShown → (names : List Text) → Asking
all_runs variable bounds names =
    record { variable = variable; bounds = bounds; wanted = Listed None whole_page; names = names }
