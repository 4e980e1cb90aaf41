-- What is given, from its parts.
use Rattle.std.proofs.Common.{◌≡◌, ℕ, List, refl, Option, Some, None}
use Rattle.envimage.specs.declared.image.ByteOrder.{ByteOrder}
use Rattle.rehearse_terms.specs.Asking.{Asking}
use Rattle.tool_steps.specs.Images.{copies}
use Rattle.tool_steps.specs.PrintingFiles.{first_bytes}
use Rattle.tool_steps.specs.declared.images.Images.{Images}
use Rattle.tool_steps.specs.declared.read.StoredCopy.{StoredCopy}
use Rattle.tool_words.specs.declared.ask.Taking.{Taking}
use Rattle.board_start.specs.Boards.{ListRead}
use Rattle.ubtool.specs.Given.{given}

pub first-bytes : (images : Images) → images.first.bytes.items ≡ first_bytes (copies images)
first-bytes images = by images.first images.second
  where
    by : (x : StoredCopy) (y : Option StoredCopy) → x.bytes.items ≡ first_bytes (copies (record { first = x; second = y }))
    by x None = refl
    by x (Some y) = refl

pub given-same : (order : ByteOrder) (first first' : List ℕ) (second second' : Option (List ℕ)) (list list' : ListRead) (taking : Taking) (text text' : Option (List ℕ)) (asking asking' : Asking) → first ≡ first' → second ≡ second' → list ≡ list' → text ≡ text' → asking ≡ asking'
    → given order first second list taking text asking ≡ given order first' second' list' taking text' asking'
given-same order first first' second second' list list' taking text text' asking asking' f s l t a = rw (f, s, l, t, a) refl
