-- What inspecting an image writes and answers. It is ours.
use Rattle.std.specs.Prelude.{◌≡◌, ℕ, Bool, true, false, List, ◌++◌, Option, Some, None, Result, Ok, Err}
use Rattle.std.specs.Option.{option_map_or}
use Rattle.envimage.specs.declared.image.ByteOrder.{ByteOrder}
use Rattle.envimage.specs.declared.image.ImageError.TheVariants as image
use Rattle.output.specs.Sink.{BrokeOff, Sink, Wrote}
use Rattle.tool_images.specs.declared.error.ToolError.{ToolError}
use Rattle.tool_images.specs.declared.error.ToolError.TheVariants.{Image, Memory, Write}
use Rattle.inspecting.specs.Guesses.{guesses}
use Rattle.inspecting.specs.Report.{CopiesShown, are_sizes, body_of, copies_lines, data_lines, has_no_fault, pair, single}

-- as what the bytes of the copies would be right
abbrev pub guesses_of : CopiesShown → List ℕ
guesses_of (single held) = guesses held
guesses_of (pair first second) = guesses first ++ guesses second

-- the data of the copy that counts; or, if none does, as what the bytes would be right
abbrev pub content_lines : CopiesShown → Option (List ℕ) → List ℕ
content_lines copies (Some body) = data_lines body
content_lines copies None = guesses_of copies

-- the report
abbrev pub report_of : ByteOrder → CopiesShown → List ℕ
report_of order copies = copies_lines order copies ++ content_lines copies (body_of order copies)

-- the environment can be read: a copy counts, and its data have no fault
abbrev pub is_readable : ByteOrder → CopiesShown → Bool
is_readable order copies = option_map_or has_no_fault (body_of order copies) false

-- the report was written, and whether the environment can be read; or no image has this size, or memory ran out, and
-- nothing was written; or the output failed inside the report
abbrev pub Inspects : ByteOrder → CopiesShown → Sink → Sink → Result Bool ToolError → Type 0
Inspects order copies old new (Ok readable) =
    (are_sizes copies ≡ true) × (readable ≡ is_readable order copies) × Wrote old new (report_of order copies)
Inspects order copies old new (Err (Image image.WrongSize)) = (are_sizes copies ≡ false) × (new ≡ old)
Inspects order copies old new (Err Memory) = new ≡ old
Inspects order copies old new (Err Write) = BrokeOff old new (report_of order copies)
Inspects order copies old new (Err _) = ⊥
