-- The pieces of a line. Ours.
use Rattle.std.specs.Prelude.{ℕ, Bool, nat_eq, nat_le, not, ◌&&◌}
use Rattle.text.specs.Bytes as ascii
use Rattle.text.specs.Escapes.{escaped, text_form, word_escaped, word_form}
use Rattle.rehearse_terms.specs.State.{Text}
use Rattle.rehearse_records.specs.declared.line_pieces.Form.{Form}
use Rattle.rehearse_records.specs.declared.line_pieces.Form.TheVariants.{Text as AsText, Word as AsWord}
use Rattle.rehearse_records.specs.declared.line_pieces.Piece.{Piece}
use Rattle.rehearse_records.specs.declared.line_pieces.Piece.TheVariants.{Plain, Text as OfText, Word as OfWord}

-- what a piece is printed as
abbrev pub piece_text : Piece → Text
piece_text (Plain bytes) = bytes.now
piece_text (OfText bytes) = text_form bytes.now
piece_text (OfWord bytes) = word_form bytes.now

-- what a byte is printed as
abbrev pub form_of : Form → ℕ → Text
form_of AsText = escaped
form_of AsWord = word_escaped

-- bytes below this one are not printed as they are: in a text that is a space, in a word the byte after it
abbrev pub least_of : Form → ℕ
least_of AsText = ascii.space
least_of AsWord = ascii.exclamation_mark

abbrev pub stands : Form → ℕ → Bool
stands form b = nat_le (least_of form) b && nat_le b ascii.tilde && not (nat_eq b ascii.backslash)
