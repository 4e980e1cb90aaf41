-- Device lists that start with no byte order mark.
use Rattle.std.proofs.Common.{◌≡◌, Bool, true, false, [], Result, Ok, Err, refl, sym, ◌∙◌}
use Rattle.std.specs.Prelude.{if◌then◌else◌}
use Rattle.text.specs.Lines.{numbered_lines}
use Rattle.text.specs.Lines.{Text}
use Rattle.device_list.specs.DeviceList.{Devices, only, listed_lines, is_marked, listed}
use Rattle.device_list.specs.declared.devices_error.DevicesError.{DevicesError}
use Rattle.device_list.specs.declared.devices_error.DevicesError.TheVariants.{ByteOrderMark}

abbrev after_mark : Bool → Result Devices DevicesError → Result Devices DevicesError
after_mark marked lines = if marked then Err ByteOrderMark else lines

-- such a list is what its lines say
pub by_lines : (text : Text) → is_marked text ≡ false → listed text ≡ listed_lines (only []) (numbered_lines text)
by_lines text e = by (is_marked text) (listed_lines (only []) (numbered_lines text)) e
  where
    by : (marked : Bool) (lines : Result Devices DevicesError) → marked ≡ false → after_mark marked lines ≡ lines
    by true lines f = cc
    by false lines f = refl

-- a list that is accepted is one
pub unmarked : (text : Text) (devices : Devices) → listed text ≡ Ok devices → is_marked text ≡ false
unmarked text devices e = by (is_marked text) (listed_lines (only []) (numbered_lines text)) e
  where
    by : (marked : Bool) (lines : Result Devices DevicesError) → after_mark marked lines ≡ Ok devices → marked ≡ false
    by true lines f = cc
    by false lines f = refl

pub lines_of : (text : Text) (devices : Devices) → listed text ≡ Ok devices → listed_lines (only []) (numbered_lines text) ≡ Ok devices
lines_of text devices e = sym (by_lines text (unmarked text devices e)) ∙ e
