-- Device commands of the program, seen as the list of definitions.
use Rattle.std.specs.Prelude.{ℕ, List, map, option_map, Vec}
use Rattle.std.specs.declared.alloc.Global.{Global}
use Rattle.device_list.specs.DeviceList as says
use Rattle.device_list.specs.Settings as settings
use Rattle.device_list.specs.CallLines as calls
use Rattle.device_list.specs.declared.device_line.Heading.{Heading}
use Rattle.device_list.specs.declared.setting.LeftSide.{LeftSide}
use Rattle.device_list.specs.declared.setting.LeftSide.TheVariants as sides
use Rattle.device_list.specs.declared.setting.RightSide.{RightSide}
use Rattle.device_list.specs.declared.setting.RightSide.TheVariants as rights
use Rattle.device_list.specs.declared.setting.Setting.{Setting}
use Rattle.device_list.specs.declared.pattern.PatternWord.{PatternWord}
use Rattle.device_list.specs.declared.pattern.PatternWord.TheVariants as words
use Rattle.device_list.specs.declared.pattern.Pattern.{Pattern}

abbrev pub Bytes : Type 0
Bytes = Vec ℕ Global

abbrev pub left_shown : LeftSide → says.LeftSide
left_shown (sides.Variable name) = says.Variable name.items
left_shown (sides.WordAt place) = says.WordAt place
left_shown sides.LastWord = says.LastWord
left_shown (sides.Imported name reading first) = says.Imported name.items reading first
left_shown sides.Saving = says.Saving

abbrev pub right_shown : RightSide → settings.RightSide
right_shown (rights.Literal text) = settings.Literal text.items
right_shown (rights.ValueAt place) = settings.ValueAt place
right_shown rights.LastValue = settings.LastValue
right_shown rights.Deleted = settings.Deleted
right_shown (rights.CopyOf name) = settings.CopyOf name.items

abbrev pub setting_shown : Setting → says.Setting
setting_shown s = (left_shown s.left, right_shown s.value)

abbrev pub settings_shown : Vec Setting Global → List says.Setting
settings_shown v = map setting_shown v.items

abbrev pub heading_shown : Heading → says.Heading
heading_shown h = record {
  name = h.name.now;
  word = option_map (λ w. w.now) h.word;
  ends = h.ends;
  stays = h.stays;
  words = map (λ w. w.now) h.words.now;
}

abbrev pub word_shown : PatternWord → calls.PatternWord
word_shown (words.Exactly text) = calls.Exactly text.items
word_shown (words.Starting text) = calls.Starting text.items

abbrev pub pattern_shown : Pattern → calls.Pattern
pattern_shown p = record { words = map word_shown p.words.items; more = p.more }
