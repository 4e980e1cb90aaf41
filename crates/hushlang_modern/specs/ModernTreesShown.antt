-- What the code's tree on the way, and what becomes of a text, say.
use Rattle.std.specs.Prelude.{map, Option, Some, None}
use Rattle.hushlang.specs.TreesShown as view
use Rattle.hushlang_uboot.specs.NestsShown as nests
use Rattle.hushlang_modern.specs.ModernTokensShown as tokens
use Rattle.hushlang_modern.specs.ModernTrees as says
use Rattle.hushlang_modern.specs.declared.stop.Stop.{Stop}
use Rattle.hushlang_modern.specs.declared.modern_text.ModernText.{ModernText}
use Rattle.hushlang_modern.specs.declared.modern_text.ModernText.TheVariants as texts
use Rattle.hushlang_modern.specs.declared.building.Building.{Building}

abbrev pub building : Building → says.Building
building b = record {
  nest = nests.nest b.nest;
  values = view.values_in b.values;
  words = map tokens.word b.words.items;
  closed = b.closed;
  fresh = b.fresh;
  plain = b.plain;
  grouped = b.grouped;
  untouched = b.untouched;
  alone = b.alone;
  marked = b.marked;
  doom = b.doom;
}

-- how the reading stops, or what is built
abbrev pub unless : Option Stop → says.Building → says.Step
unless None b = says.Goes b
unless (Some stop) b = says.Stops stop

-- what becomes of a text
abbrev pub text : ModernText → says.ModernText
text (texts.Read script) = says.Read (view.script script)
text (texts.Unread stop) = says.Unread stop
