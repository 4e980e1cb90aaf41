-- What becomes of a text, as the functions return it.
use Rattle.hushlang.specs.TreesShown as view
use Rattle.hushlang_shells.specs.TreesByShell as spec
use Rattle.hushlang_shells.specs.declared.text_read.TextRead.{TextRead}
use Rattle.hushlang_shells.specs.declared.text_read.TextRead.TheVariants as texts

abbrev pub text_read : TextRead → spec.TextRead
text_read (texts.Runs script) = spec.Runs (view.script script)
text_read texts.Fails = spec.Fails
text_read texts.Panics = spec.Panics
text_read texts.Unread = spec.Unread
