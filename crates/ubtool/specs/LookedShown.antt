-- What is looked through for what it changes, as definitions see it.
use Rattle.text.specs.TextsShown.{option_bytes}
use Rattle.ubtool.specs.KeptNames.{Looked}
use Rattle.ubtool.specs.declared.kept_names.Looked as rt

abbrev pub looked_shown : rt.Looked → Looked
looked_shown l = record { variable = l.name.now; text = option_bytes l.text; alternative = option_bytes l.alternative }
