-- Words of the program, seen as texts.
use Rattle.std.specs.Prelude.{ℕ, Bool, List, map, Option, option_map, Vec}
use Rattle.std.specs.Borrow.{Bor}
use Rattle.std.specs.declared.alloc.Global.{Global}
use Rattle.commands.specs.Verdict.{Text, Term}

abbrev pub texts : List (Vec ℕ Global) → List Text
texts = map (λ word. word.items)

abbrev pub term_shown : Option (Bool × Bor (List (Vec ℕ Global))) → Term
term_shown = option_map (λ t. (t.0, texts t.1.now))
