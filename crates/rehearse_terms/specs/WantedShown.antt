-- What contracts see of the runs that are wanted. Ours.
use Rattle.std.specs.Prelude.{List, ℕ, Option, Some, option_map, string_bytes, String}
use Rattle.std.specs.Borrow.{Bor}
use Rattle.std.specs.declared.alloc.Global.{Global}
use Rattle.rehearse_terms.specs.Asking as spec
use Rattle.rehearse_terms.specs.Asking.{Alone, Listed}
use Rattle.rehearse_terms.specs.Bounds.{BoundsShown}
use Rattle.rehearse_terms.specs.State.{Text}
use Rattle.rehearse_terms.specs.declared.wanted.Wanted.{Wanted}
use Rattle.rehearse_terms.specs.declared.wanted.Wanted.TheVariants.{Listing, Word}

-- how far each run may go
abbrev pub wanted_bounds : {T : Type 0} → Wanted T → BoundsShown
wanted_bounds (Listing bounds after page) = bounds
wanted_bounds (Word bounds word) = bounds

-- which runs they are, by what a word is
abbrev pub wanted_by : {T : Type 0} → (T → Text) → Wanted T → spec.Wanted
wanted_by text_of (Listing bounds after page) = Listed (option_map text_of after) page
wanted_by text_of (Word bounds word) = Alone (text_of word)

abbrev pub wanted_strings : Wanted (String Global) → spec.Wanted
wanted_strings = wanted_by string_bytes

abbrev pub wanted_slices : Wanted (Bor (List ℕ)) → spec.Wanted
wanted_slices = wanted_by (λ word. word.now)

-- the word that is named, if one is
abbrev pub wanted_word : {T : Type 0} → Wanted T → Option T
wanted_word (Listing bounds after page) = after
wanted_word (Word bounds word) = Some word
