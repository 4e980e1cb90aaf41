-- What reading a configuration answers.
use Rattle.std.specs.Prelude.{◌≡◌, ℕ, List, filter, map, Result, Ok, Err, Vec, string_bytes}
use Rattle.std.specs.declared.alloc.Global.{Global}
use Rattle.envimage.specs.Config.{PlaceShown, is_place_line}
use Rattle.text.specs.Lines.{lines_left}
use Rattle.envimage.specs.declared.config.ConfigError.{ConfigError}
use Rattle.envimage.specs.declared.config.ConfigError.TheVariants.{BadLine, NotText, BadNumber, NoPlace, SizeOutOfRange, UnequalSizes, Memory}
use Rattle.envimage.specs.declared.config.Place.{Place}
use Rattle.envimage.specs.declared.config.NamedPlace.{NamedPlace}
use Rattle.text.specs.declared.lines.Lines.{Lines}

abbrev pub place_shown : Place → PlaceShown
place_shown p = record { device = string_bytes p.device; offset = p.offset; size = p.size }

abbrev pub named_shown : NamedPlace → PlaceShown
named_shown p = record { device = p.device.now; offset = p.offset; size = p.size }

-- the place lines that an iterator still has to give
abbrev pub places_left : Lines → List (ℕ × List ℕ)
places_left s = filter (λ l. is_place_line l.1) (lines_left s)

-- The answer is that of the definition. Memory can run out only if there are places.
abbrev pub AnswersPlaces : Result (List PlaceShown) ConfigError → Result (Vec Place Global) ConfigError → Type 0
AnswersPlaces answer (Ok v) = answer ≡ Ok (map place_shown v.items)
AnswersPlaces answer (Err (BadLine n)) = answer ≡ Err (BadLine n)
AnswersPlaces answer (Err (NotText n)) = answer ≡ Err (NotText n)
AnswersPlaces answer (Err (BadNumber n)) = answer ≡ Err (BadNumber n)
AnswersPlaces answer (Err NoPlace) = answer ≡ Err NoPlace
AnswersPlaces answer (Err (SizeOutOfRange n)) = answer ≡ Err (SizeOutOfRange n)
AnswersPlaces answer (Err UnequalSizes) = answer ≡ Err UnequalSizes
AnswersPlaces answer (Err Memory) = (ps : List PlaceShown) × (answer ≡ Ok ps)
