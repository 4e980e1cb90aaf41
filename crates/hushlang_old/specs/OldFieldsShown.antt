-- What the code's values say.
use Rattle.std.specs.Prelude.{map}
use Rattle.hushlang_old.specs.OldFields as says
use Rattle.hushlang_old.specs.declared.rereading.Place.{Place}
use Rattle.hushlang_old.specs.declared.rereading.Place.TheVariants as places
use Rattle.hushlang_old.specs.declared.rereading.Reading.{Reading}

abbrev pub place : Place → says.Place
place places.Open = says.Open
place places.Behind = says.Behind
place (places.Single opening) = says.Single opening
place places.Ended = says.Ended

abbrev pub reading : Reading → says.Reading
reading r = record {
  whole = map (λ word. word.items) r.whole.items;
  word = r.word.items;
  begun = r.begun;
  double = r.double;
  place = place r.place;
}
