-- What contracts see of what texts read and set.
use Rattle.std.specs.Prelude.{List, map}
use Rattle.hushcheck.specs.CallSetsShown.{names_shown}
use Rattle.hushcheck.specs.Remarks.{all_read}
use Rattle.hushcheck.specs.Unset as spec
use Rattle.hushcheck.specs.declared.unset.Used.{Used}

abbrev pub used_shown : Used → spec.Used
used_shown u = record {
  name = u.name.items;
  text = u.text.now;
  reads = all_read u.reads.items;
  sets = names_shown u.sets.items;
}

abbrev pub all_used : List Used → List spec.Used
all_used = map used_shown
