-- What contracts see of what was found in a text.
use Rattle.std.specs.Prelude.{ℕ, List, map}
use Rattle.hushcheck.specs.Calls as spec
use Rattle.hushcheck.specs.declared.remark.Remark.{Remark}
use Rattle.hushcheck.specs.declared.remark.Remark.TheVariants.{Lacks, NotFollowed, SetsMore, Unset, Warns}
use Rattle.hushcheck.specs.declared.remark.Found.{Found}
use Rattle.hushcheck.specs.declared.remark.Read.{Read}

abbrev pub remark : Remark → spec.Remark
remark NotFollowed = spec.NotFollowed
remark (Lacks name) = spec.Lacks name.items
remark SetsMore = spec.SetsMore
remark (Unset name) = spec.Unset name.items
remark (Warns warning) = spec.Warns warning

abbrev pub found_at : Found → ℕ × spec.Remark
found_at found = (found.at, remark found.remark)

abbrev pub all_found : List Found → List (ℕ × spec.Remark)
all_found found = map found_at found

abbrev pub all_read : List Read → List spec.Read
all_read reads = map (λ read. (read.at, read.name.items)) reads
