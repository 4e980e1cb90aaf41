-- Worked examples, computed: values that grow until the words of a command have too many bytes.
use Rattle.std.proofs.Common.{[], Some, None, option_map, codes, refl, ◌≡◌, length}
use Rattle.std.specs.Fmt.{digits}
use Rattle.hushlang.specs.Expansion.{fields, joined, atoms}
use Rattle.hushlang.specs.Trees.{tree_of}
use Rattle.rehearse_terms.specs.State.{get}
use Rattle.rehearse_rules.specs.Runs.{run_on, state_of}
use Rattle.rehearse_rules.proofs.ExampleRehearsals.{usual, bootcmd, z, listed, ends_along, listed_along, along}

-- a value that is doubled until the words of a command have too many bytes
doubled_until_too_large : listed (bootcmd usual (codes "setenv a 0123456789abcdef; while true; do setenv a $a$a; done")) z None ≡ codes "run .\nunset z\nstop size\ndone\n"
unfolding listed_along ends_along
doubled_until_too_large = along 0 (bootcmd usual (codes "setenv a 0123456789abcdef; while true; do setenv a $a$a; done")) z None _ refl refl

-- and its length then
doubled_length : option_map length (get (state_of (run_on (bootcmd usual (codes "setenv a 0123456789abcdef; while true; do setenv a $a$a; done")) [])).memory.environment (codes "a")) ≡ Some 32768
unfolding tree_of fields joined atoms digits
doubled_length = refl

doubled_in_assignment : listed (bootcmd usual (codes "x=0123456789abcdef; while true; do x=$x$x; done")) z None ≡ codes "run .\nunset z\nstop size\ndone\n"
unfolding listed_along ends_along
doubled_in_assignment = along 0 (bootcmd usual (codes "x=0123456789abcdef; while true; do x=$x$x; done")) z None _ refl refl
