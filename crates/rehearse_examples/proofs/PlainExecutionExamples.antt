-- Runs by the definition that knows only lists of names, computed from the text of `bootcmd` to the whole listing.
use Rattle.std.proofs.Common.{◌≡◌, ℕ, List, [], ◌∷◌, None, Result, Ok, Err, codes, refl}
use Rattle.std.specs.Fmt.{digits}
use Rattle.hushlang.specs.Expansion.{fields, joined, atoms}
use Rattle.hushlang.specs.Trees.{tree_of}
use Rattle.rehearse_terms.specs.State.{Text, Variables}
use Rattle.device_list.specs.PlainList.{plain_names}
use Rattle.rehearse_rules.specs.PlainExecution.{PlainTask, plain_runs, plain_record}
use Rattle.rehearse_rules.specs.Listing.{listing}
use Rattle.device_list.specs.declared.devices_error.DevicesError.{DevicesError}
use Rattle.rehearse_rules.proofs.ExampleRehearsals.{z}

unfoldable plain_listed : PlainTask → List Text → Text
unfolding tree_of fields joined atoms digits
plain_listed task names = listing (plain_record task names) (plain_runs task) None

abbrev among : List Text → ℕ → ℕ → Variables → Text → PlainTask
among names device_bound step_bound environment text = record {
  names = names;
  device_bound = device_bound;
  step_bound = step_bound;
  environment = environment;
  name = codes "bootcmd";
  text = text;
}

abbrev with_names : List Text → Text → PlainTask
with_names names text = among names 2 100 [] text

abbrev load : List Text
load = codes "load" ∷ []

abbrev with_load : Text → PlainTask
with_load = with_names load

-- ---- a listed command

-- the outcome is the status, and the script says which command asks first
asked_in_turn : plain_listed (with_names (codes "load" ∷ codes "mmc" ∷ []) (codes "mmc || load")) z ≡ codes "run 0\ndev 0 mmc\nunset z\nend 0\nrun 10\ndev 1 mmc\ndev 0 load\nunset z\nend 0\nrun 11\ndev 1 mmc\ndev 1 load\nunset z\nend 1\ndone\n"
unfolding plain_listed
asked_in_turn = refl

abbrev names_in : Result (List Text) DevicesError → List Text
names_in (Ok names) = names
names_in (Err fault) = []

-- from the text of the list
from_a_list : plain_listed (with_names (names_in (plain_names (codes "# d\nload\r\n\n\tmmc \nload"))) (codes "mmc || load")) z ≡ codes "run 0\ndev 0 mmc\nunset z\nend 0\nrun 10\ndev 1 mmc\ndev 0 load\nunset z\nend 0\nrun 11\ndev 1 mmc\ndev 1 load\nunset z\nend 1\ndone\n"
unfolding plain_listed
from_a_list = refl

-- it neither ends a run nor sets a variable, whatever its name is
goes_on : plain_listed (with_names (codes "bootm" ∷ []) (codes "bootm a=b; echo $?")) (codes "a" ∷ []) ≡ codes "run 0\ndev 0 bootm a=b\ntext 0\\n\nunset a\nend 0\nrun 1\ndev 1 bootm a=b\ntext 1\\n\nunset a\nend 0\ndone\n"
unfolding plain_listed
goes_on = refl

-- `test -e` asks with any list
test_asks : plain_listed (with_names [] (codes "test -e mmc 0:1 /a; echo $?")) z ≡ codes "run 0\ndev 0 test -e mmc 0:1 /a\ntext 0\\n\nunset z\nend 0\nrun 1\ndev 1 test -e mmc 0:1 /a\ntext 1\\n\nunset z\nend 0\ndone\n"
unfolding plain_listed
test_asks = refl

-- a built-in command is no device command, and other names are unknown
built_in : plain_listed (with_names (codes "echo" ∷ []) (codes "echo a")) z ≡ codes "run .\ntext a\\n\nunset z\nend 0\ndone\n"
unfolding plain_listed
built_in = refl

not_listed : plain_listed (with_load (codes "echo a; loads; echo b")) z ≡ codes "run .\ntext a\\n\nunset z\nstop unknown loads\ndone\n"
unfolding plain_listed
not_listed = refl

-- words that expand to nothing
no_word : plain_listed (with_load (codes "false; $u; echo $?")) z ≡ codes "run .\ntext 0\\n\nunset z\nend 0\ndone\n"
unfolding plain_listed
no_word = refl

-- ---- bounds

cut_devices : plain_listed (among load 1 100 [] (codes "load; load")) z ≡ codes "run 0\ndev 0 load\nunset z\ncut devices\nrun 1\ndev 1 load\nunset z\ncut devices\ndone\n"
unfolding plain_listed
cut_devices = refl

cut_steps : plain_listed (among load 2 1 [] (codes "load; load")) z ≡ codes "run 0\ndev 0 load\nunset z\ncut steps\nrun 1\ndev 1 load\nunset z\ncut steps\ndone\n"
unfolding plain_listed
cut_steps = refl

-- an assignment is a step too
assigned : plain_listed (among load 2 1 [] (codes "x=1; load")) z ≡ codes "run .\nunset z\ncut steps\ndone\n"
unfolding plain_listed
assigned = refl

-- ---- the tree

-- a skipped command leaves the status as it is
skipped : plain_listed (with_load (codes "load && echo a || echo b; echo $?")) z ≡ codes "run 0\ndev 0 load\ntext a\\n0\\n\nunset z\nend 0\nrun 1\ndev 1 load\ntext b\\n0\\n\nunset z\nend 0\ndone\n"
unfolding plain_listed
skipped = refl

blocks : plain_listed (with_load (codes "if load; then echo a; elif load b; then echo c; else echo d; fi")) z ≡ codes "run 0\ndev 0 load\ntext a\\n\nunset z\nend 0\nrun 10\ndev 1 load\ndev 0 load b\ntext c\\n\nunset z\nend 0\nrun 11\ndev 1 load\ndev 1 load b\ntext d\\n\nunset z\nend 0\ndone\n"
unfolding plain_listed
blocks = refl

no_block : plain_listed (with_load (codes "if load; then echo a; fi; echo $?")) z ≡ codes "run 0\ndev 0 load\ntext a\\n0\\n\nunset z\nend 0\nrun 1\ndev 1 load\ntext 0\\n\nunset z\nend 0\ndone\n"
unfolding plain_listed
no_block = refl

until_loaded : plain_listed (with_load (codes "until load; do echo a; done")) z ≡ codes "run 0\ndev 0 load\nunset z\nend 0\nrun 10\ndev 1 load\ndev 0 load\ntext a\\n\nunset z\nend 0\nrun 11\ndev 1 load\ndev 1 load\ntext a\\na\\n\nunset z\ncut devices\ndone\n"
unfolding plain_listed
until_loaded = refl

while_loaded : plain_listed (among load 1 100 [] (codes "while load; do false; done; echo $?")) z ≡ codes "run 0\ndev 0 load\nunset z\ncut devices\nrun 1\ndev 1 load\ntext 0\\n\nunset z\nend 0\ndone\n"
unfolding plain_listed
while_loaded = refl

each_field : plain_listed (with_load (codes "for i in a b; do load $i; done")) z ≡ codes "run 00\ndev 0 load a\ndev 0 load b\nunset z\nend 0\nrun 01\ndev 0 load a\ndev 1 load b\nunset z\nend 1\nrun 10\ndev 1 load a\ndev 0 load b\nunset z\nend 0\nrun 11\ndev 1 load a\ndev 1 load b\nunset z\nend 1\ndone\n"
unfolding plain_listed
each_field = refl

-- a variable of the shell, and one of the environment
variables : plain_listed (with_load (codes "x=a; load $x; setenv z b")) z ≡ codes "run 0\ndev 0 load a\nvar z=b\nend 0\nrun 1\ndev 1 load a\nvar z=b\nend 0\ndone\n"
unfolding plain_listed
variables = refl

-- without a field no body is run, and the status is 0
no_field : plain_listed (with_load (codes "false; for i in; do load; done; echo $?")) z ≡ codes "run .\ntext 0\\n\nunset z\nend 0\ndone\n"
unfolding plain_listed
no_field = refl

-- ---- texts that `run` starts

texts_in_turn : plain_listed (among load 2 100 ((codes "t", codes "load") ∷ (codes "u", codes "echo u") ∷ []) (codes "run t u; echo x")) z ≡ codes "run 0\ndev 0 load\ntext u\\nx\\n\nunset z\nend 0\nrun 1\ndev 1 load\ntext x\\n\nunset z\nend 0\ndone\n"
unfolding plain_listed
texts_in_turn = refl

-- the `run` is a step
no_step_left : plain_listed (among load 2 1 ((codes "t", codes "echo a") ∷ []) (codes "run t")) z ≡ codes "run .\nunset z\ncut steps\ndone\n"
unfolding plain_listed
no_step_left = refl
