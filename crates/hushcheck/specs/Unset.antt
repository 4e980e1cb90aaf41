-- What nothing sets: the variables that the texts that are reached read, and that neither the environment has nor a text that
-- is reached sets. Ours.
use Rattle.std.specs.Prelude.{◌==◌, ◌||◌, ◌++◌, ◌∷◌, ℕ, Bool, false, not, List, [], length, map, Option, Some, None, Result, Ok, Err, if◌then◌else◌}
use Rattle.std.specs.List.{flat_map, fold, list_any}
use Rattle.envimage.specs.Data.{Pair}
use Rattle.envtools.specs.Environment.{same}
use Rattle.hushlang.specs.Tree.{Script}
use Rattle.hushlang.specs.declared.token.SyntaxError.{SyntaxError}
use Rattle.hushcheck.specs.Calls.{Read, Remark, Unset, calls_of, found_lines}
use Rattle.hushcheck.specs.Names.{Text, read_by}
use Rattle.hushcheck.specs.Order.{Turn, name_of, once, text_of, with_names}
use Rattle.hushcheck.specs.Rules.{Rules}

-- ---- what a text reads and sets

-- a text under its name, the variables that it reads, and those that it sets
pub record Used : Type 0 where
  pub name : Text
  pub text : Text
  pub reads : List Read
  pub sets : List Text

-- a text that is refused is not run, so it uses nothing
abbrev pub used_read : Rules → (name text : Text) → Result Script SyntaxError → List Used
used_read rules name text (Ok script) = record {
  name = name;
  text = text;
  reads = (calls_of rules.devices text script).reads;
  sets = (calls_of rules.devices text script).sets;
} ∷ []
used_read rules name text (Err error) = []

abbrev pub used_by_text : Rules → (name text : Text) → List Used
used_by_text rules name text = used_read rules name text (read_by rules.shell text)

abbrev pub used_by_value : Rules → Text → Option Text → List Used
used_by_value rules name None = []
used_by_value rules name (Some text) = used_by_text rules name text

abbrev pub used_by : Rules → List Pair → Turn → List Used
used_by rules env turn = used_by_value rules (name_of turn) (text_of rules env turn)

-- ---- what is set

-- the names of the environment, with what lines `given` of a list say, and those that the texts set, wherever they do it
abbrev pub set_names : List Pair → List Used → List Text
set_names env used = with_names (once (map (λ p. p.0) env)) (flat_map (λ u. u.sets) used)

-- ---- what is read and not set

-- the names that are set or were reported, and what is reported
pub record Search : Type 0 where
  pub known : List Text
  pub found : List (ℕ × Remark)

-- a variable is reported once, at the first word that reads it
abbrev pub after_read : Search → Read → Search
after_read s read =
    if list_any (same read.1) s.known then s
    else record { known = s.known ++ read.1 ∷ []; found = s.found ++ (read.0, Unset read.1) ∷ [] }

abbrev pub searched : (known : List Text) → List Read → Search
searched known reads = fold after_read (record { known = known; found = [] }) reads

-- the lines of the texts, one after another
abbrev pub unset_lines : (known : List Text) → List Used → Text
unset_lines known [] = []
unset_lines known (u ∷ used) =
    found_lines u.name u.text (searched known u.reads).found ++ unset_lines (searched known u.reads).known used

-- whether there are any
abbrev pub has_unset : (known : List Text) → List Used → Bool
has_unset known [] = false
has_unset known (u ∷ used) =
    not (length (searched known u.reads).found == 0) || has_unset (searched known u.reads).known used
