-- What becomes of a text, by the shell that reads it.
use Rattle.std.specs.Prelude.{ℕ, ◌+◌, ◌-◌, ◌==◌, List, [], ◌++◌, length, take, drop, Bool, true, false, not, ◌&&◌, if◌then◌else◌, Option, Some, None, is_some, option_map, codes}
use Rattle.std.specs.List.{list_any, suffix_len}
use Rattle.hushlang.specs.Tree as tree
use Rattle.hushlang.specs.Tree.{Script, AndOr}
use Rattle.hushlang.specs.Trees.{tree_of}
use Rattle.hushlang_uboot.specs.ReadBytes.{has_bytes, is_newline}
use Rattle.hushlang_old.specs.OldTokens.{is_no_newline}
use Rattle.hushlang_old.specs.OldTrees.{old_tree_of, has_fault, lacks_end}
use Rattle.hushlang_modern.specs.ModernTrees as modern
use Rattle.hushlang_modern.specs.ModernTrees.{ModernText, modern_text}
use Rattle.hushlang_modern.specs.declared.stop.Stop.TheVariants as stop
use Rattle.rehearse_terms.specs.declared.shell.Shell.{Shell}
use Rattle.rehearse_terms.specs.declared.shell.Shell.TheVariants.{Profile, Old2023, Old2025, Modern2025}

-- what becomes of a text
pub data TextRead : Type 0 where
  -- the script is run
  Runs : (script : Script) → TextRead
  -- the shell reports a fault: nothing of the text is run, and the status is 1
  Fails : TextRead
  -- the shell gives up: the board resets or hangs
  Panics : TextRead
  -- it is no script of ubtool's own grammar; or what U-Boot's shell does with it is not followed
  Unread : TextRead

-- a text of which this is the tree; or else this becomes of it
abbrev pub script_or : (otherwise : TextRead) → Option Script → TextRead
script_or otherwise None = otherwise
script_or otherwise (Some script) = Runs script

-- in U-Boot's modern shell. By a fault that it does not only report it gives up (`die_if_script`)
abbrev pub modern_read : ModernText → TextRead
modern_read (modern.Read script) = Runs script
modern_read (modern.Unread stop.Fails) = Fails
modern_read (modern.Unread stop.Panics) = Panics
modern_read (modern.Unread stop.Unsupported) = Unread

-- whether U-Boot's old shell finds the end of a text while a compound command is open, and had nothing to run before: a newline would
-- have ended what it runs at once
abbrev pub ends_open : (newer : Bool) → List ℕ → Bool
ends_open newer text = lacks_end newer text && not (list_any is_newline text)

-- such a text as `bootcmd` is run as an empty one (`parse_stream_outer`)
abbrev pub empty_when : Bool → TextRead
empty_when true = Runs tree.Empty
empty_when false = Unread

abbrev pub old_first : (newer : Bool) → List ℕ → TextRead
old_first newer text = script_or (empty_when (ends_open newer text)) (old_tree_of newer text)

-- the text with which a run begins
abbrev pub first_in : Shell → List ℕ → TextRead
first_in Profile text = script_or Unread (tree_of text)
first_in Old2023 text = old_first false text
first_in Old2025 text = old_first true text
first_in Modern2025 text = modern_read (modern_text text)

abbrev pub fails_when : Bool → TextRead
fails_when true = Fails
fails_when false = Unread

abbrev pub old_started : (newer : Bool) → List ℕ → TextRead
old_started newer text = script_or (fails_when (has_fault newer text)) (old_tree_of newer text)

-- a text that `run` starts. U-Boot's old shell finds its fault before it runs any of it (`parse_stream_outer`, `syntax`), and the
-- modern one always does (`parse_stream`)
abbrev pub started_in : Shell → List ℕ → TextRead
started_in Profile text = script_or Unread (tree_of text)
started_in Old2023 text = old_started false text
started_in Old2025 text = old_started true text
started_in Modern2025 text = modern_read (modern_text text)

-- ---- the end of a file's text in U-Boot's old shell

-- a text after whose last newline are so many bytes: what is before that newline, and what is after it
abbrev pub parted_at : (behind : ℕ) → List ℕ → Option (List ℕ × List ℕ)
parted_at behind text =
    if behind == length text then None
    else Some (take (length text - (behind + 1)) text, drop (length text - behind) text)

-- a text at its last newline, if it has one
abbrev pub parted : List ℕ → Option (List ℕ × List ℕ)
parted text = parted_at (suffix_len is_no_newline text) text

-- whether a text that is parted so has one newline, as its last byte: then none is added at its end (`parse_string_outer`)
abbrev pub is_one_ended : (before behind : List ℕ) → Bool
is_one_ended before behind = not (has_bytes behind) && not (list_any is_newline before)

abbrev pub is_empty : Script → Bool
is_empty tree.Empty = true
is_empty (tree.Runs list more) = false

-- whether a text has a tree, and no command
abbrev pub is_blank : Option Script → Bool
is_blank None = false
is_blank (Some script) = is_empty script

-- whether the newline after these bytes ends a line: a word `fi` on a line of its own is a fault then, since no quotes and no compound
-- command are open there, and no backslash is straight before the newline
abbrev pub is_closed : (newer : Bool) → (before : List ℕ) → Bool
is_closed newer before =
    is_some (old_tree_of newer before) && not (is_some (old_tree_of newer (before ++ codes "\nfi")))

abbrev pub ends_parted : (newer : Bool) → Option (List ℕ × List ℕ) → Bool
ends_parted newer None = false
ends_parted newer (Some parts) =
    not (is_one_ended parts.0 parts.1) && is_blank (old_tree_of newer parts.1) && is_closed newer parts.0

-- whether the last line of a text has no command, and is not all of it
abbrev pub ends_empty : (newer : Bool) → List ℕ → Bool
ends_empty newer text = ends_parted newer (parted text)

-- an assignment of nothing: it sets the status to 0
abbrev pub nothing : AndOr
nothing = tree.Starts (tree.Assign []) tree.Alone

abbrev pub with_nothing : Script → Script
with_nothing tree.Empty = tree.Runs nothing tree.Empty
with_nothing (tree.Runs list more) = tree.Runs list (with_nothing more)

-- The status of a text that ends by itself is that of its last line (`parse_stream_outer`), and a line without a command gives 0
-- (`run_list_real`). After an `exit` of 2025.01 no further line is read
abbrev pub with_end : (newer : Bool) → (text : List ℕ) → Script → Script
with_end newer text script = if not (is_empty script) && ends_empty newer text then with_nothing script else script

abbrev pub old_sourced : (newer : Bool) → List ℕ → TextRead
old_sourced newer text =
    script_or (fails_when (ends_open newer text)) (option_map (with_end newer text) (old_tree_of newer text))

-- the text of a file that `source` runs (`run_command_list`). U-Boot's old shell reads it a line at a time, as that of `bootcmd`,
-- and what it does after a fault is not followed; if it finds the end while a compound command is open, and had nothing to run
-- before, the status is 1
abbrev pub sourced_in : Shell → List ℕ → TextRead
sourced_in Profile text = script_or Unread (tree_of text)
sourced_in Old2023 text = old_sourced false text
sourced_in Old2025 text = old_sourced true text
sourced_in Modern2025 text = modern_read (modern_text text)
