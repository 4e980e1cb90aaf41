-- Which variables the texts that are reached change: those that they set or delete. Ours.
use Rattle.std.specs.Prelude.{◌≡◌, ◌||◌, ◌++◌, ◌∷◌, Bool, false, List, [], map, Option, Some, None, Result, Ok, Err}
use Rattle.std.specs.List.{flat_map, list_any}
use Rattle.envimage.specs.Data.{Pair}
use Rattle.hushlang.specs.Tree.{Script}
use Rattle.hushlang.specs.declared.token.SyntaxError.{SyntaxError}
use Rattle.hushcheck.specs.Calls.{Reading, calls_of, files_by_text}
use Rattle.hushcheck.specs.Names.{Text, read_by, run_by_text}
use Rattle.hushcheck.specs.Order.{IsOrder, Turn, text_of, with_names}
use Rattle.hushcheck.specs.Rules.{Rules}

-- the variables that are changed, and whether others may be, whose names are not known
pub record Changed : Type 0 where
  pub names : List Text
  pub more : Bool

abbrev pub nothing : Changed
nothing = record { names = []; more = false }

-- ---- a text

-- what it sets, and then what it deletes
abbrev pub changed_in : Reading → Changed
changed_in r = record { names = r.sets ++ r.deletes; more = r.more }

-- a text that is refused is not run, so it changes nothing
abbrev pub changed_read : Rules → (text : Text) → Result Script SyntaxError → Changed
changed_read rules text (Ok script) = changed_in (calls_of rules.devices text script)
changed_read rules text (Err error) = nothing

abbrev pub changed_by_text : Rules → (text : Text) → Changed
changed_by_text rules text = changed_read rules text (read_by rules.shell text)

abbrev pub changed_by_value : Rules → Option Text → Changed
changed_by_value rules None = nothing
changed_by_value rules (Some text) = changed_by_text rules text

abbrev pub changed_by : Rules → List Pair → Turn → Changed
changed_by rules env turn = changed_by_value rules (text_of rules env turn)

-- ---- texts one after another

-- what one more text changes: names that are new go last, each once
abbrev pub with_changed : Changed → Changed → Changed
with_changed c text = record { names = with_names c.names text.names; more = c.more || text.more }

-- the same of texts in their order
abbrev pub changed_after : Changed → List Changed → Changed
changed_after c texts = record {
  names = with_names c.names (flat_map (λ text. text.names) texts);
  more = c.more || list_any (λ text. text.more) texts;
}

-- What is changed after the texts that are reached, in their order, if that was changed before.
pub record Changes (rules : Rules) (env : List Pair) (before : Changed) (asked called : List Text) (after : Changed) :
    Type 0 where
  pub order : List Turn
  pub is_order : IsOrder rules env asked called order
  pub after_is : after ≡ changed_after before (map (changed_by rules env) order)

-- What is changed by the texts that are reached from a variable; or from a text, if one is given, which comes first.
abbrev pub ChangesFrom : Rules → List Pair → (name : Text) → Option Text → Changed → Type 0
ChangesFrom rules env name None changed = Changes rules env nothing (name ∷ []) [] changed
ChangesFrom rules env name (Some text) changed =
    Changes rules env (with_changed nothing (changed_by_text rules text)) (run_by_text rules.shell text)
    (files_by_text rules text) changed
