-- Without a device list no text leads to a file, and the order is the one of the names alone.
use Rattle.std.proofs.Common.{◌≡◌, Bool, true, false, List, [], ◌∷◌, ◌++◌, ◌||◌, map, Option, Some, None, Ok, Err, refl, ap, ◌∙◌, if◌then◌else◌}
use Rattle.std.specs.Prelude.{Result, is_some}
use Rattle.std.specs.List.{flat_map, fold}
use Rattle.envimage.specs.Data.{Pair}
use Rattle.envtools.specs.Environment.{value_of}
use Rattle.hushlang.specs.Tree.{Script, Empty, Runs, AndOr, Starts, Joined, Alone, Joins, Command, Simple, Assign, If, Loop, For, Arms, NoElse, Else, Arm, Word}
use Rattle.hushlang.specs.declared.token.SyntaxError.{SyntaxError}
use Rattle.hushcheck.specs.Calls.{Reading, SetsMore, after_arms, after_call, after_command, after_deleted, after_files, after_joined, after_list, after_name, after_operand, after_script, after_set, after_sets, after_value, after_word, after_words, begun, files_by_read, files_by_value, find, find_lacking, find_not_followed, is_lacking, set_name, skip}
use Rattle.hushcheck.specs.CallSets.{Sets, behind_options, deleted_by_words, none, set_by_call, set_by_env, set_by_words, set_to_value, sets_more, takes_names}
use Rattle.hushcheck.specs.Names.{Text, is_run, read_by, run_by_value, written_out}
use Rattle.hushcheck.specs.Order.{IsOrder, Turn, Variable, File, called_by, files_in, once, run_by, text_of, variables_in}
use Rattle.hushcheck.specs.Rules.{Rules}
use Rattle.envtools.specs.Environment.{same}

-- ---- what a call sets by its words runs no file

abbrev IsQuiet : Sets → Type 0
IsQuiet s = s.runs ≡ []

quiet-if : (b : Bool) (x y : Sets) → IsQuiet x → IsQuiet y → IsQuiet (if b then x else y)
quiet-if true x y p q = p
quiet-if false x y p q = q

quiet-value : (s : Sets) (words : List (Option Text)) → IsQuiet s → IsQuiet (set_to_value s words)
quiet-value s [] p = p
quiet-value s (name ∷ []) p = p
quiet-value s (name ∷ value ∷ words) p = p

quiet-env : (s : Sets) (words : List (Option Text)) → IsQuiet s → IsQuiet (set_by_env s words)
quiet-env s [] p = p
quiet-env s (None ∷ words) p = p
quiet-env s (Some word ∷ words) p =
    quiet-if (same word _) (set_by_words s words) _ (quiet-value s (behind_options words) p) (quiet-if (same word _) (deleted_by_words s words) _ p (quiet-if (takes_names word) (sets_more s) s p p))

quiet-call : (command : Option Text) (words : List Word) → IsQuiet (set_by_call None command words)
quiet-call None words = refl
quiet-call (Some command) words =
    let all = map written_out words in
    quiet-if _ (set_by_words none all) _ (quiet-value none (behind_options all) refl) (quiet-if _ (set_by_env none all) none (quiet-env none all refl) refl)

-- ---- so no text leads to a file

abbrev IsPlain : Reading → Type 0
IsPlain r = (r.devices ≡ None) × (r.files ≡ [])

plain-if : (b : Bool) (x y : Reading) → IsPlain x → IsPlain y → IsPlain (if b then x else y)
plain-if true x y p q = p
plain-if false x y p q = q

plain-fold : {X : Type 0} (f : Reading → X → Reading) → ((r : Reading) (x : X) → IsPlain r → IsPlain (f r x)) → (r : Reading) (xs : List X) → IsPlain r → IsPlain (fold f r xs)
plain-fold f keeps r [] p = p
plain-fold f keeps r (x ∷ xs) p = plain-fold f keeps (f r x) xs (keeps r x p)

plain-word : (r : Reading) (word : Word) → IsPlain r → IsPlain (after_word r word)
plain-word r word p = p

plain-operand : (r : Reading) (word : Word) → IsPlain r → IsPlain (after_operand r word)
plain-operand r word p = plain-if (is_some (written_out word)) r (find_not_followed r) p p

plain-name : (r : Reading) (name : Option Text) → IsPlain r → IsPlain (after_name r name)
plain-name r None p = p
plain-name r (Some name) p = plain-if (is_lacking r.devices name) (find_lacking name r) r p p

plain-files : (runs : List Text) (r : Reading) → runs ≡ [] → IsPlain r → IsPlain (after_files runs r)
plain-files [] r e p = (p.0, ap (λ files. files ++ []) p.1)
plain-files (name ∷ names) r e p = absurd cc

plain-sets : (s : Sets) (r : Reading) → IsQuiet s → IsPlain r → IsPlain (after_sets s r)
plain-sets s r quiet p = plain-files s.runs (after_deleted s.deletes (after_set s.sets r)) quiet (sets s.sets.more)
  where
    sets : (more : Bool) → IsPlain (record (if more then find SetsMore r else r) { sets = r.sets ++ s.sets.names; more = r.more || more })
    sets true = p
    sets false = p

plain-call : (r : Reading) (word : Word) (words : List Word) → IsPlain r → IsPlain (after_call r word words)
plain-call r word words p =
    let named = plain-name r (written_out word) p in
    let quiet : IsQuiet (set_by_call r.devices (written_out word) words) = rw p.0 (quiet-call (written_out word) words) in
    plain-fold after_word plain-word _ words (plain-sets (set_by_call r.devices (written_out word) words) (after_name r (written_out word)) quiet named)

plain-words : (r : Reading) (words : List Word) → IsPlain r → IsPlain (after_words r words)
plain-words r [] p = p
plain-words r (word ∷ words) p =
    plain-if (is_run (written_out word)) (fold after_operand (skip 1 r) words) (after_call r word words) (plain-fold after_operand plain-operand (skip 1 r) words p) (plain-call r word words p)

mutual
  plain-script : (r : Reading) (script : Script) → IsPlain r → IsPlain (after_script r script)
  plain-script r Empty p = p
  plain-script r (Runs list more) p = plain-script (after_list r list) more (plain-list r list p)

  plain-list : (r : Reading) (list : AndOr) → IsPlain r → IsPlain (after_list r list)
  plain-list r (Starts first rest) p = plain-joined (after_command r first) rest (plain-command r first p)

  plain-joined : (r : Reading) (rest : Joined) → IsPlain r → IsPlain (after_joined r rest)
  plain-joined r Alone p = p
  plain-joined r (Joins op command rest) p = plain-joined (after_command r command) rest (plain-command r command p)

  plain-command : (r : Reading) (command : Command) → IsPlain r → IsPlain (after_command r command)
  plain-command r (Simple words) p = plain-words r words p
  plain-command r (Assign values) p = plain-fold after_value (λ q value h. h) r values p
  plain-command r (If arms) p = plain-arms r arms p
  plain-command r (Loop until cond body) p = plain-script (skip 1 (after_script (skip 1 r) cond)) body (plain-script (skip 1 r) cond p)
  plain-command r (For name words body) p =
      plain-script (skip 1 (fold after_word (skip 3 (set_name name r)) words)) body (plain-fold after_word plain-word (skip 3 (set_name name r)) words p)

  plain-arms : (r : Reading) (arms : Arms) → IsPlain r → IsPlain (after_arms r arms)
  plain-arms r NoElse p = p
  plain-arms r (Else body) p = plain-script (skip 1 r) body p
  plain-arms r (Arm cond body more) p =
      plain-arms (after_script (skip 1 (after_script (skip 1 r) cond)) body) more
      (plain-script (skip 1 (after_script (skip 1 r) cond)) body (plain-script (skip 1 r) cond p))

no_files : (text : Text) (read : Result Script SyntaxError) → files_by_read None text read ≡ []
no_files text (Ok script) = (plain-script (begun None text) script (refl, refl)).1
no_files text (Err error) = refl

-- ---- so each turn is one of a variable

module _ (rules : Rules) (alone : rules.devices ≡ None) (env : List Pair) where
  called_none : (t : Turn) → called_by rules env t ≡ []
  called_none t = by (text_of rules env t)
    where
      by : (text : Option Text) → files_by_value rules text ≡ []
      by None = refl
      by (Some text) = rw alone (no_files text (read_by rules.shell text))

  none_called : (turns : List Turn) → flat_map (called_by rules env) turns ≡ []
  none_called [] = refl
  none_called (t ∷ turns) = ap (λ ns. ns ++ flat_map (called_by rules env) turns) (called_none t) ∙ none_called turns

only_variables : (turns : List Turn) → files_in turns ≡ [] → turns ≡ map Variable (variables_in turns)
only_variables [] e = refl
only_variables (Variable name ∷ turns) e = ap (λ ts. Variable name ∷ ts) (only_variables turns e)
only_variables (File name ∷ turns) e = absurd cc

variables_reach : (rules : Rules) (env : List Pair) (names : List Text) → flat_map (run_by rules env) (map Variable names) ≡ flat_map (λ name. run_by_value rules.shell (value_of env name)) names
variables_reach rules env [] = refl
variables_reach rules env (n ∷ names) = ap (λ ns. run_by_value rules.shell (value_of env n) ++ ns) (variables_reach rules env names)

-- The turns are those of the variables that are asked for, and of those that the text of each in turn runs, each once.
pub plain_order : (rules : Rules) (env : List Pair) (asked : List Text) (turns : List Turn) → rules.devices ≡ None → IsOrder rules env asked [] turns
    → (turns ≡ map Variable (variables_in turns)) × (variables_in turns ≡ once (asked ++ flat_map (λ name. run_by_value rules.shell (value_of env name)) (variables_in turns)))
plain_order rules env asked turns alone o =
    let none : files_in turns ≡ [] = o.all_files ∙ ap once (none_called rules alone env turns) in
    let is = only_variables turns none in
    (is, o.all_variables ∙ ap (λ ts. once (asked ++ flat_map (run_by rules env) ts)) is ∙ ap (λ ns. once (asked ++ ns)) (variables_reach rules env (variables_in turns)))
