-- The names that a tree runs, by what the tree is made of.
use Rattle.std.proofs.Common.{◌≡◌, ℕ, Bool, List, [], ◌∷◌, ◌++◌, map, Option, Some, None, Vec, refl, sym, ap, ◌∙◌, append_assoc}
use Rattle.std.specs.Prelude.{OnOk, Result, Ok, Err, option_to_list}
use Rattle.std.proofs.lemmas.List.{append-nil}
use Rattle.std.specs.List.{cons_option, filter_map, flat_map}
use Rattle.std.specs.declared.alloc.Global.{Global}
use Rattle.std.specs.declared.rc.Rc.{Rc}
use Rattle.hushlang.specs.Tree as tree
use Rattle.hushlang.specs.TreesShown as view
use Rattle.hushlang.specs.declared.tree.Op.{Op}
use Rattle.hushlang.specs.declared.tree.Word.{Word}
use Rattle.hushlang.specs.declared.tree.AndOr.{AndOr}
use Rattle.hushlang.specs.declared.call.Call.{Call}
use Rattle.hushlang.specs.declared.tree.Command.{Command, Simple, Assign, If, Loop, For}
use Rattle.hushlang.specs.declared.tree.Script.{Script, out-Script}
use Rattle.hushlang.proofs.ViewLemmas.{script_out, list_of, command_simple, command_assign, command_loop, command_for, command_if}
use Rattle.hushcheck.specs.Order.{with_names}
use Rattle.hushcheck.proofs.OrderLemmas.{with_names-append}
use Rattle.hushcheck.specs.Names.{Text, written_out, run_by_script, run_by_list, run_by_joined, run_by_command, run_by_arms, run_by_arm, run_by_words}

run_by_runs : (lists : List AndOr) → run_by_script (view.runs (map view.list lists)) ≡ flat_map (λ l. run_by_list (view.list l)) lists
run_by_runs [] = refl
run_by_runs (l ∷ lists) = ap (λ ns. run_by_list (view.list l) ++ ns) (run_by_runs lists)

-- a script, by its lists
pub by_lists : (s : Script) (lists : List AndOr) → lists ≡ (out-Script s).lists.items → flat_map (λ l. run_by_list (view.list l)) lists ≡ run_by_script (view.script s)
by_lists s lists e = sym (ap run_by_script (script_out s) ∙ ap (λ ls. run_by_script (view.runs (map view.list ls))) (sym e) ∙ run_by_runs lists)

run_by_joins : (rest : List (Op × Command)) → run_by_joined (view.joins (map view.joined rest)) ≡ flat_map (λ p. run_by_command (view.command p.1)) rest
run_by_joins [] = refl
run_by_joins (p ∷ rest) = ap (λ ns. run_by_command (view.command p.1) ++ ns) (run_by_joins rest)

-- a list, by its commands
pub by_commands : (l : AndOr) (rest : List (Op × Command)) → rest ≡ l.rest.items → run_by_command (view.command l.first) ++ flat_map (λ p. run_by_command (view.command p.1)) rest ≡ run_by_list (view.list l)
by_commands l rest e = sym (ap run_by_list (list_of l.first l.rest) ∙ ap (λ ns. run_by_command (view.command l.first) ++ ns) (ap (λ r. run_by_joined (view.joins (map view.joined r))) (sym e) ∙ run_by_joins rest))

pub by_words : (c : Command) (call : Call) (all : List Word) → c ≡ Simple call → map view.word all ≡ view.call call → run_by_words (map view.word all) ≡ run_by_command (view.command c)
by_words c call all e is = ap run_by_words is ∙ sym (ap (λ x. run_by_command (view.command x)) e ∙ ap run_by_command (command_simple call))

pub by_values : (c : Command) (values : Vec (Vec ℕ Global × Word) Global) → c ≡ Assign values → [] ≡ run_by_command (view.command c)
by_values c values e = sym (ap (λ x. run_by_command (view.command x)) e ∙ ap run_by_command (command_assign values))

pub by_loop : (c : Command) (until : Bool) (cond body : Rc Script Global) → c ≡ Loop until cond body → run_by_script (view.script cond.value) ++ run_by_script (view.script body.value) ≡ run_by_command (view.command c)
by_loop c until cond body e = sym (ap (λ x. run_by_command (view.command x)) e ∙ ap run_by_command (command_loop until cond body))

pub by_for : (c : Command) (name : Vec ℕ Global) (words : Vec Word Global) (body : Rc Script Global) → c ≡ For name words body → run_by_script (view.script body.value) ≡ run_by_command (view.command c)
by_for c name words body e = sym (ap (λ x. run_by_command (view.command x)) e ∙ ap run_by_command (command_for name words body))

abbrev pub run_by_other : Option tree.Script → List Text
run_by_other None = []
run_by_other (Some body) = run_by_script body

run_by_all : (arms : List (tree.Script × tree.Script)) (other : Option tree.Script) → run_by_arms (view.arms arms other) ≡ flat_map run_by_arm arms ++ run_by_other other
run_by_all [] None = refl
run_by_all [] (Some body) = refl
run_by_all (arm ∷ arms) other = ap (λ ns. run_by_arm arm ++ ns) (run_by_all arms other) ∙ sym (append_assoc (run_by_arm arm) (flat_map run_by_arm arms) (run_by_other other))

-- an `if`, by its arms
pub by_arms : (c : Command) (arms : Vec (Rc Script Global × Rc Script Global) Global) (other : Option (Rc Script Global)) (all : List (Rc Script Global × Rc Script Global)) → c ≡ If arms other → all ≡ arms.items
    → flat_map run_by_arm (map view.arm all) ++ run_by_other (view.script_in other) ≡ run_by_command (view.command c)
by_arms c arms other all e is =
    ap (λ a. flat_map run_by_arm (map view.arm a) ++ run_by_other (view.script_in other)) is
    ∙ sym (ap (λ x. run_by_command (view.command x)) e ∙ ap run_by_command (command_if arms other) ∙ run_by_all (map view.arm arms.items) (view.script_in other))

pub arms_map : (arms : List (Rc Script Global × Rc Script Global)) → flat_map (λ arm. run_by_arm (view.arm arm)) arms ≡ flat_map run_by_arm (map view.arm arms)
arms_map [] = refl
arms_map (arm ∷ arms) = ap (λ ns. run_by_arm (view.arm arm) ++ ns) (arms_map arms)

-- what an `Ok` says, in other words
pub ok_so : {T E P Q : Type 0} (r : Result T E) → (P → Q) → OnOk r P → OnOk r Q
ok_so (Ok v) so p = so p
ok_so (Err e) so p = p

-- the names of two scripts, one after the other
pub two_scripts : (start mid next : List Text) (s u r v : Script) → s ≡ r → u ≡ v → mid ≡ with_names start (run_by_script (view.script s)) → next ≡ with_names mid (run_by_script (view.script u)) → next ≡ with_names start (run_by_script (view.script r) ++ run_by_script (view.script v))
two_scripts start mid next s u r v e f first second =
    second ∙ ap (λ ns. with_names ns (run_by_script (view.script u))) first ∙ sym (with_names-append start (run_by_script (view.script s)) (run_by_script (view.script u)))
    ∙ ap (λ x. with_names start (run_by_script (view.script x) ++ run_by_script (view.script u))) e ∙ ap (λ x. with_names start (run_by_script (view.script r) ++ run_by_script (view.script x))) f

-- the names of arms, and the names of a block after `else`
pub with_other : (start mid next a : List Text) (s : Script) (body : Rc Script Global) (other : Option (Rc Script Global)) → other ≡ Some body → s ≡ body.value → mid ≡ with_names start a → next ≡ with_names mid (run_by_script (view.script s)) → next ≡ with_names start (a ++ run_by_other (view.script_in other))
with_other start mid next a s body other e f first second =
    second ∙ ap (λ ns. with_names ns (run_by_script (view.script s))) first ∙ sym (with_names-append start a (run_by_script (view.script s)))
    ∙ ap (λ x. with_names start (a ++ run_by_script (view.script x))) f ∙ ap (λ o. with_names start (a ++ run_by_other (view.script_in o))) (sym e)

pub without_other : (start mid a : List Text) (other : Option (Rc Script Global)) → other ≡ None → mid ≡ with_names start a → mid ≡ with_names start (a ++ run_by_other (view.script_in other))
without_other start mid a other e first = first ∙ ap (with_names start) (sym (append-nil a)) ∙ ap (λ o. with_names start (a ++ run_by_other (view.script_in o))) (sym e)

cons_option-is : (o : Option Text) (rest : List Text) → option_to_list o ++ rest ≡ cons_option o rest
cons_option-is None rest = refl
cons_option-is (Some name) rest = refl

pub words_map : (words : List Word) → flat_map (λ w. option_to_list (written_out (view.word w))) words ≡ filter_map written_out (map view.word words)
words_map [] = refl
words_map (w ∷ words) = ap (λ ns. option_to_list (written_out (view.word w)) ++ ns) (words_map words) ∙ cons_option-is (written_out (view.word w)) (filter_map written_out (map view.word words))
