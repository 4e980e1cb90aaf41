-- Blocks without a command, as the code has them.
use Rattle.std.proofs.Common.{◌≡◌, ◌∙◌, Bool, true, false, List, [], ◌∷◌, length, map, Some, None, refl, sym, ap}
use Rattle.std.specs.Prelude.{slice_get}
use Rattle.std.proofs.Math.Dec.{eqb, eqb-suc-zero}
use Rattle.hushlang.specs.Tree as tree
use Rattle.hushlang.specs.Tree.{Script, Command, Joined}
use Rattle.hushlang.specs.TreesShown as view
use Rattle.hushlang.specs.declared.call.Call.{Call}
use Rattle.hushlang.specs.declared.tree.Word.{Word}
use Rattle.hushlang.specs.declared.tree.AndOr.{AndOr as ListCode}
use Rattle.hushlang.specs.declared.tree.Command.{Command as CommandCode, Simple}
use Rattle.hushlang.specs.declared.tree.Script.{Script as Code, out-Script}
use Rattle.hushlang.proofs.ViewLemmas.{script_out, list_of}
use Rattle.rehearse_machine.proofs.CommandLemmas.{says_if, says_loop, says_simple, says_assign, says_for, Kind, AsSimple, AsAssign, AsIf, AsLoop, AsFor, kind_of}
use Rattle.rehearse_rules.specs.ByShell.{has_no_command}

abbrev pub is_nothing : Command → Bool
is_nothing (tree.Simple []) = true
is_nothing command = false

first_is : (c : Command) (rest : Joined) (more : Script) → has_no_command (tree.Runs (tree.Starts c rest) more) ≡ is_nothing c
first_is (tree.Simple []) rest more = refl
first_is (tree.Simple (word ∷ words)) rest more = refl
first_is (tree.Assign values) rest more = refl
first_is (tree.If arms) rest more = refl
first_is (tree.Loop until cond body) rest more = refl
first_is (tree.For name words body) rest more = refl

-- the first command of the first list, if there is one
abbrev pub begins_with_nothing : List ListCode → Bool
begins_with_nothing [] = false
begins_with_nothing (list ∷ lists) = is_nothing (view.command list.first)

begins : (lists : List ListCode) → has_no_command (view.runs (map view.list lists)) ≡ begins_with_nothing lists
begins [] = refl
begins (list ∷ lists) =
    ap (λ (x : tree.AndOr). has_no_command (tree.Runs x (view.runs (map view.list lists)))) (list_of list.first list.rest)
    ∙ first_is (view.command list.first) (view.joins (map view.joined list.rest.items)) (view.runs (map view.list lists))

pub block_begins : (block : Code) → has_no_command (view.script block) ≡ begins_with_nothing (out-Script block).lists.items
block_begins block = ap has_no_command (script_out block) ∙ begins (out-Script block).lists.items

found : (lists : List ListCode) (list : ListCode) → slice_get lists 0 ≡ Some list → begins_with_nothing lists ≡ is_nothing (view.command list.first)
found [] list e = absurd (let f = e in cc)
found (x ∷ lists) list e = let same : x ≡ list = (let f = e in cc) in ap (λ (y : ListCode). is_nothing (view.command y.first)) same

missing : (lists : List ListCode) → slice_get lists 0 ≡ None → begins_with_nothing lists ≡ false
missing [] e = refl
missing (x ∷ lists) e = absurd (let f = e in cc)

-- by the lists of the block, and the first of them
module _ (block : Code) (lists : List ListCode) (is : lists ≡ (out-Script block).lists.items) where
  by_lists : has_no_command (view.script block) ≡ begins_with_nothing lists
  by_lists = block_begins block ∙ ap begins_with_nothing (sym is)

  pub by_first : (list : ListCode) → slice_get lists 0 ≡ Some list → has_no_command (view.script block) ≡ is_nothing (view.command list.first)
  by_first list e = by_lists ∙ found lists list e

  pub without_first : slice_get lists 0 ≡ None → has_no_command (view.script block) ≡ false
  without_first e = by_lists ∙ missing lists e

empty_is : (words : List Word) → eqb (length words) 0 ≡ is_nothing (tree.Simple (map view.word words))
empty_is [] = refl
empty_is (word ∷ words) = eqb-suc-zero (length words)

-- a simple command of these words
pub simple_is : (c : CommandCode) (call : Call) (words : List Word) → c ≡ Simple call → map view.word words ≡ view.call call → eqb (length words) 0 ≡ is_nothing (view.command c)
simple_is c call words e same =
    empty_is words ∙ ap (λ (x : List tree.Word). is_nothing (tree.Simple x)) same ∙ sym (ap is_nothing (says_simple c call e))

other_at : (c : CommandCode) → Kind c → ((call : Call) → c ≡ Simple call → ⊥) → is_nothing (view.command c) ≡ false
other_at c (AsSimple call e) other = absurd (other call e)
other_at c (AsAssign values e) other = ap is_nothing (says_assign c values e)
other_at c (AsIf arms more e) other = ap is_nothing (says_if c arms more e)
other_at c (AsLoop until cond body e) other = ap is_nothing (says_loop c until cond body e)
other_at c (AsFor name words body e) other = ap is_nothing (says_for c name words body e)

pub other_is : (c : CommandCode) → ((call : Call) → c ≡ Simple call → ⊥) → is_nothing (view.command c) ≡ false
other_is c other = other_at c (kind_of c) other
