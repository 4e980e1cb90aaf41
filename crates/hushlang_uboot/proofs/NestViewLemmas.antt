-- The open commands that are on the way, and the blocks that they end.
use Rattle.std.proofs.Common.{◌≡◌, ◌∙◌, refl, ap, false, List, [], ◌∷◌, ◌++◌, map, reverse, length, nat_eq, Some, None}
use Rattle.std.specs.declared.alloc.Global.{Global}
use Rattle.std.specs.declared.rc.Rc.{Rc}
use Rattle.std.specs.declared.vec.Vec.{Vec}
use Rattle.hushlang.specs.Tree as tree
use Rattle.hushlang.specs.TreesShown as view
use Rattle.hushlang.specs.declared.tree.AndOr.{AndOr}
use Rattle.hushlang.specs.declared.tree.Command.{If}
use Rattle.hushlang.specs.declared.tree.Script.{Script}
use Rattle.hushlang.proofs.ViewLemmas.{command_if}
use Rattle.std.proofs.lemmas.List.{map-append, reverse-append}
use Rattle.hushlang_uboot.specs.Nests as says
use Rattle.hushlang_uboot.specs.NestsShown.{opened}
use Rattle.hushlang_uboot.specs.declared.open_commands.Block.{Block}
use Rattle.hushlang_uboot.specs.declared.open_commands.Compound.{Compound}

pub pushed : (stack : List (Compound × Block)) (top : Compound × Block) → reverse (map opened (stack ++ top ∷ [])) ≡ opened top ∷ reverse (map opened stack)
pushed stack top = ap reverse (map-append opened stack (top ∷ [])) ∙ reverse-append (map opened stack) (opened top ∷ [])

pub body_is : (lists : List AndOr) → nat_eq (length lists) 0 ≡ false → says.body_of (map view.list lists) ≡ view.runs (map view.list lists)
body_is [] some = absurd (cc)
body_is (list ∷ lists) some = refl

pub if_alone : (arms : Vec (Rc Script Global × Rc Script Global) Global) → view.command (If arms None) ≡ tree.If (view.arms (map view.arm arms.items) None)
if_alone arms = command_if arms None

pub if_else : (arms : Vec (Rc Script Global × Rc Script Global) Global) (body : Rc Script Global) → view.command (If arms (Some body)) ≡ tree.If (view.arms (map view.arm arms.items) (Some (view.script body.value)))
if_else arms body = command_if arms (Some body)

pub ruleset blocks = (body_is)

pub ruleset ifs = (if_alone, if_else)
