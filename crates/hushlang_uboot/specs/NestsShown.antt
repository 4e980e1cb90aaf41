-- What the code's blocks and open commands say.
use Rattle.std.specs.Prelude.{◌≡◌, List, [], ◌∷◌, ◌++◌, map, reverse, option_map, Option, Some, None}
use Rattle.hushlang.specs.Tree as tree
use Rattle.hushlang.specs.TreesShown as view
use Rattle.hushlang_uboot.specs.Nests as says
use Rattle.hushlang_uboot.specs.declared.open_commands.Block.{Block}
use Rattle.hushlang_uboot.specs.declared.open_commands.Compound.{Compound}
use Rattle.hushlang_uboot.specs.declared.open_commands.Compound.TheVariants as code
use Rattle.hushlang_uboot.specs.declared.open_commands.Opens.{Opens}
use Rattle.hushlang_uboot.specs.declared.next_part.Next.{Next}
use Rattle.hushlang_uboot.specs.declared.next_part.Next.TheVariants as next_code
use Rattle.hushlang_uboot.specs.declared.nest.Nest.{Nest}
use Rattle.hushlang_uboot.specs.declared.nest.Gone.{Gone}
use Rattle.hushlang_uboot.specs.declared.nest.Gone.TheVariants as gone_code

abbrev pub block : Block → says.Block
block b = record {
  lists = map view.list b.lists.items;
  first = option_map view.command b.first;
  rest = map view.joined b.rest.items;
  op = b.op;
}

abbrev pub compound : Compound → says.Compound
compound (code.Condition arms) = says.Condition (map view.arm arms.items)
compound (code.Arm arms condition) = says.Arm (map view.arm arms.items) (view.script condition.value)
compound (code.Else arms) = says.Else (map view.arm arms.items)
compound (code.Test until) = says.Test until
compound (code.Body until condition) = says.Body until (view.script condition.value)
compound code.Name = says.Name
compound (code.In name) = says.In name.items
compound (code.Words name) = says.Words name.items
compound (code.Do name words) = says.Do name.items (view.words_in words)
compound (code.Each name words) = says.Each name.items (view.words_in words)
compound (code.Group braces) = says.Group braces

abbrev pub next : Next → says.Next
next (next_code.Enters c) = says.Enters (compound c)
next (next_code.Closes c) = says.Closes (view.command c)
next next_code.Strays = says.Strays

abbrev pub opened : Compound × Block → says.Compound × says.Block
opened o = (compound o.0, block o.1)

unfoldable pub opens : Opens → List (says.Compound × says.Block)
opens o = reverse (map opened o.stack.items)

abbrev pub none_open : List (says.Compound × says.Block)
none_open = []

-- the first of the open commands, and the others
abbrev pub IsTaken : List (says.Compound × says.Block) → Option (Compound × Block) → List (says.Compound × says.Block) → Type 0
IsTaken old None new = (old ≡ []) × (new ≡ [])
IsTaken old (Some taken) new = old ≡ opened taken ∷ new

abbrev pub with_list : tree.Command → says.Block → says.Block
with_list first b = record b { lists = b.lists ++ tree.Starts first (view.joins b.rest) ∷ []; rest = [] }

unfoldable pub nest : Nest → says.Nest
nest n = record { block = block n.block; opens = opens n.opens }

-- a block without a command is on the way
abbrev pub blank : says.Nest → says.Nest
blank n = record n { block = says.no_command }

-- a command has ended, and is one of this block
abbrev pub closed : tree.Command → (outer : says.Block) → says.Nest → says.Nest
closed command outer n = record n { block = says.with_command command outer }

-- where a reserved word leads to, and what is nested then
abbrev pub gone : Gone → says.Nest → says.Gone
gone gone_code.Entered n = says.Entered n
gone gone_code.Closed n = says.Closed n
gone gone_code.Astray n = says.Astray
