-- The trees of nested commands hold a command in each block.
use Rattle.std.proofs.Common.{ℕ, List, [], ◌∷◌, ◌++◌, Option, Some, None, true, false}
use Rattle.hushlang.specs.Tree as tree
use Rattle.hushlang.specs.Tree.{Script, AndOr, Command, IsProper, IsProperList, IsProperJoined, IsProperCommand, HasArm, AreProperArms, HoldsCommand}
use Rattle.hushlang.specs.TreesShown.{runs, joins, arms}
use Rattle.hushlang.specs.declared.tree.Op.{Op}
use Rattle.hushlang_uboot.specs.Nests.{Block, with_command, list_ended, body_of, Compound, Condition, Arm, Else, Test, Body, Name, In, Words, Do, Each, Group, Next, Enters, Closes, Strays, next_part, name_read, words_read, idle, unmet, Nest, nothing_open, command_added, operator_read, list_closed, begun, Gone, Entered, Closed, Astray, gone_to, goes_among, goes_on, turned, named, worded, given, group_of, script_in}
use Rattle.hushlang_uboot.specs.declared.reserved.Reserved.{Reserved}
use Rattle.hushlang_uboot.specs.declared.reserved.Reserved.TheVariants as r

-- ---- what holds on the way

abbrev AreLists : List AndOr → Type 0
AreLists [] = Unit {0}
AreLists (list ∷ lists) = IsProperList list × AreLists lists

abbrev AreJoined : List (Op × Command) → Type 0
AreJoined [] = Unit {0}
AreJoined (one ∷ rest) = IsProperCommand one.1 × AreJoined rest

abbrev IsFirst : Option Command → Type 0
IsFirst None = Unit {0}
IsFirst (Some c) = IsProperCommand c

abbrev IsBlock : Block → Type 0
IsBlock b = AreLists b.lists × IsFirst b.first × AreJoined b.rest

abbrev AreArms : List (Script × Script) → Type 0
AreArms [] = Unit {0}
AreArms (arm ∷ all) = (HoldsCommand arm.0 × HoldsCommand arm.1) × AreArms all

abbrev IsSome : List (Script × Script) → Type 0
IsSome [] = ⊥
IsSome (arm ∷ all) = Unit {0}

abbrev IsCompound : Compound → Type 0
IsCompound (Condition all) = AreArms all
IsCompound (Arm all condition) = AreArms all × HoldsCommand condition
IsCompound (Else all) = AreArms all × IsSome all
IsCompound (Test until) = Unit {0}
IsCompound (Body until condition) = HoldsCommand condition
IsCompound Name = Unit {0}
IsCompound (In name) = Unit {0}
IsCompound (Words name) = Unit {0}
IsCompound (Do name words) = Unit {0}
IsCompound (Each name words) = Unit {0}
IsCompound (Group braces) = Unit {0}

abbrev AreOpen : List (Compound × Block) → Type 0
AreOpen [] = Unit {0}
AreOpen (o ∷ opens) = (IsCompound o.0 × IsBlock o.1) × AreOpen opens

abbrev pub IsNest : Nest → Type 0
IsNest n = IsBlock n.block × AreOpen n.opens

abbrev IsNext : Next → Type 0
IsNext (Enters compound) = IsCompound compound
IsNext (Closes command) = IsProperCommand command
IsNext Strays = Unit {0}

abbrev pub IsGone : Gone → Type 0
IsGone (Entered n) = IsNest n
IsGone (Closed n) = IsNest n
IsGone Astray = Unit {0}

lists_more : (a b : List AndOr) → AreLists a → AreLists b → AreLists (a ++ b)
lists_more [] b p q = q
lists_more (list ∷ a) b p q = (p.0, lists_more a b p.1 q)

joined_more : (a b : List (Op × Command)) → AreJoined a → AreJoined b → AreJoined (a ++ b)
joined_more [] b p q = q
joined_more (one ∷ a) b p q = (p.0, joined_more a b p.1 q)

arms_append : (a b : List (Script × Script)) → AreArms a → AreArms b → AreArms (a ++ b)
arms_append [] b p q = q
arms_append (arm ∷ a) b p q = (p.0, arms_append a b p.1 q)

-- ---- scripts

runs_proper : (lists : List AndOr) → AreLists lists → IsProper (runs lists)
runs_proper [] all = tt
runs_proper (list ∷ lists) all = (all.0, runs_proper lists all.1)

joins_proper : (rest : List (Op × Command)) → AreJoined rest → IsProperJoined (joins rest)
joins_proper [] all = tt
joins_proper (one ∷ rest) all = (all.0, joins_proper rest all.1)

body_holds : (lists : List AndOr) → AreLists lists → HoldsCommand (body_of lists)
body_holds [] all = ((tt, tt), tt)
body_holds (list ∷ lists) all = (all.0, runs_proper lists all.1)

abbrev IsOther : Option Script → Type 0
IsOther None = Unit {0}
IsOther (Some body) = HoldsCommand body

arms_proper : (all : List (Script × Script)) (other : Option Script) → AreArms all → IsOther other → AreProperArms (arms all other)
arms_proper [] None all h = tt
arms_proper [] (Some body) all h = h
arms_proper (arm ∷ more) other all h = (all.0.0, all.0.1, arms_proper more other all.1 h)

has_arm : (all : List (Script × Script)) (other : Option Script) → AreArms all → IsSome all → IsOther other → HasArm (arms all other)
has_arm [] other all some h = absurd some
has_arm (arm ∷ more) other all some h = (all.0.0, all.0.1, arms_proper more other all.1 h)

some_more : (all : List (Script × Script)) (arm : Script × Script) → IsSome (all ++ arm ∷ [])
some_more [] arm = tt
some_more (one ∷ all) arm = tt

arms_more : (all : List (Script × Script)) (condition body : Script) → AreArms all → HoldsCommand condition → HoldsCommand body → AreArms (all ++ (condition, body) ∷ [])
arms_more all condition body a c h = arms_append all ((condition, body) ∷ []) a ((c, h), tt)

-- ---- blocks

with_first : (o : Option Command) (c : Command) (b : Block) → IsFirst o → IsProperCommand c → IsBlock b → IsBlock (elim o [
  | None ↦ record b { first = Some c }
  | Some first ↦ record b { rest = b.rest ++ (b.op, c) ∷ [] }
])
with_first None c b f p h = (h.0, p, h.2)
with_first (Some first) c b f p h = (h.0, h.1, joined_more b.rest ((b.op, c) ∷ []) h.2 (p, tt))

with_command_block : (c : Command) (b : Block) → IsProperCommand c → IsBlock b → IsBlock (with_command c b)
with_command_block c b p h = with_first b.first c b h.1 p h

with_ended : (o : Option Command) (b : Block) → IsFirst o → IsBlock b → IsBlock (elim o [
  | None ↦ b
  | Some first ↦ record b { lists = b.lists ++ tree.Starts first (joins b.rest) ∷ []; first = None; rest = [] }
])
with_ended None b f h = h
with_ended (Some first) b f h = (lists_more b.lists (tree.Starts first (joins b.rest) ∷ []) h.0 ((f, joins_proper b.rest h.2), tt), tt, tt)

list_ended_block : (b : Block) → IsBlock b → IsBlock (list_ended b)
list_ended_block b h = with_ended b.first b h.1 h

-- ---- compound commands

group_is : (body : Script) → HoldsCommand body → IsProperCommand (group_of body)
group_is body h = (h, ((tt, tt), tt), tt)

next_is : (compound : Compound) (word : Reserved) (body : Script) → IsCompound compound → HoldsCommand body → IsNext (next_part compound word body)
next_is (Condition all) r.Then body c h = (c, h)
next_is (Arm all condition) r.Elif body c h = arms_more all condition body c.0 c.1 h
next_is (Arm all condition) r.Else body c h = (arms_more all condition body c.0 c.1 h, some_more all (condition, body))
next_is (Arm all condition) r.Fi body c h =
    has_arm (all ++ (condition, body) ∷ []) None (arms_more all condition body c.0 c.1 h) (some_more all (condition, body)) tt
next_is (Else all) r.Fi body c h = has_arm all (Some body) c.0 c.1 h
next_is (Test until) r.Do body c h = h
next_is (Body until condition) r.Done body c h = (c, h)
next_is (In name) r.In body c h = tt
next_is (In name) r.Do body c h = tt
next_is (Do name words) r.Do body c h = tt
next_is (Each name words) r.Done body c h = h
next_is (Group false) r.Fi body c h = group_is body h
next_is (Group true) r.CloseBrace body c h = group_is body h
next_is compound word body c h = tt

gone_is : (next : Next) (outer : Block) (opens : List (Compound × Block)) → IsNext next → IsBlock outer → AreOpen opens → IsGone (gone_to next outer opens)
gone_is (Enters compound) outer opens n o os = ((tt, tt, tt), ((n, o), os))
gone_is (Closes command) outer opens n o os = (with_command_block command outer n o, os)
gone_is Strays outer opens n o os = tt

gone_among : (word : Reserved) (body : Script) (opens : List (Compound × Block)) → HoldsCommand body → AreOpen opens → IsGone (goes_among word body opens)
gone_among word body [] h os = tt
gone_among word body (o ∷ opens) h os = gone_is (next_part o.0 word body) o.1 opens (next_is o.0 word body os.0.0 h) os.0.1 os.1

-- ---- the whole

pub nothing : IsNest nothing_open
nothing = ((tt, tt, tt), tt)

pub added : (c : Command) (n : Nest) → IsProperCommand c → IsNest n → IsNest (command_added c n)
added c n p h = (with_command_block c n.block p h.0, h.1)

pub joined : (op : Op) (n : Nest) → IsNest n → IsNest (operator_read op n)
joined op n h = (h.0, h.1)

pub closed : (n : Nest) → IsNest n → IsNest (list_closed n)
closed n h = (list_ended_block n.block h.0, h.1)

pub opened : (word : Reserved) (n : Nest) → IsNest n → IsNest (begun word n)
opened r.If n h = ((tt, tt, tt), ((tt, h.0), h.1))
opened r.While n h = ((tt, tt, tt), ((tt, h.0), h.1))
opened r.Until n h = ((tt, tt, tt), ((tt, h.0), h.1))
opened r.For n h = ((tt, tt, tt), ((tt, h.0), h.1))
opened r.OpenBrace n h = ((tt, tt, tt), ((tt, h.0), h.1))
opened r.Then n h = h
opened r.Elif n h = h
opened r.Else n h = h
opened r.Fi n h = h
opened r.Do n h = h
opened r.Done n h = h
opened r.In n h = h
opened r.CloseBrace n h = h

pub gone : (word : Reserved) (n : Nest) → IsNest n → IsGone (goes_on word n)
gone word n h =
    let lists = (list_ended n.block).lists in
    gone_among word (body_of lists) n.opens (body_holds lists (list_ended_block n.block h.0).0) h.1

name_is : (name : List ℕ) (compound : Compound) → IsCompound compound → IsCompound (name_read name compound)
name_is name Name c = tt
name_is name (Condition all) c = c
name_is name (Arm all condition) c = c
name_is name (Else all) c = c
name_is name (Test until) c = c
name_is name (Body until condition) c = c
name_is name (In other) c = c
name_is name (Words other) c = c
name_is name (Do other words) c = c
name_is name (Each other words) c = c
name_is name (Group braces) c = c

words_are : (words : List tree.Word) (compound : Compound) → IsCompound compound → IsCompound (words_read words compound)
words_are words (Words name) c = tt
words_are words (Condition all) c = c
words_are words (Arm all condition) c = c
words_are words (Else all) c = c
words_are words (Test until) c = c
words_are words (Body until condition) c = c
words_are words Name c = c
words_are words (In name) c = c
words_are words (Do name others) c = c
words_are words (Each name others) c = c
words_are words (Group braces) c = c

turned_is : (turn : Compound → Compound) (opens : List (Compound × Block)) → ((compound : Compound) → IsCompound compound → IsCompound (turn compound)) → AreOpen opens → AreOpen (turned turn opens)
turned_is turn [] by os = tt
turned_is turn (o ∷ opens) by os = ((by o.0 os.0.0, os.0.1), os.1)

pub named_is : (name : List ℕ) (n : Nest) → IsNest n → IsNest (named name n)
named_is name n h = (h.0, turned_is (name_read name) n.opens (name_is name) h.1)

pub worded_is : (words : List tree.Word) (n : Nest) → IsNest n → IsNest (worded words n)
worded_is words n h = (h.0, turned_is (words_read words) n.opens (words_are words) h.1)

pub idle_is : (n : Nest) → IsNest n → IsNest (idle n)
idle_is n h = (h.0, turned_is (λ compound. In []) n.opens (λ compound c. tt) h.1)

pub given_is : (n : Nest) → IsNest n → IsNest (given n)
given_is n h = ((tt, tt, tt), turned_is (λ compound. Group false) n.opens (λ compound c. tt) h.1)

pub unmet_is : (n : Nest) → IsNest n → IsNest (unmet n)
unmet_is n h = ((tt, tt, tt), turned_is (λ compound. Test false) n.opens (λ compound c. tt) h.1)

pub script_is : (n : Nest) → IsNest n → IsProper (script_in n)
script_is n h = runs_proper n.block.lists h.0.0
