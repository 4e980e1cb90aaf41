-- What `==` says of scripts. A derived `==` of types that hold each other is the result of a step (`the_step`), which
-- compares one level and asks for what is below it. The step leaves the comparison by what trees say as it is, so the two
-- are the same.
use Rattle.std.proofs.Common.{ℕ, suc, zero, ◌+◌, ◌<◌, Bool, true, false, ◌&&◌, ◌==◌, List, [], ◌∷◌, map, Option, Some, None, refl, sym, ap, ◌∙◌, ◌≡◌, arith}
use Rattle.std.proofs.Math.Bool.{beq}
use Rattle.std.specs.Bool.{Decides}
use Rattle.std.specs.Option.{option_eq}
use Rattle.std.specs.Cmp.{booleans_Decides}
use Rattle.std.specs.Cmp.Lexicographic.{pointwise}
use Rattle.std.specs.Str.{bytes_eq}
use Rattle.std.specs.declared.alloc.Global.{Global}
use Rattle.std.specs.declared.rc.Rc.{Rc}
use Rattle.std.proofs.lemmas.Bool.Decides.{Decides-and, Decides-at, Decides-eqb, Decides-like, same_from_decides}
use Rattle.std.proofs.lemmas.Slice.Eq.{bytes_eq-Decides}
use base.Stored.{Gv, gnil, gnum, gcons}
use denote.Hole.Compared.{Rel, compared, compared_is, Local}
use Rattle.bootstore_state.specs.ScriptCode.{script_code, script_inj, and_or_code, and_or_inj, command_code, command_inj}
use Rattle.hushlang.specs.Tree as tree
use Rattle.hushlang.specs.TreesShown as view
use Rattle.hushlang.specs.declared.tree.Op.{Op}
use Rattle.hushlang.specs.declared.tree.Op.TheVariants as ops
use Rattle.hushlang.specs.declared.tree.AndOr.{AndOr}
use Rattle.hushlang.specs.declared.tree.Command.{Command, Command-F, out-Command, roll-Command, roll-out-Command}
use Rattle.hushlang.specs.declared.tree.Command.TheBlock as block
use Rattle.hushlang.specs.declared.tree.Command.TheOpen as open_command
use Rattle.hushlang.specs.declared.tree.Command.TheVariants.{rolls-Simple, rolls-Assign, rolls-If, rolls-Loop, rolls-For}
use Rattle.hushlang.specs.declared.tree.Script.{Script, out-Script}
use Rattle.hushlang.specs.declared.tree.Word.{Word}
use Rattle.hushlang.specs.contracts.tree.OpPartialEq.TheImpl as op_eq
use Rattle.hushlang.specs.contracts.tree.WordPartialEq.TheImpl as word_eq
use Rattle.hushlang.specs.contracts.tree.ScriptPartialEq.TheImpl as script_eq
use Rattle.hushlang.specs.contracts.tree.ScriptPartialEq.TheImpl.Laws as laws
use Rattle.hushlang.proofs.ViewLemmas.{script_out, list_of, command_simple, command_assign, command_loop, command_for, command_if}
use Rattle.rehearse_states.proofs.EqualLemmas.{decided, words_decided, value_eq, values_decided}

-- ---- of two comparisons that one step leaves as they are, one is the other

module _ (I : Type 0) (D : I → Type 0) (μ : (i : I) → D i → ℕ) (step : Rel I D μ Bool → Rel I D μ Bool) (l : Local I D μ Bool true step) where
  abbrev by_steps : Rel I D μ Bool
  by_steps = compared I D μ Bool true step

  module _ (r : Rel I D μ Bool) (same : (i : I) (d e : D i) → step r i d e ≡ r i d e) where
    same_within : (n : ℕ) (i : I) (d e : D i) → μ i d < n → μ i e < n → by_steps i d e ≡ r i d e
    same_within zero i d e p q = absurd (omega arith)
    same_within (suc n) i d e p q =
        compared_is I D μ Bool true step l i d e
        ∙ l by_steps r n (λ j u v g h. same_within n j u v g h) i d e (omega arith) (omega arith)
        ∙ same i d e

    only : (i : I) (d e : D i) → by_steps i d e ≡ r i d e
    only i d e = same_within (μ i d + μ i e + 1) i d e (omega arith) (omega arith)

-- ---- what trees say, compared by their codes

abbrev code_eq : Gv → Gv → Bool
code_eq gnil gnil = true
code_eq (gnum m) (gnum n) = m == n
code_eq (gcons a b) (gcons c d) = code_eq a c && code_eq b d
code_eq a b = false

codes_decided : (a b : Gv) → Decides (code_eq a b) (a ≡ b)
codes_decided gnil gnil = (λ t. refl, λ e. refl)
codes_decided (gnum m) (gnum n) = Decides-like (m == n) (ap gnum) (λ e. cc) (Decides-eqb m n)
codes_decided (gcons a b) (gcons c d) =
    Decides-like (code_eq a c && code_eq b d) (λ h j. gcons (h.0 j) (h.1 j)) (λ e. (cc, cc))
    (Decides-and (code_eq a c) (code_eq b d) (codes_decided a c) (codes_decided b d))
codes_decided a b = (λ t. absurd (let u = t in cc), λ e. absurd (let u = e in cc))

abbrev same_scripts : Script → Script → Bool
same_scripts a b = code_eq (script_code (view.script a)) (script_code (view.script b))

abbrev same_lists : AndOr → AndOr → Bool
same_lists a b = code_eq (and_or_code (view.list a)) (and_or_code (view.list b))

abbrev same_commands : Command → Command → Bool
same_commands a b = code_eq (command_code (view.command a)) (command_code (view.command b))

script_codes : (a b : Script) → Decides (same_scripts a b) (view.script a ≡ view.script b)
script_codes a b = Decides-like (same_scripts a b) (script_inj (view.script a) (view.script b)) (ap script_code) (codes_decided (script_code (view.script a)) (script_code (view.script b)))

list_codes : (a b : AndOr) → Decides (same_lists a b) (view.list a ≡ view.list b)
list_codes a b = Decides-like (same_lists a b) (and_or_inj (view.list a) (view.list b)) (ap and_or_code) (codes_decided (and_or_code (view.list a)) (and_or_code (view.list b)))

command_codes : (a b : Command) → Decides (same_commands a b) (view.command a ≡ view.command b)
command_codes a b = Decides-like (same_commands a b) (command_inj (view.command a) (view.command b)) (ap command_code) (codes_decided (command_code (view.command a)) (command_code (view.command b)))

abbrev same_at : (i : block.the_members) → block.the_family i → block.the_family i → Bool
same_at block.member-Script a b = same_scripts a b
same_at block.member-AndOr a b = same_lists a b
same_at block.member-Command a b = same_commands a b

-- ---- one step

ops_decided : (a b : Op) → Decides (op_eq.ghosts.eq a b) (a ≡ b)
ops_decided ops.And ops.And = (λ t. refl, λ e. refl)
ops_decided ops.Or ops.Or = (λ t. refl, λ e. refl)
ops_decided a b = (λ t. absurd (let u = t in cc), λ e. absurd (let u = e in cc))

runs_same : (xs ys : List tree.AndOr) → view.runs xs ≡ view.runs ys → xs ≡ ys
runs_same [] [] e = refl
runs_same [] (y ∷ ys) e = absurd (let f = e in cc)
runs_same (x ∷ xs) [] e = absurd (let f = e in cc)
runs_same (x ∷ xs) (y ∷ ys) e =
    let one : x ≡ y = cc in
    let more : view.runs xs ≡ view.runs ys = cc in
    λ j. one j ∷ runs_same xs ys more j

joins_same : (xs ys : List (Op × tree.Command)) → view.joins xs ≡ view.joins ys → xs ≡ ys
joins_same [] [] e = refl
joins_same [] (y ∷ ys) e = absurd (let f = e in cc)
joins_same (x ∷ xs) [] e = absurd (let f = e in cc)
joins_same (x ∷ xs) (y ∷ ys) e =
    let op : x.0 ≡ y.0 = cc in
    let command : x.1 ≡ y.1 = cc in
    let more : view.joins xs ≡ view.joins ys = cc in
    λ j. (op j, command j) ∷ joins_same xs ys more j

step_script : (a b : Script) → Decides (pointwise same_lists (out-Script a).lists.items (out-Script b).lists.items) (view.script a ≡ view.script b)
step_script a b =
    let xs = (out-Script a).lists.items in
    let ys = (out-Script b).lists.items in
    Decides-like (pointwise same_lists xs ys)
    (λ h. script_out a ∙ ap view.runs h ∙ sym (script_out b))
    (λ h. runs_same (map view.list xs) (map view.list ys) (sym (script_out a) ∙ h ∙ script_out b))
    (decided view.list list_codes xs ys)

abbrev same_joined : Op × Command → Op × Command → Bool
same_joined x y = op_eq.ghosts.eq x.0 y.0 && same_commands x.1 y.1

joined_decided : (x y : Op × Command) → Decides (same_joined x y) (view.joined x ≡ view.joined y)
joined_decided x y =
    Decides-like (same_joined x y) (λ h j. (h.0 j, h.1 j)) (λ e. (ap (λ (p : Op × tree.Command). p.0) e, ap (λ (p : Op × tree.Command). p.1) e))
    (Decides-and (op_eq.ghosts.eq x.0 y.0) (same_commands x.1 y.1) (ops_decided x.0 y.0) (command_codes x.1 y.1))

starts_same : (c d : tree.Command) (j k : tree.Joined) → tree.Starts c j ≡ tree.Starts d k → (c ≡ d) × (j ≡ k)
starts_same c d j k e = (cc, cc)

step_list : (a b : AndOr) → Decides (same_commands a.first b.first && pointwise same_joined a.rest.items b.rest.items) (view.list a ≡ view.list b)
step_list a b =
    Decides-like (same_commands a.first b.first && pointwise same_joined a.rest.items b.rest.items)
    (λ h. list_of a.first a.rest ∙ (λ j. tree.Starts (h.0 j) (view.joins (h.1 j))) ∙ sym (list_of b.first b.rest))
    (λ h.
    let parts = starts_same (view.command a.first) (view.command b.first) (view.joins (map view.joined a.rest.items)) (view.joins (map view.joined b.rest.items)) (sym (list_of a.first a.rest) ∙ h ∙ list_of b.first b.rest) in
    (parts.0, joins_same (map view.joined a.rest.items) (map view.joined b.rest.items) parts.1))
    (Decides-and (same_commands a.first b.first) (pointwise same_joined a.rest.items b.rest.items) (command_codes a.first b.first) (decided view.joined joined_decided a.rest.items b.rest.items))

abbrev says : Command-F Command AndOr Script → tree.Command
says (open_command.Simple c) = tree.Simple (view.call c)
says (open_command.Assign values) = tree.Assign (map view.value values.items)
says (open_command.If arms other) = tree.If (view.arms (map view.arm arms.items) (view.script_in other))
says (open_command.Loop until cond body) = tree.Loop until (view.script cond.value) (view.script body.value)
says (open_command.For name words body) = tree.For name.items (map view.word words.items) (view.script body.value)

says_is : (l : Command-F Command AndOr Script) → view.command (roll-Command l) ≡ says l
says_is (open_command.Simple c) = ap view.command (rolls-Simple c) ∙ command_simple c
says_is (open_command.Assign values) = ap view.command (rolls-Assign values) ∙ command_assign values
says_is (open_command.If arms other) = ap view.command (rolls-If arms other) ∙ command_if arms other
says_is (open_command.Loop until cond body) = ap view.command (rolls-Loop until cond body) ∙ command_loop until cond body
says_is (open_command.For name words body) = ap view.command (rolls-For name words body) ∙ command_for name words body

arms_same : (xs ys : List (tree.Script × tree.Script)) (o o' : Option tree.Script) → view.arms xs o ≡ view.arms ys o' → (xs ≡ ys) × (o ≡ o')
arms_same [] [] None None e = (refl, refl)
arms_same [] [] None (Some s) e = absurd (let f = e in cc)
arms_same [] [] (Some s) None e = absurd (let f = e in cc)
arms_same [] [] (Some s) (Some t) e = let same : s ≡ t = cc in (refl, ap Some same)
arms_same [] (y ∷ ys) None o' e = absurd (let f = e in cc)
arms_same [] (y ∷ ys) (Some s) o' e = absurd (let f = e in cc)
arms_same (x ∷ xs) [] o None e = absurd (let f = e in cc)
arms_same (x ∷ xs) [] o (Some s) e = absurd (let f = e in cc)
arms_same (x ∷ xs) (y ∷ ys) o o' e =
    let cond : x.0 ≡ y.0 = cc in
    let body : x.1 ≡ y.1 = cc in
    let more : view.arms xs o ≡ view.arms ys o' = cc in
    let k = arms_same xs ys o o' more in
    (λ j. (cond j, body j) ∷ k.0 j, k.1)

abbrev same_shared : Rc Script Global → Rc Script Global → Bool
same_shared x y = same_scripts x.value y.value

abbrev Arm : Type 0
Arm = Rc Script Global × Rc Script Global

abbrev same_arm : Arm → Arm → Bool
same_arm x y = same_shared x.0 y.0 && same_shared x.1 y.1

arm_decided : (x y : Arm) → Decides (same_arm x y) (view.arm x ≡ view.arm y)
arm_decided x y =
    Decides-like (same_arm x y) (λ h j. (h.0 j, h.1 j)) (λ e. (ap (λ (p : tree.Script × tree.Script). p.0) e, ap (λ (p : tree.Script × tree.Script). p.1) e))
    (Decides-and (same_shared x.0 y.0) (same_shared x.1 y.1) (script_codes x.0.value y.0.value) (script_codes x.1.value y.1.value))

other_decided : (o p : Option (Rc Script Global)) → Decides (option_eq same_shared o p) (view.script_in o ≡ view.script_in p)
other_decided None None = (λ t. refl, λ e. refl)
other_decided (Some x) (Some y) = Decides-like (same_shared x y) (ap Some) (λ e. cc) (script_codes x.value y.value)
other_decided o p = (λ t. absurd (let u = t in cc), λ e. absurd (let u = e in cc))

step_if : (v w : List Arm) (o p : Option (Rc Script Global)) → Decides (pointwise same_arm v w && option_eq same_shared o p) (tree.If (view.arms (map view.arm v) (view.script_in o)) ≡ tree.If (view.arms (map view.arm w) (view.script_in p)))
step_if v w o p =
    Decides-like (pointwise same_arm v w && option_eq same_shared o p) (λ h j. tree.If (view.arms (h.0 j) (h.1 j)))
    (λ e. let arms : view.arms (map view.arm v) (view.script_in o) ≡ view.arms (map view.arm w) (view.script_in p) = cc in arms_same (map view.arm v) (map view.arm w) (view.script_in o) (view.script_in p) arms)
    (Decides-and (pointwise same_arm v w) (option_eq same_shared o p) (decided view.arm arm_decided v w) (other_decided o p))

step_loop : (p q : Bool) (c d c' d' : Script) → Decides (beq p q && (same_scripts c c' && same_scripts d d')) (tree.Loop p (view.script c) (view.script d) ≡ tree.Loop q (view.script c') (view.script d'))
step_loop p q c d c' d' =
    Decides-like (beq p q && (same_scripts c c' && same_scripts d d')) (λ h j. tree.Loop (h.0 j) (h.1.0 j) (h.1.1 j)) (λ e. (cc, (cc, cc)))
    (Decides-and (beq p q) (same_scripts c c' && same_scripts d d') (booleans_Decides p q)
    (Decides-and (same_scripts c c') (same_scripts d d') (script_codes c c') (script_codes d d')))

step_for : (n m : List ℕ) (v w : List Word) (d d' : Script) → Decides (bytes_eq n m && (pointwise word_eq.ghosts.eq v w && same_scripts d d')) (tree.For n (map view.word v) (view.script d) ≡ tree.For m (map view.word w) (view.script d'))
step_for n m v w d d' =
    Decides-like (bytes_eq n m && (pointwise word_eq.ghosts.eq v w && same_scripts d d')) (λ h j. tree.For (h.0 j) (h.1.0 j) (h.1.1 j)) (λ e. (cc, (cc, cc)))
    (Decides-and (bytes_eq n m) (pointwise word_eq.ghosts.eq v w && same_scripts d d') (bytes_eq-Decides n m)
    (Decides-and (pointwise word_eq.ghosts.eq v w) (same_scripts d d') (words_decided v w) (script_codes d d')))

step_level : (a b : Command) (l m : Command-F Command AndOr Script) → out-Command a ≡ l → out-Command b ≡ m → Decides (script_eq.the_step same_at block.member-Command a b) (says l ≡ says m)
step_level a b (open_command.Simple c) (open_command.Simple d) e f = rw (e, f) (Decides-like (pointwise word_eq.ghosts.eq c.words.items d.words.items) (ap tree.Simple) (λ e. cc) (words_decided c.words.items d.words.items))
step_level a b (open_command.Assign v) (open_command.Assign w) e f = rw (e, f) (Decides-like (pointwise value_eq v.items w.items) (ap tree.Assign) (λ e. cc) (values_decided v.items w.items))
step_level a b (open_command.If v o) (open_command.If w p) e f = rw (e, f) (step_if v.items w.items o p)
step_level a b (open_command.Loop p c d) (open_command.Loop q c' d') e f = rw (e, f) (step_loop p q c.value d.value c'.value d'.value)
step_level a b (open_command.For n v d) (open_command.For m w d') e f = rw (e, f) (step_for n.items m.items v.items w.items d.value d'.value)
step_level a b l m e f = rw (e, f) (λ t. absurd (let u = t in cc), λ h. absurd (let u = h in cc))

command_is : (a : Command) → view.command a ≡ says (out-Command a)
command_is a = sym (ap view.command (roll-out-Command a)) ∙ says_is (out-Command a)

step_command : (a b : Command) → Decides (script_eq.the_step same_at block.member-Command a b) (view.command a ≡ view.command b)
step_command a b =
    Decides-like (script_eq.the_step same_at block.member-Command a b)
    (λ h. command_is a ∙ h ∙ sym (command_is b)) (λ h. sym (command_is a) ∙ h ∙ command_is b)
    (step_level a b (out-Command a) (out-Command b) refl refl)

step_same : (i : block.the_members) (a b : block.the_family i) → script_eq.the_step same_at i a b ≡ same_at i a b
step_same block.member-Script a b = same_from_decides (pointwise same_lists (out-Script a).lists.items (out-Script b).lists.items) (same_scripts a b) (step_script a b) (script_codes a b)
step_same block.member-AndOr a b = same_from_decides (same_commands a.first b.first && pointwise same_joined a.rest.items b.rest.items) (same_lists a b) (step_list a b) (list_codes a b)
step_same block.member-Command a b = same_from_decides (script_eq.the_step same_at block.member-Command a b) (same_commands a b) (step_command a b) (command_codes a b)

pub script_decided : (a b : Script) → Decides (script_eq.ghosts.eq a b) (view.script a ≡ view.script b)
script_decided a b = Decides-at (script_eq.ghosts.eq a b) (same_scripts a b) (only block.the_members block.the_family block.the_depth script_eq.the_step laws.local same_at step_same block.member-Script a b) (script_codes a b)
