-- The last line of a file's text, and what is put after a script.
use Rattle.std.proofs.Common.{◌≡◌, ◌≢◌, ◌∙◌, ◌==◌, ◌+◌, ◌-◌, ◌<◌, ◌≤◌, ℕ, true, false, not, List, [], ◌∷◌, ◌++◌, map, length, get_or, take, drop, All, Some, None, arith, ap, sym, refl, codes, slice_index}
use Rattle.std.specs.List.{suffix_len}
use Rattle.std.proofs.lemmas.Bool.{eq-eqb, ne_eqb}
use Rattle.std.proofs.lemmas.List.Sums.{suffix_len_is}
use Rattle.hushlang.specs.Tree as tree
use Rattle.hushlang.specs.TreesShown as view
use Rattle.hushlang.proofs.ViewLemmas.{script_out}
use Rattle.hushlang.specs.declared.tree.AndOr as code_list
use Rattle.hushlang.specs.declared.tree.Script as code_script
use Rattle.hushlang.specs.declared.tree.Script.{out-Script}
use Rattle.hushlang_old.specs.OldTokens.{is_no_newline}
use Rattle.hushlang_shells.specs.TreesByShell.{parted, parted_at, is_empty, nothing, with_nothing}

abbrev newline : ℕ
newline = slice_index (codes "\n") 0

-- no newline from place n on, and one before it
last_line : (text : List ℕ) (n : ℕ) → n ≤ length text → ((k : ℕ) → n ≤ k → k < length text → get_or text k 0 ≢ newline) → (0 < n → get_or text (n - 1) 0 ≡ newline)
    → suffix_len is_no_newline text ≡ length text - n
last_line text n within none here = suffix_len_is is_no_newline text n 0 within
    (λ k from to. ap not (ne_eqb (get_or text k 0) newline (none k from to)))
    (λ above. ap not (eq-eqb (get_or text (n - 1) 0) newline (here above)))

parted_with : (text : List ℕ) (behind i : ℕ) → i < length text → behind ≡ length text - (i + 1) → parted_at behind text ≡ Some (take i text, drop (i + 1) text)
parted_with text behind i inside e =
    let some : (behind == length text) ≡ false = ne_eqb behind (length text) (λ whole. omega (arith, whole, e, inside)) in
    let before : length text - (behind + 1) ≡ i = omega (arith, e, inside) in
    let after : length text - behind ≡ i + 1 = omega (arith, e, inside) in
    rw (some, before, after) refl

-- at the last newline
pub parted_behind : (text : List ℕ) (i : ℕ) → i < length text → get_or text i 0 ≡ newline → ((k : ℕ) → i + 1 ≤ k → k < length text → get_or text k 0 ≢ newline)
    → Some (take i text, drop (i + 1) text) ≡ parted text
parted_behind text i inside here none =
    let one : i + 1 - 1 ≡ i = omega arith in
    sym (parted_with text (suffix_len is_no_newline text) i inside (last_line text (i + 1) (omega (arith, inside)) none (λ above. rw one here)))

-- if there is no newline
pub parted_whole : (text : List ℕ) → All (λ c. c ≢ newline) text → None ≡ parted text
parted_whole text none =
    let all : suffix_len is_no_newline text ≡ length text - 0 = last_line text 0 (omega arith) (λ k from to. none k 0 to) (λ above. absurd (omega (arith, above))) in
    let whole : (suffix_len is_no_newline text == length text) ≡ true = eq-eqb (suffix_len is_no_newline text) (length text) (omega (arith, all)) in
    rw whole refl

empty_map : (lists : List code_list.AndOr) → is_empty (view.runs (map view.list lists)) ≡ (length lists == 0)
empty_map [] = refl
empty_map (list ∷ lists) = sym (ne_eqb (length (list ∷ lists)) 0 (λ e. omega (arith, e)))

pub empty_by_lists : (script : code_script.Script) → is_empty (view.script script) ≡ (length (out-Script script).lists.items == 0)
empty_by_lists script = ap is_empty (script_out script) ∙ empty_map (out-Script script).lists.items

runs_nothing : (lists : List code_list.AndOr) (list : code_list.AndOr) → view.list list ≡ nothing → view.runs (map view.list (lists ++ list ∷ [])) ≡ with_nothing (view.runs (map view.list lists))
runs_nothing [] list e = ap (λ one. tree.Runs one tree.Empty) e
runs_nothing (first ∷ lists) list e = ap (tree.Runs (view.list first)) (runs_nothing lists list e)

pub nothing_behind : (script : code_script.Script) (list : code_list.AndOr) (lists : List code_list.AndOr) → view.list list ≡ nothing → lists ≡ (out-Script script).lists.items ++ list ∷ [] → view.runs (map view.list lists) ≡ with_nothing (view.script script)
nothing_behind script list lists e items =
    ap (λ now. view.runs (map view.list now)) items ∙ runs_nothing (out-Script script).lists.items list e ∙ ap with_nothing (sym (script_out script))
