-- The nodes that are made, and the lines that are written of them.
use Rattle.std.proofs.Common.{ℕ, suc, ◌+◌, ◌<◌, ◌≤◌, true, List, [], ◌∷◌, ◌++◌, map, length, get_or, take, Some, option_map, refl, sym, ap, ◌∙◌, ◌≡◌, append_assoc, append-nil, nat_lt, codes, decimal, arith, reverse}
use Rattle.std.specs.List.{slice_get}
use Rattle.std.proofs.lemmas.Grind.{reverse_onto}
use Rattle.std.proofs.lemmas.Bool.{ltb-true}
use Rattle.std.proofs.lemmas.Option.{slice_get-map, slice_get_read}
use Rattle.std.proofs.lemmas.List.{length-map, length-take-le, map_more}
use Rattle.rehearse_terms.specs.State.{Text}
use Rattle.rehearse_rules.specs.Listing.{line}
use Rattle.rehearse_rules.specs.EndingsShown.{halt_shown}
use Rattle.rehearse_rules.specs.declared.halt.Halt.{Halt}
use Rattle.rehearse_states.specs.Endings.{ending_eq}
use Rattle.rehearse_states.specs.Flow.{Node, Asks, Ends, node_text, flow_from, flow_text}
use Rattle.rehearse_states.specs.Drawing.{asks_in, node_shown, renumbered}
use Rattle.rehearse_states.specs.declared.flow.Node as rt
use Rattle.rehearse_states.specs.declared.flow.Node.TheVariants as made
use Rattle.rehearse_states.proofs.RowsOfRuns.{ending_same}

-- a way to end that was found
pub end_found : (nodes slice : List rt.Node) (i : ℕ) (node : rt.Node) (other halt : Halt) → slice ≡ nodes → true ≡ nat_lt i (length slice) → node ≡ get_or slice i node → node ≡ made.Ends other
    → true ≡ ending_eq (halt_shown other) (halt_shown halt) → slice_get (map node_shown nodes) i ≡ Some (Ends (halt_shown halt))
end_found nodes slice i node other halt same within at is equal =
    ap (λ (xs : List rt.Node). slice_get (map node_shown xs) i) (sym same)
    ∙ slice_get-map node_shown slice i
    ∙ ap (option_map node_shown) (slice_get_read slice (length slice) i node refl (ltb-true i (length slice) (sym within)) at)
    ∙ ap (λ (n : rt.Node). Some (node_shown n)) is
    ∙ ap (λ e. Some (Ends e)) (ending_same (halt_shown other) (halt_shown halt) (sym equal))

-- one more line
pub flow_more : (number : ℕ) (nodes : List Node) (node : Node) → flow_from number (nodes ++ node ∷ []) ≡ flow_from number nodes ++ line (decimal (number + length nodes) ++ codes " " ++ node_text node)
flow_more number [] node = append-nil (line (decimal number ++ codes " " ++ node_text node)) ∙ ap (λ (n : ℕ). line (decimal n ++ codes " " ++ node_text node)) (let e : number ≡ number + 0 = omega arith in e)
flow_more number (x ∷ nodes) node =
    ap (λ (t : Text). line (decimal number ++ codes " " ++ node_text x) ++ t) (flow_more (suc number) nodes node)
    ∙ sym (append_assoc (line (decimal number ++ codes " " ++ node_text x)) (flow_from (suc number) nodes) (line (decimal (suc number + length nodes) ++ codes " " ++ node_text node)))
    ∙ ap (λ (n : ℕ). (line (decimal number ++ codes " " ++ node_text x) ++ flow_from (suc number) nodes) ++ line (decimal n ++ codes " " ++ node_text node)) (let e : suc number + length nodes ≡ number + suc (length nodes) = omega arith in e)

pub blank_is : 32 ∷ [] ≡ codes " "
blank_is = refl

-- a line that is put in four pieces
pub four_pieces : (old number blank node end : Text) → (((old ++ number) ++ blank) ++ node) ++ end ≡ old ++ (((number ++ blank) ++ node) ++ end)
four_pieces old number blank node end =
    ap (λ (t : Text). t ++ end) (ap (λ (t : Text). t ++ node) (append_assoc old number blank) ∙ append_assoc old (number ++ blank) node)
    ∙ append_assoc old ((number ++ blank) ++ node) end

-- the lines with one more node
pub lines_on : (items : List rt.Node) (i : ℕ) (node : rt.Node) (number : ℕ) (old : Text) → i < length items → node ≡ get_or items i node → number ≡ suc i → old ≡ flow_text (map node_shown (take i items))
    → old ++ line (decimal number ++ codes " " ++ node_text (node_shown node)) ≡ flow_text (map node_shown (take (i + 1) items))
lines_on items i node number old within is at so_far =
    let many : length (map node_shown (take i items)) ≡ i = length-map (take i items) node_shown ∙ length-take-le i items (let l : i ≤ length items = omega arith in l) in
    let now : number ≡ 1 + length (map node_shown (take i items)) = omega arith in
    ap (λ (t : Text). t ++ line (decimal number ++ codes " " ++ node_text (node_shown node))) so_far
    ∙ ap (λ (n : ℕ). flow_text (map node_shown (take i items)) ++ line (decimal n ++ codes " " ++ node_text (node_shown node))) now
    ∙ sym (flow_more 1 (map node_shown (take i items)) (node_shown node))
    ∙ ap (λ (n : rt.Node). flow_from 1 (map node_shown (take i items) ++ node_shown n ∷ [])) is
    ∙ ap (flow_from 1) (sym (map_more node_shown items i node within))

-- ---- the nodes that ask

pub asks_append : (xs ys : List Node) → asks_in (xs ++ ys) ≡ asks_in xs + asks_in ys
asks_append [] ys = let e : asks_in ys ≡ 0 + asks_in ys = omega arith in e
asks_append (Asks words success failure ∷ xs) ys = let e = asks_append xs ys in omega arith
asks_append (Ends ending ∷ xs) ys = asks_append xs ys

asks_renumbered : (count : ℕ) (node : Node) → asks_in (renumbered count node ∷ []) ≡ asks_in (node ∷ [])
asks_renumbered count (Asks words success failure) = refl
asks_renumbered count (Ends ending) = refl

-- as many ask in the order of the lines
pub asks_in_lines : (count : ℕ) (nodes : List Node) → asks_in (reverse (map (renumbered count) nodes)) ≡ asks_in nodes
asks_in_lines count [] = refl
asks_in_lines count (node ∷ nodes) =
    let front = asks_append (node ∷ []) nodes in
    let back = asks_append (reverse (map (renumbered count) nodes)) (renumbered count node ∷ []) in
    let turned = ap asks_in (reverse_onto (map (renumbered count) nodes) (renumbered count node) []) in
    let one = asks_renumbered count node in
    let rest = asks_in_lines count nodes in
    omega (arith, front, back, turned, one, rest)
