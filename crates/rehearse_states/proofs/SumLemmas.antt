-- The rows that nodes draw, and how they are made.
use Rattle.std.proofs.Common.{below_more, max, set, get_or, option_map, ℕ, zero, suc, ◌+◌, ◌<◌, ◌≤◌, Bool, true, ◌||◌, List, [], ◌∷◌, ◌++◌, map, length, Some, refl, sym, ap, subst, ◌∙◌, ◌≡◌, inl, inr, arith, rules, length-append, Option}
use Rattle.std.specs.List.{slice_get}
use Rattle.std.specs.Prelude.{IsTrue}
use Rattle.std.proofs.lemmas.Option.{slice_get_within, slice_get-map, slice_get_read}
use Rattle.rehearse_terms.specs.Outcomes.{Success, Failure}
use Rattle.rehearse_states.specs.Endings.{RunEnd, Row, one_run, in_front, counts_at}
use Rattle.rehearse_states.specs.RowsShown.{of_both_up, merge_up, run_end_shown, summary_with}
use Rattle.rehearse_states.specs.SumNodes.{SumNode, Over, Both, DrawsRows, over, both, HasMoreSums, sum_shown}
use Rattle.rehearse_states.specs.declared.sum_nodes.SumNode as rt
use Rattle.rehearse_states.specs.declared.sum_nodes.SumNode.TheVariants as variants
use Rattle.rehearse_states.specs.declared.run_end.RunEnd as ends
use Rattle.rehearse_states.specs.declared.summary.Summary as kept
use Rattle.rehearse_states.specs.Summaries.{Summary, is_cut_devices, is_cut_steps, summary_at_end, summary_of_sides}
use Rattle.std.specs.declared.alloc.Global.{Global}
use Rattle.std.specs.declared.rc.Rc.{Rc}
use Rattle.std.proofs.lemmas.List.{length-map, map-append}
use Rattle.rehearse_states.specs.SumRows.{AreMade, AreUses, IsMadeOf, IsUsedAt, Leaves, LeavesUsed, UsesAt}

-- ---- lists

pub got_on : {A : Type 0} (xs ys : List A) (i : ℕ) (x : A) → slice_get xs i ≡ Some x → slice_get (xs ++ ys) i ≡ Some x
got_on [] ys i x e = absurd (let f = e in cc)
got_on (z ∷ xs) ys zero x e = e
got_on (z ∷ xs) ys (suc i) x e = got_on xs ys i x e

pub got_last : {A : Type 0} (xs : List A) (x : A) → slice_get (xs ++ x ∷ []) (length xs) ≡ Some x
got_last [] x = refl
got_last (z ∷ xs) x = got_last xs x

-- ---- what nodes draw

-- more nodes change nothing
pub draws_with : (sums more : List SumNode) (place : ℕ) (rows : List Row) → DrawsRows sums place rows → DrawsRows (sums ++ more) place rows
draws_with sums more place rows (over e) = over (got_on sums more place _ e)
draws_with sums more place rows (both e l k won lost) = both (got_on sums more place _ e) l k (draws_with sums more _ _ won) (draws_with sums more _ _ lost)

pub draws_further : (sums new : List SumNode) (place : ℕ) (rows : List Row) → HasMoreSums sums new → DrawsRows sums place rows → DrawsRows new place rows
draws_further sums new place rows h d = subst (λ (x : List SumNode). DrawsRows x place rows) (sym h.1) (draws_with sums h.0 place rows d)

pub draws_within : (sums : List SumNode) (place : ℕ) (rows : List Row) → DrawsRows sums place rows → place < length sums
draws_within sums place rows (over e) = slice_get_within sums place _ e
draws_within sums place rows (both e l k won lost) = slice_get_within sums place _ e

-- the node that is added last
pub draws_end : (sums : List SumNode) (run_end : RunEnd) → DrawsRows (sums ++ Over run_end ∷ []) (length sums) (one_run (run_end, ([], 0)) ∷ [])
draws_end sums run_end = over (got_last sums (Over run_end))

pub draws_both : (sums : List SumNode) (expected : Option Bool) (won lost : ℕ) (won_rows lost_rows : List Row) → DrawsRows sums won won_rows → DrawsRows sums lost lost_rows
    → DrawsRows (sums ++ Both expected won lost ∷ []) (length sums) (of_both_up expected won_rows lost_rows)
draws_both sums expected won lost won_rows lost_rows h k =
    both (got_last sums (Both expected won lost)) (draws_within sums won won_rows h) (draws_within sums lost lost_rows k) (draws_with sums (Both expected won lost ∷ []) won won_rows h) (draws_with sums (Both expected won lost ∷ []) lost lost_rows k)

-- ---- what is drawn at a node that is known

pub drawn_both : (sums : List SumNode) (place : ℕ) (rows : List Row) (expected : Option Bool) (won lost : ℕ) → slice_get sums place ≡ Some (Both expected won lost) → DrawsRows sums place rows
    → (won_rows : List Row) × (lost_rows : List Row) × (won < place) × (lost < place) × DrawsRows sums won won_rows × DrawsRows sums lost lost_rows × (of_both_up expected won_rows lost_rows ≡ rows)
drawn_both sums place rows expected won lost e (over f) = absurd (let g = sym e ∙ f in cc)
drawn_both sums place rows expected won lost e (both {won = w} {lost = l} {expected = n} {won_rows = ws} {lost_rows = ls} f before before' up down) =
    let g = sym e ∙ f in
    let same_won : w ≡ won = cc in
    let same_lost : l ≡ lost = cc in
    let same_expected : n ≡ expected = cc in
    (ws, ls, subst (λ (x : ℕ). x < place) same_won before, subst (λ (x : ℕ). x < place) same_lost before', subst (λ (x : ℕ). DrawsRows sums x ws) same_won up, subst (λ (x : ℕ). DrawsRows sums x ls) same_lost down, ap (λ (x : Option Bool). of_both_up x ws ls) (sym same_expected))

-- ---- which rows are used later

pub used_before : (last : List ℕ) (place at before : ℕ) → before ≤ at → IsUsedAt last place at → IsUsedAt last place before
used_before last place at before l h = (h.0, h.1, omega (arith, h.2))

pub used_on : (last more : List ℕ) (place at : ℕ) → IsUsedAt last place at → IsUsedAt (last ++ more) place at
used_on last more place at h = (h.0, got_on last more place h.0 h.1, h.2)

-- a use is noted
pub used_here : (last : List ℕ) (place at : ℕ) → place < length last → IsUsedAt (set last place at) place at
used_here [] place at l = absurd (omega arith)
used_here (x ∷ last) zero at l = (at, refl, omega arith)
used_here (x ∷ last) (suc place) at l = used_here last place at (omega arith)

pub used_still : (last : List ℕ) (place at other before : ℕ) → before ≤ at → IsUsedAt last other before → IsUsedAt (set last place at) other before
used_still [] place at other before l h = h
used_still (x ∷ last) zero at zero before l h = (at, refl, l)
used_still (x ∷ last) zero at (suc other) before l h = h
used_still (x ∷ last) (suc place) at zero before l h = h
used_still (x ∷ last) (suc place) at (suc other) before l h = used_still last place at other before l h

-- both places of which a node is made
pub uses_both : (expected : Option Bool) (won lost at : ℕ) (old mid new : List ℕ) → length old ≡ at → length mid ≡ length old → (won < length old → IsUsedAt mid won at) → (lost < length mid → IsUsedAt new lost at)
    → ((other before : ℕ) → before ≤ at → IsUsedAt mid other before → IsUsedAt new other before) → UsesAt (Both expected won lost) new at
uses_both expected won lost at old mid new many same first second kept place (inl e) below =
    subst (λ (x : ℕ). IsUsedAt new x at) (sym e) (kept won at (omega arith) (first (subst (λ (x : ℕ). x < length old) e (omega arith))))
uses_both expected won lost at old mid new many same first second kept place (inr e) below =
    subst (λ (x : ℕ). IsUsedAt new x at) (sym e) (second (subst (λ (x : ℕ). x < length mid) e (omega arith)))

-- one more node
pub uses_next : (sums : List SumNode) (last noted pushed : List ℕ) (at : ℕ) (node : SumNode) → AreUses sums last at → slice_get sums at ≡ Some node → UsesAt node noted at
    → ((other before : ℕ) → before ≤ at → IsUsedAt last other before → IsUsedAt noted other before) → pushed ≡ noted ++ at ∷ [] → AreUses sums pushed (at + 1)
uses_next sums last noted pushed at node so_far got here kept is =
    let now : (place before : ℕ) → IsUsedAt noted place before → IsUsedAt pushed place before = λ place before h. subst (λ (x : List ℕ). IsUsedAt x place before) (sym is) (used_on noted (at ∷ []) place before h) in
    below_more (λ k. (n : SumNode) → slice_get sums k ≡ Some n → UsesAt n pushed k) at
    (λ k l n e place part below. now place k (kept place k (omega arith) (so_far k l n e place part below)))
    (λ n e place part below. let same : node ≡ n = let f = sym got ∙ e in cc in now place at (here place (subst (λ (x : SumNode). IsMadeOf x place) (sym same) part) below))

-- ---- what is made

-- the rows of another place
pub set_besides : {A : Type 0} (f : A → List Row) (made : List A) (place : ℕ) (x : A) (other : ℕ) → (other ≡ place → ⊥) → slice_get (map f (set made place x)) other ≡ slice_get (map f made) other
set_besides f [] place x other h = refl
set_besides f (y ∷ made) zero x zero h = absurd (h refl)
set_besides f (y ∷ made) zero x (suc other) h = refl
set_besides f (y ∷ made) (suc place) x zero h = refl
set_besides f (y ∷ made) (suc place) x (suc other) h = set_besides f made place x other (λ e. h (ap suc e))

pub same_many : {A : Type 0} (f : A → List Row) (made : List A) (place : ℕ) (x : A) → length (map f (set made place x)) ≡ length (map f made)
same_many f [] place x = refl
same_many f (y ∷ made) zero x = refl
same_many f (y ∷ made) (suc place) x = ap suc (same_many f made place x)

module _ (sums : List SumNode) (last : List ℕ) (at won lost : ℕ) (expected : Option Bool) (keep_won keep_lost : Bool) (old mid new : List (List Row)) (first : Leaves keep_won won old mid) (second : Leaves keep_lost lost mid new)
    (behind_won : IsUsedAt last won (at + 1) → IsTrue keep_won) (twice : won ≡ lost → IsTrue keep_won) (behind_lost : IsUsedAt last lost (at + 1) → IsTrue keep_lost) where
  kept_won : (other : ℕ) → IsUsedAt last other (at + 1) → other ≡ won → keep_won ≡ true
  kept_won other used e = search (rules, behind_won (subst (λ (x : ℕ). IsUsedAt last x (at + 1)) e used))

  kept_lost : (other : ℕ) → IsUsedAt last other (at + 1) → other ≡ lost → keep_lost ≡ true
  kept_lost other used e = search (rules, behind_lost (subst (λ (x : ℕ). IsUsedAt last x (at + 1)) e used))

  pub sides_leave : LeavesUsed last (at + 1) old new
  sides_leave = (second.0 ∙ first.0, λ other used. second.1 other (kept_lost other used) ∙ first.1 other (kept_won other used))

  pub sides_made : (won_rows lost_rows front others rows drawn : List Row) → ((there : List Row) → slice_get old won ≡ Some there → won_rows ≡ there) → ((there : List Row) → slice_get mid lost ≡ Some there → lost_rows ≡ there)
      → front ≡ map (in_front Success (counts_at expected Success)) won_rows → others ≡ map (in_front Failure (counts_at expected Failure)) lost_rows → rows ≡ merge_up front others
      → AreMade sums last at old → slice_get sums at ≡ Some (Both expected won lost) → UsesAt (Both expected won lost) last at → DrawsRows sums at drawn → rows ≡ drawn
  sides_made won_rows lost_rows front others rows drawn took_won took_lost in_won in_lost merged are got uses draws =
      let d = drawn_both sums at drawn expected won lost got draws in
      let won_is : won_rows ≡ d.0 = took_won d.0 (are.kept won d.2 d.0 (uses won (inl refl) d.2) d.4) in
      let lost_is : lost_rows ≡ d.1 = took_lost d.1 (first.1 lost (λ e. search (rules, twice (sym e))) ∙ are.kept lost d.3 d.1 (uses lost (inr refl) d.3) d.5) in
      merged
      ∙ ap (λ (x : List Row). merge_up x others) (in_won ∙ ap (map (in_front Success (counts_at expected Success))) won_is)
      ∙ ap (merge_up (map (in_front Success (counts_at expected Success)) d.0)) (in_lost ∙ ap (map (in_front Failure (counts_at expected Failure))) lost_is)
      ∙ d.6

-- one more node
pub made_next : (sums : List SumNode) (last : List ℕ) (at : ℕ) (old mid : List (List Row)) (rows : List Row) → AreMade sums last at old → LeavesUsed last (at + 1) old mid → ((drawn : List Row) → DrawsRows sums at drawn → rows ≡ drawn) → AreMade sums last (at + 1) (mid ++ rows ∷ [])
made_next sums last at old mid rows are leaves draws =
    let many : length mid ≡ at = leaves.0 ∙ are.many in
    record {
      many = length-append mid (rows ∷ []) ∙ ap (λ (n : ℕ). n + 1) many;
      kept = below_more (λ k. (drawn : List Row) → IsUsedAt last k (at + 1) → DrawsRows sums k drawn → slice_get (mid ++ rows ∷ []) k ≡ Some drawn) at
          (λ k l drawn used d. got_on mid (rows ∷ []) k drawn (leaves.1 k used ∙ are.kept k l drawn (used_before last k (at + 1) at (omega arith) used) d))
          (λ drawn used d. ap (λ (n : ℕ). slice_get (mid ++ rows ∷ []) n) (sym many) ∙ got_last mid rows ∙ ap (λ (x : List Row). Some x) (draws drawn d));
    }

-- the node at a place
pub node_got : (nodes : List rt.SumNode) (at : ℕ) (node : rt.SumNode) → at < length nodes → node ≡ get_or nodes at node → slice_get (map sum_shown nodes) at ≡ Some (sum_shown node)
node_got nodes at node l is = slice_get-map sum_shown nodes at ∙ ap (option_map sum_shown) (slice_get_read nodes (length nodes) at node refl l is)

-- ---- a node that is added

pushed : (old new : List rt.SumNode) (node : rt.SumNode) → new ≡ old ++ node ∷ [] → map sum_shown new ≡ map sum_shown old ++ sum_shown node ∷ []
pushed old new node e = ap (map sum_shown) e ∙ map-append sum_shown old (node ∷ [])

pub more_pushed : (old new : List rt.SumNode) (node : rt.SumNode) → new ≡ old ++ node ∷ [] → HasMoreSums (map sum_shown old) (map sum_shown new)
more_pushed old new node e = (sum_shown node ∷ [], pushed old new node e)

draws_pushed : (old new : List rt.SumNode) (node : rt.SumNode) (sum : ℕ) (rows : List Row) → new ≡ old ++ node ∷ [] → sum ≡ length old → DrawsRows (map sum_shown old ++ sum_shown node ∷ []) (length (map sum_shown old)) rows → DrawsRows (map sum_shown new) sum rows
draws_pushed old new node sum rows e at h =
    subst (λ (x : List SumNode). DrawsRows x sum rows) (sym (pushed old new node e))
    (subst (λ (n : ℕ). DrawsRows (map sum_shown old ++ sum_shown node ∷ []) n rows) (length-map old sum_shown ∙ sym at) h)

pub end_pushed : (old new : List rt.SumNode) (sum : ℕ) (shared : Rc ends.RunEnd Global) (run_end : ends.RunEnd) → new ≡ old ++ variants.Over shared ∷ [] → sum ≡ length old → shared.value ≡ run_end → DrawsRows (map sum_shown new) sum (one_run (run_end_shown run_end, ([], 0)) ∷ [])
end_pushed old new sum shared run_end e at is =
    draws_pushed old new (variants.Over shared) sum _ e at
    (subst (λ (x : ends.RunEnd). DrawsRows (map sum_shown old ++ Over (run_end_shown shared.value) ∷ []) (length (map sum_shown old)) (one_run (run_end_shown x, ([], 0)) ∷ [])) is (draws_end (map sum_shown old) (run_end_shown shared.value)))

pub both_pushed : (old new : List rt.SumNode) (sum : ℕ) (expected : Option Bool) (won lost : ℕ) (won_rows lost_rows : List Row) → new ≡ old ++ variants.Both expected won lost ∷ [] → sum ≡ length old → DrawsRows (map sum_shown old) won won_rows → DrawsRows (map sum_shown old) lost lost_rows
    → DrawsRows (map sum_shown new) sum (of_both_up expected won_rows lost_rows)
both_pushed old new sum expected won lost won_rows lost_rows e at h k =
    draws_pushed old new (variants.Both expected won lost) sum (of_both_up expected won_rows lost_rows) e at (draws_both (map sum_shown old) expected won lost won_rows lost_rows h k)

-- ---- summaries

pub ends_same : (made : kept.Summary) (rows : List Row) (run_end : RunEnd) (steps devices : ℕ) → rows ≡ one_run (run_end, ([], 0)) ∷ [] → made.steps ≡ steps → made.devices ≡ devices → made.cut_steps ≡ is_cut_steps run_end.ending → made.cut_devices ≡ is_cut_devices run_end.ending
    → summary_with rows made ≡ summary_at_end run_end steps devices
ends_same made rows run_end steps devices a b c d e = λ i. record { rows = a i; steps = b i; devices = c i; cut_steps = d i; cut_devices = e i }

pub sides_same : (made won lost : kept.Summary) (expected : Option Bool) (steps devices : ℕ) (won_shown lost_shown : Summary) → made.steps ≡ max steps (max won.steps lost.steps) → made.devices ≡ max (suc devices) (max won.devices lost.devices) → made.cut_steps ≡ (won.cut_steps || lost.cut_steps) → made.cut_devices ≡ (won.cut_devices || lost.cut_devices)
    → summary_with won_shown.rows won ≡ won_shown → summary_with lost_shown.rows lost ≡ lost_shown → summary_with (of_both_up expected won_shown.rows lost_shown.rows) made ≡ summary_of_sides (of_both_up expected) steps devices won_shown lost_shown
sides_same made won lost expected steps devices won_shown lost_shown a b c d is_won is_lost =
    let first : summary_with (of_both_up expected won_shown.rows lost_shown.rows) made ≡ summary_of_sides (of_both_up expected) steps devices (summary_with won_shown.rows won) (summary_with lost_shown.rows lost) =
    λ i. record { rows = of_both_up expected won_shown.rows lost_shown.rows; steps = a i; devices = b i; cut_steps = c i; cut_devices = d i } in
    first
    ∙ ap (λ (x : Summary). summary_of_sides (of_both_up expected) steps devices x (summary_with lost_shown.rows lost)) is_won
    ∙ ap (λ (x : Summary). summary_of_sides (of_both_up expected) steps devices won_shown x) is_lost
