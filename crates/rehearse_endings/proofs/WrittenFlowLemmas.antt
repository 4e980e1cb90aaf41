-- The flow that is written: the nodes from the last one made to the first, with new numbers.
use Rattle.std.proofs.Common.{ℕ, zero, suc, ◌+◌, ◌-◌, ◌≤◌, List, [], ◌∷◌, ◌++◌, map, reverse, length, Option, Some, None, option_map, refl, sym, ap, subst, ◌∙◌, ◌≡◌, append_assoc, append-nil, length-append, arith}
use Rattle.std.specs.List.{slice_get}
use Rattle.std.specs.Prelude.{Vec}
use Rattle.std.specs.declared.alloc.Global.{Global}
use Rattle.std.proofs.lemmas.Grind.{reverse_onto}
use Rattle.std.proofs.lemmas.List.{length-map, length-reverse}
use Rattle.std.proofs.lemmas.Option.{slice_get-map}
use Rattle.bootstore_state.specs.Moment.{Moment}
use Rattle.rehearse_terms.specs.Outcomes.{OutcomeWord, Outcome, Success, Failure}
use Rattle.rehearse_terms.specs.State.{Text}
use Rattle.bootstore_state.specs.StoredState.{state_at}
use Rattle.rehearse_rules.specs.Execution.{Limits, Answer, Normal, Exit, Ended, Dry}
use Rattle.rehearse_rules.specs.Runs.{Task, run_on}
use Rattle.rehearse_machine.specs.Came.{Came, Wants, settled}
use Rattle.rehearse_rules.specs.EndingsShown.{halt_shown}
use Rattle.rehearse_machine.specs.Machine.{IsAsking, Stops, asked_at}
use Rattle.rehearse_rules.specs.declared.halt.Halt.{Halt}
use Rattle.rehearse_machine.specs.declared.rehearsal.Stop.{Stop}
use Rattle.rehearse_machine.specs.declared.rehearsal.Stop.TheVariants as stops
use Rattle.rehearse_states.specs.Flow.{Node, Asks, Ends, next, behind, stands_at, goes_on, walk, numbered, asked_in, seen_of, IsFlow}
use Rattle.rehearse_reuse.specs.Futures.{came_log}
use Rattle.rehearse_states.specs.Drawing.{node_shown, nodes_shown, HasMore, renumbered}
use Rattle.rehearse_reuse.specs.DrawnRuns.{seen_behind, seen_at, Draws}
use Rattle.rehearse_states.specs.Words.{words_in}
use Rattle.rehearse_endings.specs.Searching.{future, seen_from, IsReached, AreEntries}
use Rattle.rehearse_states.specs.declared.flow.Flow.{Flow}
use Rattle.rehearse_states.specs.declared.flow.Node as rt
use Rattle.rehearse_states.specs.declared.sum_nodes.SumNode as sum
use Rattle.rehearse_states.specs.SumNodes.{SumNode, HasMoreSums, sums_shown}
use Rattle.rehearse_endings.specs.declared.table.Table.{Table}
use Rattle.rehearse_machine.proofs.AskingCommandLemmas.{asks_anew}
use Rattle.rehearse_endings.proofs.DrawingLemmas.{draws_on, end_drawn, words_logged, asks_drawn}
use Rattle.rehearse_endings.proofs.SearchLemmas.{reached_log, reached_first, reached_on, reached_asks, reached_wants, future_is, log_there}

-- ---- a state in which a device command asks

asking_drawn : (limits : Limits) (m : Moment) (won_stop lost_stop : Stop) (won_at lost_at : Moment) (before nodes : List Node) (won_place lost_place : ℕ) (words : List Text) → IsAsking limits m → asked_at limits m [] ≡ Wants (state_at m [])
    → Stops limits won_stop (λ w. asked_at limits m (Success ∷ w)) won_at → Stops limits lost_stop (λ w. asked_at limits m (Failure ∷ w)) lost_at → length (asked_in won_at.log) ≡ suc (length (asked_in m.log)) → length (asked_in lost_at.log) ≡ suc (length (asked_in m.log))
    → words ≡ words_in (slice_get won_at.log (length m.log)) → Draws before won_place (seen_from limits won_stop won_at) → HasMore before nodes → Draws nodes lost_place (seen_from limits lost_stop lost_at)
    → Draws (nodes ++ Asks words won_place lost_place ∷ []) (length nodes) (seen_at limits m)
unfolding IsAsking
asking_drawn limits m won_stop lost_stop won_at lost_at before nodes won_place lost_place words asking wants won lost won_log lost_log are won_draws more lost_draws =
    asks_drawn limits m asking won_stop lost_stop won_at lost_at nodes won_place lost_place (asks_anew limits m asking) wants
    (future_is limits won_stop (λ w. asked_at limits m (Success ∷ w)) won_at won) won_log (draws_on before nodes won_place (seen_from limits won_stop won_at) more won_draws)
    (future_is limits lost_stop (λ w. asked_at limits m (Failure ∷ w)) lost_at lost) lost_log lost_draws
    words (are ∙ words_logged limits m asking won_at.log Success [] (log_there limits won_stop (λ w. asked_at limits m (Success ∷ w)) won_at won))

-- the place of the device command that asks, from the places of its two sides
pub state_drawn : (task : Task) (depth devices : ℕ) (m : Moment) (won_stop lost_stop : Stop) (won_at lost_at : Moment) (before nodes new : List Node) (won_place lost_place place : ℕ) (words : List Text) → IsReached task depth stops.Asks m
    → Stops task.limits won_stop (λ w. asked_at task.limits m (Success ∷ w)) won_at → Stops task.limits lost_stop (λ w. asked_at task.limits m (Failure ∷ w)) lost_at
    → devices ≡ length m.log → words ≡ words_in (slice_get won_at.log devices) → Draws before won_place (seen_from task.limits won_stop won_at) → HasMore before nodes → Draws nodes lost_place (seen_from task.limits lost_stop lost_at)
    → place ≡ length nodes → new ≡ nodes ++ Asks words won_place lost_place ∷ [] → Draws new place (seen_at task.limits m)
state_drawn task depth devices m won_stop lost_stop won_at lost_at before nodes new won_place lost_place place words reached won lost logged are won_draws more lost_draws at is =
    let log = reached_log task depth stops.Asks m reached in
    let won_log = reached_log task (depth + 1) won_stop won_at (reached_on task depth m won_at Success won_stop reached won) in
    let lost_log = reached_log task (depth + 1) lost_stop lost_at (reached_on task depth m lost_at Failure lost_stop reached lost) in
    subst (λ (x : List Node). Draws x place (seen_at task.limits m)) (sym is)
    (subst (λ (n : ℕ). Draws (nodes ++ Asks words won_place lost_place ∷ []) n (seen_at task.limits m)) (sym at)
    (asking_drawn task.limits m won_stop lost_stop won_at lost_at before nodes won_place lost_place words (reached_asks task depth m reached) (reached_wants task depth m reached) won lost (omega arith) (omega arith)
    (are ∙ ap (λ (n : ℕ). words_in (slice_get won_at.log n)) logged) won_draws more lost_draws))

-- the state is kept
pub kept_drawn : (limits : Limits) (m : Moment) (nodes new : List Node) (place kept : ℕ) → new ≡ nodes → kept ≡ place → Draws nodes place (seen_at limits m) → Draws new kept (seen_at limits m)
kept_drawn limits m nodes new place kept e at h =
    subst (λ (x : List Node). Draws x kept (seen_at limits m)) (sym e) (subst (λ (n : ℕ). Draws nodes n (seen_at limits m)) (sym at) h)

-- a run that is over
pub ended_drawn : (limits : Limits) (nodes : List Node) (place kept : ℕ) (halt : Halt) (stop : Stop) (m : Moment) → stop ≡ stops.Ends halt → kept ≡ place → slice_get nodes place ≡ Some (Ends (halt_shown halt)) → Draws nodes kept (seen_from limits stop m)
ended_drawn limits nodes place kept halt stop m is at e =
    subst (λ (x : Stop). Draws nodes kept (seen_from limits x m)) (sym is)
    (subst (λ (n : ℕ). Draws nodes n (seen_from limits (stops.Ends halt) m)) (sym at) (end_drawn limits nodes place (halt_shown halt) m e))

-- nodes after nodes that are after others
pub more_on : (a b c : List Node) → HasMore a b → HasMore b c → HasMore a c
more_on a b c h k = (h.0 ++ k.0, k.1 ∙ ap (λ (x : List Node). x ++ k.0) h.1 ∙ append_assoc a h.0 k.0)

pub more_nodes : (a b c more : List Node) → b ≡ a ++ more → c ≡ b → HasMore a c
more_nodes a b c more e f = (more, f ∙ e)

pub no_more : (a b : List Node) → b ≡ a → HasMore a b
no_more a b e = ([], e ∙ sym (append-nil a))

-- nodes of rows, after others
pub more_sums_on : (a b c : List SumNode) → HasMoreSums a b → HasMoreSums b c → HasMoreSums a c
more_sums_on a b c h k = (h.0 ++ k.0, k.1 ∙ ap (λ (x : List SumNode). x ++ k.0) h.1 ∙ append_assoc a h.0 k.0)

pub no_more_sums : (a b : List SumNode) → b ≡ a → HasMoreSums a b
no_more_sums a b e = ([], e ∙ sym (append-nil a))

-- a node that was made last
pub last_made : (old asked new : Vec rt.Node Global) (node : Node) (place kept : ℕ) → place ≡ length old.items → nodes_shown asked ≡ nodes_shown old ++ node ∷ [] → new ≡ asked → kept ≡ place → kept + 1 ≡ length new.items
last_made old asked new node place kept at made_so same kept_at =
    let a = ap length made_so in
    let b = length-append (nodes_shown old) (node ∷ []) in
    let c = length-map asked.items node_shown in
    let d = length-map old.items node_shown in
    let e = ap (λ (v : Vec rt.Node Global). length v.items) same in
    omega (arith, a, b, c, d, e, at, kept_at)

-- the entries of a table, when a state is entered
pub entered_as : (names : List Text) (limits : Limits) (old new : Table) → new.entries.items ≡ old.entries.items → new.flow ≡ old.flow → new.sums ≡ old.sums → AreEntries names limits (nodes_shown old.flow.nodes) (sums_shown old.sums) old.entries.items
    → AreEntries names limits (nodes_shown new.flow.nodes) (sums_shown new.sums) new.entries.items
entered_as names limits old new e f g h =
    subst (λ (x : Flow). AreEntries names limits (nodes_shown x.nodes) (sums_shown new.sums) new.entries.items) (sym f)
    (subst (λ (x : Vec sum.SumNode Global). AreEntries names limits (nodes_shown old.flow.nodes) (sums_shown x) new.entries.items) (sym g)
    (subst (AreEntries names limits (nodes_shown old.flow.nodes) (sums_shown old.sums)) (sym e) h))

-- ---- the order of the lines

numbered_in : (xs ys : List Node) (n : ℕ) → n ≤ length xs → numbered (xs ++ ys) n ≡ numbered xs n
numbered_in xs ys zero l = refl
numbered_in [] ys (suc n) l = absurd (omega arith)
numbered_in (x ∷ xs) ys (suc zero) l = refl
numbered_in (x ∷ xs) ys (suc (suc n)) l = numbered_in xs ys (suc n) (omega arith)

numbered_last : (xs : List Node) (x : Node) → numbered (xs ++ x ∷ []) (suc (length xs)) ≡ Some x
numbered_last [] x = refl
numbered_last (z ∷ xs) x = numbered_last xs x

numbered_none : (n : ℕ) → numbered [] n ≡ None
numbered_none zero = refl
numbered_none (suc n) = refl

-- the line of the node at a place
line_at : (xs : List Node) (place : ℕ) → numbered (reverse xs) (length xs - place) ≡ slice_get xs place
line_at [] place = numbered_none (length {A = Node} [] - place)
line_at (x ∷ xs) zero =
    let all : length (x ∷ xs) - 0 ≡ suc (length xs) = omega arith in
    ap (numbered (reverse (x ∷ xs))) all
    ∙ ap (λ (l : List Node). numbered l (suc (length xs))) (reverse_onto xs x [])
    ∙ ap (λ (n : ℕ). numbered (reverse xs ++ x ∷ []) (suc n)) (sym (length-reverse xs))
    ∙ numbered_last (reverse xs) x
line_at (x ∷ xs) (suc place) =
    let fewer : length (x ∷ xs) - suc place ≡ length xs - place = omega arith in
    ap (numbered (reverse (x ∷ xs))) fewer
    ∙ ap (λ (l : List Node). numbered l (length xs - place)) (reverse_onto xs x [])
    ∙ numbered_in (reverse xs) (x ∷ []) (length xs - place) (let e = length-reverse xs in omega arith)
    ∙ line_at xs place

-- ---- walks by the new numbers

stands_as : (count : ℕ) (o : Option Node) → stands_at (option_map (renumbered count) o) ≡ stands_at o
stands_as count None = refl
stands_as count (Some (Asks words success failure)) = refl
stands_as count (Some (Ends ending)) = refl

next_as : (count success failure : ℕ) (d : Outcome) → next d (count - success) (count - failure) ≡ count - next d success failure
next_as count success failure Success = refl
next_as count success failure Failure = refl

module _ (count : ℕ) (there here : ℕ → Option Node) (lines : (place : ℕ) → there (count - place) ≡ option_map (renumbered count) (here place)) where
  on_as : (d : Outcome) (w : OutcomeWord) (o : Option Node) → ((place : ℕ) → walk there w (count - place) ≡ walk here w place) → goes_on (option_map (renumbered count) o) d (walk there w) ≡ goes_on o d (walk here w)
  on_as d w None h = refl
  on_as d w (Some (Asks words success failure)) h =
      ap (λ (n : ℕ). behind d words (walk there w n)) (next_as count success failure d) ∙ ap (behind d words) (h (next d success failure))
  on_as d w (Some (Ends ending)) h = refl

  walk_as : (w : OutcomeWord) (place : ℕ) → walk there w (count - place) ≡ walk here w place
  walk_as [] place = ap stands_at (lines place) ∙ stands_as count (here place)
  walk_as (d ∷ w) place = ap (λ (o : Option Node). goes_on o d (walk there w)) (lines place) ∙ on_as d w (here place) (walk_as w)

-- ---- the whole

seen_settled : (a : Answer) → seen_behind 0 (settled a) ≡ seen_of a
seen_settled (Normal s) = refl
seen_settled (Exit s) = refl
seen_settled (Ended ending s) = refl
seen_settled (Dry s) = refl

lines_of : (nodes : List Node) (place : ℕ) → numbered (reverse (map (renumbered (length nodes)) nodes)) (length nodes - place) ≡ option_map (renumbered (length nodes)) (slice_get nodes place)
lines_of nodes place =
    let r : Node → Node = renumbered (length nodes) in
    ap (λ (n : ℕ). numbered (reverse (map r nodes)) (n - place)) (sym (length-map nodes r))
    ∙ line_at (map r nodes) place
    ∙ slice_get-map r nodes place

pub whole_flow : (task : Task) (stop : Stop) (m : Moment) (nodes lines : List Node) (place count : ℕ) → Stops task.limits stop (λ w. settled (run_on task w)) m
    → Draws nodes place (seen_from task.limits stop m) → place + 1 ≡ count → count ≡ length nodes → lines ≡ reverse (map (renumbered count) nodes) → IsFlow task lines
whole_flow task stop m nodes lines place count h draws last many is = λ w.
    let first : 1 ≡ length nodes - place = omega arith in
    let log : length (asked_in m.log) ≡ 0 = reached_log task 0 stop m (reached_first task stop m h) in
    ap (λ (x : List Node). walk (numbered x) w 1) (is ∙ ap (λ (n : ℕ). reverse (map (renumbered n) nodes)) many)
    ∙ ap (λ (n : ℕ). walk (numbered (reverse (map (renumbered (length nodes)) nodes))) w n) first
    ∙ walk_as (length nodes) (numbered (reverse (map (renumbered (length nodes)) nodes))) (slice_get nodes) (lines_of nodes) w place
    ∙ ap (λ (x : List Node). walk (slice_get x) w place) (sym (append-nil nodes))
    ∙ draws [] w
    ∙ ap (λ (n : ℕ). seen_behind n (future task.limits stop m w)) log
    ∙ ap (seen_behind 0) (sym (future_is task.limits stop (λ v. settled (run_on task v)) m h w))
    ∙ seen_settled (run_on task w)
