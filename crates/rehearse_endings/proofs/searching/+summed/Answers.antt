use Rattle.std.proofs.Common.{ℕ, length, refl, arith, rules, map, ap, sym, subst, ◌∙◌, ◌≡◌, ◌≤◌, ◌+◌, List, Vec, [], ◌∷◌, ◌++◌}
use Rattle.std.specs.declared.alloc.Global.{Global}
use Rattle.device_list.specs.DeviceList.{expected}
use Rattle.rehearse_terms.specs.Outcomes.{Success, Failure}
use Rattle.rehearse_machine.specs.Tasks.{task_in}
use Rattle.rehearse_machine.specs.declared.rehearsal.Stop.{Stop}
use Rattle.rehearse_machine.specs.declared.rehearsal.Stop.TheVariants.{Asks}
use Rattle.rehearse_states.specs.RowsShown.{of_both_up, run_end_shown}
use Rattle.rehearse_states.specs.Summaries.{Summary, summary_at_end, summary_of_sides}
use Rattle.rehearse_states.specs.SumNodes.{SumNode, HasMoreSums, IsSummary, sums_shown}
use Rattle.rehearse_states.specs.declared.sum_nodes.SumNode as sum
use Rattle.rehearse_states.proofs.SumLemmas.{draws_further}
use Rattle.text.specs.TextsShown.{bytes_of_words}
use Rattle.std.proofs.lemmas.List.{length-map}
use Rattle.rehearse_reuse.specs.DrawnRuns.{Draws}
use Rattle.rehearse_states.specs.Drawing.{node_shown, nodes_shown}
use Rattle.rehearse_states.specs.declared.flow.Flow.{Flow}
use Rattle.bootstore_state.specs.Moment.{Moment}
use Rattle.rehearse_frames.specs.KeysToCome.{AreEnoughAt}
use Rattle.rehearse_frames.specs.Above.{without_lowest}
use Rattle.rehearse_reads.specs.Keys.{keys_in_front}
use Rattle.rehearse_reports.specs.Following.{AreEnoughAtStop, HasFramesAtStop}
use Rattle.rehearse_reports.specs.ReportsShown.{accesses_shown, keys_shown}
use Rattle.rehearse_endings.specs.Searching.{future, seen_from, IsFound, IsKeptAt, NeverReturnsTo, SummedFrom}
use Rattle.rehearse_endings.proofs.BelowLemmas.{end_never, side_of}
use Rattle.rehearse_endings.specs.Held.{ComesToBytes, HasNoRoom, most_held}
use Rattle.rehearse_endings.specs.Searched.{IsFull, IsSpent}
use Rattle.rehearse_endings.specs.States.{ComesToStates, ComesToSteps}
use Rattle.rehearse_endings.specs.Indexed.{NoneFits}
use Rattle.rehearse_machine.specs.StoppedTexts.{StoppedAt}
use Rattle.rehearse_machine.proofs.StoppedTextLemmas.{stopped_on}
use Rattle.std.proofs.Common.{Err}
use Rattle.std.proofs.lemmas.Result.{err_from_is_err_and}
use Rattle.rehearse_endings.proofs.IndexLemmas.{noted_same, nothing}
use Rattle.rehearse_endings.proofs.EnteredStateLemmas.{refused_as, passed_on, met_as, enters, too_many, too_costly, comes_by, gone_through, none_entered, something}
use Rattle.rehearse_endings.proofs.HeldLemmas.{too_large}
use Rattle.rehearse_endings.proofs.WrittenFlowLemmas.{state_drawn, kept_drawn, last_made, ended_drawn, more_on, more_nodes, no_more, more_sums_on, no_more_sums, entered_as}
use Rattle.rehearse_endings.proofs.SearchLemmas.{marked_present, reached_marked, reached_asks, last_there, keys_of_sides, searched_behind, Room, begun_back, begun_marked, begun_on, begun_won, begun_behind, begun_lost, spent_by, begun_sides, reached_within, reached_as, reached_below, reached_on, won_on, back_there, marks_back, room_kept, lost_on, sides_of, summed_end, summed_sides, all_wider, entries_more}
use Rattle.rehearse_endings.specs.declared.sum_error.SumError.{SumError}
use Rattle.rehearse_endings.specs.declared.sum_error.SumError.TheVariants.{Bytes, States, Steps}
use Rattle.rehearse_endings.proofs.searching.+summed.Goals as goal

pub find-requires-clause-depth : goal.find-requires-clause-depth
find-requires-clause-depth g t c = sym c.logged-devices.ensures

pub logged-devices-requires : goal.logged-devices-requires
logged-devices-requires g t c =
    let within = reached_within (task_in c.args.rehearsal.now) c.args.depth c.args.stop (g.S.Store.record_of c.args.store.now).present c.requires.reached in
    let b = c.requires.bound in
    omega arith

pub overflow_add-depth : goal.overflow_add-depth
overflow_add-depth g t c =
    let task = task_in c.args.rehearsal.now in
    let m = (g.S.Store.record_of c.args.store.now).present in
    let reached = reached_as task c.args.depth c.args.stop Asks m c.in-Asks.is c.requires.reached in
    let l = reached_below task c.args.depth m reached in
    let b = c.requires.bound in
    omega arith

pub summed-requires : goal.summed-requires
summed-requires g t c κs within =
    let task = task_in c.args.rehearsal.now in
    let r₀ = g.S.Store.record_of c.args.store.now in
    let r = g.S.Store.record_of c.mark.new.self in
    let reached = reached_as task c.args.depth c.args.stop Asks r.present c.in-Asks.is (reached_marked task c.args.depth c.args.stop r₀ r c.in_ok-mark-in-Asks.ensures.ok c.requires.reached) in
    let first = begun_marked r₀ r c.in_ok-mark-in-Asks.ensures.ok in
    let l = reached_below task c.args.depth r.present reached in
    let b = c.requires.bound in
    let r₁ = g.S.Store.record_of c.resumed.new.store in
    let stops = won_on task r (g.S.Store.record_of c.mark-in-Asks.new.self) r₁ c.in_ok-won_stop-in-Asks.won_stop c.in_ok-mark-in-Asks-2.ensures.ok c.in_ok-won_stop-in-Asks.ensures.stops in
    let entered = entered_as (map (λ n. n.now) c.args.names.now) task.limits c.args.table.now c.enter.new.self c.enter.ensures.entries c.enter.ensures.flow c.enter.ensures.sums c.requires.table in
    let marked = begun_marked r (g.S.Store.record_of c.mark-in-Asks.new.self) c.in_ok-mark-in-Asks-2.ensures.ok in
    let on = begun_on (g.S.Store.record_of c.mark-in-Asks.new.self) r₁ c.in_ok-won_stop-in-Asks.ensures.begun c.in_ok-won_stop-in-Asks.ensures.within in
    let room = c.requires.begun in
    let visited = c.in_ok-enter-in-Asks.ensures.visited in
    let begun : Room r₁.begun c.enter.new.self.visited = omega (arith, first, marked, on, room, visited) in
    (omega (arith, c.decreases), (within, (reached_on task c.args.depth r.present r₁.present Success c.in_ok-won_stop-in-Asks.won_stop reached stops, (entered, (c.enter.ensures.noted c.requires.noted, (c.in_ok-won_stop-in-Asks.ensures.within, (b, (begun, (c.in_ok-enter-in-Asks.ensures.within, c.in_ok-won_stop-in-Asks.ensures.worked)))))))))

pub overflow_add-depth-in-Asks : goal.overflow_add-depth-in-Asks
overflow_add-depth-in-Asks g t c =
    let task = task_in c.args.rehearsal.now in
    let m = (g.S.Store.record_of c.args.store.now).present in
    let reached = reached_as task c.args.depth c.args.stop Asks m c.in-Asks.is c.requires.reached in
    let l = reached_below task c.args.depth m reached in
    let b = c.requires.bound in
    omega arith

pub summed-requires-in-Asks : goal.summed-requires-in-Asks
summed-requires-in-Asks g t c κs within =
    let task = task_in c.args.rehearsal.now in
    let r₀ = g.S.Store.record_of c.args.store.now in
    let r = g.S.Store.record_of c.mark.new.self in
    let reached = reached_as task c.args.depth c.args.stop Asks r.present c.in-Asks.is (reached_marked task c.args.depth c.args.stop r₀ r c.in_ok-mark-in-Asks.ensures.ok c.requires.reached) in
    let first = begun_marked r₀ r c.in_ok-mark-in-Asks.ensures.ok in
    let l = reached_below task c.args.depth r.present reached in
    let b = c.requires.bound in
    let back = g.S.Store.record_of c.back.new.self in
    let there = back_there r (g.S.Store.record_of c.mark-in-Asks.new.self) (g.S.Store.record_of c.resumed.new.store) (g.S.Store.record_of c.summed.new.store) back c.in_ok-mark-in-Asks-2.ensures.ok c.in_ok-won_stop-in-Asks.ensures.marks c.in_ok-won-in-Asks.ensures.searched.marks c.back.ensures in
    let r₁ = g.S.Store.record_of c.resumed-in-Asks.new.store in
    let stops = lost_on task r.present back r₁ c.in_ok-lost_stop-in-Asks.lost_stop there c.in_ok-lost_stop-in-Asks.ensures.stops in
    let begun_before = c.requires.begun in
    let room : Room r.begun c.args.table.now.visited = omega (arith, first, begun_before) in
    let begun : Room r₁.begun c.summed.new.table.visited = begun_lost r (g.S.Store.record_of c.mark-in-Asks.new.self) (g.S.Store.record_of c.resumed.new.store) (g.S.Store.record_of c.summed.new.store) back r₁ c.args.table.now.visited c.enter.new.self.visited c.summed.new.table.visited c.in_ok-mark-in-Asks-2.ensures.ok c.in_ok-won_stop-in-Asks.ensures.begun c.in_ok-won_stop-in-Asks.ensures.within room c.in_ok-enter-in-Asks.ensures.visited c.in_ok-won-in-Asks.ensures.searched.begun c.back.ensures c.in_ok-lost_stop-in-Asks.ensures.begun c.in_ok-lost_stop-in-Asks.ensures.within in
    (omega (arith, c.decreases), (within, (reached_on task c.args.depth r.present r₁.present Failure c.in_ok-lost_stop-in-Asks.lost_stop reached stops, (c.in_ok-won-in-Asks.ensures.searched.table, (c.in_ok-won-in-Asks.ensures.searched.noted, (c.in_ok-lost_stop-in-Asks.ensures.within, (b, (begun, (c.in_ok-won-in-Asks.ensures.searched.room, c.in_ok-lost_stop-in-Asks.ensures.worked)))))))))

pub keep-requires : goal.keep-requires
keep-requires g t c =
    let r₀ = g.S.Store.record_of c.args.store.now in
    let r = g.S.Store.record_of c.mark.new.self in
    let marked = g.S.Store.record_of c.mark-in-Asks.new.self in
    let tried = g.S.Store.record_of c.resumed.new.store in
    let behind = g.S.Store.record_of c.summed.new.store in
    let back = g.S.Store.record_of c.back.new.self in
    let failed = g.S.Store.record_of c.resumed-in-Asks.new.store in
    let done = g.S.Store.record_of c.summed-in-Asks.new.store in
    let last = g.S.Store.record_of c.back-in-Asks.new.self in
    let first = c.in_ok-mark-in-Asks.ensures.ok in
    let second = c.in_ok-mark-in-Asks-2.ensures.ok in
    let at_last = last_there r₀ r done last first c.back-in-Asks.ensures
    (marks_back r marked tried behind back failed done second c.in_ok-won_stop-in-Asks.ensures.marks c.in_ok-won-in-Asks.ensures.searched.marks c.back.ensures c.in_ok-lost_stop-in-Asks.ensures.marks c.in_ok-lost-in-Asks.ensures.searched.marks) in
    let same = ap (λ (m : Moment). length m.frames) (at_last ∙ sym (marked_present r marked second)) in
    let less = c.behind_both-below.ensures.won in
    let all = c.in_ok-won_stop-in-Asks.ensures.all in
    omega arith

-- ---- what was searched

pub returns-in_ok-keys-in-Ends-clause-searched : goal.returns-in_ok-keys-in-Ends-clause-searched
returns-in_ok-keys-in-Ends-clause-searched g t c =
    let task = task_in c.args.rehearsal.now in
    let m = (g.S.Store.record_of c.args.store.now).present in
    let nodes = nodes_shown c.end.new.self.nodes in
    let sum_nodes = sums_shown c.of_end.new.sums in
    let shown = summary_at_end (run_end_shown c.in_ok-run_end-in-Ends.run_end) c.steps.result c.logged-devices.result in
    record {
      shown = shown;
      is = c.in_ok-summary-in-Ends.ensures.sums;
      sums =
          subst (λ (x : Stop). SummedFrom (map (λ n. n.now) c.args.names.now) task.limits x m shown) (sym c.in-Ends.is)
          (summed_end (map (λ n. n.now) c.args.names.now) task.limits c.in-Ends.halt (run_end_shown c.in_ok-run_end-in-Ends.run_end) m c.logged-devices.result c.steps.result shown (sym c.logged-devices.ensures) c.steps.ensures c.in_ok-run_end-in-Ends.ensures refl);
      draws = ended_drawn task.limits nodes c.in_ok-place-in-Ends.place c.in_ok-summary-in-Ends.summary.place c.in-Ends.halt c.args.stop m c.in-Ends.is c.in_ok-summary-in-Ends.ensures.place c.in_ok-place-in-Ends.ensures.place;
      within = subst (λ (x : Stop). HasFramesAtStop (c.below_end-below.result + 1) x m) (sym c.in-Ends.is) tt;
      keys = subst (λ (x : Stop). AreEnoughAtStop task.limits (map (λ n. n.now) c.args.names.now) x (without_lowest c.below_end-below.result m) (keys_shown c.in_ok-keys-in-Ends.keys.items)) (sym c.in-Ends.is) c.in_ok-keys-in-Ends.ensures;
      apart =
          subst (λ (x : Stop). NeverReturnsTo c.below_end-below.result (future task.limits x (without_lowest c.below_end-below.result m))) (sym c.in-Ends.is)
          (end_never task.limits c.in-Ends.halt (without_lowest c.below_end-below.result m) c.below_end-below.result c.below_end-below.ensures);
      grows = c.in_ok-place-in-Ends.ensures.grows;
      more = c.in_ok-summary-in-Ends.ensures.grows;
      last = λ none no_nodes. ap (λ (n : ℕ). n + 1) c.in_ok-summary-in-Ends.ensures.place ∙ c.in_ok-place-in-Ends.ensures.last no_nodes;
      marks = refl;
      table = all_wider (map (λ n. n.now) c.args.names.now) task.limits (nodes_shown c.args.table.now.flow.nodes) (sums_shown c.args.table.now.sums) nodes sum_nodes c.args.table.now.entries.items c.in_ok-place-in-Ends.ensures.grows c.in_ok-summary-in-Ends.ensures.grows c.requires.table;
      begun = omega arith;
      room = c.requires.room;
      most = refl;
      held = refl;
      noted = noted_same c.args.table.now _ (λ n p h. h) (λ n p h. h) refl refl (λ n h. h) c.requires.noted;
      entered = λ p begun at by entered. none_entered (map (λ n. n.now) c.args.names.now) task begun c.args.table.now _ refl c.in_ok-place-in-Ends.ensures.asks refl entered;
    }

pub returns-in-Some-clause-searched : goal.returns-in-Some-clause-searched
returns-in-Some-clause-searched g t c =
    let names = map (λ n. n.now) c.args.names.now in
    let limits = (task_in c.args.rehearsal.now).limits in
    let m = (g.S.Store.record_of c.args.store.now).present in
    let nodes = nodes_shown c.args.table.now.flow.nodes in
    let sum_nodes = sums_shown c.args.table.now.sums in
    let found : IsFound names limits nodes sum_nodes c.args.table.now.entries.items m c.in-Some.found = something _ _ c.in_ok-found-in-Asks.field-0 c.in-Some.found c.in-Some.is c.in_ok-found-in-Asks.ensures in
    record {
      shown = found.shown;
      is = found.is;
      sums = subst (λ (x : Stop). SummedFrom names limits x m found.shown) (sym c.in-Asks.is) found.sums;
      draws = subst (λ (x : Stop). Draws nodes c.in-Some.found.summary.place (seen_from limits x m)) (sym c.in-Asks.is) found.draws;
      within = subst (λ (x : Stop). HasFramesAtStop (c.in-Some.found.below + 1) x m) (sym c.in-Asks.is) (let within = found.within in omega arith);
      keys = subst (λ (x : Stop). AreEnoughAtStop limits names x (without_lowest c.in-Some.found.below m) (keys_shown c.in-Some.found.keys.items)) (sym c.in-Asks.is) found.keys;
      apart = subst (λ (x : Stop). NeverReturnsTo c.in-Some.found.below (future limits x (without_lowest c.in-Some.found.below m))) (sym c.in-Asks.is) found.apart;
      grows = no_more nodes nodes refl;
      more = no_more_sums sum_nodes sum_nodes refl;
      last = λ none no_nodes. absurd (found.some none);
      marks = refl;
      table = c.requires.table;
      begun = omega arith;
      room = c.requires.room;
      most = refl;
      held = refl;
      noted = c.requires.noted;
      entered = λ p begun at by entered. entered;
    }

pub returns-in_ok-keys-in-Asks-clause-searched : goal.returns-in_ok-keys-in-Asks-clause-searched
returns-in_ok-keys-in-Asks-clause-searched g t c =
    let names = map (λ n. n.now) c.args.names.now in
    let task = task_in c.args.rehearsal.now in
    let r₀ = g.S.Store.record_of c.args.store.now in
    let r = g.S.Store.record_of c.mark.new.self in
    let marked = g.S.Store.record_of c.mark-in-Asks.new.self in
    let tried = g.S.Store.record_of c.resumed.new.store in
    let behind = g.S.Store.record_of c.summed.new.store in
    let back = g.S.Store.record_of c.back.new.self in
    let failed = g.S.Store.record_of c.resumed-in-Asks.new.store in
    let done = g.S.Store.record_of c.summed-in-Asks.new.store in
    let last = g.S.Store.record_of c.back-in-Asks.new.self in
    let won = c.in_ok-won-in-Asks.won in
    let lost = c.in_ok-lost-in-Asks.lost in
    let summary = c.in_ok-summary-in-Asks.summary in
    let won_at = tried.present in
    let lost_at = failed.present in
    let first = c.in_ok-mark-in-Asks.ensures.ok in
    let second = c.in_ok-mark-in-Asks-2.ensures.ok in
    let before = c.args.table.now in
    let after = c.keep.new.table in
    let sides = sides_of task c.args.depth c.args.stop c.in_ok-won_stop-in-Asks.won_stop c.in_ok-lost_stop-in-Asks.lost_stop r marked tried behind back failed
    c.in-Asks.is (reached_marked task c.args.depth c.args.stop r₀ r first c.requires.reached) second c.in_ok-won_stop-in-Asks.ensures.stops c.in_ok-won_stop-in-Asks.ensures.marks c.in_ok-won-in-Asks.ensures.searched.marks c.back.ensures c.in_ok-lost_stop-in-Asks.ensures.stops in
    let present = marked_present r₀ r first in
    let none_here = subst (NoneFits task.limits.step_bound task.limits.device_bound c.args.table.now.entries.items) (sym present) (nothing _ _ c.in_ok-found-in-Asks.field-0 c.in_default.is c.in_ok-found-in-Asks.ensures) in
    let at_mark = marked_present r marked second in
    let at_back = back_there r marked tried behind back second c.in_ok-won_stop-in-Asks.ensures.marks c.in_ok-won-in-Asks.ensures.searched.marks c.back.ensures in
    let at_last = last_there r₀ r done last first c.back-in-Asks.ensures
    (marks_back r marked tried behind back failed done second c.in_ok-won_stop-in-Asks.ensures.marks c.in_ok-won-in-Asks.ensures.searched.marks c.back.ensures c.in_ok-lost_stop-in-Asks.ensures.marks c.in_ok-lost-in-Asks.ensures.searched.marks) in
    let log = c.logged-devices.ensures ∙ ap (λ (m : Moment). length m.log) (sym (marked_present r₀ r first)) in
    let steps = c.steps-steps.ensures ∙ ap (λ (m : Moment). m.steps) at_last in
    let below = c.behind_both-below.result in
    let alone = c.behind_both-below.ensures in
    let won_side = side_of names task.limits below r.present Success marked.present won_at c.in_ok-won_stop-in-Asks.won_stop (accesses_shown c.resumed.new.reported) (keys_shown won.keys.items) c.resumed.new.fewest won.below at_mark alone.won alone.behind_won sides.won
    c.in_ok-won-in-Asks.ensures.searched.within c.in_ok-won_stop-in-Asks.ensures.keys c.in_ok-won-in-Asks.ensures.searched.keys c.in_ok-won-in-Asks.ensures.searched.apart in
    let lost_side = side_of names task.limits below r.present Failure back.present lost_at c.in_ok-lost_stop-in-Asks.lost_stop (accesses_shown c.resumed-in-Asks.new.reported) (keys_shown lost.keys.items) c.resumed-in-Asks.new.fewest lost.below at_back alone.lost alone.behind_lost sides.lost
    c.in_ok-lost-in-Asks.ensures.searched.within c.in_ok-lost_stop-in-Asks.ensures.keys c.in_ok-lost-in-Asks.ensures.searched.keys c.in_ok-lost-in-Asks.ensures.searched.apart in
    let most_frames = subst (λ (m : Moment). c.resumed.new.fewest ≤ length m.frames) at_mark c.in_ok-won_stop-in-Asks.ensures.all in
    let keys_at = keys_of_sides names task below r.present (keys_in_front (accesses_shown c.resumed.new.reported) (keys_shown won.keys.items)) (keys_in_front (accesses_shown c.resumed-in-Asks.new.reported) (keys_shown lost.keys.items)) (keys_shown c.in_ok-both-in-Asks.both.items) c.resumed.new.fewest
    (reached_asks task c.args.depth r.present sides.reached) alone.won most_frames won_side lost_side c.in_ok-both-in-Asks.ensures.both in
    let keys_kept = subst (AreEnoughAt task.limits names (without_lowest below r.present)) (sym c.in_ok-keys-in-Asks.ensures.keys) keys_at.enough in
    let words_are : c.deref.result.now ≡ c.in_ok-words-in-Asks.words.items = search rules in
    let normal = c.expected-expected.ensures ∙ ap (λ (ws : List (Vec ℕ Global)). expected task.limits.devices (bytes_of_words ws)) words_are in
    let won_shown = c.in_ok-won-in-Asks.ensures.searched.shown in
    let lost_shown = c.in_ok-lost-in-Asks.ensures.searched.shown in
    let shown = summary_of_sides (of_both_up c.expected-expected.result) c.steps-steps.result c.logged-devices.result won_shown lost_shown in
    let won_sums = sums_shown c.summed.new.table.sums in
    let lost_sums = sums_shown c.summed-in-Asks.new.table.sums in
    let new_sums = sums_shown c.of_sides.new.sums in
    let sum_nodes = sums_shown after.sums in
    let same_sums : sum_nodes ≡ new_sums = ap (λ (v : Vec sum.SumNode Global). sums_shown v) c.keep.ensures.sums in
    let more_sums = c.in_ok-lost-in-Asks.ensures.searched.more in
    let won_is : IsSummary lost_sums won.summary won_shown = (draws_further won_sums lost_sums won.summary.sum won_shown.rows more_sums c.in_ok-won-in-Asks.ensures.searched.is.0, c.in_ok-won-in-Asks.ensures.searched.is.1) in
    let is : IsSummary sum_nodes summary shown = subst (λ (x : List SumNode). IsSummary x summary shown) (sym same_sums) (c.in_ok-summary-in-Asks.ensures.sums won_shown lost_shown won_is c.in_ok-lost-in-Asks.ensures.searched.is) in
    let grown : HasMoreSums lost_sums sum_nodes = more_sums_on lost_sums new_sums sum_nodes c.in_ok-summary-in-Asks.ensures.grows (no_more_sums new_sums sum_nodes same_sums) in
    let summed = summed_sides names task c.args.depth r.present sides.reached c.in_ok-won_stop-in-Asks.won_stop c.in_ok-lost_stop-in-Asks.lost_stop won_at lost_at won_shown lost_shown shown c.steps-steps.result c.logged-devices.result c.expected-expected.result (bytes_of_words c.in_ok-words-in-Asks.words.items) steps log sides.won sides.lost c.in_ok-words-in-Asks.ensures normal c.in_ok-won-in-Asks.ensures.searched.sums c.in_ok-lost-in-Asks.ensures.searched.sums refl in
    let won_nodes = nodes_shown c.summed.new.table.flow.nodes in
    let nodes = c.summed-in-Asks.new.table.flow.nodes in
    let same = ap (λ (x : Flow). nodes_shown x.nodes) c.keep.ensures.flow in
    let words = bytes_of_words c.in_ok-words-in-Asks.words.items in
    let place = c.in_ok-place-in-Asks.place in
    let at = c.in_ok-place-in-Asks.ensures.place ∙ sym (length-map nodes.items node_shown) in
    let kept_at = c.in_ok-summary-in-Asks.ensures.place in
    let drawn =
    state_drawn task c.args.depth c.logged-devices.result r.present c.in_ok-won_stop-in-Asks.won_stop c.in_ok-lost_stop-in-Asks.lost_stop won_at lost_at won_nodes (nodes_shown nodes) (nodes_shown c.ask.new.self.nodes) won.summary.place lost.summary.place place words
    sides.reached sides.won sides.lost log c.in_ok-words-in-Asks.ensures c.in_ok-won-in-Asks.ensures.searched.draws c.in_ok-lost-in-Asks.ensures.searched.grows c.in_ok-lost-in-Asks.ensures.searched.draws at c.in_ok-place-in-Asks.ensures.nodes in
    let draws = kept_drawn task.limits r.present (nodes_shown c.ask.new.self.nodes) (nodes_shown after.flow.nodes) place summary.place same kept_at drawn in
    let more = more_nodes (nodes_shown nodes) (nodes_shown c.ask.new.self.nodes) (nodes_shown after.flow.nodes) _ c.in_ok-place-in-Asks.ensures.nodes same in
    let kept : IsKeptAt c.summed-in-Asks.new.table.entries.items after.entries.items below r.present (keys_shown c.in_ok-both-in-Asks.both.items) c.logged-devices.result summary =
    subst (λ (m : Moment). IsKeptAt c.summed-in-Asks.new.table.entries.items after.entries.items below m (keys_shown c.in_ok-both-in-Asks.both.items) c.logged-devices.result summary) at_last c.in_ok-keys-in-Asks.ensures.kept in
    searched_behind names task c.args.stop r₀ r done last before after _ first c.back-in-Asks.ensures
    (record {
      shown = shown;
      is = is;
      sums = subst (λ (x : Stop). SummedFrom names task.limits x r.present shown) (sym c.in-Asks.is) summed;
      draws = subst (λ (x : Stop). Draws (nodes_shown after.flow.nodes) summary.place (seen_from task.limits x r.present)) (sym c.in-Asks.is) draws;
      within = subst (λ (x : Stop). HasFramesAtStop (below + 1) x r.present) (sym c.in-Asks.is) (let within = keys_at.within in omega arith);
      keys = subst (λ (x : Stop). AreEnoughAtStop task.limits names x (without_lowest below r.present) (keys_shown c.in_ok-keys-in-Asks.keys.items)) (sym c.in-Asks.is) keys_kept;
      apart = subst (λ (x : Stop). NeverReturnsTo below (future task.limits x (without_lowest below r.present))) (sym c.in-Asks.is) keys_at.never;
      grows =
          let one = nodes_shown c.args.table.now.flow.nodes in
          let entered = nodes_shown c.enter.new.self.flow.nodes in
          let two = nodes_shown c.summed.new.table.flow.nodes in
          let three = nodes_shown c.summed-in-Asks.new.table.flow.nodes in
          let four = nodes_shown after.flow.nodes in
          let shown = λ (x : Flow). nodes_shown x.nodes in
          more_on one three four
          (more_on one two three (more_on one entered two (no_more one entered (ap shown c.enter.ensures.flow)) c.in_ok-won-in-Asks.ensures.searched.grows) c.in_ok-lost-in-Asks.ensures.searched.grows)
          (more_nodes three (nodes_shown c.ask.new.self.nodes) four _ c.in_ok-place-in-Asks.ensures.nodes (ap shown c.keep.ensures.flow));
      more =
          let first = sums_shown before.sums in
          let entered = sums_shown c.enter.new.self.sums in
          more_sums_on first lost_sums sum_nodes
          (more_sums_on first won_sums lost_sums (more_sums_on first entered won_sums (no_more_sums first entered (ap (λ (v : Vec sum.SumNode Global). sums_shown v) c.enter.ensures.sums)) c.in_ok-won-in-Asks.ensures.searched.more) more_sums) grown;
      last = λ none no_nodes. last_made nodes c.ask.new.self.nodes after.flow.nodes _ place summary.place c.in_ok-place-in-Asks.ensures.place c.in_ok-place-in-Asks.ensures.nodes (ap (λ (x : Flow). x.nodes) c.keep.ensures.flow) kept_at;
      marks = marks_back r marked tried behind back failed done second c.in_ok-won_stop-in-Asks.ensures.marks c.in_ok-won-in-Asks.ensures.searched.marks c.back.ensures c.in_ok-lost_stop-in-Asks.ensures.marks c.in_ok-lost-in-Asks.ensures.searched.marks;
      table =
          entries_more names task (nodes_shown after.flow.nodes) sum_nodes c.args.depth c.logged-devices.result below r.present last.present (keys_shown c.in_ok-both-in-Asks.both.items) c.summed-in-Asks.new.table.entries.items after.entries.items summary shown sides.reached
          (all_wider names task.limits (nodes_shown nodes) lost_sums (nodes_shown after.flow.nodes) sum_nodes c.summed-in-Asks.new.table.entries.items more grown c.in_ok-lost-in-Asks.ensures.searched.table)
          at_last is summed draws log c.in_ok-both-in-Asks.ensures.asked keys_at.within keys_at.enough keys_at.never c.in_ok-keys-in-Asks.ensures.kept;
      begun = begun_sides r marked tried behind back failed done before.visited c.enter.new.self.visited c.summed.new.table.visited c.summed-in-Asks.new.table.visited after.visited second c.in_ok-won_stop-in-Asks.ensures.begun c.in_ok-won_stop-in-Asks.ensures.within c.in_ok-enter-in-Asks.ensures.visited
          c.in_ok-won-in-Asks.ensures.searched.begun c.back.ensures c.in_ok-lost_stop-in-Asks.ensures.begun c.in_ok-lost_stop-in-Asks.ensures.within c.in_ok-lost-in-Asks.ensures.searched.begun c.keep.ensures.visited;
      room = room_kept c.summed-in-Asks.new.table.visited c.summed-in-Asks.new.table.most after.visited after.most c.keep.ensures.visited c.keep.ensures.most c.in_ok-lost-in-Asks.ensures.searched.room;
      most = c.keep.ensures.most ∙ c.in_ok-lost-in-Asks.ensures.searched.most ∙ c.in_ok-won-in-Asks.ensures.searched.most ∙ c.enter.ensures.most;
      held = c.in_ok-keys-in-Asks.ensures.held ∙ c.in_ok-lost-in-Asks.ensures.searched.held ∙ c.in_ok-won-in-Asks.ensures.searched.held ∙ c.enter.ensures.held;
      noted = c.in_ok-keys-in-Asks.ensures.noted (noted_same c.summed-in-Asks.new.table _ (λ n p h. h) (λ n p h. h) refl refl (λ n h. h) c.in_ok-lost-in-Asks.ensures.searched.noted);
      entered = λ p begun at by entered.
          let met = met_as task p c.args.stop Asks r.present c.in-Asks.is at in
          let gone =
          c.in_ok-won-in-Asks.ensures.searched.entered (p ++ Success ∷ []) ((p, r.present) ∷ begun) (stopped_on task p r.present won_at Success c.in_ok-won_stop-in-Asks.won_stop met sides.won) (comes_by p Success r.present begun by)
          (enters names task p r.present begun met by c.args.table.now entered none_here c.enter.new.self c.enter.ensures.entries c.enter.ensures.flow c.in_ok-enter-in-Asks.ensures.visited) in
          let left =
          c.in_ok-lost-in-Asks.ensures.searched.entered (p ++ Failure ∷ []) ((p, r.present) ∷ begun) (stopped_on task p r.present lost_at Failure c.in_ok-lost_stop-in-Asks.lost_stop met sides.lost) (comes_by p Failure r.present begun by) gone in
          gone_through names task p r.present begun c.summed-in-Asks.new.table after c.ask.new.self words won.summary.place lost.summary.place (keys_shown c.in_ok-both-in-Asks.both.items) c.logged-devices.result below sum_nodes summary shown
          left c.in_ok-place-in-Asks.ensures.nodes kept c.keep.ensures.flow c.keep.ensures.visited keys_at is summed log;
    })

-- ---- the states that are refused

pub returns-in_err-enter-in-Asks-clause-refused : goal.returns-in_err-enter-in-Asks-clause-refused
returns-in_err-enter-in-Asks-clause-refused g t c = λ p begun at by entered.
    let names = map (λ n. n.now) c.args.names.now in
    let task = task_in c.args.rehearsal.now in
    let m = (g.S.Store.record_of c.args.store.now).present in
    let error = err_from_is_err_and c.from_residual-in_err-enter-in-Asks.result c.from_residual-in_err-enter-in-Asks.ensures.1 in
    refused_as names task (c.args.table.now.most + 1) c.from_residual-in_err-enter-in-Asks.result c.in_err-enter-in-Asks.field-0.0 (error.1 ∙ ap Err error.2)
    (λ is. too_many names task p m begun (met_as task p c.args.stop Asks m c.in-Asks.is at) by c.args.table.now entered (nothing _ _ c.in_ok-found-in-Asks.field-0 c.in_default.is c.in_ok-found-in-Asks.ensures) c.requires.room (c.in_err-enter-in-Asks.ensures.full is))

pub returns-in_err-won-in-Asks-clause-refused : goal.returns-in_err-won-in-Asks-clause-refused
returns-in_err-won-in-Asks-clause-refused g t c = λ p begun at by entered.
    let names = map (λ n. n.now) c.args.names.now in
    let task = task_in c.args.rehearsal.now in
    let r₀ = g.S.Store.record_of c.args.store.now in
    let r = g.S.Store.record_of c.mark.new.self in
    let present = marked_present r₀ r c.in_ok-mark-in-Asks.ensures.ok in
    let none_here = subst (NoneFits task.limits.step_bound task.limits.device_bound c.args.table.now.entries.items) (sym present) (nothing _ _ c.in_ok-found-in-Asks.field-0 c.in_default.is c.in_ok-found-in-Asks.ensures) in
    let met = met_as task p c.args.stop Asks r.present c.in-Asks.is (subst (λ (m : Moment). StoppedAt task p c.args.stop m) (sym present) at) in
    let won_at = (g.S.Store.record_of c.resumed.new.store).present in
    let won_stops = won_on task r (g.S.Store.record_of c.mark-in-Asks.new.self) (g.S.Store.record_of c.resumed.new.store) c.in_ok-won_stop-in-Asks.won_stop c.in_ok-mark-in-Asks-2.ensures.ok c.in_ok-won_stop-in-Asks.ensures.stops in
    let error = err_from_is_err_and c.from_residual-in_err-won-in-Asks.result c.from_residual-in_err-won-in-Asks.ensures.1 in
    refused_as names task (c.args.table.now.most + 1) c.from_residual-in_err-won-in-Asks.result c.in_err-won-in-Asks.field-0.0 (error.1 ∙ ap Err error.2)
    (λ is. subst (λ (n : ℕ). ComesToStates names task (n + 1)) c.enter.ensures.most
    (c.in_err-won-in-Asks.ensures.refused (p ++ Success ∷ []) ((p, r.present) ∷ begun) (stopped_on task p r.present won_at Success c.in_ok-won_stop-in-Asks.won_stop met won_stops) (comes_by p Success r.present begun by)
    (enters names task p r.present begun met by c.args.table.now entered none_here c.enter.new.self c.enter.ensures.entries c.enter.ensures.flow c.in_ok-enter-in-Asks.ensures.visited) is))

pub returns-in_err-lost-in-Asks-clause-refused : goal.returns-in_err-lost-in-Asks-clause-refused
returns-in_err-lost-in-Asks-clause-refused g t c = λ p begun at by entered.
    let names = map (λ n. n.now) c.args.names.now in
    let task = task_in c.args.rehearsal.now in
    let r₀ = g.S.Store.record_of c.args.store.now in
    let r = g.S.Store.record_of c.mark.new.self in
    let present = marked_present r₀ r c.in_ok-mark-in-Asks.ensures.ok in
    let none_here = subst (NoneFits task.limits.step_bound task.limits.device_bound c.args.table.now.entries.items) (sym present) (nothing _ _ c.in_ok-found-in-Asks.field-0 c.in_default.is c.in_ok-found-in-Asks.ensures) in
    let met = met_as task p c.args.stop Asks r.present c.in-Asks.is (subst (λ (m : Moment). StoppedAt task p c.args.stop m) (sym present) at) in
    let won_at = (g.S.Store.record_of c.resumed.new.store).present in
    let lost_at = (g.S.Store.record_of c.resumed-in-Asks.new.store).present in
    let sides = sides_of task c.args.depth c.args.stop c.in_ok-won_stop-in-Asks.won_stop c.in_ok-lost_stop-in-Asks.lost_stop r (g.S.Store.record_of c.mark-in-Asks.new.self) (g.S.Store.record_of c.resumed.new.store) (g.S.Store.record_of c.summed.new.store) (g.S.Store.record_of c.back.new.self) (g.S.Store.record_of c.resumed-in-Asks.new.store)
    c.in-Asks.is (reached_marked task c.args.depth c.args.stop r₀ r c.in_ok-mark-in-Asks.ensures.ok c.requires.reached) c.in_ok-mark-in-Asks-2.ensures.ok c.in_ok-won_stop-in-Asks.ensures.stops c.in_ok-won_stop-in-Asks.ensures.marks c.in_ok-won-in-Asks.ensures.searched.marks c.back.ensures c.in_ok-lost_stop-in-Asks.ensures.stops in
    let won =
    c.in_ok-won-in-Asks.ensures.searched.entered (p ++ Success ∷ []) ((p, r.present) ∷ begun) (stopped_on task p r.present won_at Success c.in_ok-won_stop-in-Asks.won_stop met sides.won) (comes_by p Success r.present begun by)
    (enters names task p r.present begun met by c.args.table.now entered none_here c.enter.new.self c.enter.ensures.entries c.enter.ensures.flow c.in_ok-enter-in-Asks.ensures.visited) in
    let error = err_from_is_err_and c.from_residual-in_err-lost-in-Asks.result c.from_residual-in_err-lost-in-Asks.ensures.1 in
    refused_as names task (c.args.table.now.most + 1) c.from_residual-in_err-lost-in-Asks.result c.in_err-lost-in-Asks.field-0.0 (error.1 ∙ ap Err error.2)
    (λ is. subst (λ (n : ℕ). ComesToStates names task (n + 1)) (c.in_ok-won-in-Asks.ensures.searched.most ∙ c.enter.ensures.most)
    (c.in_err-lost-in-Asks.ensures.refused (p ++ Failure ∷ []) ((p, r.present) ∷ begun) (stopped_on task p r.present lost_at Failure c.in_ok-lost_stop-in-Asks.lost_stop met sides.lost)
    (comes_by p Failure r.present begun by) won is))

-- ---- the steps that are refused

-- nothing was begun after the last stretch
pub returns-in_ok-keys-in-Asks-clause-worked : goal.returns-in_ok-keys-in-Asks-clause-worked
returns-in_ok-keys-in-Asks-clause-worked g t c =
    let done = g.S.Store.record_of c.summed-in-Asks.new.store in
    let last = begun_back done (g.S.Store.record_of c.back-in-Asks.new.self) c.back-in-Asks.ensures in
    let within = c.in_ok-lost-in-Asks.ensures.worked in
    omega (arith, last, within)

pub returns-in_err-enter-in-Asks-clause-spent : goal.returns-in_err-enter-in-Asks-clause-spent
returns-in_err-enter-in-Asks-clause-spent g t c = λ count.
    let error = err_from_is_err_and c.from_residual-in_err-enter-in-Asks.result c.from_residual-in_err-enter-in-Asks.ensures.1 in
    passed_on (λ (x : SumError). x ≡ Steps count → IsSpent c.args.most_work count (g.S.Store.record_of c.args.store.now) c.enter.new.self) c.from_residual-in_err-enter-in-Asks.result c.in_err-enter-in-Asks.field-0.0 (error.1 ∙ ap Err error.2)
    (λ is. absurd (let other : States ≡ Steps count = sym c.in_err-enter-in-Asks.ensures.err ∙ is in cc))

pub returns-in_err-enter-in-Asks-clause-costly : goal.returns-in_err-enter-in-Asks-clause-costly
returns-in_err-enter-in-Asks-clause-costly g t c = λ count p begun at by entered.
    let names = map (λ n. n.now) c.args.names.now in
    let task = task_in c.args.rehearsal.now in
    let error = err_from_is_err_and c.from_residual-in_err-enter-in-Asks.result c.from_residual-in_err-enter-in-Asks.ensures.1 in
    passed_on (λ (x : SumError). x ≡ Steps count → ComesToSteps names task count c.args.most_work) c.from_residual-in_err-enter-in-Asks.result c.in_err-enter-in-Asks.field-0.0 (error.1 ∙ ap Err error.2)
    (λ is. absurd (let other : States ≡ Steps count = sym c.in_err-enter-in-Asks.ensures.err ∙ is in cc))

pub returns-in_err-won_stop-in-Asks-clause-refused : goal.returns-in_err-won_stop-in-Asks-clause-refused
returns-in_err-won_stop-in-Asks-clause-refused g t c = λ p begun at by entered.
    let names = map (λ n. n.now) c.args.names.now in
    let task = task_in c.args.rehearsal.now in
    let error = err_from_is_err_and c.from_residual-in_err-won_stop-in-Asks.result c.from_residual-in_err-won_stop-in-Asks.ensures.1 in
    passed_on (λ (x : SumError). x ≡ States → ComesToStates names task (c.args.table.now.most + 1)) c.from_residual-in_err-won_stop-in-Asks.result c.in_err-won_stop-in-Asks.field-0.0 (error.1 ∙ ap Err error.2)
    (λ is. absurd (c.in_err-won_stop-in-Asks.ensures.err.0 is))

pub returns-in_err-won_stop-in-Asks-clause-spent : goal.returns-in_err-won_stop-in-Asks-clause-spent
returns-in_err-won_stop-in-Asks-clause-spent g t c = λ count.
    let r₀ = g.S.Store.record_of c.args.store.now in
    let r = g.S.Store.record_of c.mark.new.self in
    let marked = g.S.Store.record_of c.mark-in-Asks.new.self in
    let tried = g.S.Store.record_of c.resumed.new.store in
    let first = begun_marked r₀ r c.in_ok-mark-in-Asks.ensures.ok in
    let second = begun_marked r marked c.in_ok-mark-in-Asks-2.ensures.ok in
    let allowed = c.requires.worked in
    let error = err_from_is_err_and c.from_residual-in_err-won_stop-in-Asks.result c.from_residual-in_err-won_stop-in-Asks.ensures.1 in
    passed_on (λ (x : SumError). x ≡ Steps count → IsSpent c.args.most_work count (g.S.Store.record_of c.resumed.new.store) c.enter.new.self) c.from_residual-in_err-won_stop-in-Asks.result c.in_err-won_stop-in-Asks.field-0.0 (error.1 ∙ ap Err error.2)
    (λ is. spent_by c.args.most_work count marked tried c.enter.new.self (omega (arith, first, second, allowed)) (c.in_err-won_stop-in-Asks.ensures.spent count is) (c.in_err-won_stop-in-Asks.ensures.soon count is) (c.in_err-won_stop-in-Asks.ensures.counted count is))

pub returns-in_err-won_stop-in-Asks-clause-costly : goal.returns-in_err-won_stop-in-Asks-clause-costly
returns-in_err-won_stop-in-Asks-clause-costly g t c = λ count p begun at by entered.
    let names = map (λ n. n.now) c.args.names.now in
    let task = task_in c.args.rehearsal.now in
    let r₀ = g.S.Store.record_of c.args.store.now in
    let r = g.S.Store.record_of c.mark.new.self in
    let present = marked_present r₀ r c.in_ok-mark-in-Asks.ensures.ok in
    let none_here = subst (NoneFits task.limits.step_bound task.limits.device_bound c.args.table.now.entries.items) (sym present) (nothing _ _ c.in_ok-found-in-Asks.field-0 c.in_default.is c.in_ok-found-in-Asks.ensures) in
    let met = met_as task p c.args.stop Asks r.present c.in-Asks.is (subst (λ (m : Moment). StoppedAt task p c.args.stop m) (sym present) at) in
    let marked = g.S.Store.record_of c.mark-in-Asks.new.self in
    let tried = g.S.Store.record_of c.resumed.new.store in
    let first = begun_marked r₀ r c.in_ok-mark-in-Asks.ensures.ok in
    let begun_before = c.requires.begun in
    let room : Room r.begun c.args.table.now.visited = omega (arith, first, begun_before) in
    let error = err_from_is_err_and c.from_residual-in_err-won_stop-in-Asks.result c.from_residual-in_err-won_stop-in-Asks.ensures.1 in
    passed_on (λ (x : SumError). x ≡ Steps count → ComesToSteps names task count c.args.most_work) c.from_residual-in_err-won_stop-in-Asks.result c.in_err-won_stop-in-Asks.field-0.0 (error.1 ∙ ap Err error.2)
    (λ is. subst (λ (n : ℕ). ComesToSteps names task n c.args.most_work) (sym (c.in_err-won_stop-in-Asks.ensures.counted count is))
    (too_costly names task ((p, r.present) ∷ begun) c.enter.new.self c.args.most_work tried.begun
    (enters names task p r.present begun met by c.args.table.now entered none_here c.enter.new.self c.enter.ensures.entries c.enter.ensures.flow c.in_ok-enter-in-Asks.ensures.visited)
    (c.in_err-won_stop-in-Asks.ensures.spent count is)
    (begun_won r marked tried c.args.table.now.visited c.enter.new.self.visited c.in_ok-mark-in-Asks-2.ensures.ok (c.in_err-won_stop-in-Asks.ensures.soon count is) room c.in_ok-enter-in-Asks.ensures.visited)))

pub returns-in_err-won-in-Asks-clause-spent : goal.returns-in_err-won-in-Asks-clause-spent
returns-in_err-won-in-Asks-clause-spent g t c = λ count.
    let error = err_from_is_err_and c.from_residual-in_err-won-in-Asks.result c.from_residual-in_err-won-in-Asks.ensures.1 in
    passed_on (λ (x : SumError). x ≡ Steps count → IsSpent c.args.most_work count (g.S.Store.record_of c.summed.new.store) c.summed.new.table) c.from_residual-in_err-won-in-Asks.result c.in_err-won-in-Asks.field-0.0 (error.1 ∙ ap Err error.2)
    (λ is. c.in_err-won-in-Asks.ensures.spent count is)

pub returns-in_err-won-in-Asks-clause-costly : goal.returns-in_err-won-in-Asks-clause-costly
returns-in_err-won-in-Asks-clause-costly g t c = λ count p begun at by entered.
    let names = map (λ n. n.now) c.args.names.now in
    let task = task_in c.args.rehearsal.now in
    let r₀ = g.S.Store.record_of c.args.store.now in
    let r = g.S.Store.record_of c.mark.new.self in
    let present = marked_present r₀ r c.in_ok-mark-in-Asks.ensures.ok in
    let none_here = subst (NoneFits task.limits.step_bound task.limits.device_bound c.args.table.now.entries.items) (sym present) (nothing _ _ c.in_ok-found-in-Asks.field-0 c.in_default.is c.in_ok-found-in-Asks.ensures) in
    let met = met_as task p c.args.stop Asks r.present c.in-Asks.is (subst (λ (m : Moment). StoppedAt task p c.args.stop m) (sym present) at) in
    let won_at = (g.S.Store.record_of c.resumed.new.store).present in
    let won_stops = won_on task r (g.S.Store.record_of c.mark-in-Asks.new.self) (g.S.Store.record_of c.resumed.new.store) c.in_ok-won_stop-in-Asks.won_stop c.in_ok-mark-in-Asks-2.ensures.ok c.in_ok-won_stop-in-Asks.ensures.stops in
    let error = err_from_is_err_and c.from_residual-in_err-won-in-Asks.result c.from_residual-in_err-won-in-Asks.ensures.1 in
    passed_on (λ (x : SumError). x ≡ Steps count → ComesToSteps names task count c.args.most_work) c.from_residual-in_err-won-in-Asks.result c.in_err-won-in-Asks.field-0.0 (error.1 ∙ ap Err error.2)
    (λ is. c.in_err-won-in-Asks.ensures.costly count (p ++ Success ∷ []) ((p, r.present) ∷ begun) (stopped_on task p r.present won_at Success c.in_ok-won_stop-in-Asks.won_stop met won_stops) (comes_by p Success r.present begun by)
    (enters names task p r.present begun met by c.args.table.now entered none_here c.enter.new.self c.enter.ensures.entries c.enter.ensures.flow c.in_ok-enter-in-Asks.ensures.visited) is)

pub returns-in_err-lost_stop-in-Asks-clause-refused : goal.returns-in_err-lost_stop-in-Asks-clause-refused
returns-in_err-lost_stop-in-Asks-clause-refused g t c = λ p begun at by entered.
    let names = map (λ n. n.now) c.args.names.now in
    let task = task_in c.args.rehearsal.now in
    let error = err_from_is_err_and c.from_residual-in_err-lost_stop-in-Asks.result c.from_residual-in_err-lost_stop-in-Asks.ensures.1 in
    passed_on (λ (x : SumError). x ≡ States → ComesToStates names task (c.args.table.now.most + 1)) c.from_residual-in_err-lost_stop-in-Asks.result c.in_err-lost_stop-in-Asks.field-0.0 (error.1 ∙ ap Err error.2)
    (λ is. absurd (c.in_err-lost_stop-in-Asks.ensures.err.0 is))

pub returns-in_err-lost_stop-in-Asks-clause-spent : goal.returns-in_err-lost_stop-in-Asks-clause-spent
returns-in_err-lost_stop-in-Asks-clause-spent g t c = λ count.
    let behind = g.S.Store.record_of c.summed.new.store in
    let back = g.S.Store.record_of c.back.new.self in
    let failed = g.S.Store.record_of c.resumed-in-Asks.new.store in
    let there = begun_back behind back c.back.ensures in
    let allowed = c.in_ok-won-in-Asks.ensures.worked in
    let error = err_from_is_err_and c.from_residual-in_err-lost_stop-in-Asks.result c.from_residual-in_err-lost_stop-in-Asks.ensures.1 in
    passed_on (λ (x : SumError). x ≡ Steps count → IsSpent c.args.most_work count (g.S.Store.record_of c.resumed-in-Asks.new.store) c.summed.new.table) c.from_residual-in_err-lost_stop-in-Asks.result c.in_err-lost_stop-in-Asks.field-0.0 (error.1 ∙ ap Err error.2)
    (λ is. spent_by c.args.most_work count back failed c.summed.new.table (omega (arith, there, allowed)) (c.in_err-lost_stop-in-Asks.ensures.spent count is) (c.in_err-lost_stop-in-Asks.ensures.soon count is) (c.in_err-lost_stop-in-Asks.ensures.counted count is))

pub returns-in_err-lost_stop-in-Asks-clause-costly : goal.returns-in_err-lost_stop-in-Asks-clause-costly
returns-in_err-lost_stop-in-Asks-clause-costly g t c = λ count p begun at by entered.
    let names = map (λ n. n.now) c.args.names.now in
    let task = task_in c.args.rehearsal.now in
    let r₀ = g.S.Store.record_of c.args.store.now in
    let r = g.S.Store.record_of c.mark.new.self in
    let present = marked_present r₀ r c.in_ok-mark-in-Asks.ensures.ok in
    let none_here = subst (NoneFits task.limits.step_bound task.limits.device_bound c.args.table.now.entries.items) (sym present) (nothing _ _ c.in_ok-found-in-Asks.field-0 c.in_default.is c.in_ok-found-in-Asks.ensures) in
    let met = met_as task p c.args.stop Asks r.present c.in-Asks.is (subst (λ (m : Moment). StoppedAt task p c.args.stop m) (sym present) at) in
    let won_at = (g.S.Store.record_of c.resumed.new.store).present in
    let won_stops = won_on task r (g.S.Store.record_of c.mark-in-Asks.new.self) (g.S.Store.record_of c.resumed.new.store) c.in_ok-won_stop-in-Asks.won_stop c.in_ok-mark-in-Asks-2.ensures.ok c.in_ok-won_stop-in-Asks.ensures.stops in
    let won =
    c.in_ok-won-in-Asks.ensures.searched.entered (p ++ Success ∷ []) ((p, r.present) ∷ begun) (stopped_on task p r.present won_at Success c.in_ok-won_stop-in-Asks.won_stop met won_stops) (comes_by p Success r.present begun by)
    (enters names task p r.present begun met by c.args.table.now entered none_here c.enter.new.self c.enter.ensures.entries c.enter.ensures.flow c.in_ok-enter-in-Asks.ensures.visited) in
    let marked = g.S.Store.record_of c.mark-in-Asks.new.self in
    let tried = g.S.Store.record_of c.resumed.new.store in
    let behind = g.S.Store.record_of c.summed.new.store in
    let back = g.S.Store.record_of c.back.new.self in
    let failed = g.S.Store.record_of c.resumed-in-Asks.new.store in
    let first = begun_marked r₀ r c.in_ok-mark-in-Asks.ensures.ok in
    let begun_before = c.requires.begun in
    let room : Room r.begun c.args.table.now.visited = omega (arith, first, begun_before) in
    let error = err_from_is_err_and c.from_residual-in_err-lost_stop-in-Asks.result c.from_residual-in_err-lost_stop-in-Asks.ensures.1 in
    passed_on (λ (x : SumError). x ≡ Steps count → ComesToSteps names task count c.args.most_work) c.from_residual-in_err-lost_stop-in-Asks.result c.in_err-lost_stop-in-Asks.field-0.0 (error.1 ∙ ap Err error.2)
    (λ is. subst (λ (n : ℕ). ComesToSteps names task n c.args.most_work) (sym (c.in_err-lost_stop-in-Asks.ensures.counted count is))
    (too_costly names task ((p, r.present) ∷ begun) c.summed.new.table c.args.most_work failed.begun won
    (c.in_err-lost_stop-in-Asks.ensures.spent count is)
    (begun_behind r marked tried behind back failed c.args.table.now.visited c.enter.new.self.visited c.summed.new.table.visited c.in_ok-mark-in-Asks-2.ensures.ok c.in_ok-won_stop-in-Asks.ensures.begun c.in_ok-won_stop-in-Asks.ensures.within room c.in_ok-enter-in-Asks.ensures.visited c.in_ok-won-in-Asks.ensures.searched.begun c.back.ensures
    (c.in_err-lost_stop-in-Asks.ensures.soon count is))))

pub returns-in_err-lost-in-Asks-clause-spent : goal.returns-in_err-lost-in-Asks-clause-spent
returns-in_err-lost-in-Asks-clause-spent g t c = λ count.
    let error = err_from_is_err_and c.from_residual-in_err-lost-in-Asks.result c.from_residual-in_err-lost-in-Asks.ensures.1 in
    passed_on (λ (x : SumError). x ≡ Steps count → IsSpent c.args.most_work count (g.S.Store.record_of c.summed-in-Asks.new.store) c.summed-in-Asks.new.table) c.from_residual-in_err-lost-in-Asks.result c.in_err-lost-in-Asks.field-0.0 (error.1 ∙ ap Err error.2)
    (λ is. c.in_err-lost-in-Asks.ensures.spent count is)

pub returns-in_err-lost-in-Asks-clause-costly : goal.returns-in_err-lost-in-Asks-clause-costly
returns-in_err-lost-in-Asks-clause-costly g t c = λ count p begun at by entered.
    let names = map (λ n. n.now) c.args.names.now in
    let task = task_in c.args.rehearsal.now in
    let r₀ = g.S.Store.record_of c.args.store.now in
    let r = g.S.Store.record_of c.mark.new.self in
    let present = marked_present r₀ r c.in_ok-mark-in-Asks.ensures.ok in
    let none_here = subst (NoneFits task.limits.step_bound task.limits.device_bound c.args.table.now.entries.items) (sym present) (nothing _ _ c.in_ok-found-in-Asks.field-0 c.in_default.is c.in_ok-found-in-Asks.ensures) in
    let met = met_as task p c.args.stop Asks r.present c.in-Asks.is (subst (λ (m : Moment). StoppedAt task p c.args.stop m) (sym present) at) in
    let won_at = (g.S.Store.record_of c.resumed.new.store).present in
    let won_stops = won_on task r (g.S.Store.record_of c.mark-in-Asks.new.self) (g.S.Store.record_of c.resumed.new.store) c.in_ok-won_stop-in-Asks.won_stop c.in_ok-mark-in-Asks-2.ensures.ok c.in_ok-won_stop-in-Asks.ensures.stops in
    let lost_at = (g.S.Store.record_of c.resumed-in-Asks.new.store).present in
    let sides = sides_of task c.args.depth c.args.stop c.in_ok-won_stop-in-Asks.won_stop c.in_ok-lost_stop-in-Asks.lost_stop r (g.S.Store.record_of c.mark-in-Asks.new.self) (g.S.Store.record_of c.resumed.new.store) (g.S.Store.record_of c.summed.new.store) (g.S.Store.record_of c.back.new.self) (g.S.Store.record_of c.resumed-in-Asks.new.store)
    c.in-Asks.is (reached_marked task c.args.depth c.args.stop r₀ r c.in_ok-mark-in-Asks.ensures.ok c.requires.reached) c.in_ok-mark-in-Asks-2.ensures.ok c.in_ok-won_stop-in-Asks.ensures.stops c.in_ok-won_stop-in-Asks.ensures.marks c.in_ok-won-in-Asks.ensures.searched.marks c.back.ensures c.in_ok-lost_stop-in-Asks.ensures.stops in
    let won =
    c.in_ok-won-in-Asks.ensures.searched.entered (p ++ Success ∷ []) ((p, r.present) ∷ begun) (stopped_on task p r.present won_at Success c.in_ok-won_stop-in-Asks.won_stop met won_stops) (comes_by p Success r.present begun by)
    (enters names task p r.present begun met by c.args.table.now entered none_here c.enter.new.self c.enter.ensures.entries c.enter.ensures.flow c.in_ok-enter-in-Asks.ensures.visited) in
    let error = err_from_is_err_and c.from_residual-in_err-lost-in-Asks.result c.from_residual-in_err-lost-in-Asks.ensures.1 in
    passed_on (λ (x : SumError). x ≡ Steps count → ComesToSteps names task count c.args.most_work) c.from_residual-in_err-lost-in-Asks.result c.in_err-lost-in-Asks.field-0.0 (error.1 ∙ ap Err error.2)
    (λ is. c.in_err-lost-in-Asks.ensures.costly count (p ++ Failure ∷ []) ((p, r.present) ∷ begun) (stopped_on task p r.present lost_at Failure c.in_ok-lost_stop-in-Asks.lost_stop met sides.lost)
    (comes_by p Failure r.present begun by) won is)

-- ---- the bytes that are refused

pub returns-in_err-enter-in-Asks-clause-large : goal.returns-in_err-enter-in-Asks-clause-large
returns-in_err-enter-in-Asks-clause-large g t c = λ count p begun at by entered.
    let names = map (λ n. n.now) c.args.names.now in
    let task = task_in c.args.rehearsal.now in
    let bytes = most_held c.args.table.now in
    let error = err_from_is_err_and c.from_residual-in_err-enter-in-Asks.result c.from_residual-in_err-enter-in-Asks.ensures.1 in
    passed_on (λ (x : SumError). x ≡ Bytes count → IsFull names task count bytes c.enter.new.self) c.from_residual-in_err-enter-in-Asks.result c.in_err-enter-in-Asks.field-0.0 (error.1 ∙ ap Err error.2)
    (λ is. absurd (let other : States ≡ Bytes count = sym c.in_err-enter-in-Asks.ensures.err ∙ is in cc))

pub returns-in_err-won_stop-in-Asks-clause-large : goal.returns-in_err-won_stop-in-Asks-clause-large
returns-in_err-won_stop-in-Asks-clause-large g t c = λ count p begun at by entered.
    let names = map (λ n. n.now) c.args.names.now in
    let task = task_in c.args.rehearsal.now in
    let bytes = most_held c.args.table.now in
    let error = err_from_is_err_and c.from_residual-in_err-won_stop-in-Asks.result c.from_residual-in_err-won_stop-in-Asks.ensures.1 in
    passed_on (λ (x : SumError). x ≡ Bytes count → IsFull names task count bytes c.enter.new.self) c.from_residual-in_err-won_stop-in-Asks.result c.in_err-won_stop-in-Asks.field-0.0 (error.1 ∙ ap Err error.2)
    (λ is. absurd (c.in_err-won_stop-in-Asks.ensures.err.1 count is))

pub returns-in_err-lost_stop-in-Asks-clause-large : goal.returns-in_err-lost_stop-in-Asks-clause-large
returns-in_err-lost_stop-in-Asks-clause-large g t c = λ count p begun at by entered.
    let names = map (λ n. n.now) c.args.names.now in
    let task = task_in c.args.rehearsal.now in
    let bytes = most_held c.args.table.now in
    let error = err_from_is_err_and c.from_residual-in_err-lost_stop-in-Asks.result c.from_residual-in_err-lost_stop-in-Asks.ensures.1 in
    passed_on (λ (x : SumError). x ≡ Bytes count → IsFull names task count bytes c.summed.new.table) c.from_residual-in_err-lost_stop-in-Asks.result c.in_err-lost_stop-in-Asks.field-0.0 (error.1 ∙ ap Err error.2)
    (λ is. absurd (c.in_err-lost_stop-in-Asks.ensures.err.1 count is))

pub returns-in_err-won-in-Asks-clause-large : goal.returns-in_err-won-in-Asks-clause-large
returns-in_err-won-in-Asks-clause-large g t c = λ count p begun at by entered.
    let names = map (λ n. n.now) c.args.names.now in
    let task = task_in c.args.rehearsal.now in
    let r₀ = g.S.Store.record_of c.args.store.now in
    let r = g.S.Store.record_of c.mark.new.self in
    let present = marked_present r₀ r c.in_ok-mark-in-Asks.ensures.ok in
    let none_here = subst (NoneFits task.limits.step_bound task.limits.device_bound c.args.table.now.entries.items) (sym present) (nothing _ _ c.in_ok-found-in-Asks.field-0 c.in_default.is c.in_ok-found-in-Asks.ensures) in
    let met = met_as task p c.args.stop Asks r.present c.in-Asks.is (subst (λ (m : Moment). StoppedAt task p c.args.stop m) (sym present) at) in
    let won_at = (g.S.Store.record_of c.resumed.new.store).present in
    let won_stops = won_on task r (g.S.Store.record_of c.mark-in-Asks.new.self) (g.S.Store.record_of c.resumed.new.store) c.in_ok-won_stop-in-Asks.won_stop c.in_ok-mark-in-Asks-2.ensures.ok c.in_ok-won_stop-in-Asks.ensures.stops in
    let bytes = most_held c.args.table.now in
    let error = err_from_is_err_and c.from_residual-in_err-won-in-Asks.result c.from_residual-in_err-won-in-Asks.ensures.1 in
    passed_on (λ (x : SumError). x ≡ Bytes count → IsFull names task count bytes c.summed.new.table) c.from_residual-in_err-won-in-Asks.result c.in_err-won-in-Asks.field-0.0 (error.1 ∙ ap Err error.2)
    (λ is.
    let full =
    c.in_err-won-in-Asks.ensures.large count (p ++ Success ∷ []) ((p, r.present) ∷ begun) (stopped_on task p r.present won_at Success c.in_ok-won_stop-in-Asks.won_stop met won_stops) (comes_by p Success r.present begun by)
    (enters names task p r.present begun met by c.args.table.now entered none_here c.enter.new.self c.enter.ensures.entries c.enter.ensures.flow c.in_ok-enter-in-Asks.ensures.visited) is in
    (full.0, subst (ComesToBytes names task count) c.enter.ensures.held full.1))

pub returns-in_err-lost-in-Asks-clause-large : goal.returns-in_err-lost-in-Asks-clause-large
returns-in_err-lost-in-Asks-clause-large g t c = λ count p begun at by entered.
    let names = map (λ n. n.now) c.args.names.now in
    let task = task_in c.args.rehearsal.now in
    let r₀ = g.S.Store.record_of c.args.store.now in
    let r = g.S.Store.record_of c.mark.new.self in
    let present = marked_present r₀ r c.in_ok-mark-in-Asks.ensures.ok in
    let none_here = subst (NoneFits task.limits.step_bound task.limits.device_bound c.args.table.now.entries.items) (sym present) (nothing _ _ c.in_ok-found-in-Asks.field-0 c.in_default.is c.in_ok-found-in-Asks.ensures) in
    let met = met_as task p c.args.stop Asks r.present c.in-Asks.is (subst (λ (m : Moment). StoppedAt task p c.args.stop m) (sym present) at) in
    let won_at = (g.S.Store.record_of c.resumed.new.store).present in
    let won_stops = won_on task r (g.S.Store.record_of c.mark-in-Asks.new.self) (g.S.Store.record_of c.resumed.new.store) c.in_ok-won_stop-in-Asks.won_stop c.in_ok-mark-in-Asks-2.ensures.ok c.in_ok-won_stop-in-Asks.ensures.stops in
    let lost_at = (g.S.Store.record_of c.resumed-in-Asks.new.store).present in
    let sides = sides_of task c.args.depth c.args.stop c.in_ok-won_stop-in-Asks.won_stop c.in_ok-lost_stop-in-Asks.lost_stop r (g.S.Store.record_of c.mark-in-Asks.new.self) (g.S.Store.record_of c.resumed.new.store) (g.S.Store.record_of c.summed.new.store) (g.S.Store.record_of c.back.new.self) (g.S.Store.record_of c.resumed-in-Asks.new.store)
    c.in-Asks.is (reached_marked task c.args.depth c.args.stop r₀ r c.in_ok-mark-in-Asks.ensures.ok c.requires.reached) c.in_ok-mark-in-Asks-2.ensures.ok c.in_ok-won_stop-in-Asks.ensures.stops c.in_ok-won_stop-in-Asks.ensures.marks c.in_ok-won-in-Asks.ensures.searched.marks c.back.ensures c.in_ok-lost_stop-in-Asks.ensures.stops in
    let won =
    c.in_ok-won-in-Asks.ensures.searched.entered (p ++ Success ∷ []) ((p, r.present) ∷ begun) (stopped_on task p r.present won_at Success c.in_ok-won_stop-in-Asks.won_stop met won_stops) (comes_by p Success r.present begun by)
    (enters names task p r.present begun met by c.args.table.now entered none_here c.enter.new.self c.enter.ensures.entries c.enter.ensures.flow c.in_ok-enter-in-Asks.ensures.visited) in
    let bytes = most_held c.args.table.now in
    let error = err_from_is_err_and c.from_residual-in_err-lost-in-Asks.result c.from_residual-in_err-lost-in-Asks.ensures.1 in
    passed_on (λ (x : SumError). x ≡ Bytes count → IsFull names task count bytes c.summed-in-Asks.new.table) c.from_residual-in_err-lost-in-Asks.result c.in_err-lost-in-Asks.field-0.0 (error.1 ∙ ap Err error.2)
    (λ is.
    let full =
    c.in_err-lost-in-Asks.ensures.large count (p ++ Failure ∷ []) ((p, r.present) ∷ begun) (stopped_on task p r.present lost_at Failure c.in_ok-lost_stop-in-Asks.lost_stop met sides.lost)
    (comes_by p Failure r.present begun by) won is in
    (full.0, subst (ComesToBytes names task count) (c.in_ok-won-in-Asks.ensures.searched.held ∙ c.enter.ensures.held) full.1))

pub returns-in_err-keys-in-Asks-clause-refused : goal.returns-in_err-keys-in-Asks-clause-refused
returns-in_err-keys-in-Asks-clause-refused g t c = λ p begun at by entered.
    let names = map (λ n. n.now) c.args.names.now in
    let task = task_in c.args.rehearsal.now in
    let error = err_from_is_err_and c.from_residual-in_err-keys-in-Asks.result c.from_residual-in_err-keys-in-Asks.ensures.1 in
    passed_on (λ (x : SumError). x ≡ States → ComesToStates names task (c.args.table.now.most + 1)) c.from_residual-in_err-keys-in-Asks.result c.in_err-keys-in-Asks.field-0.0 (error.1 ∙ ap Err error.2)
    (λ is. absurd (c.in_err-keys-in-Asks.ensures.err.0 is))

pub returns-in_err-keys-in-Asks-clause-spent : goal.returns-in_err-keys-in-Asks-clause-spent
returns-in_err-keys-in-Asks-clause-spent g t c = λ count.
    let error = err_from_is_err_and c.from_residual-in_err-keys-in-Asks.result c.from_residual-in_err-keys-in-Asks.ensures.1 in
    passed_on (λ (x : SumError). x ≡ Steps count → IsSpent c.args.most_work count (g.S.Store.record_of c.back-in-Asks.new.self) c.keep.new.table) c.from_residual-in_err-keys-in-Asks.result c.in_err-keys-in-Asks.field-0.0 (error.1 ∙ ap Err error.2)
    (λ is. absurd (c.in_err-keys-in-Asks.ensures.err.1 count is))

pub returns-in_err-keys-in-Asks-clause-costly : goal.returns-in_err-keys-in-Asks-clause-costly
returns-in_err-keys-in-Asks-clause-costly g t c = λ count p begun at by entered.
    let names = map (λ n. n.now) c.args.names.now in
    let task = task_in c.args.rehearsal.now in
    let error = err_from_is_err_and c.from_residual-in_err-keys-in-Asks.result c.from_residual-in_err-keys-in-Asks.ensures.1 in
    passed_on (λ (x : SumError). x ≡ Steps count → ComesToSteps names task count c.args.most_work) c.from_residual-in_err-keys-in-Asks.result c.in_err-keys-in-Asks.field-0.0 (error.1 ∙ ap Err error.2)
    (λ is. absurd (c.in_err-keys-in-Asks.ensures.err.1 count is))

-- the state was searched, and has no room
pub returns-in_err-keys-in-Asks-clause-large : goal.returns-in_err-keys-in-Asks-clause-large
returns-in_err-keys-in-Asks-clause-large g t c = λ count p begun at by entered.
    let names = map (λ n. n.now) c.args.names.now in
    let task = task_in c.args.rehearsal.now in
    let r₀ = g.S.Store.record_of c.args.store.now in
    let r = g.S.Store.record_of c.mark.new.self in
    let marked = g.S.Store.record_of c.mark-in-Asks.new.self in
    let tried = g.S.Store.record_of c.resumed.new.store in
    let behind = g.S.Store.record_of c.summed.new.store in
    let back = g.S.Store.record_of c.back.new.self in
    let failed = g.S.Store.record_of c.resumed-in-Asks.new.store in
    let done = g.S.Store.record_of c.summed-in-Asks.new.store in
    let last = g.S.Store.record_of c.back-in-Asks.new.self in
    let won = c.in_ok-won-in-Asks.won in
    let lost = c.in_ok-lost-in-Asks.lost in
    let won_at = tried.present in
    let lost_at = failed.present in
    let first = c.in_ok-mark-in-Asks.ensures.ok in
    let second = c.in_ok-mark-in-Asks-2.ensures.ok in
    let sides = sides_of task c.args.depth c.args.stop c.in_ok-won_stop-in-Asks.won_stop c.in_ok-lost_stop-in-Asks.lost_stop r marked tried behind back failed
    c.in-Asks.is (reached_marked task c.args.depth c.args.stop r₀ r first c.requires.reached) second c.in_ok-won_stop-in-Asks.ensures.stops c.in_ok-won_stop-in-Asks.ensures.marks c.in_ok-won-in-Asks.ensures.searched.marks c.back.ensures c.in_ok-lost_stop-in-Asks.ensures.stops in
    let present = marked_present r₀ r first in
    let none_here = subst (NoneFits task.limits.step_bound task.limits.device_bound c.args.table.now.entries.items) (sym present) (nothing _ _ c.in_ok-found-in-Asks.field-0 c.in_default.is c.in_ok-found-in-Asks.ensures) in
    let at_mark = marked_present r marked second in
    let at_back = back_there r marked tried behind back second c.in_ok-won_stop-in-Asks.ensures.marks c.in_ok-won-in-Asks.ensures.searched.marks c.back.ensures in
    let at_last = last_there r₀ r done last first c.back-in-Asks.ensures
    (marks_back r marked tried behind back failed done second c.in_ok-won_stop-in-Asks.ensures.marks c.in_ok-won-in-Asks.ensures.searched.marks c.back.ensures c.in_ok-lost_stop-in-Asks.ensures.marks c.in_ok-lost-in-Asks.ensures.searched.marks) in
    let log = c.logged-devices.ensures ∙ ap (λ (m : Moment). length m.log) (sym (marked_present r₀ r first)) in
    let steps = c.steps-steps.ensures ∙ ap (λ (m : Moment). m.steps) at_last in
    let keys = keys_shown c.in_ok-both-in-Asks.both.items in
    let below = c.behind_both-below.result in
    let alone = c.behind_both-below.ensures in
    let won_side = side_of names task.limits below r.present Success marked.present won_at c.in_ok-won_stop-in-Asks.won_stop (accesses_shown c.resumed.new.reported) (keys_shown won.keys.items) c.resumed.new.fewest won.below at_mark alone.won alone.behind_won sides.won
    c.in_ok-won-in-Asks.ensures.searched.within c.in_ok-won_stop-in-Asks.ensures.keys c.in_ok-won-in-Asks.ensures.searched.keys c.in_ok-won-in-Asks.ensures.searched.apart in
    let lost_side = side_of names task.limits below r.present Failure back.present lost_at c.in_ok-lost_stop-in-Asks.lost_stop (accesses_shown c.resumed-in-Asks.new.reported) (keys_shown lost.keys.items) c.resumed-in-Asks.new.fewest lost.below at_back alone.lost alone.behind_lost sides.lost
    c.in_ok-lost-in-Asks.ensures.searched.within c.in_ok-lost_stop-in-Asks.ensures.keys c.in_ok-lost-in-Asks.ensures.searched.keys c.in_ok-lost-in-Asks.ensures.searched.apart in
    let most_frames = subst (λ (m : Moment). c.resumed.new.fewest ≤ length m.frames) at_mark c.in_ok-won_stop-in-Asks.ensures.all in
    let keys_at = keys_of_sides names task below r.present (keys_in_front (accesses_shown c.resumed.new.reported) (keys_shown won.keys.items)) (keys_in_front (accesses_shown c.resumed-in-Asks.new.reported) (keys_shown lost.keys.items)) (keys_shown c.in_ok-both-in-Asks.both.items) c.resumed.new.fewest
    (reached_asks task c.args.depth r.present sides.reached) alone.won most_frames won_side lost_side c.in_ok-both-in-Asks.ensures.both in
    let words_are : c.deref.result.now ≡ c.in_ok-words-in-Asks.words.items = search rules in
    let normal = c.expected-expected.ensures ∙ ap (λ (ws : List (Vec ℕ Global)). expected task.limits.devices (bytes_of_words ws)) words_are in
    let won_shown = c.in_ok-won-in-Asks.ensures.searched.shown in
    let lost_shown = c.in_ok-lost-in-Asks.ensures.searched.shown in
    let shown = summary_of_sides (of_both_up c.expected-expected.result) c.steps-steps.result c.logged-devices.result won_shown lost_shown in
    let summed = summed_sides names task c.args.depth r.present sides.reached c.in_ok-won_stop-in-Asks.won_stop c.in_ok-lost_stop-in-Asks.lost_stop won_at lost_at won_shown lost_shown shown c.steps-steps.result c.logged-devices.result c.expected-expected.result (bytes_of_words c.in_ok-words-in-Asks.words.items) steps log sides.won sides.lost c.in_ok-words-in-Asks.ensures normal c.in_ok-won-in-Asks.ensures.searched.sums c.in_ok-lost-in-Asks.ensures.searched.sums refl in
    let met = met_as task p c.args.stop Asks r.present c.in-Asks.is (subst (λ (m : Moment). StoppedAt task p c.args.stop m) (sym present) at) in
    let gone =
    c.in_ok-won-in-Asks.ensures.searched.entered (p ++ Success ∷ []) ((p, r.present) ∷ begun) (stopped_on task p r.present won_at Success c.in_ok-won_stop-in-Asks.won_stop met sides.won) (comes_by p Success r.present begun by)
    (enters names task p r.present begun met by c.args.table.now entered none_here c.enter.new.self c.enter.ensures.entries c.enter.ensures.flow c.in_ok-enter-in-Asks.ensures.visited) in
    let left =
    c.in_ok-lost-in-Asks.ensures.searched.entered (p ++ Failure ∷ []) ((p, r.present) ∷ begun) (stopped_on task p r.present lost_at Failure c.in_ok-lost_stop-in-Asks.lost_stop met sides.lost) (comes_by p Failure r.present begun by) gone in
    let table = c.summed-in-Asks.new.table in
    let error = err_from_is_err_and c.from_residual-in_err-keys-in-Asks.result c.from_residual-in_err-keys-in-Asks.ensures.1 in
    passed_on (λ (x : SumError). x ≡ Bytes count → IsFull names task count (most_held c.args.table.now) c.keep.new.table) c.from_residual-in_err-keys-in-Asks.result c.in_err-keys-in-Asks.field-0.0 (error.1 ∙ ap Err error.2)
    (λ is.
    let counted = c.in_err-keys-in-Asks.ensures.counted count is in (
      counted ∙ sym c.keep.ensures.visited,
      subst (λ (n : ℕ). ComesToBytes names task n (most_held c.args.table.now)) (sym counted)
          (subst (ComesToBytes names task table.visited) (c.in_ok-lost-in-Asks.ensures.searched.held ∙ c.in_ok-won-in-Asks.ensures.searched.held ∙ c.enter.ensures.held)
          (too_large names task p r.present begun table below keys shown left (subst (λ (m : Moment). HasNoRoom table.room below m keys) at_last (c.in_err-keys-in-Asks.ensures.full count is)) keys_at summed)),
    ))
