-- The search over the states in which device commands ask.
use Rattle.std.proofs.Common.{ℕ, zero, suc, get_or, ◌+◌, ◌-◌, ◌*◌, ◌≤◌, ◌<◌, nat_eq, cond, Bool, true, false, List, [], ◌∷◌, ◌++◌, map, length, reverse, Option, Some, None, refl, sym, ap, subst, ◌∙◌, ◌≡◌, ◌≢◌, arith, append-nil, length-append}
use Rattle.std.proofs.lemmas.List.{length-map, length-reverse}
use Rattle.std.proofs.lemmas.List.Elements.{All-append}
use Rattle.std.proofs.lemmas.Bool.{ltb-true}
use Rattle.std.specs.Prelude.{nat_lt, MatchOption, ⊤}
use Rattle.std.specs.FinMap.{entries}
use Rattle.bootstore_state.specs.Record.{Record, with_mark, gone_back, returned}
use Rattle.rehearse_terms.specs.Bounds.{most_steps}
use Rattle.rehearse_machine.specs.Machine.{outcome_when, Stops, IsAsking, asked_at}
use Rattle.bootstore_state.specs.Moment.{Moment, RunningFrame}
use Rattle.rehearse_terms.specs.Outcomes.{OutcomeWord, Outcome, Success, Failure}
use Rattle.rehearse_terms.specs.State.{Text, State, LoggedCommand, asked_of, start}
use Rattle.bootstore_state.specs.StoredState.{state_at}
use Rattle.rehearse_rules.specs.Execution.{Limits, Answer, Normal, Exit, Ended, Dry, Ending, succeeds}
use Rattle.device_list.specs.DeviceList.{Devices, expected}
use Rattle.rehearse_rules.specs.Expected.{Answered, unexpected_of}
use Rattle.rehearse_rules.specs.Runs.{Task, run_on, state_of, kind, kind_of, ending_of, unexpected}
use Rattle.rehearse_rules.proofs.TakenOutcomes.{answers, GoesTo, Track-of}
use Rattle.rehearse_rules.proofs.BoundLemmas.{devices_are_bounded}
use Rattle.rehearse_rules.proofs.TaskChoices.{Keeps-run_on, task_chooses}
use Rattle.rehearse_machine.specs.Came.{Came, Wants, settled}
use Rattle.rehearse_rules.specs.EndingsShown.{halt_shown}
use Rattle.rehearse_rules.specs.declared.halt.Halt.{Halt}
use Rattle.rehearse_machine.specs.declared.rehearsal.Stop.{Stop}
use Rattle.rehearse_machine.specs.declared.rehearsal.Stop.TheVariants.{Asks, Ends}
use Rattle.rehearse_machine.specs.StoppedTexts.{StoppedAt}
use Rattle.rehearse_machine.proofs.StoppedTextLemmas.{asked_within, stopped_on}
use Rattle.rehearse_reuse.specs.Futures.{came_kind, came_ending, came_end, came_state, came_log, came_steps, came_devices}
use Rattle.rehearse_states.specs.Endings.{RunEnd, Row, HasRows, counts_at, of_both, ending, end_with, end_of, endings}
use Rattle.rehearse_states.specs.Summaries.{Summary, summary_of_sides, summary_at_end}
use Rattle.rehearse_reuse.specs.SummedRuns.{Sums, came_count, FitsIf, moved_by, moved_on, of_end, of_sides, Summed}
use Rattle.rehearse_states.specs.RowsShown.{saturated, of_both_up, summary_with, saturated_summary}
use Rattle.rehearse_states.specs.SumNodes.{SumNode, DrawsRows, HasMoreSums, IsSummary, sums_shown}
use Rattle.rehearse_states.proofs.SumLemmas.{draws_further}
use Rattle.rehearse_reuse.specs.Reuse.{FitsByKeys}
use Rattle.rehearse_reuse.proofs.ReusedSummaries.{summaries_are_reused, nodes_are_reused, keys_are_reused, no_returns_are_reused}
use Rattle.rehearse_reads.specs.Keys.{Key, AreAmong, AgreeOn}
use Rattle.rehearse_frames.specs.Above.{above, without_lowest}
use Rattle.rehearse_frames.specs.KeysToCome.{AreEnoughAt, asks_at}
use Rattle.rehearse_frames.proofs.LowestFrames.{asks_above}
use Rattle.rehearse_frames.proofs.EnoughKeys.{agree_fewer, more_keys_are_enough}
use Rattle.rehearse_reports.specs.Asked.{asked_reads}
use Rattle.rehearse_reports.specs.Following.{AreEnoughAtStop, HasFramesAtStop}
use Rattle.rehearse_reports.specs.Known.{AllHold, keys_of}
use Rattle.rehearse_reports.specs.ReportsShown.{keys_shown}
use Rattle.rehearse_reports.proofs.AskedSame.{places_are_same}
use Rattle.rehearse_reports.proofs.KnownLemmas.{agree_on_known}
use Rattle.rehearse_states.specs.PlaceNumbers.{place_number}
use Rattle.std.proofs.lemmas.Option.{get_or_from_slice_get, slice_get_within}
use Rattle.rehearse_endings.specs.Indexed.{AllOf, AreNoted, Fits, IsNoted, IsTaken, LeadTo, NoneFits, NoneFrom, NoneOnTop, TakesOne, how_many_below}
use Rattle.rehearse_endings.specs.OnTop.{HasOnTop}
use Rattle.rehearse_endings.specs.Searching.{future, SummedFrom, seen_from, IsReached, IsEntry, AreEntries, IsFound, IsKeptAt, NeverReturnsTo}
use Rattle.rehearse_endings.proofs.BelowLemmas.{Side, all_held_without, asked_without, below_top, both_enough, innermost_are, neither_comes_back, seen_below, some_frames, sums_above, sums_below, top_of}
use Rattle.rehearse_endings.specs.Searched.{IsSearched, IsSpent}
use Rattle.rehearse_endings.specs.declared.entry.Future.{Future}
use Rattle.rehearse_endings.specs.declared.table.Table.{Table}
use Rattle.rehearse_endings.specs.declared.entry.Entry.{Entry}
use Rattle.rehearse_states.specs.declared.summary.Summary as rt
use Rattle.rehearse_states.specs.Flow.{Node, asked_in}
use Rattle.rehearse_reuse.specs.DrawnRuns.{further, Draws, seen_at}
use Rattle.rehearse_states.specs.Drawing.{HasMore, nodes_shown}
use Rattle.rehearse_endings.proofs.DrawingLemmas.{draws_on, draws_as, words_logged, counts_next}
use Rattle.rehearse_machine.specs.Machine.{Asking}
use Rattle.rehearse_machine.proofs.AskingCommandLemmas.{asks_anew}
use Rattle.rehearse_states.specs.Words.{words_in}
use Rattle.std.specs.List.{slice_get}
use Rattle.rehearse_endings.proofs.SummaryLemmas.{rows_as, sums_same, sums_end, sums_sides}
use Rattle.rehearse_states.proofs.RowsOfRuns.{are_rows}
use Rattle.rehearse_states.proofs.SaturatedCountLemmas.{both_up}

-- ---- a text that has stopped

state_settled : (a : Answer) → came_state (settled a) ≡ state_of a
state_settled (Normal s) = refl
state_settled (Exit s) = refl
state_settled (Ended ending s) = refl
state_settled (Dry s) = refl

-- as many commands took an outcome as the word has
asked_length : (log : List LoggedCommand) → length (asked_in log) ≡ length (answers log)
asked_length log = length-map (asked_of log) (λ e. (e.success, e.words)) ∙ sym (length-map (asked_of log) (λ e. e.success))

log_taken : (s t : State) (u : State) → GoesTo s t → t ≡ u → length (answers s.log) ≡ 0 → u.word ≡ [] → length (asked_in u.log) ≡ length s.word
log_taken s t u g e none over =
    let h : GoesTo s u = subst (λ (x : State). GoesTo s x) e g in
    let a = ap length h.outcomes in
    let b = ap length h.word in
    let c = length-append h.taken u.word in
    let d = ap length over in
    let f = length-append (answers s.log) (map succeeds h.taken) in
    let i = length-map h.taken succeeds in
    let k = asked_length u.log in
    omega arith

log_at : (task : Task) (p : OutcomeWord) (m : Moment) → came_state (settled (run_on task (p ++ []))) ≡ state_at m [] → length (asked_in m.log) ≡ length p
log_at task p m e =
    let a : Answer = run_on task (p ++ []) in
    let g = Track-of task.limits.device_bound (start task.written task.environment (p ++ [])) a (Keeps-run_on task (start task.written task.environment (p ++ []))).0 in
    log_taken (start task.written task.environment (p ++ [])) (state_of a) (state_at m []) g (sym (state_settled a) ∙ e) refl refl ∙ ap length (append-nil p)

stopped_log : (task : Task) (p : OutcomeWord) (stop : Stop) (m : Moment) → StoppedAt task p stop m → length (asked_in m.log) ≡ length p
stopped_log task p Asks m h = log_at task p m (ap came_state h.2)
stopped_log task p (Ends halt) m h = log_at task p m (ap came_state (h []))

pub reached_log : (task : Task) (depth : ℕ) (stop : Stop) (m : Moment) → IsReached task depth stop m → length (asked_in m.log) ≡ depth
reached_log task depth stop m h = stopped_log task h.0 stop m h.2 ∙ h.1

-- no more device commands are in the log than the bound
log_bounded : (task : Task) (p : OutcomeWord) (m : Moment) → came_state (settled (run_on task (p ++ []))) ≡ state_at m [] → length m.log ≤ task.limits.device_bound
log_bounded task p m e =
    let a : Answer = run_on task (p ++ []) in
    let same : length (state_of a).log ≡ length m.log = ap (λ (s : State). length s.log) (sym (state_settled a) ∙ e) in
    let b = devices_are_bounded task (p ++ []) in
    omega arith

stopped_within : (task : Task) (p : OutcomeWord) (stop : Stop) (m : Moment) → StoppedAt task p stop m → length m.log ≤ task.limits.device_bound
stopped_within task p Asks m h = log_bounded task p m (ap came_state h.2)
stopped_within task p (Ends halt) m h = log_bounded task p m (ap came_state (h []))

pub reached_within : (task : Task) (depth : ℕ) (stop : Stop) (m : Moment) → IsReached task depth stop m → length m.log ≤ task.limits.device_bound
reached_within task depth stop m h = stopped_within task h.0 stop m h.2

pub reached_as : (task : Task) (depth : ℕ) (stop other : Stop) (m : Moment) → stop ≡ other → IsReached task depth stop m → IsReached task depth other m
reached_as task depth stop other m e h = subst (λ (x : Stop). IsReached task depth x m) e h

pub reached_below : (task : Task) (depth : ℕ) (m : Moment) → IsReached task depth Asks m → depth < task.limits.device_bound
reached_below task depth m h = let l = asked_within task h.0 m h.2 in let e = h.1 in omega arith

pub reached_asks : (task : Task) (depth : ℕ) (m : Moment) → IsReached task depth Asks m → IsAsking task.limits m
reached_asks task depth m h = h.2.0

pub reached_wants : (task : Task) (depth : ℕ) (m : Moment) → IsReached task depth Asks m → asked_at task.limits m [] ≡ Wants (state_at m [])
reached_wants task depth m h = let k = h.2 in sym (k.1 []) ∙ k.2

-- one outcome further
pub reached_on : (task : Task) (depth : ℕ) (m n : Moment) (d : Outcome) (stop : Stop) → IsReached task depth Asks m → Stops task.limits stop (λ w. asked_at task.limits m (d ∷ w)) n → IsReached task (depth + 1) stop n
reached_on task depth m n d stop h k = (h.0 ++ d ∷ [], (let a = length-append h.0 (d ∷ []) in let b = h.1 in omega arith), stopped_on task h.0 m n d stop h.2 k)

pub future_is : (limits : Limits) (stop : Stop) (f : OutcomeWord → Came) (n : Moment) → Stops limits stop f n → (w : OutcomeWord) → f w ≡ future limits stop n w
future_is limits Asks f n h w = h.1 w
future_is limits (Ends halt) f n h w = h w

-- ---- summaries

pub summed_as : (names : List Text) (devices : Devices) (before : ℕ) (f g : OutcomeWord → Came) (s t : Summary) → ((w : OutcomeWord) → f w ≡ g w) → s ≡ t → Summed names devices before f s → Summed names devices before g t
summed_as names devices before f g s t e k h = (h.0, sums_same names devices before f g h.0 e h.1, sym k ∙ h.2)

end_shown : (names : List Text) (ending : Ending) (m : Moment) → saturated_summary (of_end names ending m) ≡ of_end names ending m
end_shown names ending m = refl

pub summed_end : (names : List Text) (limits : Limits) (halt : Halt) (run_end : RunEnd) (m : Moment) (depth steps : ℕ) (s : Summary) → length m.log ≡ depth → steps ≡ m.steps → run_end ≡ end_with names (halt_shown halt) (entries m.environment) → s ≡ summary_at_end run_end steps depth
    → SummedFrom names limits (Ends halt) m s
summed_end names limits halt run_end m depth steps s e k so h =
    let left = end_with names (halt_shown halt) (entries m.environment) in (
      of_end names (halt_shown halt) m,
      sums_end names limits.devices (halt_shown halt) m,
      h
          ∙ ap (λ (x : RunEnd). summary_at_end x steps depth) so
          ∙ ap (λ (n : ℕ). summary_at_end left n depth) k
          ∙ ap (λ (n : ℕ). summary_at_end left m.steps n) (sym e)
          ∙ sym (end_shown names (halt_shown halt) m),
    )

-- the log where a text has stopped
pub log_there : (limits : Limits) (stop : Stop) (f : OutcomeWord → Came) (n : Moment) → Stops limits stop f n → came_log (f []) ≡ n.log
log_there limits Asks f n h = ap came_log h.2
log_there limits (Ends halt) f n h = ap came_log (h [])

-- what each outcome counts, by the words that the log has
counts_there : (limits : Limits) (m : Moment) (won_stop : Stop) (won_at : Moment) (devices : ℕ) (answer : Option Bool) (words : List Text) → IsAsking limits m → Stops limits won_stop (λ w. asked_at limits m (Success ∷ w)) won_at → devices ≡ length m.log
    → words ≡ words_in (slice_get won_at.log devices) → answer ≡ expected limits.devices words → (d : Outcome) (w : OutcomeWord)
    → came_count limits.devices (length (asked_in m.log)) (asked_at limits m (d ∷ w)) ≡ counts_at answer d + came_count limits.devices (suc (length (asked_in m.log))) (asked_at limits m (d ∷ w))
unfolding IsAsking
counts_there limits m won_stop won_at devices answer words asking won logged are is d w =
    let call : words ≡ asking.request.name ∷ asking.request.words =
    are ∙ ap (λ (n : ℕ). words_in (slice_get won_at.log n)) logged ∙ words_logged limits m asking won_at.log Success [] (log_there limits won_stop (λ v. asked_at limits m (Success ∷ v)) won_at won) in
    counts_next limits m asking answer (is ∙ ap (expected limits.devices) call) (asks_anew limits m asking) d w

module _ (names : List Text) (task : Task) (depth : ℕ) (m : Moment) (reached : IsReached task depth Asks m) where
  -- what follows one outcome
  side_sums : (d : Outcome) (stop : Stop) (n : Moment) (s : Summary) → Stops task.limits stop (λ w. asked_at task.limits m (d ∷ w)) n → Sums names task.limits.devices (length (asked_in n.log)) (future task.limits stop n) s → Sums names task.limits.devices (suc (length (asked_in m.log))) (λ w. asked_at task.limits m (d ∷ w)) s
  side_sums d stop n s stops sums =
      let log = reached_log task depth Asks m reached in
      let next = reached_log task (depth + 1) stop n (reached_on task depth m n d stop reached stops) in
      let one : length (asked_in n.log) ≡ suc (length (asked_in m.log)) = omega arith in
      sums_same names task.limits.devices (suc (length (asked_in m.log))) (future task.limits stop n) (λ w. asked_at task.limits m (d ∷ w)) s (λ w. sym (future_is task.limits stop (λ v. asked_at task.limits m (d ∷ v)) n stops w))
      (subst (λ (k : ℕ). Sums names task.limits.devices k (future task.limits stop n) s) one sums)

  -- a device command that asks, from its two sides
  pub summed_sides : (won_stop lost_stop : Stop) (won_at lost_at : Moment) (won lost s : Summary) (steps devices : ℕ) (answer : Option Bool) (words : List Text) → steps ≡ m.steps → devices ≡ length m.log
      → Stops task.limits won_stop (λ w. asked_at task.limits m (Success ∷ w)) won_at → Stops task.limits lost_stop (λ w. asked_at task.limits m (Failure ∷ w)) lost_at
      → words ≡ words_in (slice_get won_at.log devices) → answer ≡ expected task.limits.devices words
      → SummedFrom names task.limits won_stop won_at won → SummedFrom names task.limits lost_stop lost_at lost
      → s ≡ summary_of_sides (of_both_up answer) steps devices won lost → SummedFrom names task.limits Asks m s
  summed_sides won_stop lost_stop won_at lost_at won lost s steps devices answer words k log a b are is h g e = (
    of_sides m answer h.0 g.0,
    sums_sides names task.limits.devices (length (asked_in m.log)) (asked_at task.limits m) m answer h.0 g.0 (reached_wants task depth m reached) (side_sums Success won_stop won_at h.0 a h.1) (side_sums Failure lost_stop lost_at g.0 b g.1)
        (counts_there task.limits m won_stop won_at devices answer words (reached_asks task depth m reached) a log are is),
    e
        ∙ ap (λ (n : ℕ). summary_of_sides (of_both_up answer) n devices won lost) k
        ∙ ap (λ (n : ℕ). summary_of_sides (of_both_up answer) m.steps n won lost) log
        ∙ ap (λ (x : Summary). summary_of_sides (of_both_up answer) m.steps (length m.log) x lost) h.2
        ∙ ap (λ (x : Summary). summary_of_sides (of_both_up answer) m.steps (length m.log) (saturated_summary h.0) x) g.2
        ∙ ap (λ (rows : List Row). record (of_sides m answer h.0 g.0) { rows = rows }) (sym (both_up answer h.0.rows g.0.rows)),
  )

-- ---- the table

-- an entry that fits, at a moment, and at the moment without the frames below those of the entry
module _ (names : List Text) (limits : Limits) (nodes : List Node) (sum_nodes : List SumNode) (e : Entry) (t : Moment) (h : IsEntry names limits nodes sum_nodes e) (asks : IsAsking limits t) (fits : Fits limits.step_bound limits.device_bound e t) where
  abbrev below : ℕ
  below = how_many_below e t

  abbrev u : Moment
  u = without_lowest below t

  many : length e.frames.items ≡ length (reverse e.frames.items)
  many = sym (length-reverse e.frames.items)

  top : above below t.frames ≡ reverse e.frames.items
  top = top_of e.whole (reverse e.frames.items) t.frames (length e.frames.items) many fits.frames

  some_on_top : 0 < length (reverse e.frames.items)
  some_on_top = let some = some_frames limits h.moment h.asks in let same = ap (λ (fs : List RunningFrame). length fs) h.frames in omega arith

  within_there : below < length t.frames
  within_there = below_top e.whole (reverse e.frames.items) t.frames (length e.frames.items) many some_on_top fits.frames

  asks_there : IsAsking limits u
  asks_there = asks_above limits below t asks within_there

  fits_there : FitsByKeys limits (keys_of e.known.items) h.summary h.moment u
  fits_there =
      let m : Moment = h.moment in
      let kept : Summary = h.summary in
      let shown : summary_with (map saturated kept.rows) e.summary ≡ saturated_summary kept = h.shown.1 in
      let agree : AgreeOn (keys_of e.known.items) (state_at m []) (state_at t []) = agree_on_known m t e.known.items h.known fits.known in
      let fits_steps : FitsIf kept.cut_steps m.steps t.steps kept.steps limits.step_bound =
      subst (λ (x : Summary). FitsIf x.cut_steps m.steps t.steps x.steps limits.step_bound) shown (subst (λ (n : ℕ). FitsIf e.summary.cut_steps n t.steps e.summary.steps limits.step_bound) h.steps fits.steps) in
      let fits_devices : FitsIf kept.cut_devices (length m.log) (length t.log) kept.devices limits.device_bound =
      subst (λ (x : Summary). FitsIf x.cut_devices (length m.log) (length t.log) x.devices limits.device_bound) shown
      (subst (λ (n : ℕ). FitsIf e.summary.cut_devices n (length t.log) e.summary.devices limits.device_bound) h.devices fits.devices) in
      record {
        place = places_are_same limits m u h.asks asks_there (top ∙ h.frames) (agree_fewer (asked_reads m) (keys_of e.known.items) (state_at m []) (state_at t []) h.asked agree);
        agree = agree;
        steps = fits_steps;
        devices = fits_devices;
      }

  never_there : NeverReturnsTo below (asked_at limits u)
  never_there = by e.whole refl
    where
      by : (whole : Bool) → e.whole ≡ whole → NeverReturnsTo below (asked_at limits u)
      by true whole some = absurd (some (ap (λ (b : Bool). cond b 0 (length t.frames - length e.frames.items)) whole))
      by false whole some = no_returns_are_reused limits names h.moment u (keys_of e.known.items) h.summary h.asks asks_there h.enough h.sums fits_there (h.apart whole)

  abbrev rows_there : List Row
  rows_there = map saturated h.summary.rows

  abbrev shown_there : Summary
  shown_there = moved_by e.steps t.steps e.devices (length t.log) (summary_with rows_there e.summary)

  summed_there : SummedFrom names limits Asks t shown_there
  summed_there =
      let m : Moment = h.moment in
      let kept : Summary = h.summary in
      let shown : summary_with rows_there e.summary ≡ saturated_summary kept = h.shown.1 in (
        moved_on m t kept,
        sums_below limits names (moved_on m t kept) below t asks within_there never_there (summaries_are_reused limits names m u (keys_of e.known.items) kept h.asks asks_there h.enough h.sums fits_there),
        ap (λ (n : ℕ). moved_by n t.steps e.devices (length t.log) (summary_with rows_there e.summary)) h.steps
            ∙ ap (λ (n : ℕ). moved_by m.steps t.steps n (length t.log) (summary_with rows_there e.summary)) h.devices
            ∙ ap (λ (x : Summary). moved_by m.steps t.steps (length m.log) (length t.log) x) shown,
      )

  drawn_there : (place : ℕ) → place ≡ e.summary.place → Draws nodes place (seen_at limits t)
  drawn_there place is =
      subst (λ (p : ℕ). Draws nodes p (seen_at limits t)) (sym is)
      (draws_as nodes e.summary.place (seen_at limits h.moment) (seen_at limits t)
      (λ w. sym (seen_below limits below t asks within_there never_there w ∙ nodes_are_reused limits names h.moment u (keys_of e.known.items) h.summary h.asks asks_there h.enough h.sums fits_there w)) h.draws)

  keys_there : AreEnoughAt limits names u (keys_of e.known.items)
  keys_there = keys_are_reused limits names h.moment u (keys_of e.known.items) h.summary h.asks asks_there h.enough h.sums fits_there

  -- what a look-up in the table finds
  found_there : (es : List Entry) (i : ℕ) (f : Future) → slice_get es i ≡ Some e → IsTaken e t f → IsFound names limits nodes sum_nodes es t f
  found_there es i f got taken = record {
    shown = shown_there;
    is = (subst (λ (n : ℕ). DrawsRows sum_nodes n rows_there) (sym taken.node) h.shown.0, taken.sums rows_there);
    sums = summed_there;
    draws = drawn_there f.summary.place taken.place;
    within = subst (λ (n : ℕ). n < length t.frames) (sym taken.below) within_there;
    keys = subst (λ (n : ℕ). AreEnoughAt limits names (without_lowest n t) (keys_shown f.keys.items)) (sym taken.below) (subst (AreEnoughAt limits names u) (sym taken.keys) keys_there);
    apart = subst (λ (n : ℕ). NeverReturnsTo n (asked_at limits (without_lowest n t))) (sym taken.below) never_there;
    some = λ none. let l = slice_get_within es i e got in let a : length es ≡ 0 = ap length none in absurd (omega arith);
  }

entry_in : (names : List Text) (limits : Limits) (nodes : List Node) (sum_nodes : List SumNode) (es : List Entry) (i : ℕ) (e : Entry) → slice_get es i ≡ Some e → AreEntries names limits nodes sum_nodes es → IsEntry names limits nodes sum_nodes e
entry_in names limits nodes sum_nodes es i e got all = subst (IsEntry names limits nodes sum_nodes) (get_or_from_slice_get es i e e got) (all i e (slice_get_within es i e got))

-- what a look-up in the table finds
pub found_one : (names : List Text) (limits : Limits) (nodes : List Node) (sum_nodes : List SumNode) (table : Table) (t : Moment) (f : Future) → AreEntries names limits nodes sum_nodes table.entries.items → IsAsking limits t
    → TakesOne limits.step_bound limits.device_bound table.entries.items t f → IsFound names limits nodes sum_nodes table.entries.items t f
found_one names limits nodes sum_nodes table t f all asks takes =
    found_there names limits nodes sum_nodes takes.1 t (entry_in names limits nodes sum_nodes table.entries.items takes.0 takes.1 takes.2 all) asks takes.3 table.entries.items takes.0 f takes.2 takes.4

-- if it finds nothing, no entry fits
none_fits : (limits : Limits) (table : Table) (t : Moment) → AreNoted table → NoneFrom limits.step_bound limits.device_bound table t (place_number t.frames) 0
    → AllOf table.depths.items (NoneOnTop limits.step_bound limits.device_bound table t) → NoneFits limits.step_bound limits.device_bound table.entries.items t
none_fits limits table t noted none deeper place e got fits = by e.whole refl
  where
    here : IsNoted table table.entries.items place e
    here = noted place e got

    short : 0 + length e.known.items ≤ table.longest
    short = let l = here.short in omega arith

    by : (whole : Bool) → e.whole ≡ whole → ⊥
    by true whole =
        let same : t.frames ≡ reverse e.frames.items = subst (λ (b : Bool). HasOnTop b (reverse e.frames.items) t.frames) whole fits.frames in
        none place e e.known.items got short (subst (λ (fs : List RunningFrame). LeadTo table table.entries.items (place_number fs) 0 e.known.items place) (sym same) here.leads) fits.known fits
    by false whole =
        let inner = innermost_are (reverse e.frames.items) t.frames (length e.frames.items) (sym (length-reverse e.frames.items)) (subst (λ (b : Bool). HasOnTop b (reverse e.frames.items) t.frames) whole fits.frames) in
        deeper (length e.frames.items) (here.deep whole) inner.0 place e e.known.items got short
        (subst (λ (fs : List RunningFrame). LeadTo table table.entries.items (place_number fs) 0 e.known.items place) (sym inner.1) here.leads) fits.known fits

pub looked_up : (names : List Text) (limits : Limits) (nodes : List Node) (sum_nodes : List SumNode) (table : Table) (t : Moment) (number : ℕ) → AreEntries names limits nodes sum_nodes table.entries.items → AreNoted table → IsAsking limits t → number ≡ place_number t.frames
    → NoneFrom limits.step_bound limits.device_bound table t number 0
    → (o : Option Future) → MatchOption o (AllOf table.depths.items (NoneOnTop limits.step_bound limits.device_bound table t)) (TakesOne limits.step_bound limits.device_bound table.entries.items t)
    → MatchOption o (NoneFits limits.step_bound limits.device_bound table.entries.items t) (IsFound names limits nodes sum_nodes table.entries.items t)
looked_up names limits nodes sum_nodes table t number all noted asks is first None none = none_fits limits table t noted (subst (λ (n : ℕ). NoneFrom limits.step_bound limits.device_bound table t n 0) is first) none
looked_up names limits nodes sum_nodes table t number all noted asks is first (Some f) takes = found_one names limits nodes sum_nodes table t f all asks takes

module _ (names : List Text) (limits : Limits) (nodes : List Node) (sum_nodes : List SumNode) where
  one_at : (e : Entry) → IsEntry names limits nodes sum_nodes e → (n : ℕ) (d : Entry) → n < 1 → IsEntry names limits nodes sum_nodes (get_or (e ∷ []) n d)
  one_at e k zero d l = k
  one_at e k (suc n) d l = absurd (omega arith)

  all_append : (es : List Entry) (e : Entry) → AreEntries names limits nodes sum_nodes es → IsEntry names limits nodes sum_nodes e → AreEntries names limits nodes sum_nodes (es ++ e ∷ [])
  all_append es e h k = All-append (IsEntry names limits nodes sum_nodes) es (e ∷ []) h (one_at e k)

  -- more nodes
  wider : (new : List Node) (new_sums : List SumNode) (e : Entry) → HasMore nodes new → HasMoreSums sum_nodes new_sums → IsEntry names limits nodes sum_nodes e → IsEntry names limits new new_sums e
  wider new new_sums e h more k = record {
    moment = k.moment;
    asks = k.asks;
    frames = k.frames;
    known = k.known;
    asked = k.asked;
    enough = k.enough;
    apart = k.apart;
    steps = k.steps;
    devices = k.devices;
    summary = k.summary;
    sums = k.sums;
    shown = (draws_further sum_nodes new_sums e.summary.sum (map saturated k.summary.rows) more k.shown.0, k.shown.1);
    draws = draws_on nodes new e.summary.place (seen_at limits k.moment) h k.draws;
  }

  pub entries_as : (old new : List Entry) → new ≡ old → AreEntries names limits nodes sum_nodes old → AreEntries names limits nodes sum_nodes new
  entries_as old new e h = subst (AreEntries names limits nodes sum_nodes) (sym e) h

  pub all_wider : (new : List Node) (new_sums : List SumNode) (es : List Entry) → HasMore nodes new → HasMoreSums sum_nodes new_sums → AreEntries names limits nodes sum_nodes es → AreEntries names limits new new_sums es
  all_wider new new_sums es h more k = λ n d l. wider new new_sums (get_or es n d) h more (k n d l)

-- frames of which none are left out are whole
pub not_whole : (n : ℕ) → nat_eq n 0 ≡ false → n ≡ 0 → ⊥
not_whole n part z = let yes : nat_eq n 0 ≡ true = ap (λ (k : ℕ). nat_eq k 0) z in absurd (cc)

-- the summary that is kept
pub shown_as : (sum_nodes : List SumNode) (whole copy : rt.Summary) (s t : Summary) → copy ≡ whole → s ≡ t → IsSummary sum_nodes whole s → IsSummary sum_nodes copy t
shown_as sum_nodes whole copy s t e f h = subst (λ (x : rt.Summary). IsSummary sum_nodes x t) (sym e) (subst (IsSummary sum_nodes whole) f h)

-- one more entry
pub entries_more : (names : List Text) (task : Task) (nodes : List Node) (sum_nodes : List SumNode) (depth devices below : ℕ) (m n : Moment) (keys : List Key) (old new : List Entry) (whole : rt.Summary) (s : Summary) → IsReached task depth Asks m → AreEntries names task.limits nodes sum_nodes old → n ≡ m
    → IsSummary sum_nodes whole s → SummedFrom names task.limits Asks m s → Draws nodes whole.place (seen_at task.limits m) → devices ≡ length m.log → AreAmong (asked_reads n) keys → below < length m.frames → AreEnoughAt task.limits names (without_lowest below m) keys
    → NeverReturnsTo below (asked_at task.limits (without_lowest below m)) → IsKeptAt old new below n keys devices whole → AreEntries names task.limits nodes sum_nodes new
entries_more names task nodes sum_nodes depth devices below m n keys old new whole s reached all same is summed draws log asked within enough never kept_there =
    let kept : IsKeptAt old new below m keys devices whole = subst (λ (x : Moment). IsKeptAt old new below x keys devices whole) same kept_there in
    let e : Entry = kept.kept.0 in
    let known : keys_of e.known.items ≡ keys = ap keys_of kept.kept.3 ∙ kept.same in
    let asks : IsAsking task.limits m = reached_asks task depth m reached in
    let u : Moment = without_lowest below m in
    let asked_here : AreAmong (asked_reads u) keys = subst (λ (ks : List Key). AreAmong ks keys) (sym (asked_without below m within)) (subst (λ (x : Moment). AreAmong (asked_reads x) keys) same asked) in
    let entry : IsEntry names task.limits nodes sum_nodes e = record {
      moment = u;
      asks = asks_above task.limits below m asks within;
      frames = ap reverse kept.kept.2 ∙ kept.frames;
      known = subst (AllHold u) (sym kept.kept.3) (all_held_without below m kept.known kept.holds);
      asked = subst (AreAmong (asked_reads u)) (sym known) asked_here;
      enough = subst (AreEnoughAt task.limits names u) (sym known) enough;
      apart = λ part. never (λ z. not_whole below (sym kept.kept.7 ∙ part) z);
      steps = kept.kept.4;
      devices = kept.kept.5 ∙ log;
      summary = summed.0;
      sums = sums_above task.limits names summed.0 below m asks within never summed.1;
      shown = shown_as sum_nodes whole e.summary s (saturated_summary summed.0) kept.kept.6 summed.2 is;
      draws = subst (λ (x : rt.Summary). Draws nodes x.place (seen_at task.limits u)) (sym kept.kept.6) (draws_as nodes whole.place (seen_at task.limits m) (seen_at task.limits u) (λ w. seen_below task.limits below m asks within never w) draws);
    } in
    subst (AreEntries names task.limits nodes sum_nodes) (sym kept.kept.1) (all_append names task.limits nodes sum_nodes old e all entry)

-- ---- keys

-- what was reported of both outcomes, and the keys after, without the lowest frames
pub record Both (names : List Text) (limits : Limits) (below : ℕ) (m : Moment) (keys : List Key) : Type 0 where
  pub within : below < length m.frames
  pub enough : AreEnoughAt limits names (without_lowest below m) keys
  pub never : NeverReturnsTo below (asked_at limits (without_lowest below m))

pub keys_of_sides : (names : List Text) (task : Task) (below : ℕ) (m : Moment) (won lost keys : List Key) (frames : ℕ) → IsAsking task.limits m → below ≤ frames - 1 → frames ≤ length m.frames
    → Side names task.limits below m Success won → Side names task.limits below m Failure lost → AreAmong (won ++ lost) keys → Both names task.limits below m keys
keys_of_sides names task below m won lost keys frames asks less all from_won from_lost among =
    let some = some_frames task.limits m asks in
    let within : below < length m.frames = omega arith in
    record {
      within = within;
      enough = more_keys_are_enough task.limits names (asks_at task.limits (without_lowest below m)) (won ++ lost) keys (both_enough names task.limits below m won lost asks within from_won from_lost) among;
      never = neither_comes_back names task.limits below m won lost asks within from_won from_lost;
    }

-- ---- marks

pub won_on : (task : Task) (r₀ r r₁ : Record) (stop : Stop) → r ≡ with_mark r₀ → Stops task.limits stop (λ w. asked_at task.limits r.present (outcome_when true ∷ w)) r₁.present → Stops task.limits stop (λ w. asked_at task.limits r₀.present (Success ∷ w)) r₁.present
won_on task r₀ r r₁ stop e h = subst (λ (x : Record). Stops task.limits stop (λ w. asked_at task.limits x.present (Success ∷ w)) r₁.present) e h

back_by : (r₀ : Record) (present : Moment) (begun : ℕ) (marked : List Moment) → marked ≡ r₀.present ∷ r₀.marked → (returned present begun marked).present ≡ r₀.present
back_by r₀ present begun marked e = ap (λ (ms : List Moment). (returned present begun ms).present) e

pub back_there : (r₀ r r₁ r₂ back : Record) → r ≡ with_mark r₀ → r₁.marked ≡ r.marked → r₂.marked ≡ r₁.marked → back ≡ gone_back r₂ → back.present ≡ r₀.present
back_there r₀ r r₁ r₂ back e a b k =
    ap (λ (x : Record). x.present) k ∙ back_by r₀ r₂.present r₂.begun r₂.marked (b ∙ a ∙ ap (λ (x : Record). x.marked) e)

marks_by : (r₀ : Record) (present : Moment) (begun : ℕ) (marked : List Moment) → marked ≡ r₀.present ∷ r₀.marked → (returned present begun marked).marked ≡ r₀.marked
marks_by r₀ present begun marked e = ap (λ (ms : List Moment). (returned present begun ms).marked) e

-- the marks are the same when both sides are searched
pub marks_back : (r₀ r r₁ r₂ back r₃ r₄ : Record) → r ≡ with_mark r₀ → r₁.marked ≡ r.marked → r₂.marked ≡ r₁.marked → back ≡ gone_back r₂ → r₃.marked ≡ back.marked → r₄.marked ≡ r₃.marked → r₄.marked ≡ r₀.marked
marks_back r₀ r r₁ r₂ back r₃ r₄ e a b k c d =
    d ∙ c ∙ ap (λ (x : Record). x.marked) k ∙ marks_by r₀ r₂.present r₂.begun r₂.marked (b ∙ a ∙ ap (λ (x : Record). x.marked) e)

pub lost_on : (task : Task) (m : Moment) (back r₁ : Record) (stop : Stop) → back.present ≡ m → Stops task.limits stop (λ w. asked_at task.limits back.present (outcome_when false ∷ w)) r₁.present → Stops task.limits stop (λ w. asked_at task.limits m (Failure ∷ w)) r₁.present
lost_on task m back r₁ stop e h = subst (λ (x : Moment). Stops task.limits stop (λ w. asked_at task.limits x (Failure ∷ w)) r₁.present) e h

-- where the two outcomes lead for which a device command asks
pub record Sides (task : Task) (depth : ℕ) (m : Moment) (won_stop lost_stop : Stop) (won_at lost_at : Moment) : Type 0 where
  pub reached : IsReached task depth Asks m
  pub won : Stops task.limits won_stop (λ w. asked_at task.limits m (Success ∷ w)) won_at
  pub lost : Stops task.limits lost_stop (λ w. asked_at task.limits m (Failure ∷ w)) lost_at

-- the records: now, at the mark, with the success, after it, back at the mark, and with the failure
pub sides_of : (task : Task) (depth : ℕ) (stop won_stop lost_stop : Stop) (here marked won behind back lost : Record) → stop ≡ Asks → IsReached task depth stop here.present
    → marked ≡ with_mark here → Stops task.limits won_stop (λ w. asked_at task.limits marked.present (outcome_when true ∷ w)) won.present → won.marked ≡ marked.marked → behind.marked ≡ won.marked
    → back ≡ gone_back behind → Stops task.limits lost_stop (λ w. asked_at task.limits back.present (outcome_when false ∷ w)) lost.present
    → Sides task depth here.present won_stop lost_stop won.present lost.present
sides_of task depth stop won_stop lost_stop here marked won behind back lost asks reached is won_stops kept still returns lost_stops = record {
  reached = reached_as task depth stop Asks here.present asks reached;
  won = won_on task here marked won won_stop is won_stops;
  lost = lost_on task here.present back lost lost_stop (back_there here marked won behind back is kept still returns) lost_stops;
}

begun_by : (present : Moment) (begun : ℕ) (marked : List Moment) → (returned present begun marked).begun ≡ begun
begun_by present begun [] = refl
begun_by present begun (m ∷ ms) = refl

pub begun_back : (r back : Record) → back ≡ gone_back r → back.begun ≡ r.begun
begun_back r back e = ap (λ (x : Record). x.begun) e ∙ begun_by r.present r.begun r.marked

-- one mark more: a search that starts after it, and goes back to it at its end
pub searched_behind : (names : List Text) (task : Task) (stop : Stop) (r here done last : Record) (before after : Table) (f : Future) → here ≡ with_mark r → last ≡ gone_back done → IsSearched names task stop here done before after f → IsSearched names task stop r last before after f
searched_behind names task stop r here done last before after f is returns h =
    let present : here.present ≡ r.present = ap (λ (x : Record). x.present) is in
    let begun : here.begun ≡ r.begun = ap (λ (x : Record). x.begun) is in
    let marked : done.marked ≡ r.present ∷ r.marked = h.marks ∙ ap (λ (x : Record). x.marked) is in
    let begun_last : last.begun ≡ done.begun = begun_back done last returns in
    let a = h.begun in
    record {
      shown = h.shown;
      is = h.is;
      sums = subst (λ (m : Moment). SummedFrom names task.limits stop m h.shown) present h.sums;
      draws = subst (λ (m : Moment). Draws (nodes_shown after.flow.nodes) f.summary.place (seen_from task.limits stop m)) present h.draws;
      within = subst (λ (m : Moment). HasFramesAtStop (f.below + 1) stop m) present h.within;
      keys = subst (λ (m : Moment). AreEnoughAtStop task.limits names stop (without_lowest f.below m) (keys_shown f.keys.items)) present h.keys;
      apart = subst (λ (m : Moment). NeverReturnsTo f.below (future task.limits stop (without_lowest f.below m))) present h.apart;
      grows = h.grows;
      more = h.more;
      last = h.last;
      marks = ap (λ (x : Record). x.marked) returns ∙ marks_by r done.present done.begun done.marked marked;
      table = h.table;
      begun = omega (arith, a, begun, begun_last);
      room = h.room;
      most = h.most;
      held = h.held;
      noted = h.noted;
      entered = λ p begun at by entered. h.entered p begun (subst (λ (m : Moment). StoppedAt task p stop m) (sym present) at) by entered;
    }

-- at the first mark of a state
pub marked_present : (r here : Record) → here ≡ with_mark r → here.present ≡ r.present
marked_present r here is = ap (λ (x : Record). x.present) is

-- back at the first mark
pub last_there : (r here done last : Record) → here ≡ with_mark r → last ≡ gone_back done → done.marked ≡ here.marked → last.present ≡ here.present
last_there r here done last is returns marks =
    ap (λ (x : Record). x.present) returns ∙ back_by r done.present done.begun done.marked (marks ∙ ap (λ (x : Record). x.marked) is) ∙ sym (marked_present r here is)

pub reached_marked : (task : Task) (depth : ℕ) (stop : Stop) (r here : Record) → here ≡ with_mark r → IsReached task depth stop r.present → IsReached task depth stop here.present
reached_marked task depth stop r here is reached = subst (IsReached task depth stop) (sym (marked_present r here is)) reached

-- ---- the steps that were begun

abbrev pub Room : (begun visited : ℕ) → Type 0
Room begun visited = begun ≤ (2 * visited + 1) * most_steps

-- the steps of this many more states
abbrev pub Grows : (old new old_visited new_visited : ℕ) → Type 0
Grows old new old_visited new_visited = new + 2 * old_visited * most_steps ≤ old + 2 * new_visited * most_steps

pub begun_on : (r r₁ : Record) → r₁.begun + r.present.steps ≡ r.begun + r₁.present.steps → r₁.present.steps ≤ most_steps → r₁.begun ≤ r.begun + most_steps
begun_on r r₁ e l = omega arith

pub begun_marked : (r₀ r : Record) → r ≡ with_mark r₀ → r.begun ≡ r₀.begun
begun_marked r₀ r e = ap (λ (x : Record). x.begun) e

-- the first stretch of steps from a state
pub begun_won : (r₀ r r₁ : Record) (v₀ v₁ : ℕ) → r ≡ with_mark r₀ → r₁.begun ≤ r.begun + most_steps → Room r₀.begun v₀ → v₁ ≡ v₀ + 1 → Room r₁.begun v₁
begun_won r₀ r r₁ v₀ v₁ marked on room visited =
    let a = begun_marked r₀ r marked in
    omega (arith, a, on, room, visited)

-- the second one
pub begun_behind : (r₀ r r₁ r₂ back r₃ : Record) (v₀ v₁ v₂ : ℕ) → r ≡ with_mark r₀ → r₁.begun + r.present.steps ≡ r.begun + r₁.present.steps → r₁.present.steps ≤ most_steps → Room r₀.begun v₀ → v₁ ≡ v₀ + 1
    → Grows r₁.begun r₂.begun v₁ v₂ → back ≡ gone_back r₂ → r₃.begun ≤ back.begun + most_steps → Room r₃.begun v₂
begun_behind r₀ r r₁ r₂ back r₃ v₀ v₁ v₂ marked on within room visited grows returns lost =
    let a = begun_marked r₀ r marked in
    let b = begun_on r r₁ on within in
    let c = begun_back r₂ back returns in
    omega (arith, a, b, c, lost, room, visited, grows)

pub begun_lost : (r₀ r r₁ r₂ back r₃ : Record) (v₀ v₁ v₂ : ℕ) → r ≡ with_mark r₀ → r₁.begun + r.present.steps ≡ r.begun + r₁.present.steps → r₁.present.steps ≤ most_steps → Room r₀.begun v₀ → v₁ ≡ v₀ + 1
    → Grows r₁.begun r₂.begun v₁ v₂ → back ≡ gone_back r₂ → r₃.begun + back.present.steps ≡ back.begun + r₃.present.steps → r₃.present.steps ≤ most_steps → Room r₃.begun v₂
begun_lost r₀ r r₁ r₂ back r₃ v₀ v₁ v₂ marked on within room visited grows returns lost within' =
    begun_behind r₀ r r₁ r₂ back r₃ v₀ v₁ v₂ marked on within room visited grows returns (begun_on back r₃ lost within')

-- the steps are not many more than allowed
pub spent_by : (work count : ℕ) (r r₁ : Record) (table : Table) → r.begun ≤ work → work < r₁.begun → r₁.begun ≤ r.begun + most_steps → count ≡ table.visited → IsSpent work count r₁ table
spent_by work count r r₁ table allowed more on counted = (more, omega (arith, allowed, on), counted)

-- the steps of both sides, and of the state itself
pub begun_sides : (r₀ r r₁ r₂ back r₃ r₄ : Record) (v₀ v₁ v₂ v₃ v₄ : ℕ) → r ≡ with_mark r₀ → r₁.begun + r.present.steps ≡ r.begun + r₁.present.steps → r₁.present.steps ≤ most_steps → v₁ ≡ v₀ + 1
    → Grows r₁.begun r₂.begun v₁ v₂ → back ≡ gone_back r₂ → r₃.begun + back.present.steps ≡ back.begun + r₃.present.steps → r₃.present.steps ≤ most_steps → Grows r₃.begun r₄.begun v₂ v₃ → v₄ ≡ v₃ → Grows r₀.begun r₄.begun v₀ v₄
begun_sides r₀ r r₁ r₂ back r₃ r₄ v₀ v₁ v₂ v₃ v₄ marked on within visited grows returns lost within' grows' kept =
    let a = begun_marked r₀ r marked in
    let b = begun_on r r₁ on within in
    let c = begun_back r₂ back returns in
    let d = begun_on back r₃ lost within' in
    omega (arith, a, b, c, d, visited, grows, grows', kept)

pub room_kept : (visited most visited' most' : ℕ) → visited' ≡ visited → most' ≡ most → visited ≤ most → visited' ≤ most'
room_kept visited most visited' most' e f l = omega arith

none_there : (names : List Text) (limits : Limits) (nodes : List Node) (sum_nodes : List SumNode) (n : ℕ) (d : Entry) → n < 0 → IsEntry names limits nodes sum_nodes (get_or [] n d)
none_there names limits nodes sum_nodes n d l = absurd (omega arith)

-- ---- the whole

pub kind_settled : (a : Answer) → came_kind (settled a) ≡ kind_of a
kind_settled (Normal s) = refl
kind_settled (Exit s) = refl
kind_settled (Ended ending s) = refl
kind_settled (Dry s) = refl

ending_settled : (a : Answer) → came_ending (settled a) ≡ ending_of a
ending_settled (Normal s) = refl
ending_settled (Exit s) = refl
ending_settled (Ended ending s) = refl
ending_settled (Dry s) = refl

pub reached_first : (task : Task) (stop : Stop) (m : Moment) → Stops task.limits stop (λ w. settled (run_on task w)) m → IsReached task 0 stop m
reached_first task stop m h = ([], refl, h)

pub no_entries : (names : List Text) (limits : Limits) (nodes : List Node) (sum_nodes : List SumNode) (es : List Entry) → es ≡ [] → AreEntries names limits nodes sum_nodes es
no_entries names limits nodes sum_nodes es e = subst (AreEntries names limits nodes sum_nodes) (sym e) (none_there names limits nodes sum_nodes)

end_settled : (names : List Text) (task : Task) (w : OutcomeWord) → came_end names (settled (run_on task w)) ≡ end_of names task w
end_settled names task w =
    ap (λ (x : Ending). end_with names x (came_state (settled (run_on task w))).memory.environment) (ending_settled (run_on task w))
    ∙ ap (λ (x : State). end_with names (ending task w) x.memory.environment) (state_settled (run_on task w))

pub whole_rows : (names : List Text) (task : Task) (stop : Stop) (m : Moment) (s : Summary) → Stops task.limits stop (λ w. settled (run_on task w)) m → SummedFrom names task.limits stop m s → s.rows ≡ map saturated (endings names task)
whole_rows names task stop m s h k =
    let f : OutcomeWord → Came = λ w. settled (run_on task w) in
    let devices : Devices = task.limits.devices in
    let before : ℕ = length (asked_in m.log) in
    let sums : Sums names devices before f k.0 = sums_same names devices before (future task.limits stop m) f k.0 (λ w. sym (future_is task.limits stop f m h w)) k.1 in
    let counts : (w : OutcomeWord) → came_count devices before (f w) ≡ unexpected task w = λ w.
    ap (λ (n : ℕ). came_count devices n (f w)) (reached_log task 0 stop m (reached_first task stop m h))
    ∙ ap (λ (t : State). length (unexpected_of devices (asked_in t.log))) (state_settled (run_on task w)) in
    let has : HasRows (kind task) (end_of names task) (unexpected task) k.0.rows = rows_as names f (kind task) (end_of names task) (λ w. came_count devices before (f w)) (unexpected task) k.0.rows (λ w. kind_settled (run_on task w)) (end_settled names task) counts sums.has_rows in
    ap (λ (x : Summary). x.rows) k.2 ∙ ap (map saturated) (are_rows (kind task) (end_of names task) (unexpected task) k.0.rows task.limits.device_bound has (task_chooses task))
