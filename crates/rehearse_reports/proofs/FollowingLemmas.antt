-- What was read and written, one step after another.
use Rattle.std.proofs.Common.{◌≡◌, ◌∙◌, ◌≤◌, arith, refl, sym, ap, subst, ℕ, List, [], ◌∷◌, ◌++◌}
use Rattle.bootstore_state.specs.Moment.{Moment}
use Rattle.bootstore_state.specs.Record.{Record}
use Rattle.bootstore_state.specs.StoredState.{state_at}
use Rattle.rehearse_terms.specs.Outcomes.{Outcome, Success, Failure, OutcomeWord}
use Rattle.rehearse_terms.specs.State.{Text, State}
use Rattle.rehearse_rules.specs.Execution.{Limits, Normal}
use Rattle.rehearse_rules.specs.EndingsShown.{halt_shown}
use Rattle.rehearse_machine.specs.Came.{Came}
use Rattle.rehearse_machine.specs.EndedTexts.{DropsEnded, GoOnAlike}
use Rattle.rehearse_machine.specs.Frames.{Frame, Next, Go, Ask}
use Rattle.rehearse_machine.specs.AskingCommand.{found_again}
use Rattle.rehearse_machine.specs.Machine.{Asking, IsAsking, asked_at}
use Rattle.rehearse_machine.specs.Meaning.{continue, comes_to}
use Rattle.rehearse_machine.specs.MovesShown.{next_shown, request_shown}
use Rattle.rehearse_machine.specs.Places.{PlaceNext, AskOn, next_of, frames_of, place_answered}
use Rattle.rehearse_machine.specs.Turning.{to_come}
use Rattle.rehearse_rules.specs.declared.halt.Halt.{Halt}
use Rattle.rehearse_machine.specs.declared.ask.Ask.{Ask as AskCode}
use Rattle.rehearse_machine.specs.declared.ask.Step.{Step}
use Rattle.rehearse_machine.specs.declared.ask.Step.TheVariants as steps
use Rattle.rehearse_machine.specs.declared.rehearsal.Stop.{Stop}
use Rattle.rehearse_machine.specs.declared.rehearsal.Stop.TheVariants as stops
use Rattle.rehearse_machine.proofs.PlaceMoves.{place_answered-is}
use Rattle.rehearse_machine.proofs.TurnLemmas.{same_state}
use Rattle.rehearse_reads.specs.Keys.{Key, Access, AreAmong, keys_in_front, keys_read}
use Rattle.rehearse_reads.specs.Accesses.{outcome_accesses}
use Rattle.rehearse_reads.proofs.KeysRead.{stretches_join}
use Rattle.rehearse_frames.specs.Above.{above, without_lowest}
use Rattle.rehearse_frames.specs.ToCome.{names_read}
use Rattle.rehearse_frames.specs.KeysToCome.{AreEnough, AreEnoughIf, AreEnoughFrom, AreEnoughAfter, AreEnoughAt, asks_at}
use Rattle.rehearse_frames.proofs.EnoughKeys.{answered_so, asked_so, asks_so, keys_of_ends, keys_of_answers, keys_of_asking, keys_of_moments, keys_of_alike_frames, more_decide, more_keys_are_enough}
use Rattle.rehearse_reports.specs.Reports.{Reports}
use Rattle.rehearse_reports.specs.Following.{Leads, Follows, FollowsAbove, FollowsToStop, FollowsOutcome, IsReportedFor, AreEnoughFor, AreEnoughAtStop, comes_at_stop}
use Rattle.rehearse_reports.specs.Looping.{GoAlikeAbove}
use Rattle.rehearse_reports.specs.Laws.{KeysOfBothOutcomes}
use Rattle.rehearse_reports.proofs.ReportLemmas.{reports_nothing, reports_then}

-- one after another
pub leads_then : (here mid there : OutcomeWord → Came) (first second third : List Text → List Key → Type 0) (old so_far new : List Access)
    → Leads here mid first second old so_far → Leads mid there second third so_far new → Leads here there first third old new
leads_then here mid there first second third old so_far new a b = record {
  accesses = a.accesses ++ b.accesses;
  comes = λ w. b.comes w ∙ a.comes w;
  enough = λ wanted later h. subst (first wanted) (sym (stretches_join a.accesses b.accesses later)) (a.enough wanted (keys_in_front b.accesses later) (b.enough wanted later h));
  reported = reports_then old so_far new a.accesses b.accesses a.reported b.reported;
}

pub leads_to : (here mid there : OutcomeWord → Came) (first second third : List Text → List Key → Type 0) (old new : List Access)
    → ((w : OutcomeWord) → there w ≡ mid w) → ((wanted : List Text) (later : List Key) → third wanted later → second wanted later) → Leads here mid first second old new → Leads here there first third old new
leads_to here mid there first second third old new e h a = record { accesses = a.accesses; comes = λ w. e w ∙ a.comes w; enough = λ wanted later k. a.enough wanted later (h wanted later k); reported = a.reported }

-- the result of a step
abbrev pub after : Limits → Step → Moment → OutcomeWord → Came
after limits step n w = comes_to limits w (next_of (next_shown step n []))

pub follows_first : (limits : Limits) (m : Moment) (old : List Access) → Follows limits m steps.Going m old old
follows_first limits m old = record { accesses = []; comes = λ w. refl; enough = λ wanted later h. h; reported = reports_nothing old }

pub follows_then : (limits : Limits) (m n k : Moment) (step : Step) (old mid new : List Access) → Follows limits m steps.Going n old mid → Follows limits n step k mid new → Follows limits m step k old new
follows_then limits m n k step old mid new a b =
    leads_then (to_come limits m) (to_come limits n) (after limits step k) (λ wanted. AreEnoughFrom limits wanted m) (λ wanted. AreEnoughFrom limits wanted n) (λ wanted. AreEnoughAfter limits wanted step k) old mid new a b

pub follows_as : (limits : Limits) (m n : Moment) (step other : Step) (old new : List Access) → step ≡ other → Follows limits m step n old new → Follows limits m other n old new
follows_as limits m n step other old new e h = subst (λ (x : Step). Follows limits m x n old new) e h

-- ended texts that are dropped need no key
pub follows_lighter : (limits : Limits) (below : ℕ) (m : Moment) (mid new : Record) (before now : List Access) → DropsEnded mid new → GoOnAlike (above below new.present.frames) (above below mid.present.frames)
    → Follows limits m steps.Going (without_lowest below mid.present) before now → Follows limits m steps.Going (without_lowest below new.present) before now
follows_lighter limits below m mid new before now drops alike follows =
    let fs : List Frame = frames_of (above below mid.present.frames) in
    let gs : List Frame = frames_of (above below new.present.frames) in
    leads_to (to_come limits m) (to_come limits (without_lowest below mid.present)) (to_come limits (without_lowest below new.present))
    (λ wanted. AreEnoughFrom limits wanted m) (λ wanted. AreEnoughFrom limits wanted (without_lowest below mid.present)) (λ wanted. AreEnoughFrom limits wanted (without_lowest below new.present)) before now
    (λ w. alike limits (Normal (state_at new.present w)) ∙ ap (λ (s : State). continue limits fs (Normal s)) (same_state mid new drops w))
    (λ wanted later enough. keys_of_alike_frames limits wanted gs fs (state_at mid.present []) later (alike limits)
    (subst (λ (s : State). AreEnough limits wanted (Go gs s) later) (same_state mid new drops []) enough))
    follows

-- ---- the same without the lowest frames

pub all_follow_then : (limits : Limits) (fewest fewer : ℕ) (m n k : Moment) (step : Step) (old mid new : List Access) → fewer ≤ fewest → FollowsAbove limits fewest m steps.Going n old mid → FollowsAbove limits fewer n step k mid new → FollowsAbove limits fewer m step k old new
all_follow_then limits fewest fewer m n k step old mid new less a b below within =
    follows_then limits (without_lowest below m) (without_lowest below n) (without_lowest below k) step old mid new (a below (omega arith)) (b below within)

pub all_follow_as : (limits : Limits) (fewest : ℕ) (m n : Moment) (step other : Step) (old new : List Access) → step ≡ other → FollowsAbove limits fewest m step n old new → FollowsAbove limits fewest m other n old new
all_follow_as limits fewest m n step other old new e h = subst (λ (x : Step). FollowsAbove limits fewest m x n old new) e h

pub all_follow_lighter : (limits : Limits) (fewest fewer : ℕ) (m : Moment) (mid new : Record) (before now : List Access) → fewer ≤ fewest → DropsEnded mid new → GoAlikeAbove fewer mid.present new.present
    → FollowsAbove limits fewest m steps.Going mid.present before now → FollowsAbove limits fewer m steps.Going new.present before now
all_follow_lighter limits fewest fewer m mid new before now less drops alike follows below within =
    follows_lighter limits below (without_lowest below m) mid new before now drops (alike below within) (follows below (omega arith))

-- ---- at a device command that asks

module _ (limits : Limits) (wanted : List Text) (m : Moment) (asking : Asking limits m) where
  abbrev asks : Next
  asks = Ask asking.request (frames_of m.frames) (state_at m [])

  if_there : (outcome : Outcome) (keys : List Key) → AreEnoughIf limits wanted outcome asks keys → AreEnoughFor limits wanted outcome m keys
  if_there outcome keys enough = subst (λ (next : Next). AreEnoughIf limits wanted outcome next keys) (sym (asks_so limits m asking)) enough

  if_here : (outcome : Outcome) (keys : List Key) → AreEnoughFor limits wanted outcome m keys → AreEnoughIf limits wanted outcome asks keys
  if_here outcome keys enough = subst (λ (next : Next). AreEnoughIf limits wanted outcome next keys) (asks_so limits m asking) enough

  both_keys : (won lost : List Key) → AreEnoughFor limits wanted Success m won → AreEnoughFor limits wanted Failure m lost → AreEnoughAt limits wanted m (won ++ lost)
  both_keys won lost from_success from_failure =
      keys_of_moments limits wanted m (won ++ lost) asking
      (keys_of_asking limits wanted asking.request (frames_of m.frames) (state_at m []) won lost (if_here Success won from_success) (if_here Failure lost from_failure))

  -- keys that are enough after an outcome, moved in front of what it writes, are enough for it
  pub outcome_keys : (outcome : Outcome) (step : Step) (n : Moment) (later : List Key) → ((w : OutcomeWord) → next_shown step n w ≡ place_answered outcome asking.request m.frames (state_at m w))
      → AreEnoughAfter limits wanted step n later → AreEnoughFor limits wanted outcome m (keys_in_front (outcome_accesses outcome asking.request) later)
  outcome_keys outcome step n later shown enough =
      if_there outcome (keys_in_front (outcome_accesses outcome asking.request) later)
      (keys_of_answers limits wanted outcome asking.request (frames_of m.frames) (state_at m []) later
      (subst (λ (next : Next). AreEnough limits wanted next later) (ap next_of (shown []) ∙ place_answered-is outcome asking.request m.frames (state_at m [])) enough))

pub keys_of_both_outcomes : KeysOfBothOutcomes
unfolding IsAsking
keys_of_both_outcomes limits wanted m won lost asking from_success from_failure = both_keys limits wanted m asking won lost from_success from_failure

-- ---- where a text stops

-- a step that has led to a device command which asks
pub follows_asking : (limits : Limits) (m n : Moment) (step : Step) (ask : AskCode) (before now : List Access) → step ≡ steps.Asks ask → ((w : OutcomeWord) → found_again limits n.frames (state_at n w) ≡ AskOn (request_shown ask) n.frames (state_at n w))
    → Follows limits m step n before now → FollowsToStop limits m stops.Asks n before now
unfolding asked_at
follows_asking limits m n step ask before now is again h =
    let f : Follows limits m (steps.Asks ask) n before now = subst (λ (x : Step). Follows limits m x n before now) is h in
    leads_to (to_come limits m) (after limits (steps.Asks ask) n) (comes_at_stop limits stops.Asks n)
    (λ wanted. AreEnoughFrom limits wanted m) (λ wanted. AreEnoughAfter limits wanted (steps.Asks ask) n) (λ wanted. AreEnoughAt limits wanted n) before now
    (λ w. ap (λ (x : PlaceNext). comes_to limits w (next_of x)) (again w))
    (λ wanted later k. subst (λ (x : PlaceNext). AreEnough limits wanted (next_of x) later) (again []) k) f

-- at an end, what is wanted is enough
pub at_end : (limits : Limits) (wanted : List Text) (halt : Halt) (n : Moment) (later : List Key) → AreAmong (keys_read (names_read wanted)) later → AreEnoughAfter limits wanted (steps.Ends halt) n later
at_end limits wanted halt n later all =
    more_keys_are_enough limits wanted (next_of (next_shown (steps.Ends halt) n [])) (keys_read (names_read wanted)) later (keys_of_ends limits wanted (halt_shown halt) (state_at n [])) all

pub follows_ended : (limits : Limits) (m n : Moment) (step : Step) (halt : Halt) (before now : List Access) → step ≡ steps.Ends halt → Follows limits m step n before now → FollowsToStop limits m (stops.Ends halt) n before now
follows_ended limits m n step halt before now is h =
    let f : Follows limits m (steps.Ends halt) n before now = subst (λ (x : Step). Follows limits m x n before now) is h in
    leads_to (to_come limits m) (after limits (steps.Ends halt) n) (comes_at_stop limits (stops.Ends halt) n)
    (λ wanted. AreEnoughFrom limits wanted m) (λ wanted. AreEnoughAfter limits wanted (steps.Ends halt) n) (λ wanted. AreEnoughAtStop limits wanted (stops.Ends halt) n) before now
    (λ w. refl) (λ wanted later k. at_end limits wanted halt n later k) f

-- ---- an outcome

pub follows_outcome : (limits : Limits) (outcome : Outcome) (m : Moment) (here : Asking limits m) (step : Step) (n : Moment) (before now : List Access)
    → ((w : OutcomeWord) → next_shown step n w ≡ place_answered outcome here.request m.frames (state_at m w))
    → Reports before now (outcome_accesses outcome here.request) → FollowsOutcome limits outcome m step n before now
follows_outcome limits outcome m here step n before now shown reported = record {
  accesses = outcome_accesses outcome here.request;
  comes = λ w.
      ap (comes_to limits w) (ap next_of (shown []) ∙ place_answered-is outcome here.request m.frames (state_at m []))
      ∙ answered_so limits w outcome here.request (frames_of m.frames) (state_at m []) ∙ sym (asked_so limits m here (outcome ∷ w));
  enough = λ wanted later h. outcome_keys limits wanted m here outcome step n later shown h;
  reported = reported;
}

pub reported_for : (limits : Limits) (outcome : Outcome) (m : Moment) (stop : Stop) (n : Moment) (before now : List Access) → before ≡ []
    → Leads (λ w. asked_at limits m (outcome ∷ w)) (comes_at_stop limits stop n) (λ wanted. AreEnoughFor limits wanted outcome m) (λ wanted. AreEnoughAtStop limits wanted stop n) before now → IsReportedFor limits outcome m stop n now
reported_for limits outcome m stop n before now none leads =
    let covers : Reports [] now leads.accesses = subst (λ (x : List Access). Reports x now leads.accesses) none leads.reported in
    record {
      comes = leads.comes;
      enough = λ wanted later h w. more_decide limits wanted (asks_at limits m) (outcome ∷ w) (keys_in_front leads.accesses later) (keys_in_front now later) (leads.enough wanted later h w) (covers later);
    }
