-- A summary of what is to come holds at another moment that fits by keys.
use Rattle.std.proofs.Common.{◌≡◌, ◌∙◌, refl, sym, ap, subst, ℕ, ◌+◌, ◌≤◌, ◌<◌, Bool, true, false, List, [], ◌∷◌, ◌++◌, map, length, Option, Some, inl, inr, arith}
use Rattle.bootstore_state.specs.Moment.{Moment}
use Rattle.rehearse_terms.specs.Outcomes.{OutcomeWord, WordKind, Run, Success, Failure}
use Rattle.rehearse_terms.specs.State.{Text, State, LoggedCommand, get}
use Rattle.rehearse_rules.specs.Expected.{unexpected_of}
use Rattle.rehearse_rules.specs.Execution.{Limits, Request, Ending, End, CutDevices, CutSteps, Unknown, Syntax, Unsupported, Panic, Size, Finished}
use Rattle.rehearse_machine.specs.Came.{Came, Over, Wants}
use Rattle.rehearse_machine.specs.Frames.{Frame, Next, Ask}
use Rattle.rehearse_machine.specs.Machine.{Asking, IsAsking, asked_at}
use Rattle.rehearse_machine.specs.Meaning.{comes_to}
use Rattle.rehearse_machine.specs.Places.{frames_of}
use Rattle.bootstore_state.specs.StoredState.{state_at}
use Rattle.std.proofs.lemmas.List.{append_cancel_left}
use Rattle.rehearse_reads.specs.Keys.{Key, Environment, Local, AnswerTo, Succeeded, Status, AgreeAt}
use Rattle.rehearse_reads.specs.Alike.{HaveFurther, IsCutBy}
use Rattle.rehearse_frames.specs.AlikeFutures as ahead
use Rattle.rehearse_frames.specs.AlikeFutures.{CameAlike, IsSameCame, CameCut, same, cut_here, beyond}
use Rattle.rehearse_frames.specs.KeysToCome.{from_state, AreEnough, AreEnoughAt}
use Rattle.rehearse_frames.proofs.EnoughKeys.{moments_go_alike, asked_so, asks_so, requests}
use Rattle.rehearse_states.specs.Endings.{RunEnd, Row, HasRows, ends, asks, one_run}
use Rattle.rehearse_states.specs.Flow.{Answered, asked_in, Seen}
use Rattle.rehearse_states.specs.Summaries.{Summary}
use Rattle.rehearse_reuse.specs.DrawnRuns.{further, seen_at}
use Rattle.rehearse_reuse.specs.Futures.{came_kind, came_ending, came_end, came_to_end, came_log, came_steps, came_devices}
use Rattle.rehearse_reuse.specs.SummedRuns.{SumsAt, came_count, FitsIf, moved_on}
use Rattle.rehearse_reuse.proofs.LogLemmas.{asked-on, further_behind}
use Rattle.rehearse_reuse.specs.Reuse.{FitsByKeys, SummariesAreReused, NodesAreReused, KeysAreReused, NoReturnsAreReused}

-- ---- rows say something of runs alone

abbrev Kinds : Type 0
Kinds = OutcomeWord → WordKind

abbrev RunEnds : Type 0
RunEnds = OutcomeWord → RunEnd

abbrev Counts : Type 0
Counts = OutcomeWord → ℕ

rows_of_runs : (kind : Kinds) (one other : RunEnds) (count another : Counts) (rows : List Row) → ((w : OutcomeWord) → kind w ≡ Run → one w ≡ other w) → ((w : OutcomeWord) → count w ≡ another w) → HasRows kind one count rows → HasRows kind other another rows
rows_of_runs kind one other count another rows e c (ends run long none) = subst (λ (end : RunEnd). HasRows kind other another (one_run (end, ([], 0)) ∷ [])) (sym (e [] run)) (ends run long (sym (c []) ∙ none))
rows_of_runs kind one other count another rows e c (asks normal short s f won lost) =
    asks normal short (λ w. sym (c (Success ∷ w)) ∙ s w) (λ w. sym (c (Failure ∷ w)) ∙ f w)
    (rows_of_runs _ _ (λ w. other (Success ∷ w)) _ _ _ (λ w run. e (Success ∷ w) run) (λ w. refl) won) (rows_of_runs _ _ (λ w. other (Failure ∷ w)) _ _ _ (λ w run. e (Failure ∷ w) run) (λ w. refl) lost)

-- ---- what two things with the same result have in common

abbrev EndAndValues : Type 0
EndAndValues = Ending × List (Option Text)

same_pair : (p q : EndAndValues) → Some p ≡ Some q → p ≡ q
same_pair p q e = cc

-- how a run ends, with its values
end_of_run : (names : List Text) (c d : Came) → ahead.came_end names d ≡ ahead.came_end names c → came_kind c ≡ Run → came_end names c ≡ came_end names d
end_of_run names (Over a s) (Over b t) e run =
    let p : EndAndValues = (a, map (get s.memory.environment) names) in
    let q : EndAndValues = (b, map (get t.memory.environment) names) in
    ap (λ (x : EndAndValues). let end : RunEnd = record { ending = x.0; values = x.1 } in end) (sym (same_pair q p e))
end_of_run names (Over a s) (Wants t) e run = absurd (cc)
end_of_run names (Wants s) d e run = absurd (cc)

ended_alike : (names : List Text) (c d : Came) → ahead.came_end names d ≡ ahead.came_end names c → came_to_end d ≡ came_to_end c
ended_alike names (Over a s) (Over b t) e =
    let p : EndAndValues = (a, map (get s.memory.environment) names) in
    let q : EndAndValues = (b, map (get t.memory.environment) names) in
    ap (λ (x : EndAndValues). Some x.0) (same_pair q p e)
ended_alike names (Over a s) (Wants t) e = absurd (cc)
ended_alike names (Wants s) (Over b t) e = absurd (cc)
ended_alike names (Wants s) (Wants t) e = refl

-- a run that is cut there is cut here
cut_back : (names : List Text) (c d : Came) (cut : Ending) → ahead.came_end names d ≡ ahead.came_end names c → ((status : ℕ) → End status ≡ cut → ⊥) → came_ending d ≡ cut → came_ending c ≡ cut
cut_back names (Over a s) (Over b t) cut e other h =
    let p : EndAndValues = (a, map (get s.memory.environment) names) in
    let q : EndAndValues = (b, map (get t.memory.environment) names) in
    ap (λ (x : EndAndValues). x.0) (sym (same_pair q p e)) ∙ h
cut_back names (Over a s) (Wants t) cut e other h = absurd (cc)
cut_back names (Wants s) (Over b t) cut e other h = absurd (cc)
cut_back names (Wants s) (Wants t) cut e other h = absurd (other t.memory.status h)

further_alike : (k l here there : List LoggedCommand) → HaveFurther k l here there → further (length (asked_in l)) (asked_in there) ≡ further (length (asked_in k)) (asked_in here)
further_alike k l here there h =
    ap (λ (log : List LoggedCommand). further (length (asked_in l)) (asked_in log)) h.goes_on_there
    ∙ ap (further (length (asked_in l))) (asked-on l h.further)
    ∙ further_behind (asked_in l) (asked_in h.further)
    ∙ sym (ap (λ (log : List LoggedCommand). further (length (asked_in k)) (asked_in log)) h.goes_on_here
    ∙ ap (further (length (asked_in k))) (asked-on k h.further)
    ∙ further_behind (asked_in k) (asked_in h.further))

-- ---- no bound prevents it, since the moment fits

module _ (limits : Limits) (names : List Text) (m n : Moment) (keys : List Key) (s : Summary) (sums : SumsAt names limits m s) (fits : FitsByKeys limits keys s m n) where
  never_cut_steps : (cut : Bool) (here there reach bound : ℕ) (c : Came) → FitsIf cut here there reach bound → (cut ≡ false → came_ending c ≡ CutSteps → ⊥) → came_ending c ≡ CutSteps → there < here → ⊥
  never_cut_steps true here there reach bound c f u e l = absurd (omega (arith, f))
  never_cut_steps false here there reach bound c f u e l = u refl e

  never_cut_devices : (cut : Bool) (here there reach bound : ℕ) (c : Came) → FitsIf cut here there reach bound → (cut ≡ false → came_ending c ≡ CutDevices → ⊥) → came_ending c ≡ CutDevices → there < here → ⊥
  never_cut_devices true here there reach bound c f u e l = absurd (omega (arith, f))
  never_cut_devices false here there reach bound c f u e l = u refl e

  never_by : (w : OutcomeWord) (ending : Ending) → came_ending (asked_at limits m w) ≡ ending → IsCutBy limits m.steps n.steps m.log n.log ending → ⊥
  never_by w (End status) e h = h
  never_by w CutDevices e h = never_cut_devices s.cut_devices (length m.log) (length n.log) s.devices limits.device_bound (asked_at limits m w) fits.devices (λ u. sums.uncut_devices u w) e h
  never_by w CutSteps e h = never_cut_steps s.cut_steps m.steps n.steps s.steps limits.step_bound (asked_at limits m w) fits.steps (λ u. sums.uncut_steps u w) e h
  never_by w (Unknown name) e h = h
  never_by w (Syntax name) e h = h
  never_by w (Unsupported name) e h = h
  never_by w (Panic name) e h = h
  never_by w Size e h = h
  never_by w (Finished finish name) e h = h

  never_cut : (w : OutcomeWord) (c : Came) → asked_at limits m w ≡ c → CameCut limits m.steps n.steps m.log n.log names c → ⊥
  never_cut w (Over ending x) e h = never_by w ending (ap came_ending e) h
  never_cut w (Wants x) e h = h

  never_beyond : (cut : Bool) (here there reach bound came : ℕ) → FitsIf cut here there reach bound → came ≤ reach → here < there → here + bound < there + came → ⊥
  never_beyond true here there reach bound came f l a b = absurd (omega (arith, f))
  never_beyond false here there reach bound came f l a b = absurd (omega (arith, f))

  same_there : (w : OutcomeWord) → CameAlike limits m.steps n.steps m.log n.log names (asked_at limits m w) (asked_at limits n w) → IsSameCame limits m.steps n.steps m.log n.log names (asked_at limits m w) (asked_at limits n w)
  same_there w (same h) = h
  same_there w (cut_here h) = absurd (never_cut w (asked_at limits m w) refl h)
  same_there w (beyond (inl h)) = absurd (never_beyond s.cut_steps m.steps n.steps s.steps limits.step_bound (came_steps (asked_at limits m w)) fits.steps (sums.steps w) h.0 h.1)
  same_there w (beyond (inr h)) = absurd (never_beyond s.cut_devices (length m.log) (length n.log) s.devices limits.device_bound (came_devices (asked_at limits m w)) fits.devices (sums.reached w) h.0 h.1)

  module _ (alike : (w : OutcomeWord) → IsSameCame limits m.steps n.steps m.log n.log names (asked_at limits m w) (asked_at limits n w)) where
    count_here : Counts
    count_here w = came_count limits.devices (length (asked_in m.log)) (asked_at limits m w)

    count_there : Counts
    count_there w = came_count limits.devices (length (asked_in n.log)) (asked_at limits n w)

    counts_alike : (w : OutcomeWord) → count_here w ≡ count_there w
    unfolding count_here count_there
    counts_alike w = sym (ap (λ (l : List Answered). length (unexpected_of limits.devices l)) (further_alike m.log n.log (came_log (asked_at limits m w)) (came_log (asked_at limits n w)) (alike w).logs))

    rows_there : HasRows (λ w. came_kind (asked_at limits n w)) (λ w. came_end names (asked_at limits n w)) (λ w. came_count limits.devices (length (asked_in n.log)) (asked_at limits n w)) s.rows
    unfolding count_here count_there
    rows_there =
        subst (λ (kind : Kinds). HasRows kind (λ w. came_end names (asked_at limits n w)) count_there s.rows) (λ i. λ w. sym (alike w).kind i)
        (rows_of_runs (λ w. came_kind (asked_at limits m w)) (λ w. came_end names (asked_at limits m w)) (λ w. came_end names (asked_at limits n w)) count_here count_there s.rows
        (λ w run. end_of_run names (asked_at limits m w) (asked_at limits n w) (alike w).end run) counts_alike sums.has_rows)

    sums_there : SumsAt names limits n (moved_on m n s)
    sums_there = record {
      has_rows = rows_there;
      steps = λ w. let a = (alike w).steps in let b = sums.steps w in omega arith;
      reached = λ w. let a = (alike w).devices in let b = sums.reached w in omega arith;
      uncut_steps = λ u w e. sums.uncut_steps u w (cut_back names (asked_at limits m w) (asked_at limits n w) CutSteps (alike w).end (λ status f. cc) e);
      uncut_devices = λ u w e. sums.uncut_devices u w (cut_back names (asked_at limits m w) (asked_at limits n w) CutDevices (alike w).end (λ status f. cc) e);
    }

    seen_there : (w : OutcomeWord) → seen_at limits n w ≡ seen_at limits m w
    seen_there w =
        let c : Came = asked_at limits m w in
        let d : Came = asked_at limits n w in
        let log : List Answered = further (length (asked_in n.log)) (asked_in (came_log d)) in
        ap (λ (kind : WordKind). let seen : Seen = record { kind = kind; ending = came_to_end d; log = log } in seen) (alike w).kind
        ∙ ap (λ (end : Option Ending). let seen : Seen = record { kind = came_kind c; ending = end; log = log } in seen) (ended_alike names c d (alike w).end)
        ∙ ap (λ (l : List Answered). let seen : Seen = record { kind = came_kind c; ending = came_to_end c; log = l } in seen) (further_alike m.log n.log (came_log c) (came_log d) (alike w).logs)

  -- ---- keys that are enough are enough there

  module _ (w : OutcomeWord) (t : State) (e d : Came) (near : IsSameCame limits m.steps n.steps m.log n.log names (asked_at limits m w) e) where
    abbrev here : Came
    here = asked_at limits m w

    logs_between : HaveFurther m.log t.log (came_log here) (came_log d) → HaveFurther n.log t.log (came_log e) (came_log d)
    logs_between h =
        let same_rest : near.logs.further ≡ h.further = append_cancel_left m.log near.logs.further h.further (sym near.logs.goes_on_here ∙ h.goes_on_here) in
        record {
          further = h.further;
          goes_on_here = near.logs.goes_on_there ∙ ap (λ (rest : List LoggedCommand). n.log ++ rest) same_rest;
          goes_on_there = h.goes_on_there;
        }

    same_between : IsSameCame limits m.steps t.steps m.log t.log names here d → IsSameCame limits n.steps t.steps n.log t.log names e d
    same_between h =
        let a = near.steps in
        let b = h.steps in
        let f = near.devices in
        let g = h.devices in
        record {
          kind = h.kind ∙ sym near.kind;
          end = h.end ∙ sym near.end;
          steps = omega arith;
          devices = omega arith;
          logs = logs_between h.logs;
        }

    before_steps : (cut : Bool) (before between after reach bound : ℕ) → FitsIf cut before between reach bound → (cut ≡ false → came_ending here ≡ CutSteps → ⊥) → came_ending here ≡ CutSteps → after < before → after < between
    before_steps true before between after reach bound f u c l = omega (arith, f)
    before_steps false before between after reach bound f u c l = absurd (u refl c)

    before_devices : (cut : Bool) (before between after reach bound : ℕ) → FitsIf cut before between reach bound → (cut ≡ false → came_ending here ≡ CutDevices → ⊥) → came_ending here ≡ CutDevices → after < before → after < between
    before_devices true before between after reach bound f u c l = omega (arith, f)
    before_devices false before between after reach bound f u c l = absurd (u refl c)

    cut_by_between : (ending : Ending) → came_ending here ≡ ending → IsCutBy limits m.steps t.steps m.log t.log ending → IsCutBy limits n.steps t.steps n.log t.log ending
    cut_by_between (End status) c h = h
    cut_by_between CutDevices c h = before_devices s.cut_devices (length m.log) (length n.log) (length t.log) s.devices limits.device_bound fits.devices (λ u. sums.uncut_devices u w) c h
    cut_by_between CutSteps c h = before_steps s.cut_steps m.steps n.steps t.steps s.steps limits.step_bound fits.steps (λ u. sums.uncut_steps u w) c h
    cut_by_between (Unknown name) c h = h
    cut_by_between (Syntax name) c h = h
    cut_by_between (Unsupported name) c h = h
    cut_by_between (Panic name) c h = h
    cut_by_between Size c h = h
    cut_by_between (Finished finish name) c h = h

    cut_between : (c other : Came) → here ≡ c → e ≡ other → ahead.came_end names other ≡ ahead.came_end names c → CameCut limits m.steps t.steps m.log t.log names c → CameCut limits n.steps t.steps n.log t.log names other
    cut_between (Over ending x) (Over another y) is at end h =
        let p : EndAndValues = (ending, map (get x.memory.environment) names) in
        let q : EndAndValues = (another, map (get y.memory.environment) names) in
        let same_ending : ending ≡ another = ap (λ (z : EndAndValues). z.0) (sym (same_pair q p end)) in
        subst (IsCutBy limits n.steps t.steps n.log t.log) same_ending (cut_by_between ending (ap came_ending is) h)
    cut_between (Over ending x) (Wants y) is at end h = absurd (cc)
    cut_between (Wants x) other is at end h = absurd h

    room_between : (cut : Bool) (before between after reach bound came : ℕ) → FitsIf cut before between reach bound → came ≤ reach → before < after → before + bound < after + came → between < after
    room_between true before between after reach bound came f l a b = omega (arith, f)
    room_between false before between after reach bound came f l a b = omega (arith, f)

    alike_between : CameAlike limits m.steps t.steps m.log t.log names here d → CameAlike limits n.steps t.steps n.log t.log names e d
    alike_between (same h) = same (same_between h)
    alike_between (cut_here h) = cut_here (cut_between here e refl refl near.end h)
    alike_between (beyond (inl h)) =
        let a = near.steps in
        let f : n.steps < t.steps = room_between s.cut_steps m.steps n.steps t.steps s.steps limits.step_bound (came_steps here) fits.steps (sums.steps w) h.0 h.1 in
        let g = h.1 in
        beyond (inl (f, omega arith))
    alike_between (beyond (inr h)) =
        let a = near.devices in
        let f : length n.log < length t.log = room_between s.cut_devices (length m.log) (length n.log) (length t.log) s.devices limits.device_bound (came_devices here) fits.devices (sums.reached w) h.0 h.1 in
        let g = h.1 in
        beyond (inr (f, omega arith))

pub summaries_are_reused : SummariesAreReused
summaries_are_reused limits names m n keys s am an enough sums fits =
    sums_there limits names m n keys s sums fits
    (λ w. same_there limits names m n keys s sums fits w (moments_go_alike limits names m n keys am an fits.place enough fits.agree w))

pub nodes_are_reused : NodesAreReused
nodes_are_reused limits names m n keys s am an enough sums fits w =
    seen_there limits names m n keys s sums fits
    (λ v. same_there limits names m n keys s sums fits v (moments_go_alike limits names m n keys am an fits.place enough fits.agree v)) w

-- what agrees with the second of two that agree agrees with the first
agree_then : (key : Key) (s t u : State) → AgreeAt key s t → AgreeAt key t u → AgreeAt key s u
agree_then (Environment name) s t u a b = b ∙ a
agree_then (Local name) s t u a b = b ∙ a
agree_then (AnswerTo call) s t u a b = b ∙ a
agree_then (Succeeded start) s t u a b = b ∙ a
agree_then Status s t u a b = b ∙ a

module _ (limits : Limits) (names : List Text) (m n : Moment) (keys : List Key) (s : Summary) (am : Asking limits m) (an : Asking limits n) (enough : AreEnoughAt limits names m keys) (sums : SumsAt names limits m s) (fits : FitsByKeys limits keys s m n) where
  abbrev asks_there : Next
  asks_there = Ask an.request (frames_of n.frames) (state_at n [])

  abbrev asks_here : Next
  asks_here = Ask am.request (frames_of m.frames) (state_at m [])

  -- from any other state, the command that asks there asks as the one here does
  from_there : (t : State) → from_state t asks_here ≡ from_state t asks_there
  from_there t =
      ap (λ (request : Request). Ask request (frames_of m.frames) t) (sym (requests limits names m n am an fits.place))
      ∙ ap (λ (fs : List Frame). Ask an.request fs t) (sym fits.place.frames)

  enough_here : AreEnough limits names asks_here keys
  enough_here = subst (λ (next : Next). AreEnough limits names next keys) (asks_so limits m am) enough

  enough_there : AreEnough limits names asks_there keys
  unfolding IsAsking
  enough_there w t agree =
      let near = same_there limits names m n keys s sums fits w (moments_go_alike limits names m n keys am an fits.place enough fits.agree w) in
      let alike : CameAlike limits m.steps t.steps m.log t.log names (asked_at limits m w) (comes_to limits w (from_state t asks_there)) =
      subst (λ (c : Came). CameAlike limits m.steps t.steps m.log t.log names c (comes_to limits w (from_state t asks_there))) (sym (asked_so limits m am w))
      (subst (λ (next : Next). CameAlike limits m.steps t.steps m.log t.log names (comes_to limits w asks_here) (comes_to limits w next)) (from_there t)
      (enough_here w t (λ key h. agree_then key (state_at m []) (state_at n []) t (fits.agree key h) (agree key h)))) in
      subst (λ (c : Came). CameAlike limits n.steps t.steps n.log t.log names c (comes_to limits w (from_state t asks_there))) (asked_so limits n an w)
      (alike_between limits names m n keys s sums fits w t (asked_at limits n w) (comes_to limits w (from_state t asks_there)) near alike)

pub keys_are_reused : KeysAreReused
unfolding IsAsking
keys_are_reused limits names m n keys s am an enough sums fits =
    subst (λ (next : Next). AreEnough limits names next keys) (sym (asks_so limits n an)) (enough_there limits names m n keys s am an enough sums fits)

-- ---- nothing comes back there

ended_so : (c : Came) (status : ℕ) → came_to_end c ≡ Some (End status) → (x : State) × (c ≡ Over (End status) x)
ended_so (Over ending x) status e = let same : ending ≡ End status = (let f = e in cc) in (x, ap (λ (z : Ending). Over z x) same)
ended_so (Wants x) status e = absurd (let f = e in cc)

pub no_returns_are_reused : NoReturnsAreReused
no_returns_are_reused limits names m n keys s am an enough sums fits never w status x over =
    let near = same_there limits names m n keys s sums fits w (moments_go_alike limits names m n keys am an fits.place enough fits.agree w) in
    let back = ended_so (asked_at limits m w) status (sym (ended_alike names (asked_at limits m w) (asked_at limits n w) near.end) ∙ ap came_to_end over) in
    never w status back.0 back.1
