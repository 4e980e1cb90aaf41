-- A run without its lowest frames, if nothing comes back to these.
use Rattle.std.proofs.Common.{◌≡◌, ◌∙◌, refl, sym, ap, subst, ℕ, zero, suc, ◌+◌, ◌-◌, ◌<◌, ◌≤◌, arith, List, [], ◌∷◌, ◌++◌, length, map, take, drop, append_assoc, Option, Some, None, inl, inr}
use Rattle.std.proofs.lemmas.List.{length-append, length-drop, take-append-drop, take_at, take_all}
use Rattle.device_list.specs.declared.finish.BoardEnd.{BoardEnd}
use Rattle.device_list.specs.Called.{sets_in}
use Rattle.bootstore_state.specs.Moment.{Moment, RunningFrame}
use Rattle.bootstore_state.specs.StoredState.{state_at}
use Rattle.rehearse_terms.specs.Outcomes.{Outcome, Success, Failure, OutcomeWord}
use Rattle.rehearse_terms.specs.State.{Text, State, LoggedCommand, get}
use Rattle.rehearse_rules.specs.Execution.{Limits, Ending, Answer, Normal, Exit, Ended, Dry, End, Request, logged, set_environment, take_outcome}
use Rattle.rehearse_machine.specs.AskingCommand.{found_again}
use Rattle.rehearse_machine.specs.Came.{Came, Over, Wants}
use Rattle.rehearse_machine.specs.Frames.{Frame, Next, Ask, with_file}
use Rattle.rehearse_machine.specs.Machine.{Asking, IsAsking, asked_at}
use Rattle.rehearse_machine.specs.Meaning.{with, resume, continue, AreProperFrames}
use Rattle.rehearse_machine.specs.MovesShown.{next_shown}
use Rattle.rehearse_machine.specs.Places.{PlaceNext, GoOn, AskOn, StopOn, frames_by, frames_of, file_frame, above_file, place_finish, place_taken, place_answered, place_move}
use Rattle.rehearse_machine.specs.declared.ask.Step.{Step}
use Rattle.rehearse_machine.specs.declared.ask.Step.TheVariants as steps
use Rattle.rehearse_machine.proofs.MoveMeaning.{continue-ended, continue-dry}
use Rattle.rehearse_reads.specs.Keys.{Key}
use Rattle.rehearse_frames.specs.AlikeFutures.{CameAlike, came_end, same, cut_here, beyond}
use Rattle.rehearse_frames.specs.KeysToCome.{AreEnough, AreEnoughAt}
use Rattle.rehearse_frames.specs.Above.{above, without_lowest, NeverReturns, StaysAbove}
use Rattle.rehearse_frames.specs.Laws.{MovesStayAbove, OutcomesStayAbove, AsksAbove, LowestMakeNoDifference, NeitherReturns, KeysHoldBelow}
use Rattle.rehearse_frames.proofs.EnoughKeys.{asked_so, asks_so}
use Rattle.rehearse_frames.proofs.MovesOver.{under, ComesBack, IsOver, move_over, found_over}

-- ---- frames above others

abbrev pub lowest : (below : ℕ) → List RunningFrame → List RunningFrame
lowest below fs = drop (length fs - below) fs

pub with_lowest : (below : ℕ) (fs : List RunningFrame) → above below fs ++ lowest below fs ≡ fs
with_lowest below fs = take-append-drop (length fs - below) fs

lowest_long : (below : ℕ) (fs : List RunningFrame) → below ≤ length fs → length (lowest below fs) ≡ below
lowest_long below fs within = let e = length-drop (length fs - below) fs in omega arith

pub above_long : (below : ℕ) (fs : List RunningFrame) → below ≤ length fs → length (above below fs) + below ≡ length fs
above_long below fs within =
    let both : length (above below fs) + length (lowest below fs) ≡ length fs = sym (length-append (above below fs) (lowest below fs)) ∙ ap (λ (xs : List RunningFrame). length xs) (with_lowest below fs) in
    let rest = lowest_long below fs within in
    omega arith

pub above_under : (below : ℕ) (ps qs : List RunningFrame) → length qs ≡ below → above below (ps ++ qs) ≡ ps
above_under below ps qs e = let both = length-append ps qs in take_at ps qs (length (ps ++ qs) - below) (omega arith)

pub above_none : (fs : List RunningFrame) → above 0 fs ≡ fs
above_none fs = take_all (length fs - 0) fs (omega arith)

pub all_frames : (m : Moment) → without_lowest 0 m ≡ m
all_frames m = ap (λ (fs : List RunningFrame). let n : Moment = record m { frames = fs } in n) (above_none m.frames)

-- ---- the same without the lowest frames

abbrev lifted : (below : ℕ) → PlaceNext → PlaceNext
lifted below (GoOn ps s) = GoOn (above below ps) s
lifted below (AskOn request ps s) = AskOn request (above below ps) s
lifted below (StopOn ending s) = StopOn ending s

shown_above : (below : ℕ) (step : Step) (m : Moment) (w : OutcomeWord) → next_shown step (without_lowest below m) w ≡ lifted below (next_shown step m w)
shown_above below steps.Going m w = refl
shown_above below (steps.Asks ask) m w = refl
shown_above below (steps.Ends halt) m w = refl

lifted_under : (below : ℕ) (qs : List RunningFrame) (x : PlaceNext) → length qs ≡ below → lifted below (under qs x) ≡ x
lifted_under below qs (GoOn ps s) e = ap (λ (fs : List RunningFrame). GoOn fs s) (above_under below ps qs e)
lifted_under below qs (AskOn request ps s) e = ap (λ (fs : List RunningFrame). AskOn request fs s) (above_under below ps qs e)
lifted_under below qs (StopOn ending s) e = refl

lifted_finish : (below : ℕ) (o : Option BoardEnd) (name : Text) (ps : List RunningFrame) (s : State) → lifted below (place_finish o name ps s) ≡ place_finish o name (above below ps) s
lifted_finish below (Some finish) name ps s = refl
lifted_finish below None name ps s = refl

lifted_taken : (below : ℕ) (outcome : Outcome) (r : Request) (ps : List RunningFrame) (s : State) → lifted below (place_taken outcome r ps s) ≡ place_taken outcome r (above below ps) s
lifted_taken below Success r ps s = lifted_finish below r.effect.ends r.name ps (set_environment (sets_in r.words r.effect.sets) (logged Success r s))
lifted_taken below Failure r ps s = refl

one_more : (below : ℕ) (f : RunningFrame) (ps : List RunningFrame) → below ≤ length ps → above below (f ∷ ps) ≡ f ∷ above below ps
one_more below f ps within =
    let more : length (f ∷ ps) - below ≡ suc (length ps - below) = omega arith in ap (λ (count : ℕ). take count (f ∷ ps)) more

lifted_file : (below before : ℕ) (runs : List Text) (ps : List RunningFrame) → below ≤ length ps → above below (above_file before runs ps) ≡ above_file before runs (above below ps)
lifted_file below before [] ps within = refl
lifted_file below before (name ∷ others) ps within = one_more below (file_frame before (name ∷ others)) ps within

lifted_answered : (below : ℕ) (outcome : Outcome) (r : Request) (ps : List RunningFrame) (s : State) → below ≤ length ps
    → lifted below (place_answered outcome r ps s) ≡ place_answered outcome r (above below ps) s
lifted_answered below outcome r ps s within =
    lifted_taken below outcome r (above_file s.memory.status r.effect.runs ps) s ∙ ap (λ (fs : List RunningFrame). place_taken outcome r fs s) (lifted_file below s.memory.status r.effect.runs ps within)

-- ---- moves

any_move_over : (limits : Limits) (ps qs : List RunningFrame) (s : State) → 0 < length ps → IsOver qs (place_move limits ps s) (place_move limits (ps ++ qs) s)
any_move_over limits [] qs s some = absurd (omega arith)
any_move_over limits (f ∷ fs) qs s some = move_over limits qs f fs s

any_found_over : (limits : Limits) (ps qs : List RunningFrame) (s : State) → 0 < length ps → IsOver qs (found_again limits ps s) (found_again limits (ps ++ qs) s)
any_found_over limits [] qs s some = absurd (omega arith)
any_found_over limits (f ∷ fs) qs s some = found_over limits qs f fs s

never_back : (qs : List RunningFrame) (below : ℕ) (step : Step) (m : Moment) (w : OutcomeWord) → length qs ≡ below → StaysAbove below step m → ComesBack qs (next_shown step m w) → ⊥
never_back qs below steps.Going m w e stays back = absurd (omega (arith, stays, back))
never_back qs below (steps.Asks ask) m w e stays back = back
never_back qs below (steps.Ends halt) m w e stays back = stays back.0 back.1

pub moves_stay_above : MovesStayAbove
moves_stay_above limits below step old new within stays shown w = by (any_move_over limits ps qs s (let l = above_long below old.frames (omega arith) in omega arith))
  where
    s : State
    s = state_at old w

    ps : List RunningFrame
    ps = above below old.frames

    qs : List RunningFrame
    qs = lowest below old.frames

    long : length qs ≡ below
    long = lowest_long below old.frames (omega arith)

    whole : place_move limits (ps ++ qs) s ≡ next_shown step new w
    whole = ap (λ (fs : List RunningFrame). place_move limits fs s) (with_lowest below old.frames) ∙ sym (shown w)

    by : IsOver qs (place_move limits ps s) (place_move limits (ps ++ qs) s) → next_shown step (without_lowest below new) w ≡ place_move limits ps s
    by (inl e) = shown_above below step new w ∙ ap (lifted below) (sym whole ∙ e) ∙ lifted_under below qs (place_move limits ps s) long
    by (inr back) = absurd (never_back qs below step new w long stays (subst (ComesBack qs) whole back))

pub outcomes_stay_above : OutcomesStayAbove
outcomes_stay_above below outcome request step old new within shown w =
    shown_above below step new w ∙ ap (lifted below) (shown w) ∙ lifted_answered below outcome request old.frames (state_at old w) within

-- ---- a device command that asks

pub found_above : (limits : Limits) (below : ℕ) (m : Moment) (request : Request) (w : OutcomeWord) → below < length m.frames → found_again limits m.frames (state_at m w) ≡ AskOn request m.frames (state_at m w)
    → found_again limits (above below m.frames) (state_at m w) ≡ AskOn request (above below m.frames) (state_at m w)
found_above limits below m request w within again = by (any_found_over limits ps qs s (let l = above_long below m.frames (omega arith) in omega arith))
  where
    s : State
    s = state_at m w

    ps : List RunningFrame
    ps = above below m.frames

    qs : List RunningFrame
    qs = lowest below m.frames

    whole : found_again limits (ps ++ qs) s ≡ AskOn request m.frames s
    whole = ap (λ (fs : List RunningFrame). found_again limits fs s) (with_lowest below m.frames) ∙ again

    by : IsOver qs (found_again limits ps s) (found_again limits (ps ++ qs) s) → found_again limits ps s ≡ AskOn request ps s
    by (inl e) = sym (lifted_under below qs (found_again limits ps s) (lowest_long below m.frames (omega arith))) ∙ ap (lifted below) (sym e ∙ whole)
    by (inr back) = absurd (subst (ComesBack qs) whole back)

-- the same where a command asks and there are so many frames
pub again_above : (limits : Limits) (below fewest : ℕ) (m : Moment) (request : Request) → below ≤ fewest - 1 → fewest ≤ length m.frames → ((w : OutcomeWord) → found_again limits m.frames (state_at m w) ≡ AskOn request m.frames (state_at m w))
    → (w : OutcomeWord) → found_again limits (above below m.frames) (state_at m w) ≡ AskOn request (above below m.frames) (state_at m w)
again_above limits zero fewest m request within there again w = subst (λ (fs : List RunningFrame). found_again limits fs (state_at m w) ≡ AskOn request fs (state_at m w)) (sym (above_none m.frames)) (again w)
again_above limits (suc below) fewest m request within there again w = found_above limits (suc below) m request w (omega arith) (again w)

found_in_frames : (limits : Limits) (fs gs : List RunningFrame) (request : Request) (s t : State) → found_again limits fs s ≡ AskOn request gs t → 0 < length fs
found_in_frames limits [] gs request s t e = absurd (let f = e in cc)
found_in_frames limits (f ∷ fs) gs request s t e = omega arith

pub asks_in_frames : (limits : Limits) (m : Moment) → Asking limits m → 0 < length m.frames
asks_in_frames limits m asking = found_in_frames limits m.frames m.frames asking.request (state_at m []) (state_at m []) (asking.again [])

frames_join : (ps qs : List RunningFrame) → frames_of (ps ++ qs) ≡ frames_of ps ++ frames_of qs
frames_join [] qs = refl
frames_join (f ∷ fs) qs = ap (λ (x : List Frame). frames_by f.kind f ++ x) (frames_join fs qs) ∙ sym (append_assoc (frames_by f.kind f) (frames_of fs) (frames_of qs))

proper_front : (xs ys : List Frame) → AreProperFrames (xs ++ ys) → AreProperFrames xs
proper_front [] ys p = tt
proper_front (x ∷ xs) ys p = (p.0, proper_front xs ys p.1)

pub proper_above : (below : ℕ) (fs : List RunningFrame) → AreProperFrames (frames_of fs) → AreProperFrames (frames_of (above below fs))
proper_above below fs p =
    proper_front (frames_of (above below fs)) (frames_of (lowest below fs))
    (subst AreProperFrames (frames_join (above below fs) (lowest below fs)) (subst (λ (xs : List RunningFrame). AreProperFrames (frames_of xs)) (sym (with_lowest below fs)) p))

abbrev pub asking_above : (limits : Limits) (below : ℕ) (m : Moment) → Asking limits m → below < length m.frames → Asking limits (without_lowest below m)
asking_above limits below m asking within = record {
  request = asking.request;
  again = λ w. found_above limits below m asking.request w within (asking.again w);
  sound = proper_above below m.frames asking.sound;
  within = asking.within;
}

pub asks_above : AsksAbove
unfolding IsAsking
asks_above limits below m asking within = asking_above limits below m asking within

file_joins : (before : ℕ) (runs : List Text) (xs ys : List Frame) → with_file before runs (xs ++ ys) ≡ with_file before runs xs ++ ys
file_joins before [] xs ys = refl
file_joins before (name ∷ others) xs ys = refl

-- ---- what is to come

module _ (limits : Limits) where
  continue_over : (top bottom : List Frame) (a : Answer) → ((status : ℕ) (s : State) → continue limits top a ≡ Over (End status) s → ⊥) → continue limits (top ++ bottom) a ≡ continue limits top a
  continue_over [] bottom (Normal s) never = absurd (never s.memory.status s refl)
  continue_over [] bottom (Exit s) never = absurd (never s.memory.status s refl)
  continue_over [] bottom (Ended ending s) never = continue-ended limits bottom ending s
  continue_over [] bottom (Dry s) never = continue-dry limits bottom s
  continue_over (f ∷ top) bottom a never = continue_over top bottom (resume limits f a) never

  -- what goes on as something that does not reach the end of its text
  end_of : (wanted : List Text) (c : Came) (end : Ending × List (Option Text)) → came_end wanted c ≡ Some end → (x : State) × (c ≡ Over end.0 x)
  end_of wanted (Over ending x) end e =
      let same_end : (ending, map (get x.memory.environment) wanted) ≡ end = (let f = e in cc) in (x, ap (λ (p : Ending × List (Option Text)). Over p.0 x) same_end)
  end_of wanted (Wants x) end e = absurd (let f = e in cc)

  alike_over : (i j : ℕ) (k l : List LoggedCommand) (wanted : List Text) (c : Came) (top bottom : List Frame) (a : Answer) → ((status : ℕ) (x : State) → c ≡ Over (End status) x → ⊥)
      → CameAlike limits i j k l wanted c (continue limits top a) → CameAlike limits i j k l wanted c (continue limits (top ++ bottom) a)
  alike_over i j k l wanted c top bottom a never (same h) =
      let never_there : (status : ℕ) (x : State) → continue limits top a ≡ Over (End status) x → ⊥ =
      λ status x e. let back = end_of wanted c (End status, map (get x.memory.environment) wanted) (sym h.end ∙ ap (came_end wanted) e) in never status back.0 back.1 in
      subst (λ (d : Came). CameAlike limits i j k l wanted c d) (sym (continue_over top bottom a never_there)) (same h)
  alike_over i j k l wanted c top bottom a never (cut_here h) = cut_here h
  alike_over i j k l wanted c top bottom a never (beyond h) = beyond h

  module _ (below : ℕ) (m : Moment) (asking : Asking limits m) (within : below < length m.frames) (never : NeverReturns (asked_at limits (without_lowest below m))) where
    abbrev top : List Frame
    top = frames_of (above below m.frames)

    abbrev bottom : List Frame
    bottom = frames_of (lowest below m.frames)

    all : top ++ bottom ≡ frames_of m.frames
    all = sym (frames_join (above below m.frames) (lowest below m.frames)) ∙ ap frames_of (with_lowest below m.frames)

    -- with the file that the command hands over to, from a state with this status
    abbrev front_at : (before : ℕ) → List Frame
    front_at before = with_file before asking.request.effect.runs top

    abbrev front : List Frame
    front = front_at m.status

    whole : (before : ℕ) → with_file before asking.request.effect.runs (top ++ bottom) ≡ front_at before ++ bottom
    whole before = file_joins before asking.request.effect.runs top bottom

    abbrev asking_there : Asking limits (without_lowest below m)
    asking_there = asking_above limits below m asking within

    abbrev taken : OutcomeWord → State → Answer
    taken w t = take_outcome asking.request w (with w t)

    here : (w : OutcomeWord) → asked_at limits (without_lowest below m) w ≡ continue limits front (taken w (state_at m []))
    here w = asked_so limits (without_lowest below m) asking_there w

    never_here : (w : OutcomeWord) (status : ℕ) (x : State) → continue limits front (taken w (state_at m [])) ≡ Over (End status) x → ⊥
    never_here w status x e = never w status x (here w ∙ e)

    same_above : (w : OutcomeWord) → asked_at limits m w ≡ asked_at limits (without_lowest below m) w
    same_above w =
        asked_so limits m asking w
        ∙ ap (λ (fs : List Frame). continue limits (with_file m.status asking.request.effect.runs fs) (taken w (state_at m []))) (sym all)
        ∙ ap (λ (fs : List Frame). continue limits fs (taken w (state_at m []))) (whole m.status)
        ∙ continue_over front bottom (taken w (state_at m [])) (never_here w)
        ∙ sym (here w)

    keys_above : (wanted : List Text) (keys : List Key) → AreEnoughAt limits wanted (without_lowest below m) keys → AreEnoughAt limits wanted m keys
    keys_above wanted keys enough =
        let s : State = state_at m [] in
        let there : AreEnough limits wanted (Ask asking.request top s) keys = subst (λ (next : Next). AreEnough limits wanted next keys) (asks_so limits (without_lowest below m) asking_there) enough in
        subst (λ (next : Next). AreEnough limits wanted next keys) (sym (asks_so limits m asking))
        (subst (λ (fs : List Frame). AreEnough limits wanted (Ask asking.request fs s) keys) all
        (λ w t agree. subst (λ (fs : List Frame). CameAlike limits s.steps t.steps s.log t.log wanted (continue limits fs (taken w s)) (continue limits (with_file t.memory.status asking.request.effect.runs (top ++ bottom)) (taken w t))) (sym (whole m.status))
        (subst (λ (fs : List Frame). CameAlike limits s.steps t.steps s.log t.log wanted (continue limits (front ++ bottom) (taken w s)) (continue limits fs (taken w t))) (sym (whole t.memory.status))
        (subst (λ (c : Came). CameAlike limits s.steps t.steps s.log t.log wanted c (continue limits (front_at t.memory.status ++ bottom) (taken w t))) (sym (continue_over front bottom (taken w s) (never_here w)))
        (alike_over s.steps t.steps s.log t.log wanted (continue limits front (taken w s)) (front_at t.memory.status) bottom (taken w t) (never_here w) (there w t agree))))))

pub lowest_make_no_difference : LowestMakeNoDifference
unfolding IsAsking
lowest_make_no_difference limits below m asking within never w = same_above limits below m asking within never w

pub keys_hold_below : KeysHoldBelow
unfolding IsAsking
keys_hold_below limits wanted below m keys asking within never enough = keys_above limits below m asking within never wanted keys enough

-- with no outcome left, the command that asks needs one
wants_one : (limits : Limits) (m : Moment) (asking : Asking limits m) → asked_at limits m [] ≡ Wants (state_at m [])
wants_one limits m asking = asked_so limits m asking [] ∙ continue-dry limits (with_file m.status asking.request.effect.runs (frames_of m.frames)) (state_at m [])

no_end : (status : ℕ) (s t : State) → Wants t ≡ Over (End status) s → ⊥
no_end status s t e = absurd (cc)

pub neither_returns : NeitherReturns
unfolding IsAsking
neither_returns limits m asking won lost [] status s e = no_end status s (state_at m []) (sym (wants_one limits m asking) ∙ e)
neither_returns limits m asking won lost (Success ∷ w) status s e = won w status s e
neither_returns limits m asking won lost (Failure ∷ w) status s e = lost w status s e
