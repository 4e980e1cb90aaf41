-- Keys that are enough for what is to come, from the ends of a run to its start, and at a moment.
use Rattle.std.proofs.Common.{◌≡◌, ◌∙◌, refl, sym, ap, subst, ℕ, suc, ◌+◌, ◌<◌, arith, List, [], ◌∷◌, ◌++◌, length, append_assoc, append-nil, length-append, Option, Some, None, inl, inr}
use Rattle.device_list.specs.declared.finish.BoardEnd.{BoardEnd}
use Rattle.device_list.specs.Called.{sets_in}
use Rattle.bootstore_state.specs.Moment.{Moment}
use Rattle.bootstore_state.specs.StoredState.{state_at}
use Rattle.rehearse_terms.specs.Outcomes.{Outcome, Success, Failure, OutcomeWord}
use Rattle.rehearse_terms.specs.State.{Text, State, LoggedCommand}
use Rattle.rehearse_rules.specs.Execution.{Limits, Answer, Normal, Ended, Ending, End, CutDevices, CutSteps, Unknown, Syntax, Unsupported, Panic, Size, Finished, Request, finish, take_outcome, logged, set_environment}
use Rattle.rehearse_machine.specs.AskingCommand.{found_again}
use Rattle.rehearse_machine.specs.Came.{Came, Over, Wants}
use Rattle.rehearse_machine.specs.Frames.{Frame, Next, Go, Ask, Stop, finish_next, answered, move, with_file}
use Rattle.rehearse_machine.specs.Machine.{Asking, IsAsking, asked_at}
use Rattle.rehearse_machine.specs.Meaning.{with, continue, comes_to}
use Rattle.rehearse_machine.specs.Places.{PlaceNext, next_of, frames_of}
use Rattle.rehearse_machine.proofs.MoveMeaning.{continue-ended, continue-dry, move-is}
use Rattle.rehearse_reads.specs.Keys.{Key, Access, Reads, AreAmong, IsAmong, AgreeOn, all_read, ReadsWithin, known_after, keys_in_front, keys_read}
use Rattle.rehearse_reads.specs.Accesses.{outcome_accesses}
use Rattle.rehearse_reads.specs.Alike as alike
use Rattle.rehearse_reads.specs.Alike.{AreAbreast, IsCutBy, IsBeyond}
use Rattle.rehearse_reads.proofs.AccessLemmas.{within_then}
use Rattle.rehearse_reads.proofs.AbreastLemmas.{moved_at}
use Rattle.rehearse_reads.proofs.AlikeParts.{further_apart}
use Rattle.rehearse_reads.proofs.AlikeRuns.{from_the_start}
use Rattle.rehearse_reads.proofs.KeysRead.{reads_within, stretches_join, more_keys_in_front, all_left, all_right, all_of_more, all_itself}
use Rattle.rehearse_frames.specs.ToCome.{names_read, of_frames}
use Rattle.rehearse_frames.specs.MoveAccesses.{of_move}
use Rattle.rehearse_frames.specs.AlikeFutures.{CameAlike, CameCut, same, cut_here, beyond}
use Rattle.rehearse_frames.specs.KeysToCome.{state_in, from_state, Decide, AreEnough, AreEnoughIf, AreEnoughAt, asks_at, request_in, request_at, AreAtOnePlace}
use Rattle.rehearse_frames.specs.Laws.{KeysOfAlikeFrames, KeysOfEnds, KeysOfMoves, KeysOfAnswers, KeysOfAsking, MoreKeysAreEnough, MomentsGoAlike, KeysOfMoments}
use Rattle.rehearse_frames.proofs.FramesAlike.{over_alike, continue_alike, beside}
use Rattle.rehearse_frames.proofs.MovesAlike.{NextAlike, goes_alike, asks_alike, stops_alike, cut_alike, beyond_there, IsBeyondThere, one_more, moves_alike, answers_alike}

-- ---- what is known in front of accesses, and after them

pub agree_fewer : (keys more : List Key) (s t : State) → AreAmong keys more → AgreeOn more s t → AgreeOn keys s t
agree_fewer keys more s t all agree key h = agree key (all_of_more (key ∷ []) keys more (h, tt) all).0

all_are_read : (known keys : List Key) → ReadsWithin known (all_read keys) → AreAmong keys known
all_are_read known [] h = tt
all_are_read known (key ∷ keys) h = (h.0, all_are_read known keys h.1)

read_alone : (keys : List Key) → keys_in_front (all_read keys) [] ≡ keys
read_alone [] = refl
read_alone (key ∷ keys) = ap (λ (ks : List Key). key ∷ ks) (read_alone keys)

known_within : (accesses : List Access) (later : List Key) → ReadsWithin (keys_in_front accesses later) accesses
known_within accesses later = reads_within (keys_in_front accesses later) accesses (more_keys_in_front accesses [] later tt)

known_later : (accesses : List Access) (later : List Key) → AreAmong later (known_after (keys_in_front accesses later) accesses)
known_later accesses later =
    let known : List Key = keys_in_front accesses later in
    let both : keys_read (accesses ++ all_read later) ≡ known = stretches_join accesses (all_read later) [] ∙ ap (keys_in_front accesses) (read_alone later) in
    all_are_read (known_after known accesses) later
    (within_then known accesses (all_read later) (reads_within known (accesses ++ all_read later) (subst (λ (ks : List Key). AreAmong ks known) (sym both) (all_itself known))))

-- ---- from other beginnings

module _ (limits : Limits) (wanted : List Text) (i j : ℕ) (k l : List LoggedCommand) (known : List Key) (s t : State) (near : AreAbreast limits i j k l known s t) where
  cut_before : (ending : Ending) → IsCutBy limits s.steps t.steps s.log t.log ending → IsCutBy limits i j k l ending
  cut_before (End status) h = h
  cut_before CutDevices h = let a = further_apart k l s.log t.log near.logs in (let less : length l < length k = omega arith in less)
  cut_before CutSteps h = let a = near.steps in (let less : j < i = omega arith in less)
  cut_before (Unknown name) h = h
  cut_before (Syntax name) h = h
  cut_before (Unsupported name) h = h
  cut_before (Panic name) h = h
  cut_before Size h = h
  cut_before (Finished finish name) h = h

  came_cut_before : (c : Came) → CameCut limits s.steps t.steps s.log t.log wanted c → CameCut limits i j k l wanted c
  came_cut_before (Over ending u) h = cut_before ending h
  came_cut_before (Wants u) h = h

  -- what goes alike from there goes alike from before
  alike_before : (c d : Came) → CameAlike limits s.steps t.steps s.log t.log wanted c d → CameAlike limits i j k l wanted c d
  alike_before c d (same h) =
      let a = near.steps in
      let b = h.steps in
      let e = further_apart k l s.log t.log near.logs in
      let f = h.devices in
      same (record {
        kind = h.kind;
        end = h.end;
        steps = omega arith;
        devices = omega arith;
        logs = record {
          further = near.logs.further ++ h.logs.further;
          goes_on_here = h.logs.goes_on_here ∙ ap (λ (log : List LoggedCommand). log ++ h.logs.further) near.logs.goes_on_here ∙ append_assoc k near.logs.further h.logs.further;
          goes_on_there = h.logs.goes_on_there ∙ ap (λ (log : List LoggedCommand). log ++ h.logs.further) near.logs.goes_on_there ∙ append_assoc l near.logs.further h.logs.further;
        };
      })
  alike_before c d (cut_here h) = cut_here (came_cut_before c h)
  alike_before c d (beyond (inl h)) = let a = near.steps in let g = h.1 in let f = h.0 in beyond (inl (omega arith, omega arith))
  alike_before c d (beyond (inr h)) = let a = further_apart k l s.log t.log near.logs in let g = h.1 in let f = h.0 in beyond (inr (omega arith, omega arith))

-- ---- after a move, or after an outcome

module _ (limits : Limits) (wanted : List Text) (i j : ℕ) (k l : List LoggedCommand) where
  abbrev Alike : Came → Came → Type 0
  Alike c d = CameAlike limits i j k l wanted c d

  -- what goes on here stays beyond the bound
  stays_beyond : (fs : List Frame) (a : Answer) (ending : Ending) (t : State) → IsBeyond limits i j k l a → Alike (continue limits fs a) (Over ending t)
  stays_beyond fs a ending t h =
      let known : List Key = keys_read (of_frames limits wanted fs a) in
      subst (λ (d : Came). Alike (continue limits fs a) d) (continue-ended limits fs ending t)
      (continue_alike limits i j k l wanted fs known a (Ended ending t) (reads_within known (of_frames limits wanted fs a) (all_itself known)) (alike.beyond h))

  ask_beyond : (w : OutcomeWord) (request : Request) (fs : List Frame) (s : State) → IsBeyondThere limits i j k l (Ask request fs s) → IsBeyond limits i j k l (take_outcome request w s)
  ask_beyond [] request fs s h = h
  ask_beyond (Success ∷ w) request fs s h = by request.effect.ends h
    where
      t : State
      t = set_environment (sets_in request.words request.effect.sets) (logged Success request (with w s))

      by : (ends : Option BoardEnd) → IsBeyondThere limits i j k l (Ask request fs s) → IsBeyond limits i j k l (finish ends request.name t)
      by (Some how) (inl g) = inl g
      by (Some how) (inr g) = let a = one_more s Success request in let b = g.1 in inr (g.0, omega arith)
      by None (inl g) = inl g
      by None (inr g) = let a = one_more s Success request in let b = g.1 in inr (g.0, omega arith)
  ask_beyond (Failure ∷ w) request fs s (inl g) = inl g
  ask_beyond (Failure ∷ w) request fs s (inr g) = let a = one_more s Failure request in let b = g.1 in inr (g.0, omega arith)

  there_beyond : (w : OutcomeWord) (a : Next) (ending : Ending) (t : State) → IsBeyondThere limits i j k l a → Alike (comes_to limits w a) (Over ending (with w t))
  there_beyond w (Go fs s) ending t h = stays_beyond fs (Normal (with w s)) ending (with w t) h
  there_beyond w (Ask request fs s) ending t h = stays_beyond (with_file s.memory.status request.effect.runs fs) (take_outcome request w (with w s)) ending (with w t) (ask_beyond w request fs (with w s) h)
  there_beyond w (Stop other s) ending t h = beyond h

  decided : (w : OutcomeWord) (later known : List Key) (a b : Next) → AreAmong later known → Decide limits wanted a w later → NextAlike limits i j k l known a b → Alike (comes_to limits w a) (comes_to limits w b)
  decided w later known (Go fs s) b all decide (goes_alike {t = t} near) = alike_before limits wanted i j k l known s t near _ _ (decide t (agree_fewer later known s t all near.keys))
  decided w later known (Ask request fs s) b all decide (asks_alike {t = t} near) = alike_before limits wanted i j k l known s t near _ _ (decide t (agree_fewer later known s t all near.keys))
  decided w later known (Stop ending s) b all decide (stops_alike {t = t} near) = alike_before limits wanted i j k l known s t near _ _ (decide t (agree_fewer later known s t all near.keys))
  decided w later known a b all decide (cut_alike h) = cut_here h
  decided w later known a b all decide (beyond_there {ending = ending} {t = t} h) = there_beyond w a ending t h

-- two states that agree on keys are abreast at the start
abbrev same_word : State → State → State
same_word s t = with s.word t

at_start : (limits : Limits) (keys : List Key) (s t : State) → AgreeOn keys s t → AreAbreast limits s.steps t.steps s.log t.log keys s (same_word s t)
at_start limits keys s t agree = from_the_start limits keys s (same_word s t) (λ key h. moved_at key s t s.steps t.steps s.word s.word (agree key h)) refl

pub keys_of_ends : KeysOfEnds
keys_of_ends limits wanted ending s w t agree =
    let keys : List Key = keys_read (names_read wanted) in
    over_alike limits s.steps t.steps s.log t.log wanted keys ending ending (with w s) (with w t) refl (beside limits keys s t w agree) (reads_within keys (names_read wanted) (all_itself keys))

pub keys_of_moves : KeysOfMoves
keys_of_moves limits wanted fs s later proper enough w t agree =
    let accesses : List Access = of_move limits fs s in
    let known : List Key = keys_in_front accesses later in
    let u : State = same_word s t in
    let moved : CameAlike limits s.steps t.steps s.log t.log wanted (comes_to limits w (move limits fs s)) (comes_to limits w (move limits fs u)) =
    decided limits wanted s.steps t.steps s.log t.log w later (known_after known accesses) (move limits fs s) (move limits fs u) (known_later accesses later) (enough w)
    (moves_alike limits s.steps t.steps s.log t.log fs known s u (at_start limits known s t agree) (known_within accesses later)) in
    subst (λ (c : Came). CameAlike limits s.steps t.steps s.log t.log wanted c (comes_to limits w (Go fs t))) (move-is limits w fs proper s)
    (subst (λ (d : Came). CameAlike limits s.steps t.steps s.log t.log wanted (comes_to limits w (move limits fs s)) d) (move-is limits w fs proper u) moved)

-- an outcome that is taken
finished_so : (limits : Limits) (w : OutcomeWord) (ends : Option BoardEnd) (name : Text) (fs : List Frame) (s : State) → comes_to limits w (finish_next ends name fs s) ≡ continue limits fs (finish ends name (with w s))
finished_so limits w (Some how) name fs s = sym (continue-ended limits fs (Finished how name) (with w s))
finished_so limits w None name fs s = refl

pub answered_so : (limits : Limits) (w : OutcomeWord) (outcome : Outcome) (request : Request) (fs : List Frame) (s : State) → comes_to limits w (answered outcome request fs s) ≡ comes_to limits (outcome ∷ w) (Ask request fs s)
answered_so limits w Success request fs s = finished_so limits w request.effect.ends request.name (with_file s.memory.status request.effect.runs fs) (set_environment (sets_in request.words request.effect.sets) (logged Success request s))
answered_so limits w Failure request fs s = refl

pub keys_of_answers : KeysOfAnswers
keys_of_answers limits wanted outcome request fs s later enough w t agree =
    let accesses : List Access = outcome_accesses outcome request in
    let known : List Key = keys_in_front accesses later in
    let u : State = same_word s t in
    let here : Next = answered outcome request fs s in
    let there : Next = answered outcome request fs u in
    let moved : CameAlike limits s.steps t.steps s.log t.log wanted (comes_to limits w here) (comes_to limits w there) =
    decided limits wanted s.steps t.steps s.log t.log w later (known_after known accesses) here there (known_later accesses later) (enough w)
    (answers_alike limits s.steps t.steps s.log t.log outcome request fs known s u (at_start limits known s t agree) (known_within accesses later)) in
    subst (λ (c : Came). CameAlike limits s.steps t.steps s.log t.log wanted c (comes_to limits (outcome ∷ w) (Ask request fs t))) (answered_so limits w outcome request fs s)
    (subst (λ (d : Came). CameAlike limits s.steps t.steps s.log t.log wanted (comes_to limits w here) d) (answered_so limits w outcome request fs u) moved)

-- no outcome is left
wants_alike : (limits : Limits) (wanted : List Text) (s t : State) → CameAlike limits s.steps t.steps s.log t.log wanted (Wants (with [] s)) (Wants (with [] t))
wants_alike limits wanted s t = same (record {
  kind = refl;
  end = refl;
  steps = omega arith;
  devices = omega arith;
  logs = record { further = []; goes_on_here = sym (append-nil s.log); goes_on_there = sym (append-nil t.log) };
})

pub keys_of_asking : KeysOfAsking
keys_of_asking limits wanted request fs s won lost from_success from_failure [] t agree =
    subst (λ (c : Came). CameAlike limits s.steps t.steps s.log t.log wanted c (comes_to limits [] (Ask request fs t))) (sym (continue-dry limits (with_file s.memory.status request.effect.runs fs) (with [] s)))
    (subst (λ (d : Came). CameAlike limits s.steps t.steps s.log t.log wanted (Wants (with [] s)) d) (sym (continue-dry limits (with_file t.memory.status request.effect.runs fs) (with [] t))) (wants_alike limits wanted s t))
keys_of_asking limits wanted request fs s won lost from_success from_failure (Success ∷ w) t agree =
    from_success w t (agree_fewer won (won ++ lost) s t (all_left won won lost (all_itself won)) agree)
keys_of_asking limits wanted request fs s won lost from_success from_failure (Failure ∷ w) t agree =
    from_failure w t (agree_fewer lost (won ++ lost) s t (all_right lost won lost (all_itself lost)) agree)

pub more_decide : (limits : Limits) (wanted : List Text) (next : Next) (w : OutcomeWord) (keys more : List Key) → Decide limits wanted next w keys → AreAmong keys more → Decide limits wanted next w more
more_decide limits wanted next w keys more decide all t agree = decide t (agree_fewer keys more (state_in next) t all agree)

pub more_keys_are_enough : MoreKeysAreEnough
more_keys_are_enough limits wanted next keys more enough all w = more_decide limits wanted next w keys more (enough w) all

-- ---- at a moment

module _ (limits : Limits) (m : Moment) (asking : Asking limits m) where
  abbrev asks : Next
  asks = Ask asking.request (frames_of m.frames) (state_at m [])

  pub asked_so : (w : OutcomeWord) → asked_at limits m w ≡ comes_to limits w asks
  unfolding asked_at
  asked_so w = ap (λ (x : PlaceNext). comes_to limits w (next_of x)) (asking.again w)

  pub asks_so : asks_at limits m ≡ asks
  asks_so = ap next_of (asking.again [])

  requested_so : request_at limits m ≡ Some asking.request
  requested_so = ap request_in (asking.again [])

pub keys_of_alike_frames : KeysOfAlikeFrames
keys_of_alike_frames limits wanted fs gs s keys alike enough w t agree =
    subst (λ (c : Came). CameAlike limits s.steps t.steps s.log t.log wanted c (continue limits gs (Normal (with w t)))) (alike (Normal (with w s)))
    (subst (λ (c : Came). CameAlike limits s.steps t.steps s.log t.log wanted (continue limits fs (Normal (with w s))) c) (alike (Normal (with w t))) (enough w t agree))

pub keys_of_moments : KeysOfMoments
keys_of_moments limits wanted m keys asking enough = subst (λ (next : Next). AreEnough limits wanted next keys) (sym (asks_so limits m asking)) enough

same_request : (one other : Request) → Some other ≡ Some one → other ≡ one
same_request one other e = cc

module _ (limits : Limits) (wanted : List Text) (m n : Moment) (am : Asking limits m) (an : Asking limits n) (place : AreAtOnePlace limits m n) where
  pub requests : an.request ≡ am.request
  requests = same_request am.request an.request (sym (requested_so limits n an) ∙ place.asks ∙ requested_so limits m am)

  -- the other moment asks the same of the same frames
  there_so : (w : OutcomeWord) → asked_at limits n w ≡ comes_to limits w (Ask am.request (frames_of m.frames) (state_at n []))
  there_so w =
      asked_so limits n an w
      ∙ ap (λ (request : Request). comes_to limits w (Ask request (frames_of n.frames) (state_at n []))) requests
      ∙ ap (λ (fs : List Frame). comes_to limits w (Ask am.request fs (state_at n []))) place.frames

  alike_there : (keys : List Key) → AreEnoughAt limits wanted m keys → AgreeOn keys (state_at m []) (state_at n []) → (w : OutcomeWord) → CameAlike limits m.steps n.steps m.log n.log wanted (asked_at limits m w) (asked_at limits n w)
  alike_there keys enough agree w =
      let here : Next = asks limits m am in
      let enough_here : AreEnough limits wanted here keys = subst (λ (next : Next). AreEnough limits wanted next keys) (asks_so limits m am) enough in
      subst (λ (c : Came). CameAlike limits m.steps n.steps m.log n.log wanted c (asked_at limits n w)) (sym (asked_so limits m am w))
      (subst (λ (d : Came). CameAlike limits m.steps n.steps m.log n.log wanted (comes_to limits w here) d) (sym (there_so w)) (enough_here w (state_at n []) agree))

pub moments_go_alike : MomentsGoAlike
unfolding IsAsking
moments_go_alike limits wanted m n keys am an place enough agree w = alike_there limits wanted m n am an place keys enough agree w
