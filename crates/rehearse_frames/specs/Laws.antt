-- Laws of what frames still read, over the definitions alone. Ours.
use Rattle.std.specs.Prelude.{◌≡◌, ℕ, ◌+◌, ◌*◌, ◌<◌, ◌≤◌, List, [], ◌∷◌, ◌++◌, length}
use Rattle.bootstore_state.specs.Moment.{Moment}
use Rattle.bootstore_state.specs.StoredState.{state_at}
use Rattle.rehearse_terms.specs.Outcomes.{Outcome, Success, Failure, OutcomeWord}
use Rattle.rehearse_terms.specs.State.{Text, State}
use Rattle.rehearse_rules.specs.Execution.{Limits, Answer, Ending, Normal, Request}
use Rattle.rehearse_machine.specs.Frames.{Frame, Next, Go, Ask, Stop, answered, move}
use Rattle.rehearse_machine.specs.Machine.{Asking, IsAsking, asked_at}
use Rattle.rehearse_machine.specs.Places.{frames_of, place_answered, place_move}
use Rattle.rehearse_machine.specs.MovesShown.{next_shown}
use Rattle.rehearse_machine.specs.Turning.{IsSound}
use Rattle.rehearse_machine.specs.declared.ask.Step.{Step}
use Rattle.rehearse_machine.specs.Meaning.{with, continue, comes_to, AreProperFrames}
use Rattle.rehearse_reads.specs.Keys.{Key, Access, AreAmong, AgreeOn, keys_in_front, keys_read, Covers}
use Rattle.rehearse_reads.specs.Accesses.{outcome_accesses}
use Rattle.rehearse_frames.specs.ToCome.{names_read, of_frames, of_next}
use Rattle.rehearse_frames.specs.KeysToCome.{AreEnough, AreEnoughIf, AreEnoughFrom, AreEnoughAfter, AreEnoughAt, AreAtOnePlace}
use Rattle.rehearse_frames.specs.MoveAccesses.{of_move}
use Rattle.rehearse_frames.specs.AlikeFutures.{CameAlike}
use Rattle.rehearse_frames.specs.Above.{above, without_lowest, NeverReturns, StaysAbove}
use Rattle.rehearse_frames.specs.Loops.{later, after_moves, of_moves, ComesAfter, Stretch}

-- what frames read and write is what one move reads and writes, and then what is to come after it
abbrev pub MovesComeFirst : Type 0
MovesComeFirst = (limits : Limits) (wanted : List Text) (w : OutcomeWord) (fs : List Frame) (s : State) → AreProperFrames fs →
    of_frames limits wanted fs (Normal (with w s)) ≡ of_move limits fs s ++ of_next limits wanted w (move limits fs s)

-- of a device command that asks it is what its outcome writes, and then what is to come after that
abbrev pub OutcomesComeFirst : Type 0
OutcomesComeFirst = (limits : Limits) (wanted : List Text) (outcome : Outcome) (w : OutcomeWord) (request : Request) (fs : List Frame) (s : State) →
    of_next limits wanted (outcome ∷ w) (Ask request fs s)
    ≡ outcome_accesses outcome request ++ of_next limits wanted w (answered outcome request fs s)

-- From two states that agree on what frames read before they write it, the frames go on alike, as far as the bounds
-- allow, and to the same values of the variables that are wanted.
abbrev pub FramesGoAlike : Type 0
FramesGoAlike = (limits : Limits) (wanted : List Text) (w : OutcomeWord) (fs : List Frame) (keys : List Key) (s t : State) →
    AreAmong (keys_read (of_frames limits wanted fs (Normal (with w s)))) keys → AgreeOn keys s t →
    CameAlike limits s.steps t.steps s.log t.log wanted (continue limits fs (Normal (with w s))) (continue limits fs (Normal (with w t)))

-- and so does a device command that asks with the same words
abbrev pub AskedAlike : Type 0
AskedAlike = (limits : Limits) (wanted : List Text) (w : OutcomeWord) (request : Request) (fs : List Frame) (keys : List Key) (s t : State) →
    AreAmong (keys_read (of_next limits wanted w (Ask request fs s))) keys → AgreeOn keys s t →
    CameAlike limits s.steps t.steps s.log t.log wanted (comes_to limits w (Ask request fs s)) (comes_to limits w (Ask request fs t))

-- ---- keys that are enough: what a search finds of a run, from its ends to its start

-- at an end these are the variables that are wanted
abbrev pub KeysOfEnds : Type 0
KeysOfEnds = (limits : Limits) (wanted : List Text) (ending : Ending) (s : State) →
    AreEnough limits wanted (Stop ending s) (keys_read (names_read wanted))

-- in front of a move, what the move reads, and of what is enough after it, all that it does not write
abbrev pub KeysOfMoves : Type 0
KeysOfMoves = (limits : Limits) (wanted : List Text) (fs : List Frame) (s : State) (later : List Key) → AreProperFrames fs →
    AreEnough limits wanted (move limits fs s) later →
    AreEnough limits wanted (Go fs s) (keys_in_front (of_move limits fs s) later)

-- where a device command asks and has this outcome, the same with what the outcome writes
abbrev pub KeysOfAnswers : Type 0
KeysOfAnswers = (limits : Limits) (wanted : List Text) (outcome : Outcome) (request : Request) (fs : List Frame) (s : State) (later : List Key) →
    AreEnough limits wanted (answered outcome request fs s) later →
    AreEnoughIf limits wanted outcome (Ask request fs s) (keys_in_front (outcome_accesses outcome request) later)

-- and the keys of both outcomes together are enough there
abbrev pub KeysOfAsking : Type 0
KeysOfAsking = (limits : Limits) (wanted : List Text) (request : Request) (fs : List Frame) (s : State) (won lost : List Key) →
    AreEnoughIf limits wanted Success (Ask request fs s) won →
    AreEnoughIf limits wanted Failure (Ask request fs s) lost →
    AreEnough limits wanted (Ask request fs s) (won ++ lost)

-- further keys do no harm
abbrev pub MoreKeysAreEnough : Type 0
MoreKeysAreEnough = (limits : Limits) (wanted : List Text) (next : Next) (keys more : List Key) →
    AreEnough limits wanted next keys → AreAmong keys more → AreEnough limits wanted next more

-- frames that make the same of every answer need the same keys
abbrev pub KeysOfAlikeFrames : Type 0
KeysOfAlikeFrames = (limits : Limits) (wanted : List Text) (fs gs : List Frame) (s : State) (keys : List Key) →
    ((a : Answer) → continue limits fs a ≡ continue limits gs a) →
    AreEnough limits wanted (Go fs s) keys → AreEnough limits wanted (Go gs s) keys

-- Two moments at one place that agree on keys which are enough at the first one: the same is to come for every rest of the
-- word, as far as the bounds allow.
abbrev pub MomentsGoAlike : Type 0
MomentsGoAlike = (limits : Limits) (wanted : List Text) (m n : Moment) (keys : List Key) → IsAsking limits m → IsAsking limits n →
    AreAtOnePlace limits m n → AreEnoughAt limits wanted m keys → AgreeOn keys (state_at m []) (state_at n []) →
    (w : OutcomeWord) → CameAlike limits m.steps n.steps m.log n.log wanted (asked_at limits m w) (asked_at limits n w)

-- what is enough where the device command of a moment asks is enough at the moment
abbrev pub KeysOfMoments : Type 0
KeysOfMoments = (limits : Limits) (wanted : List Text) (m : Moment) (keys : List Key) (asking : Asking limits m) →
    AreEnough limits wanted (Ask asking.request (frames_of m.frames) (state_at m [])) keys → AreEnoughAt limits wanted m keys

-- ---- of a machine that reports what its steps read and write

-- in front of a step, if what is reported of it covers what its move reads and writes
abbrev pub KeysOfSteps : Type 0
KeysOfSteps = (limits : Limits) (wanted : List Text) (step : Step) (old new : Moment) (reported : List Access) (later : List Key) →
    IsSound old → ((w : OutcomeWord) → next_shown step new w ≡ place_move limits old.frames (state_at old w)) →
    Covers reported (of_move limits (frames_of old.frames) (state_at old [])) → AreEnoughAfter limits wanted step new later →
    AreEnoughFrom limits wanted old (keys_in_front reported later)

-- at a device command that asks, from what is enough after each of its outcomes
abbrev pub KeysOfOutcomes : Type 0
KeysOfOutcomes = (limits : Limits) (wanted : List Text) (m : Moment) (asking : Asking limits m) (won_step lost_step : Step) (won lost : Moment)
    (after_won after_lost : List Key) →
    ((w : OutcomeWord) → next_shown won_step won w ≡ place_answered Success asking.request m.frames (state_at m w)) →
    ((w : OutcomeWord) → next_shown lost_step lost w ≡ place_answered Failure asking.request m.frames (state_at m w)) →
    AreEnoughAfter limits wanted won_step won after_won → AreEnoughAfter limits wanted lost_step lost after_lost →
    AreEnoughAt limits wanted m (keys_in_front (outcome_accesses Success asking.request) after_won
    ++ keys_in_front (outcome_accesses Failure asking.request) after_lost)

-- ---- loops

-- moves are a stretch
abbrev pub MovesAreStretches : Type 0
MovesAreStretches = (limits : Limits) (count : ℕ) (fs gs : List Frame) (s t : State) → AreProperFrames fs →
    after_moves limits count (Go fs s) ≡ Go gs t → Stretch limits fs s gs t (of_moves limits count (Go fs s))

-- so are frames that are taken for others, if they make the same of every answer
abbrev pub AlikeFramesAreStretches : Type 0
AlikeFramesAreStretches = (limits : Limits) (fs gs : List Frame) (s : State) →
    ((a : Answer) → continue limits fs a ≡ continue limits gs a) → Stretch limits fs s gs s []

-- and one stretch after another
abbrev pub StretchesJoin : Type 0
StretchesJoin = (limits : Limits) (fs gs hs : List Frame) (s t u : State) (first second : List Access) → t.steps ≤ u.steps →
    Stretch limits fs s gs t first → Stretch limits gs t hs u second → Stretch limits fs s hs u (first ++ second)

-- A stretch that comes back to the same frames and the same state, only some steps later, does so again, one round after
-- another, as far as the bound allows. All rounds together read and write what one of them does.
abbrev pub LoopsGoOn : Type 0
LoopsGoOn = (limits : Limits) (steps rounds : ℕ) (fs : List Frame) (s : State) (accesses : List Access) →
    Stretch limits fs s fs (later steps s) accesses → s.steps + (rounds * steps + steps) ≤ limits.step_bound →
    ComesAfter limits (Go fs s) (Go fs (later (rounds * steps + steps) s)) accesses

-- ---- without the lowest frames

-- a move that leaves so many frames alone is the same move without them
abbrev pub MovesStayAbove : Type 0
MovesStayAbove = (limits : Limits) (below : ℕ) (step : Step) (old new : Moment) → below < length old.frames → StaysAbove below step new →
    ((w : OutcomeWord) → next_shown step new w ≡ place_move limits old.frames (state_at old w)) →
    (w : OutcomeWord) → next_shown step (without_lowest below new) w ≡ place_move limits (above below old.frames) (state_at old w)

-- an outcome leaves all frames alone, and may put the text of a file above them
abbrev pub OutcomesStayAbove : Type 0
OutcomesStayAbove = (below : ℕ) (outcome : Outcome) (request : Request) (step : Step) (old new : Moment) → below ≤ length old.frames →
    ((w : OutcomeWord) → next_shown step new w ≡ place_answered outcome request old.frames (state_at old w)) →
    (w : OutcomeWord) → next_shown step (without_lowest below new) w ≡ place_answered outcome request (above below old.frames) (state_at old w)

-- the command that asks is found without the lowest frames, if one is left
abbrev pub AsksAbove : Type 0
AsksAbove = (limits : Limits) (below : ℕ) (m : Moment) → IsAsking limits m → below < length m.frames → IsAsking limits (without_lowest below m)

-- if nothing comes back to the lowest frames, the same is to come without them
abbrev pub LowestMakeNoDifference : Type 0
LowestMakeNoDifference = (limits : Limits) (below : ℕ) (m : Moment) → IsAsking limits m → below < length m.frames →
    NeverReturns (asked_at limits (without_lowest below m)) →
    (w : OutcomeWord) → asked_at limits m w ≡ asked_at limits (without_lowest below m) w

-- nothing comes back where a command asks, if nothing does after either outcome
abbrev pub NeitherReturns : Type 0
NeitherReturns = (limits : Limits) (m : Moment) → IsAsking limits m → NeverReturns (λ w. asked_at limits m (Success ∷ w)) →
    NeverReturns (λ w. asked_at limits m (Failure ∷ w)) → NeverReturns (asked_at limits m)

-- and keys that are enough without the lowest frames are enough with them
abbrev pub KeysHoldBelow : Type 0
KeysHoldBelow = (limits : Limits) (wanted : List Text) (below : ℕ) (m : Moment) (keys : List Key) → IsAsking limits m → below < length m.frames →
    NeverReturns (asked_at limits (without_lowest below m)) →
    AreEnoughAt limits wanted (without_lowest below m) keys → AreEnoughAt limits wanted m keys
