-- Moves one after another, stretches, and rounds of a loop.
use Rattle.std.proofs.Common.{◌≡◌, ◌∙◌, refl, sym, ap, subst, ℕ, zero, suc, ◌+◌, ◌*◌, ◌≤◌, inl, inr, arith, suc-mul, zero-mul, Bool, true, false, not, List, [], ◌∷◌, ◌++◌, filter, cond}
use Rattle.rehearse_terms.specs.State.{State}
use Rattle.rehearse_rules.specs.Execution.{Limits, Answer, Normal}
use Rattle.rehearse_machine.specs.Frames.{Frame, Next, Go, Ask, Stop, move}
use Rattle.rehearse_machine.specs.Meaning.{with, continue, AreProperFrames, IsProperNext}
use Rattle.rehearse_machine.specs.MoveCounts.{weight}
use Rattle.rehearse_machine.proofs.MoveMeaning.{move-is}
use Rattle.rehearse_machine.proofs.ProperMoves.{move-proper}
use Rattle.rehearse_machine.proofs.ProgressLemmas.{Progress, move_progress}
use Rattle.rehearse_reads.specs.Keys.{Key, Access, Reads, Writes, IsAmong, AreAmong, same_key, keys_in_front}
use Rattle.rehearse_reads.proofs.KeysRead.{stretches_join, more_keys_in_front, all_right, all_of_more, all_itself}
use Rattle.rehearse_frames.specs.KeysToCome.{AreEnough, state_in}
use Rattle.rehearse_frames.specs.Laws.{MovesAreStretches, AlikeFramesAreStretches, StretchesJoin, LoopsGoOn}
use Rattle.rehearse_frames.specs.Loops.{later, moved_on, after_moves, of_next_move, of_moves, ComesAfter, Stretch}
use Rattle.rehearse_frames.proofs.EnoughKeys.{keys_of_moves, keys_of_alike_frames, more_keys_are_enough}
use Rattle.rehearse_frames.proofs.OtherSteps.{next_later, moves_later}

-- ---- the same accesses once more need no more keys in front

kept_or_later : (p : Key → Bool) (k : Key) (first later : List Key) → p k ≡ true → IsAmong k (first ++ later) → IsAmong k (filter p first ++ later)
kept_or_later p k [] later e h = h
kept_or_later p k (key ∷ first) later e (inl same) = by (p key) (ap p (sym same) ∙ e)
  where
    by : (b : Bool) → b ≡ true → IsAmong k (cond b (key ∷ filter p first) (filter p first) ++ later)
    by true f = inl same
    by false f = absurd (cc)
kept_or_later p k (key ∷ first) later e (inr h) = by (p key) (kept_or_later p k first later e h)
  where
    by : (b : Bool) → IsAmong k (filter p first ++ later) → IsAmong k (cond b (key ∷ filter p first) (filter p first) ++ later)
    by true rest = inr rest
    by false rest = rest

filtered : (p : Key → Bool) (keys first later : List Key) → AreAmong keys (first ++ later) → AreAmong (filter p keys) (filter p first ++ later)
filtered p [] first later h = tt
filtered p (key ∷ keys) first later h = by (p key) refl (filtered p keys first later h.1)
  where
    by : (b : Bool) → p key ≡ b → AreAmong (filter p keys) (filter p first ++ later) → AreAmong (cond b (key ∷ filter p keys) (filter p keys)) (filter p first ++ later)
    by true e rest = (kept_or_later p key first later e h.0, rest)
    by false e rest = rest

-- a key in front is read, or it is one of those after
read_or_later : (accesses : List Access) (keys : List Key) → AreAmong (keys_in_front accesses keys) (keys_in_front accesses [] ++ keys)
read_or_later [] keys = all_itself keys
read_or_later (Reads key ∷ accesses) keys = (inl refl, all_right (keys_in_front accesses keys) (key ∷ []) (keys_in_front accesses [] ++ keys) (read_or_later accesses keys))
read_or_later (Writes key ∷ accesses) keys = filtered (λ other. not (same_key other key)) (keys_in_front accesses keys) (keys_in_front accesses []) keys (read_or_later accesses keys)

all_both : (some other more : List Key) → AreAmong some more → AreAmong other more → AreAmong (some ++ other) more
all_both [] other more h k = k
all_both (key ∷ some) other more h k = (h.0, all_both some other more h.1 k)

once_more : (accesses : List Access) (keys : List Key) → AreAmong (keys_in_front accesses (keys_in_front accesses keys)) (keys_in_front accesses keys)
once_more accesses keys =
    let front : List Key = keys_in_front accesses keys in
    all_of_more (keys_in_front accesses front) (keys_in_front accesses [] ++ front) front (read_or_later accesses front)
    (all_both (keys_in_front accesses []) front front (more_keys_in_front accesses [] keys tt) (all_itself front))

module _ (limits : Limits) where
  -- ---- moves

  progress_grows : (s : State) (n : ℕ) (next : Next) → Progress limits s n next → s.steps ≤ (state_in next).steps
  progress_grows s n (Go fs t) (inl h) = let a = h.0 in omega arith
  progress_grows s n (Go fs t) (inr h) = let a = h.0 in omega arith
  progress_grows s n (Ask request fs t) (inl h) = let a = h.0 in omega arith
  progress_grows s n (Ask request fs t) (inr h) = absurd h
  progress_grows s n (Stop ending t) (inl h) = h.0
  progress_grows s n (Stop ending t) (inr h) = let a : t.steps ≡ s.steps = h in omega arith

  on_grows : (next : Next) → IsProperNext next → (state_in next).steps ≤ (state_in (moved_on limits next)).steps
  on_grows (Go fs s) p = progress_grows s (weight limits s.memory.environment fs) (move limits fs s) (move_progress limits fs s p)
  on_grows (Ask request fs s) p = omega arith
  on_grows (Stop ending s) p = omega arith

  on_proper : (next : Next) → IsProperNext next → IsProperNext (moved_on limits next)
  on_proper (Go fs s) p = move-proper limits fs s p
  on_proper (Ask request fs s) p = p
  on_proper (Stop ending s) p = p

  pub after_proper : (count : ℕ) (next : Next) → IsProperNext next → IsProperNext (after_moves limits count next)
  after_proper zero next p = p
  after_proper (suc count) next p = on_proper (after_moves limits count next) (after_proper count next p)

  on_comes : (next : Next) → IsProperNext next → ComesAfter limits next (moved_on limits next) (of_next_move limits next)
  on_comes (Go fs s) p = record { comes = λ w. move-is limits w fs p s; enough = λ wanted keys h. keys_of_moves limits wanted fs s keys p h }
  on_comes (Ask request fs s) p = record { comes = λ w. refl; enough = λ wanted keys h. h }
  on_comes (Stop ending s) p = record { comes = λ w. refl; enough = λ wanted keys h. h }

  comes_then : (first second third : Next) (xs ys : List Access) → ComesAfter limits first second xs → ComesAfter limits second third ys → ComesAfter limits first third (xs ++ ys)
  comes_then first second third xs ys a b = record {
    comes = λ w. b.comes w ∙ a.comes w;
    enough = λ wanted keys h. subst (λ (front : List Key). AreEnough limits wanted first front) (sym (stretches_join xs ys keys)) (a.enough wanted (keys_in_front ys keys) (b.enough wanted keys h));
  }

  pub moves_come : (count : ℕ) (next : Next) → IsProperNext next → ComesAfter limits next (after_moves limits count next) (of_moves limits count next)
  moves_come zero next p = record { comes = λ w. refl; enough = λ wanted keys h. h }
  moves_come (suc count) next p =
      comes_then next (after_moves limits count next) (after_moves limits (suc count) next) (of_moves limits count next) (of_next_move limits (after_moves limits count next))
      (moves_come count next p) (on_comes (after_moves limits count next) (after_proper count next p))

  -- ---- the same moves some steps later

  on_later : (steps : ℕ) (next : Next) → (state_in (moved_on limits next)).steps + steps ≤ limits.step_bound
      → (moved_on limits (next_later steps next) ≡ next_later steps (moved_on limits next)) × (of_next_move limits (next_later steps next) ≡ of_next_move limits next)
  on_later steps (Go fs s) room = moves_later limits fs steps s room
  on_later steps (Ask request fs s) room = (refl, refl)
  on_later steps (Stop ending s) room = (refl, refl)

  after_later : (count steps : ℕ) (next : Next) → IsProperNext next → (state_in (after_moves limits count next)).steps + steps ≤ limits.step_bound
      → (after_moves limits count (next_later steps next) ≡ next_later steps (after_moves limits count next)) × (of_moves limits count (next_later steps next) ≡ of_moves limits count next)
  after_later zero steps next p room = (refl, refl)
  after_later (suc count) steps next p room =
      let mid : Next = after_moves limits count next in
      let grown : (state_in mid).steps ≤ (state_in (moved_on limits mid)).steps = on_grows mid (after_proper count next p) in
      let before = after_later count steps next p (omega arith) in
      let one = on_later steps mid room in (
        ap (moved_on limits) before.0 ∙ one.0,
        ap (λ (xs : List Access). xs ++ of_next_move limits (after_moves limits count (next_later steps next))) before.1
            ∙ ap (λ (x : Next). of_moves limits count next ++ of_next_move limits x) before.0
            ∙ ap (λ (xs : List Access). of_moves limits count next ++ xs) one.1,
      )

  -- ---- stretches

  pub moves_stretch : (count : ℕ) (fs gs : List Frame) (s t : State) → AreProperFrames fs → after_moves limits count (Go fs s) ≡ Go gs t → Stretch limits fs s gs t (of_moves limits count (Go fs s))
  moves_stretch count fs gs s t p leads = record {
    goes = λ before room.
        let there : (state_in (after_moves limits count (Go fs s))).steps ≡ t.steps = ap (λ (x : Next). (state_in x).steps) leads in
        let same = after_later count before (Go fs s) p (omega arith) in
        let from : Next = Go fs (later before s) in
        let end : after_moves limits count from ≡ Go gs (later before t) = same.0 ∙ ap (next_later before) leads in
        subst (λ (x : Next). ComesAfter limits from x (of_moves limits count (Go fs s))) end (subst (λ (xs : List Access). ComesAfter limits from (after_moves limits count from) xs) same.1 (moves_come count from p));
  }

  pub alike_stretch : (fs gs : List Frame) (s : State) → ((a : Answer) → continue limits fs a ≡ continue limits gs a) → Stretch limits fs s gs s []
  alike_stretch fs gs s alike = record {
    goes = λ before room. record {
      comes = λ w. sym (alike (Normal (with w (later before s))));
      enough = λ wanted keys h. keys_of_alike_frames limits wanted gs fs (later before s) keys (λ a. sym (alike a)) h;
    };
  }

  pub stretches_then : (fs gs hs : List Frame) (s t u : State) (xs ys : List Access) → t.steps ≤ u.steps → Stretch limits fs s gs t xs → Stretch limits gs t hs u ys → Stretch limits fs s hs u (xs ++ ys)
  stretches_then fs gs hs s t u xs ys grown a b = record {
    goes = λ before room. comes_then (Go fs (later before s)) (Go gs (later before t)) (Go hs (later before u)) xs ys (a.goes before (omega arith)) (b.goes before room);
  }

  -- with no steps before it
  pub stretch_comes : (fs gs : List Frame) (s t : State) (xs : List Access) → t.steps ≤ limits.step_bound → Stretch limits fs s gs t xs → ComesAfter limits (Go fs s) (Go gs t) xs
  stretch_comes fs gs s t xs room stretch =
      let first : s.steps + zero ≡ s.steps = omega arith in
      let last : t.steps + zero ≡ t.steps = omega arith in
      subst (λ (k : ℕ). ComesAfter limits (Go fs (record s { steps = k })) (Go gs t) xs) first
      (subst (λ (k : ℕ). ComesAfter limits (Go fs (later zero s)) (Go gs (record t { steps = k })) xs) last (stretch.goes zero (omega arith)))

  -- ---- rounds

  module _ (steps : ℕ) (fs : List Frame) (s : State) (accesses : List Access) (stretch : Stretch limits fs s fs (later steps s) accesses) where
    abbrev at : ℕ → Next
    at n = Go fs (later n s)

    -- one round, begun some steps later
    round_later : (n : ℕ) → s.steps + (n + steps) ≤ limits.step_bound → ComesAfter limits (at n) (at (n + steps)) accesses
    round_later n room =
        let total : s.steps + steps + n ≡ s.steps + (n + steps) = omega arith in
        subst (λ (k : ℕ). ComesAfter limits (at n) (Go fs (record s { steps = k })) accesses) total (stretch.goes n (omega arith))

    -- the same again
    round_after : (n : ℕ) → ComesAfter limits (Go fs s) (at n) accesses → ComesAfter limits (at n) (at (n + steps)) accesses → ComesAfter limits (Go fs s) (at (n + steps)) accesses
    round_after n a b = record {
      comes = λ w. b.comes w ∙ a.comes w;
      enough = λ wanted keys h.
          more_keys_are_enough limits wanted (Go fs s) (keys_in_front accesses (keys_in_front accesses keys)) (keys_in_front accesses keys)
          (a.enough wanted (keys_in_front accesses keys) (b.enough wanted keys h)) (once_more accesses keys);
    }

    rounds_come : (rounds : ℕ) → s.steps + (rounds * steps + steps) ≤ limits.step_bound → ComesAfter limits (Go fs s) (at (rounds * steps + steps)) accesses
    rounds_come zero room =
        let one : steps ≡ zero * steps + steps = omega (arith, zero-mul steps) in
        subst (λ (n : ℕ). ComesAfter limits (Go fs s) (at n) accesses) one (stretch_comes fs fs s (later steps s) accesses (omega (arith, zero-mul steps)) stretch)
    rounds_come (suc rounds) room =
        let total : rounds * steps + steps + steps ≡ suc rounds * steps + steps = omega (arith, suc-mul rounds steps) in
        subst (λ (n : ℕ). ComesAfter limits (Go fs s) (at n) accesses) total
        (round_after (rounds * steps + steps) (rounds_come rounds (let t = total in omega arith)) (round_later (rounds * steps + steps) (let t = total in omega arith)))

    all_rounds : (rounds : ℕ) → s.steps + (rounds * steps + steps) ≤ limits.step_bound → ComesAfter limits (Go fs s) (Go fs (later (rounds * steps + steps) s)) accesses
    all_rounds = rounds_come

pub moves_are_stretches : MovesAreStretches
moves_are_stretches limits count fs gs s t p leads = moves_stretch limits count fs gs s t p leads

pub alike_frames_are_stretches : AlikeFramesAreStretches
alike_frames_are_stretches limits fs gs s alike = alike_stretch limits fs gs s alike

pub stretches_in_turn : StretchesJoin
stretches_in_turn limits fs gs hs s t u first second grown a b = stretches_then limits fs gs hs s t u first second grown a b

pub loops_go_on : LoopsGoOn
loops_go_on limits steps rounds fs s accesses stretch room = all_rounds limits steps fs s accesses stretch rounds room
