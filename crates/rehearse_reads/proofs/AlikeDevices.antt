-- Steps and device commands go alike, as far as the bounds allow.
use Rattle.std.proofs.Common.{◌≡◌, refl, sym, subst, ℕ, suc, ◌<◌, ◌≤◌, Bool, true, false, ◌&&◌, List, [], ◌∷◌, ◌++◌, map, length, Option, Some, None, inl, inr, length-append, arith, nat_lt, ltb-true, ltb-false, if◌then◌else◌}
use Rattle.device_list.specs.declared.finish.BoardEnd.{BoardEnd}
use Rattle.device_list.specs.Called.{NewValue, sets_in}
use Rattle.rehearse_terms.specs.Outcomes.{OutcomeWord, Outcome, Success, Failure}
use Rattle.rehearse_terms.specs.State.{Text, State, LoggedCommand, answer_in}
use Rattle.device_list.specs.DeviceList.{Effect}
use Rattle.rehearse_rules.specs.Needs.{is_met, can_succeed, effect_now}
use Rattle.rehearse_rules.proofs.NeedsLemmas.{now_same}
use Rattle.rehearse_rules.specs.Execution.{Limits, Answer, Normal, Ended, CutDevices, CutSteps, Finished, Request, request_of, begin, finish, with_outcome, take_outcome, told, told_again, tell_or_take, outcome_when, device, set_environment, logged, succeeds}
use Rattle.rehearse_rules.specs.Runs.{state_of}
use Rattle.rehearse_rules.proofs.TakenOutcomes.{Track-of, KeepsAll}
use Rattle.rehearse_reads.specs.Keys.{Key, Status, AnswerTo, Succeeded, Access, IsAmong, AreAmong, all_read, ReadsWithin, known_after}
use Rattle.rehearse_reads.specs.Accesses.{begun_accesses, needs_reads, room_reads, success_reads, listed_accesses, told_reads, handing_reads, outcome_writes, outcome_accesses, taken_accesses, answer_accesses, device_accesses, copied_keys, names_written}
use Rattle.rehearse_reads.specs.Alike.{devices_of, AreAbreast, IsAlike, cut_here, beyond}
use Rattle.rehearse_reads.proofs.AccessLemmas.{read_first, read_then, among_first, among_then}
use Rattle.rehearse_reads.proofs.AbreastLemmas.{near_moved, near_begun, near_logged, near_set, copied_in, copies_among, still_among}
use Rattle.rehearse_reads.proofs.RoomLemmas.{room_agrees}
use Rattle.rehearse_reads.proofs.AlikeParts.{further_apart, normal_alike, ended_alike, dry_alike, after_keys}

module _ (limits : Limits) (i j : ℕ) (k l : List LoggedCommand) where
  abbrev Is : List Key → Answer → Answer → Type 0
  Is known a b = IsAlike limits i j k l known a b

  abbrev Near : List Key → State → State → Type 0
  Near known s t = AreAbreast limits i j k l known s t

  abbrev AlwaysDoes : (State → Answer) → (State → List Access) → Type 0
  AlwaysDoes f u = (known : List Key) (s t : State) → Near known s t → ReadsWithin known (u s) → Is (known_after known (u s)) (f s) (f t)

  -- ---- steps

  begin_by : (known : List Key) (s t : State) (f : State → Answer) (u : State → List Access) → AlwaysDoes f u → KeepsAll limits f → Near known s t → (b c : Bool) → nat_lt s.steps limits.step_bound ≡ b → nat_lt t.steps limits.step_bound ≡ c
      → ReadsWithin known (elim b [ true ↦ u (record s { steps = suc s.steps }) | false ↦ [] ])
      → Is (known_after known (elim b [ true ↦ u (record s { steps = suc s.steps }) | false ↦ [] ])) (elim b [ true ↦ f (record s { steps = suc s.steps }) | false ↦ Ended CutSteps s ]) (elim c [ true ↦ f (record t { steps = suc t.steps }) | false ↦ Ended CutSteps t ])
  begin_by known s t f u does kept near true true p q w = does known (record s { steps = suc s.steps }) (record t { steps = suc t.steps }) (near_begun limits i j k l known s t near) w
  begin_by known s t f u does kept near true false p q w =
      let begun : State = record s { steps = suc s.steps } in
      let to = Track-of limits.device_bound begun (f begun) (kept begun).0 in
      let grown : suc s.steps ≤ (state_of (f begun)).steps = to.steps in
      let full = ltb-false t.steps limits.step_bound q in
      let room = ltb-true s.steps limits.step_bound p in
      let a = near.steps in
      beyond (inl (omega arith, omega arith))
  begin_by known s t f u does kept near false true p q w =
      let full = ltb-false s.steps limits.step_bound p in
      let room = ltb-true t.steps limits.step_bound q in
      let a = near.steps in
      cut_here (let less : j < i = omega arith in less)
  begin_by known s t f u does kept near false false p q w = ended_alike limits i j k l known CutSteps s t near

  pub Alike-begin : (f : State → Answer) (u : State → List Access) → AlwaysDoes f u → KeepsAll limits f → AlwaysDoes (begin limits f) (begun_accesses limits u)
  Alike-begin f u does kept known s t near w = begin_by known s t f u does kept near (nat_lt s.steps limits.step_bound) (nat_lt t.steps limits.step_bound) refl refl w

  -- ---- device commands

  told_by : (known : List Key) (s t : State) (call : List Text) (always : Option Bool) (stays : Bool) → Near known s t → AreAmong (if stays then AnswerTo call ∷ [] else []) known
      → (if stays then answer_in t.log call else always) ≡ (if stays then answer_in s.log call else always)
  told_by known s t call always true near h = near.keys (AnswerTo call) h.0
  told_by known s t call always false near h = refl

  pub told_alike : (known : List Key) (s t : State) (request : Request) → Near known s t → AreAmong (told_reads request) known → told request t.log ≡ told request s.log
  told_alike known s t request near h = told_by known s t (request.name ∷ request.words) request.effect.always request.effect.stays near h

  finish_alike : (known : List Key) (ends : Option BoardEnd) (name : Text) (s t : State) → Near known s t → Is known (finish ends name s) (finish ends name t)
  finish_alike known (Some finish) name s t near = ended_alike limits i j k l known (Finished finish name) s t near
  finish_alike known None name s t near = normal_alike limits i j k l known s t near

  writes_alike : (request : Request) (d : Outcome) (known : List Key) (s t : State) → Near known s t → AreAmong (copied_keys request.effect.sets) known → Is (known_after known (outcome_writes d request)) (with_outcome d request s) (with_outcome d request t)
  writes_alike request Success known s t near w =
      let sets : List (Text × NewValue) = sets_in request.words request.effect.sets in
      finish_alike (known_after (Status ∷ known) (names_written (map (λ e. e.0) sets))) request.effect.ends request.name (set_environment sets (logged Success request s)) (set_environment sets (logged Success request t))
      (near_set limits i j k l (Status ∷ known) (logged Success request s) (logged Success request t) sets (near_logged limits i j k l known s t Success request near)
      (still_among known Status (copied_in sets) (copies_among known request.words request.effect.sets w)))
  writes_alike request Failure known s t near w = normal_alike limits i j k l (Status ∷ known) (logged Failure request s) (logged Failure request t) (near_logged limits i j k l known s t Failure request near)

  -- the status that is kept for the text of a file
  handing_alike : (runs : List Text) (known : List Key) (xs : List Access) (a b : Answer) → Is (known_after known xs) a b → Is (known_after known (handing_reads runs ++ xs)) a b
  handing_alike [] known xs a b h = h
  handing_alike (name ∷ others) known xs a b h = h

  -- the variables of which it sets copies are known
  pub copies_known : (known : List Key) (request : Request) (d : Outcome) → ReadsWithin known (outcome_accesses d request) → AreAmong (copied_keys request.effect.sets) known
  copies_known known request d = by request.effect.runs
    where
      keys : List Key
      keys = copied_keys request.effect.sets

      by : (runs : List Text) → ReadsWithin known (handing_reads runs ++ (all_read keys ++ outcome_writes d request)) → AreAmong keys known
      by [] w = read_first known keys (outcome_writes d request) w
      by (name ∷ others) w = read_first known keys (outcome_writes d request) w.1

  with_alike : (request : Request) (d : Outcome) (known : List Key) (s t : State) → Near known s t → ReadsWithin known (outcome_accesses d request)
      → Is (known_after known (outcome_accesses d request)) (with_outcome d request s) (with_outcome d request t)
  with_alike request d known s t near w =
      let keys : List Key = copied_keys request.effect.sets in
      handing_alike request.effect.runs known (all_read keys ++ outcome_writes d request) (with_outcome d request s) (with_outcome d request t)
      (after_keys limits i j k l known keys (outcome_writes d request) (with_outcome d request s) (with_outcome d request t) (writes_alike request d known s t near (copies_known known request d w)))

  pub take_alike : (request : Request) (w : OutcomeWord) (known : List Key) (s t : State) → Near known s t → ReadsWithin known (taken_accesses request w) → Is (known_after known (taken_accesses request w)) (take_outcome request w s) (take_outcome request w t)
  take_alike request [] known s t near r = dry_alike limits i j k l known s t near
  take_alike request (d ∷ rest) known s t near r = with_alike request d known (record s { word = rest }) (record t { word = rest }) (near_moved limits i j k l known s t rest near) r

  tell_alike : (o : Option Bool) (request : Request) (known : List Key) (s t : State) → Near known s t → ReadsWithin known (answer_accesses o request s) → Is (known_after known (answer_accesses o request s)) (tell_or_take o request s) (tell_or_take o request t)
  tell_alike None request known s t near r =
      subst (λ (w : OutcomeWord). Is (known_after known (taken_accesses request s.word)) (take_outcome request s.word s) (take_outcome request w t)) (sym near.word) (take_alike request s.word known s t near r)
  tell_alike (Some true) request known s t near r = with_alike (told_again request) Success known s t near r
  tell_alike (Some false) request known s t near r = with_alike (told_again request) Failure known s t near r

  abbrev entry_of : Request → Outcome → LoggedCommand
  entry_of request d = record { success = succeeds d; words = request.name ∷ request.words; stays = request.effect.stays; again = request.again }

  finish_needs : (b : Option BoardEnd) (name : Text) (s : State) → devices_of (finish b name s) ≡ length s.log
  finish_needs (Some how) name s = refl
  finish_needs None name s = refl

  with_needs : (request : Request) (d : Outcome) (s : State) → length s.log < devices_of (with_outcome d request s)
  with_needs request Success s =
      let a = finish_needs request.effect.ends request.name (set_environment (sets_in request.words request.effect.sets) (logged Success request s)) in
      let b = length-append s.log (entry_of request Success ∷ []) in
      omega arith
  with_needs request Failure s = let b = length-append s.log (entry_of request Failure ∷ []) in omega arith

  take_needs : (request : Request) (w : OutcomeWord) (s : State) → length s.log < devices_of (take_outcome request w s)
  take_needs request [] s = omega arith
  take_needs request (d ∷ rest) s = with_needs request d (record s { word = rest })

  tell_needs : (o : Option Bool) (request : Request) (s : State) → length s.log < devices_of (tell_or_take o request s)
  tell_needs None request s = take_needs request s.word s
  tell_needs (Some success) request s = with_needs (told_again request) (outcome_when success) s

  -- what the command is reported is the same if it is reported anything
  device_by : (o p : Option Bool) (request : Request) (known : List Key) (s t : State) → Near known s t → (b c : Bool) → nat_lt (length s.log) limits.device_bound ≡ b → nat_lt (length t.log) limits.device_bound ≡ c → (b ≡ true → p ≡ o)
      → ReadsWithin known (elim b [ true ↦ all_read (told_reads request) ++ answer_accesses o request s | false ↦ [] ])
      → Is (known_after known (elim b [ true ↦ all_read (told_reads request) ++ answer_accesses o request s | false ↦ [] ])) (elim b [ true ↦ tell_or_take o request s | false ↦ Ended CutDevices s ]) (elim c [ true ↦ tell_or_take p request t | false ↦ Ended CutDevices t ])
  device_by o p request known s t near true true e f told r =
      after_keys limits i j k l known (told_reads request) (answer_accesses o request s) (tell_or_take o request s) (tell_or_take p request t)
      (subst (λ (x : Option Bool). Is (known_after known (answer_accesses o request s)) (tell_or_take o request s) (tell_or_take x request t)) (sym (told refl)) (tell_alike o request known s t near (read_then known (told_reads request) (answer_accesses o request s) r)))
  device_by o p request known s t near true false e f told r =
      let full = ltb-false (length t.log) limits.device_bound f in
      let room = ltb-true (length s.log) limits.device_bound e in
      let a = further_apart k l s.log t.log near.logs in
      let needs = tell_needs o request s in
      beyond (inr (omega arith, omega arith))
  device_by o p request known s t near false true e f told r =
      let full = ltb-false (length s.log) limits.device_bound e in
      let room = ltb-true (length t.log) limits.device_bound f in
      let a = further_apart k l s.log t.log near.logs in
      cut_here (let less : length l < length k = omega arith in less)
  device_by o p request known s t near false false e f told r = ended_alike limits i j k l known CutDevices s t near

  -- the key that is read, if the bound allows the command
  asked_within : (known : List Key) (request : Request) (s : State) (b : Bool) → ReadsWithin known (elim b [ true ↦ all_read (told_reads request) ++ answer_accesses (told request s.log) request s | false ↦ [] ]) → b ≡ true → AreAmong (told_reads request) known
  asked_within known request s true w e = read_first known (told_reads request) (answer_accesses (told request s.log) request s) w
  asked_within known request s false w e = absurd (cc)

  pub Alike-device : (request : Request) → AlwaysDoes (device limits request) (device_accesses limits request)
  Alike-device request known s t near w =
      let room : Bool = nat_lt (length s.log) limits.device_bound in
      device_by (told request s.log) (told request t.log) request known s t near room (nat_lt (length t.log) limits.device_bound) refl refl
      (λ e. told_alike known s t request near (asked_within known request s room w e))
      w

  -- ---- the status is known where a command that may hand over has its outcome

  outcome_knows : (known : List Key) (request : Request) (name : Text) (others : List Text) → request.effect.runs ≡ name ∷ others → (d : Outcome) → ReadsWithin known (outcome_accesses d request) → IsAmong Status known
  outcome_knows known request name others e d w = (subst (λ (runs : List Text). ReadsWithin known (handing_reads runs ++ (all_read (copied_keys request.effect.sets) ++ outcome_writes d request))) e w).0

  taken_knows : (known : List Key) (request : Request) (name : Text) (others : List Text) → request.effect.runs ≡ name ∷ others → (v : OutcomeWord) (s u : State) → take_outcome request v s ≡ Normal u → ReadsWithin known (taken_accesses request v) → IsAmong Status known
  taken_knows known request name others e [] s u f w = absurd (let g = f in cc)
  taken_knows known request name others e (d ∷ rest) s u f w = outcome_knows known request name others e d w

  told_knows : (known : List Key) (request : Request) (name : Text) (others : List Text) → request.effect.runs ≡ name ∷ others → (o : Option Bool) (s u : State) → tell_or_take o request s ≡ Normal u → ReadsWithin known (answer_accesses o request s) → IsAmong Status known
  told_knows known request name others e (Some success) s u f w = outcome_knows known request name others e (outcome_when success) w
  told_knows known request name others e None s u f w = taken_knows known request name others e s.word s u f w

  pub asked_knows : (known : List Key) (request : Request) (name : Text) (others : List Text) → request.effect.runs ≡ name ∷ others → (s u : State) → device limits request s ≡ Normal u → ReadsWithin known (device_accesses limits request s) → IsAmong Status known
  asked_knows known request name others e s u = by (nat_lt (length s.log) limits.device_bound)
    where
      by : (b : Bool) → elim b [ true ↦ tell_or_take (told request s.log) request s | false ↦ Ended CutDevices s ] ≡ Normal u → ReadsWithin known (elim b [ true ↦ all_read (told_reads request) ++ answer_accesses (told request s.log) request s | false ↦ [] ]) → IsAmong Status known
      by true f w = told_knows known request name others e (told request s.log) s u f (read_then known (told_reads request) (answer_accesses (told request s.log) request s) w)
      by false f w = absurd (let g = f in cc)

  -- ---- a command of the list, which can succeed or cannot

  met_alike : (known : List Key) (s t : State) (needs : List Text) → Near known s t → AreAmong (needs_reads needs) known → is_met needs t.log ≡ is_met needs s.log
  met_alike known s t [] near h = refl
  met_alike known s t (name ∷ words) near h = near.keys (Succeeded (name ∷ words)) h.0

  pub can_alike : (known : List Key) (s t : State) (effect : Effect) → Near known s t → AreAmong (success_reads limits.room effect) known → can_succeed limits.room t effect ≡ can_succeed limits.room s effect
  can_alike known s t effect near h =
      let needs : List Key = needs_reads effect.needs in
      let copied : List Key = room_reads limits.room effect.sets in
      let met = met_alike known s t effect.needs near (among_first known needs copied h) in
      let room = room_agrees known s t near.keys limits.room effect.sets (among_then known needs copied h) in
      λ i. met i && room i

  pub Alike-listed : (name : Text) (words : List Text) (effect : Effect) → AlwaysDoes (λ x. device limits (request_of name words (effect_now limits.room x effect)) x) (listed_accesses limits name words effect)
  Alike-listed name words effect known s t near w =
      let request : Effect → Request = request_of name words in
      let keys : List Key = success_reads limits.room effect in
      let rest : List Access = device_accesses limits (request (effect_now limits.room s effect)) s in
      let now : effect_now limits.room t effect ≡ effect_now limits.room s effect = now_same limits.room effect s t (can_alike known s t effect near (read_first known keys rest w)) in
      after_keys limits i j k l known keys rest (device limits (request (effect_now limits.room s effect)) s) (device limits (request (effect_now limits.room t effect)) t)
      (subst (λ (x : Effect). Is (known_after known rest) (device limits (request (effect_now limits.room s effect)) s) (device limits (request x) t)) (sym now)
      (Alike-device (request (effect_now limits.room s effect)) known s t near (read_then known keys rest w)))
