-- The search for the next run, over the words of runs.
use Rattle.std.proofs.Common.{◌≡◌, ℕ, zero, suc, ◌+◌, cond, ◌<◌, ◌≤◌, Bool, true, false, List, [], ◌∷◌, ◌++◌, length, map, Option, Some, None, option_map, pred, refl, sym, ap, subst, ◌∙◌, append_assoc, append-nil, arith, Result, Ok, Err, not, ◌&&◌, take, length-append, reverse, Vec, Global, vec_len}
use Rattle.bootstore_state.specs.Moment.{Moment}
use Rattle.rehearse_terms.specs.Bounds.{most_steps}
use Rattle.rehearse_terms.specs.Outcomes.{OutcomeWord, Outcome, Success, Failure, WordKind, Run, Short, Long, beyond, common_prefix}
use Rattle.rehearse_terms.specs.State.{Text, State}
use Rattle.bootstore_state.specs.StoredState.{state_at}
use Rattle.rehearse_rules.specs.Execution.{Limits, Request, Answer, Normal, Exit, Ended, Dry, Ending}
use Rattle.rehearse_rules.specs.Choosing.{allowed_beyond, first_outcome, first_run, first_from, turned}
use Rattle.rehearse_rules.specs.Expected.{asked_in, unexpected_of}
use Rattle.rehearse_rules.specs.Runs.{Task, run_on, kind, kind_of, taken_kind, state_of, ending_of, runs, unexpected, is_at_most, is_allowed, IsListed, rest, asked}
use Rattle.rehearse_rules.specs.Listing.{outcome_digit}
use Rattle.rehearse_runs.specs.RunsShown.{outcomes, outcome_of}
use Rattle.rehearse_rules.specs.EndingsShown.{halt_shown}
use Rattle.rehearse_runs.specs.Phases.{AreDigits}
use Rattle.rehearse_machine.specs.Came.{Came, Over, Wants, settled}
use Rattle.rehearse_machine.specs.Machine.{IsAsked, Stops, asked_at, outcome_when}
use Rattle.std.specs.Prelude.{◌==◌, IfOk}
use Rattle.std.proofs.Math.Seq.{take-append_seam}
use Rattle.std.proofs.lemmas.List.{map-append, nil_from_length, reverse-append, take-map}
use Rattle.bootstore_state.specs.Record.{Record, gone_back, returned}
use Rattle.bootstore_state.specs.declared.store.StoreError.{StoreError}
use Rattle.rehearse_rules.specs.declared.halt.Halt.{Halt}
use Rattle.rehearse_runs.specs.Searching.{AreAsked, AreMarks, KeepsIf, MarksIf, requests, Found, FoundFirst, FoundBehind, FoundNext, AreUnexpected, CountsFor, IsCounted, ExpectedFor, ExpectsFor, counted}
use Rattle.rehearse_machine.specs.StoppedTexts.{StoppedAt}
use Rattle.rehearse_machine.specs.declared.rehearsal.Stop.{Stop}
use Rattle.rehearse_machine.specs.declared.rehearsal.Stop.TheVariants.{Asks, Ends}
use Rattle.rehearse_machine.proofs.StoppedTextLemmas.{dry_there, asked_within, asked_kind, stopped_on}
use Rattle.rehearse_machine.specs.Expecting.{Expects}
use Rattle.rehearse_machine.proofs.ExpectedLemmas.{expected_there}
use Rattle.rehearse_machine.proofs.StoppingLemmas.{expects_of}
use Rattle.rehearse_machine.specs.MovesShown.{request_shown}
use Rattle.rehearse_machine.specs.declared.ask.Ask.{Ask}
use Rattle.rehearse_rules.proofs.ChoiceTreeLemmas.{Test}
use Rattle.rehearse_rules.proofs.UnexpectedAnswers.{ExpectedAs, asked_many, unexpected_within, none_unexpected}
use Rattle.rehearse_rules.proofs.TaskChoices.{no_run_is_longer, task_begins, task_goes_on, task_ends}

pub turned_by_success : (allowed : Test) (p : OutcomeWord) → allowed (p ++ Failure ∷ []) ≡ true → turned allowed (p ++ Success ∷ []) ≡ Some (p ++ Failure ∷ [])
turned_by_success allowed [] h = ap (λ (b : Bool). cond b (Some (Failure ∷ [])) None) h
turned_by_success allowed (Success ∷ p) h = let e = turned_by_success (allowed_beyond Success allowed) p h in rw e refl
turned_by_success allowed (Failure ∷ p) h = ap (option_map (λ v. Failure ∷ v)) (turned_by_success (allowed_beyond Failure allowed) p h)

-- a success that may be no failure
pub turned_stays : (allowed : Test) (p : OutcomeWord) → allowed (p ++ Failure ∷ []) ≡ false → turned allowed (p ++ Success ∷ []) ≡ turned allowed p
turned_stays allowed [] h = ap (λ (b : Bool). cond b (Some (Failure ∷ [])) None) h
turned_stays allowed (Success ∷ p) h = let e = turned_stays (allowed_beyond Success allowed) p h in rw e refl
turned_stays allowed (Failure ∷ p) h = ap (option_map (λ v. Failure ∷ v)) (turned_stays (allowed_beyond Failure allowed) p h)

pub turned_by_failure : (allowed : Test) (p : OutcomeWord) → turned allowed (p ++ Failure ∷ []) ≡ turned allowed p
turned_by_failure allowed [] = refl
turned_by_failure allowed (Success ∷ p) = let e = turned_by_failure (allowed_beyond Success allowed) p in rw e refl
turned_by_failure allowed (Failure ∷ p) = ap (option_map (λ v. Failure ∷ v)) (turned_by_failure (allowed_beyond Failure allowed) p)

abbrev first_pick : WordKind → OutcomeWord → OutcomeWord
first_pick k w = elim k [ Run ↦ [] | Long ↦ [] | Short ↦ w ]

-- after an outcome
abbrev first_behind : Test → (OutcomeWord → WordKind) → ℕ → Outcome → OutcomeWord
first_behind allowed kinds n d = d ∷ first_run (allowed_beyond d allowed) (beyond d kinds) n

-- a device command asks after p, and this is its first outcome that is allowed
pub first_from_asked : (allowed : Test) (kinds : OutcomeWord → WordKind) (n : ℕ) (p : OutcomeWord) (d : Outcome) → length p < n → kinds p ≡ Short → cond (allowed (p ++ Success ∷ [])) Success Failure ≡ d → first_from allowed kinds n p ≡ first_from allowed kinds n (p ++ d ∷ [])
first_from_asked allowed kinds zero p d h k e = absurd (omega arith)
first_from_asked allowed kinds (suc n) [] d h k e = ap (λ (t : WordKind). first_pick t (first_behind allowed kinds n (first_outcome allowed))) k ∙ ap (first_behind allowed kinds n) e
first_from_asked allowed kinds (suc n) (c ∷ p) d h k e = ap (λ (w : OutcomeWord). c ∷ w) (first_from_asked (allowed_beyond c allowed) (beyond c kinds) n p d (omega arith) k e)

-- the run ends
pub first_from_run : (allowed : Test) (kinds : OutcomeWord → WordKind) (n : ℕ) (p : OutcomeWord) → length p ≤ n → kinds p ≡ Run → first_from allowed kinds n p ≡ p
first_from_run allowed kinds zero [] h k = refl
first_from_run allowed kinds (suc n) [] h k = ap (λ (t : WordKind). first_pick t (first_behind allowed kinds n (first_outcome allowed))) k
first_from_run allowed kinds zero (d ∷ p) h k = absurd (omega arith)
first_from_run allowed kinds (suc n) (d ∷ p) h k = ap (λ (w : OutcomeWord). d ∷ w) (first_from_run (allowed_beyond d allowed) (beyond d kinds) n p (omega arith) k)

-- ---- digits

pub read_digit : (d : Outcome) → outcome_of (outcome_digit d) ≡ d
read_digit Success = refl
read_digit Failure = refl

pub outcomes_more : (digits : Text) (b : ℕ) → outcomes (digits ++ b ∷ []) ≡ outcomes digits ++ outcome_of b ∷ []
outcomes_more [] b = refl
outcomes_more (d ∷ digits) b = ap (λ (w : OutcomeWord). outcome_of d ∷ w) (outcomes_more digits b)

-- with one more outcome
pub outcomes_on : (digits digits' : Text) (d : Outcome) → digits' ≡ digits ++ outcome_digit d ∷ [] → outcomes digits' ≡ outcomes digits ++ d ∷ []
outcomes_on digits digits' d e = ap outcomes e ∙ outcomes_more digits (outcome_digit d) ∙ ap (λ (x : Outcome). outcomes digits ++ x ∷ []) (read_digit d)

pub outcomes_length : (digits : Text) → length (outcomes digits) ≡ length digits
outcomes_length [] = refl
outcomes_length (b ∷ digits) = ap suc (outcomes_length digits)

map_digits : (v w : OutcomeWord) → map outcome_digit (v ++ w) ≡ map outcome_digit v ++ map outcome_digit w
map_digits [] w = refl
map_digits (d ∷ v) w = ap (λ (t : Text). outcome_digit d ∷ t) (map_digits v w)

pub digits_on : (digits digits' : Text) (d : Outcome) → digits' ≡ digits ++ outcome_digit d ∷ [] → AreDigits digits → AreDigits digits'
digits_on digits digits' d e h =
    ap (map outcome_digit) (outcomes_on digits digits' d e) ∙ map_digits (outcomes digits) (d ∷ []) ∙ ap (λ (t : Text). t ++ outcome_digit d ∷ []) h ∙ sym e

-- an answer that ends the run with this ending, in this state
record IsAnswer (ending : Ending) (s : State) (a : Answer) : Type 0 where
  state_is : state_of a ≡ s
  ending_is : ending_of a ≡ ending
  kind_is : kind_of a ≡ taken_kind s

over_state : Came → State → State
over_state (Over ending s) t = s
over_state (Wants s) t = t

over_ending : Came → Ending → Ending
over_ending (Over ending s) other = ending
over_ending (Wants s) other = other

is_over : (a : Answer) (ending : Ending) (s : State) → settled a ≡ Over ending s → IsAnswer ending s a
unfolding over_state over_ending
is_over (Normal t) ending s e = let f : t ≡ s = ap (λ c. over_state c s) e in record { state_is = f; ending_is = ap (λ c. over_ending c ending) e; kind_is = ap taken_kind f }
is_over (Exit t) ending s e = let f : t ≡ s = ap (λ c. over_state c s) e in record { state_is = f; ending_is = ap (λ c. over_ending c ending) e; kind_is = ap taken_kind f }
is_over (Ended other t) ending s e = let f : t ≡ s = ap (λ c. over_state c s) e in record { state_is = f; ending_is = ap (λ c. over_ending c ending) e; kind_is = ap taken_kind f }
is_over (Dry t) ending s e = absurd (let f = e in cc)

-- the marks of a word are those of another that is turned into the same
marked_same : (task : Task) (u p : OutcomeWord) (ms : List Moment) → turned (is_allowed task) u ≡ turned (is_allowed task) p → AreMarks task p ms → AreMarks task u ms
marked_same task u p [] e h = e ∙ h
marked_same task u p (m ∷ ms) e h = (h.0, e ∙ h.1, h.2, h.3)

pub marked_failure : (task : Task) (p : OutcomeWord) (ms : List Moment) → AreMarks task p ms → AreMarks task (p ++ Failure ∷ []) ms
marked_failure task p ms h = marked_same task (p ++ Failure ∷ []) p ms (turned_by_failure (is_allowed task) p) h

-- the marks after an outcome, if a success is marked just if it may be a failure
marked_on : (success may : Bool) (task : Task) (p : OutcomeWord) (old new : Record) → may ≡ (success && is_allowed task (p ++ Failure ∷ [])) → MarksIf may old new → StoppedAt task p Asks old.present → AreMarks task p old.marked → AreMarks task (p ++ outcome_when success ∷ []) new.marked
marked_on true true task p old new e m h k = subst (λ (x : Record). AreMarks task (p ++ Success ∷ []) x.marked) (sym m) (p, turned_by_success (is_allowed task) p (sym e), h, k)
marked_on true false task p old new e m h k =
    subst (λ (x : Record). AreMarks task (p ++ Success ∷ []) x.marked) (sym m) (marked_same task (p ++ Success ∷ []) p old.marked (turned_stays (is_allowed task) p (sym e)) k)
marked_on false true task p old new e m h k = absurd (let f = e in cc)
marked_on false false task p old new e m h k = subst (λ (x : Record). AreMarks task (p ++ Failure ∷ []) x.marked) (sym m) (marked_failure task p old.marked k)

-- a mark changes nothing else
pub marks_keep : (may : Bool) (old new : Record) → MarksIf may old new → (new.present ≡ old.present) × (new.begun ≡ old.begun)
marks_keep true old new m = (ap (λ (x : Record). x.present) m, ap (λ (x : Record). x.begun) m)
marks_keep false old new m = (ap (λ (x : Record). x.present) m, ap (λ (x : Record). x.begun) m)

-- ---- what the search gives

-- the run has ended
pub found_end : (task : Task) (p : OutcomeWord) (halt : Halt) (r : Record) → StoppedAt task p (Ends halt) r.present → AreMarks task p r.marked → r.present.steps ≤ most_steps → Found task p p halt r r
found_end task p halt r h k n =
    let a : IsAnswer (halt_shown halt) (state_at r.present []) (run_on task p) = is_over (run_on task p) (halt_shown halt) (state_at r.present []) (ap (λ (v : OutcomeWord). settled (run_on task v)) (sym (append-nil p)) ∙ h []) in
    record {
      run = a.kind_is;
      moment = sym a.state_is;
      ending = sym a.ending_is;
      marks = k;
      first = first_from_run (is_allowed task) (kind task) task.limits.device_bound p (no_run_is_longer task p a.kind_is) a.kind_is;
      begun = refl;
      within = n;
      grows = omega arith;
    }

-- a device command asked, and the search went on with its success
found_more : (task : Task) (p q w : OutcomeWord) (halt : Halt) (r₀ r₁ r₂ : Record) → Found task q w halt r₁ r₂ → first_from (is_allowed task) (kind task) task.limits.device_bound p ≡ first_from (is_allowed task) (kind task) task.limits.device_bound q
    → r₁.begun + r₀.present.steps ≡ r₀.begun + r₁.present.steps → r₀.present.steps ≤ r₁.present.steps → Found task p w halt r₀ r₂
found_more task p q w halt r₀ r₁ r₂ f e b l =
    let c = f.begun in
    let k = f.grows in
    record { run = f.run; moment = f.moment; ending = f.ending; marks = f.marks; first = e ∙ f.first; begun = omega arith; within = f.within; grows = omega arith }

pub all_more : (result : Result Halt StoreError) (task : Task) (p q w : OutcomeWord) (r₀ r₁ r₂ : Record) → first_from (is_allowed task) (kind task) task.limits.device_bound p ≡ first_from (is_allowed task) (kind task) task.limits.device_bound q
    → r₁.begun + r₀.present.steps ≡ r₀.begun + r₁.present.steps → r₀.present.steps ≤ r₁.present.steps → IfOk result (λ halt. Found task q w halt r₁ r₂) → IfOk result (λ halt. Found task p w halt r₀ r₂)
all_more (Ok halt) task p q w r₀ r₁ r₂ e b l f = found_more task p q w halt r₀ r₁ r₂ f e b l
all_more (Err x) task p q w r₀ r₁ r₂ e b l f = f

-- ---- an outcome is given

-- what is known when a device command asks
pub record Asked (task : Task) (digits : Text) (m : Moment) : Type 0 where
  pub asks : StoppedAt task (outcomes digits) Asks m
  pub short : kind task (outcomes digits) ≡ Short
  pub room : length digits < task.limits.device_bound
  pub few : unexpected task (outcomes digits) ≤ length digits

pub asked_now : (task : Task) (digits : Text) (m : Moment) → StoppedAt task (outcomes digits) Asks m → Asked task digits m
asked_now task digits m h =
    let k = asked_within task (outcomes digits) m h in
    let l = outcomes_length digits in
    let short = asked_kind task (outcomes digits) m h in
    record { asks = h; short = short; room = omega arith; few = let f = unexpected_within task (outcomes digits) short in omega (arith, f, l) }

pub asked_here : (task : Task) (digits : Text) (stop : Stop) (m : Moment) → stop ≡ Asks → StoppedAt task (outcomes digits) stop m → StoppedAt task (outcomes digits) Asks m
asked_here task digits stop m e h = subst (λ (s : Stop). StoppedAt task (outcomes digits) s m) e h

-- what is expected of the command is expected at the moment
pub expects_for : (o : Option ℕ) (limits : Limits) (m : Moment) (request : Request) (success : Option Bool) → IsAsked limits request m → ExpectedFor o limits.devices request success → ExpectsFor o limits m success
expects_for None limits m request success asked e = tt
expects_for (Some most) limits m request success asked e = expects_of limits m request success asked e

-- a mark changes nothing of that
pub asked_marked : (may : Bool) (limits : Limits) (request : Request) (old new : Record) → MarksIf may old new → IsAsked limits request old.present → IsAsked limits request new.present
asked_marked may limits request old new m h = subst (IsAsked limits request) (sym (marks_keep may old new m).0) h

-- how many answers are unexpected after it
counted_both : (task : Task) (p : OutcomeWord) (expected : Option Bool) (success : Bool) → ExpectedAs task p expected → unexpected task (p ++ outcome_when success ∷ []) ≡ counted (unexpected task p) expected success
counted_both task p None success h = h (outcome_when success)
counted_both task p (Some true) true h = h.0
counted_both task p (Some true) false h = h.1
counted_both task p (Some false) true h = h.1
counted_both task p (Some false) false h = h.0

counted_there : (task : Task) (digits : Text) (m : Moment) (expected : Option Bool) (success : Bool) (count : ℕ) → StoppedAt task (outcomes digits) Asks m → Expects task.limits m expected → count ≡ unexpected task (outcomes digits) → counted count expected success ≡ unexpected task (outcomes digits ++ outcome_when success ∷ [])
counted_there task digits m expected success count h e n =
    ap (λ (k : ℕ). counted k expected success) n ∙ sym (counted_both task (outcomes digits) expected success (expected_there task (outcomes digits) m expected h e))

-- if a bound asks for it
counted_for : (o : Option ℕ) (task : Task) (digits : Text) (m : Moment) (expected : Option Bool) (success : Bool) (count : ℕ) → StoppedAt task (outcomes digits) Asks m → ExpectsFor o task.limits m expected → AreUnexpected o task (outcomes digits) count → AreUnexpected o task (outcomes digits ++ outcome_when success ∷ []) (counted count expected success)
counted_for None task digits m expected success count h e n = tt
counted_for (Some most) task digits m expected success count h e n = counted_there task digits m expected success count h e n

one_more : (count : ℕ) (expected : Option Bool) (success : Bool) → counted count expected success ≤ count + 1
one_more count None success = omega arith
one_more count (Some true) true = omega arith
one_more count (Some true) false = omega arith
one_more count (Some false) true = omega arith
one_more count (Some false) false = omega arith

pub counted_on : (task : Task) (digits digits' : Text) (m : Moment) (expected : Option Bool) (success : Bool) (count : ℕ) → StoppedAt task (outcomes digits) Asks m → ExpectsFor task.failures task.limits m expected → IsCounted task (outcomes digits) count → digits' ≡ digits ++ outcome_digit (outcome_when success) ∷ [] → IsCounted task (outcomes digits') (counted count expected success)
counted_on task digits digits' m expected success count h e n d =
    let more = one_more count expected success in
    let longer = length-append (outcomes digits) (outcome_when success ∷ []) in
    let few = n.0 in
    subst (λ (w : OutcomeWord). IsCounted task w (counted count expected success)) (sym (outcomes_on digits digits' (outcome_when success) d))
    (omega (arith, more, longer, few), counted_for task.failures task digits m expected success count h e n.1)

-- a count is so, if there is a bound
pub counts_so : (o : Option ℕ) (task : Task) (w : OutcomeWord) (are count : ℕ) → CountsFor o are count → are ≡ unexpected task w → AreUnexpected o task w count
counts_so None task w are count h e = tt
counts_so (Some most) task w are count h e = h ∙ e

pub counts_within : (o : Option ℕ) (are count most : ℕ) → CountsFor o are count → are ≤ most → count ≤ most
counts_within None are count most h e = omega (arith, h)
counts_within (Some bound) are count most h e = omega (arith, h, e)

none_of : (o : Option ℕ) (task : Task) → AreUnexpected o task [] 0
none_of None task = tt
none_of (Some most) task = sym (none_unexpected task)

pub none_counted : (task : Task) (digits : Text) → digits ≡ [] → IsCounted task (outcomes digits) 0
none_counted task digits e = subst (λ (t : Text). IsCounted task (outcomes t) 0) (sym e) (omega arith, none_of task.failures task)

-- whether an outcome is allowed
allowed_for : (o : Option ℕ) (task : Task) (digits : Text) (m : Moment) (expected : Option Bool) (success : Bool) (count : ℕ) → StoppedAt task (outcomes digits) Asks m → ExpectsFor o task.limits m expected → AreUnexpected o task (outcomes digits) count → is_at_most o (counted count expected success) ≡ is_at_most o (unexpected task (outcomes digits ++ outcome_when success ∷ []))
allowed_for None task digits m expected success count h e n = refl
allowed_for (Some most) task digits m expected success count h e n = ap (is_at_most (Some most)) (counted_there task digits m expected success count h e n)

pub allowed_there : (task : Task) (digits : Text) (m : Moment) (expected : Option Bool) (success : Bool) (count : ℕ) (most : Option ℕ) → StoppedAt task (outcomes digits) Asks m → ExpectsFor task.failures task.limits m expected → IsCounted task (outcomes digits) count → most ≡ task.failures → is_at_most most (counted count expected success) ≡ is_allowed task (outcomes digits ++ outcome_when success ∷ [])
allowed_there task digits m expected success count most h e n is =
    ap (λ (o : Option ℕ). is_at_most o (counted count expected success)) is
    ∙ allowed_for task.failures task digits m expected success count h e n.1

-- ---- the commands that are kept

pub requests_on : (asks more : List Ask) (ask : Ask) → more ≡ asks ++ ask ∷ [] → requests more ≡ requests asks ++ request_shown ask ∷ []
requests_on asks more ask e = ap requests e ∙ map-append request_shown asks (ask ∷ [])

pub keeps_one : (may : Bool) (request : Request) (old new : List Request) → may ≡ true → new ≡ old ++ request ∷ [] → KeepsIf may request old new
keeps_one true request old new is e = e
keeps_one false request old new is e = absurd (let f = is in cc)

-- a command was kept just if its moment was marked
pub kept_on : (may : Bool) (limits : Limits) (request : Request) (old new : List Request) (r m : Record) → IsAsked limits request r.present → KeepsIf may request old new → MarksIf may r m → AreAsked limits (reverse old) r.marked → AreAsked limits (reverse new) m.marked
kept_on true limits request old new r m asked k e h =
    subst (λ (x : List Request). AreAsked limits x m.marked) (sym (ap reverse k ∙ reverse-append old (request ∷ [])))
    (subst (λ (x : Record). AreAsked limits (request ∷ reverse old) x.marked) (sym e) (asked, h))
kept_on false limits request old new r m asked k e h =
    subst (λ (x : List Request). AreAsked limits (reverse x) m.marked) (sym k) (subst (λ (x : Record). AreAsked limits (reverse old) x.marked) (sym e) h)

pub kept_same : (limits : Limits) (kept : List Request) (old new : List Moment) → new ≡ old → AreAsked limits kept old → AreAsked limits kept new
kept_same limits kept old new e h = subst (λ (ms : List Moment). AreAsked limits kept ms) (sym e) h

-- none is kept where no moment is marked
pub none_kept : (limits : Limits) (asks : List Ask) (marked : List Moment) → asks ≡ [] → marked ≡ [] → AreAsked limits (reverse (requests asks)) marked
none_kept limits asks marked e m =
    subst (λ (x : List Ask). AreAsked limits (reverse (requests x)) marked) (sym e) (subst (λ (ms : List Moment). AreAsked limits [] ms) (sym m) tt)

-- the last one asks at the last mark
pub record AskedBack (limits : Limits) (request : Request) (rest : List Request) (back : Record) : Type 0 where
  pub asks : IsAsked limits request back.present
  pub others : AreAsked limits rest back.marked

asked_in_front : (limits : Limits) (request : Request) (rest : List Request) (present : Moment) (begun : ℕ) (marked : List Moment) → AreAsked limits (request ∷ rest) marked → AskedBack limits request rest (returned present begun marked)
asked_in_front limits request rest present begun [] h = absurd h
asked_in_front limits request rest present begun (m ∷ ms) h = record { asks = h.0; others = h.1 }

pub asked_back : (limits : Limits) (asks rest : List Ask) (ask : Ask) (r back : Record) → asks ≡ rest ++ ask ∷ [] → AreAsked limits (reverse (requests asks)) r.marked → back ≡ gone_back r → AskedBack limits (request_shown ask) (reverse (requests rest)) back
asked_back limits asks rest ask r back e h b =
    subst (λ (x : Record). AskedBack limits (request_shown ask) (reverse (requests rest)) x) (sym b)
    (asked_in_front limits (request_shown ask) (reverse (requests rest)) r.present r.begun r.marked
    (subst (λ (x : List Request). AreAsked limits x r.marked) (ap reverse (requests_on rest asks ask e) ∙ reverse-append (requests rest) (request_shown ask ∷ [])) h))

none_behind : (limits : Limits) (marked : List Moment) → AreAsked limits [] marked → true ≡ not (length marked == 0) → ⊥
none_behind limits [] h some = let f = some in cc
none_behind limits (m ∷ ms) h some = h

-- a command is kept if a moment is marked
pub some_kept : (limits : Limits) (asks : Vec Ask Global) (marked : List Moment) → AreAsked limits (reverse (requests asks.items)) marked → true ≡ not (length marked == 0) → vec_len asks ≡ 0 → ⊥
some_kept limits asks marked h some e =
    none_behind limits marked (subst (λ (x : List Ask). AreAsked limits (reverse (requests x)) marked) (nil_from_length asks.items (sym asks.ok.0 ∙ e)) h) some

-- where the text stops then
pub goes_on : (may success : Bool) (task : Task) (digits digits' : Text) (next : Stop) (r₀ r r₁ : Record) → StoppedAt task (outcomes digits) Asks r₀.present → MarksIf may r₀ r → digits' ≡ digits ++ outcome_digit (outcome_when success) ∷ []
    → Stops task.limits next (λ w. asked_at task.limits r.present (outcome_when success ∷ w)) r₁.present → StoppedAt task (outcomes digits') next r₁.present
goes_on may success task digits digits' next r₀ r r₁ h m d k =
    let k' : Stops task.limits next (λ w. asked_at task.limits r₀.present (outcome_when success ∷ w)) r₁.present = subst (λ (n : Moment). Stops task.limits next (λ w. asked_at task.limits n (outcome_when success ∷ w)) r₁.present) (marks_keep may r₀ r m).0 k in
    subst (λ (p : OutcomeWord). StoppedAt task p next r₁.present) (sym (outcomes_on digits digits' (outcome_when success) d)) (stopped_on task (outcomes digits) r₀.present r₁.present (outcome_when success) next h k')

pub marks_go_on : (may success : Bool) (task : Task) (digits digits' : Text) (r₀ r r₁ : Record) → StoppedAt task (outcomes digits) Asks r₀.present → may ≡ (success && is_allowed task (outcomes digits ++ Failure ∷ [])) → MarksIf may r₀ r → digits' ≡ digits ++ outcome_digit (outcome_when success) ∷ []
    → r₁.marked ≡ r.marked → AreMarks task (outcomes digits) r₀.marked → AreMarks task (outcomes digits') r₁.marked
marks_go_on may success task digits digits' r₀ r r₁ h is e d m k =
    let all : AreMarks task (outcomes digits ++ outcome_when success ∷ []) r.marked = marked_on success may task (outcomes digits) r₀ r is e h k in
    subst (λ (p : OutcomeWord). AreMarks task p r₁.marked) (sym (outcomes_on digits digits' (outcome_when success) d)) (subst (λ (xs : List Moment). AreMarks task (outcomes digits ++ outcome_when success ∷ []) xs) (sym m) all)

-- the first outcome that is allowed
cond_is : (b : Bool) → cond b Success Failure ≡ outcome_when b
cond_is true = refl
cond_is false = refl

pub first_goes_on : (task : Task) (digits digits' : Text) (m : Moment) (success : Bool) → Asked task digits m → success ≡ is_allowed task (outcomes digits ++ Success ∷ []) → digits' ≡ digits ++ outcome_digit (outcome_when success) ∷ []
    → first_from (is_allowed task) (kind task) task.limits.device_bound (outcomes digits) ≡ first_from (is_allowed task) (kind task) task.limits.device_bound (outcomes digits')
first_goes_on task digits digits' m success a e d =
    let l = outcomes_length digits in
    let k = a.room in
    first_from_asked (is_allowed task) (kind task) task.limits.device_bound (outcomes digits) (outcome_when success) (omega (arith, l, k)) a.short (ap (λ (b : Bool). cond b Success Failure) (sym e) ∙ cond_is success)
    ∙ ap (first_from (is_allowed task) (kind task) task.limits.device_bound) (sym (outcomes_on digits digits' (outcome_when success) d))

-- ---- the first run

pub first_found : (result : Result Halt StoreError) (task : Task) (w : OutcomeWord) (r₀ r₁ r₂ : Record) → r₁.begun ≡ r₀.begun + r₁.present.steps → IfOk result (λ halt. Found task [] w halt r₁ r₂) → IfOk result (λ halt. FoundFirst task w halt r₀ r₂)
first_found (Ok halt) task w r₀ r₁ r₂ b f =
    let c = f.begun in
    record {
      run = f.run;
      moment = f.moment;
      ending = f.ending;
      marks = f.marks;
      begins = subst (λ (v : OutcomeWord). runs task ≡ v ∷ rest task v) f.first (task_begins task);
      begun = omega arith;
      within = f.within;
    }
first_found (Err e) task w r₀ r₁ r₂ b f = f

-- ---- where two runs differ first

none_empty : (p : OutcomeWord) → [] ≡ p ++ Failure ∷ [] → ⊥
none_empty [] e = cc
none_empty (d ∷ p) e = cc

turned_success_some : (may : Bool) (t : Option OutcomeWord) (v : OutcomeWord) → elim t [ Some w ↦ Some (Success ∷ w) | None ↦ cond may (Some (Failure ∷ [])) None ] ≡ Some v → [] ≡ v → ⊥
turned_success_some may (Some w) v e h = cc
turned_success_some true None v e h = cc
turned_success_some false None v e h = cc

turned_failure_some : (t : Option OutcomeWord) (v : OutcomeWord) → option_map (λ w. Failure ∷ w) t ≡ Some v → [] ≡ v → ⊥
turned_failure_some (Some w) v e h = cc
turned_failure_some None v e h = cc

turned_some : (allowed : Test) (u v : OutcomeWord) → turned allowed u ≡ Some v → [] ≡ v → ⊥
turned_some allowed [] v e h = cc
turned_some allowed (Success ∷ u) v e h = turned_success_some (allowed (Failure ∷ [])) (turned (allowed_beyond Success allowed) u) v e h
turned_some allowed (Failure ∷ u) v e h = turned_failure_some (turned (allowed_beyond Failure allowed) u) v e h

cut_success : (may : Bool) (t : Option OutcomeWord) (u p : OutcomeWord) → elim t [ Some v ↦ Some (Success ∷ v) | None ↦ cond may (Some (Failure ∷ [])) None ] ≡ Some (p ++ Failure ∷ []) → ((q : OutcomeWord) → t ≡ Some (q ++ Failure ∷ []) → (x : OutcomeWord) × (u ≡ q ++ Success ∷ x)) → (x : OutcomeWord) × (Success ∷ u ≡ p ++ Success ∷ x)
cut_success may (Some v) u [] e next = absurd cc
cut_success may None u [] e next = (u, refl)
cut_success may (Some v) u (Success ∷ p) e next = let f : v ≡ p ++ Failure ∷ [] = cc in let n = next p (ap Some f) in (n.0, ap (λ (w : OutcomeWord). Success ∷ w) n.1)
cut_success true None u (Success ∷ p) e next = absurd cc
cut_success false None u (Success ∷ p) e next = absurd cc
cut_success may (Some v) u (Failure ∷ p) e next = absurd cc
cut_success true None u (Failure ∷ p) e next = absurd (none_empty p cc)
cut_success false None u (Failure ∷ p) e next = absurd cc

cut_failure : (t : Option OutcomeWord) (u p : OutcomeWord) → ((v : OutcomeWord) → t ≡ Some v → [] ≡ v → ⊥) → option_map (λ v. Failure ∷ v) t ≡ Some (p ++ Failure ∷ []) → ((q : OutcomeWord) → t ≡ Some (q ++ Failure ∷ []) → (x : OutcomeWord) × (u ≡ q ++ Success ∷ x)) → (x : OutcomeWord) × (Failure ∷ u ≡ p ++ Success ∷ x)
cut_failure None u p some e next = absurd cc
cut_failure (Some v) u [] some e next = absurd (some v refl cc)
cut_failure (Some v) u (Success ∷ p) some e next = absurd cc
cut_failure (Some v) u (Failure ∷ p) some e next = let f : v ≡ p ++ Failure ∷ [] = cc in let n = next p (ap Some f) in (n.0, ap (λ (w : OutcomeWord). Failure ∷ w) n.1)

-- a word that is cut goes on there with a success
pub cut_of : (allowed : Test) (u p : OutcomeWord) → turned allowed u ≡ Some (p ++ Failure ∷ []) → (x : OutcomeWord) × (u ≡ p ++ Success ∷ x)
cut_of allowed [] p e = absurd cc
cut_of allowed (Success ∷ u) p e = cut_success (allowed (Failure ∷ [])) (turned (allowed_beyond Success allowed) u) u p e (λ q h. cut_of (allowed_beyond Success allowed) u q h)
cut_of allowed (Failure ∷ u) p e = cut_failure (turned (allowed_beyond Failure allowed) u) u p (λ v h. turned_some (allowed_beyond Failure allowed) u v h) e (λ q h. cut_of (allowed_beyond Failure allowed) u q h)

begins_with : (allowed : Test) (kinds : OutcomeWord → WordKind) (n : ℕ) (q : OutcomeWord) → (y : OutcomeWord) × (first_from allowed kinds n q ≡ q ++ y)
begins_with allowed kinds n [] = (first_run allowed kinds n, refl)
begins_with allowed kinds n (d ∷ q) = let r = begins_with (allowed_beyond d allowed) (beyond d kinds) (pred n) q in (r.0, ap (λ (w : OutcomeWord). d ∷ w) r.1)

shared : (p x y : OutcomeWord) → common_prefix (p ++ Success ∷ x) (p ++ Failure ∷ y) ≡ p
shared [] x y = refl
shared (Success ∷ p) x y = ap (λ (w : OutcomeWord). Success ∷ w) (shared p x y)
shared (Failure ∷ p) x y = ap (λ (w : OutcomeWord). Failure ∷ w) (shared p x y)

parts_there : (allowed : Test) (kinds : OutcomeWord → WordKind) (n : ℕ) (u p w : OutcomeWord) → turned allowed u ≡ Some (p ++ Failure ∷ []) → first_from allowed kinds n (p ++ Failure ∷ []) ≡ w → common_prefix u w ≡ p
parts_there allowed kinds n u p w e f =
    let x = cut_of allowed u p e in
    let y = begins_with allowed kinds n (p ++ Failure ∷ []) in
    let w' : w ≡ p ++ Failure ∷ y.0 = sym f ∙ y.1 ∙ append_assoc p (Failure ∷ []) y.0 in
    ap (λ (v : OutcomeWord). common_prefix v w) x.1 ∙ ap (λ (v : OutcomeWord). common_prefix (p ++ Success ∷ x.0) v) w' ∙ shared p x.0 y.0

-- ---- the next run

-- the last mark
pub record BackAt (task : Task) (u : OutcomeWord) (r back : Record) : Type 0 where
  pub parted : OutcomeWord
  pub cut : turned (is_allowed task) u ≡ Some (parted ++ Failure ∷ [])
  pub asks : StoppedAt task parted Asks back.present
  pub marks : AreMarks task parted back.marked
  pub begun : back.begun ≡ r.begun

back_in : (task : Task) (u : OutcomeWord) (present : Moment) (begun : ℕ) (marked : List Moment) → AreMarks task u marked → true ≡ not (length marked == 0) → BackAt task u (record { present = present; marked = marked; begun = begun }) (returned present begun marked)
back_in task u present begun [] h some = absurd (let f = some in cc)
back_in task u present begun (m ∷ ms) h some = record { parted = h.0; cut = h.1; asks = h.2; marks = h.3; begun = refl }

pub back_at : (task : Task) (u : OutcomeWord) (r back : Record) → AreMarks task u r.marked → true ≡ not (length r.marked == 0) → back ≡ gone_back r → BackAt task u r back
back_at task u r back h some b = subst (λ (x : Record). BackAt task u r x) (sym b) (back_in task u r.present r.begun r.marked h some)

pub some_there : (n : ℕ) → not (suc n == 0) ≡ true
some_there n = grind arith

-- there is no mark
none_in : (task : Task) (u : OutcomeWord) (marked : List Moment) → AreMarks task u marked → false ≡ not (length marked == 0) → turned (is_allowed task) u ≡ None
none_in task u [] h none = h
none_in task u (m ∷ ms) h none = absurd (let f : false ≡ true = none ∙ some_there (length ms) in cc)

pub none_marked : (task : Task) (u w : OutcomeWord) (r : Record) → IsListed task u → AreMarks task u r.marked → false ≡ not (length r.marked == 0) → FoundNext task u w None r r
none_marked task u w r is h none = (task_ends task u is (none_in task u r.marked h none), refl)

-- the steps at the mark
asked_steps : (task : Task) (p : OutcomeWord) (m : Moment) → StoppedAt task p Asks m → asked task p ≡ m.steps
asked_steps task p m h = ap (λ (a : Answer). (state_of a).steps) (dry_there task p m h)

-- and the commands that took an outcome
asked_logged : (task : Task) (p : OutcomeWord) (m : Moment) → StoppedAt task p Asks m → length (asked_in m.log) ≡ length p
asked_logged task p m h = sym (ap (λ (a : Answer). length (asked_in (state_of a).log)) (dry_there task p m h)) ∙ asked_many task p (asked_kind task p m h)

-- the log of a text that stopped is that of the run
pub unexpected_logged : (task : Task) (p : OutcomeWord) (stop : Stop) (m : Moment) → StoppedAt task p stop m → length (unexpected_of task.limits.devices (asked_in m.log)) ≡ unexpected task p
unexpected_logged task p Asks m h = sym (ap (λ (a : Answer). length (unexpected_of task.limits.devices (asked_in (state_of a).log))) (dry_there task p m h))
unexpected_logged task p (Ends halt) m h =
    let a : IsAnswer (halt_shown halt) (state_at m []) (run_on task p) = is_over (run_on task p) (halt_shown halt) (state_at m []) (ap (λ (v : OutcomeWord). settled (run_on task v)) (sym (append-nil p)) ∙ h []) in
    sym (ap (λ (s : State). length (unexpected_of task.limits.devices (asked_in s.log))) a.state_is)

-- a count of the log, where a device command asks
pub counted_behind : (task : Task) (q : OutcomeWord) (stop : Stop) (m : Moment) (are count : ℕ) → StoppedAt task q stop m → are ≡ unexpected task q → CountsFor task.failures are count → stop ≡ Asks → IsCounted task q count
counted_behind task q stop m are count h e n asks =
    let few = unexpected_within task q (asked_kind task q m (subst (λ (s : Stop). StoppedAt task q s m) asks h)) in
    (counts_within task.failures are count (length q) n (omega (arith, few, e)), counts_so task.failures task q are count n e)

outcomes_take : (n : ℕ) (digits : Text) → outcomes (take n digits) ≡ take n (outcomes digits)
outcomes_take n digits = sym (take-map outcome_of n digits)

-- the digits before the mark
pub record CutThere (task : Task) (digits cut digits' : Text) (p : OutcomeWord) : Type 0 where
  pub word : outcomes digits' ≡ p ++ Failure ∷ []
  pub front : outcomes cut ≡ p

cut_within : (digits : Text) (p x : OutcomeWord) → outcomes digits ≡ p ++ Success ∷ x → length p ≤ length digits
cut_within digits p x e = let a = ap length e in let b = length-append p (Success ∷ x) in let c = outcomes_length digits in omega arith

pub count_within : (task : Task) (digits : Text) (r back : Record) → BackAt task (outcomes digits) r back → length (asked_in back.present.log) ≤ length digits
count_within task digits r back a =
    let x = cut_of (is_allowed task) (outcomes digits) a.parted a.cut in
    let l = cut_within digits a.parted x.0 x.1 in
    let n = asked_logged task a.parted back.present a.asks in
    omega (arith, l, n)

pub cut_there : (task : Task) (digits cut digits' : Text) (r back : Record) → (a : BackAt task (outcomes digits) r back) → cut ≡ take (length (asked_in back.present.log)) digits → digits' ≡ cut ++ 49 ∷ [] → CutThere task digits cut digits' a.parted
cut_there task digits cut digits' r back a e d =
    let x = cut_of (is_allowed task) (outcomes digits) a.parted a.cut in
    let n = asked_logged task a.parted back.present a.asks in
    let front : outcomes cut ≡ a.parted =
    ap outcomes e ∙ outcomes_take (length (asked_in back.present.log)) digits ∙ ap (λ (k : ℕ). take k (outcomes digits)) n ∙ ap (take (length a.parted)) x.1 ∙ take-append_seam a.parted (Success ∷ x.0) in
    record { word = outcomes_on cut digits' Failure d ∙ ap (λ (w : OutcomeWord). w ++ Failure ∷ []) front; front = front }

-- there is room for one more
pub room_behind : (task : Task) (digits cut : Text) (r back : Record) (a : BackAt task (outcomes digits) r back) → cut ≡ take (length (asked_in back.present.log)) digits → length cut < task.limits.device_bound
room_behind task digits cut r back a e =
    let front = ap length (cut_there task digits cut (cut ++ 49 ∷ []) r back a e refl).front in
    let l = outcomes_length cut in
    let k = asked_within task a.parted back.present a.asks in
    omega (arith, front, l, k)

pub digits_taken : (n : ℕ) (digits : Text) → AreDigits digits → AreDigits (take n digits)
digits_taken n digits h = ap (map outcome_digit) (outcomes_take n digits) ∙ sym (take-map outcome_digit n (outcomes digits)) ∙ ap (take n) h

pub goes_behind : (task : Task) (q : OutcomeWord) (stop : Stop) (back r₁ : Record) (p : OutcomeWord) → StoppedAt task p Asks back.present → q ≡ p ++ Failure ∷ [] → Stops task.limits stop (λ w. asked_at task.limits back.present (outcome_when false ∷ w)) r₁.present → StoppedAt task q stop r₁.present
goes_behind task q stop back r₁ p asks e k = subst (λ (w : OutcomeWord). StoppedAt task w stop r₁.present) (sym e) (stopped_on task p back.present r₁.present Failure stop asks k)

pub marks_behind : (task : Task) (q : OutcomeWord) (back r₁ : Record) (p : OutcomeWord) → AreMarks task p back.marked → q ≡ p ++ Failure ∷ [] → r₁.marked ≡ back.marked → AreMarks task q r₁.marked
marks_behind task q back r₁ p marks e m = subst (λ (w : OutcomeWord). AreMarks task w r₁.marked) (sym e) (subst (λ (ms : List Moment). AreMarks task (p ++ Failure ∷ []) ms) (sym m) (marked_failure task p back.marked marks))

pub found_behind : (task : Task) (u q w : OutcomeWord) (halt : Halt) (r back r₁ r₂ : Record) → IsListed task u → (a : BackAt task u r back) → q ≡ a.parted ++ Failure ∷ [] → r₁.begun + back.present.steps ≡ back.begun + r₁.present.steps → back.present.steps ≤ r₁.present.steps → Found task q w halt r₁ r₂ → FoundBehind task u w halt r r₂
found_behind task u q w halt r back r₁ r₂ run a is b l f =
    let g = f.grows in
    let parted = parts_there (is_allowed task) (kind task) task.limits.device_bound u a.parted w a.cut (ap (first_from (is_allowed task) (kind task) task.limits.device_bound) (sym is) ∙ f.first) in
    let c = f.begun in
    let d = a.begun in
    let k = asked_steps task a.parted back.present a.asks in
    record {
      run = f.run;
      moment = f.moment;
      ending = f.ending;
      marks = f.marks;
      follows = subst (λ (v : OutcomeWord). rest task u ≡ v ∷ rest task v) f.first (task_goes_on task u q run (a.cut ∙ ap Some (sym is)));
      begun = ap (λ (p : OutcomeWord). r₂.begun + asked task p) parted ∙ (let z : r₂.begun + asked task a.parted ≡ r.begun + r₂.present.steps = omega arith in z);
      within = f.within;
      shared = subst (λ (p : OutcomeWord). asked task p ≤ r₂.present.steps) (sym parted) (let z : asked task a.parted ≤ r₂.present.steps = omega arith in z);
    }
