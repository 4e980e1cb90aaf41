-- A call that succeeds in a run, and needs another one, has that one before it in the log.
use Rattle.std.proofs.Common.{ℕ, ◌&&◌, ◌≡◌, ◌∙◌, Bool, true, false, cond, List, [], ◌∷◌, ◌++◌, length, Option, Some, None, refl, sym, ap, subst, nat_lt, append_assoc}
use Rattle.std.proofs.lemmas.List.{append-nil}
use Rattle.builtins.specs.Builtins.{builtin_of}
use Rattle.device_list.specs.declared.finish.BoardEnd.{BoardEnd}
use Rattle.device_list.specs.Called.{sets_in}
use Rattle.device_list.specs.DeviceList.{Effect, Devices, effect_of}
use Rattle.rehearse_terms.specs.Outcomes.{Outcome, OutcomeWord, Success, Failure}
use Rattle.rehearse_terms.specs.State.{Text, LoggedCommand, State, answer_in, start}
use Rattle.rehearse_rules.specs.Needs.{is_met, has_room, effect_now}
use Rattle.rehearse_rules.specs.Execution.{Limits, Answer, Ended, CutDevices, Request, succeeds, told, told_again, tell_or_take, take_outcome, with_outcome, device, logged, set_environment, finish}
use Rattle.rehearse_rules.specs.Laws.{NeedsAreMet}
use Rattle.rehearse_rules.specs.Runs.{Task, run_on, state_of}
use Rattle.rehearse_rules.proofs.KeptLogs.{run-keeps}

first_same : (x y : Text) (xs ys : List Text) → x ∷ xs ≡ y ∷ ys → x ≡ y
first_same x y xs ys e = cc

rest_same : (x y : Text) (xs ys : List Text) → x ∷ xs ≡ y ∷ ys → xs ≡ ys
rest_same x y xs ys e = cc

effect_same : (effect listed : Effect) → Some effect ≡ Some listed → effect ≡ listed
effect_same effect listed e = cc

module _ (devices : Devices) where
  -- ---- each command by the log before it

  abbrev IsMetAt : List LoggedCommand → LoggedCommand → Type 0
  IsMetAt front one = (name : Text) (words : List Text) (listed : Effect) → one.words ≡ name ∷ words → builtin_of name ≡ None → effect_of devices name words ≡ Some listed → one.success ≡ true → is_met listed.needs front ≡ true

  abbrev AllMet : List LoggedCommand → List LoggedCommand → Type 0
  AllMet front [] = Unit {0}
  AllMet front (one ∷ log) = IsMetAt front one × AllMet (front ++ one ∷ []) log

  one_more : (front log : List LoggedCommand) (one : LoggedCommand) → AllMet front log → IsMetAt (front ++ log) one → AllMet front (log ++ one ∷ [])
  one_more front [] one h met = (subst (λ (l : List LoggedCommand). IsMetAt l one) (append-nil front) met, tt)
  one_more front (first ∷ log) one h met =
      (h.0, one_more (front ++ first ∷ []) log one h.1 (subst (λ (l : List LoggedCommand). IsMetAt l one) (sym (append_assoc front (first ∷ []) log)) met))

  one_of : (front before behind : List LoggedCommand) (one : LoggedCommand) → AllMet front (before ++ one ∷ behind) → IsMetAt (front ++ before) one
  one_of front [] behind one h = subst (λ (l : List LoggedCommand). IsMetAt l one) (sym (append-nil front)) h.0
  one_of front (first ∷ before) behind one h =
      subst (λ (l : List LoggedCommand). IsMetAt l one) (append_assoc front (first ∷ []) before) (one_of (front ++ first ∷ []) before behind one h.1)

  abbrev Met : List LoggedCommand → Type 0
  Met log = AllMet [] log

  abbrev MetAnswer : Answer → Type 0
  MetAnswer a = Met (state_of a).log

  -- ---- a device command keeps it

  -- its effect is what the list says of the call, in this state
  abbrev AsSaid : Option ℕ → State → (name : Text) → (words : List Text) → Effect → Type 0
  AsSaid room s name words effect = (listed : Effect) → builtin_of name ≡ None → effect_of devices name words ≡ Some listed → effect ≡ effect_now room s listed

  told_unmet : (room : Option ℕ) (r : Request) (s : State) (listed : Effect) → r.effect ≡ effect_now room s listed → is_met listed.needs s.log ≡ false → told r s.log ≡ Some false
  told_unmet room r s listed e f =
      ap (λ (x : Effect). cond x.stays (answer_in s.log (r.name ∷ r.words)) x.always)
      (e ∙ ap (λ (b : Bool). cond (b && has_room room s.memory.environment listed.sets) listed (record listed { stays = false; always = Some false })) f)

  -- one that is reported no failure has what it needs
  met_unless : (room : Option ℕ) (r : Request) (s : State) (o : Option Bool) → told r s.log ≡ o → AsSaid room s r.name r.words r.effect → (o ≡ Some false → ⊥) → (one : LoggedCommand) → one.words ≡ r.name ∷ r.words → IsMetAt s.log one
  met_unless room r s o e said other one own name words listed same free found success = by (is_met listed.needs s.log) refl
    where
      named : r.name ≡ name
      named = first_same r.name name r.words words (sym own ∙ same)

      spoken : r.words ≡ words
      spoken = rest_same r.name name r.words words (sym own ∙ same)

      effect : r.effect ≡ effect_now room s listed
      effect = said listed (ap builtin_of named ∙ free) ((λ i. effect_of devices (named i) (spoken i)) ∙ found)

      by : (b : Bool) → is_met listed.needs s.log ≡ b → is_met listed.needs s.log ≡ true
      by true f = f
      by false f = absurd (other (sym e ∙ told_unmet room r s listed effect f))

  abbrev entry : Outcome → Request → LoggedCommand
  entry outcome r = record { success = succeeds outcome; words = r.name ∷ r.words; stays = r.effect.stays; again = r.again }

  fails : (r : Request) (s : State) → IsMetAt s.log (entry Failure r)
  fails r s name words listed same free found success = absurd (let g = success in cc)

  finish-met : (ends : Option BoardEnd) (name : Text) (s : State) → Met s.log → MetAnswer (finish ends name s)
  finish-met (Some finish) name s h = h
  finish-met None name s h = h

  outcome-met : (outcome : Outcome) (r : Request) (s : State) → Met s.log → IsMetAt s.log (entry outcome r) → MetAnswer (with_outcome outcome r s)
  outcome-met Success r s h met = finish-met r.effect.ends r.name (set_environment (sets_in r.words r.effect.sets) (logged Success r s)) (one_more [] s.log (entry Success r) h met)
  outcome-met Failure r s h met = one_more [] s.log (entry Failure r) h met

  takes-met : (r : Request) (w : OutcomeWord) (s : State) → Met s.log → ((outcome : Outcome) → IsMetAt s.log (entry outcome r)) → MetAnswer (take_outcome r w s)
  takes-met r [] s h met = h
  takes-met r (outcome ∷ rest) s h met = outcome-met outcome r (record s { word = rest }) h (met outcome)

  tells-met : (room : Option ℕ) (r : Request) (s : State) (o : Option Bool) → told r s.log ≡ o → AsSaid room s r.name r.words r.effect → Met s.log → MetAnswer (tell_or_take o r s)
  tells-met room r s None e said h = takes-met r s.word s h (λ outcome. met_unless room r s None e said (λ f. let g = f in cc) (entry outcome r) refl)
  tells-met room r s (Some true) e said h =
      outcome-met Success (told_again r) s h (met_unless room r s (Some true) e said (λ f. let g = f in cc) (entry Success (told_again r)) refl)
  tells-met room r s (Some false) e said h = outcome-met Failure (told_again r) s h (fails (told_again r) s)

  device-met : (limits : Limits) (r : Request) (s : State) → AsSaid limits.room s r.name r.words r.effect → Met s.log → MetAnswer (device limits r s)
  device-met limits r s said h = by (nat_lt (length s.log) limits.device_bound)
    where
      by : (room : Bool) → MetAnswer (elim room [ true ↦ tell_or_take (told r s.log) r s | false ↦ Ended CutDevices s ])
      by true = tells-met limits.room r s (told r s.log) refl said h
      by false = h

-- ---- of a run

all-met : (task : Task) (w : OutcomeWord) → Met task.limits.devices (state_of (run_on task w)).log
all-met task w =
    let devices = task.limits.devices in
    run-keeps (Met devices) task.limits (AsSaid devices task.limits.room)
    (λ name named s words listed free found. absurd (let g = sym free ∙ named in cc))
    (λ name words effect e s listed free found. ap (effect_now task.limits.room s) (effect_same effect listed (sym e ∙ found)))
    (λ r fresh s said h. device-met devices task.limits r s said h)
    task.limits.step_bound task.name task.text (start task.written task.environment w) tt

pub needs_are_met : NeedsAreMet
needs_are_met task w front behind one name words effect e same free found success =
    one_of task.limits.devices [] front behind one (subst (Met task.limits.devices) e (all-met task w)) name words effect same free found success
