-- How far a run of a task is that has taken a word: it starts, takes outcomes, asks and ends.
use Rattle.std.proofs.Common.{List, [], ◌∷◌, ◌++◌, Option, Some, None, refl, sym, ap, ◌∙◌, ◌≡◌, append_assoc, arith}
use Rattle.device_list.specs.declared.finish.BoardEnd.{BoardEnd}
use Rattle.hushlang.specs.Tree as tree
use Rattle.hushlang.specs.Tree.{Script, IsProper}
use Rattle.rehearse_terms.specs.Outcomes.{OutcomeWord, Outcome, Success, Failure}
use Rattle.hushlang_shells.specs.TreesByShell.{TextRead, Runs, Fails, Panics, Unread, first_in}
use Rattle.rehearse_terms.specs.State.{Text, State, start}
use Rattle.device_list.specs.Called.{sets_in}
use Rattle.rehearse_rules.specs.Execution.{End, Panic, Finished, Request, set_status, run_read, take_outcome, finish, logged, set_environment}
use Rattle.rehearse_rules.specs.ByShell.{unread}
use Rattle.rehearse_rules.specs.Runs.{Task, run_on}
use Rattle.hushlang_shells.proofs.TreeByShellLemmas.{first_texts_are_proper}
use Rattle.rehearse_machine.specs.Frames.{Frame, Lists, Next, Go, Ask, Stop, move, finish_next, answered, begun_text, with_file}
use Rattle.rehearse_machine.specs.Came.{settled}
use Rattle.rehearse_machine.specs.Meaning.{with, full, continue, comes_to, AreProperFrames, StandsAt, AsksAt, AfterMove}
use Rattle.rehearse_machine.proofs.StepBoundLemmas.{closed_exec}
use Rattle.rehearse_machine.proofs.MoveMeaning.{continue-ended, move-is}

module _ (task : Task) where
  pub after-is : (p : OutcomeWord) (next : Next) → ((w : OutcomeWord) → settled (run_on task (p ++ w)) ≡ comes_to task.limits w next) → AfterMove task p next
  after-is p (Go fs s) h = h
  after-is p (Ask request fs s) h = h
  after-is p (Stop ending s) h = h

  -- a move keeps the place
  pub moves : (p : OutcomeWord) (fs : List Frame) (s : State) → AreProperFrames fs → StandsAt task p fs s → AfterMove task p (move task.limits fs s)
  moves p fs s proper h = after-is p (move task.limits fs s) (λ w. h w ∙ sym (move-is task.limits w fs proper s))

  -- where a run starts
  abbrev pub begun : TextRead → Next
  begun (Runs t) = Go (Lists t ∷ []) (begun_text t (start task.written task.environment []))
  begun Fails = Stop (End 1) (set_status 1 (start task.written task.environment []))
  begun Panics = Stop (Panic task.name) (start task.written task.environment [])
  begun Unread = Stop (unread task.limits.shell task.name) (start task.written task.environment [])

  read_as : (found : TextRead) → first_in task.limits.shell task.text ≡ found → (w : OutcomeWord) → run_on task w ≡ run_read task.limits (full task.limits) task.name found (start task.written task.environment w)
  read_as found e w = ap (λ (x : TextRead). run_read task.limits (full task.limits) task.name x (start task.written task.environment w)) e

  begins_by : (found : TextRead) → ((t : Script) → found ≡ Runs t → IsProper t) → (w : OutcomeWord) → settled (run_read task.limits (full task.limits) task.name found (start task.written task.environment w)) ≡ comes_to task.limits w (begun found)
  begins_by Fails p w = refl
  begins_by Panics p w = refl
  begins_by Unread p w = refl
  begins_by (Runs tree.Empty) p w = ap settled (closed_exec task.limits task.limits.step_bound tree.Empty tt (with w (begun_text tree.Empty (start task.written task.environment []))) (omega arith))
  begins_by (Runs (tree.Runs l ls)) p w = ap settled (closed_exec task.limits task.limits.step_bound (tree.Runs l ls) (p (tree.Runs l ls) refl) (with w (start task.written task.environment [])) (omega arith))

  pub begins : (found : TextRead) → first_in task.limits.shell task.text ≡ found → AfterMove task [] (begun found)
  begins found e = after-is [] (begun found) (λ w. ap settled (read_as found e w) ∙ begins_by found (λ t f. first_texts_are_proper task.limits.shell task.text t (e ∙ f)) w)

  finish-is : (w : OutcomeWord) (b : Option BoardEnd) (name : Text) (fs : List Frame) (s : State) → continue task.limits fs (finish b name (with w s)) ≡ comes_to task.limits w (finish_next b name fs s)
  finish-is w (Some finish) name fs s = continue-ended task.limits fs (Finished finish name) (with w s)
  finish-is w None name fs s = refl

  pub answered-is : (w : OutcomeWord) (outcome : Outcome) (r : Request) (fs : List Frame) (s : State) → continue task.limits (with_file s.memory.status r.effect.runs fs) (take_outcome r (outcome ∷ w) (with (outcome ∷ w) s)) ≡ comes_to task.limits w (answered outcome r fs s)
  answered-is w Success r fs s = finish-is w r.effect.ends r.name (with_file s.memory.status r.effect.runs fs) (set_environment (sets_in r.words r.effect.sets) (logged Success r s))
  answered-is w Failure r fs s = refl

  -- an outcome for the command that asks
  pub takes : (p : OutcomeWord) (r : Request) (fs : List Frame) (s : State) (outcome : Outcome) → AsksAt task p r fs s → AfterMove task (p ++ outcome ∷ []) (answered outcome r fs s)
  takes p r fs s outcome h = after-is (p ++ outcome ∷ []) (answered outcome r fs s) (λ w. ap (λ (v : OutcomeWord). settled (run_on task v)) (append_assoc p (outcome ∷ []) w) ∙ h (outcome ∷ w) ∙ answered-is w outcome r fs s)
