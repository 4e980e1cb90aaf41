-- The text that is run, at the start of a run.
use Rattle.std.proofs.Common.{List, [], ◌∷◌, Option, None, refl, sym, ap, subst, ◌∙◌, ◌≡◌}
use Rattle.std.specs.Prelude.{unwrap_or}
use Rattle.std.specs.FinMap as finite
use Rattle.std.specs.FinMap.{entries}
use Rattle.hushlang.specs.Tree as tree
use Rattle.hushlang.specs.Tree.{Script}
use Rattle.hushlang.specs.TreesShown as view
use Rattle.hushlang.specs.declared.tree.Script.{Script as Code}
use Rattle.bootstore_state.specs.Moment as stored
use Rattle.bootstore_state.specs.Record.{Record, beginning, started, changed, with_frame}
use Rattle.rehearse_terms.specs.Outcomes.{OutcomeWord}
use Rattle.hushlang_shells.specs.TreesByShell.{Runs, Fails, Panics, Unread, first_in}
use Rattle.rehearse_terms.specs.State.{Text, Variables, get, State, start}
use Rattle.rehearse_terms.specs.declared.written.Written.{Written}
use Rattle.rehearse_rules.specs.Execution.{Limits, Normal, End, Panic, set_status}
use Rattle.rehearse_terms.specs.declared.shell.Shell.{Shell}
use Rattle.rehearse_rules.specs.ByShell.{unread}
use Rattle.rehearse_rules.specs.Runs.{Task, run_on}
use Rattle.bootstore_state.proofs.StateLemmas.{stored_values, stored_starts}
use Rattle.hushlang_shells.proofs.TreeByShellLemmas.{first_texts_are_proper}
use Rattle.rehearse_machine.specs.Frames.{Frame, Lists, begun_text}
use Rattle.rehearse_machine.specs.Places.{frames_of, text_frame}
use Rattle.rehearse_machine.specs.Came.{Over, settled}
use Rattle.rehearse_machine.specs.Tasks.{text_by}
use Rattle.rehearse_machine.specs.Meaning.{continue, with, AreProperFrames}
use Rattle.rehearse_machine.specs.Turning.{IsSound, to_come}
use Rattle.rehearse_machine.proofs.PlaceMoves.{text_begins}
use Rattle.rehearse_machine.proofs.RunSoFar.{begins}

begun_start : (t : Script) (written : Written) (environment : Variables) (w : OutcomeWord) → with w (begun_text t (start written environment [])) ≡ start written environment w
begun_start tree.Empty written environment w = refl
begun_start (tree.Runs l ls) written environment w = refl

-- the frame of a text means the run on it
pub text_runs : (task : Task) (t : Script) (w : OutcomeWord) → first_in task.limits.shell task.text ≡ Runs t → continue task.limits (frames_of (text_frame t ∷ [])) (Normal (start task.written task.environment w)) ≡ settled (run_on task w)
text_runs task t w e =
    ap (λ (x : List Frame). continue task.limits x (Normal (start task.written task.environment w))) (text_begins t)
    ∙ ap (λ (x : State). continue task.limits (Lists t ∷ []) (Normal x)) (sym (begun_start t task.written task.environment w))
    ∙ sym (begins task (Runs t) e w)

pub text_sound : (shell : Shell) (text : Text) (t : Script) → first_in shell text ≡ Runs t → AreProperFrames (frames_of (text_frame t ∷ []))
text_sound shell text t e = subst AreProperFrames (sym (text_begins t)) (first_texts_are_proper shell text t e, tt)

-- the store at the start of a text
abbrev text_moment : Written → stored.Variables → Script → stored.Moment
text_moment written variables t = record (beginning written variables) { frames = text_frame t ∷ [] }

module _ (limits : Limits) (old mid new : Record) (written : Written) (variables : stored.Variables) (child : stored.RunningFrame) (value code : Code) (text : Text) (begun : mid ≡ started written variables old) (pushed : new ≡ changed (with_frame child) mid) (child_is : child ≡ text_frame (view.script value)) (same : value ≡ code) (read : first_in limits.shell text ≡ Runs (view.script code)) where
  pub stands : new.present ≡ text_moment written variables (view.script code)
  stands =
      ap (λ (r : Record). r.present) (pushed ∙ ap (changed (with_frame child)) begun)
      ∙ ap (λ (x : stored.RunningFrame). record (beginning written variables) { frames = x ∷ [] }) (child_is ∙ ap (λ (x : Code). text_frame (view.script x)) same)

  pub stands_sound : IsSound new.present
  stands_sound = subst IsSound (sym stands) (text_sound limits.shell text (view.script code) read)

  pub stands_runs : (name : Text) (w : OutcomeWord) → to_come limits new.present w ≡ settled (run_on (record { limits = limits; environment = entries variables; name = name; text = text; failures = None; written = written }) w)
  stands_runs name w =
      ap (λ (m : stored.Moment). to_come limits m w) stands
      ∙ ap (λ (x : State). continue limits (frames_of (text_frame (view.script code) ∷ [])) (Normal x)) (stored_starts written variables w)
      ∙ text_runs (record { limits = limits; environment = entries variables; name = name; text = text; failures = None; written = written }) (view.script code) w read

-- a text that is not run
pub fails_runs : (task : Task) (w : OutcomeWord) → first_in task.limits.shell task.text ≡ Fails → settled (run_on task w) ≡ Over (End 1) (set_status 1 (start task.written task.environment w))
fails_runs task w e = begins task Fails e w

pub panics_runs : (task : Task) (w : OutcomeWord) → first_in task.limits.shell task.text ≡ Panics → settled (run_on task w) ≡ Over (Panic task.name) (start task.written task.environment w)
panics_runs task w e = begins task Panics e w

pub unread_runs : (task : Task) (w : OutcomeWord) → first_in task.limits.shell task.text ≡ Unread → settled (run_on task w) ≡ Over (unread task.limits.shell task.name) (start task.written task.environment w)
unread_runs task w e = begins task Unread e w

-- the text that a rehearsal reads
pub same_text : (variables : stored.Variables) (given : Option Text) (name found : Text) (present : stored.Moment) → present.environment ≡ variables → found ≡ unwrap_or (text_by given (finite.get present.environment name)) [] → found ≡ unwrap_or (text_by given (get (entries variables) name)) []
same_text variables given name found present e h = h ∙ ap (λ (v : stored.Variables). unwrap_or (text_by given (finite.get v name)) []) e ∙ ap (λ (o : Option Text). unwrap_or (text_by given o) []) (sym (stored_values variables name))
