-- The run of one word.
use Rattle.std.proofs.Common.{ℕ, ◌≡◌, ◌∙◌, List, [], ◌++◌, Result, Ok, Err, sym, ap, subst}
use Rattle.std.specs.Prelude.{codes}
use Rattle.output.specs.Sink.{Sink, Wrote, BrokeOff, Prints}
use Rattle.output.proofs.SinkLemmas.{Wrote-append, BrokeOff-after}
use Rattle.bootstore_state.specs.Moment.{Moment}
use Rattle.bootstore_state.specs.Record.{Record}
use Rattle.bootstore_state.specs.declared.store.Store.{Ghosts}
use Rattle.rehearse_rules.specs.Listing.{line}
use Rattle.rehearse_terms.specs.State.{Text}
use Rattle.bootstore_state.specs.StoredState.{state_at}
use Rattle.rehearse_rules.specs.Runs.{Task}
use Rattle.rehearse_rules.specs.EndingsShown.{halt_shown}
use Rattle.rehearse_rules.specs.declared.halt.Halt.{Halt}
use Rattle.rehearse_runs.specs.Behind.{IsNoRun}
use Rattle.rehearse_records.specs.Recording.{recorded}
use Rattle.rehearse_runs.specs.RunAlone.{BreaksInside, IsRunOf, WritesAlone, alone_text}
use Rattle.rehearse_runs.specs.RunsShown.{outcomes}
use Rattle.rehearse_runs.specs.StartWord.{digits_in}
use Rattle.rehearse_records.specs.RunViewShown.{shown_word, shown_moment, shown_ending}
use Rattle.rehearse_runs.specs.Walking.{IsLongBehind, WalksTo}
use Rattle.rehearse_records.specs.declared.run_view.RunView.{RunView}
use Rattle.rehearse_runs.specs.declared.walking.Walked.TheVariants as walked
use Rattle.rehearse_runs.proofs.HeadlineLemmas.{digits-spelled}
use Rattle.rehearse_runs.proofs.ListingLemmas.{record_is}

-- a text was written, and another printed after it
pub Prints-behind : {T E : Type 0} (result : Result T E) {a b : Sink} (c : Sink) {xs : List ℕ} (ys : List ℕ) → Wrote a b xs → Prints result b c ys → Prints result a c (xs ++ ys)
Prints-behind (Ok x) c ys w p = Wrote-append w p
Prints-behind (Err e) c ys w p = BrokeOff-after w p

pub long_no_run : (task : Task) (text : Text) → IsLongBehind task [] text → IsNoRun task text
long_no_run task text h w e r = let k = h w e in cc

module _ {S : Type 0} (g : Ghosts S) (task : Task) (printed text all : Text) (names : List Text) (halt : Halt) (old new : Record) (v : RunView S) (is : text ≡ digits_in printed) (there : WalksTo task text all (outcomes all) (walked.Ends halt) old new) (word : shown_word v ≡ text) (moment : shown_moment g v ≡ new.present) (ending : shown_ending v ≡ halt_shown halt) where
  abbrev run_of : IsRunOf task printed
  run_of = record { word = outcomes all; spells = digits-spelled printed (outcomes all) (sym is ∙ there.0); run = there.2.run }

  text_of : recorded (shown_word v) (state_at (shown_moment g v) []) (shown_ending v) names ++ line (codes "done") ≡ alone_text task names (outcomes all)
  text_of = ap (λ (t : Text). t ++ line (codes "done")) (record_is task (outcomes all) (shown_word v) (state_at (shown_moment g v) []) (shown_ending v) names (word ∙ there.0) (ap (λ (m : Moment). state_at m []) moment ∙ there.2.moment) (ending ∙ there.2.ending))

  pub alone_written : {a b : Sink} → Wrote a b (recorded (shown_word v) (state_at (shown_moment g v) []) (shown_ending v) names ++ line (codes "done")) → WritesAlone task printed names a b
  alone_written {a} {b} h = let P : Text → Type 0 = λ t. Wrote a b t in record { is_run = run_of; wrote = subst P text_of h }

  pub alone_broken : {a b : Sink} → BrokeOff a b (recorded (shown_word v) (state_at (shown_moment g v) []) (shown_ending v) names ++ line (codes "done")) → BreaksInside task printed names a b
  alone_broken {a} {b} h = let P : Text → Type 0 = λ t. BrokeOff a b t in record { is_run = run_of; broke = subst P text_of h }
