-- A check of a script, and of the names after it.
use Rattle.std.proofs.Common.{◌≡◌, Bool, ◌&&◌, List, [], ◌++◌, refl, sym, subst, inl, Result, Ok, Err}
use Rattle.std.proofs.lemmas.List.{append-nil}
use Rattle.envimage.specs.Data.{Pair}
use Rattle.envtools.specs.Printing.{all_found}
use Rattle.output.proofs.SinkLemmas.{Wrote-append}
use Rattle.output.specs.Sink.{Sink, Wrote}
use Rattle.hushcheck.specs.Names.{Text, run_by_text}
use Rattle.hushcheck.specs.Calls.{files_by_text}
use Rattle.hushcheck.specs.Report.{behind_script, is_fine_text, lines_of_text}
use Rattle.hushcheck.specs.Rules.{Rules}
use Rattle.hushcheck.specs.Unset.{Used, used_by_text}
use Rattle.hushcheck.specs.Telling.{Stops, WritesCheck, WritesNames, WritesScript}
use Rattle.hushcheck.specs.declared.check_error.CheckError.{CheckError}
use Rattle.hushcheck.proofs.CheckLemmas.{begins_first}
use Rattle.hushcheck.proofs.TellingLemmas.{stops-after, stops-as}

-- no script is after the names that are asked for
pub none-behind : (rules : Rules) (env : List Pair) (used : List Used) (asked : List Text) (so_far : Bool) (answer : Result Bool CheckError) (old new : Sink) → so_far ≡ all_found env asked → used ≡ []
    → WritesNames rules env used (asked ++ []) [] so_far answer old new → WritesCheck rules env asked answer old new
none-behind rules env used asked so_far answer old new is none h =
    subst (λ (b : Bool). WritesNames rules env [] asked [] b answer old new) is
    (subst (λ (us : List Used). WritesNames rules env us asked [] so_far answer old new) none
    (subst (λ (names : List Text). WritesNames rules env used names [] so_far answer old new) (append-nil asked) h))

module _ (rules : Rules) (env : List Pair) (name text : Text) (asked : List Text) where
  -- the output failed within the script's lines, or memory ran out
  pub script-stopped : (old new : Sink) (error : CheckError) → Stops error old new (lines_of_text rules name text) → WritesScript rules env name text asked (Err error) old new
  script-stopped old new error h =
      let lines = lines_of_text rules name text in
      (lines ++ [], record { rest = []; told_is = refl; begins = inl (begins_first rules env (behind_script rules text asked) (files_by_text rules text)) }, stops-as old new lines (lines ++ []) error (sym (append-nil lines)) h)

  -- the script's lines were written, and then those of the names after it
  pub script-behind : (so_far : Bool) (run called : List Text) (used : List Used) (old mid new : Sink) (answer : Result Bool CheckError) → so_far ≡ (all_found env asked && is_fine_text rules text) → run ≡ run_by_text rules.shell text → called ≡ files_by_text rules text → used ≡ used_by_text rules name text
      → Wrote old mid (lines_of_text rules name text) → WritesNames rules env used (asked ++ run) called so_far answer mid new → WritesScript rules env name text asked answer old new
  script-behind so_far run called used old mid new answer is runs calls uses wrote h =
      by answer
      (subst (λ (us : List Used). WritesNames rules env us (behind_script rules text asked) (files_by_text rules text) (all_found env asked && is_fine_text rules text) answer mid new) uses
      (subst (λ (b : Bool). WritesNames rules env used (behind_script rules text asked) (files_by_text rules text) b answer mid new) is
      (subst (λ (files : List Text). WritesNames rules env used (behind_script rules text asked) files so_far answer mid new) calls
      (subst (λ (names : List Text). WritesNames rules env used (asked ++ names) called so_far answer mid new) runs h))))
    where
      by : (answer : Result Bool CheckError) → WritesNames rules env (used_by_text rules name text) (behind_script rules text asked) (files_by_text rules text) (all_found env asked && is_fine_text rules text) answer mid new → WritesScript rules env name text asked answer old new
      by (Ok sound) w = (lines_of_text rules name text ++ w.0, record { rest = w.0; told_is = refl; checks = w.1 }, Wrote-append wrote w.2)
      by (Err error) w = (lines_of_text rules name text ++ w.0, record { rest = w.0; told_is = refl; begins = w.1 }, stops-after old mid new (lines_of_text rules name text) w.0 error wrote w.2)
