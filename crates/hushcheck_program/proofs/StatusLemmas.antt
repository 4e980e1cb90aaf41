-- What a status of hushcheck says of what was done.
use Rattle.std.proofs.Common.{arith, ◌≡◌, ◌≤◌, ℕ, Bool, true, false, refl, sym, subst, List, Option, Ok, Err}
use Rattle.std.specs.Prelude.{Result}
use Rattle.output.specs.Sink.{Sink}
use Rattle.clap.specs.Words.{Text}
use Rattle.tool_words.specs.declared.ask.UseError.{UseError}
use Rattle.output.specs.Outputs.{Outputs, outputs}
use Rattle.tool_files.specs.Told.{Told}
use Rattle.hushcheck_program.specs.declared.fault.CheckFault.{CheckFault}
use Rattle.tool_steps.specs.Running.{Ends, FilesShown, HasDone}
use Rattle.hushcheck_program.specs.Statuses.{IsRefused, IsUnsound}

-- the files at a moment
abbrev files : ℕ → Option Told → Bool → FilesShown
files faults told locked = record { faults = faults; told = told; locked = locked }

pub ends-low : (program : List ℕ) (answer : Result Bool CheckFault) (told err' : Sink) (status : ℕ) → Ends program 3 answer told err' status → status ≤ 3
ends-low program (Ok true) told err' status ends = omega (arith, ends.0)
ends-low program (Ok false) told err' status ends = omega (arith, ends.0)
ends-low program (Err fault) told err' status ends = omega (arith, ends.0)

-- words that were understood do not end as misused ones
pub never-misused : (program : List ℕ) (answer : Result Bool CheckFault) (told err' : Sink) (status : ℕ) → Ends program 3 answer told err' status → status ≡ 2 → ⊥
never-misused program (Ok true) told err' status ends is = omega (arith, ends.0, is)
never-misused program (Ok false) told err' status ends is = omega (arith, ends.0, is)
never-misused program (Err fault) told err' status ends is = omega (arith, ends.0, is)

module _ {Ask : Type 0} (program : List ℕ) (Answers : List Text → Result Ask UseError → Type 0) (Leaves : Ask → Result Bool CheckFault → FilesShown → FilesShown → Type 0) (Does : Ask → Option Told → Option Told → Outputs → Result Bool CheckFault → Type 0) (words : List Text) (ask : Ask)
    (faults faults' : ℕ) (before after : Option Told) (locked locked' : Bool) (out out' err told err' : Sink) (status : ℕ) (asked : Answers words (Ok ask)) where
  pub status-done : (answer : Result Bool CheckFault) → Leaves ask answer (files faults before locked) (files faults' after locked') → Does ask before after (outputs out out' err told) answer → Ends program 3 answer told err' status → status ≡ 0
      → HasDone Answers Leaves Does words (files faults before locked) (files faults' after locked') (outputs out out' err err')
  status-done (Ok true) leaves does ends is =
      record { ask = ask; asked = asked; leaves = leaves; does = subst (λ (e : Sink). Does ask before after (outputs out out' err e) (Ok true)) (sym ends.1) does }
  status-done (Ok false) leaves does ends is = let e : ⊥ = omega (arith, ends.0, is) in absurd e
  status-done (Err fault) leaves does ends is = let e : ⊥ = omega (arith, ends.0, is) in absurd e

  pub status-unsound : (answer : Result Bool CheckFault) → Leaves ask answer (files faults before locked) (files faults' after locked') → Does ask before after (outputs out out' err told) answer → Ends program 3 answer told err' status → status ≡ 1
      → IsUnsound program Answers Leaves Does words (files faults before locked) (files faults' after locked') (outputs out out' err err')
  status-unsound (Ok true) leaves does ends is = let e : ⊥ = omega (arith, ends.0, is) in absurd e
  status-unsound (Ok false) leaves does ends is =
      record { ended = record { ask = ask; asked = asked; answer = Ok false; is_refusal = λ e. cc; leaves = leaves; told_from = told; told = ends.1; does = does }; answer_is = refl }
  status-unsound (Err fault) leaves does ends is = let e : ⊥ = omega (arith, ends.0, is) in absurd e

  pub status-refused : (answer : Result Bool CheckFault) → Leaves ask answer (files faults before locked) (files faults' after locked') → Does ask before after (outputs out out' err told) answer → Ends program 3 answer told err' status → status ≡ 3
      → IsRefused program Answers Leaves Does words (files faults before locked) (files faults' after locked') (outputs out out' err err')
  status-refused (Ok true) leaves does ends is = let e : ⊥ = omega (arith, ends.0, is) in absurd e
  status-refused (Ok false) leaves does ends is = let e : ⊥ = omega (arith, ends.0, is) in absurd e
  status-refused (Err fault) leaves does ends is =
      record { ended = record { ask = ask; asked = asked; answer = Err fault; is_refusal = λ e. cc; leaves = leaves; told_from = told; told = ends.1; does = does }; fault = fault; answer_is = refl }
