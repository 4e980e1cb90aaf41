-- What a status says of what was done.
use Rattle.std.proofs.Common.{arith, ◌≡◌, ◌≤◌, ◌⊎◌, inl, inr, ℕ, Bool, true, false, sym, subst, List, Option, Ok, Err}
use Rattle.std.specs.Prelude.{Result}
use Rattle.output.specs.Sink.{Sink}
use Rattle.clap.specs.Words.{Text}
use Rattle.tool_words.specs.declared.ask.UseError.{UseError}
use Rattle.output.specs.Outputs.{Outputs, outputs}
use Rattle.tool_files.specs.Told.{Told}
use Rattle.tool_steps.specs.Running.{Ends, FilesShown, HasDone, HasRefused}

-- the files at a moment
abbrev files : ℕ → Option Told → Bool → FilesShown
files faults told locked = record { faults = faults; told = told; locked = locked }

-- words that were understood do not end as misused ones
pub never-misused : {Fault : Type 0} (program : List ℕ) (answer : Result Bool Fault) (told err' : Sink) (status : ℕ) → Ends program 1 answer told err' status → status ≡ 2 → ⊥
never-misused program (Ok true) told err' status ends is = omega (arith, ends.0, is)
never-misused program (Ok false) told err' status ends is = omega (arith, ends.0, is)
never-misused program (Err fault) told err' status ends is = omega (arith, ends.0, is)

-- a call without words is never misused
pub printed-low : (status : ℕ) → (status ≡ 0) ⊎ (status ≡ 1) → status ≤ 1
printed-low status (inl is) = omega (arith, is)
printed-low status (inr is) = omega (arith, is)

pub ends-low : {Fault : Type 0} (program : List ℕ) (answer : Result Bool Fault) (told err' : Sink) (status : ℕ) → Ends program 1 answer told err' status → status ≤ 2
ends-low program (Ok true) told err' status ends = omega (arith, ends.0)
ends-low program (Ok false) told err' status ends = omega (arith, ends.0)
ends-low program (Err fault) told err' status ends = omega (arith, ends.0)

pub status-done : {Ask Fault : Type 0} {locked locked' : Bool} (program : List ℕ) (Answers : List Text → Result Ask UseError → Type 0) (Leaves : Ask → Result Bool Fault → FilesShown → FilesShown → Type 0) (Does : Ask → Option Told → Option Told → Outputs → Result Bool Fault → Type 0)
    (words : List Text) (ask : Ask) (faults faults' : ℕ) (before after : Option Told) (out out' err told err' : Sink) (answer : Result Bool Fault) (status : ℕ)
    → Answers words (Ok ask) → Leaves ask answer (files faults before locked) (files faults' after locked') → Does ask before after (outputs out out' err told) answer → Ends program 1 answer told err' status → status ≡ 0
    → HasDone Answers Leaves Does words (files faults before locked) (files faults' after locked') (outputs out out' err err')
status-done program Answers Leaves Does words ask faults faults' before after out out' err told err' (Ok true) status asked leaves does ends is =
    record { ask = ask; asked = asked; leaves = leaves; does = subst (λ (e : Sink). Does ask before after (outputs out out' err e) (Ok true)) (sym ends.1) does }
status-done program Answers Leaves Does words ask faults faults' before after out out' err told err' (Ok false) status asked leaves does ends is = let e : ⊥ = omega (arith, ends.0, is) in absurd e
status-done program Answers Leaves Does words ask faults faults' before after out out' err told err' (Err fault) status asked leaves does ends is = let e : ⊥ = omega (arith, ends.0, is) in absurd e

pub status-refused : {Ask Fault : Type 0} {locked locked' : Bool} (program : List ℕ) (Answers : List Text → Result Ask UseError → Type 0) (Leaves : Ask → Result Bool Fault → FilesShown → FilesShown → Type 0) (Does : Ask → Option Told → Option Told → Outputs → Result Bool Fault → Type 0)
    (words : List Text) (ask : Ask) (faults faults' : ℕ) (before after : Option Told) (out out' err told err' : Sink) (answer : Result Bool Fault) (status : ℕ)
    → Answers words (Ok ask) → Leaves ask answer (files faults before locked) (files faults' after locked') → Does ask before after (outputs out out' err told) answer → Ends program 1 answer told err' status → status ≡ 1
    → HasRefused program Answers Leaves Does words (files faults before locked) (files faults' after locked') (outputs out out' err err')
status-refused program Answers Leaves Does words ask faults faults' before after out out' err told err' (Ok true) status asked leaves does ends is = let e : ⊥ = omega (arith, ends.0, is) in absurd e
status-refused program Answers Leaves Does words ask faults faults' before after out out' err told err' (Ok false) status asked leaves does ends is =
    record { ask = ask; asked = asked; answer = Ok false; is_refusal = λ e. cc; leaves = leaves; told_from = told; told = ends.1; does = does }
status-refused program Answers Leaves Does words ask faults faults' before after out out' err told err' (Err fault) status asked leaves does ends is =
    record { ask = ask; asked = asked; answer = Err fault; is_refusal = λ e. cc; leaves = leaves; told_from = told; told = ends.1; does = does }
