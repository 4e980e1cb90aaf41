-- The numbers under which the table keeps states: of a place, and of what is known there so far. Ours.
use Rattle.std.specs.Prelude.{ℕ, Bool, true, false, Option, Some, None}
use Rattle.text.specs.TextsShown.{bytes_of_words}
use Rattle.std.specs.FinMap.{get}
use Rattle.bootstore_state.specs.Moment.{Moment}
use Rattle.rehearse_terms.specs.State.{Text, answer_in}
use Rattle.rehearse_rules.specs.Needs.{has_succeeded}
use Rattle.rehearse_states.specs.PlaceNumbers.{mixed, mixed_text, mixed_words}
use Rattle.rehearse_reports.specs.Known.{value_shown}
use Rattle.rehearse_reports.specs.declared.known.Known.{Known}
use Rattle.rehearse_reports.specs.declared.known.Known.TheVariants.{Environment, Local, AnswerTo, Succeeded, Status}

abbrev pub mixed_value : ℕ → Option Text → ℕ
mixed_value number (Some value) = mixed_text (mixed number 1) value
mixed_value number None = mixed number 0

abbrev pub mixed_flag : ℕ → Bool → ℕ
mixed_flag number true = mixed number 1
mixed_flag number false = mixed number 0

abbrev pub mixed_answer : ℕ → Option Bool → ℕ
mixed_answer number (Some success) = mixed_flag (mixed number 1) success
mixed_answer number None = mixed number 0

-- a number with a key and what is known at it; the first part is the kind of the key
abbrev pub mixed_known : ℕ → Known → ℕ
mixed_known number (Environment name value) = mixed_value (mixed_text (mixed number 1) name.items) (value_shown value)
mixed_known number (Local name value) = mixed_value (mixed_text (mixed number 2) name.items) (value_shown value)
mixed_known number (AnswerTo call answer) = mixed_answer (mixed_words (mixed number 3) (bytes_of_words call.items)) answer
mixed_known number (Succeeded start has) = mixed_flag (mixed_words (mixed number 4) (bytes_of_words start.items)) has
mixed_known number (Status status) = mixed (mixed number 5) status

-- a number with the key of what is known, and what a moment has at it
abbrev pub mixed_here : Moment → ℕ → Known → ℕ
mixed_here m number (Environment name value) = mixed_value (mixed_text (mixed number 1) name.items) (get m.environment name.items)
mixed_here m number (Local name value) = mixed_value (mixed_text (mixed number 2) name.items) (get m.locals name.items)
mixed_here m number (AnswerTo call answer) = mixed_answer (mixed_words (mixed number 3) (bytes_of_words call.items)) (answer_in m.log (bytes_of_words call.items))
mixed_here m number (Succeeded start has) = mixed_flag (mixed_words (mixed number 4) (bytes_of_words start.items)) (has_succeeded m.log (bytes_of_words start.items))
mixed_here m number (Status status) = mixed (mixed number 5) m.status
