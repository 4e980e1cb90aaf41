-- Keys with what a moment has at them. Ours.
use Rattle.std.specs.Prelude.{◌≡◌, ℕ, List, [], ◌∷◌, Option, option_map, map, Vec}
use Rattle.std.specs.declared.alloc.Global.{Global}
use Rattle.text.specs.TextsShown.{bytes_of_words}
use Rattle.std.specs.FinMap.{get}
use Rattle.bootstore_state.specs.Moment.{Moment}
use Rattle.rehearse_terms.specs.State.{Text, answer_in}
use Rattle.rehearse_rules.specs.Needs.{has_succeeded}
use Rattle.rehearse_reads.specs.Keys as keys
use Rattle.rehearse_reports.specs.declared.known.Known.{Known}
use Rattle.rehearse_reports.specs.declared.known.Known.TheVariants.{Environment, Local, AnswerTo, Succeeded, Status}

abbrev pub value_shown : Option (Vec ℕ Global) → Option Text
value_shown = option_map (λ value. value.items)

-- the key
abbrev pub key_of : Known → keys.Key
key_of (Environment name value) = keys.Environment name.items
key_of (Local name value) = keys.Local name.items
key_of (AnswerTo call answer) = keys.AnswerTo (bytes_of_words call.items)
key_of (Succeeded start has) = keys.Succeeded (bytes_of_words start.items)
key_of (Status status) = keys.Status

abbrev pub keys_of : List Known → List keys.Key
keys_of = map key_of

-- a moment has this at the key
abbrev pub Holds : Moment → Known → Type 0
Holds m (Environment name value) = get m.environment name.items ≡ value_shown value
Holds m (Local name value) = get m.locals name.items ≡ value_shown value
Holds m (AnswerTo call answer) = answer_in m.log (bytes_of_words call.items) ≡ answer
Holds m (Succeeded start has) = has_succeeded m.log (bytes_of_words start.items) ≡ has
Holds m (Status status) = m.status ≡ status

abbrev pub AllHold : Moment → List Known → Type 0
AllHold m [] = Unit {0}
AllHold m (known ∷ more) = Holds m known × AllHold m more
