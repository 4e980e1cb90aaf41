-- There is a text to run in an environment exactly if there is one in the environment of a script.
use Rattle.std.proofs.Common.{◌≡◌, Bool, true, false, cond, ◌||◌, List, [], ◌∷◌, Option, Some, None, IsSome, unwrap_or, option_map, rules, refl, sym, ap, ◌∙◌}
use Rattle.std.specs.Prelude.{if◌then◌else◌}
use Rattle.std.specs.FinMap as finite
use Rattle.std.specs.FinMap.{entries, get-insert, get-empty}
use Rattle.std.specs.Ordering.{nat_cmp}
use Rattle.std.specs.Cmp.Lexicographic.{slice_cmp, texts_ties}
use Rattle.std.proofs.lemmas.Cmp.{nat_list_cmp_total}
use Rattle.std.proofs.Math.Bool.{or-false}
use Rattle.bootstore_state.specs.Moment as stored
use Rattle.bootstore_state.specs.Moment.{set_in_turn, environment_of}
use Rattle.envtools.specs.Environment.{value_of, same}
use Rattle.rehearse_terms.specs.State.{Text, get}
use Rattle.device_list.specs.DeviceList.{Devices}
use Rattle.rehearse_terms.specs.Bounds.{BoundsShown}
use Rattle.rehearse_rules.specs.Runs.{Task}
use Rattle.rehearse_machine.specs.Tasks.{SourceShown, task_found, task_from, text_by, text_in}
use Rattle.bootstore_state.proofs.StateLemmas.{stored_values}

abbrev is_there : Option Text → Bool
is_there None = false
is_there (Some text) = true

step : (b : Bool) (o m : Option Text) (v : Text) → (is_there o || is_there (cond b (Some v) m)) ≡ (is_there (if b then Some v else o) || is_there m)
step true None m v = refl
step true (Some text) m v = refl
step false o m v = refl

set_there : (m : stored.Variables) (pairs : List (Text × Text)) (name : Text) → is_there (finite.get (set_in_turn m pairs) name) ≡ (is_there (value_of pairs name) || is_there (finite.get m name))
set_there m [] name = refl
set_there m (p ∷ ps) name =
    set_there (finite.insert m p.0 p.1) ps name
    ∙ ap (λ (o : Option Text). is_there (value_of ps name) || is_there o) (get-insert nat_list_cmp_total m p.0 p.1 name)
    ∙ ap (λ (b : Bool). is_there (value_of ps name) || is_there (cond b (Some p.1) (finite.get m name))) (sym (texts_ties name p.0))
    ∙ step (same name p.0) (value_of ps name) (finite.get m name) p.1

stays_there : (env : List (Text × Text)) (name : Text) → is_there (get (entries (environment_of env)) name) ≡ is_there (value_of env name)
stays_there env name = ap is_there (stored_values (environment_of env) name) ∙ set_there finite.empty env name ∙ ap (λ (o : Option Text). is_there (value_of env name) || is_there o) (get-empty (slice_cmp nat_cmp) name) ∙ or-false (is_there (value_of env name))

made : (f : Text → Task) (value o : Option Text) → is_there o ≡ is_there value → IsSome value → option_map f o ≡ Some (f (unwrap_or o []))
made f (Some v) (Some text) e h = refl
made f (Some v) None e h = absurd cc
made f None o e h = search rules

unmade : (f : Text → Task) (value o : Option Text) → is_there o ≡ is_there value → value ≡ None → option_map f o ≡ None
unmade f value None e h = refl
unmade f None (Some text) e h = absurd cc
unmade f (Some v) (Some text) e h = absurd cc

there_by : (given value o : Option Text) → is_there o ≡ is_there value → is_there (text_by given o) ≡ is_there (text_by given value)
there_by (Some text) value o e = refl
there_by None value o e = e

text_stays : (env : List (Text × Text)) (source : SourceShown) → is_there (text_by source.given (get (entries (environment_of env)) source.name)) ≡ is_there (text_in env source)
text_stays env source = there_by source.given (value_of env source.name) (get (entries (environment_of env)) source.name) (stays_there env source.name)

pub task_is_found : (env : List (Text × Text)) (devices : Devices) (source : SourceShown) (bounds : BoundsShown) → IsSome (text_in env source) → task_found env devices source bounds ≡ Some (task_from env devices source bounds)
task_is_found env devices source bounds h = made (λ text. record (task_from env devices source bounds) { text = text }) (text_in env source) (text_by source.given (get (entries (environment_of env)) source.name)) (text_stays env source) h

pub task_is_missing : (env : List (Text × Text)) (devices : Devices) (source : SourceShown) (bounds : BoundsShown) → text_in env source ≡ None → task_found env devices source bounds ≡ None
task_is_missing env devices source bounds h = unmade (λ text. record (task_from env devices source bounds) { text = text }) (text_in env source) (text_by source.given (get (entries (environment_of env)) source.name)) (text_stays env source) h
