-- How many bytes a copy takes of a variable of a store.
use Rattle.std.proofs.Common.{◌≡◌, ◌∙◌, ◌+◌, ℕ, nat_le, Bool, List, map, sum_by, ap, sym, Option, Some}
use Rattle.std.proofs.lemmas.List.Folds.{fold-map}
use Rattle.std.specs.FinMap as finite
use Rattle.std.specs.FinMap.{entries}
use Rattle.bootstore_state.specs.Moment as stored
use Rattle.bootstore_state.proofs.StateLemmas.{stored_values}
use Rattle.device_list.specs.DeviceList.{RightSide, CopyOf}
use Rattle.device_list.specs.DevicesShown.{right_shown, setting_shown}
use Rattle.device_list.specs.declared.setting.Setting as rt
use Rattle.rehearse_terms.specs.State.{Text, get}
use Rattle.rehearse_rules.specs.Needs.{bytes_saved, bytes_copied, has_room}

pub copied_so : (variables : stored.Variables) (right : RightSide) (name first second : Text) (value : Option Text) → right ≡ CopyOf name → first ≡ name → second ≡ name → value ≡ finite.get variables second → bytes_saved first value ≡ bytes_copied (entries variables) right
copied_so variables right name first second value is one two found =
    ap (λ (n : Text). bytes_saved n value) one
    ∙ ap (bytes_saved name) (found ∙ ap (finite.get variables) two ∙ sym (stored_values variables name))
    ∙ sym (ap (bytes_copied (entries variables)) is)

-- what is found of the copies of settings is found of the settings
pub settings_within : (variables : stored.Variables) (within : Bool) (given : Option ℕ) (room : ℕ) (sets : List rt.Setting) → given ≡ Some room
    → within ≡ nat_le (sum_by (λ set. bytes_copied (entries variables) (right_shown set.value)) sets) room → within ≡ has_room given (entries variables) (map setting_shown sets)
settings_within variables within given room sets is found =
    found
    ∙ ap (λ (n : ℕ). nat_le n room) (sym (fold-map (λ n set. n + bytes_copied (entries variables) set.1) setting_shown 0 sets))
    ∙ sym (ap (λ (r : Option ℕ). has_room r (entries variables) (map setting_shown sets)) is)
