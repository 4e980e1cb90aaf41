-- Lists that say of no call that it saves.
use Rattle.std.proofs.Common.{◌≡◌, ◌∙◌, refl, sym, ap, Bool, true, false, ◌||◌, cond, List, [], ◌∷◌, ◌++◌, map, append-nil}
use Rattle.std.specs.List.{list_any}
use Rattle.device_list.specs.CallLines.{Pattern}
use Rattle.device_list.specs.DeviceList.{Effect, Devices, Setting}
use Rattle.device_list.specs.Saving.{are_saving, copies_for, copying, lines_save, saved_calls, saved_effect, saved_line, saved_name, saves}
use Rattle.rehearse_terms.specs.State.{Text}
use Rattle.rehearse.specs.SavedCopies.{OtherListsStay}

-- neither of two
none_here : (b c : Bool) → (b || c) ≡ false → b ≡ false
none_here true c e = absurd (let f = e in cc)
none_here false c e = refl

none_there : (b c : Bool) → (b || c) ≡ false → c ≡ false
none_there true c e = absurd (let f = e in cc)
none_there false c e = e

abbrev Line : Type 0
Line = Pattern × Effect

abbrev Named : Type 0
Named = Text × List Line

module _ (names : List Text) where
  settings_stay : (sets : List Setting) → are_saving sets ≡ false → sets ++ copies_for names sets ≡ sets
  settings_stay sets none = ap (λ b. sets ++ cond b (map copying names) []) none ∙ append-nil sets

  line_stays : (line : Line) → are_saving line.1.sets ≡ false → saved_line names line ≡ line
  line_stays line none = ap (λ (sets : List Setting). let l : Line = (line.0, record line.1 { sets = sets }) in l) (settings_stay line.1.sets none)

  lines_stay : (lines : List Line) → lines_save lines ≡ false → map (saved_line names) lines ≡ lines
  lines_stay [] none = refl
  lines_stay (line ∷ lines) none =
      let here = line_stays line (none_here (are_saving line.1.sets) (lines_save lines) none) in
      let there = lines_stay lines (none_there (are_saving line.1.sets) (lines_save lines) none) in
      λ i. here i ∷ there i

  calls_stay : (calls : List Named) → list_any {X = Named} (λ c. lines_save c.1) calls ≡ false → saved_calls names calls ≡ calls
  calls_stay [] none = refl
  calls_stay (c ∷ calls) none =
      let here : map (saved_line names) c.1 ≡ c.1 = lines_stay c.1 (none_here (lines_save c.1) (list_any {X = Named} (λ d. lines_save d.1) calls) none) in
      let there = calls_stay calls (none_there (lines_save c.1) (list_any {X = Named} (λ d. lines_save d.1) calls) none) in
      λ i. (let n : Named = (c.0, here i) in n) ∷ there i

pub other_lists_stay : OtherListsStay
other_lists_stay names devices none = (
  ap (λ calls. record devices { calls = calls }) (calls_stay names devices.calls none),
  ap (λ b. cond b (names ++ map saved_name names) names) none,
)
