-- Lists whose calls save.
use Rattle.std.proofs.Common.{◌≡◌, ℕ, zero, suc, ◌+◌, ◌≤◌, ◌<◌, ◌||◌, Bool, true, false, List, [], ◌∷◌, length, map, drop, Vec, Global, Option, Some, None, refl, ap, ◌∙◌, arith}
use Rattle.std.specs.List.{list_any}
use Rattle.text.specs.Lines.{Text}
use Rattle.device_list.specs.DevicesShown.{Bytes}
use Rattle.device_list.specs.CommandsShown.{lines_shown, calls_shown}
use Rattle.device_list.specs.NamedPlaces.{at_place}
use Rattle.device_list.specs.CallLines.{Pattern}
use Rattle.device_list.specs.DeviceList.{Effect, Devices, steady_effects, steady_if}
use Rattle.device_list.specs.Saving.{are_saving, lines_save, saves}
use Rattle.device_list.specs.declared.call_line.CallLine.{CallLine}

abbrev Entries : Type 0
Entries = List (Bytes × Vec CallLine Global)

abbrev pub save_from : Entries → ℕ → Bool
save_from es at = list_any (λ c. lines_save c.1) (calls_shown (drop at es))

-- the name at a place, and then the others
from_here : (es : Entries) (at : ℕ) (lines : Vec CallLine Global) → at_place es (Some at) ≡ Some lines → save_from es at ≡ (lines_save (lines_shown lines) || save_from es (suc at))
from_here [] at lines there = absurd (let f = there in cc)
from_here (e ∷ es) zero lines there =
    let same : e.1 ≡ lines = let f = there in cc in
    ap (λ (v : Vec CallLine Global). lines_save (lines_shown v) || save_from es 0) same
from_here (e ∷ es) (suc at) lines there = from_here es at lines there

pub save_next : (es : Entries) (at : ℕ) (lines : Vec CallLine Global) → at_place es (Some at) ≡ Some lines → lines_save (lines_shown lines) ≡ false → save_from es at ≡ save_from es (at + 1)
save_next es at lines there none =
    let n : suc at ≡ at + 1 = omega arith in
    from_here es at lines there ∙ (λ i. none i || save_from es (suc at)) ∙ ap (save_from es) n

pub saves_here : (es : Entries) (at : ℕ) (lines : Vec CallLine Global) → at_place es (Some at) ≡ Some lines → lines_save (lines_shown lines) ≡ true → save_from es at ≡ true
saves_here es at lines there some = from_here es at lines there ∙ (λ i. some i || save_from es (suc at))

-- a place that is not there is after the last name
pub within : (es : Entries) (at : ℕ) → at_place es (Some at) ≡ None → length es ≤ at
within [] at none = omega arith
within (e ∷ es) zero none = absurd (let f = none in cc)
within (e ∷ es) (suc at) none = let h = within es at none in omega (arith, h)

-- ---- a list that is steady

lines_steady : (lines : List (Pattern × Effect)) → lines_save (steady_effects lines) ≡ lines_save lines
lines_steady [] = refl
lines_steady (line ∷ lines) = ap (λ b. are_saving line.1.sets || b) (lines_steady lines)

abbrev Named : Type 0
Named = Text × List (Pattern × Effect)

calls_steady : (calls : List Named) → list_any {X = Named} (λ c. lines_save c.1) (map {A = Named} {B = Named} (λ c. (c.0, steady_effects c.1)) calls) ≡ list_any {X = Named} (λ c. lines_save c.1) calls
calls_steady [] = refl
calls_steady (c ∷ calls) = λ i. lines_steady c.1 i || calls_steady calls i

pub saves_steady : (steady : Bool) (devices : Devices) → saves (steady_if steady devices) ≡ saves devices
saves_steady true devices = calls_steady devices.calls
saves_steady false devices = refl
