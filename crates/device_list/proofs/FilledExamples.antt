-- Worked examples of patterns that name variables, computed.
use Rattle.std.proofs.Common.{◌≡◌, true, [], ◌∷◌, map, Option, Some, None, refl}
use Rattle.std.specs.Prelude.{codes}
use Rattle.text.specs.Lines.{Text}
use Rattle.envtools.specs.Environment.{value_of}
use Rattle.device_list.specs.CallLines.{Exactly, Starting, name_in, filled_text, filled_word}
use Rattle.device_list.specs.DeviceList.{Devices, filled, only, effect_of, all_steady}
use Rattle.device_list.specs.DeviceLaws.{quiet}

names : map name_in (codes "${a}" ∷ codes "${ab}" ∷ codes "${}" ∷ codes "$a" ∷ codes "${a" ∷ codes "{a}" ∷ codes "x${a}" ∷ codes "${a}x" ∷ codes "${a}}" ∷ codes "${" ∷ [] ∷ [])
    ≡ Some (codes "a") ∷ Some (codes "ab") ∷ Some [] ∷ None ∷ None ∷ None ∷ None ∷ None ∷ Some (codes "a}") ∷ None ∷ None ∷ []
names = refl

abbrev values : Text → Option Text
values = value_of ((codes "a", codes "40") ∷ (codes "e", []) ∷ [])

-- a variable that is not set, or has no value, leaves the word as it is
texts : map (filled_text values) (codes "${a}" ∷ codes "${b}" ∷ codes "${e}" ∷ codes "a" ∷ codes "40" ∷ []) ≡ codes "40" ∷ codes "${b}" ∷ codes "${e}" ∷ codes "a" ∷ codes "40" ∷ []
texts = refl

words : map (filled_word values) (Exactly (codes "${a}") ∷ Starting (codes "${a}") ∷ Starting (codes "${b}") ∷ Starting [] ∷ []) ≡ Exactly (codes "40") ∷ Starting (codes "40") ∷ Starting (codes "${b}") ∷ Starting [] ∷ []
words = refl

-- ---- a list

abbrev loads : Text → Devices
loads word = record (only ((codes "load", quiet) ∷ [])) { calls = (codes "load", (record { words = Exactly word ∷ []; more = true }, record quiet { stays = true }) ∷ (record { words = []; more = true }, quiet) ∷ []) ∷ [] }

fills : filled values (loads (codes "${a}")) ≡ loads (codes "40")
fills = refl

calls : map (λ (word : Text). effect_of (filled values (loads (codes "${a}"))) (codes "load") (word ∷ [])) (codes "40" ∷ codes "${a}" ∷ []) ≡ Some (record quiet { stays = true }) ∷ Some quiet ∷ []
calls = refl

steady_too : filled values (all_steady (loads (codes "${a}"))) ≡ all_steady (loads (codes "40"))
steady_too = refl
