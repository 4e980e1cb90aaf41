-- Where the tables of a device list have a name. Ours.
use Rattle.std.specs.Prelude.{◌≡◌, ℕ, List, [], ◌∷◌, Option, Some, None, option_map, slice_get}
use Rattle.std.specs.List.{All}
use Rattle.std.specs.Map.{lookup}
use Rattle.std.specs.Str.{bytes_eq}
use Rattle.text.specs.Lines.{Text}
use Rattle.device_list.specs.DeviceList.{Pattern, Effect, Effects, Devices, effect_in, first_fitting}
use Rattle.device_list.specs.DevicesShown.{Bytes}
use Rattle.device_list.specs.declared.device_tables.Places.{Places}

-- what a table has at a place
abbrev pub at_place : {K V : Type 0} → List (K × V) → Option ℕ → Option V
at_place table None = None
at_place table (Some place) = option_map (λ e. e.1) (slice_get table place)

-- at these places is what the tables have of the name
abbrev pub IsPlaced : Devices → (name : Text) → Places → Type 0
IsPlaced devices name places =
    (at_place devices.commands places.command ≡ effect_in devices.commands name)
    × ((at_place devices.subs places.sub ≡ lookup (bytes_eq name) devices.subs)
    × (at_place devices.calls places.call ≡ lookup (bytes_eq name) devices.calls))

-- so for each of these names
abbrev pub ArePlaced : Devices → List (Bytes × Places) → Type 0
ArePlaced devices = All (λ n. IsPlaced devices n.0.items n.1)

-- what the `sub` lines of a name say of a first word
abbrev pub in_sub : Option Effects → (word : Text) → Option Effect
in_sub subs word = elim subs [ None ↦ None | Some effects ↦ effect_in effects word ]

-- what they say of a call
abbrev pub placed_sub : Option Effects → (words : List Text) → Option Effect
placed_sub subs [] = None
placed_sub subs (word ∷ words) = in_sub subs word

-- what the lines of calls of a name say of a call
abbrev pub placed_call : Option (List (Pattern × Effect)) → (words : List Text) → Option Effect
placed_call lines words = elim lines [ None ↦ None | Some found ↦ first_fitting found words ]

-- what a call of the command at these places does, and what the other lines say of it
abbrev pub placed_line : Devices → Places → (words : List Text) → Option Effect
placed_line devices places words =
    elim (placed_sub (at_place devices.subs places.sub) words) [
      | Some effect ↦ Some effect
      | None ↦ at_place devices.commands places.command
    ]

abbrev pub placed_effect : Devices → Places → (words : List Text) → Option Effect
placed_effect devices places words =
    elim (placed_call (at_place devices.calls places.call) words) [
      | Some effect ↦ Some effect
      | None ↦ placed_line devices places words
    ]
