-- Where two states have the same of the variables that a call copies, there is room for them in both or in neither.
use Rattle.std.proofs.Common.{◌≡◌, refl, ap, ◌∙◌, ℕ, ◌+◌, nat_le, Bool, List, [], ◌∷◌, ◌++◌, fold, Option, Some, None}
use Rattle.device_list.specs.DeviceList.{RightSide, Literal, ValueAt, LastValue, Deleted, CopyOf, Setting}
use Rattle.rehearse_terms.specs.State.{Text, State}
use Rattle.rehearse_rules.specs.Needs.{bytes_saved, bytes_copied, has_room}
use Rattle.rehearse_reads.specs.Keys.{Key, Environment, AreAmong, AgreeOn}
use Rattle.rehearse_reads.specs.Accesses.{copied_key, copied_keys, room_reads}

module _ (known : List Key) (s t : State) (agree : AgreeOn known s t) where
  bytes_agree : (right : RightSide) (keys : List Key) → AreAmong (copied_key right ++ keys) known
      → (bytes_copied t.memory.environment right ≡ bytes_copied s.memory.environment right) × AreAmong keys known
  bytes_agree (Literal text) keys h = (refl, h)
  bytes_agree (ValueAt place) keys h = (refl, h)
  bytes_agree LastValue keys h = (refl, h)
  bytes_agree Deleted keys h = (refl, h)
  bytes_agree (CopyOf name) keys h = (ap (bytes_saved name) (agree (Environment name) h.0), h.1)

  sums_agree : (before : ℕ) (sets : List Setting) → AreAmong (copied_keys sets) known
      → fold (λ n set. n + bytes_copied t.memory.environment set.1) before sets ≡ fold (λ n set. n + bytes_copied s.memory.environment set.1) before sets
  sums_agree before [] h = refl
  sums_agree before (set ∷ sets) h =
      let one = bytes_agree set.1 (copied_keys sets) h in
      ap (λ (n : ℕ). fold (λ m x. m + bytes_copied t.memory.environment x.1) (before + n) sets) one.0
      ∙ sums_agree (before + bytes_copied s.memory.environment set.1) sets one.1

  pub room_agrees : (room : Option ℕ) (sets : List Setting) → AreAmong (room_reads room sets) known → has_room room t.memory.environment sets ≡ has_room room s.memory.environment sets
  room_agrees None sets h = refl
  room_agrees (Some room) sets h = ap (λ (n : ℕ). nat_le n room) (sums_agree 0 sets h)
