-- Laws of a machine that reports, over the definitions alone. Ours.
use Rattle.std.specs.Prelude.{◌≡◌, List, [], ◌++◌}
use Rattle.bootstore_state.specs.Moment.{Moment}
use Rattle.bootstore_state.specs.StoredState.{state_at}
use Rattle.rehearse_terms.specs.Outcomes.{Success, Failure}
use Rattle.rehearse_terms.specs.State.{Text}
use Rattle.rehearse_rules.specs.Execution.{Limits}
use Rattle.rehearse_machine.specs.Machine.{IsAsking}
use Rattle.rehearse_reads.specs.Keys.{Key, AgreeOn}
use Rattle.rehearse_frames.specs.KeysToCome.{AreEnoughAt, AreAtOnePlace}
use Rattle.rehearse_reports.specs.Asked.{asked_reads}
use Rattle.rehearse_reports.specs.Following.{AreEnoughFor}

-- at a device command that asks, the keys that are enough for both outcomes together are enough
abbrev pub KeysOfBothOutcomes : Type 0
KeysOfBothOutcomes = (limits : Limits) (wanted : List Text) (m : Moment) (won lost : List Key) → IsAsking limits m →
    AreEnoughFor limits wanted Success m won → AreEnoughFor limits wanted Failure m lost → AreEnoughAt limits wanted m (won ++ lost)

-- at two moments with the same frames, which agree on what the words read of the command that asks, the same command asks
abbrev pub PlacesAreSame : Type 0
PlacesAreSame = (limits : Limits) (m n : Moment) → IsAsking limits m → IsAsking limits n → n.frames ≡ m.frames →
    AgreeOn (asked_reads m) (state_at m []) (state_at n []) → AreAtOnePlace limits m n
