use Rattle.std.proofs.Common.{◌≡◌, drop}
use Rattle.rehearse_endings.specs.Indexed.{HasMoreWays, ways}
use Rattle.rehearse_endings.proofs.IndexLemmas.{WaySoFar}
use Rattle.rehearse_endings.proofs.table.Table.note_ways.Given as goal

-- what is known so far leads on
abbrev pub invariant-loop-at : goal.invariant-loop-at
invariant-loop-at l =
    (l.self.entries ≡ l.initial.self.entries) × (l.self.alike ≡ l.initial.self.alike) × (l.self.longest ≡ l.initial.self.longest) × (l.self.flow ≡ l.initial.self.flow) × (l.self.visited ≡ l.initial.self.visited) × (l.self.most ≡ l.initial.self.most) × (l.self.sums ≡ l.initial.self.sums) × (l.self.room ≡ l.initial.self.room) × (l.self.depths ≡ l.initial.self.depths)
    × HasMoreWays (ways l.initial.self) (ways l.self)
    × WaySoFar l.initial.self.entries.items l.self l.place l.number l.at (drop l.at l.known) l.known l.entry
