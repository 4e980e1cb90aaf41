use Rattle.std.proofs.Common.{◌≤◌, [], length, map, take}
use Rattle.text.specs.TextsShown.{bytes_of_words}
use Rattle.rehearse_boots.specs.Exploring.{AddsWays, StaysFound, asked_in}
use Rattle.rehearse_boots.specs.Ways.{way_shown}
use Rattle.rehearse_states.specs.Drawing.{failing_on, nodes_shown}
use Rattle.rehearse_states.specs.RowsShown.{row_shown}
use Rattle.rehearse_boots.proofs.boot.ways_of.Given as goal

-- the ways of the endings so far, and the boots that follow them
abbrev pub invariant-loop-row : goal.invariant-loop-row
invariant-loop-row l =
    AddsWays (asked_in l.telling) (bytes_of_words l.ending.saved.now) (failing_on l.ending.devices.now (nodes_shown l.ending.nodes.now)) (map row_shown (take l.row-index l.row-items)) l.initial.found.boots l.found.boots [] (map way_shown l.ways.items)
    × StaysFound l.ending.place [] (map way_shown l.ways.items) l.initial.found.boots l.found.boots l.initial.found.by.items l.found.by.items
    × (length l.initial.found.boots ≤ l.telling.ask.now.boots → length l.found.boots ≤ l.telling.ask.now.boots)
