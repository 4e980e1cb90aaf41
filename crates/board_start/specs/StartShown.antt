-- What the program reads of a start, seen as the definitions have it.
use Rattle.std.specs.Prelude.{ℕ, List, map}
use Rattle.std.specs.Borrow.{Bor}
use Rattle.text.specs.Lines.{Text}
use Rattle.commands.specs.TextsShown.{texts}
use Rattle.device_list.specs.DevicesShown.{Bytes}
use Rattle.board_start.specs.Counter as counts
use Rattle.board_start.specs.StartLines as lines
use Rattle.board_start.specs.Start as says
use Rattle.board_start.specs.declared.counter.Counter.{Counter}
use Rattle.board_start.specs.declared.counter.CounterNames.{CounterNames}
use Rattle.board_start.specs.declared.said.Said.{Said}
use Rattle.board_start.specs.declared.said.Said.TheVariants as said
use Rattle.board_start.specs.declared.values.Values.{Values}

abbrev pub names_shown : CounterNames → counts.Counter
names_shown n = record { counter = n.counter.now; limit = n.limit.now; alternative = n.alternative.now }

abbrev pub counter_shown : Counter → counts.Counter
counter_shown c = record { counter = c.counter.items; limit = c.limit.items; alternative = c.alternative.items }

abbrev pub said_shown : Said → lines.Said
said_shown (said.Given name value) = lines.Given name.now value.items
said_shown (said.Before name) = lines.Before name.now
said_shown (said.Counts names) = lines.Counts (names_shown names)
said_shown said.Faulty = lines.Faulty
said_shown said.Other = lines.Other

abbrev pub values_shown : Values → says.Values
values_shown v = record { first = v.first.items; others = texts v.others.items }

abbrev pub givens_shown : List (Bytes × Values) → List (Text × says.Values)
givens_shown = map (λ g. (g.0.items, values_shown g.1))

-- names and values, seen through their references
abbrev pub pairs_shown : List (Bor (List ℕ) × Bor (List ℕ)) → List (Text × Text)
pairs_shown = map (λ p. (p.0.now, p.1.now))
