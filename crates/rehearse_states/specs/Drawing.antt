-- The nodes of a flow while they are made. A node comes after the nodes to which it leads, and places count from 0.
-- Ours.
use Rattle.std.specs.Prelude.{◌≡◌, ℕ, suc, ◌-◌, List, [], ◌∷◌, ◌++◌, map, Vec}
use Rattle.std.specs.declared.alloc.Global.{Global}
use Rattle.text.specs.TextsShown.{bytes_of_words}
use Rattle.rehearse_rules.specs.EndingsShown.{halt_shown}
use Rattle.rehearse_terms.specs.Outcomes.{OutcomeWord}
use Rattle.device_list.specs.DeviceList.{Devices}
use Rattle.rehearse_rules.specs.Expected.{Answered, unexpected_of}
use Rattle.rehearse_states.specs.Flow.{Node, Asks, Ends, numbered, walk}
use Rattle.rehearse_states.specs.declared.flow.Node as rt
use Rattle.rehearse_states.specs.declared.flow.Node.TheVariants as made

abbrev pub node_shown : rt.Node → Node
node_shown (made.Asks words success failure) = Asks (bytes_of_words words.items) success failure
node_shown (made.Ends halt) = Ends (halt_shown halt)

abbrev pub nodes_shown : Vec rt.Node Global → List Node
nodes_shown nodes = map node_shown nodes.items

-- the old nodes, and more nodes after them
abbrev pub HasMore : (old new : List Node) → Type 0
HasMore old new = (more : List Node) × (new ≡ old ++ more)

-- how many nodes are those of device commands that ask
abbrev pub asks_in : List Node → ℕ
asks_in [] = 0
asks_in (Asks words success failure ∷ nodes) = suc (asks_in nodes)
asks_in (Ends ending ∷ nodes) = asks_in nodes

-- ---- the order of the lines: the last node made is the first

abbrev pub renumbered : ℕ → Node → Node
renumbered count (Asks words success failure) = Asks words (count - success) (count - failure)
renumbered count (Ends ending) = Ends ending

-- ---- what fails on the way

-- the commands whose answers are unexpected on the walk from the first line by a word
abbrev pub failing_on : Devices → List Node → OutcomeWord → List Answered
failing_on devices nodes w = unexpected_of devices (walk (numbered nodes) w 1).log
