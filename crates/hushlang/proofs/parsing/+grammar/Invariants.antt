use Rattle.std.proofs.Common.{◌≡◌, ℕ, ◌+◌, ◌*◌, ◌<◌, ◌≤◌, map, length}
use Rattle.hushlang.specs.TreesShown as view
use Rattle.hushlang.specs.Parsing as spec
use Rattle.hushlang.proofs.parsing.+grammar.Given as goal

-- a command goes one level down; the other rules stay above the command that they read
abbrev pub decreases-command : goal.decreases-command
decreases-command l = l.depth * 8

abbrev pub decreases-joined : goal.decreases-joined
decreases-joined l = l.depth * 8 + 1

abbrev pub decreases-and_or : goal.decreases-and_or
decreases-and_or l = l.depth * 8 + 2

abbrev pub decreases-lists : goal.decreases-lists
decreases-lists l = l.depth * 8 + 3

abbrev pub decreases-block : goal.decreases-block
decreases-block l = l.depth * 8 + 4

abbrev pub decreases-body : goal.decreases-body
decreases-body l = l.depth * 8 + 5

abbrev pub decreases-arm : goal.decreases-arm
decreases-arm l = l.depth * 8 + 5

abbrev pub decreases-arms : goal.decreases-arms
decreases-arms l = l.depth * 8 + 6

abbrev pub decreases-if_command : goal.decreases-if_command
decreases-if_command l = l.depth * 8 + 7

abbrev pub decreases-loop_command : goal.decreases-loop_command
decreases-loop_command l = l.depth * 8 + 7

abbrev pub decreases-for_command : goal.decreases-for_command
decreases-for_command l = l.depth * 8 + 7

-- what is read so far leads to the whole, within as many turns as there are tokens
abbrev pub invariant-joined-joined : goal.invariant-joined-joined
invariant-joined-joined l =
    (length l.tokens.tokens ≤ length l.fn.tokens.tokens)
    × ((turns : ℕ) × (length l.tokens.tokens ≤ turns)
    × (spec.joined_all (spec.command l.depth) l.fn.tokens ≡ spec.joined (spec.command l.depth) turns (map view.joined l.rest.items) l.tokens))

abbrev pub decreases-joined-joined : goal.decreases-joined-joined
decreases-joined-joined l = length l.tokens.tokens

abbrev pub invariant-lists-lists : goal.invariant-lists-lists
invariant-lists-lists l =
    (length l.tokens.tokens ≤ length l.fn.tokens.tokens)
    × ((turns : ℕ) × (length l.tokens.tokens < turns)
    × (spec.lists_all (spec.command l.depth) l.fn.tokens ≡ spec.lists (spec.command l.depth) turns (map view.list l.lists.items) l.tokens))

abbrev pub decreases-lists-lists : goal.decreases-lists-lists
decreases-lists-lists l = length l.tokens.tokens

abbrev pub invariant-arms-arms : goal.invariant-arms-arms
invariant-arms-arms l =
    (length l.tokens.tokens ≤ length l.fn.tokens.tokens)
    × ((turns : ℕ) × (length l.tokens.tokens < turns)
    × (spec.arms_all (spec.command l.depth) l.fn.tokens ≡ spec.arms (spec.command l.depth) turns (map view.arm l.arms.items) l.tokens))

abbrev pub decreases-arms-arms : goal.decreases-arms-arms
decreases-arms-arms l = length l.tokens.tokens
