use Rattle.std.proofs.Common.{◌≡◌, ◌++◌, map, take}
use Rattle.hushlang_old.proofs.old_words.append_copies.Given as goal

abbrev pub invariant-loop-turn : goal.invariant-loop-turn
invariant-loop-turn l =
    map (λ turn. turn.items) l.turns.items
    ≡ map (λ turn. turn.items) l.initial.turns.items ++ map (λ turn. turn.now) (take l.turn-index l.more)
