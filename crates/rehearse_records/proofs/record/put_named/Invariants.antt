use Rattle.std.proofs.Common.{take}
use Rattle.std.specs.List.{flat_map}
use Rattle.std.specs.FinMap.{entries}
use Rattle.output.specs.Paging.{Put}
use Rattle.rehearse_records.specs.Recording.{named_text}
use Rattle.rehearse_records.specs.RunViewShown.{shown_moment}
use Rattle.rehearse_records.proofs.record.put_named.Given as goal

-- the lines of the names so far were put
abbrev pub invariant-loop-name : goal.invariant-loop-name
invariant-loop-name g l =
    Put (g.O.Out.sink l.fn.out) (g.O.Out.sink l.out) l.fn.page.items l.page.items (flat_map (λ n. named_text (entries (shown_moment g.S.Store l.view).environment) n.now) (take l.name-index l.names))
