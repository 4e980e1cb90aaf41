use Rattle.std.proofs.Common.{◌≡◌, take}
use Rattle.std.specs.List.{fold}
use Rattle.hushlang.specs.TreesShown as view
use Rattle.hushcheck.specs.Calls.{after_value}
use Rattle.hushcheck.proofs.calls.read_values.Given as goal

-- the assignments so far were read
abbrev pub invariant-loop-name : goal.invariant-loop-name
invariant-loop-name l = l.reading ≡ fold (λ q v. after_value q (view.value v)) l.fn.reading (take l.name-index l.values)
