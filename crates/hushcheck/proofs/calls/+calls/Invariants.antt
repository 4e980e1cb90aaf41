use Rattle.std.proofs.Common.{◌≡◌, take}
use Rattle.std.specs.List.{fold}
use Rattle.hushlang.specs.TreesShown as view
use Rattle.hushcheck.specs.Calls.{after_arm, after_command, after_list}
use Rattle.hushcheck.proofs.calls.+calls.Given as goal

-- the arms so far were read
abbrev pub invariant-read_arms-loop-cond : goal.invariant-read_arms-loop-cond
invariant-read_arms-loop-cond l = l.reading ≡ fold (λ q arm. after_arm q (view.arm arm)) l.fn.reading (take l.cond-index l.arms)

-- the joined commands so far were read
abbrev pub invariant-read_list-loop-joined : goal.invariant-read_list-loop-joined
invariant-read_list-loop-joined l = l.reading ≡ fold (λ q p. after_command q (view.command p.1)) l.initial.reading (take l.joined-index l.joined-items)

-- the lists so far were read
abbrev pub invariant-read_script-loop-list : goal.invariant-read_script-loop-list
invariant-read_script-loop-list l = l.reading ≡ fold (λ q list. after_list q (view.list list)) l.fn.reading (take l.list-index l.list-items)
