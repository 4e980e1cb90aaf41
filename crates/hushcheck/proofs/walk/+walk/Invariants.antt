use Rattle.std.proofs.Common.{◌≡◌, take}
use Rattle.std.specs.List.{flat_map}
use Rattle.hushlang.specs.TreesShown as view
use Rattle.hushcheck.specs.Names.{run_by_arm, run_by_command, run_by_list}
use Rattle.hushcheck.specs.Order.{with_names}
use Rattle.hushcheck.proofs.walk.+walk.Given as goal

-- the names of the arms so far were added
abbrev pub invariant-add_arms-loop-cond : goal.invariant-add_arms-loop-cond
invariant-add_arms-loop-cond l = l.names ≡ with_names l.fn.names (flat_map (λ arm. run_by_arm (view.arm arm)) (take l.cond-index l.arms))

-- the names of the joined commands so far were added
abbrev pub invariant-add_list-loop-joined : goal.invariant-add_list-loop-joined
invariant-add_list-loop-joined l = l.names ≡ with_names l.initial.names (flat_map (λ p. run_by_command (view.command p.1)) (take l.joined-index l.joined-items))

-- the names of the lists so far were added
abbrev pub invariant-add_script-loop-list : goal.invariant-add_script-loop-list
invariant-add_script-loop-list l = l.names ≡ with_names l.fn.names (flat_map (λ list. run_by_list (view.list list)) (take l.list-index l.list-items))
