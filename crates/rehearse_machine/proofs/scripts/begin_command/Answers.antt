use Rattle.std.proofs.Common.{ap, ◌∙◌, List, sym, ℕ, map}
use Rattle.hushlang.specs.TreesShown as view
use Rattle.hushlang.specs.Tree as tree
use Rattle.hushlang.specs.Tree.{Command}
use Rattle.std.specs.Prelude.{Vec}
use Rattle.std.specs.declared.alloc.Global.{Global}
use Rattle.hushlang.specs.declared.tree.Word.{Word}
use Rattle.rehearse_machine.specs.Places.{place_arms, place_command, place_counted, place_for}
use Rattle.rehearse_machine.proofs.ArmLemmas.{Arm}
use Rattle.rehearse_machine.proofs.CommandLemmas.{says_if, says_loop, says_simple, says_assign, says_for}
use Rattle.rehearse_machine.proofs.scripts.begin_command.Goals as goal

pub returns-in-Simple-clause-next : goal.returns-in-Simple-clause-next
returns-in-Simple-clause-next c limits fs s own e =
    sym (ap (λ (x : Command). place_command limits x c.args.frame.now fs s) (says_simple c.args.command.now c.in-Simple.call c.in-Simple.is))

pub returns-in-Assign-clause-next : goal.returns-in-Assign-clause-next
returns-in-Assign-clause-next c limits fs s own e =
    ap (λ (x : List (Vec ℕ Global × Word)). place_command limits (tree.Assign (map view.value x)) c.args.frame.now fs s) c.deref.ensures.value
    ∙ sym (ap (λ (x : Command). place_command limits x c.args.frame.now fs s) (says_assign c.args.command.now c.in-Assign.values c.in-Assign.is))

pub returns-in-If-clause-next : goal.returns-in-If-clause-next
returns-in-If-clause-next c limits fs s own e =
    c.begin_arms.ensures limits fs s own e
    ∙ ap (λ (x : List Arm). place_arms limits.shell (view.arms (map view.arm x) (view.script_in c.in-If.other)) 0 c.args.frame.now fs s) c.deref-in-If.ensures.value
    ∙ sym (ap (λ (x : Command). place_command limits x c.args.frame.now fs s) (says_if c.args.command.now c.in-If.arms c.in-If.other c.in-If.is))

pub returns-in-Loop-clause-next : goal.returns-in-Loop-clause-next
returns-in-Loop-clause-next c limits fs s own e =
    c.begin_loop.ensures limits fs s
    ∙ sym (ap (λ (x : Command). place_command limits x c.args.frame.now fs s) (says_loop c.args.command.now c.in-Loop.until c.in-Loop.cond c.in-Loop.body c.in-Loop.is))

pub returns-in-For-clause-next : goal.returns-in-For-clause-next
returns-in-For-clause-next c limits fs s own e =
    ap (λ (x : List ℕ). place_counted limits (place_for limits.shell x (map view.word c.deref-in-For-2.result.now) c.args.frame.now fs) s) c.deref-in-For.ensures.value
    ∙ ap (λ (x : List Word). place_counted limits (place_for limits.shell c.in-For.name.items (map view.word x) c.args.frame.now fs) s) c.deref-in-For-2.ensures.value
    ∙ sym (ap (λ (x : Command). place_command limits x c.args.frame.now fs s) (says_for c.args.command.now c.in-For.name c.in-For.words c.in-For.body c.in-For.is))
