-- After the bound, nothing is begun.
use Rattle.rehearse_rules.specs.ByShell.{fields_in, reads_again}
use Rattle.std.proofs.Common.{ℕ, zero, suc, Bool, false, refl, ap, ◌∙◌, ◌≡◌, ◌≤◌, nat_lt, le-ltb}
use Rattle.hushlang.specs.Tree as tree
use Rattle.hushlang.specs.Tree.{Script, AndOr, Command, Arms, IsProperList, IsProperCommand, HoldsCommand}
use Rattle.rehearse_terms.specs.State.{State}
use Rattle.rehearse_rules.specs.Parameters.{parameters_in}
use Rattle.rehearse_rules.proofs.CompoundLemmas.{compound_ended}
use Rattle.rehearse_rules.specs.Execution.{Limits, Answer, Ended, CutSteps, begin, simple, sized, assign, turns, exec_script, exec_list, exec_command, exec_arms, for_words, for_begun, compound}

module _ (limits : Limits) (left : ℕ) (text : Script → State → Answer) where
  pub Cut-begin : (s : State) (f : State → Answer) → limits.step_bound ≤ s.steps → begin limits f s ≡ Ended CutSteps s
  Cut-begin s f h = let e : nat_lt s.steps limits.step_bound ≡ false = le-ltb s.steps limits.step_bound h in rw (e, begin) refl

  pub Cut-turns : (k : ℕ) (until : Bool) (c b : State → Answer) (last : ℕ) (s : State) → c s ≡ Ended CutSteps s → turns limits.shell k until c b last s ≡ Ended CutSteps s
  Cut-turns zero until c b last s e = refl
  Cut-turns (suc k) until c b last s e = rw e refl

  mutual
    pub Cut-command : (a : Command) → IsProperCommand a → (s : State) → limits.step_bound ≤ s.steps → exec_command limits left text a s ≡ Ended CutSteps s
    Cut-command (tree.Simple words) p s h = Cut-begin s (λ t. sized (fields_in limits.shell (parameters_in t.memory) words) (simple limits (reads_again words) text) t) h
    Cut-command (tree.Assign pairs) p s h = Cut-begin s (assign limits.shell pairs) h
    Cut-command (tree.If arms) p s h = ap (compound limits.shell) (Cut-if arms p s h) ∙ compound_ended limits.shell CutSteps s
    Cut-command (tree.Loop until c b) p s h = ap (compound limits.shell) (Cut-turns left until (exec_script limits left text c) (exec_script limits left text b) 0 s (Cut-block c p.0 s h)) ∙ compound_ended limits.shell CutSteps s
    Cut-command (tree.For name words b) p s h = Cut-begin s (λ t. for_words limits.shell name words (exec_script limits left text b) (for_begun limits.shell t)) h

    pub Cut-block : (a : Script) → HoldsCommand a → (s : State) → limits.step_bound ≤ s.steps → exec_script limits left text a s ≡ Ended CutSteps s
    Cut-block tree.Empty p s h = absurd p
    Cut-block (tree.Runs l ls) p s h = let e = Cut-list l p.0 s h in rw e refl

    Cut-list : (a : AndOr) → IsProperList a → (s : State) → limits.step_bound ≤ s.steps → exec_list limits left text a s ≡ Ended CutSteps s
    Cut-list (tree.Starts c links) p s h = let e = Cut-command c p.0 s h in rw e refl

    pub Cut-if : (a : Arms) → IsProperCommand (tree.If a) → (s : State) → limits.step_bound ≤ s.steps → exec_arms limits left text a s ≡ Ended CutSteps s
    Cut-if (tree.Arm c b arms) p s h = let e = Cut-block c p.0 s h in rw e refl
    Cut-if (tree.Else b) p s h = absurd p
    Cut-if tree.NoElse p s h = absurd p
