-- After the bound nothing is begun, so nothing is read or written.
use Rattle.std.proofs.Common.{◌≡◌, ◌∙◌, refl, ap, ℕ, zero, suc, ◌≤◌, Bool, true, false, List, [], ◌∷◌, ◌++◌, nat_eq, le-ltb}
use Rattle.hushlang.specs.Tree as tree
use Rattle.hushlang.specs.Tree.{Script, AndOr, Command, Arms, IsProperList, IsProperCommand, HoldsCommand}
use Rattle.rehearse_terms.specs.State.{State}
use Rattle.rehearse_rules.specs.Parameters.{parameters_in}
use Rattle.rehearse_rules.specs.ByShell.{fields_in, turns_in}
use Rattle.rehearse_terms.specs.declared.shell.Shell.{Shell}
use Rattle.rehearse_rules.specs.Execution.{Limits, Answer, Ended, CutSteps, go_on, holds, exec_script, exec_list, exec_joined, exec_command, for_begun, block_skipped, exec_arms, turns}
use Rattle.rehearse_machine.proofs.BoundLemmas.{Cut-block, Cut-command, Cut-if, Cut-turns}
use Rattle.rehearse_reads.specs.Keys.{Access, Reads, Status, all_read}
use Rattle.rehearse_reads.specs.Accesses.{behind, status_written, words_reads, sized_accesses, simple_accesses, assign_accesses, for_accesses, begun_accesses, turns_accesses, script_accesses, list_accesses, joined_accesses, command_accesses, arms_accesses, modern_accesses, for_words_accesses, compound_accesses}

-- nothing before a cut, and nothing after it
pub nothing_behind : (xs : List Access) (a : Answer) (s : State) (f : State → List Access) → xs ≡ [] → a ≡ Ended CutSteps s → xs ++ behind a f ≡ []
nothing_behind xs a s f e cut = ap (λ (ys : List Access). ys ++ behind a f) e ∙ ap (λ (b : Answer). behind b f) cut

-- nor after a compound command that is cut
nothing_left : (shell : Shell) (xs : List Access) (a : Answer) (s : State) → xs ≡ [] → a ≡ Ended CutSteps s → xs ++ compound_accesses shell a ≡ []
nothing_left shell xs a s e cut = ap (λ (ys : List Access). ys ++ compound_accesses shell a) e ∙ ap (compound_accesses shell) cut

module _ (limits : Limits) (left : ℕ) (text : Script → State → Answer) (of_text : Script → State → List Access) where
  None-begun : (s : State) (f : State → List Access) → limits.step_bound ≤ s.steps → begun_accesses limits f s ≡ []
  None-begun s f h = ap (λ (b : Bool). let xs : List Access = elim b [ true ↦ f (record s { steps = suc s.steps }) | false ↦ [] ] in xs) (le-ltb s.steps limits.step_bound h)

  pub None-turns : (k : ℕ) (until : Bool) (c b : State → Answer) (u v : State → List Access) (s : State) → u s ≡ [] → c s ≡ Ended CutSteps s → turns_accesses limits.shell k until c b u v s ≡ []
  None-turns zero until c b u v s e cut = refl
  None-turns (suc k) until c b u v s e cut =
      nothing_behind (u s) (c s) s (λ t. Reads Status ∷ elim (holds until t.memory.status) [
        | true ↦ v t ++ behind (b t) (λ x. Reads Status ∷ turns_accesses limits.shell k until c b u v x)
        | false ↦ status_written
      ]) e cut

  cut_list : (a : AndOr) → IsProperList a → (s : State) → limits.step_bound ≤ s.steps → exec_list limits left text a s ≡ Ended CutSteps s
  cut_list (tree.Starts c links) p s h = ap (λ (a : Answer). go_on a (exec_joined limits left text links)) (Cut-command limits left text c p.0 s h)

  cut_script : (a : Script) → HoldsCommand a → (s : State) → limits.step_bound ≤ s.steps → exec_script limits left text a s ≡ Ended CutSteps s
  cut_script a p s h = Cut-block limits left text a p s h

  mutual
    None-command : (a : Command) → IsProperCommand a → (s : State) → limits.step_bound ≤ s.steps → command_accesses limits left text of_text a s ≡ []
    None-command (tree.Simple words) p s h = None-begun s (λ t. all_read (words_reads t.memory words) ++ sized_accesses (fields_in limits.shell (parameters_in t.memory) words) (simple_accesses limits text of_text) t) h
    None-command (tree.Assign pairs) p s h = None-begun s (assign_accesses limits.shell pairs) h
    None-command (tree.If arms) p s h = nothing_left limits.shell (arms_accesses limits left text of_text arms s) (exec_arms limits left text arms s) s (None-if arms p s h) (Cut-if limits left text arms p s h)
    None-command (tree.Loop until c b) p s h =
        let cond : State → Answer = exec_script limits left text c in
        let body : State → Answer = exec_script limits left text b in
        let of_cond : State → List Access = script_accesses limits left text of_text c in
        let of_body : State → List Access = script_accesses limits left text of_text b in
        nothing_left limits.shell (turns_accesses limits.shell left until cond body of_cond of_body s) (turns limits.shell left until cond body 0 s) s
        (None-turns left until cond body of_cond of_body s (None-block c p.0 s h) (cut_script c p.0 s h)) (Cut-turns limits left text left until cond body 0 s (cut_script c p.0 s h))
    None-command (tree.For name words b) p s h = None-begun s (λ t. modern_accesses limits.shell ++ for_words_accesses limits.shell name words (exec_script limits left text b) (script_accesses limits left text of_text b) (for_begun limits.shell t)) h

    pub None-block : (a : Script) → HoldsCommand a → (s : State) → limits.step_bound ≤ s.steps → script_accesses limits left text of_text a s ≡ []
    None-block tree.Empty p s h = absurd p
    None-block (tree.Runs l ls) p s h = nothing_behind (list_accesses limits left text of_text l s) (exec_list limits left text l s) s (script_accesses limits left text of_text ls) (None-list l p.0 s h) (cut_list l p.0 s h)

    None-list : (a : AndOr) → IsProperList a → (s : State) → limits.step_bound ≤ s.steps → list_accesses limits left text of_text a s ≡ []
    None-list (tree.Starts c links) p s h = nothing_behind (command_accesses limits left text of_text c s) (exec_command limits left text c s) s (joined_accesses limits left text of_text links) (None-command c p.0 s h) (Cut-command limits left text c p.0 s h)

    None-if : (a : Arms) → IsProperCommand (tree.If a) → (s : State) → limits.step_bound ≤ s.steps → arms_accesses limits left text of_text a s ≡ []
    None-if (tree.Arm c b arms) p s h =
        nothing_behind (script_accesses limits left text of_text c s) (exec_script limits left text c s) s
        (λ t. Reads Status ∷ elim (nat_eq t.memory.status 0) [ true ↦ script_accesses limits left text of_text b t | false ↦ modern_accesses limits.shell ++ arms_accesses limits left text of_text arms (block_skipped limits.shell b t) ])
        (None-block c p.0 s h) (cut_script c p.0 s h)
    None-if (tree.Else b) p s h = absurd p
    None-if tree.NoElse p s h = absurd p
