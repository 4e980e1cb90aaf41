-- A command begins a step, and so does each block: the steps only grow.
use Rattle.rehearse_rules.specs.ByShell.{fields_in, reads_again}
use Rattle.std.proofs.Common.{ℕ, zero, suc, Bool, true, false, ◌<◌, ◌≤◌, arith, nat_lt, nat_eq}
use Rattle.hushlang.specs.Tree as tree
use Rattle.hushlang.specs.Tree.{Script, AndOr, Command, Arms, IsProperList, IsProperCommand, HasArm, HoldsCommand}
use Rattle.rehearse_terms.specs.State.{State}
use Rattle.rehearse_rules.specs.Parameters.{parameters_in}
use Rattle.rehearse_terms.specs.declared.shell.Shell.{Shell}
use Rattle.rehearse_terms.specs.declared.shell.Shell.TheVariants.{Profile, Old2023, Old2025, Modern2025}
use Rattle.rehearse_rules.specs.Execution.{Limits, Answer, Normal, Exit, Ended, Dry, CutSteps, go_on, simple, sized, assign, turns, exec_script, exec_list, exec_joined, exec_command, exec_arms, for_words, for_begun, block_skipped, compound, compound_end}
use Rattle.rehearse_rules.proofs.TakenOutcomes.{Track, Keeps, KeepsAll, Keeps-sized, Keeps-simple, Keeps-assign, Keeps-if, Keeps-turns, after_condition, Keeps-after_condition, Keeps-script, Keeps-joined, Keeps-arms, Keeps-words, Keeps-skip}

-- if the text or the run goes on, at least n steps were begun
abbrev pub AtLeast : ℕ → Answer → Type 0
AtLeast n (Normal t) = n ≤ t.steps
AtLeast n (Exit t) = n ≤ t.steps
AtLeast n (Ended ending t) = Unit {0}
AtLeast n (Dry t) = Unit {0}

abbrev pub Grew : ℕ → Answer → Type 0
Grew n a = AtLeast (suc n) a

pub AtLeast-track : (bound : ℕ) (s : State) (a : Answer) → Track bound s a → AtLeast s.steps a
AtLeast-track bound s (Normal t) k = k.steps
AtLeast-track bound s (Exit t) k = k.steps
AtLeast-track bound s (Ended ending t) k = tt
AtLeast-track bound s (Dry t) k = tt

Grew-track : (bound : ℕ) (n : ℕ) (s : State) (a : Answer) → n < s.steps → Track bound s a → Grew n a
Grew-track bound n s (Normal t) h k = let e = k.steps in omega arith
Grew-track bound n s (Exit t) h k = let e = k.steps in omega arith
Grew-track bound n s (Ended ending t) h k = tt
Grew-track bound n s (Dry t) h k = tt

Grew-go_on : (bound : ℕ) (n : ℕ) (a : Answer) (g : State → Answer) → Grew n a → ((t : State) → Keeps bound t g) → Grew n (go_on a g)
Grew-go_on bound n (Normal t) g h k = Grew-track bound n t (g t) h (k t).0
Grew-go_on bound n (Exit t) g h k = h
Grew-go_on bound n (Ended ending t) g h k = tt
Grew-go_on bound n (Dry t) g h k = tt

-- also if `exit` leaves a compound command
Grew-end : (n : ℕ) (a : Answer) → Grew n a → Grew n (compound_end a)
Grew-end n (Normal t) h = h
Grew-end n (Exit t) h = h
Grew-end n (Ended ending t) h = h
Grew-end n (Dry t) h = h

Grew-compound : (shell : Shell) (n : ℕ) (a : Answer) → Grew n a → Grew n (compound shell a)
Grew-compound Profile n a h = h
Grew-compound Old2023 n a h = h
Grew-compound Old2025 n a h = h
Grew-compound Modern2025 n a h = Grew-end n a h

module _ (limits : Limits) (left : ℕ) (text : Script → State → Answer) (kept : (tree : Script) → KeepsAll limits (text tree)) where
  Grew-begin : (b : Bool) (s : State) (f : State → Answer) → KeepsAll limits f → Grew s.steps (elim b [ true ↦ f (record s { steps = suc s.steps }) | false ↦ Ended CutSteps s ])
  Grew-begin true s f k = Grew-track limits.device_bound s.steps (record s { steps = suc s.steps }) (f (record s { steps = suc s.steps })) (omega arith) (k (record s { steps = suc s.steps })).0
  Grew-begin false s f k = tt

  Grew-turns : (k : ℕ) (until : Bool) (c b : State → Answer) → KeepsAll limits c → KeepsAll limits b → ((s : State) → Grew s.steps (c s)) → (last : ℕ) (s : State) → Grew s.steps (turns limits.shell k until c b last s)
  Grew-turns zero until c b h j g last s = tt
  Grew-turns (suc k) until c b h j g last s = Grew-go_on limits.device_bound s.steps (c s) (after_condition limits until b (λ u. turns limits.shell k until c b u.memory.status u) last) (g s) (Keeps-after_condition limits until b (λ u. turns limits.shell k until c b u.memory.status u) j (λ u. Keeps-turns limits k until c b h j u.memory.status u) last)

  mutual
    pub Grew-command : (a : Command) → IsProperCommand a → (s : State) → Grew s.steps (exec_command limits left text a s)
    Grew-command (tree.Simple words) p s = Grew-begin (nat_lt s.steps limits.step_bound) s (λ t. sized (fields_in limits.shell (parameters_in t.memory) words) (simple limits (reads_again words) text) t) (λ t. Keeps-sized limits (fields_in limits.shell (parameters_in t.memory) words) (simple limits (reads_again words) text) (Keeps-simple limits text kept (reads_again words)) t)
    Grew-command (tree.Assign pairs) p s = Grew-begin (nat_lt s.steps limits.step_bound) s (assign limits.shell pairs) (Keeps-assign limits pairs)
    Grew-command (tree.If arms) p s = Grew-compound limits.shell s.steps (exec_arms limits left text arms s) (Grew-if arms p s)
    Grew-command (tree.Loop until c b) p s =
        Grew-compound limits.shell s.steps (turns limits.shell left until (exec_script limits left text c) (exec_script limits left text b) 0 s)
        (Grew-turns left until (exec_script limits left text c) (exec_script limits left text b) (Keeps-script limits left text kept c) (Keeps-script limits left text kept b) (Grew-block c p.0) 0 s)
    Grew-command (tree.For name words b) p s = Grew-begin (nat_lt s.steps limits.step_bound) s (λ t. for_words limits.shell name words (exec_script limits left text b) (for_begun limits.shell t)) (Keeps-words limits name words (exec_script limits left text b) (Keeps-script limits left text kept b))

    pub Grew-block : (a : Script) → HoldsCommand a → (s : State) → Grew s.steps (exec_script limits left text a s)
    Grew-block tree.Empty p s = absurd p
    Grew-block (tree.Runs l ls) p s = Grew-go_on limits.device_bound s.steps (exec_list limits left text l s) (exec_script limits left text ls) (Grew-list l p.0 s) (Keeps-script limits left text kept ls)

    Grew-list : (a : AndOr) → IsProperList a → (s : State) → Grew s.steps (exec_list limits left text a s)
    Grew-list (tree.Starts c links) p s = Grew-go_on limits.device_bound s.steps (exec_command limits left text c s) (exec_joined limits left text links) (Grew-command c p.0 s) (Keeps-joined limits left text kept links)

    Grew-if : (a : Arms) → HasArm a → (s : State) → Grew s.steps (exec_arms limits left text a s)
    Grew-if (tree.Arm c b arms) p s = Grew-go_on limits.device_bound s.steps (exec_script limits left text c s) (λ t. elim (nat_eq t.memory.status 0) [ true ↦ exec_script limits left text b t | false ↦ exec_arms limits left text arms (block_skipped limits.shell b t) ]) (Grew-block c p.0 s) (λ t. Keeps-if limits.device_bound t (nat_eq t.memory.status 0) (exec_script limits left text b) (λ u. exec_arms limits left text arms (block_skipped limits.shell b u)) (Keeps-script limits left text kept b t) (Keeps-skip limits b (exec_arms limits left text arms) (Keeps-arms limits left text kept arms) t))
    Grew-if (tree.Else b) p s = absurd p
    Grew-if tree.NoElse p s = absurd p
