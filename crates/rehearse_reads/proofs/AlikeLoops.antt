-- Assignments and loops go alike.
use Rattle.std.proofs.Common.{◌≡◌, refl, sym, ap, subst, ℕ, zero, suc, Bool, true, false, List, [], ◌∷◌, ◌++◌, length, nat_le}
use Rattle.hushlang.specs.Tree as tree
use Rattle.hushlang.specs.Tree.{Script}
use Rattle.hushlang.specs.Expansion.{most_bytes}
use Rattle.rehearse_terms.specs.State.{Text, State, LoggedCommand}
use Rattle.rehearse_terms.specs.declared.shell.Shell.{Shell}
use Rattle.rehearse_terms.specs.declared.shell.Shell.TheVariants.{Profile, Old2023, Old2025, Modern2025}
use Rattle.rehearse_rules.specs.Parameters.{parameters_in}
use Rattle.rehearse_rules.specs.ByShell.{assigned_in, status_of_nothing, status_of_no_block, status_of_loop, follows_turns, status_of_skipped, left_status}
use Rattle.rehearse_rules.specs.Execution.{Limits, Answer, Normal, Ended, CutSteps, Size, go_on, set_status, set_local, assign, assign_local, turns, begin_turn, for_each, holds, turns_of, for_begun, block_skipped, Unsupported, Exit, Dry, End, compound, compound_end, compound_left, sourced, left_to_prompt}
use Rattle.rehearse_rules.proofs.TakenOutcomes.{KeepsAll, Keeps-turns, Keeps-for, after_condition, Keeps-after_condition}
use Rattle.rehearse_reads.specs.Keys.{Key, Status, Local, Access, Reads, ReadsWithin, known_after}
use Rattle.rehearse_reads.specs.Accesses.{behind, status_written, word_reads, local_accesses, assign_accesses, turns_accesses, turn_accesses, each_accesses, for_accesses, nothing_accesses, modern_accesses, turns_of_accesses, left_accesses, compound_accesses, prompt_accesses, sourced_accesses}
use Rattle.rehearse_reads.specs.Alike.{AreAbreast, IsAlike, same, cut_here, beyond}
use Rattle.rehearse_reads.proofs.AccessLemmas.{within_then, read_first, read_then, within_first}
use Rattle.rehearse_reads.proofs.AbreastLemmas.{near_status, near_statuses, near_local, near_assigned}
use Rattle.rehearse_reads.proofs.SameWords.{assigned_agree}
use Rattle.rehearse_reads.proofs.AlikeParts.{normal_alike, ended_alike, after_then, after_keys, if_alike, Alike-go_on, Alike-read, dry_alike}

module _ (limits : Limits) (i j : ℕ) (k l : List LoggedCommand) where
  abbrev Is : List Key → Answer → Answer → Type 0
  Is known a b = IsAlike limits i j k l known a b

  abbrev Near : List Key → State → State → Type 0
  Near known s t = AreAbreast limits i j k l known s t

  abbrev AlwaysDoes : (State → Answer) → (State → List Access) → Type 0
  AlwaysDoes f u = (known : List Key) (s t : State) → Near known s t → ReadsWithin known (u s) → Is (known_after known (u s)) (f s) (f t)

  assign_more : (known : List Key) (s t : State) (shell : Shell) (name value : Text) (pairs : List (Text × tree.Word)) → AlwaysDoes (assign shell pairs) (assign_accesses shell pairs) → Near known s t
      → ReadsWithin known (local_accesses shell name value ++ assign_accesses shell pairs (assign_local shell name value s))
      → Is (known_after known (local_accesses shell name value ++ assign_accesses shell pairs (assign_local shell name value s))) (assign shell pairs (assign_local shell name value s)) (assign shell pairs (assign_local shell name value t))
  assign_more known s t shell name value pairs does near w =
      let s' : State = assign_local shell name value s in
      let t' : State = assign_local shell name value t in
      after_then limits i j k l known (local_accesses shell name value) (assign_accesses shell pairs s') (assign shell pairs s') (assign shell pairs t')
      (does (known_after known (local_accesses shell name value)) s' t' (near_assigned limits i j k l known s t shell name value near) (within_then known (local_accesses shell name value) (assign_accesses shell pairs s') w))

  pub Alike-assign : (shell : Shell) (pairs : List (Text × tree.Word)) → AlwaysDoes (assign shell pairs) (assign_accesses shell pairs)
  Alike-assign shell [] known s t near w = normal_alike limits i j k l (Status ∷ known) (set_status 0 s) (set_status 0 t) (near_status limits i j k l known s t 0 near)
  Alike-assign shell (pair ∷ pairs) known s t near w =
      let value : Text = assigned_in shell (parameters_in s.memory) pair.1 in
      let rest : List Access = elim (nat_le (length value) most_bytes) [ true ↦ local_accesses shell pair.0 value ++ assign_accesses shell pairs (assign_local shell pair.0 value s) | false ↦ [] ] in
      let here : Answer = elim (nat_le (length value) most_bytes) [ true ↦ assign shell pairs (assign_local shell pair.0 value s) | false ↦ Ended Size s ] in
      after_keys limits i j k l known (word_reads s.memory pair.1) rest here (assign shell (pair ∷ pairs) t)
      (subst (λ (x : Text). Is (known_after known rest) here (elim (nat_le (length x) most_bytes) [ true ↦ assign shell pairs (assign_local shell pair.0 x t) | false ↦ Ended Size t ]))
      (sym (assigned_agree known s t near.keys shell pair.1 (read_first known (word_reads s.memory pair.1) rest w)))
      (if_alike limits i j k l known (nat_le (length value) most_bytes) (nat_le (length value) most_bytes) refl (assign shell pairs (assign_local shell pair.0 value s)) (Ended Size s) (assign shell pairs (assign_local shell pair.0 value t)) (Ended Size t)
      (local_accesses shell pair.0 value ++ assign_accesses shell pairs (assign_local shell pair.0 value s)) []
      (assign_more known s t shell pair.0 value pairs (Alike-assign shell pairs) near) (λ x. ended_alike limits i j k l known Size s t near) (read_then known (word_reads s.memory pair.1) rest w)))

  -- ---- statuses by the shell

  pub nothing_alike : (shell : Shell) (known : List Key) (s t : State) → Near known s t → Is (known_after known (nothing_accesses shell)) (Normal (set_status (status_of_nothing shell s.memory.status) s)) (Normal (set_status (status_of_nothing shell t.memory.status) t))
  nothing_alike Profile known s t near = normal_alike limits i j k l (Status ∷ known) (set_status 0 s) (set_status 0 t) (near_status limits i j k l known s t 0 near)
  nothing_alike Old2023 known s t near = normal_alike limits i j k l known s t near
  nothing_alike Old2025 known s t near = normal_alike limits i j k l known s t near
  nothing_alike Modern2025 known s t near = normal_alike limits i j k l known s t near

  pub no_block_alike : (shell : Shell) (known : List Key) (s t : State) → Near known s t → Is (known_after known (nothing_accesses shell)) (Normal (set_status (status_of_no_block shell s.memory.status) s)) (Normal (set_status (status_of_no_block shell t.memory.status) t))
  no_block_alike Profile known s t near = normal_alike limits i j k l (Status ∷ known) (set_status 0 s) (set_status 0 t) (near_status limits i j k l known s t 0 near)
  no_block_alike Old2023 known s t near = normal_alike limits i j k l known s t near
  no_block_alike Old2025 known s t near = normal_alike limits i j k l known s t near
  no_block_alike Modern2025 known s t near = normal_alike limits i j k l known s t near

  pub near_turn : (shell : Shell) (known : List Key) (s t : State) (name value : Text) → Near known s t → Near (known_after known (turn_accesses shell name)) (begin_turn shell name value s) (begin_turn shell name value t)
  near_turn Profile known s t name value near = near_local limits i j k l known s t name value near
  near_turn Old2023 known s t name value near = near_status limits i j k l (Local name ∷ known) (set_local name value s) (set_local name value t) 0 (near_local limits i j k l known s t name value near)
  near_turn Old2025 known s t name value near = near_status limits i j k l (Local name ∷ known) (set_local name value s) (set_local name value t) 0 (near_local limits i j k l known s t name value near)
  near_turn Modern2025 known s t name value near = near_local limits i j k l known s t name value near

  pub near_for : (shell : Shell) (known : List Key) (s t : State) → Near known s t → Near (known_after known (modern_accesses shell)) (for_begun shell s) (for_begun shell t)
  near_for Profile known s t near = near
  near_for Old2023 known s t near = near
  near_for Old2025 known s t near = near
  near_for Modern2025 known s t near = near_status limits i j k l known s t 0 near

  pub near_skipped : (shell : Shell) (block : Script) (known : List Key) (s t : State) → t.memory.status ≡ s.memory.status → Near known s t → Near (known_after known (modern_accesses shell)) (block_skipped shell block s) (block_skipped shell block t)
  near_skipped Profile block known s t e near = near
  near_skipped Old2023 block known s t e near = near
  near_skipped Old2025 block known s t e near = near
  near_skipped Modern2025 block known s t e near =
      near_statuses limits i j k l known s t (status_of_skipped Modern2025 block s.memory.status) (status_of_skipped Modern2025 block t.memory.status) (ap (λ (n : ℕ). status_of_skipped Modern2025 block n) e) near

  -- ---- loops

  loop_ended : (shell : Shell) (last : ℕ) (known : List Key) (s t : State) → t.memory.status ≡ s.memory.status → Near known s t → Is (Status ∷ known) (Normal (set_status (status_of_loop shell last s.memory.status) s)) (Normal (set_status (status_of_loop shell last t.memory.status) t))
  loop_ended shell last known s t e near =
      let n : ℕ = status_of_loop shell last s.memory.status in
      let m : ℕ = status_of_loop shell last t.memory.status in
      normal_alike limits i j k l (Status ∷ known) (set_status n s) (set_status m t) (near_statuses limits i j k l known s t n m (ap (λ (x : ℕ). status_of_loop shell last x) e) near)

  pub after_alike : (until : Bool) (b again : State → Answer) (v next : State → List Access) → AlwaysDoes b v → AlwaysDoes again next → KeepsAll limits again → (last : ℕ)
      → AlwaysDoes (after_condition limits until b again last) (λ t. Reads Status ∷ elim (holds until t.memory.status) [ true ↦ v t ++ behind (b t) next | false ↦ status_written ])
  after_alike until b again v next h does kept last known s t near w =
      let e : t.memory.status ≡ s.memory.status = near.keys Status w.0 in
      if_alike limits i j k l known (holds until s.memory.status) (holds until t.memory.status) (ap (λ (n : ℕ). holds until n) e) (go_on (b s) again) (Normal (set_status (status_of_loop limits.shell last s.memory.status) s)) (go_on (b t) again) (Normal (set_status (status_of_loop limits.shell last t.memory.status) t))
      (v s ++ behind (b s) next) status_written
      (Alike-go_on limits i j k l known s t b again v next (h known s t) does kept near) (λ x. loop_ended limits.shell last known s t e near) w.1

  pub Alike-turns : (left : ℕ) (until : Bool) (c b : State → Answer) (u v : State → List Access) → AlwaysDoes c u → AlwaysDoes b v → KeepsAll limits c → KeepsAll limits b → (last : ℕ) → AlwaysDoes (turns limits.shell left until c b last) (turns_accesses limits.shell left until c b u v)
  Alike-turns zero until c b u v h g kc kb last known s t near w = ended_alike limits i j k l known CutSteps s t near
  Alike-turns (suc left) until c b u v h g kc kb last known s t near w =
      let again : State → Answer = λ x. turns limits.shell left until c b x.memory.status x in
      let next : State → List Access = λ x. Reads Status ∷ turns_accesses limits.shell left until c b u v x in
      let does : AlwaysDoes again next = Alike-read limits i j k l (turns limits.shell left until c b) (turns_accesses limits.shell left until c b u v) (Alike-turns left until c b u v h g kc kb) in
      let kept : KeepsAll limits again = λ x. Keeps-turns limits left until c b kc kb x.memory.status x in
      Alike-go_on limits i j k l known s t c (after_condition limits until b again last) u (λ x. Reads Status ∷ elim (holds until x.memory.status) [ true ↦ v x ++ behind (b x) next | false ↦ status_written ]) (h known s t) (after_alike until b again v next g does kept last) (Keeps-after_condition limits until b again kb kept last) near w

  -- after a body, whose status is that of the `for` if no field is left
  pub Alike-each : (name : Text) (b : State → Answer) (v : State → List Access) → AlwaysDoes b v → KeepsAll limits b → (fs : List Text) → AlwaysDoes (λ x. for_each limits.shell name b x.memory.status fs x) (each_accesses limits.shell name b v fs)
  Alike-each name b v h kb [] known s t near w = normal_alike limits i j k l known s t near
  Alike-each name b v h kb (f ∷ fs) known s t near w =
      let s' : State = begin_turn limits.shell name f s in
      let t' : State = begin_turn limits.shell name f t in
      let again : State → Answer = λ x. for_each limits.shell name b x.memory.status fs x in
      let next : State → List Access = each_accesses limits.shell name b v fs in
      let kept : KeepsAll limits again = λ x. Keeps-for limits name b kb x.memory.status fs x in
      let first : List Access = turn_accesses limits.shell name in
      after_then limits i j k l known first (v s' ++ behind (b s') next) (go_on (b s') again) (go_on (b t') again)
      (Alike-go_on limits i j k l (known_after known first) s' t' b again v next (h (known_after known first) s' t') (Alike-each name b v h kb fs) kept (near_turn limits.shell known s t name f near) (within_then known first (v s' ++ behind (b s') next) w))

  pub Alike-for : (name : Text) (b : State → Answer) (v : State → List Access) → AlwaysDoes b v → KeepsAll limits b → (fs : List Text) → AlwaysDoes (for_each limits.shell name b 0 fs) (for_accesses limits.shell name b v fs)
  Alike-for name b v h kb [] known s t near w = normal_alike limits i j k l (Status ∷ known) (set_status 0 s) (set_status 0 t) (near_status limits i j k l known s t 0 near)
  Alike-for name b v h kb (f ∷ fs) known s t near w = Alike-each name b v h kb (f ∷ fs) known s t near w

  -- ---- compound commands

  compound_keys : (shell : Shell) (known : List Key) (a : Answer) → left_accesses shell ≡ [] → known_after known (compound_accesses shell a) ≡ known
  compound_keys shell known (Normal u) e = refl
  compound_keys shell known (Exit u) e = ap (known_after known) e
  compound_keys shell known (Ended ending u) e = refl
  compound_keys shell known (Dry u) e = refl

  passed_alike : (shell : Shell) (known : List Key) (a b : Answer) → left_accesses shell ≡ [] → Is known a b → Is (known_after known (compound_accesses shell a)) a b
  passed_alike shell known a b e h = subst (λ (ks : List Key). Is ks a b) (sym (compound_keys shell known a e)) h

  end_alike : (known : List Key) (a b : Answer) → ReadsWithin known (compound_accesses Modern2025 a) → Is known a b → Is (known_after known (compound_accesses Modern2025 a)) (compound_end a) (compound_end b)
  end_alike known (Normal u) b w (same h) = subst (λ (x : Answer). Is known (Normal u) (compound_end x)) (sym h.is) (normal_alike limits i j k l known u h.there h.abreast)
  end_alike known (Normal u) b w (cut_here h) = absurd h
  end_alike known (Normal u) b w (beyond h) = beyond h
  end_alike known (Exit u) b w (same h) =
      let t : State = h.there in
      subst (λ (x : Answer). Is (Status ∷ known) (Normal (compound_left u)) (compound_end x)) (sym h.is)
      (normal_alike limits i j k l (Status ∷ known) (compound_left u) (compound_left t)
      (near_statuses limits i j k l known u t (left_status u.memory.status) (left_status t.memory.status) (ap left_status (h.abreast.keys Status w.0)) h.abreast))
  end_alike known (Exit u) b w (cut_here h) = absurd h
  end_alike known (Exit u) b w (beyond h) = beyond h
  end_alike known (Ended ending u) b w (same h) = subst (λ (x : Answer). Is known (Ended ending u) (compound_end x)) (sym h.is) (ended_alike limits i j k l known ending u h.there h.abreast)
  end_alike known (Ended ending u) b w (cut_here h) = cut_here h
  end_alike known (Ended ending u) b w (beyond h) = beyond h
  end_alike known (Dry u) b w (same h) = subst (λ (x : Answer). Is known (Dry u) (compound_end x)) (sym h.is) (dry_alike limits i j k l known u h.there h.abreast)
  end_alike known (Dry u) b w (cut_here h) = absurd h
  end_alike known (Dry u) b w (beyond h) = beyond h

  pub compound_alike : (shell : Shell) (known : List Key) (a b : Answer) → ReadsWithin known (compound_accesses shell a) → Is known a b → Is (known_after known (compound_accesses shell a)) (compound shell a) (compound shell b)
  compound_alike Profile known a b w h = passed_alike Profile known a b refl h
  compound_alike Old2023 known a b w h = passed_alike Old2023 known a b refl h
  compound_alike Old2025 known a b w h = passed_alike Old2025 known a b refl h
  compound_alike Modern2025 known a b w h = end_alike known a b w h

  -- what is in a compound command, and its end
  pub compound_then : (known : List Key) (xs : List Access) (a b : Answer) → (ReadsWithin known xs → Is (known_after known xs) a b) → ReadsWithin known (xs ++ compound_accesses limits.shell a)
      → Is (known_after known (xs ++ compound_accesses limits.shell a)) (compound limits.shell a) (compound limits.shell b)
  compound_then known xs a b h w =
      let last : List Access = compound_accesses limits.shell a in
      after_then limits i j k l known xs last (compound limits.shell a) (compound limits.shell b)
      (compound_alike limits.shell (known_after known xs) a b (within_then known xs last w) (h (within_first known xs last w)))

  pub Alike-compound : (f : State → Answer) (u : State → List Access) → AlwaysDoes f u → AlwaysDoes (λ x. compound limits.shell (f x)) (λ x. u x ++ compound_accesses limits.shell (f x))
  Alike-compound f u does known s t near w = compound_then known (u s) (f s) (f t) (does known s t near) w

  -- ---- texts of files

  sourced_keys : (shell : Shell) (known : List Key) (a : Answer) → prompt_accesses shell ≡ [] → known_after known (sourced_accesses shell a) ≡ known
  sourced_keys shell known (Normal u) e = refl
  sourced_keys shell known (Exit u) e = ap (known_after known) e
  sourced_keys shell known (Ended ending u) e = refl
  sourced_keys shell known (Dry u) e = refl

  left_alike : (shell : Shell) (known : List Key) (a b : Answer) → prompt_accesses shell ≡ [] → Is known a b → Is (known_after known (sourced_accesses shell a)) a b
  left_alike shell known a b e h = subst (λ (ks : List Key). Is ks a b) (sym (sourced_keys shell known a e)) h

  prompt_alike : (known : List Key) (a b : Answer) → ReadsWithin known (sourced_accesses Modern2025 a) → Is known a b → Is (known_after known (sourced_accesses Modern2025 a)) (left_to_prompt a) (left_to_prompt b)
  prompt_alike known (Normal u) b w (same h) = subst (λ (x : Answer). Is known (Normal u) (left_to_prompt x)) (sym h.is) (normal_alike limits i j k l known u h.there h.abreast)
  prompt_alike known (Normal u) b w (cut_here h) = absurd h
  prompt_alike known (Normal u) b w (beyond h) = beyond h
  prompt_alike known (Exit u) b w (same h) =
      let t : State = h.there in
      subst (λ (x : Answer). Is known (Ended (End u.memory.status) u) (left_to_prompt x)) (sym h.is)
      (subst (λ (n : ℕ). Is known (Ended (End u.memory.status) u) (Ended (End n) t)) (sym (h.abreast.keys Status w.0)) (ended_alike limits i j k l known (End u.memory.status) u t h.abreast))
  prompt_alike known (Exit u) b w (cut_here h) = absurd h
  prompt_alike known (Exit u) b w (beyond h) = beyond h
  prompt_alike known (Ended ending u) b w (same h) = subst (λ (x : Answer). Is known (Ended ending u) (left_to_prompt x)) (sym h.is) (ended_alike limits i j k l known ending u h.there h.abreast)
  prompt_alike known (Ended ending u) b w (cut_here h) = cut_here h
  prompt_alike known (Ended ending u) b w (beyond h) = beyond h
  prompt_alike known (Dry u) b w (same h) = subst (λ (x : Answer). Is known (Dry u) (left_to_prompt x)) (sym h.is) (dry_alike limits i j k l known u h.there h.abreast)
  prompt_alike known (Dry u) b w (cut_here h) = absurd h
  prompt_alike known (Dry u) b w (beyond h) = beyond h

  pub sourced_alike : (shell : Shell) (known : List Key) (a b : Answer) → ReadsWithin known (sourced_accesses shell a) → Is known a b → Is (known_after known (sourced_accesses shell a)) (sourced shell a) (sourced shell b)
  sourced_alike Profile known a b w h = left_alike Profile known a b refl h
  sourced_alike Old2023 known a b w h = left_alike Old2023 known a b refl h
  sourced_alike Old2025 known a b w h = left_alike Old2025 known a b refl h
  sourced_alike Modern2025 known a b w h = prompt_alike known a b w h

  pub Alike-sourced : (f : State → Answer) (u : State → List Access) → AlwaysDoes f u → AlwaysDoes (λ x. sourced limits.shell (f x)) (λ x. u x ++ sourced_accesses limits.shell (f x))
  Alike-sourced f u does known s t near w =
      let last : List Access = sourced_accesses limits.shell (f s) in
      after_then limits i j k l known (u s) last (sourced limits.shell (f s)) (sourced limits.shell (f t))
      (sourced_alike limits.shell (known_after known (u s)) (f s) (f t) (within_then known (u s) last w) (does known s t near (within_first known (u s) last w)))

  pub Alike-turns_of : (name : Text) (b : State → Answer) (v : State → List Access) → AlwaysDoes b v → KeepsAll limits b → (fs : List Text) → AlwaysDoes (turns_of limits.shell name b fs) (turns_of_accesses limits.shell name b v fs)
  Alike-turns_of name b v h kb fs = by (follows_turns limits.shell name fs)
    where
      by : (follows : Bool) → AlwaysDoes (λ s. elim follows [ true ↦ compound limits.shell (for_each limits.shell name b 0 fs s) | false ↦ Ended (Unsupported name) s ])
          (λ s. elim follows [ true ↦ for_accesses limits.shell name b v fs s ++ compound_accesses limits.shell (for_each limits.shell name b 0 fs s) | false ↦ [] ])
      by true known s t near w = Alike-compound (for_each limits.shell name b 0 fs) (for_accesses limits.shell name b v fs) (Alike-for name b v h kb fs) known s t near w
      by false known s t near w = ended_alike limits i j k l known (Unsupported name) s t near

  -- what follows a block of an `if` that is not run
  pub Alike-skip : (b : Script) (f : State → Answer) (u : State → List Access) → AlwaysDoes f u → (known : List Key) (s t : State) → t.memory.status ≡ s.memory.status → Near known s t
      → ReadsWithin known (modern_accesses limits.shell ++ u (block_skipped limits.shell b s))
      → Is (known_after known (modern_accesses limits.shell ++ u (block_skipped limits.shell b s))) (f (block_skipped limits.shell b s)) (f (block_skipped limits.shell b t))
  Alike-skip b f u does known s t e near w =
      let first : List Access = modern_accesses limits.shell in
      let s' : State = block_skipped limits.shell b s in
      let t' : State = block_skipped limits.shell b t in
      after_then limits i j k l known first (u s') (f s') (f t')
      (does (known_after known first) s' t' (near_skipped limits.shell b known s t e near) (within_then known first (u s') w))
