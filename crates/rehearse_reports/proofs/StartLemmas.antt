-- Reports of commands that begin.
use Rattle.std.proofs.Common.{◌≡◌, ◌∙◌, refl, sym, ap, subst, ℕ, suc, Bool, true, false, List, [], ◌∷◌, ◌++◌, map, length, Option, Some, None, Result, Ok, Err, Vec, Global, nat_lt, nat_le, arith}
use Rattle.std.specs.Prelude.{OnOk}
use Rattle.std.specs.List.{flat_map}
use Rattle.hushlang.specs.Tree as tree
use Rattle.hushlang.specs.Tree.{Command}
use Rattle.hushlang.specs.TreesShown as view
use Rattle.hushlang.specs.Expansion.{Parameters, size, most_bytes}
use Rattle.hushlang.specs.declared.tree.Word.{Word}
use Rattle.rehearse_terms.specs.State.{Text, Memory, State}
use Rattle.rehearse_terms.specs.declared.shell.Shell.{Shell}
use Rattle.rehearse_rules.specs.ByShell.{fields_in, assigned_in, reads_again}
use Rattle.rehearse_rules.specs.Parameters.{parameters_in}
use Rattle.rehearse_rules.specs.Execution.{Limits}
use Rattle.rehearse_machine.specs.MovesShown.{IsExpanded, IsExpandedOne}
use Rattle.rehearse_reads.specs.Keys.{Key, Access, all_read, Covers}
use Rattle.rehearse_reads.specs.Accesses.{word_reads, words_reads, local_accesses}
use Rattle.rehearse_frames.specs.MoveAccesses.{of_fields, of_command}
use Rattle.rehearse_reports.specs.Reports.{Reports}
use Rattle.rehearse_reports.proofs.ReportLemmas.{reports_nothing, reports_as, reports_then}
use Rattle.rehearse_reports.proofs.CoverLemmas.{call_so, long_so, values_reads, assign_long, assign_fits, assign_none}
use Rattle.rehearse_reports.proofs.NamedLemmas.{ok_as, quietly}

-- what is reported of a command is reported of the command that it is
pub command_as : {E : Type 0} (r : Result (Unit {0}) E) (limits : Limits) (s : State) (old new : List Access) (command other : Command) → command ≡ other → OnOk r (Reports old new (of_command limits other [] s)) → OnOk r (Reports old new (of_command limits command [] s))
command_as r limits s old new command other e h = subst (λ (x : Command). OnOk r (Reports old new (of_command limits x [] s))) (sym e) h

module _ (limits : Limits) (s : State) (words : List tree.Word) (less : nat_lt s.steps limits.step_bound ≡ true) (old mid : List Access) (read : List tree.Word) (same : read ≡ words) (reads : Reports old mid (all_read (words_reads s.memory read))) where
  reads_so : Reports old mid (all_read (words_reads s.memory words))
  reads_so = subst (λ (ws : List tree.Word). Reports old mid (all_read (words_reads s.memory ws))) same reads

  pub call_reports : {E : Type 0} (r : Result (Unit {0}) E) (new : List Access) (fields : List Text) → fields ≡ fields_in limits.shell (parameters_in s.memory) words → nat_le (size fields) most_bytes ≡ true
      → OnOk r (Reports mid new (of_fields limits (reads_again words) [] fields (record s { steps = suc s.steps }))) → OnOk r (Reports old new (of_command limits (tree.Simple words) [] s))
  call_reports r new fields is fits h =
      ok_as r (λ k. subst (Reports old new) (call_so limits words s fields less is fits) (reports_then old mid new (all_read (words_reads s.memory words)) (of_fields limits (reads_again words) [] fields (record s { steps = suc s.steps })) reads_so k)) h

  -- fields that were expanded
  module _ (shell : Shell) (parameters : Parameters) (expanded : List tree.Word) (own : shell ≡ limits.shell) (here : parameters ≡ parameters_in s.memory) (again : expanded ≡ words) where
    fields_are : fields_in shell parameters expanded ≡ fields_in limits.shell (parameters_in s.memory) words
    fields_are =
        ap (λ (x : Shell). fields_in x parameters expanded) own ∙ ap (λ (x : Parameters). fields_in limits.shell x expanded) here ∙ ap (λ (x : List tree.Word). fields_in limits.shell (parameters_in s.memory) x) again

    pub call_too_long : (fit : Bool) (found : List Text) → fit ≡ false → IsExpanded fit found (fields_in shell parameters expanded) → Reports old mid (of_command limits (tree.Simple words) [] s)
    call_too_long fit found e h =
        let long : nat_le (size (fields_in shell parameters expanded)) most_bytes ≡ false = subst (λ (b : Bool). IsExpanded b found (fields_in shell parameters expanded)) e h in
        subst (Reports old mid) (long_so limits words s less (ap (λ (fs : List Text). nat_le (size fs) most_bytes) (sym fields_are) ∙ long)) reads_so

    pub call_expanded : {E : Type 0} (r : Result (Unit {0}) E) (new : List Access) (fit : Bool) (found fields : List Text) → fit ≡ true → IsExpanded fit found (fields_in shell parameters expanded) → fields ≡ found
        → OnOk r (Reports mid new (of_fields limits (reads_again words) [] fields (record s { steps = suc s.steps }))) → OnOk r (Reports old new (of_command limits (tree.Simple words) [] s))
    call_expanded r new fit found fields e h is k =
        let both : (found ≡ fields_in shell parameters expanded) × (nat_le (size (fields_in shell parameters expanded)) most_bytes ≡ true) = subst (λ (b : Bool). IsExpanded b found (fields_in shell parameters expanded)) e h in
        call_reports r new fields (is ∙ both.0 ∙ fields_are) (ap (λ (fs : List Text). nat_le (size fs) most_bytes) (is ∙ both.0) ∙ both.1) k

-- ---- assignments

abbrev Value : Type 0
Value = Vec ℕ Global × Word

values_so : (m : Memory) (values : List Value) → flat_map (λ (v : Value). word_reads m (view.word v.1)) values ≡ values_reads m (map view.value values)
values_so m [] = refl
values_so m (v ∷ values) = ap (λ (keys : List Key). word_reads m (view.word v.1) ++ keys) (values_so m values)

pub assign_empty : (limits : Limits) (s : State) (old : List Access) (values : List Value) → length values ≡ 0 → Reports old old (of_command limits (tree.Assign (map view.value values)) [] s)
assign_empty limits s old [] e = quietly old (of_command limits (tree.Assign []) [] s) (assign_none limits s)
assign_empty limits s old (v ∷ values) e = absurd (omega arith)

module _ (limits : Limits) (s : State) (less : nat_lt s.steps limits.step_bound ≡ true) (values : List Value) (first : Value) (rest : List Value) (split : values ≡ first ∷ rest) (old mid : List Access) (reads : Reports old mid (all_read (word_reads s.memory (view.word first.1))))
    (shell : Shell) (parameters : Parameters) (own : shell ≡ limits.shell) (here : parameters ≡ parameters_in s.memory) where
  value_is : assigned_in shell parameters (view.word first.1) ≡ assigned_in limits.shell (parameters_in s.memory) (view.word first.1)
  value_is = ap (λ (x : Shell). assigned_in x parameters (view.word first.1)) own ∙ ap (λ (x : Parameters). assigned_in limits.shell x (view.word first.1)) here

  split_so : tree.Assign (map view.value values) ≡ tree.Assign (view.value first ∷ map view.value rest)
  split_so = ap (λ (vs : List Value). tree.Assign (map view.value vs)) split

  pub assign_too_long : (o : Option (Vec ℕ Global)) → o ≡ None → IsExpandedOne o (assigned_in shell parameters (view.word first.1)) → Reports old mid (of_command limits (tree.Assign (map view.value values)) [] s)
  assign_too_long o e h =
      let long : nat_le (length (assigned_in shell parameters (view.word first.1))) most_bytes ≡ false = subst (λ (x : Option (Vec ℕ Global)). IsExpandedOne x (assigned_in shell parameters (view.word first.1))) e h in
      subst (λ (c : Command). Reports old mid (of_command limits c [] s)) (sym split_so)
      (subst (Reports old mid) (assign_long limits (view.value first) (map view.value rest) s less (ap (λ (v : Text). nat_le (length v) most_bytes) (sym value_is) ∙ long)) reads)

  pub assign_reports : {E : Type 0} (r : Result (Unit {0}) E) (late new : List Access) (o : Option (Vec ℕ Global)) (value : Vec ℕ Global) → o ≡ Some value → IsExpandedOne o (assigned_in shell parameters (view.word first.1))
      → (other : Shell) (name bytes : Text) → other ≡ limits.shell → name ≡ first.0.items → bytes ≡ value.items → Reports mid late (local_accesses other name bytes)
      → OnOk r (Reports late new (all_read (flat_map (λ (v : Value). word_reads s.memory (view.word v.1)) rest))) → OnOk r (Reports old new (of_command limits (tree.Assign (map view.value values)) [] s))
  assign_reports r late new o value e h other name bytes ours named same written read =
      let both : (value.items ≡ assigned_in shell parameters (view.word first.1)) × (nat_le (length (assigned_in shell parameters (view.word first.1))) most_bytes ≡ true) = subst (λ (x : Option (Vec ℕ Global)). IsExpandedOne x (assigned_in shell parameters (view.word first.1))) e h in
      let given : Text = assigned_in limits.shell (parameters_in s.memory) (view.word first.1) in
      let fits : nat_le (length given) most_bytes ≡ true = ap (λ (v : Text). nat_le (length v) most_bytes) (sym value_is) ∙ both.1 in
      let bytes_are : bytes ≡ given = same ∙ both.0 ∙ value_is in
      let local : Reports mid late (local_accesses limits.shell first.0.items given) =
      subst (λ (v : Text). Reports mid late (local_accesses limits.shell first.0.items v)) bytes_are (subst (λ (n : Text). Reports mid late (local_accesses limits.shell n bytes)) named (subst (λ (x : Shell). Reports mid late (local_accesses x name bytes)) ours written)) in
      subst (λ (c : Command). OnOk r (Reports old new (of_command limits c [] s))) (sym split_so)
      (ok_as r (λ k.
      let behind : Reports late new (all_read (values_reads s.memory (map view.value rest))) = subst (λ (keys : List Key). Reports late new (all_read keys)) (values_so s.memory rest) k in
      reports_as old new (all_read (word_reads s.memory (view.word first.1)) ++ (local_accesses limits.shell first.0.items given ++ all_read (values_reads s.memory (map view.value rest)))) (of_command limits (tree.Assign (view.value first ∷ map view.value rest)) [] s)
      (reports_then old mid new (all_read (word_reads s.memory (view.word first.1))) (local_accesses limits.shell first.0.items given ++ all_read (values_reads s.memory (map view.value rest))) reads
      (reports_then mid late new (local_accesses limits.shell first.0.items given) (all_read (values_reads s.memory (map view.value rest))) local behind))
      (assign_fits limits (view.value first) (map view.value rest) s less fits)) read)
