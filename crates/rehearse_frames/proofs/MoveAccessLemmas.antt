-- What frames read and write is what a move reads and writes, and then what is to come after it.
use Rattle.std.proofs.Common.{◌≡◌, ◌∙◌, refl, sym, ap, ℕ, zero, suc, ◌≤◌, arith, Bool, true, false, List, [], ◌∷◌, ◌++◌, length, append_assoc, Option, Some, None, nat_lt, nat_le, nat_eq}
use Rattle.device_list.specs.declared.finish.BoardEnd.{BoardEnd}
use Rattle.hushlang.specs.Tree as tree
use Rattle.hushlang.specs.Tree.{Script, AndOr, Joined, Command, Arms, IsProper, IsProperCommand, HoldsCommand}
use Rattle.hushlang.specs.Expansion.{size, most_bytes}
use Rattle.hushlang_shells.specs.TreesByShell.{TextRead, Runs, Fails, Panics, Unread, started_in, sourced_in}
use Rattle.hushlang_shells.proofs.TreeByShellLemmas.{started_texts_are_proper, sourced_texts_are_proper}
use Rattle.builtins.specs.Builtins.{Builtin, SetEnv, Run, Test, Echo, True, False, Leave, builtin_of}
use Rattle.commands.specs.Computed.{Computed}
use Rattle.commands.specs.BuiltInCommands.{ChangesVariables, carried, deed_of}
use Rattle.device_list.specs.Called.{BuiltIn, Device, NoCommand, called_by, sets_in}
use Rattle.device_list.specs.DeviceList.{Effect, effect_of, computed_by, file_in}
use Rattle.rehearse_terms.specs.Outcomes.{OutcomeWord, Outcome, Success, Failure}
use Rattle.rehearse_terms.specs.State.{Text, get, State}
use Rattle.rehearse_terms.specs.declared.shell.Shell.{Shell}
use Rattle.rehearse_terms.specs.declared.shell.Shell.TheVariants.{Profile, Old2023, Old2025, Modern2025}
use Rattle.rehearse_rules.specs.Parameters.{parameters_in}
use Rattle.rehearse_rules.specs.ByShell.{unread, leaves_in, status_of_exit, asks_in, truth_in, fields_in, turns_in, skips_rest, status_of_loop, follows, assigned_in, reads_again, follows_turns, status_of_no_block, call_in}
use Rattle.rehearse_rules.specs.Needs.{effect_now}
use Rattle.rehearse_rules.specs.Execution.{Limits, Answer, Normal, Exit, Ended, Ending, End, CutDevices, CutSteps, Unknown, Size, Finished, Unsupported, Panic, Request, go_on, set_status, status_when, goes, holds, begin, finish, tell_or_take, told, told_again, logged, set_environment, device, text_end, run_all, command, simple, sized, assign, assign_local, turns, for_each, begin_turn, run_read, started_text, request_of, test_request, text_failed, turns_of, for_words, for_begun, block_skipped, compound, compound_left, Dry, simple_call, run_file, handed_over, sourced, sourced_text, choice_text, chosen, run_one}
use Rattle.rehearse_rules.proofs.NeedsLemmas.{now_runs}
use Rattle.rehearse_rules.proofs.CompoundLemmas.{compound_normal, compound_ended, sourced_normal, sourced_ended}
use Rattle.rehearse_rules.proofs.GrowingSteps.{Grew, AtLeast-track, Grew-block}
use Rattle.rehearse_rules.proofs.TakenOutcomes.{KeepsAll, Keeps-script, Keeps-exec}
use Rattle.rehearse_machine.specs.Frames.{Frame, Lists, Linked, IfCondition, LoopCondition, LoopBody, ForBody, RunNames, RunText, Next, Go, Ask, Stop, tell_or_ask, finish_next, leave, begin_assign, begin_for, begin_arms, begin_read, begin_text, begin_names, begin_exit, fitting, ask, begin_called, begin_fields, counted, begin_command, answered, move, begin_turns, begin_words, CommandEnd, leave_compound, behind_block, begin_simple_call, RunFile, FileText, with_file, leave_file, begin_sourced, begin_file, ChosenFile, begin_one, begin_question}
use Rattle.rehearse_machine.specs.Meaning.{with, full, script, one, joined_of, arms_of, again, resume, AreProperFrames}
use Rattle.rehearse_machine.proofs.MoveMeaning.{failed_with_1, turn_more}
use Rattle.rehearse_machine.proofs.StepBoundLemmas.{closed_exec}
use Rattle.rehearse_machine.proofs.BoundLemmas.{Cut-block}
use Rattle.rehearse_reads.specs.Keys.{Access, Reads, Writes, Environment, Status, all_read}
use Rattle.rehearse_reads.specs.Accesses.{success_reads, listed_accesses, behind, behind_text, status_written, word_reads, words_reads, sized_accesses, local_accesses, assign_accesses, turns_accesses, turn_accesses, each_accesses, for_accesses, begun_accesses, told_reads, answer_accesses, outcome_accesses, device_accesses, computed_accesses, read_accesses, started_accesses, builtin_accesses, call_accesses, simple_accesses, modern_accesses, turns_of_accesses, for_words_accesses, left_accesses, compound_accesses, nothing_accesses, simple_call_accesses, file_accesses, handed_accesses, sourced_accesses, sourced_text_accesses, one_accesses}
use Rattle.rehearse_frames.specs.ToCome.{names_read, of_full, of_script, of_one, of_joined, of_arms, of_again, of_condition, of_choice, of_names, of_frames, of_next, choice, condition, turns_left, of_compound, of_file, of_chosen}
use Rattle.rehearse_frames.specs.MoveAccesses.{of_listed, of_leaving, of_exit, of_telling, of_beginning_for, of_beginning_arms, of_beginning_read, of_beginning_text, of_beginning_file, of_beginning_names, of_asking, of_builtin, of_call, of_fields, of_command, of_move, of_beginning_turns, of_beginning_words, of_leaving_compound, of_simple_call, of_beginning_one, of_beginning_question}
use Rattle.rehearse_frames.specs.Laws.{MovesComeFirst, OutcomesComeFirst}
use Rattle.rehearse_frames.proofs.NoneBegun.{nothing_behind, None-block}
use Rattle.rehearse_frames.proofs.SameAccesses.{either, same_behind, turns_same, closed_accesses}

in_front : (front xs after ys rest : List Access) → xs ++ after ≡ ys ++ rest → (front ++ xs) ++ after ≡ (front ++ ys) ++ rest
in_front front xs after ys rest e = append_assoc front xs after ∙ ap (λ (l : List Access). front ++ l) e ∙ sym (append_assoc front ys rest)

module _ (limits : Limits) (wanted : List Text) (w : OutcomeWord) where
  abbrev Rest : List Frame → Answer → List Access
  Rest fs a = of_frames limits wanted fs a

  abbrev After : Next → List Access
  After next = of_next limits wanted w next

  -- an ending passes every frame
  frames_ended : (fs : List Frame) (ending : Ending) (s : State) → Rest fs (Ended ending s) ≡ names_read wanted
  frames_ended [] ending s = refl
  frames_ended (Lists lists ∷ fs) ending s = frames_ended fs ending s
  frames_ended (Linked links ∷ fs) ending s = frames_ended fs ending s
  frames_ended (IfCondition b arms ∷ fs) ending s = ap (Rest fs) (compound_ended limits.shell ending s) ∙ frames_ended fs ending s
  frames_ended (LoopCondition until c b last ∷ fs) ending s = ap (Rest fs) (compound_ended limits.shell ending s) ∙ frames_ended fs ending s
  frames_ended (LoopBody until c b ∷ fs) ending s = ap (Rest fs) (compound_ended limits.shell ending s) ∙ frames_ended fs ending s
  frames_ended (ForBody name values body ∷ fs) ending s = ap (Rest fs) (compound_ended limits.shell ending s) ∙ frames_ended fs ending s
  frames_ended (RunNames names ∷ fs) ending s = frames_ended fs ending s
  frames_ended (RunText names ∷ fs) ending s = frames_ended fs ending s
  frames_ended (RunFile name others before ∷ fs) ending s = frames_ended fs ending s
  frames_ended (ChosenFile name other others before ∷ fs) ending s = frames_ended fs ending s
  frames_ended (FileText ∷ fs) ending s =
      ap (λ (a : Answer). behind_text a (λ t. []) ++ Rest fs (text_end limits.shell a Normal)) (sourced_ended limits.shell ending s) ∙ frames_ended fs ending s
  frames_ended (CommandEnd ∷ fs) ending s = ap (Rest fs) (compound_ended limits.shell ending s) ∙ frames_ended fs ending s

  if_so : (b : Bool) (xs ys : List Access) (x y : Next) (fs : List Frame) (zs ws : List Access) (u v : Answer) → xs ++ After x ≡ zs ++ Rest fs u → ys ++ After y ≡ ws ++ Rest fs v
      → (elim b [ true ↦ xs | false ↦ ys ]) ++ After (elim b [ true ↦ x | false ↦ y ]) ≡ (elim b [ true ↦ zs | false ↦ ws ]) ++ Rest fs (elim b [ true ↦ u | false ↦ v ])
  if_so true xs ys x y fs zs ws u v e k = e
  if_so false xs ys x y fs zs ws u v e k = k

  -- a `run` whose text has been left
  left_so : (b : Bool) (names : List Text) (fs : List Frame) (s : State) → nat_eq s.memory.status 0 ≡ b
      → (elim b [ true ↦ [] | false ↦ Reads Status ∷ [] ]) ++ After (elim b [ true ↦ Go (RunText names ∷ fs) s | false ↦ Go fs s ])
      ≡ Reads Status ∷ ((elim b [ true ↦ of_names limits names (with w s) | false ↦ [] ]) ++ Rest fs (elim b [ true ↦ run_all limits (full limits) names (with w s) | false ↦ Normal (with w s) ]))
  left_so true names fs s e =
      ap (λ (x : Bool). Reads Status ∷ ((elim x [ true ↦ of_names limits names (with w s) | false ↦ [] ]) ++ Rest fs (elim x [ true ↦ run_all limits (full limits) names (with w s) | false ↦ Normal (text_failed limits.shell (with w s)) ]))) e
  left_so false names fs s e = refl

  names_left : (b : Bool) (names : List Text) (fs : List Frame) (s : State) → After (elim b [ true ↦ Go (RunNames names ∷ fs) s | false ↦ Go fs s ])
      ≡ (elim b [ true ↦ of_names limits names (with w s) | false ↦ [] ]) ++ Rest fs (elim b [ true ↦ run_all limits (full limits) names (with w s) | false ↦ Normal (with w s) ])
  names_left true names fs s = refl
  names_left false names fs s = refl

  -- ---- compound commands

  -- one that has ended
  over_so : (fs : List Frame) (t : State) → Rest fs (Normal t) ≡ Rest (CommandEnd ∷ fs) (Normal t)
  over_so fs t = ap (Rest fs) (sym (compound_normal limits.shell t))

  nothing_of : (shell : Shell) (a : Answer) → left_accesses shell ≡ [] → compound_accesses shell a ≡ []
  nothing_of shell (Normal t) e = refl
  nothing_of shell (Exit t) e = e
  nothing_of shell (Ended ending t) e = refl
  nothing_of shell (Dry t) e = refl

  -- after a block of an `if`
  passed_so : (shell : Shell) → limits.shell ≡ shell → left_accesses shell ≡ [] → (fs : List Frame) (a : Answer) → compound shell a ≡ a → Rest fs a ≡ Rest (CommandEnd ∷ fs) a
  passed_so shell own none fs a same =
      sym (ap (λ (x : Shell). compound_accesses x a ++ Rest fs (compound x a)) own ∙ ap (λ (xs : List Access). xs ++ Rest fs (compound shell a)) (nothing_of shell a none) ∙ ap (Rest fs) same)

  block_so : (shell : Shell) → limits.shell ≡ shell → (fs : List Frame) (a : Answer) → Rest (behind_block shell fs) a ≡ Rest (CommandEnd ∷ fs) a
  block_so Profile own fs a = passed_so Profile own refl fs a refl
  block_so Old2023 own fs a = passed_so Old2023 own refl fs a refl
  block_so Old2025 own fs a = passed_so Old2025 own refl fs a refl
  block_so Modern2025 own fs a = refl

  -- `exit` in one
  left_compound_so : (shell : Shell) → limits.shell ≡ shell → (ps fs : List Frame) (s : State) (xs : List Access) (outwards : Next) → ((t : State) → Rest ps (Normal t) ≡ Rest fs (Normal t)) → xs ++ After outwards ≡ Rest fs (Exit (with w s))
      → of_leaving_compound shell xs ++ After (leave_compound shell ps outwards s) ≡ left_accesses shell ++ Rest fs (compound shell (Exit (with w s)))
  left_compound_so Profile own ps fs s xs outwards same e = e
  left_compound_so Old2023 own ps fs s xs outwards same e = e
  left_compound_so Old2025 own ps fs s xs outwards same e = e
  left_compound_so Modern2025 own ps fs s xs outwards same e = ap (λ (l : List Access). Reads Status ∷ Writes Status ∷ l) (same (with w (compound_left s)))

  -- `exit` in the text of a file
  file_left_so : (b : Bool) (fs : List Frame) (t : State) → Rest fs (Normal t) ≡ (elim b [ true ↦ [] | false ↦ [] ]) ++ Rest fs (elim b [ true ↦ Normal t | false ↦ Normal t ])
  file_left_so true fs t = refl
  file_left_so false fs t = refl

  left_file_so : (shell : Shell) → limits.shell ≡ shell → (fs : List Frame) (s : State)
      → Reads Status ∷ After (leave_file shell fs s) ≡ (sourced_accesses shell (Exit (with w s)) ++ behind_text (sourced shell (Exit (with w s))) (λ t. [])) ++ Rest fs (text_end limits.shell (sourced shell (Exit (with w s))) Normal)
  left_file_so Profile own fs s = ap (λ (xs : List Access). Reads Status ∷ xs) (file_left_so (nat_eq s.memory.status 0) fs (with w s))
  left_file_so Old2023 own fs s = ap (λ (xs : List Access). Reads Status ∷ xs) (file_left_so (nat_eq s.memory.status 0) fs (with w s))
  left_file_so Old2025 own fs s = ap (λ (xs : List Access). Reads Status ∷ xs) (file_left_so (nat_eq s.memory.status 0) fs (with w s))
  left_file_so Modern2025 own fs s = ap (λ (xs : List Access). Reads Status ∷ xs) (sym (frames_ended fs (End s.memory.status) (with w s)))

  leave_so : (fs : List Frame) (s : State) → of_leaving limits.shell s.memory.status fs ++ After (leave limits.shell fs s) ≡ Rest fs (Exit (with w s))
  leave_so [] s = refl
  leave_so (RunNames names ∷ fs) s = ap (λ (xs : List Access). Reads Status ∷ xs) (names_left (nat_eq s.memory.status 0) names fs s)
  leave_so (RunText names ∷ fs) s = left_so (nat_eq s.memory.status 0) names fs s refl
  leave_so (Lists ls ∷ fs) s = leave_so fs s
  leave_so (Linked ls ∷ fs) s = leave_so fs s
  leave_so (IfCondition b arms ∷ fs) s = left_compound_so limits.shell refl (CommandEnd ∷ fs) fs s (of_leaving limits.shell s.memory.status fs) (leave limits.shell fs s) (λ t. sym (over_so fs t)) (leave_so fs s)
  leave_so (LoopCondition until c b last ∷ fs) s = left_compound_so limits.shell refl (CommandEnd ∷ fs) fs s (of_leaving limits.shell s.memory.status fs) (leave limits.shell fs s) (λ t. sym (over_so fs t)) (leave_so fs s)
  leave_so (LoopBody until c b ∷ fs) s = left_compound_so limits.shell refl (CommandEnd ∷ fs) fs s (of_leaving limits.shell s.memory.status fs) (leave limits.shell fs s) (λ t. sym (over_so fs t)) (leave_so fs s)
  leave_so (ForBody name fields body ∷ fs) s = left_compound_so limits.shell refl fs fs s (of_leaving limits.shell s.memory.status fs) (leave limits.shell fs s) (λ t. refl) (leave_so fs s)
  leave_so (RunFile name others before ∷ fs) s = leave_so fs s
  leave_so (ChosenFile name other others before ∷ fs) s = leave_so fs s
  leave_so (FileText ∷ fs) s = left_file_so limits.shell refl fs s
  leave_so (CommandEnd ∷ fs) s = left_compound_so limits.shell refl (CommandEnd ∷ fs) fs s (of_leaving limits.shell s.memory.status fs) (leave limits.shell fs s) (λ t. sym (over_so fs t)) (leave_so fs s)

  stops_so : (fs : List Frame) (ending : Ending) (s : State) → names_read wanted ≡ Rest fs (Ended ending (with w s))
  stops_so fs ending s = sym (frames_ended fs ending (with w s))

  assign_so : (pairs : List (Text × tree.Word)) (fs : List Frame) (s : State) → assign_accesses limits.shell pairs s ++ After (begin_assign limits.shell pairs fs s) ≡ assign_accesses limits.shell pairs (with w s) ++ Rest fs (assign limits.shell pairs (with w s))
  assign_so [] fs s = refl
  assign_so (pair ∷ pairs) fs s =
      let value : Text = assigned_in limits.shell (parameters_in s.memory) pair.1 in
      let t : State = assign_local limits.shell pair.0 value s in
      let first : List Access = local_accesses limits.shell pair.0 value in
      in_front (all_read (word_reads s.memory pair.1)) (elim (nat_le (length value) most_bytes) [ true ↦ first ++ assign_accesses limits.shell pairs t | false ↦ [] ])
      (After (begin_assign limits.shell (pair ∷ pairs) fs s)) (elim (nat_le (length value) most_bytes) [ true ↦ first ++ assign_accesses limits.shell pairs (with w t) | false ↦ [] ]) (Rest fs (assign limits.shell (pair ∷ pairs) (with w s)))
      (if_so (nat_le (length value) most_bytes) (first ++ assign_accesses limits.shell pairs t) [] (begin_assign limits.shell pairs fs t) (Stop Size s) fs (first ++ assign_accesses limits.shell pairs (with w t)) [] (assign limits.shell pairs (with w t)) (Ended Size (with w s))
      (in_front first (assign_accesses limits.shell pairs t) (After (begin_assign limits.shell pairs fs t)) (assign_accesses limits.shell pairs (with w t)) (Rest fs (assign limits.shell pairs (with w t))) (assign_so pairs fs t))
      (stops_so fs Size s))

  -- ---- texts that `run` starts

  -- a text that is run reads and writes what its script does
  closed_so : (a : Script) → IsProper a → (names : List Text) (fs : List Frame) (t : State)
      → of_script limits a t ++ (behind_text (script limits a t) (of_names limits names) ++ Rest fs (text_end limits.shell (script limits a t) (run_all limits (full limits) names)))
      ≡ (of_full limits a t ++ behind_text (full limits a t) (of_names limits names)) ++ Rest fs (text_end limits.shell (full limits a t) (run_all limits (full limits) names))
  closed_so a p names fs t =
      let rest : Answer → List Access = λ x. behind_text x (of_names limits names) ++ Rest fs (text_end limits.shell x (run_all limits (full limits) names)) in
      sym (append_assoc (of_full limits a t) (behind_text (full limits a t) (of_names limits names)) (Rest fs (text_end limits.shell (full limits a t) (run_all limits (full limits) names)))
      ∙ ap (λ (xs : List Access). xs ++ rest (full limits a t)) (closed_accesses limits limits.step_bound a p t (omega arith))
      ∙ ap (λ (x : Answer). of_script limits a t ++ rest x) (closed_exec limits limits.step_bound a p t (omega arith)))

  read_so : (found : TextRead) (name : Text) (names : List Text) (fs : List Frame) (s : State) → ((t : Script) → found ≡ Runs t → IsProper t)
      → of_beginning_read found ++ After (begin_read limits.shell found name names fs s)
      ≡ (read_accesses limits (full limits) (of_full limits) found (with w s) ++ behind_text (run_read limits (full limits) name found (with w s)) (of_names limits names))
      ++ Rest fs (text_end limits.shell (run_read limits (full limits) name found (with w s)) (run_all limits (full limits) names))
  read_so Fails name names fs s p = ap (λ (n : ℕ). Writes Status ∷ Reads Status ∷ Rest fs (Normal (set_status n (with w s)))) (sym (failed_with_1 limits.shell))
  read_so Panics name names fs s p = stops_so fs (Panic name) s
  read_so Unread name names fs s p = stops_so fs (unread limits.shell name) s
  read_so (Runs tree.Empty) name names fs s p = ap (λ (xs : List Access). Writes Status ∷ xs) (closed_so tree.Empty tt names fs (set_status 0 (with w s)))
  read_so (Runs (tree.Runs l ls)) name names fs s p = closed_so (tree.Runs l ls) (p (tree.Runs l ls) refl) names fs (with w s)

  text_so : (o : Option Text) (name : Text) (names : List Text) (fs : List Frame) (s : State)
      → of_beginning_text limits.shell o ++ After (begin_text limits.shell o name names fs s)
      ≡ (elim o [ None ↦ status_written | Some v ↦ started_accesses limits (full limits) (of_full limits) v (with w s) ++ behind_text (started_text limits (full limits) name v (with w s)) (of_names limits names) ])
      ++ Rest fs (elim o [ None ↦ Normal (set_status 1 (with w s)) | Some v ↦ text_end limits.shell (started_text limits (full limits) name v (with w s)) (run_all limits (full limits) names) ])
  text_so None name names fs s = refl
  text_so (Some v) name names fs s = read_so (started_in limits.shell v) name names fs s (started_texts_are_proper limits.shell v)

  -- ---- texts of files

  abbrev of_file_text : List Frame → Answer → List Access
  of_file_text fs a = (sourced_accesses limits.shell a ++ behind_text (sourced limits.shell a) (λ t. [])) ++ Rest fs (text_end limits.shell (sourced limits.shell a) Normal)

  closed_file_so : (a : Script) → IsProper a → (fs : List Frame) (t : State)
      → of_script limits a t ++ of_file_text fs (script limits a t)
      ≡ ((of_full limits a t ++ sourced_accesses limits.shell (full limits a t)) ++ behind_text (sourced limits.shell (full limits a t)) (λ u. [])) ++ Rest fs (text_end limits.shell (sourced limits.shell (full limits a t)) Normal)
  closed_file_so a p fs t =
      let xs : List Access = of_full limits a t in
      let ys : List Access = sourced_accesses limits.shell (full limits a t) in
      let zs : List Access = behind_text (sourced limits.shell (full limits a t)) (λ u. []) in
      let rest : List Access = Rest fs (text_end limits.shell (sourced limits.shell (full limits a t)) Normal) in
      sym (ap (λ (l : List Access). l ++ rest) (append_assoc xs ys zs) ∙ append_assoc xs (ys ++ zs) rest
      ∙ ap (λ (l : List Access). l ++ of_file_text fs (full limits a t)) (closed_accesses limits limits.step_bound a p t (omega arith))
      ∙ ap (λ (x : Answer). of_script limits a t ++ of_file_text fs x) (closed_exec limits limits.step_bound a p t (omega arith)))

  sourced_so : (found : TextRead) (name : Text) (fs : List Frame) (s : State) → ((t : Script) → found ≡ Runs t → IsProper t)
      → of_beginning_read found ++ After (begin_sourced limits.shell found name fs s)
      ≡ ((read_accesses limits (full limits) (of_full limits) found (with w s) ++ sourced_accesses limits.shell (run_read limits (full limits) name found (with w s))) ++ behind_text (sourced limits.shell (run_read limits (full limits) name found (with w s))) (λ t. []))
      ++ Rest fs (text_end limits.shell (sourced limits.shell (run_read limits (full limits) name found (with w s))) Normal)
  sourced_so Fails name fs s p =
      ap (λ (n : ℕ). Writes Status ∷ Reads Status ∷ Rest fs (Normal (set_status n (with w s)))) (sym (failed_with_1 limits.shell))
      ∙ ap (λ (a : Answer). Writes Status ∷ (behind_text a (λ t. []) ++ Rest fs (text_end limits.shell a Normal))) (sym (sourced_normal limits.shell (set_status 1 (with w s))))
  sourced_so Panics name fs s p = stops_so fs (Panic name) s ∙ ap (λ (a : Answer). behind_text a (λ t. []) ++ Rest fs (text_end limits.shell a Normal)) (sym (sourced_ended limits.shell (Panic name) (with w s)))
  sourced_so Unread name fs s p = stops_so fs (unread limits.shell name) s ∙ ap (λ (a : Answer). behind_text a (λ t. []) ++ Rest fs (text_end limits.shell a Normal)) (sym (sourced_ended limits.shell (unread limits.shell name) (with w s)))
  sourced_so (Runs tree.Empty) name fs s p = ap (λ (xs : List Access). Writes Status ∷ xs) (closed_file_so tree.Empty tt fs (set_status 0 (with w s)))
  sourced_so (Runs (tree.Runs l ls)) name fs s p = closed_file_so (tree.Runs l ls) (p (tree.Runs l ls) refl) fs (with w s)

  file_so : (o : Option Text) (name : Text) (fs : List Frame) (s : State)
      → of_beginning_file limits.shell o ++ After (begin_file limits.shell o name fs s)
      ≡ (elim o [ None ↦ status_written | Some v ↦ sourced_text_accesses limits (full limits) (of_full limits) name v (with w s) ++ behind_text (sourced_text limits (full limits) name v (with w s)) (λ t. []) ])
      ++ Rest fs (elim o [ None ↦ Normal (set_status 1 (with w s)) | Some v ↦ text_end limits.shell (sourced_text limits (full limits) name v (with w s)) Normal ])
  file_so None name fs s = refl
  file_so (Some v) name fs s = sourced_so (sourced_in limits.shell v) name fs s (sourced_texts_are_proper limits.shell v)

  -- which of the files it is
  closed_question_so : (a : Script) → IsProper a → (fs : List Frame) (t : State) → of_script limits a t ++ Rest fs (script limits a t) ≡ of_full limits a t ++ Rest fs (full limits a t)
  closed_question_so a p fs t =
      sym (ap (λ (xs : List Access). xs ++ Rest fs (full limits a t)) (closed_accesses limits limits.step_bound a p t (omega arith))
      ∙ ap (λ (x : Answer). of_script limits a t ++ Rest fs x) (closed_exec limits limits.step_bound a p t (omega arith)))

  question_so : (found : TextRead) (name : Text) (after : Frame) (fs : List Frame) (s : State) → ((t : Script) → found ≡ Runs t → IsProper t)
      → of_beginning_question found ++ After (begin_question limits.shell found name after fs s)
      ≡ read_accesses limits (full limits) (of_full limits) found (with w s) ++ Rest (after ∷ fs) (run_read limits (full limits) name found (with w s))
  question_so Fails name after fs s p = refl
  question_so Panics name after fs s p = stops_so (after ∷ fs) (Panic name) s
  question_so Unread name after fs s p = stops_so (after ∷ fs) (unread limits.shell name) s
  question_so (Runs tree.Empty) name after fs s p = ap (λ (xs : List Access). Writes Status ∷ xs) (closed_question_so tree.Empty tt (after ∷ fs) (set_status 0 (with w s)))
  question_so (Runs (tree.Runs l ls)) name after fs s p = closed_question_so (tree.Runs l ls) (p (tree.Runs l ls) refl) (after ∷ fs) (with w s)

  one_so : (name : Text) (others : List Text) (before : ℕ) (fs : List Frame) (s : State)
      → of_beginning_one limits name others ++ After (begin_one limits name others before fs s)
      ≡ one_accesses limits (full limits) (of_full limits) name others before (with w s) ++ Rest fs (run_one limits (full limits) name others before (with w s))
  one_so name [] before fs s = ap (λ (xs : List Access). Writes Status ∷ xs) (file_so (file_in limits.devices name) name fs (set_status before s))
  one_so name (other ∷ others) before fs s =
      let asked : Answer = started_text limits (full limits) name (choice_text name) (with w s) in
      let next : State → Answer = chosen limits (full limits) name before (run_one limits (full limits) other others before) in
      question_so (started_in limits.shell (choice_text name)) name (ChosenFile name other others before) fs s (started_texts_are_proper limits.shell (choice_text name))
      ∙ sym (append_assoc (started_accesses limits (full limits) (of_full limits) (choice_text name) (with w s)) (behind asked (of_chosen limits name other others before)) (Rest fs (go_on asked next)))

  -- the text of a file has ended
  file_end_so : (b : Bool) (fs : List Frame) (s : State) → After (elim b [ true ↦ Go fs s | false ↦ Go fs (text_failed limits.shell s) ])
      ≡ (elim b [ true ↦ [] | false ↦ [] ]) ++ Rest fs (elim b [ true ↦ Normal (with w s) | false ↦ Normal (text_failed limits.shell (with w s)) ])
  file_end_so true fs s = refl
  file_end_so false fs s = refl

  names_so : (names : List Text) (fs : List Frame) (s : State) → of_beginning_names limits.shell names s ++ After (begin_names limits.shell names fs s) ≡ of_names limits names (with w s) ++ Rest fs (run_all limits (full limits) names (with w s))
  names_so [] fs s = refl
  names_so (name ∷ names) fs s = ap (λ (xs : List Access). Reads (Environment name) ∷ xs) (text_so (get s.memory.environment name) name names fs s)

  -- ---- commands

  finish_so : (ends : Option BoardEnd) (name : Text) (fs : List Frame) (s : State) → After (finish_next ends name fs s) ≡ Rest fs (finish ends name (with w s))
  finish_so (Some finish) name fs s = stops_so fs (Finished finish name) s
  finish_so None name fs s = refl

  tell_so : (o : Option Bool) (request : Request) (fs : List Frame) (s : State) → of_telling o request ++ After (tell_or_ask o request fs s) ≡ answer_accesses o request (with w s) ++ Rest (with_file s.memory.status request.effect.runs fs) (tell_or_take o request (with w s))
  tell_so None request fs s = refl
  tell_so (Some true) request fs s =
      ap (λ (xs : List Access). outcome_accesses Success request ++ xs) (finish_so request.effect.ends request.name (with_file s.memory.status request.effect.runs fs) (set_environment (sets_in request.words request.effect.sets) (logged Success (told_again request) s)))
  tell_so (Some false) request fs s = refl

  ask_so : (request : Request) (fs : List Frame) (s : State) → of_asking limits request s ++ After (ask limits request fs s) ≡ device_accesses limits request (with w s) ++ Rest (with_file s.memory.status request.effect.runs fs) (device limits request (with w s))
  ask_so request fs s =
      let o : Option Bool = told request s.log in
      let keys : List Access = all_read (told_reads request) in
      let below : List Frame = with_file s.memory.status request.effect.runs fs in
      if_so (nat_lt (length s.log) limits.device_bound) (keys ++ of_telling o request) [] (tell_or_ask o request fs s) (Stop CutDevices s) below (keys ++ answer_accesses o request (with w s)) [] (tell_or_take o request (with w s)) (Ended CutDevices (with w s))
      (in_front keys (of_telling o request) (After (tell_or_ask o request fs s)) (answer_accesses o request (with w s)) (Rest below (tell_or_take o request (with w s))) (tell_so o request fs s)) (stops_so below CutDevices s)

  -- what a command hands over to
  handed_so : (runs : List Text) (before : ℕ) (asked : List Access) (fs : List Frame) (a : Answer) → asked ++ Rest (with_file before runs fs) a ≡ handed_accesses limits (full limits) (of_full limits) runs before asked a ++ Rest fs (handed_over limits (full limits) runs before a)
  handed_so [] before asked fs a = refl
  handed_so (name ∷ others) before asked fs a = sym (append_assoc asked (behind a (of_file limits name others before)) (Rest fs (handed_over limits (full limits) (name ∷ others) before a)))

  exit_so : (o : Option ℕ) (other : ℕ) (fs : List Frame) (s : State) → of_exit limits.shell o fs ++ After (begin_exit limits.shell o other fs s) ≡ status_written ++ Rest fs (elim o [ Some status ↦ Exit (set_status status (with w s)) | None ↦ Normal (set_status other (with w s)) ])
  exit_so (Some status) other fs s = ap (λ (xs : List Access). Writes Status ∷ xs) (leave_so fs (set_status status s))
  exit_so None other fs s = refl

  builtin_so : (again : Bool) (b : Builtin) (name : Text) (ws : List Text) (fs : List Frame) (s : State) → of_builtin limits again b name ws fs s ++ After (begin_called limits again (BuiltIn (deed_of b)) name ws fs s)
      ≡ builtin_accesses limits (full limits) (of_full limits) b name ws (with w s) ++ Rest fs (command limits again (full limits) (BuiltIn (deed_of b)) name ws (with w s))
  builtin_so again SetEnv name ws fs s = refl
  builtin_so again Run name [] fs s = refl
  builtin_so again Run name (v ∷ vs) fs s = refl
  builtin_so again Test name ws fs s =
      if_so (asks_in limits.shell ws) (of_asking limits (test_request limits name ws) s) status_written (ask limits (test_request limits name ws) fs s) (Go fs (set_status (status_when (truth_in limits.shell ws)) s)) fs (device_accesses limits (test_request limits name ws) (with w s)) status_written (device limits (test_request limits name ws) (with w s)) (Normal (set_status (status_when (truth_in limits.shell ws)) (with w s)))
      (ask_so (test_request limits name ws) fs s) refl
  builtin_so again Echo name ws fs s = refl
  builtin_so again True name ws fs s = refl
  builtin_so again False name ws fs s = refl
  builtin_so again Leave name ws fs s = exit_so (leaves_in limits.shell again ws) (status_of_exit limits.shell ws) fs s

  call_so : (again : Bool) (name : Text) (ws : List Text) (fs : List Frame) (s : State) → of_call limits again name ws fs s ++ After (begin_called limits again (called_by limits.devices name ws) name ws fs s)
      ≡ call_accesses limits (full limits) (of_full limits) name ws (with w s) ++ Rest fs (command limits again (full limits) (called_by limits.devices name ws) name ws (with w s))
  call_so again name ws fs s = by (computed_by limits.devices name ws) (builtin_of name) (effect_of limits.devices name ws)
    where
      by : (o : Option Computed) (b : Option Builtin) (f : Option Effect)
          → (elim o [ Some computed ↦ computed_accesses computed | None ↦ elim b [ Some builtin ↦ of_builtin limits again builtin name ws fs s | None ↦ elim f [ Some effect ↦ of_listed limits name ws effect s | None ↦ [] ] ] ])
          ++ After (begin_called limits again (elim o [ Some computed ↦ BuiltIn (ChangesVariables (λ vs. carried computed)) | None ↦ elim b [ Some builtin ↦ BuiltIn (deed_of builtin) | None ↦ elim f [ Some effect ↦ Device effect | None ↦ NoCommand ] ] ]) name ws fs s)
          ≡ (elim o [ Some computed ↦ computed_accesses computed | None ↦ elim b [ Some builtin ↦ builtin_accesses limits (full limits) (of_full limits) builtin name ws (with w s) | None ↦ elim f [ Some effect ↦ handed_accesses limits (full limits) (of_full limits) effect.runs s.memory.status (listed_accesses limits name ws effect (with w s)) (device limits (request_of name ws (effect_now limits.room s effect)) (with w s)) | None ↦ [] ] ] ])
          ++ Rest fs (command limits again (full limits) (elim o [ Some computed ↦ BuiltIn (ChangesVariables (λ vs. carried computed)) | None ↦ elim b [ Some builtin ↦ BuiltIn (deed_of builtin) | None ↦ elim f [ Some effect ↦ Device effect | None ↦ NoCommand ] ] ]) name ws (with w s))
      by (Some computed) b f = refl
      by None (Some builtin) f = builtin_so again builtin name ws fs s
      by None None (Some effect) =
          let request : Request = request_of name ws (effect_now limits.room s effect) in
          let a : Answer = device limits request (with w s) in
          let asked : List Access = listed_accesses limits name ws effect (with w s) in
          in_front (all_read (success_reads limits.room effect)) (of_asking limits request s) (After (ask limits request fs s)) (device_accesses limits request (with w s)) (Rest (with_file s.memory.status request.effect.runs fs) a) (ask_so request fs s)
          ∙ handed_so request.effect.runs s.memory.status asked fs a
          ∙ ap (λ (runs : List Text). handed_accesses limits (full limits) (of_full limits) runs s.memory.status asked a ++ Rest fs (handed_over limits (full limits) runs s.memory.status a)) (now_runs limits.room s effect)
      by None None None = stops_so fs (Unknown name) s

  simple_call_so : (again : Bool) (ws : List Text) (fs : List Frame) (s : State) → of_simple_call limits again fs ws s ++ After (begin_simple_call limits again ws fs s) ≡ simple_call_accesses limits (full limits) (of_full limits) ws (with w s) ++ Rest fs (simple_call limits again (full limits) ws (with w s))
  simple_call_so again [] fs s = refl
  simple_call_so again (name ∷ ws) fs s =
      if_so (follows limits.shell limits.devices name ws) (of_call limits again name ws fs s) [] (begin_called limits again (called_by limits.devices name ws) name ws fs s) (Stop (Unsupported name) s) fs (call_accesses limits (full limits) (of_full limits) name ws (with w s)) [] (command limits again (full limits) (called_by limits.devices name ws) name ws (with w s)) (Ended (Unsupported name) (with w s))
      (call_so again name ws fs s) (stops_so fs (Unsupported name) s)

  fields_so : (again : Bool) (ws : List Text) (fs : List Frame) (s : State) → of_fields limits again fs ws s ++ After (begin_fields limits again ws fs s) ≡ simple_accesses limits (full limits) (of_full limits) ws (with w s) ++ Rest fs (simple limits again (full limits) ws (with w s))
  fields_so again ws = simple_call_so again (call_in limits.shell ws)

  counted_so : (f : State → List Access) (next : State → Next) (g : State → List Access) (h : State → Answer) (fs : List Frame) (s : State) → ((t : State) → f t ++ After (next t) ≡ g (with w t) ++ Rest fs (h (with w t)))
      → begun_accesses limits f s ++ After (counted limits next s) ≡ begun_accesses limits g (with w s) ++ Rest fs (begin limits h (with w s))
  counted_so f next g h fs s e =
      let t : State = record s { steps = suc s.steps } in
      if_so (nat_lt s.steps limits.step_bound) (f t) [] (next t) (Stop CutSteps s) fs (g (with w t)) [] (h (with w t)) (Ended CutSteps (with w s)) (e t) (stops_so fs CutSteps s)

  -- words that are expanded first
  fitting_so : (keys : List Access) (ws : List Text) (f : List Text → State → List Access) (next : List Text → State → Next) (g : List Text → State → List Access) (h : List Text → State → Answer) (fs : List Frame) (s : State) → f ws s ++ After (next ws s) ≡ g ws (with w s) ++ Rest fs (h ws (with w s))
      → (keys ++ sized_accesses ws f s) ++ After (fitting ws next s) ≡ (keys ++ sized_accesses ws g (with w s)) ++ Rest fs (sized ws h (with w s))
  fitting_so keys ws f next g h fs s e =
      in_front keys (sized_accesses ws f s) (After (fitting ws next s)) (sized_accesses ws g (with w s)) (Rest fs (sized ws h (with w s)))
      (if_so (nat_le (size ws) most_bytes) (f ws s) [] (next ws s) (Stop Size s) fs (g ws (with w s)) [] (h ws (with w s)) (Ended Size (with w s)) e (stops_so fs Size s))

  for_so : (name : Text) (values : List Text) (body : Script) (fs : List Frame) (s : State) → of_beginning_for values ++ After (begin_for name values body fs s)
      ≡ for_accesses limits.shell name (script limits body) (of_script limits body) values (with w s) ++ Rest (CommandEnd ∷ fs) (for_each limits.shell name (script limits body) 0 values (with w s))
  for_so name [] body fs s = ap (λ (xs : List Access). Writes Status ∷ xs) (over_so fs (with w (set_status 0 s)))
  for_so name (f ∷ values) body fs s =
      let t : State = with w s in
      let a : Answer = turns_left limits name (f ∷ values) body t in
      append_assoc (each_accesses limits.shell name (script limits body) (of_script limits body) (f ∷ values) t) (of_compound limits a) (Rest fs (compound limits.shell a))

  turns_so : (name : Text) (values : List Text) (body : Script) (fs : List Frame) (s : State) → of_beginning_turns limits.shell name values ++ After (begin_turns limits.shell name values body fs s)
      ≡ turns_of_accesses limits.shell name (script limits body) (of_script limits body) values (with w s) ++ Rest fs (turns_of limits.shell name (script limits body) values (with w s))
  turns_so name values body fs s =
      let xs : List Access = for_accesses limits.shell name (script limits body) (of_script limits body) values (with w s) in
      let a : Answer = for_each limits.shell name (script limits body) 0 values (with w s) in
      if_so (follows_turns limits.shell name values) (of_beginning_for values) [] (begin_for name values body fs s) (Stop (Unsupported name) s) fs (xs ++ of_compound limits a) [] (compound limits.shell a) (Ended (Unsupported name) (with w s))
      (for_so name values body fs s ∙ sym (append_assoc xs (of_compound limits a) (Rest fs (compound limits.shell a)))) (stops_so fs (Unsupported name) s)

  words_so : (name : Text) (words : List tree.Word) (body : Script) (fs : List Frame) (s : State) → of_beginning_words limits.shell name words s ++ After (begin_words limits.shell name words body fs s)
      ≡ for_words_accesses limits.shell name words (script limits body) (of_script limits body) (with w s) ++ Rest fs (for_words limits.shell name words (script limits body) (with w s))
  words_so name words body fs s =
      let found : List Text = turns_in limits.shell (parameters_in s.memory) words in
      fitting_so (all_read (words_reads s.memory words)) found (λ values u. of_beginning_turns limits.shell name values) (λ values. begin_turns limits.shell name values body fs) (turns_of_accesses limits.shell name (script limits body) (of_script limits body)) (turns_of limits.shell name (script limits body)) fs s
      (turns_so name found body fs s)

  arms_so : (arms : Arms) (fs : List Frame) (s : State) → of_beginning_arms limits.shell arms ++ After (begin_arms limits.shell arms fs s) ≡ of_arms limits arms (with w s) ++ Rest (CommandEnd ∷ fs) (arms_of limits arms (with w s))
  arms_so (tree.Arm c b arms) fs s =
      let t : State = with w s in
      let xs : List Access = behind (script limits c t) (of_choice limits b arms) in
      let a : Answer = go_on (script limits c t) (choice limits b arms) in
      ap (λ (ys : List Access). of_script limits c t ++ ys) (append_assoc xs (of_compound limits a) (Rest fs (compound limits.shell a)))
      ∙ sym (append_assoc (of_script limits c t) xs (Rest (CommandEnd ∷ fs) a))
  arms_so (tree.Else b) fs s = ap (λ (xs : List Access). of_script limits b (with w s) ++ xs) (block_so limits.shell refl fs (script limits b (with w s)))
  arms_so tree.NoElse fs s = ap (λ (xs : List Access). nothing_accesses limits.shell ++ xs) (over_so fs (with w (set_status (status_of_no_block limits.shell s.memory.status) s)))

  -- ---- a turn of a loop, with all the steps for the turns after it

  turn_at : (k : ℕ) → limits.step_bound ≡ k → (until : Bool) (c b : Script) → HoldsCommand c → HoldsCommand b → (s : State)
      → turns_accesses limits.shell k until (script limits c) (script limits b) (of_script limits c) (of_script limits b) s
      ≡ of_script limits c s ++ behind (script limits c s) (λ t. Reads Status ∷ elim (holds until t.memory.status) [
        | true ↦ of_script limits b t ++ behind (script limits b t) (λ u. Reads Status ∷ turns_accesses limits.shell k until (script limits c) (script limits b) (of_script limits c) (of_script limits b) u)
        | false ↦ status_written
      ])
  turn_at zero e until c b p q s =
      sym (nothing_behind (of_script limits c s) (script limits c s) s (λ t. Reads Status ∷ elim (holds until t.memory.status) [
        | true ↦ of_script limits b t ++ behind (script limits b t) (λ u. Reads Status ∷ turns_accesses limits.shell zero until (script limits c) (script limits b) (of_script limits c) (of_script limits b) u)
        | false ↦ status_written
      ]) (None-block limits limits.step_bound (full limits) (of_full limits) c p s (omega arith)) (Cut-block limits limits.step_bound (full limits) c p s (omega arith)))
  turn_at (suc k) e until c b p q s =
      let bound : ℕ = limits.step_bound in
      let kept = Keeps-exec limits bound in
      let grown : (t : State) → Grew t.steps (script limits c t) = Grew-block limits bound (full limits) kept c p in
      let body : KeepsAll limits (script limits b) = Keeps-script limits bound (full limits) kept b in
      let cut : (t : State) → bound ≤ t.steps → (script limits c t ≡ Ended CutSteps t) × (of_script limits c t ≡ []) = λ t r. (Cut-block limits bound (full limits) c p t r, None-block limits bound (full limits) (of_full limits) c p t r) in
      let fewer : State → List Access = λ u. Reads Status ∷ turns_accesses limits.shell k until (script limits c) (script limits b) (of_script limits c) (of_script limits b) u in
      let all : State → List Access = λ u. Reads Status ∷ turns_accesses limits.shell (suc k) until (script limits c) (script limits b) (of_script limits c) (of_script limits b) u in
      let after : State → List Access = λ t. Reads Status ∷ elim (holds until t.memory.status) [ true ↦ of_script limits b t ++ behind (script limits b t) fewer | false ↦ status_written ] in
      let after' : State → List Access = λ t. Reads Status ∷ elim (holds until t.memory.status) [ true ↦ of_script limits b t ++ behind (script limits b t) all | false ↦ status_written ] in
      ap (λ (xs : List Access). of_script limits c s ++ xs)
      (same_behind (suc s.steps) (script limits c s) (script limits c s) after after' (grown s) refl
      (λ t g. ap (λ (xs : List Access). Reads Status ∷ xs)
      (either (holds until t.memory.status) (of_script limits b t ++ behind (script limits b t) fewer) status_written (of_script limits b t ++ behind (script limits b t) all) status_written
      (ap (λ (xs : List Access). of_script limits b t ++ xs)
      (same_behind t.steps (script limits b t) (script limits b t) fewer all (AtLeast-track limits.device_bound t (script limits b t) (body t).0) refl
      (λ u r. ap (λ (xs : List Access). Reads Status ∷ xs)
      (turns_same limits bound bound (omega arith) (full limits) (full limits) (of_full limits) (of_full limits) kept (λ a x y z. refl) (λ a x y z. refl) k (suc k) (omega arith) until
      (script limits c) (script limits c) (script limits b) (script limits b) (of_script limits c) (of_script limits c) (of_script limits b) (of_script limits b)
      (λ x y. refl) (λ x y. refl) (λ x y. refl) (λ x y. refl) grown body cut u (omega arith) (omega arith)))))
      refl)))

  turn_so : (until : Bool) (c b : Script) → HoldsCommand c → HoldsCommand b → (s : State) → turns_accesses limits.shell limits.step_bound until (script limits c) (script limits b) (of_script limits c) (of_script limits b) s ≡ of_script limits c s ++ behind (script limits c s) (of_condition limits until c b)
  turn_so until c b p q s = turn_at limits.step_bound refl until c b p q s

  -- the frames of a loop whose condition comes next
  loop_so : (until : Bool) (c b : Script) → HoldsCommand c → HoldsCommand b → (last : ℕ) (fs : List Frame) (t : State)
      → Rest (Lists c ∷ LoopCondition until c b last ∷ fs) (Normal t)
      ≡ turns_accesses limits.shell limits.step_bound until (script limits c) (script limits b) (of_script limits c) (of_script limits b) t ++ Rest (CommandEnd ∷ fs) (turns limits.shell limits.step_bound until (script limits c) (script limits b) last t)
  loop_so until c b p q last fs t =
      let xs : List Access = behind (script limits c t) (of_condition limits until c b) in
      let a : Answer = go_on (script limits c t) (condition limits until c b last) in
      ap (λ (ys : List Access). of_script limits c t ++ ys) (append_assoc xs (of_compound limits a) (Rest fs (compound limits.shell a)))
      ∙ sym (ap (λ (ys : List Access). ys ++ Rest (CommandEnd ∷ fs) (turns limits.shell limits.step_bound until (script limits c) (script limits b) last t)) (turn_so until c b p q t)
      ∙ ap (λ (x : Answer). (of_script limits c t ++ xs) ++ Rest (CommandEnd ∷ fs) x) (turn_more limits w until c b p q last t)
      ∙ append_assoc (of_script limits c t) xs (Rest (CommandEnd ∷ fs) a))

  -- the end of a compound command with what is in it
  joined_so : (xs : List Access) (fs : List Frame) (a : Answer) → xs ++ Rest (CommandEnd ∷ fs) a ≡ (xs ++ of_compound limits a) ++ Rest fs (compound limits.shell a)
  joined_so xs fs a = sym (append_assoc xs (of_compound limits a) (Rest fs (compound limits.shell a)))

  -- ---- a command, and a move

  command_so : (c : Command) → IsProperCommand c → (fs : List Frame) (s : State) → of_command limits c fs s ++ After (begin_command limits c fs s) ≡ of_one limits c (with w s) ++ Rest fs (one limits c (with w s))
  command_so (tree.Simple words) p fs s =
      counted_so (λ t. all_read (words_reads t.memory words) ++ sized_accesses (fields_in limits.shell (parameters_in t.memory) words) (of_fields limits (reads_again words) fs) t)
      (λ t. fitting (fields_in limits.shell (parameters_in t.memory) words) (λ f. begin_fields limits (reads_again words) f fs) t)
      (λ t. all_read (words_reads t.memory words) ++ sized_accesses (fields_in limits.shell (parameters_in t.memory) words) (simple_accesses limits (full limits) (of_full limits)) t)
      (λ t. sized (fields_in limits.shell (parameters_in t.memory) words) (simple limits (reads_again words) (full limits)) t) fs s
      (λ t. fitting_so (all_read (words_reads t.memory words)) (fields_in limits.shell (parameters_in t.memory) words) (of_fields limits (reads_again words) fs) (λ f. begin_fields limits (reads_again words) f fs) (simple_accesses limits (full limits) (of_full limits)) (simple limits (reads_again words) (full limits)) fs t
      (fields_so (reads_again words) (fields_in limits.shell (parameters_in t.memory) words) fs t))
  command_so (tree.Assign pairs) p fs s = counted_so (assign_accesses limits.shell pairs) (begin_assign limits.shell pairs fs) (assign_accesses limits.shell pairs) (assign limits.shell pairs) fs s (λ t. assign_so pairs fs t)
  command_so (tree.If arms) p fs s = arms_so arms fs s ∙ joined_so (of_arms limits arms (with w s)) fs (arms_of limits arms (with w s))
  command_so (tree.Loop until c b) p fs s =
      loop_so until c b p.0 p.1 0 fs (with w s)
      ∙ joined_so (turns_accesses limits.shell limits.step_bound until (script limits c) (script limits b) (of_script limits c) (of_script limits b) (with w s)) fs (turns limits.shell limits.step_bound until (script limits c) (script limits b) 0 (with w s))
  command_so (tree.For name words body) p fs s =
      counted_so (λ t. modern_accesses limits.shell ++ of_beginning_words limits.shell name words (for_begun limits.shell t))
      (λ t. begin_words limits.shell name words body fs (for_begun limits.shell t))
      (λ t. modern_accesses limits.shell ++ for_words_accesses limits.shell name words (script limits body) (of_script limits body) (for_begun limits.shell t))
      (λ t. for_words limits.shell name words (script limits body) (for_begun limits.shell t)) fs s
      (λ t. let u : State = for_begun limits.shell t in
      in_front (modern_accesses limits.shell) (of_beginning_words limits.shell name words u) (After (begin_words limits.shell name words body fs u)) (for_words_accesses limits.shell name words (script limits body) (of_script limits body) (with w u)) (Rest fs (for_words limits.shell name words (script limits body) (with w u)))
      (words_so name words body fs u))

  skipped_so : (b : Bool) (links : Joined) (fs : List Frame) (s : State) → After (elim b [ true ↦ Go fs s | false ↦ Go (Linked links ∷ fs) s ])
      ≡ (elim b [ true ↦ [] | false ↦ of_joined limits links (with w s) ]) ++ Rest fs (elim b [ true ↦ Normal (with w s) | false ↦ joined_of limits links (with w s) ])
  skipped_so true links fs s = refl
  skipped_so false links fs s = refl

  regrouped : (a b c d : List Access) → a ++ (b ++ (c ++ d)) ≡ ((a ++ b) ++ c) ++ d
  regrouped a b c d = sym (append_assoc (a ++ b) c d ∙ append_assoc a b (c ++ d))

  -- what a move reads and writes comes first
  pub move_so : (fs : List Frame) → AreProperFrames fs → (s : State) → of_move limits fs s ++ After (move limits fs s) ≡ Rest fs (Normal (with w s))
  move_so [] p s = refl
  move_so (Lists tree.Empty ∷ fs) p s = refl
  move_so (Lists (tree.Runs (tree.Starts c links) lists) ∷ fs) p s =
      let a : Answer = one limits c (with w s) in
      command_so c p.0.0.0 (Linked links ∷ Lists lists ∷ fs) s
      ∙ regrouped (of_one limits c (with w s)) (behind a (of_joined limits links)) (behind (go_on a (joined_of limits links)) (of_script limits lists)) (Rest fs (go_on (go_on a (joined_of limits links)) (script limits lists)))
  move_so (Linked tree.Alone ∷ fs) p s = refl
  move_so (Linked (tree.Joins op c links) ∷ fs) p s =
      let t : State = with w s in
      let a : Answer = one limits c t in
      ap (λ (xs : List Access). Reads Status ∷ xs)
      (if_so (goes op s.memory.status) (of_command limits c (Linked links ∷ fs) s) [] (begin_command limits c (Linked links ∷ fs) s) (elim (skips_rest limits.shell) [ true ↦ Go fs s | false ↦ Go (Linked links ∷ fs) s ]) fs
      (of_one limits c t ++ behind a (of_joined limits links)) (elim (skips_rest limits.shell) [ true ↦ [] | false ↦ of_joined limits links t ]) (go_on a (joined_of limits links)) (elim (skips_rest limits.shell) [ true ↦ Normal t | false ↦ joined_of limits links t ])
      (command_so c p.0.0 (Linked links ∷ fs) s ∙ sym (append_assoc (of_one limits c t) (behind a (of_joined limits links)) (Rest fs (go_on a (joined_of limits links)))))
      (skipped_so (skips_rest limits.shell) links fs s))
  move_so (IfCondition b arms ∷ fs) p s =
      let t : State = with w s in
      let u : State = block_skipped limits.shell b s in
      let xs : List Access = elim (nat_eq s.memory.status 0) [ true ↦ of_script limits b t | false ↦ modern_accesses limits.shell ++ of_arms limits arms (with w u) ] in
      ap (λ (ys : List Access). Reads Status ∷ ys)
      (if_so (nat_eq s.memory.status 0) [] (modern_accesses limits.shell ++ of_beginning_arms limits.shell arms) (Go (Lists b ∷ behind_block limits.shell fs) s) (begin_arms limits.shell arms fs u) (CommandEnd ∷ fs) (of_script limits b t) (modern_accesses limits.shell ++ of_arms limits arms (with w u)) (script limits b t) (arms_of limits arms (with w u))
      (ap (λ (ys : List Access). of_script limits b t ++ ys) (block_so limits.shell refl fs (script limits b t)))
      (in_front (modern_accesses limits.shell) (of_beginning_arms limits.shell arms) (After (begin_arms limits.shell arms fs u)) (of_arms limits arms (with w u)) (Rest (CommandEnd ∷ fs) (arms_of limits arms (with w u))) (arms_so arms fs u))
      ∙ joined_so xs fs (choice limits b arms t))
  move_so (LoopCondition until c b last ∷ fs) p s =
      let t : State = with w s in
      let a : Answer = script limits b t in
      let next : List Access = behind a (of_again limits until c b) in
      let end : Answer = go_on a (again limits until c b) in
      let over : State = set_status (status_of_loop limits.shell last s.memory.status) t in
      let xs : List Access = elim (holds until s.memory.status) [ true ↦ of_script limits b t ++ next | false ↦ status_written ] in
      ap (λ (ys : List Access). Reads Status ∷ ys)
      (if_so (holds until s.memory.status) [] status_written (Go (Lists b ∷ LoopBody until c b ∷ fs) s) (Go fs (set_status (status_of_loop limits.shell last s.memory.status) s)) (CommandEnd ∷ fs) (of_script limits b t ++ next) status_written end (Normal over)
      (ap (λ (ys : List Access). of_script limits b t ++ ys) (append_assoc next (of_compound limits end) (Rest fs (compound limits.shell end))) ∙ sym (append_assoc (of_script limits b t) next (Rest (CommandEnd ∷ fs) end)))
      (ap (λ (ys : List Access). Writes Status ∷ ys) (over_so fs over))
      ∙ joined_so xs fs (condition limits until c b last t))
  move_so (LoopBody until c b ∷ fs) p s =
      ap (λ (xs : List Access). Reads Status ∷ xs)
      (loop_so until c b p.0.0 p.0.1 s.memory.status fs (with w s)
      ∙ joined_so (turns_accesses limits.shell limits.step_bound until (script limits c) (script limits b) (of_script limits c) (of_script limits b) (with w s)) fs (again limits until c b (with w s)))
  move_so (ForBody name [] body ∷ fs) p s = over_so fs (with w s)
  move_so (ForBody name (f ∷ values) body ∷ fs) p s =
      let t : State = begin_turn limits.shell name f (with w s) in
      let a : Answer = script limits body t in
      let first : List Access = turn_accesses limits.shell name in
      let next : List Access = behind a (each_accesses limits.shell name (script limits body) (of_script limits body) values) in
      let end : Answer = go_on a (turns_left limits name values body) in
      let rest : List Access = Rest (CommandEnd ∷ fs) end in
      ap (λ (xs : List Access). first ++ xs)
      (ap (λ (xs : List Access). of_script limits body t ++ xs) (append_assoc next (of_compound limits end) (Rest fs (compound limits.shell end))) ∙ sym (append_assoc (of_script limits body t) next rest))
      ∙ sym (append_assoc first (of_script limits body t ++ next) rest) ∙ joined_so (first ++ (of_script limits body t ++ next)) fs end
  move_so (RunNames names ∷ fs) p s = names_so names fs s
  move_so (RunText names ∷ fs) p s =
      ap (λ (xs : List Access). Reads Status ∷ xs)
      (if_so (nat_eq s.memory.status 0) (of_beginning_names limits.shell names s) [] (begin_names limits.shell names fs s) (Go fs (text_failed limits.shell s)) fs (of_names limits names (with w s)) [] (run_all limits (full limits) names (with w s)) (Normal (text_failed limits.shell (with w s))) (names_so names fs s) refl)
  move_so (RunFile name others before ∷ fs) p s =
      ap (λ (xs : List Access). Reads Status ∷ xs)
      (if_so (nat_eq s.memory.status 0) (of_beginning_one limits name others) [] (begin_one limits name others before fs s) (Go fs s) fs
      (one_accesses limits (full limits) (of_full limits) name others before (with w s)) [] (run_one limits (full limits) name others before (with w s)) (Normal (with w s)) (one_so name others before fs s) refl)
  move_so (ChosenFile name other others before ∷ fs) p s =
      ap (λ (xs : List Access). Reads Status ∷ xs)
      (if_so (nat_eq s.memory.status 0) (of_beginning_one limits name []) (of_beginning_one limits other others) (begin_one limits name [] before fs s) (begin_one limits other others before fs s) fs
      (one_accesses limits (full limits) (of_full limits) name [] before (with w s)) (one_accesses limits (full limits) (of_full limits) other others before (with w s))
      (run_one limits (full limits) name [] before (with w s)) (run_one limits (full limits) other others before (with w s)) (one_so name [] before fs s) (one_so other others before fs s))
  move_so (FileText ∷ fs) p s =
      ap (λ (xs : List Access). Reads Status ∷ xs) (file_end_so (nat_eq s.memory.status 0) fs s)
      ∙ ap (λ (a : Answer). behind_text a (λ t. []) ++ Rest fs (text_end limits.shell a Normal)) (sym (sourced_normal limits.shell (with w s)))
  move_so (CommandEnd ∷ fs) p s = over_so fs (with w s)

  -- an outcome is taken
  outcome_so : (outcome : Outcome) (request : Request) (fs : List Frame) (s : State) → of_next limits wanted (outcome ∷ w) (Ask request fs s) ≡ outcome_accesses outcome request ++ After (answered outcome request fs s)
  outcome_so Success request fs s =
      ap (λ (xs : List Access). outcome_accesses Success request ++ xs) (sym (finish_so request.effect.ends request.name (with_file s.memory.status request.effect.runs fs) (set_environment (sets_in request.words request.effect.sets) (logged Success request s))))
  outcome_so Failure request fs s = refl

pub moves_come_first : MovesComeFirst
moves_come_first limits wanted w fs s proper = sym (move_so limits wanted w fs proper s)

pub outcomes_come_first : OutcomesComeFirst
outcomes_come_first limits wanted outcome w request fs s = outcome_so limits wanted w outcome request fs s
