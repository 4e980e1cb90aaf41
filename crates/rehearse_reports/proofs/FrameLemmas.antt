-- What the frames of a store read and write with their next move.
use Rattle.std.proofs.Common.{◌≡◌, ◌∙◌, refl, sym, ap, subst, ℕ, zero, suc, ◌-◌, ◌<◌, ◌≤◌, Bool, true, false, List, [], ◌∷◌, ◌++◌, map, length, get_or, Option, Some, None, Vec, Global, nat_lt, nat_eq, arith}
use Rattle.std.specs.Prelude.{slice_get}
use Rattle.std.proofs.lemmas.Bool.{ltb-true, lt-ltb}
use Rattle.std.proofs.Math.Dec.{eqb-suc-zero}
use Rattle.std.proofs.lemmas.Option.{slice_get_read, slice_get_past}
use Rattle.std.specs.declared.rc.Rc.{Rc}
use Rattle.hushlang.specs.Tree as tree
use Rattle.hushlang.specs.Tree.{Script, AndOr, Command}
use Rattle.hushlang.specs.TreesShown as view
use Rattle.hushlang.specs.declared.call.Call.{Call}
use Rattle.hushlang.specs.declared.tree.Word.{Word}
use Rattle.hushlang.specs.declared.tree.AndOr.{AndOr as ListCode}
use Rattle.hushlang.specs.declared.tree.Command.{Command as CommandCode, Simple, Assign, If, Loop, For}
use Rattle.hushlang.specs.declared.tree.Script.{Script as Code}
use Rattle.hushlang.proofs.ViewLemmas.{list_of}
use Rattle.bootstore_state.specs.declared.frame.At.{At}
use Rattle.bootstore_state.specs.Moment.{RunningFrame}
use Rattle.rehearse_terms.specs.State.{Text, State}
use Rattle.rehearse_rules.specs.Execution.{Limits, goes}
use Rattle.rehearse_machine.specs.Frames.{Frame, Lists}
use Rattle.rehearse_machine.specs.Places.{list_at, command_at, command_in, drop_lists, drop_joined, joined_at, phase, from_command, from_turn, script_frames, for_frame, run_frame, past_lists}
use Rattle.rehearse_machine.proofs.CommandLemmas.{says_if, says_loop, says_simple, says_assign, says_for, Kind, AsSimple, AsAssign, AsIf, AsLoop, AsFor, kind_of}
use Rattle.rehearse_machine.proofs.ListLemmas.{Join, back, join_some, join_none}
use Rattle.rehearse_reads.specs.Keys.{Access, Reads, Writes, Environment, Local, Status, Covers}
use Rattle.rehearse_frames.specs.MoveAccesses.{of_command, of_move}
use Rattle.rehearse_reports.proofs.ReportLemmas.{reads_alone}
use Rattle.rehearse_reports.proofs.BeginLemmas.{first_begins, none_joined, some_joined, join_passed, block_ends, turn_begins, turns_end, name_begins, names_end, run_fails}

pub not_less : (a b : ℕ) → b ≤ a → nat_lt a b ≡ false
not_less a b h = by (nat_lt a b) refl
  where
    by : (x : Bool) → nat_lt a b ≡ x → x ≡ false
    by true e = absurd (let k = ltb-true a b e in omega arith)
    by false e = refl

pub no_zero : (n : ℕ) → (n ≡ 0 → ⊥) → nat_eq n 0 ≡ false
no_zero zero h = absurd (h refl)
no_zero (suc n) h = eqb-suc-zero n

module _ (limits : Limits) (fs : List Frame) (s : State) (f : RunningFrame) where
  abbrev rest : Script
  rest = drop_lists (suc f.place.list) f.script

  -- ---- a script

  pub script_none : (o : Option AndOr) → o ≡ None → Covers (Reads Status ∷ []) (of_move limits (script_frames o f.place rest ++ fs) s)
  script_none o e = subst (λ (x : Option AndOr). Covers (Reads Status ∷ []) (of_move limits (script_frames x f.place rest ++ fs) s)) (sym e) (by f.place.turn)
    where
      by : (turn : ℕ) → Covers (Reads Status ∷ []) (of_move limits (past_lists turn ++ fs) s)
      by zero = reads_alone (Status ∷ [])
      by (suc a) = reads_alone (Status ∷ [])

  pub script_turn : (o : Option AndOr) (l : AndOr) (at : At) → o ≡ Some l → at ≡ f.place → (at.turn ≡ 0 → ⊥) → Covers (Reads Status ∷ []) (of_move limits (script_frames o f.place rest ++ fs) s)
  script_turn o l at e here other =
      let turn : f.place.turn ≡ suc (at.turn - 1) = ap (λ (x : At). x.turn) (sym here) ∙ back at.turn other in
      subst (λ (x : Option AndOr). Covers (Reads Status ∷ []) (of_move limits (script_frames x f.place rest ++ fs) s)) (sym e)
      (subst (λ (n : ℕ). Covers (Reads Status ∷ []) (of_move limits (from_turn l f.place n rest ++ fs) s)) (sym turn)
      (block_ends limits s (command_in l f.place.command) (at.turn - 1) f.place.last (from_command l (suc f.place.command) rest ++ fs)))

  begins_at : (xs : List Access) (o : Option AndOr) (l : AndOr) (n : ℕ) → o ≡ Some l → f.place.turn ≡ 0 → f.place.command ≡ n → Covers xs (of_move limits (from_command l n rest ++ fs) s) → Covers xs (of_move limits (script_frames o f.place rest ++ fs) s)
  begins_at xs o l n e turn command h =
      subst (λ (x : Option AndOr). Covers xs (of_move limits (script_frames x f.place rest ++ fs) s)) (sym e)
      (subst (λ (k : ℕ). Covers xs (of_move limits (from_turn l f.place k rest ++ fs) s)) (sym turn)
      (subst (λ (k : ℕ). Covers xs (of_move limits (from_command l k rest ++ fs) s)) (sym command) h))

  module _ (o : Option AndOr) (l : ListCode) (at : At) (found : o ≡ Some (view.list l)) (here : at ≡ f.place) (first : at.turn ≡ 0) where
    says : view.list l ≡ tree.Starts (view.command l.first) (view.joins (map view.joined l.rest.items))
    says = list_of l.first l.rest

    turn_is : f.place.turn ≡ 0
    turn_is = ap (λ (x : At). x.turn) (sym here) ∙ first

    pub script_first : at.command ≡ 0 → Covers (Reads Status ∷ of_command limits (view.command l.first) [] s) (of_move limits (script_frames o f.place rest ++ fs) s)
    script_first command =
        begins_at (Reads Status ∷ of_command limits (view.command l.first) [] s) o (view.list l) 0 found turn_is (ap (λ (x : At). x.command) (sym here) ∙ command)
        (subst (λ (x : AndOr). Covers (Reads Status ∷ of_command limits (view.command l.first) [] s) (of_move limits (from_command x 0 rest ++ fs) s)) (sym says)
        (first_begins limits s (view.command l.first) (view.joins (map view.joined l.rest.items)) rest fs))

    module _ (items : List Join) (same : items ≡ l.rest.items) (other : at.command ≡ 0 → ⊥) where
      joined_on : (xs : List Access) → Covers xs (of_move limits (from_command (tree.Starts (view.command l.first) (view.joins (map view.joined items))) (suc (at.command - 1)) rest ++ fs) s) → Covers xs (of_move limits (script_frames o f.place rest ++ fs) s)
      joined_on xs h =
          begins_at xs o (view.list l) (suc (at.command - 1)) found turn_is (ap (λ (x : At). x.command) (sym here) ∙ back at.command other)
          (subst (λ (x : AndOr). Covers xs (of_move limits (from_command x (suc (at.command - 1)) rest ++ fs) s)) (sym says)
          (subst (λ (x : List Join). Covers xs (of_move limits (from_command (tree.Starts (view.command l.first) (view.joins (map view.joined x))) (suc (at.command - 1)) rest ++ fs) s)) same h))

      pub script_end : length items ≤ at.command - 1 → Covers (Reads Status ∷ []) (of_move limits (script_frames o f.place rest ++ fs) s)
      script_end past =
          joined_on (Reads Status ∷ []) (none_joined limits s (view.joins (map view.joined items)) (at.command - 1) (Lists rest ∷ fs) (join_none items (at.command - 1) (slice_get_past items (at.command - 1) past)))

      module _ (p : Join) (within : at.command - 1 < length items) (is : p ≡ get_or items (at.command - 1) p) where
        there : joined_at (view.joins (map view.joined items)) (at.command - 1) ≡ Some (p.0, view.command p.1)
        there = join_some items (at.command - 1) p (slice_get_read items (length items) (at.command - 1) p refl within is)

        pub script_join : goes p.0 s.memory.status ≡ true → Covers (Reads Status ∷ of_command limits (view.command p.1) [] s) (of_move limits (script_frames o f.place rest ++ fs) s)
        script_join e =
            joined_on (Reads Status ∷ of_command limits (view.command p.1) [] s) (some_joined limits s (view.joins (map view.joined items)) (at.command - 1) (Lists rest ∷ fs) p.0 (view.command p.1) there e)

        pub script_passed : goes p.0 s.memory.status ≡ false → Covers (Reads Status ∷ []) (of_move limits (script_frames o f.place rest ++ fs) s)
        script_passed e =
            joined_on (Reads Status ∷ []) (join_passed limits s (view.joins (map view.joined items)) (at.command - 1) (Lists rest ∷ fs) p.0 (view.command p.1) there e)

  -- ---- a `for`

  pub for_none : (o : Option Command) → o ≡ None → Covers (Reads Status ∷ []) (of_move limits (for_frame o f.place.turn f.words ∷ fs) s)
  for_none o e = subst (λ (x : Option Command). Covers (Reads Status ∷ []) (of_move limits (for_frame x f.place.turn f.words ∷ fs) s)) (sym e) (reads_alone (Status ∷ []))

  module _ (o : Option Command) (c : CommandCode) (found : o ≡ Some (view.command c)) where
    for_as : (xs : List Access) (k : Command) → view.command c ≡ k → Covers xs (of_move limits (for_frame (Some k) f.place.turn f.words ∷ fs) s) → Covers xs (of_move limits (for_frame o f.place.turn f.words ∷ fs) s)
    for_as xs k e h = subst (λ (x : Option Command). Covers xs (of_move limits (for_frame x f.place.turn f.words ∷ fs) s)) (sym (found ∙ ap Some e)) h

    no_for_at : Kind c → ((name : Vec ℕ Global) (words : Vec Word Global) (body : Rc Code Global) → c ≡ For name words body → ⊥) → Covers (Reads Status ∷ []) (of_move limits (for_frame o f.place.turn f.words ∷ fs) s)
    no_for_at (AsSimple call e) other = for_as (Reads Status ∷ []) (tree.Simple (view.call call)) (says_simple c call e) (reads_alone (Status ∷ []))
    no_for_at (AsAssign values e) other = for_as (Reads Status ∷ []) (tree.Assign (view.values_in values)) (says_assign c values e) (reads_alone (Status ∷ []))
    no_for_at (AsIf arms more e) other = for_as (Reads Status ∷ []) (tree.If (view.arms (map view.arm arms.items) (view.script_in more))) (says_if c arms more e) (reads_alone (Status ∷ []))
    no_for_at (AsLoop until cond body e) other = for_as (Reads Status ∷ []) (tree.Loop until (view.script cond.value) (view.script body.value)) (says_loop c until cond body e) (reads_alone (Status ∷ []))
    no_for_at (AsFor name words body e) other = absurd (other name words body e)

    pub no_for : ((name : Vec ℕ Global) (words : Vec Word Global) (body : Rc Code Global) → c ≡ For name words body → ⊥) → Covers (Reads Status ∷ []) (of_move limits (for_frame o f.place.turn f.words ∷ fs) s)
    no_for = no_for_at (kind_of c)

    module _ (name : Vec ℕ Global) (words : Vec Word Global) (body : Rc Code Global) (is : c ≡ For name words body) where
      pub for_turn : (bytes v : Text) → bytes ≡ name.items → slice_get f.words f.place.turn ≡ Some v → Covers (Reads Status ∷ Writes (Local bytes) ∷ []) (of_move limits (for_frame o f.place.turn f.words ∷ fs) s)
      for_turn bytes v n e =
          subst (λ (x : Text). Covers (Reads Status ∷ Writes (Local x) ∷ []) (of_move limits (for_frame o f.place.turn f.words ∷ fs) s)) (sym n)
          (for_as (Reads Status ∷ Writes (Local name.items) ∷ []) (tree.For name.items (map view.word words.items) (view.script body.value)) (says_for c name words body is)
          (turn_begins limits s name.items f.words f.place.turn (view.script body.value) fs v e))

      pub for_end : slice_get f.words f.place.turn ≡ None → Covers (Reads Status ∷ []) (of_move limits (for_frame o f.place.turn f.words ∷ fs) s)
      for_end e =
          for_as (Reads Status ∷ []) (tree.For name.items (map view.word words.items) (view.script body.value)) (says_for c name words body is)
          (turns_end limits s name.items f.words f.place.turn (view.script body.value) fs e)

  -- ---- a `run`

  pub run_text : (bytes name : Text) → bytes ≡ name → slice_get f.words f.place.turn ≡ Some name → Covers (Reads Status ∷ Reads (Environment bytes) ∷ []) (of_move limits (run_frame f.place.turn f.words ∷ fs) s)
  run_text bytes name n e = subst (λ (x : Text). Covers (Reads Status ∷ Reads (Environment x) ∷ []) (of_move limits (run_frame f.place.turn f.words ∷ fs) s)) (sym n) (name_begins limits s f.words f.place.turn fs name e)

  pub run_end : slice_get f.words f.place.turn ≡ None → Covers (Reads Status ∷ []) (of_move limits (run_frame f.place.turn f.words ∷ fs) s)
  run_end e = names_end limits s f.words f.place.turn fs e

  pub run_failed : (at : At) → at ≡ f.place → (at.turn ≡ 0 → ⊥) → (s.memory.status ≡ 0 → ⊥) → Covers (Reads Status ∷ []) (of_move limits (run_frame f.place.turn f.words ∷ fs) s)
  run_failed at here other failed =
      let turn : f.place.turn ≡ suc (at.turn - 1) = ap (λ (x : At). x.turn) (sym here) ∙ back at.turn other in
      subst (λ (n : ℕ). Covers (Reads Status ∷ []) (of_move limits (run_frame n f.words ∷ fs) s)) (sym turn) (run_fails limits s f.words (at.turn - 1) fs (no_zero s.memory.status failed))
