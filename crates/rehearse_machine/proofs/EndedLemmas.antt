-- Frames that have nothing left to do: what they make of an answer, and frames without some of them.
use Rattle.std.proofs.Common.{ℕ, zero, suc, Bool, true, false, not, ◌&&◌, ◌||◌, List, [], ◌∷◌, ◌++◌, drop, Option, Some, None, refl, sym, ap, subst, ◌∙◌, ◌≡◌, ◌⊎◌, inl, inr, nat_eq}
use Rattle.std.specs.Prelude.{is_some, option_and_then, slice_get}
use Rattle.std.proofs.lemmas.Bool.{and_parts, eqb-true, not-true}
use Rattle.hushlang.specs.Tree as tree
use Rattle.hushlang.specs.Tree.{Script, AndOr, Joined, Command}
use Rattle.bootstore_state.specs.declared.frame.At.{At}
use Rattle.bootstore_state.specs.declared.frame.FrameKind.{FrameKind}
use Rattle.bootstore_state.specs.declared.frame.FrameKind.TheVariants as kinds
use Rattle.bootstore_state.specs.Moment.{RunningFrame}
use Rattle.bootstore_state.specs.Record.{Record, changed, without_first}
use Rattle.rehearse_terms.specs.State.{Text, State}
use Rattle.rehearse_terms.specs.declared.shell.Shell.{Shell}
use Rattle.rehearse_terms.specs.declared.shell.Shell.TheVariants.{Profile, Old2023, Old2025, Modern2025}
use Rattle.rehearse_rules.specs.ByShell.{status_of_text}
use Rattle.rehearse_rules.specs.Execution.{Limits, Answer, Normal, Exit, Ended, Dry, set_status, text_failed, run_all}
use Rattle.rehearse_machine.specs.Frames.{Frame, Lists, Linked, RunNames, RunText, CommandEnd}
use Rattle.rehearse_machine.specs.Places.{list_at, drop_lists, joined_at, drop_joined, second, command_in, phase, from_command, from_turn, past_lists, script_frames, run_frame, frames_by, frames_of}
use Rattle.rehearse_machine.specs.Meaning.{full, resume, continue, AreProperFrames}
use Rattle.rehearse_machine.specs.EndedTexts.{is_text, is_block, is_run, is_over, is_between, next_command, has_more, has_command, is_at_end, has_ended, is_done, has_run_all, begins, below_blocks, below_text, below_ended, below_three, may_drop, without_text, lightened, with_fewer, GoOnAlike, DropsEnded}
use Rattle.rehearse_machine.proofs.RunAnswers.{HasNoExit, no_compound, of_text_end, of_run}

-- ---- tests

neither : (b c : Bool) → b || c ≡ false → (b ≡ false) × (c ≡ false)
neither true c e = absurd (let f = e in cc)
neither false c e = (refl, e)

one_of : (b c : Bool) → b || c ≡ true → (b ≡ true) ⊎ (c ≡ true)
one_of true c e = inl refl
one_of false c e = inr e

-- ---- parts of a script after its last command

no_lists : (script : Script) (i : ℕ) → is_some (list_at script i) ≡ false → drop_lists i script ≡ tree.Empty
no_lists tree.Empty zero e = refl
no_lists tree.Empty (suc i) e = refl
no_lists (tree.Runs l ls) zero e = absurd (let f = e in cc)
no_lists (tree.Runs l ls) (suc i) e = no_lists ls i e

no_joined : (joins : Joined) (j : ℕ) → is_some (second (joined_at joins j)) ≡ false → drop_joined j joins ≡ tree.Alone
no_joined tree.Alone zero e = refl
no_joined tree.Alone (suc j) e = refl
no_joined (tree.Joins op c rest) zero e = absurd (let f = e in cc)
no_joined (tree.Joins op c rest) (suc j) e = no_joined rest j e

no_names : (names : List Text) (k : ℕ) → is_some (slice_get names k) ≡ false → drop k names ≡ []
no_names [] zero e = refl
no_names [] (suc k) e = refl
no_names (x ∷ xs) zero e = absurd (let f = e in cc)
no_names (x ∷ xs) (suc k) e = no_names xs k e

-- a command that is over
phase_over : (o : Option Command) → phase o 1 1 ≡ CommandEnd
phase_over None = refl
phase_over (Some (tree.Simple words)) = refl
phase_over (Some (tree.Assign values)) = refl
phase_over (Some (tree.If arms)) = refl
phase_over (Some (tree.Loop until c b)) = refl
phase_over (Some (tree.For name words body)) = refl

module _ (list : AndOr) (at : At) where
  next_when : (b : Bool) → is_over at ≡ b → next_command list at ≡ elim b [ true ↦ command_in list (suc at.command) | false ↦ command_in list at.command ]
  next_when b e = ap (λ (x : Bool). elim x [ true ↦ command_in list (suc at.command) | false ↦ command_in list at.command ]) e

  not_over : at.turn ≡ 0 → is_over at ≡ false
  not_over z = ap (λ (n : ℕ). nat_eq n 2 && nat_eq at.last 1) z

  none_here : at.turn ≡ 0 → is_some (next_command list at) ≡ false → is_some (command_in list at.command) ≡ false
  none_here z e = sym (ap (λ (o : Option Command). is_some o) (next_when false (not_over z))) ∙ e

  none_behind : is_over at ≡ true → is_some (next_command list at) ≡ false → is_some (command_in list (suc at.command)) ≡ false
  none_behind t e = sym (ap (λ (o : Option Command). is_some o) (next_when true t)) ∙ e

-- ---- what these frames make of an answer

module _ (limits : Limits) where
  no_list : (a : Answer) → resume limits (Lists tree.Empty) a ≡ a
  no_list (Normal s) = refl
  no_list (Exit s) = refl
  no_list (Ended ending s) = refl
  no_list (Dry s) = refl

  no_link : (a : Answer) → resume limits (Linked tree.Alone) a ≡ a
  no_link (Normal s) = refl
  no_link (Exit s) = refl
  no_link (Ended ending s) = refl
  no_link (Dry s) = refl

  -- a `run` without a name left
  abbrev behind_text : Answer → Answer
  behind_text a = resume limits (RunText []) a

  either : (b : Bool) (x y : Answer) → y ≡ x → elim b [ true ↦ x | false ↦ y ] ≡ x
  either true x y e = refl
  either false x y e = e

  same_status : (shell : Shell) (n : ℕ) → status_of_text shell (status_of_text shell n) ≡ status_of_text shell n
  same_status Profile n = refl
  same_status Old2023 n = refl
  same_status Old2025 n = refl
  same_status Modern2025 n = refl

  -- a text that has failed gives its status twice
  failed_twice : (s : State) → behind_text (Normal (text_failed limits.shell s)) ≡ Normal (text_failed limits.shell s)
  failed_twice s =
      either (nat_eq (text_failed limits.shell s).memory.status 0) (Normal (text_failed limits.shell s)) (Normal (text_failed limits.shell (text_failed limits.shell s)))
      (ap (λ (n : ℕ). Normal (set_status n s)) (same_status limits.shell s.memory.status))

  by_status : (s : State) (b : Bool) → nat_eq s.memory.status 0 ≡ b → behind_text (Normal s) ≡ elim b [ true ↦ Normal s | false ↦ Normal (text_failed limits.shell s) ]
  by_status s b e = ap (λ (x : Bool). elim x [ true ↦ Normal s | false ↦ Normal (text_failed limits.shell s) ]) e

  normal_twice : (s : State) (b : Bool) → nat_eq s.memory.status 0 ≡ b → behind_text (behind_text (Normal s)) ≡ behind_text (Normal s)
  normal_twice s true e = ap behind_text (by_status s true e)
  normal_twice s false e = ap behind_text (by_status s false e) ∙ failed_twice s ∙ sym (by_status s false e)

  exit_once : (s : State) → behind_text (Exit s) ≡ Normal s
  exit_once s = either (nat_eq s.memory.status 0) (Normal s) (Normal s) refl

  -- the third makes of each answer what the second has made of it
  thrice : (a : Answer) → behind_text (behind_text (behind_text a)) ≡ behind_text (behind_text a)
  thrice (Normal s) = ap behind_text (normal_twice s (nat_eq s.memory.status 0) refl)
  thrice (Exit s) =
      ap (λ (x : Answer). behind_text (behind_text x)) (exit_once s)
      ∙ normal_twice s (nat_eq s.memory.status 0) refl ∙ sym (ap behind_text (exit_once s))
  thrice (Ended ending s) = refl
  thrice (Dry s) = refl

  -- ---- the same of frames of a store

  command_ended : (list : AndOr) (n : ℕ) (rest : Script) → is_some (command_in list n) ≡ false → rest ≡ tree.Empty → (fs : List Frame) (a : Answer) → continue limits (from_command list n rest ++ fs) a ≡ continue limits fs a
  command_ended (tree.Starts c joins) zero rest e r fs a = absurd (let f = e in cc)
  command_ended (tree.Starts c joins) (suc j) rest e r fs a =
      ap (λ (x : Joined). continue limits (Linked x ∷ Lists rest ∷ fs) a) (no_joined joins j e)
      ∙ ap (λ (x : Script). continue limits (Linked tree.Alone ∷ Lists x ∷ fs) a) r
      ∙ ap (λ (x : Answer). continue limits (Lists tree.Empty ∷ fs) x) (no_link a)
      ∙ ap (continue limits fs) (no_list a)

  -- in no command
  script_here : (o after : Option AndOr) (at : At) (rest : Script) → at.turn ≡ 0 → has_more o at after ≡ false → (is_some after ≡ false → rest ≡ tree.Empty) → (fs : List Frame) (a : Answer) → continue limits (script_frames o at rest ++ fs) a ≡ continue limits fs a
  script_here None after at rest z e r fs a =
      ap (λ (n : ℕ). continue limits (past_lists n ++ fs) a) z ∙ ap (continue limits fs) (no_list a)
  script_here (Some list) after at rest z e r fs a =
      let none = neither (is_some (next_command list at)) (is_some after) e in
      ap (λ (n : ℕ). continue limits (from_turn list at n rest ++ fs) a) z
      ∙ command_ended list at.command rest (none_here list at z none.0) (r none.1) fs a

  -- in a command that is over
  script_over : (o after : Option AndOr) (at : At) (rest : Script) → is_over at ≡ true → has_more o at after ≡ false → (is_some after ≡ false → rest ≡ tree.Empty) → (fs : List Frame) (a : Answer) → HasNoExit a → continue limits (script_frames o at rest ++ fs) a ≡ continue limits fs a
  script_over None after at rest t e r fs a h =
      let parts = and_parts (nat_eq at.turn 2) (nat_eq at.last 1) t in
      ap (λ (n : ℕ). continue limits (past_lists n ++ fs) a) (eqb-true at.turn 2 parts.0)
      ∙ ap (continue limits fs) (no_compound limits.shell a h)
  script_over (Some list) after at rest t e r fs a h =
      let parts = and_parts (nat_eq at.turn 2) (nat_eq at.last 1) t in
      let none = neither (is_some (next_command list at)) (is_some after) e in
      let later = from_command list (suc at.command) rest ++ fs in
      ap (λ (n : ℕ). continue limits (from_turn list at n rest ++ fs) a) (eqb-true at.turn 2 parts.0)
      ∙ ap (λ (n : ℕ). continue limits (phase (command_in list at.command) 1 n ∷ later) a) (eqb-true at.last 1 parts.1)
      ∙ ap (λ (x : Frame). continue limits (x ∷ later) a) (phase_over (command_in list at.command))
      ∙ ap (continue limits later) (no_compound limits.shell a h)
      ∙ command_ended list (suc at.command) rest (none_behind list at t none.0) (r none.1) fs a

  script_ended : (o after : Option AndOr) (at : At) (rest : Script) → (nat_eq at.turn 0 ≡ true) ⊎ (is_over at ≡ true) → has_more o at after ≡ false → (is_some after ≡ false → rest ≡ tree.Empty) → (fs : List Frame) (a : Answer) → HasNoExit a → continue limits (script_frames o at rest ++ fs) a ≡ continue limits fs a
  script_ended o after at rest (inl z) e r fs a h = script_here o after at rest (eqb-true at.turn 0 z) e r fs a
  script_ended o after at rest (inr t) e r fs a h = script_over o after at rest t e r fs a h

  at_end : (f : RunningFrame) → is_at_end f ≡ true → (fs : List Frame) (a : Answer) → HasNoExit a → continue limits (script_frames (list_at f.script f.place.list) f.place (drop_lists (suc f.place.list) f.script) ++ fs) a ≡ continue limits fs a
  at_end f e fs a h =
      let tests = and_parts (is_between f.place) (not (has_command f)) e in
      script_ended (list_at f.script f.place.list) (list_at f.script (suc f.place.list)) f.place (drop_lists (suc f.place.list) f.script)
      (one_of (nat_eq f.place.turn 0) (is_over f.place) tests.0) (not-true (has_command f) tests.1) (no_lists f.script (suc f.place.list)) fs a h

  text_by : (kind : FrameKind) (f : RunningFrame) → is_text kind ≡ true → is_at_end f ≡ true → (fs : List Frame) (a : Answer) → HasNoExit a → continue limits (frames_by kind f ++ fs) a ≡ continue limits fs a
  text_by kinds.Text f k e fs a h = at_end f e fs a h
  text_by kinds.Block f k e fs a h = absurd (let g = k in cc)
  text_by kinds.For f k e fs a h = absurd (let g = k in cc)
  text_by kinds.Run f k e fs a h = absurd (let g = k in cc)
  text_by kinds.File f k e fs a h = absurd (let g = k in cc)

  text_ended : (f : RunningFrame) → has_ended f ≡ true → (fs : List Frame) (a : Answer) → HasNoExit a → continue limits (frames_by f.kind f ++ fs) a ≡ continue limits fs a
  text_ended f e = let tests = and_parts (is_text f.kind) (is_at_end f) e in text_by f.kind f tests.0 tests.1

  block_by : (kind : FrameKind) (f : RunningFrame) → is_block kind ≡ true → is_at_end f ≡ true → (fs : List Frame) (a : Answer) → HasNoExit a → continue limits (frames_by kind f ++ fs) a ≡ continue limits fs a
  block_by kinds.Text f k e fs a h = absurd (let g = k in cc)
  block_by kinds.Block f k e fs a h = at_end f e fs a h
  block_by kinds.For f k e fs a h = absurd (let g = k in cc)
  block_by kinds.Run f k e fs a h = absurd (let g = k in cc)
  block_by kinds.File f k e fs a h = absurd (let g = k in cc)

  block_done : (f : RunningFrame) → is_done f ≡ true → (fs : List Frame) (a : Answer) → HasNoExit a → continue limits (frames_by f.kind f ++ fs) a ≡ continue limits fs a
  block_done f e = let tests = and_parts (is_block f.kind) (is_at_end f) e in block_by f.kind f tests.0 tests.1

  block_goes : (f : RunningFrame) (fs : List RunningFrame) (b : Bool) → is_done f ≡ b → (a : Answer) → HasNoExit a → continue limits (frames_of (below_blocks fs)) a ≡ continue limits (frames_of fs) a
      → continue limits (frames_of (elim b [ true ↦ below_blocks fs | false ↦ f ∷ fs ])) a ≡ continue limits (frames_of (f ∷ fs)) a
  block_goes f fs true e a h k = k ∙ sym (block_done f e (frames_of fs) a h)
  block_goes f fs false e a h k = refl

  blocks_go : (fs : List RunningFrame) (a : Answer) → HasNoExit a → continue limits (frames_of (below_blocks fs)) a ≡ continue limits (frames_of fs) a
  blocks_go [] a h = refl
  blocks_go (f ∷ fs) a h = block_goes f fs (is_done f) refl a h (blocks_go fs a h)

  names_over : (turn : ℕ) (names : List Text) → not (nat_eq turn 0) ≡ true → is_some (slice_get names turn) ≡ false → run_frame turn names ≡ RunText []
  names_over zero names z e = absurd (let f = z in cc)
  names_over (suc k) names z e = ap RunText (no_names names (suc k) e)

  run_by : (kind : FrameKind) (f : RunningFrame) → is_run kind ≡ true → not (nat_eq f.place.turn 0) ≡ true → is_some (slice_get f.words f.place.turn) ≡ false → frames_by kind f ≡ RunText [] ∷ []
  run_by kinds.Text f k z e = absurd (let g = k in cc)
  run_by kinds.Block f k z e = absurd (let g = k in cc)
  run_by kinds.For f k z e = absurd (let g = k in cc)
  run_by kinds.Run f k z e = ap (λ (x : Frame). x ∷ []) (names_over f.place.turn f.words z e)
  run_by kinds.File f k z e = absurd (let g = k in cc)

  run_ended : (f : RunningFrame) → has_run_all f ≡ true → frames_by f.kind f ≡ RunText [] ∷ []
  run_ended f e =
      let outer = and_parts (not (is_some (slice_get f.words f.place.turn)) && is_run f.kind) (not (nat_eq f.place.turn 0)) e in
      let inner = and_parts (not (is_some (slice_get f.words f.place.turn))) (is_run f.kind) outer.0 in
      run_by f.kind f inner.1 outer.1 (not-true (is_some (slice_get f.words f.place.turn)) inner.0)

  pair_ended : (text run : RunningFrame) (fs : List RunningFrame) → has_ended text ≡ true → has_run_all run ≡ true → (a : Answer) → HasNoExit a → continue limits (frames_of (text ∷ run ∷ fs)) a ≡ continue limits (frames_of fs) (behind_text a)
  pair_ended text run fs e k a h =
      text_ended text e (frames_of (run ∷ fs)) a h
      ∙ ap (λ (x : List Frame). continue limits (x ++ frames_of fs) a) (run_ended run k)

  chosen : (b : Bool) (x y : List RunningFrame) → elim b [ true ↦ Some x | false ↦ None ] ≡ Some y → (b ≡ true) × (x ≡ y)
  chosen true x y e = (refl, (let f = e in cc))
  chosen false x y e = absurd (let f = e in cc)

  text_is : (fs below : List RunningFrame) → below_text fs ≡ Some below → without_first (without_first fs) ≡ below
  text_is [] below e = absurd (let f = e in cc)
  text_is (text ∷ []) below e = absurd (let f = e in cc)
  text_is (text ∷ run ∷ fs) below e = (chosen (has_ended text && has_run_all run) fs below e).1

  text_goes : (fs below : List RunningFrame) → below_text fs ≡ Some below → (a : Answer) → HasNoExit a → continue limits (frames_of fs) a ≡ continue limits (frames_of below) (behind_text a)
  text_goes [] below e a h = absurd (let f = e in cc)
  text_goes (text ∷ []) below e a h = absurd (let f = e in cc)
  text_goes (text ∷ run ∷ fs) below e a h =
      let found = chosen (has_ended text && has_run_all run) fs below e in
      let tests = and_parts (has_ended text) (has_run_all run) found.0 in
      pair_ended text run fs tests.0 tests.1 a h ∙ ap (λ (x : List RunningFrame). continue limits (frames_of x) (behind_text a)) found.1

  below_goes : (fs below : List RunningFrame) → below_ended fs ≡ Some below → (a : Answer) → HasNoExit a → continue limits (frames_of fs) a ≡ continue limits (frames_of below) (behind_text a)
  below_goes fs below e a h = sym (blocks_go fs a h) ∙ text_goes (below_blocks fs) below e a h

  -- an ended text and its `run` never answer that `exit` leaves a text
  stays : (a : Answer) → HasNoExit (behind_text a)
  stays a = of_text_end limits a (run_all limits (full limits) []) (λ s. tt)

  module _ (fs : List RunningFrame) (a : Answer) (h : HasNoExit a) where
    abbrev fewer : List RunningFrame
    fewer = without_first (without_first (below_blocks fs))

    third_goes : (two three : List RunningFrame) (o : Option (List RunningFrame)) → below_ended fs ≡ Some two → below_ended two ≡ Some three → below_ended three ≡ o → is_some o ≡ true → continue limits (frames_of fewer) a ≡ continue limits (frames_of fs) a
    third_goes two three None e k g some = absurd (let f = some in cc)
    third_goes two three (Some rest) e k g some =
        ap (λ (x : List RunningFrame). continue limits (frames_of x) a) (text_is (below_blocks fs) two e)
        ∙ below_goes two three k a h ∙ below_goes three rest g (behind_text a) (stays a)
        ∙ sym (below_goes fs two e a h ∙ below_goes two three k (behind_text a) (stays a) ∙ below_goes three rest g (behind_text (behind_text a)) (stays (behind_text a))
        ∙ ap (continue limits (frames_of rest)) (thrice a))

    second_goes : (two : List RunningFrame) (o : Option (List RunningFrame)) → below_ended fs ≡ Some two → below_ended two ≡ o → is_some (option_and_then below_ended o) ≡ true → continue limits (frames_of fewer) a ≡ continue limits (frames_of fs) a
    second_goes two None e k some = absurd (let f = some in cc)
    second_goes two (Some three) e k some = third_goes two three (below_ended three) e k refl some

    first_goes : (o : Option (List RunningFrame)) → below_ended fs ≡ o → is_some (option_and_then below_ended (option_and_then below_ended o)) ≡ true → continue limits (frames_of fewer) a ≡ continue limits (frames_of fs) a
    first_goes None e some = absurd (let f = some in cc)
    first_goes (Some two) e some = second_goes two (below_ended two) e refl some

  begins_by : (kind : FrameKind) (f : RunningFrame) → is_run kind ≡ true → f.place.turn ≡ 0 → frames_by kind f ≡ RunNames f.words ∷ []
  begins_by kinds.Text f k z = absurd (let g = k in cc)
  begins_by kinds.Block f k z = absurd (let g = k in cc)
  begins_by kinds.For f k z = absurd (let g = k in cc)
  begins_by kinds.Run f k z = ap (λ (n : ℕ). run_frame n f.words ∷ []) z
  begins_by kinds.File f k z = absurd (let g = k in cc)

  run_begins : (f : RunningFrame) → begins f ≡ true → frames_by f.kind f ≡ RunNames f.words ∷ []
  run_begins f e = let tests = and_parts (is_run f.kind) (nat_eq f.place.turn 0) e in begins_by f.kind f tests.0 (eqb-true f.place.turn 0 tests.1)

  dropped_alike : (fs : List RunningFrame) → may_drop fs ≡ true → (a : Answer) → continue limits (frames_of (without_text fs)) a ≡ continue limits (frames_of fs) a
  dropped_alike [] e a = refl
  dropped_alike (f ∷ fs) e a =
      let tests = and_parts (begins f) (is_some (below_three fs)) e in
      let run = run_begins f tests.0 in
      ap (λ (x : List Frame). continue limits (x ++ frames_of (without_first (without_first (below_blocks fs)))) a) run
      ∙ first_goes fs (resume limits (RunNames f.words) a) (of_run limits f.words a) (below_ended fs) refl tests.1
      ∙ sym (ap (λ (x : List Frame). continue limits (x ++ frames_of fs) a) run)

-- ---- frames without some of them

pub lightened_by : (fs : List RunningFrame) (b : Bool) → may_drop fs ≡ b → lightened fs ≡ elim b [ true ↦ without_text fs | false ↦ fs ]
lightened_by fs b e = ap (λ (x : Bool). elim x [ true ↦ without_text fs | false ↦ fs ]) e

lightened_alike : (fs : List RunningFrame) (b : Bool) → may_drop fs ≡ b → GoOnAlike (lightened fs) fs
lightened_alike fs true e limits a =
    ap (λ (x : List RunningFrame). continue limits (frames_of x) a) (lightened_by fs true e) ∙ dropped_alike limits fs e a
lightened_alike fs false e limits a = ap (λ (x : List RunningFrame). continue limits (frames_of x) a) (lightened_by fs false e)

proper_below : (xs ys : List Frame) → AreProperFrames (xs ++ ys) → AreProperFrames ys
proper_below [] ys p = p
proper_below (x ∷ xs) ys p = proper_below xs ys p.1

proper_above : (xs ys zs : List Frame) → (AreProperFrames ys → AreProperFrames zs) → AreProperFrames (xs ++ ys) → AreProperFrames (xs ++ zs)
proper_above [] ys zs h p = h p
proper_above (x ∷ xs) ys zs h p = (p.0, proper_above xs ys zs h p.1)

proper_rest : (fs : List RunningFrame) → AreProperFrames (frames_of fs) → AreProperFrames (frames_of (without_first fs))
proper_rest [] p = p
proper_rest (f ∷ fs) p = proper_below (frames_by f.kind f) (frames_of fs) p

block_proper : (f : RunningFrame) (fs : List RunningFrame) (b : Bool) → AreProperFrames (frames_of (f ∷ fs)) → AreProperFrames (frames_of (below_blocks fs)) → AreProperFrames (frames_of (elim b [ true ↦ below_blocks fs | false ↦ f ∷ fs ]))
block_proper f fs true p k = k
block_proper f fs false p k = p

blocks_proper : (fs : List RunningFrame) → AreProperFrames (frames_of fs) → AreProperFrames (frames_of (below_blocks fs))
blocks_proper [] p = p
blocks_proper (f ∷ fs) p = block_proper f fs (is_done f) p (blocks_proper fs (proper_rest (f ∷ fs) p))

dropped_sound : (fs : List RunningFrame) → AreProperFrames (frames_of fs) → AreProperFrames (frames_of (without_text fs))
dropped_sound [] p = p
dropped_sound (f ∷ fs) p =
    proper_above (frames_by f.kind f) (frames_of fs) (frames_of (without_first (without_first (below_blocks fs))))
    (λ q. proper_rest (without_first (below_blocks fs)) (proper_rest (below_blocks fs) (blocks_proper fs q))) p

lightened_sound : (fs : List RunningFrame) (b : Bool) → may_drop fs ≡ b → AreProperFrames (frames_of fs) → AreProperFrames (frames_of (lightened fs))
lightened_sound fs true e p = subst (λ (x : List RunningFrame). AreProperFrames (frames_of x)) (sym (lightened_by fs true e)) (dropped_sound fs p)
lightened_sound fs false e p = subst (λ (x : List RunningFrame). AreProperFrames (frames_of x)) (sym (lightened_by fs false e)) p

pub drops_ended : (old new : Record) → new ≡ changed with_fewer old → DropsEnded old new
drops_ended old new e =
    let fs = old.present.frames in
    subst (λ (r : Record). DropsEnded old r) (sym e)
    (record { frames = refl; alike = lightened_alike fs (may_drop fs) refl; sound = lightened_sound fs (may_drop fs) refl })
