-- Frames go alike from states that agree on what they read, as far as the bounds allow.
use Rattle.std.proofs.Common.{◌≡◌, ◌∙◌, refl, sym, ap, subst, ℕ, suc, ◌+◌, arith, Bool, true, false, List, [], ◌∷◌, ◌++◌, map, length, Option, Some, None, nat_eq}
use Rattle.hushlang.specs.Tree.{Script, Joined, Arms}
use Rattle.rehearse_terms.specs.Outcomes.{OutcomeWord, WordKind, Run, Long}
use Rattle.rehearse_terms.specs.State.{Text, State, LoggedCommand, get}
use Rattle.rehearse_rules.specs.Execution.{Limits, Answer, Normal, Exit, Ended, Dry, Ending, End, take_outcome, run_all, turns, block_skipped, go_on, file_follows, text_end, sourced, Request, chosen, run_one}
use Rattle.rehearse_rules.specs.Runs.{taken_kind}
use Rattle.rehearse_rules.proofs.TakenOutcomes.{KeepsAll, Keeps-script, Keeps-joined, Keeps-arms, Keeps-exec, Keeps-run, Keeps-turns, Keeps-for, Keeps-if, Keeps-stays, after_condition, Keeps-after_condition, Keeps-skip, Keeps-file, Keeps-chosen, Keeps-one_file}
use Rattle.rehearse_machine.specs.Came as came
use Rattle.rehearse_machine.specs.Came.{Over, settled}
use Rattle.rehearse_machine.specs.Frames.{Frame, Lists, Linked, IfCondition, LoopCondition, LoopBody, ForBody, RunNames, RunText, CommandEnd, RunFile, FileText, with_file, ChosenFile}
use Rattle.rehearse_machine.specs.Meaning.{with, first_or_next, full, script, joined_of, arms_of, again, resume, continue}
use Rattle.rehearse_machine.proofs.MoveMeaning.{continue-dry}
use Rattle.rehearse_reads.specs.Keys.{Key, Environment, Status, Access, AgreeOn, ReadsWithin, all_read, known_after}
use Rattle.rehearse_reads.specs.Accesses.{turns_accesses, each_accesses, taken_accesses, copied_keys, handing_reads, outcome_writes, modern_accesses, behind, behind_text, sourced_accesses, one_accesses}
use Rattle.rehearse_reads.specs.Alike as alike
use Rattle.rehearse_reads.specs.Alike.{AreAbreast, IsAlike}
use Rattle.rehearse_reads.proofs.AccessLemmas.{within_first, within_then}
use Rattle.rehearse_reads.proofs.KeysRead.{reads_within}
use Rattle.rehearse_reads.proofs.AbreastLemmas.{moved_at, near_moved}
use Rattle.rehearse_reads.proofs.AlikeParts.{further_apart, normal_later, if_later, normal_alike, ended_alike, dry_alike, if_alike, go_on_alike, text_end_alike, Alike-read, after_then}
use Rattle.rehearse_reads.proofs.AlikeDevices.{take_alike}
use Rattle.rehearse_reads.proofs.AlikeLoops.{Alike-turns, Alike-each, Alike-skip, after_alike, compound_then, compound_alike, sourced_alike}
use Rattle.rehearse_reads.proofs.AlikeScripts.{Alike-run, Alike-script, Alike-joined, Alike-arms, Alike-exec, Alike-file, Alike-chosen, Alike-one_file}
use Rattle.rehearse_reads.proofs.AlikeRuns.{from_the_start}
use Rattle.rehearse_frames.specs.ToCome.{names_read, first_behind, of_full, of_script, of_joined, of_arms, of_again, of_condition, of_choice, of_names, of_frame, of_end, of_frames, choice, condition, turns_left, of_file, of_chosen}
use Rattle.rehearse_frames.specs.AlikeFutures.{CameAlike, same, cut_here, beyond}
use Rattle.rehearse_frames.specs.Laws.{FramesGoAlike, AskedAlike}

module _ (limits : Limits) (i j : ℕ) (k l : List LoggedCommand) where
  abbrev Is : List Key → Answer → Answer → Type 0
  Is known a b = IsAlike limits i j k l known a b

  abbrev Near : List Key → State → State → Type 0
  Near known s t = AreAbreast limits i j k l known s t

  abbrev AlwaysDoes : (State → Answer) → (State → List Access) → Type 0
  AlwaysDoes f u = (known : List Key) (s t : State) → Near known s t → ReadsWithin known (u s) → Is (known_after known (u s)) (f s) (f t)

  first_alike : (known : List Key) (a b : Answer) (g : State → Answer) (v : State → List Access) → AlwaysDoes g v → KeepsAll limits g → ReadsWithin known (first_behind a v) → Is known a b → Is (known_after known (first_behind a v)) (first_or_next a g) (first_or_next b g)
  first_alike known (Normal u) b g v does kept w (alike.same h) = subst (λ (x : Answer). Is (known_after known (v u)) (g u) (first_or_next x g)) (sym h.is) (does known u h.there h.abreast w)
  first_alike known (Normal u) b g v does kept w (alike.cut_here h) = absurd h
  first_alike known (Normal u) b g v does kept w (alike.beyond h) = alike.beyond (normal_later limits i j k l u g kept h)
  first_alike known (Exit u) b g v does kept w (alike.same h) =
      subst (λ (x : Answer). Is (known_after known (first_behind (Exit u) v)) (first_or_next (Exit u) g) (first_or_next x g)) (sym h.is)
      (text_end_alike limits i j k l known (Exit u) (Exit h.there) g v does kept w (alike.same (record { there = h.there; is = refl; abreast = h.abreast })))
  first_alike known (Exit u) b g v does kept w (alike.cut_here h) = absurd h
  first_alike known (Exit u) b g v does kept w (alike.beyond h) = alike.beyond (if_later limits i j k l u u.memory.status g Normal kept (Keeps-stays limits.device_bound) h)
  first_alike known (Ended ending u) b g v does kept w (alike.same h) = subst (λ (x : Answer). Is known (Ended ending u) (first_or_next x g)) (sym h.is) (ended_alike limits i j k l known ending u h.there h.abreast)
  first_alike known (Ended ending u) b g v does kept w (alike.cut_here h) = alike.cut_here h
  first_alike known (Ended ending u) b g v does kept w (alike.beyond h) = alike.beyond h
  first_alike known (Dry u) b g v does kept w (alike.same h) = subst (λ (x : Answer). Is known (Dry u) (first_or_next x g)) (sym h.is) (dry_alike limits i j k l known u h.there h.abreast)
  first_alike known (Dry u) b g v does kept w (alike.cut_here h) = absurd h
  first_alike known (Dry u) b g v does kept w (alike.beyond h) = alike.beyond h

  kept_full : (a : Script) → KeepsAll limits (full limits a)
  kept_full = Keeps-exec limits limits.step_bound

  full_does : (a : Script) → AlwaysDoes (full limits a) (of_full limits a)
  full_does = Alike-exec limits i j k l limits.step_bound

  script_does : (a : Script) → AlwaysDoes (script limits a) (of_script limits a)
  script_does = Alike-script limits i j k l limits.step_bound (full limits) (of_full limits) kept_full full_does

  kept_script : (a : Script) → KeepsAll limits (script limits a)
  kept_script = Keeps-script limits limits.step_bound (full limits) kept_full

  joined_does : (a : Joined) → AlwaysDoes (joined_of limits a) (of_joined limits a)
  joined_does = Alike-joined limits i j k l limits.step_bound (full limits) (of_full limits) kept_full full_does

  arms_does : (a : Arms) → AlwaysDoes (arms_of limits a) (of_arms limits a)
  arms_does = Alike-arms limits i j k l limits.step_bound (full limits) (of_full limits) kept_full full_does

  names_does : (names : List Text) → AlwaysDoes (run_all limits (full limits) names) (of_names limits names)
  names_does = Alike-run limits i j k l (full limits) (of_full limits) kept_full full_does

  kept_names : (names : List Text) → KeepsAll limits (run_all limits (full limits) names)
  kept_names = Keeps-run limits (full limits) kept_full

  again_does : (until : Bool) (c b : Script) → AlwaysDoes (again limits until c b) (of_again limits until c b)
  again_does until c b =
      Alike-read limits i j k l (turns limits.shell limits.step_bound until (script limits c) (script limits b)) (turns_accesses limits.shell limits.step_bound until (script limits c) (script limits b) (of_script limits c) (of_script limits b))
      (Alike-turns limits i j k l limits.step_bound until (script limits c) (script limits b) (of_script limits c) (of_script limits b) (script_does c) (script_does b) (kept_script c) (kept_script b))

  kept_again : (until : Bool) (c b : Script) → KeepsAll limits (again limits until c b)
  kept_again until c b u = Keeps-turns limits limits.step_bound until (script limits c) (script limits b) (kept_script c) (kept_script b) u.memory.status u

  choice_does : (b : Script) (arms : Arms) → AlwaysDoes (λ t. elim (nat_eq t.memory.status 0) [ true ↦ script limits b t | false ↦ arms_of limits arms (block_skipped limits.shell b t) ]) (of_choice limits b arms)
  choice_does b arms known s t near w =
      let s' : State = block_skipped limits.shell b s in
      let t' : State = block_skipped limits.shell b t in
      if_alike limits i j k l known (nat_eq s.memory.status 0) (nat_eq t.memory.status 0) (ap (λ (n : ℕ). nat_eq n 0) (near.keys Status w.0))
      (script limits b s) (arms_of limits arms s') (script limits b t) (arms_of limits arms t') (of_script limits b s) (modern_accesses limits.shell ++ of_arms limits arms s') (script_does b known s t near)
      (Alike-skip limits i j k l b (arms_of limits arms) (of_arms limits arms) (arms_does arms) known s t (near.keys Status w.0) near) w.1

  resume_alike : (f : Frame) (known : List Key) (a b : Answer) → ReadsWithin known (of_frame limits f a) → Is known a b → Is (known_after known (of_frame limits f a)) (resume limits f a) (resume limits f b)
  resume_alike (Lists lists) known a b w h = go_on_alike limits i j k l known a b (script limits lists) (of_script limits lists) (script_does lists) (kept_script lists) w h
  resume_alike (Linked links) known a b w h = go_on_alike limits i j k l known a b (joined_of limits links) (of_joined limits links) (joined_does links) (Keeps-joined limits limits.step_bound (full limits) kept_full links) w h
  resume_alike (IfCondition c arms) known a b w h =
      let next : State → Answer = choice limits c arms in
      compound_then limits i j k l known (behind a (of_choice limits c arms)) (go_on a next) (go_on b next)
      (λ v. go_on_alike limits i j k l known a b next (of_choice limits c arms) (choice_does c arms)
      (λ t. Keeps-if limits.device_bound t (nat_eq t.memory.status 0) (script limits c) (λ u. arms_of limits arms (block_skipped limits.shell c u)) (kept_script c t) (Keeps-skip limits c (arms_of limits arms) (Keeps-arms limits limits.step_bound (full limits) kept_full arms) t)) v h) w
  resume_alike (LoopCondition until c d last) known a b w h =
      let next : State → Answer = condition limits until c d last in
      compound_then limits i j k l known (behind a (of_condition limits until c d)) (go_on a next) (go_on b next)
      (λ v. go_on_alike limits i j k l known a b (after_condition limits until (script limits d) (again limits until c d) last) (of_condition limits until c d)
      (after_alike limits i j k l until (script limits d) (again limits until c d) (of_script limits d) (of_again limits until c d) (script_does d) (again_does until c d) (kept_again until c d) last)
      (Keeps-after_condition limits until (script limits d) (again limits until c d) (kept_script d) (kept_again until c d) last) v h) w
  resume_alike (LoopBody until c d) known a b w h =
      let next : State → Answer = again limits until c d in
      compound_then limits i j k l known (behind a (of_again limits until c d)) (go_on a next) (go_on b next)
      (λ v. go_on_alike limits i j k l known a b next (of_again limits until c d) (again_does until c d) (kept_again until c d) v h) w
  resume_alike (ForBody name values body) known a b w h =
      let next : State → Answer = turns_left limits name values body in
      let of_next : State → List Access = each_accesses limits.shell name (script limits body) (of_script limits body) values in
      compound_then limits i j k l known (behind a of_next) (go_on a next) (go_on b next)
      (λ v. go_on_alike limits i j k l known a b next of_next
      (Alike-each limits i j k l name (script limits body) (of_script limits body) (script_does body) (kept_script body) values)
      (λ t. Keeps-for limits name (script limits body) (kept_script body) t.memory.status values t) v h) w
  resume_alike (RunNames names) known a b w h = first_alike known a b (run_all limits (full limits) names) (of_names limits names) (names_does names) (kept_names names) w h
  resume_alike (RunText names) known a b w h = text_end_alike limits i j k l known a b (run_all limits (full limits) names) (of_names limits names) (names_does names) (kept_names names) w h
  resume_alike (RunFile name others before) known a b w h =
      go_on_alike limits i j k l known a b (file_follows limits (full limits) name others before) (of_file limits name others before) (Alike-file limits i j k l (full limits) (of_full limits) kept_full full_does name others before) (Keeps-file limits (full limits) kept_full name others before) w h
  resume_alike (ChosenFile name other others before) known a b w h =
      let next : State → Answer = run_one limits (full limits) other others before in
      let of_next : State → List Access = one_accesses limits (full limits) (of_full limits) other others before in
      go_on_alike limits i j k l known a b (chosen limits (full limits) name before next) (of_chosen limits name other others before)
      (Alike-chosen limits i j k l (full limits) (of_full limits) kept_full full_does name before next of_next (Alike-one_file limits i j k l (full limits) (of_full limits) kept_full full_does other others before))
      (Keeps-chosen limits (full limits) kept_full name before next (Keeps-one_file limits (full limits) kept_full other others before)) w h
  resume_alike FileText known a b w h =
      let last : List Access = sourced_accesses limits.shell a in
      let ended : List Access = behind_text (sourced limits.shell a) (λ t. []) in
      after_then limits i j k l known last ended (text_end limits.shell (sourced limits.shell a) Normal) (text_end limits.shell (sourced limits.shell b) Normal)
      (text_end_alike limits i j k l (known_after known last) (sourced limits.shell a) (sourced limits.shell b) Normal (λ t. []) (λ ks s t near v. normal_alike limits i j k l ks s t near) (Keeps-stays limits.device_bound) (within_then known last ended w)
      (sourced_alike limits i j k l limits.shell known a b (within_first known last ended w) h))
  resume_alike CommandEnd known a b w h = compound_alike limits i j k l limits.shell known a b w h

  module _ (wanted : List Text) where
    abbrev Came : Answer → Answer → Type 0
    Came a b = CameAlike limits i j k l wanted (settled a) (settled b)

    same_kind : (s t : State) → t.word ≡ s.word → taken_kind t ≡ taken_kind s
    same_kind s t e = ap (λ (w : OutcomeWord). let kind : WordKind = elim w [ [] ↦ Run | o ∷ os ↦ Long ] in kind) e

    same_values : (names : List Text) (known : List Key) (s t : State) → AgreeOn known s t → ReadsWithin known (names_read names) → map (get t.memory.environment) names ≡ map (get s.memory.environment) names
    same_values [] known s t agree w = refl
    same_values (name ∷ names) known s t agree w =
        ap (λ (o : Option Text). o ∷ map (get t.memory.environment) names) (agree (Environment name) w.0)
        ∙ ap (λ (os : List (Option Text)). get s.memory.environment name ∷ os) (same_values names known s t agree w.1)

    pub over_alike : (known : List Key) (one other : Ending) (s t : State) → other ≡ one → Near known s t → ReadsWithin known (names_read wanted) → CameAlike limits i j k l wanted (Over one s) (Over other t)
    over_alike known one other s t e near w =
        let apart = further_apart k l s.log t.log near.logs in
        same (record {
          kind = same_kind s t near.word;
          end = ap (λ (ending : Ending). Some (ending, map (get t.memory.environment) wanted)) e ∙ ap (λ (values : List (Option Text)). Some (one, values)) (same_values wanted known s t near.keys w);
          steps = near.steps;
          devices = apart;
          logs = near.logs;
        })

    settled_alike : (known : List Key) (a b : Answer) → ReadsWithin known (of_end limits wanted a) → Is known a b → Came a b
    settled_alike known (Normal s) b w (alike.same h) = subst (λ (x : Answer). Came (Normal s) x) (sym h.is) (over_alike known (End s.memory.status) (End h.there.memory.status) s h.there (ap End (h.abreast.keys Status w.0)) h.abreast w.1)
    settled_alike known (Normal s) b w (alike.cut_here h) = absurd h
    settled_alike known (Normal s) b w (alike.beyond h) = beyond h
    settled_alike known (Exit s) b w (alike.same h) = subst (λ (x : Answer). Came (Exit s) x) (sym h.is) (over_alike known (End s.memory.status) (End h.there.memory.status) s h.there (ap End (h.abreast.keys Status w.0)) h.abreast w.1)
    settled_alike known (Exit s) b w (alike.cut_here h) = absurd h
    settled_alike known (Exit s) b w (alike.beyond h) = beyond h
    settled_alike known (Ended ending s) b w (alike.same h) = subst (λ (x : Answer). Came (Ended ending s) x) (sym h.is) (over_alike known ending ending s h.there refl h.abreast w)
    settled_alike known (Ended ending s) b w (alike.cut_here h) = cut_here h
    settled_alike known (Ended ending s) b w (alike.beyond h) = beyond h
    settled_alike known (Dry s) b w (alike.same h) =
        let apart = further_apart k l s.log h.there.log h.abreast.logs in
        subst (λ (x : Answer). Came (Dry s) x) (sym h.is) (same (record {
          kind = refl;
          end = refl;
          steps = h.abreast.steps;
          devices = (let e : length k + suc (length h.there.log) ≡ length l + suc (length s.log) = omega arith in e);
          logs = h.abreast.logs;
        }))
    settled_alike known (Dry s) b w (alike.cut_here h) = absurd h
    settled_alike known (Dry s) b w (alike.beyond h) = beyond h

    pub continue_alike : (fs : List Frame) (known : List Key) (a b : Answer) → ReadsWithin known (of_frames limits wanted fs a) → Is known a b → CameAlike limits i j k l wanted (continue limits fs a) (continue limits fs b)
    continue_alike [] known a b w h = settled_alike known a b w h
    continue_alike (f ∷ fs) known a b w h =
        let here : List Access = of_frame limits f a in
        let rest : List Access = of_frames limits wanted fs (resume limits f a) in
        continue_alike fs (known_after known here) (resume limits f a) (resume limits f b) (within_then known here rest w) (resume_alike f known a b (within_first known here rest w) h)

-- ---- from two states

abbrev Abreast : Limits → List Key → State → State → State → State → Type 0
Abreast limits keys s t x y = AreAbreast limits s.steps t.steps s.log t.log keys x y

pub beside : (limits : Limits) (keys : List Key) (s t : State) (w : OutcomeWord) → AgreeOn keys s t → Abreast limits keys s t (with w s) (with w t)
beside limits keys s t w agree =
    let u : State = with s.word t in
    near_moved limits s.steps t.steps s.log t.log keys s u w (from_the_start limits keys s u (λ key h. moved_at key s t s.steps t.steps s.word s.word (agree key h)) refl)

pub frames_go_alike : FramesGoAlike
frames_go_alike limits wanted w fs keys s t within agree =
    continue_alike limits s.steps t.steps s.log t.log wanted fs keys (Normal (with w s)) (Normal (with w t)) (reads_within keys (of_frames limits wanted fs (Normal (with w s))) within)
    (normal_alike limits s.steps t.steps s.log t.log keys (with w s) (with w t) (beside limits keys s t w agree))

-- the text of the file that follows starts with the same status, if it follows
file_alike : (limits : Limits) (request : Request) (fs : List Frame) (keys : List Key) (s t : State) → AgreeOn keys s t → (w : OutcomeWord) → ReadsWithin keys (taken_accesses request w)
    → continue limits (with_file t.memory.status request.effect.runs fs) (take_outcome request w (with w t)) ≡ continue limits (with_file s.memory.status request.effect.runs fs) (take_outcome request w (with w t))
file_alike limits request fs keys s t agree [] within =
    continue-dry limits (with_file t.memory.status request.effect.runs fs) (with [] t) ∙ sym (continue-dry limits (with_file s.memory.status request.effect.runs fs) (with [] t))
file_alike limits request fs keys s t agree (d ∷ w) within =
    ap (λ (gs : List Frame). continue limits gs (take_outcome request (d ∷ w) (with (d ∷ w) t))) (by request.effect.runs within)
  where
    by : (runs : List Text) → ReadsWithin keys (handing_reads runs ++ (all_read (copied_keys request.effect.sets) ++ outcome_writes d request)) → with_file t.memory.status runs fs ≡ with_file s.memory.status runs fs
    by [] h = refl
    by (name ∷ others) h = ap (λ (n : ℕ). RunFile name others n ∷ fs) (agree Status h.0)

pub asked_alike : AskedAlike
asked_alike limits wanted w request fs keys s t within agree =
    let taken : List Access = taken_accesses request w in
    let here : Answer = take_outcome request w (with w s) in
    let there : Answer = take_outcome request w (with w t) in
    let below : List Frame = with_file s.memory.status request.effect.runs fs in
    let rest : List Access = of_frames limits wanted below here in
    let read : ReadsWithin keys (taken ++ rest) = reads_within keys (taken ++ rest) within in
    subst (λ (c : came.Came). CameAlike limits s.steps t.steps s.log t.log wanted (continue limits below here) c) (sym (file_alike limits request fs keys s t agree w (within_first keys taken rest read)))
    (continue_alike limits s.steps t.steps s.log t.log wanted below (known_after keys taken) here there (within_then keys taken rest read)
    (take_alike limits s.steps t.steps s.log t.log request w keys (with w s) (with w t) (beside limits keys s t w agree) (within_first keys taken rest read)))
