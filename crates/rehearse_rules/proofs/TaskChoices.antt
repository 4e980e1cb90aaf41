-- The words of a task are the words of a tree of choices, so the laws of outcome words hold for its runs.
use Rattle.std.proofs.Common.{ℕ, zero, suc, Bool, true, false, [], ◌∷◌, ◌++◌, length, Some, None, refl, ap, subst, ◌≡◌, ◌≢◌, ◌⊎◌, ◌↔◌, inl, inr, ◌<◌, ◌≤◌, length-append, append-nil, map, sym, ◌∙◌, arith, List, cond, filter}
use Rattle.rehearse_terms.specs.Outcomes.{OutcomeWord, Outcome, WordKind, Run, Short, Long, words, common_prefix, is_run_kind, IsChoice}
use Rattle.rehearse_rules.specs.Choosing.{turned, has_success, first_run, first_from}
use Rattle.rehearse_terms.specs.State.{State, start, Variables, asked_of}
use Rattle.rehearse_terms.specs.declared.written.Written.{Written}
use Rattle.rehearse_rules.specs.Execution.{Answer, Normal, Exit, Ended, Dry, succeeds}
use Rattle.rehearse_rules.specs.Runs.{Task, run_on, kind, kind_of, taken_kind, state_of, all_runs, runs, is_allowed, IsListed, rest}
use Rattle.rehearse_rules.proofs.TakenOutcomes.{more, answers, GoesTo, Track, Extends}
pub use Rattle.rehearse_rules.proofs.UnexpectedAnswers.{Keeps-run_on}
use Rattle.rehearse_rules.proofs.UnexpectedAnswers.{task_pruned, empty_allowed}
use Rattle.rehearse_rules.proofs.NextRunLemmas.{AreDistinct, runs_distinct, after_ends, runs_begin, none_follows, follows, none_without_success, one_with_success, no_prefix, no_longer, run_stands, part_where_asked}

abbrev IsEnd : (OutcomeWord → WordKind) → Type 0
IsEnd kinds = (kinds [] ≡ Run) × ((d : Outcome) (w : OutcomeWord) → kinds (d ∷ w) ≡ Long)

-- what a word can make of a run
record Reads (n : ℕ) (run : OutcomeWord → Answer) : Type 0 where
  extends : (w x : OutcomeWord) → Extends x (run w) (run (w ++ x))
  asked : (w : OutcomeWord) (t : State) → run w ≡ Dry t → length w < n
  root : kind_of (run []) ≢ Long

taken_end : (t : State) (u : OutcomeWord) → t.word ≡ u → taken_kind t ≢ Long → (taken_kind t ≡ Run) × ((d : Outcome) (w : OutcomeWord) → taken_kind (more (d ∷ w) t) ≡ Long)
taken_end t [] e ne = (rw e refl, λ d w. rw e refl)
taken_end t (c ∷ u) e ne = absurd (ne (rw e refl))

ends : (run : OutcomeWord → Answer) (a : Answer) → run [] ≡ a → ((x : OutcomeWord) → Extends x a (run x)) → kind_of a ≢ Long → IsEnd (λ w. kind_of (run w)) ⊎ ((t : State) × (a ≡ Dry t))
ends run (Normal t) e h ne = let k = taken_end t t.word refl ne in inl (rw e k.0, λ d w. let g = h (d ∷ w) in rw g (k.1 d w))
ends run (Exit t) e h ne = let k = taken_end t t.word refl ne in inl (rw e k.0, λ d w. let g = h (d ∷ w) in rw g (k.1 d w))
ends run (Ended ending t) e h ne = let k = taken_end t t.word refl ne in inl (rw e k.0, λ d w. let g = h (d ∷ w) in rw g (k.1 d w))
ends run (Dry t) e h ne = inr (t, refl)

not_long : (u : OutcomeWord) (t : State) → t.word ≡ u → length t.word < 1 → taken_kind t ≢ Long
not_long [] t e h k = let r : taken_kind t ≡ Run = rw e refl in cc
not_long (c ∷ u) t e h k = absurd (let l = ap length e in omega arith)

none_left : (a : Answer) → length (state_of a).word < 1 → kind_of a ≢ Long
none_left (Normal t) h = not_long t.word t refl h
none_left (Exit t) h = not_long t.word t refl h
none_left (Ended ending t) h = not_long t.word t refl h
none_left (Dry t) h = λ k. cc

beyond_dry : (n : ℕ) (run : OutcomeWord → Answer) (t : State) (d : Outcome) → Reads (suc n) run → run [] ≡ Dry t → Reads n (λ w. run (d ∷ w))
beyond_dry n run t d r e = record {
  extends = λ w x. r.extends (d ∷ w) x;
  asked = λ w u h. let k = r.asked (d ∷ w) u h in omega arith;
  root = none_left (run (d ∷ [])) (let x = r.extends [] (d ∷ []) in let y : Extends (d ∷ []) (Dry t) (run (d ∷ [])) = subst (λ (a : Answer). Extends (d ∷ []) a (run (d ∷ []))) e x in y.0 (λ k. cc));
}

choice_of : (n : ℕ) (run : OutcomeWord → Answer) → Reads n run → IsChoice n (λ w. kind_of (run w))
choice_of zero run r = elim (ends run (run []) refl (λ x. r.extends [] x) r.root) [ inl e ↦ e | inr d ↦ absurd (let k = r.asked [] d.0 d.1 in omega arith) ]
choice_of (suc n) run r = elim (ends run (run []) refl (λ x. r.extends [] x) r.root) [ inl e ↦ inl e | inr d ↦ inr (ap kind_of d.1, λ o. choice_of n (λ w. run (o ∷ w)) (beyond_dry n run d.0 o r d.1)) ]

dry_bound : (bound : ℕ) (written : Written) (environment : Variables) (w : OutcomeWord) (a : Answer) (t : State) → a ≡ Dry t → Track bound (start written environment w) a → length w < bound
dry_bound bound written environment w a t e k =
    let h : Track bound (start written environment w) (Dry t) = subst (λ (b : Answer). Track bound (start written environment w) b) e k in
    let l = ap length h.0.word in
    let m = length-append h.0.taken t.word in
    let g = h.0.log in
    let z = ap length h.1 in
    let room = h.2 in
    omega arith

begins : (bound : ℕ) (written : Written) (environment : Variables) (a : Answer) → Track bound (start written environment []) a → length (state_of a).word < 1
begins bound written environment (Normal t) h = let l = ap length h.word in let m = length-append h.taken t.word in omega arith
begins bound written environment (Exit t) h = let l = ap length h.word in let m = length-append h.taken t.word in omega arith
begins bound written environment (Ended ending t) h = let l = ap length h.word in let m = length-append h.taken t.word in omega arith
begins bound written environment (Dry t) h = let l = ap length h.0.word in let m = length-append h.0.taken t.word in omega arith

task_reads : (task : Task) → Reads task.limits.device_bound (run_on task)
task_reads task = record {
  extends = λ w x. (Keeps-run_on task (start task.written task.environment w)).1 x;
  asked = λ w t e. dry_bound task.limits.device_bound task.written task.environment w (run_on task w) t e (Keeps-run_on task (start task.written task.environment w)).0;
  root = none_left (run_on task []) (begins task.limits.device_bound task.written task.environment (run_on task []) (Keeps-run_on task (start task.written task.environment [])).0);
}

-- a command that is asked is below the device bound
pub dry_within : (task : Task) (p : OutcomeWord) (t : State) → run_on task p ≡ Dry t → length p < task.limits.device_bound
dry_within task p t e = dry_bound task.limits.device_bound task.written task.environment p (run_on task p) t e (Keeps-run_on task (start task.written task.environment p)).0

pub task_chooses : (task : Task) → IsChoice task.limits.device_bound (kind task)
task_chooses task = choice_of task.limits.device_bound (run_on task) (task_reads task)

-- the laws, for the runs of a task
module _ (task : Task) where
  pub task_distinct : AreDistinct (runs task)
  task_distinct = runs_distinct (is_allowed task) (kind task) task.limits.device_bound

  pub task_begins : runs task ≡ first_run (is_allowed task) (kind task) task.limits.device_bound ∷ rest task (first_run (is_allowed task) (kind task) task.limits.device_bound)
  task_begins = runs_begin (is_allowed task) (kind task) task.limits.device_bound (task_chooses task) (task_pruned task) (empty_allowed task)

  pub task_ends : (u : OutcomeWord) → IsListed task u → turned (is_allowed task) u ≡ None → rest task u ≡ []
  task_ends u h e = none_follows (is_allowed task) (kind task) task.limits.device_bound (task_chooses task) (task_pruned task) u h.run h.few e

  pub task_goes_on : (u p : OutcomeWord) → IsListed task u → turned (is_allowed task) u ≡ Some p → let v = first_from (is_allowed task) (kind task) task.limits.device_bound p in rest task u ≡ v ∷ rest task v
  task_goes_on u p h e = follows (is_allowed task) (kind task) task.limits.device_bound (task_chooses task) (task_pruned task) u p h.run h.few e

pub no_run_begins_another : (task : Task) (u : OutcomeWord) (d : Outcome) (v : OutcomeWord) → kind task u ≡ Run → kind task (u ++ d ∷ v) ≢ Run
no_run_begins_another task u d v r h = let l = no_prefix (kind task) task.limits.device_bound (task_chooses task) u d v r in cc

pub longer_is_long : (task : Task) (u : OutcomeWord) (d : Outcome) (v : OutcomeWord) → kind task u ≡ Run → kind task (u ++ d ∷ v) ≡ Long
longer_is_long task u d v r = no_prefix (kind task) task.limits.device_bound (task_chooses task) u d v r

pub no_run_is_longer : (task : Task) (u : OutcomeWord) → kind task u ≡ Run → length u ≤ task.limits.device_bound
no_run_is_longer task u r = no_longer (kind task) task.limits.device_bound (task_chooses task) u r

pub runs_are_there : (task : Task) → runs task ≢ []
runs_are_there task e = let b = task_begins task in cc

pub another_follows : (task : Task) (u : OutcomeWord) → IsListed task u → (rest task u ≢ []) ↔ (has_success (is_allowed task) u ≡ true)
another_follows task u h = (
  λ ne. some_success (has_success (is_allowed task) u) refl (λ e. ne (none_without_success (is_allowed task) (kind task) task.limits.device_bound (task_chooses task) (task_pruned task) u h.run h.few e)),
  λ e. one_with_success (is_allowed task) (kind task) task.limits.device_bound (task_chooses task) (task_pruned task) u h.run h.few e,
)
  where
    some_success : (b : Bool) → has_success (is_allowed task) u ≡ b → (has_success (is_allowed task) u ≡ false → ⊥) → has_success (is_allowed task) u ≡ true
    some_success true e n = e
    some_success false e n = absurd (n e)

pub task_stands : (task : Task) (u : OutcomeWord) → IsListed task u → (front : List OutcomeWord) × (runs task ≡ front ++ u ∷ rest task u)
task_stands task u h = run_stands (is_allowed task) (kind task) task.limits.device_bound (task_chooses task) (task_pruned task) u h.run h.few

-- what a filter keeps passes its test
pub passes_run : (k : WordKind) → is_run_kind k ≡ true → k ≡ Run
passes_run Run e = refl
passes_run Short e = absurd (let f = e in cc)
passes_run Long e = absurd (let f = e in cc)

-- each of these words passes the test
abbrev pub AllPass : (OutcomeWord → Bool) → List OutcomeWord → Type 0
AllPass p [] = Unit {0}
AllPass p (w ∷ ws) = (p w ≡ true) × AllPass p ws

pass_if : (p : OutcomeWord → Bool) (w : OutcomeWord) (b : Bool) (ws : List OutcomeWord) → p w ≡ b → AllPass p ws → AllPass p (cond b (w ∷ ws) ws)
pass_if p w true ws e h = (e, h)
pass_if p w false ws e h = h

all_pass : (p : OutcomeWord → Bool) (ws : List OutcomeWord) → AllPass p (filter p ws)
all_pass p [] = tt
all_pass p (w ∷ ws) = pass_if p w (p w) (filter p ws) refl (all_pass p ws)

still_if : (p : OutcomeWord → Bool) (w : OutcomeWord) (b : Bool) (ws : List OutcomeWord) → p w ≡ true → AllPass p ws → AllPass p (cond b (w ∷ ws) ws)
still_if p w true ws e h = (e, h)
still_if p w false ws e h = h

-- the same after one more filter
still_pass : (p q : OutcomeWord → Bool) (ws : List OutcomeWord) → AllPass p ws → AllPass p (filter q ws)
still_pass p q [] h = tt
still_pass p q (w ∷ ws) h = still_if p w (q w) (filter q ws) h.0 (still_pass p q ws h.1)

passes_at : (p : OutcomeWord → Bool) (w : OutcomeWord) (front behind : List OutcomeWord) → AllPass p (front ++ w ∷ behind) → p w ≡ true
passes_at p w [] behind h = h.0
passes_at p w (v ∷ front) behind h = passes_at p w front behind h.1

pub runs_are_runs : (task : Task) (w : OutcomeWord) (front behind : List OutcomeWord) → runs task ≡ front ++ w ∷ behind → IsListed task w
runs_are_runs task w front behind e = record {
  run = passes_run (kind task w) (passes_at (λ v. is_run_kind (kind task v)) w front behind (subst (AllPass (λ v. is_run_kind (kind task v))) e (still_pass (λ v. is_run_kind (kind task v)) (is_allowed task) (all_runs task) (all_pass (λ v. is_run_kind (kind task v)) (words task.limits.device_bound)))));
  few = passes_at (is_allowed task) w front behind (subst (AllPass (is_allowed task)) e (all_pass (is_allowed task) (all_runs task)));
}

pub rest_is_listed : (task : Task) (u w : OutcomeWord) (behind : List OutcomeWord) → rest task u ≡ w ∷ behind → IsListed task w
rest_is_listed task u w behind e =
    let f = after_ends u (runs task) in
    runs_are_runs task w f.0 behind (f.1 ∙ ap (λ (ws : List OutcomeWord). f.0 ++ ws) e)

-- the outcomes in the log of a run are its word
taken_all : (t : State) (u : OutcomeWord) → t.word ≡ u → taken_kind t ≡ Run → t.word ≡ []
taken_all t [] e k = e
taken_all t (c ∷ u) e k = absurd (let r : taken_kind t ≡ Long = rw e refl in cc)

word_log : (written : Written) (environment : Variables) (w : OutcomeWord) (t : State) → GoesTo (start written environment w) t → t.word ≡ [] → answers t.log ≡ map succeeds w
word_log written environment w t g e = g.outcomes ∙ ap (map succeeds) (sym (g.word ∙ ap (λ (x : OutcomeWord). g.taken ++ x) e ∙ append-nil g.taken))

log_of : (bound : ℕ) (written : Written) (environment : Variables) (w : OutcomeWord) (a : Answer) → Track bound (start written environment w) a → kind_of a ≡ Run → answers (state_of a).log ≡ map succeeds w
log_of bound written environment w (Normal t) h e = word_log written environment w t h (taken_all t t.word refl e)
log_of bound written environment w (Exit t) h e = word_log written environment w t h (taken_all t t.word refl e)
log_of bound written environment w (Ended ending t) h e = word_log written environment w t h (taken_all t t.word refl e)
log_of bound written environment w (Dry t) h e = absurd (let f = e in cc)

pub log_is_word : (task : Task) (w : OutcomeWord) → kind task w ≡ Run → map (λ e. e.success) (asked_of (state_of (run_on task w)).log) ≡ map succeeds w
log_is_word task w e = log_of task.limits.device_bound task.written task.environment w (run_on task w) (Keeps-run_on task (start task.written task.environment w)).0 e

pub runs_part_where_asked : (task : Task) (u v : OutcomeWord) → kind task u ≡ Run → kind task v ≡ Run → u ≢ v → kind task (common_prefix u v) ≡ Short
runs_part_where_asked task u v r q ne = part_where_asked (kind task) task.limits.device_bound (task_chooses task) u v r q ne

asked_at : (bound : ℕ) (written : Written) (environment : Variables) (w : OutcomeWord) (a : Answer) (t : State) → a ≡ Dry t → Track bound (start written environment w) a → (length t.log < bound) × (t.word ≡ [])
asked_at bound written environment w a t e k =
    let h : Track bound (start written environment w) (Dry t) = subst (λ (b : Answer). Track bound (start written environment w) b) e k in
    (h.2, h.1)

pub asked_below_bound : (task : Task) (w : OutcomeWord) (s : State) → run_on task w ≡ Dry s → (length s.log < task.limits.device_bound) × (s.word ≡ [])
asked_below_bound task w s e = asked_at task.limits.device_bound task.written task.environment w (run_on task w) s e (Keeps-run_on task (start task.written task.environment w)).0
