-- A script reads its word only by the outcomes that it takes.
use Rattle.std.proofs.Common.{ℕ, zero, suc, Bool, true, false, not, cond, List, [], ◌∷◌, ◌++◌, length, Option, Some, None, refl, sym, ap, subst, ◌∙◌, ◌≡◌, ◌≢◌, ◌<◌, ◌≤◌, map, append_assoc, append-nil, length-append, arith, ◌+◌, nat_lt, nat_le, nat_eq, ltb-true}
use Rattle.std.proofs.lemmas.List.{map-append}
use Rattle.std.proofs.lemmas.List.Elements.{filter-append}
use Rattle.device_list.specs.declared.finish.BoardEnd.{BoardEnd}
use Rattle.rehearse_terms.specs.Outcomes.{OutcomeWord, Outcome, Success, Failure}
use Rattle.hushlang.specs.Tree as tree
use Rattle.hushlang.specs.Tree.{Script, AndOr, Joined, Command, Arms}
use Rattle.rehearse_terms.specs.State.{Text, get, Memory, State, LoggedCommand, asked_of}
use Rattle.rehearse_rules.specs.Parameters.{parameters_in}
use Rattle.hushlang.specs.Expansion.{size, most_bytes}
use Rattle.hushlang_shells.specs.TreesByShell.{TextRead, Runs, Fails, Panics, Unread, first_in, started_in, sourced_in}
use Rattle.device_list.specs.DeviceList.{file_in}
use Rattle.device_list.specs.Called.{Called, BuiltIn, Device, NoCommand, called_by, sets_in}
use Rattle.commands.specs.BuiltInCommands.{ChangesVariables, WritesText, RunsTexts, Tests, Exits, variables_changed, text_written}
use Rattle.rehearse_rules.specs.ByShell.{call_in, unread, leaves_in, status_of_exit, asks_in, truth_in, fields_in, turns_in, skips_rest, status_of_nothing, status_of_no_block, status_of_loop, follows, assigned_in, reads_again, status_of_text, follows_turns, status_of_for, status_of_skipped, left_status}
use Rattle.rehearse_rules.specs.Execution.{Limits, Answer, Normal, Exit, Ended, Dry, Ending, CutDevices, CutSteps, Unknown, Size, go_on, remember, set_status, status_when, goes, holds, begin, take_outcome, with_outcome, outcome_when, told, told_again, tell_or_take, device, Request, logged, set_environment, finish, text_end, run_read, run_text, run_all, command, simple_call, simple, sized, assign, turns, begin_turn, for_each, exec_script, exec_list, exec_joined, exec_command, exec_arms, exec, succeeds, Unsupported, Panic, assign_local, request_of, test_request, started_text, text_failed, turns_of, for_words, for_begun, block_skipped, compound, compound_end, compound_left, run_file, choice_text, chosen, run_one, file_follows, handed_over, sourced, left_to_prompt, sourced_text}
use Rattle.rehearse_rules.specs.Needs.{effect_now}
use Rattle.rehearse_rules.specs.Expected.{Answered, asked_in}
use Rattle.rehearse_terms.specs.declared.shell.Shell.{Shell}
use Rattle.rehearse_terms.specs.declared.shell.Shell.TheVariants.{Profile, Old2023, Old2025, Modern2025}
use Rattle.rehearse_rules.specs.Runs.{state_of}

-- the state with these outcomes after its own
abbrev pub more : OutcomeWord → State → State
more x s = record s { word = s.word ++ x }

-- the outcomes in a log
abbrev pub answers : List LoggedCommand → List Bool
answers log = map (λ e. e.success) (asked_of log)

-- one more command took an outcome
answers-asked : (log : List LoggedCommand) (e : LoggedCommand) → e.again ≡ false → answers (log ++ e ∷ []) ≡ answers log ++ e.success ∷ []
answers-asked log e is =
    let one : asked_of (e ∷ []) ≡ e ∷ [] = ap (λ (b : Bool). cond (not b) (e ∷ []) []) is in
    ap (map (λ e. e.success)) (filter-append (λ e. not e.again) log (e ∷ []) ∙ ap (λ (es : List LoggedCommand). asked_of log ++ es) one)
    ∙ map-append (λ e. e.success) (asked_of log) (e ∷ [])

-- or was given an answer again
answers-again : (log : List LoggedCommand) (e : LoggedCommand) → e.again ≡ true → answers (log ++ e ∷ []) ≡ answers log
answers-again log e is =
    let none : asked_of (e ∷ []) ≡ [] = ap (λ (b : Bool). cond (not b) (e ∷ []) []) is in
    ap (map (λ e. e.success)) (filter-append (λ e. not e.again) log (e ∷ []) ∙ ap (λ (es : List LoggedCommand). asked_of log ++ es) none ∙ append-nil (asked_of log))

-- and with its words
pub asked_one : (log : List LoggedCommand) (e : LoggedCommand) → e.again ≡ false → asked_in (log ++ e ∷ []) ≡ asked_in log ++ (e.success, e.words) ∷ []
asked_one log e is =
    let one : asked_of (e ∷ []) ≡ e ∷ [] = ap (λ (b : Bool). cond (not b) (e ∷ []) []) is in
    ap (map (λ e. (e.success, e.words))) (filter-append (λ e. not e.again) log (e ∷ []) ∙ ap (λ (es : List LoggedCommand). asked_of log ++ es) one)
    ∙ map-append (λ e. (e.success, e.words)) (asked_of log) (e ∷ [])

asked_none : (log : List LoggedCommand) (e : LoggedCommand) → e.again ≡ true → asked_in (log ++ e ∷ []) ≡ asked_in log
asked_none log e is =
    let none : asked_of (e ∷ []) ≡ [] = ap (λ (b : Bool). cond (not b) (e ∷ []) []) is in
    ap (map (λ e. (e.success, e.words))) (filter-append (λ e. not e.again) log (e ∷ []) ∙ ap (λ (es : List LoggedCommand). asked_of log ++ es) none ∙ append-nil (asked_of log))

-- s went on to t
pub record GoesTo (s t : State) : Type 0 where
  pub taken : OutcomeWord
  pub word : s.word ≡ taken ++ t.word
  pub log : length s.log + length taken ≤ length t.log
  pub outcomes : answers t.log ≡ answers s.log ++ map succeeds taken
  pub further : List Answered
  pub grows : asked_in t.log ≡ asked_in s.log ++ further
  pub steps : s.steps ≤ t.steps

abbrev pub Track : ℕ → State → Answer → Type 0
Track bound s (Normal t) = GoesTo s t
Track bound s (Exit t) = GoesTo s t
Track bound s (Ended ending t) = GoesTo s t
Track bound s (Dry t) = GoesTo s t × (t.word ≡ []) × (length t.log < bound)

-- what an answer becomes if x is added after the word: no fewer steps are begun
abbrev pub Extends : OutcomeWord → Answer → Answer → Type 0
Extends x (Normal t) b = b ≡ Normal (more x t)
Extends x (Exit t) b = b ≡ Exit (more x t)
Extends x (Ended ending t) b = b ≡ Ended ending (more x t)
Extends x (Dry t) b = (x ≢ [] → length (state_of b).word < length x) × (t.steps ≤ (state_of b).steps)

-- a device command with these words had this outcome after a log
pub record HasAnswered (call : List Text) (d : Outcome) (log later : List LoggedCommand) : Type 0 where
  pub further : List Answered
  pub grows : asked_in later ≡ asked_in log ++ (succeeds d, call) ∷ further

-- if a device command asks, it has the same words whatever outcomes come
abbrev pub AsksOne : (run : OutcomeWord → Answer) → Answer → Type 0
AsksOne run (Normal t) = Unit {0}
AsksOne run (Exit t) = Unit {0}
AsksOne run (Ended ending t) = Unit {0}
AsksOne run (Dry t) = (call : List Text) × ((d : Outcome) (x : OutcomeWord) → HasAnswered call d t.log (state_of (run (d ∷ x))).log)

-- what holds for a part of a script at a state
abbrev pub Keeps : ℕ → State → (State → Answer) → Type 0
Keeps bound s f = Track bound s (f s) × ((x : OutcomeWord) → Extends x (f s) (f (more x s))) × AsksOne (λ x. f (more x s)) (f s)

pub stays : (s : State) → GoesTo s s
stays s = record { taken = []; word = refl; log = omega arith; outcomes = sym (append-nil (answers s.log)); further = []; grows = sym (append-nil (asked_in s.log)); steps = omega arith }

remembers : (s : State) (change : Memory → Memory) → GoesTo s (remember change s)
remembers s change = record { taken = []; word = refl; log = omega arith; outcomes = sym (append-nil (answers s.log)); further = []; grows = sym (append-nil (asked_in s.log)); steps = omega arith }

joined_outcomes : (a b c : List LoggedCommand) (v w : OutcomeWord) → answers b ≡ answers a ++ map succeeds v → answers c ≡ answers b ++ map succeeds w → answers c ≡ answers a ++ map succeeds (v ++ w)
joined_outcomes a b c v w e f = f ∙ ap (λ (l : List Bool). l ++ map succeeds w) e ∙ append_assoc (answers a) (map succeeds v) (map succeeds w) ∙ ap (λ (l : List Bool). answers a ++ l) (sym (map-append succeeds v w))

pub GoesTo-trans : (s t u : State) → GoesTo s t → GoesTo t u → GoesTo s u
GoesTo-trans s t u g h = record { taken = g.taken ++ h.taken; word = g.word ∙ ap (λ (w : OutcomeWord). g.taken ++ w) h.word ∙ sym (append_assoc g.taken h.taken u.word); outcomes = joined_outcomes s.log t.log u.log g.taken h.taken g.outcomes h.outcomes; further = g.further ++ h.further; grows = h.grows ∙ ap (λ (l : List Answered). l ++ h.further) g.grows ∙ append_assoc (asked_in s.log) g.further h.further; log = let l = g.log in let k = h.log in let e = length-append g.taken h.taken in omega arith; steps = let l = g.steps in let k = h.steps in omega arith }

pub Track-of : (bound : ℕ) (s : State) (a : Answer) → Track bound s a → GoesTo s (state_of a)
Track-of bound s (Normal t) h = h
Track-of bound s (Exit t) h = h
Track-of bound s (Ended ending t) h = h
Track-of bound s (Dry t) h = h.0

pub Track-after : (bound : ℕ) (s t : State) (a : Answer) → GoesTo s t → Track bound t a → Track bound s a
Track-after bound s t (Normal u) g h = GoesTo-trans s t u g h
Track-after bound s t (Exit u) g h = GoesTo-trans s t u g h
Track-after bound s t (Ended ending u) g h = GoesTo-trans s t u g h
Track-after bound s t (Dry u) g h = (GoesTo-trans s t u g h.0, h.1, h.2)

-- no outcome is given back
pub no_more : (s t : State) → GoesTo s t → length t.word ≤ length s.word
no_more s t g = let e = ap length g.word in let k = length-append g.taken t.word in omega arith

-- ---- what a device command that asks has in the log

pub answered_on : (call : List Text) (d : Outcome) (log : List LoggedCommand) (s t : State) → GoesTo s t → HasAnswered call d log s.log → HasAnswered call d log t.log
answered_on call d log s t g h = record {
  further = h.further ++ g.further;
  grows = g.grows ∙ ap (λ (l : List Answered). l ++ g.further) h.grows ∙ append_assoc (asked_in log) ((succeeds d, call) ∷ h.further) g.further;
}

asks_same : (run other : OutcomeWord → Answer) (a : Answer) → ((x : OutcomeWord) → other x ≡ run x) → AsksOne run a → AsksOne other a
asks_same run other (Normal t) e h = tt
asks_same run other (Exit t) e h = tt
asks_same run other (Ended ending t) e h = tt
asks_same run other (Dry t) e h = (h.0, λ d x. subst (λ (a : Answer). HasAnswered h.0 d t.log (state_of a).log) (sym (e (d ∷ x))) (h.1 d x))

module _ (bound : ℕ) where
  go_on-track : (s : State) (a : Answer) (g : State → Answer) → Track bound s a → ((t : State) → Keeps bound t g) → Track bound s (go_on a g)
  go_on-track s (Normal t) g h k = Track-after bound s t (g t) h (k t).0
  go_on-track s (Exit t) g h k = h
  go_on-track s (Ended ending t) g h k = h
  go_on-track s (Dry t) g h k = h

  -- less is left after more is done
  go_on-less : (x : OutcomeWord) (b : Answer) (g : State → Answer) → ((t : State) → Keeps bound t g) → length (state_of b).word < length x → length (state_of (go_on b g)).word < length x
  go_on-less x (Normal t) g k h = let n = no_more t (state_of (g t)) (Track-of bound t (g t) (k t).0) in omega arith
  go_on-less x (Exit t) g k h = h
  go_on-less x (Ended ending t) g k h = h
  go_on-less x (Dry t) g k h = h

  -- and no fewer steps are begun
  go_on-later : (n : ℕ) (b : Answer) (g : State → Answer) → ((t : State) → Keeps bound t g) → n ≤ (state_of b).steps → n ≤ (state_of (go_on b g)).steps
  go_on-later n (Normal t) g k h = let e = (Track-of bound t (g t) (k t).0).steps in omega arith
  go_on-later n (Exit t) g k h = h
  go_on-later n (Ended ending t) g k h = h
  go_on-later n (Dry t) g k h = h

  go_on-extends : (x : OutcomeWord) (a b : Answer) (g : State → Answer) → ((t : State) → Keeps bound t g) → Extends x a b → Extends x (go_on a g) (go_on b g)
  go_on-extends x (Normal t) b g k h = rw h ((k t).1 x)
  go_on-extends x (Exit t) b g k h = rw h refl
  go_on-extends x (Ended ending t) b g k h = rw h refl
  go_on-extends x (Dry t) b g k h = (λ ne. go_on-less x b g k (h.0 ne), go_on-later t.steps b g k h.1)

  pub go_on-answered : (call : List Text) (d : Outcome) (log : List LoggedCommand) (b : Answer) (g : State → Answer) → ((t : State) → Keeps bound t g) → HasAnswered call d log (state_of b).log → HasAnswered call d log (state_of (go_on b g)).log
  go_on-answered call d log (Normal t) g k h = answered_on call d log t (state_of (g t)) (Track-of bound t (g t) (k t).0) h
  go_on-answered call d log (Exit t) g k h = h
  go_on-answered call d log (Ended ending t) g k h = h
  go_on-answered call d log (Dry t) g k h = h

  go_on-asks : (run : OutcomeWord → Answer) (a : Answer) (g : State → Answer) → ((t : State) → Keeps bound t g) → ((x : OutcomeWord) → Extends x a (run x)) → AsksOne run a → AsksOne (λ x. go_on (run x) g) (go_on a g)
  go_on-asks run (Normal t) g k e h = asks_same (λ x. g (more x t)) (λ x. go_on (run x) g) (g t) (λ x. ap (λ (b : Answer). go_on b g) (e x)) (k t).2
  go_on-asks run (Exit t) g k e h = tt
  go_on-asks run (Ended ending t) g k e h = tt
  go_on-asks run (Dry t) g k e h = (h.0, λ d x. go_on-answered h.0 d t.log (run (d ∷ x)) g k (h.1 d x))

  pub Keeps-go_on : (s : State) (f g : State → Answer) → Keeps bound s f → ((t : State) → Keeps bound t g) → Keeps bound s (λ t. go_on (f t) g)
  Keeps-go_on s f g h k = (go_on-track s (f s) g h.0 k, λ x. go_on-extends x (f s) (f (more x s)) g k (h.1 x), go_on-asks (λ x. f (more x s)) (f s) g k h.1 h.2)

  pub Keeps-normal : (s : State) (change : Memory → Memory) → Keeps bound s (λ t. Normal (remember change t))
  Keeps-normal s change = (remembers s change, λ x. refl, tt)

  pub Keeps-exit : (s : State) (change : Memory → Memory) → Keeps bound s (λ t. Exit (remember change t))
  Keeps-exit s change = (remembers s change, λ x. refl, tt)

  pub Keeps-ended : (s : State) (ending : Ending) → Keeps bound s (Ended ending)
  Keeps-ended s ending = (stays s, λ x. refl, tt)

  pub Keeps-if : (s : State) (b : Bool) (f g : State → Answer) → Keeps bound s f → Keeps bound s g → Keeps bound s (λ t. elim b [ true ↦ f t | false ↦ g t ])
  Keeps-if s true f g h k = h
  Keeps-if s false f g h k = k

  pub Keeps-remember : (s : State) (change : Memory → Memory) (f : State → Answer) → Keeps bound (remember change s) f → Keeps bound s (λ t. f (remember change t))
  Keeps-remember s change f h = (Track-after bound s (remember change s) (f (remember change s)) (remembers s change) h.0, h.1, h.2)

  pub Keeps-stays : (s : State) → Keeps bound s Normal
  Keeps-stays s = (stays s, λ x. refl, tt)

  counts : (s : State) → GoesTo s (record s { steps = suc s.steps })
  counts s = record { taken = []; word = refl; log = omega arith; outcomes = sym (append-nil (answers s.log)); further = []; grows = sym (append-nil (asked_in s.log)); steps = omega arith }

  pub Keeps-counted : (s : State) (f : State → Answer) → Keeps bound (record s { steps = suc s.steps }) f → Keeps bound s (λ t. f (record t { steps = suc t.steps }))
  Keeps-counted s f h = (Track-after bound s (record s { steps = suc s.steps }) (f (record s { steps = suc s.steps })) (counts s) h.0, h.1, h.2)

  -- a text that ended
  pub Keeps-failed : (shell : Shell) (t : State) → Keeps bound t (λ u. Normal (text_failed shell u))
  Keeps-failed shell t = Keeps-normal t (λ m. record m { status = status_of_text shell m.status })

  text_end-track : (shell : Shell) (s : State) (a : Answer) (g : State → Answer) → Track bound s a → ((t : State) → Keeps bound t g) → Track bound s (text_end shell a g)
  text_end-track shell s (Normal t) g h k = Track-after bound s t (elim (nat_eq t.memory.status 0) [ true ↦ g t | false ↦ Normal (text_failed shell t) ]) h (Keeps-if t (nat_eq t.memory.status 0) g (λ u. Normal (text_failed shell u)) (k t) (Keeps-failed shell t)).0
  text_end-track shell s (Exit t) g h k = Track-after bound s t (elim (nat_eq t.memory.status 0) [ true ↦ g t | false ↦ Normal t ]) h (Keeps-if t (nat_eq t.memory.status 0) g Normal (k t) (Keeps-stays t)).0
  text_end-track shell s (Ended ending t) g h k = h
  text_end-track shell s (Dry t) g h k = h

  text_end-less : (shell : Shell) (x : OutcomeWord) (b : Answer) (g : State → Answer) → ((t : State) → Keeps bound t g) → length (state_of b).word < length x → length (state_of (text_end shell b g)).word < length x
  text_end-less shell x (Normal t) g k h = let e = Keeps-if t (nat_eq t.memory.status 0) g (λ u. Normal (text_failed shell u)) (k t) (Keeps-failed shell t) in let a : Answer = elim (nat_eq t.memory.status 0) [ true ↦ g t | false ↦ Normal (text_failed shell t) ] in let n = no_more t (state_of a) (Track-of bound t a e.0) in omega arith
  text_end-less shell x (Exit t) g k h = let e = Keeps-if t (nat_eq t.memory.status 0) g Normal (k t) (Keeps-stays t) in let a : Answer = elim (nat_eq t.memory.status 0) [ true ↦ g t | false ↦ Normal t ] in let n = no_more t (state_of a) (Track-of bound t a e.0) in omega arith
  text_end-less shell x (Ended ending t) g k h = h
  text_end-less shell x (Dry t) g k h = h

  text_end-later : (shell : Shell) (n : ℕ) (b : Answer) (g : State → Answer) → ((t : State) → Keeps bound t g) → n ≤ (state_of b).steps → n ≤ (state_of (text_end shell b g)).steps
  text_end-later shell n (Normal t) g k h = let e = Keeps-if t (nat_eq t.memory.status 0) g (λ u. Normal (text_failed shell u)) (k t) (Keeps-failed shell t) in let a : Answer = elim (nat_eq t.memory.status 0) [ true ↦ g t | false ↦ Normal (text_failed shell t) ] in let l = (Track-of bound t a e.0).steps in omega arith
  text_end-later shell n (Exit t) g k h = let e = Keeps-if t (nat_eq t.memory.status 0) g Normal (k t) (Keeps-stays t) in let a : Answer = elim (nat_eq t.memory.status 0) [ true ↦ g t | false ↦ Normal t ] in let l = (Track-of bound t a e.0).steps in omega arith
  text_end-later shell n (Ended ending t) g k h = h
  text_end-later shell n (Dry t) g k h = h

  text_end-extends : (shell : Shell) (x : OutcomeWord) (a b : Answer) (g : State → Answer) → ((t : State) → Keeps bound t g) → Extends x a b → Extends x (text_end shell a g) (text_end shell b g)
  text_end-extends shell x (Normal t) b g k h = rw h ((Keeps-if t (nat_eq t.memory.status 0) g (λ u. Normal (text_failed shell u)) (k t) (Keeps-failed shell t)).1 x)
  text_end-extends shell x (Exit t) b g k h = rw h ((Keeps-if t (nat_eq t.memory.status 0) g Normal (k t) (Keeps-stays t)).1 x)
  text_end-extends shell x (Ended ending t) b g k h = rw h refl
  text_end-extends shell x (Dry t) b g k h = (λ ne. text_end-less shell x b g k (h.0 ne), text_end-later shell t.steps b g k h.1)

  -- what follows a text that has ended, also by `exit`
  after_text-keeps : (shell : Shell) (t : State) (g : State → Answer) → ((u : State) → Keeps bound u g) → Keeps bound t (λ u. elim (nat_eq u.memory.status 0) [ true ↦ g u | false ↦ Normal (text_failed shell u) ])
  after_text-keeps shell t g k = Keeps-if t (nat_eq t.memory.status 0) g (λ u. Normal (text_failed shell u)) (k t) (Keeps-failed shell t)

  after_exit-keeps : (t : State) (g : State → Answer) → ((u : State) → Keeps bound u g) → Keeps bound t (λ u. elim (nat_eq u.memory.status 0) [ true ↦ g u | false ↦ Normal u ])
  after_exit-keeps t g k = Keeps-if t (nat_eq t.memory.status 0) g Normal (k t) (Keeps-stays t)

  pub text_end-answered : (shell : Shell) (call : List Text) (d : Outcome) (log : List LoggedCommand) (b : Answer) (g : State → Answer) → ((t : State) → Keeps bound t g) → HasAnswered call d log (state_of b).log → HasAnswered call d log (state_of (text_end shell b g)).log
  text_end-answered shell call d log (Normal t) g k h = let a : Answer = text_end shell (Normal t) g in answered_on call d log t (state_of a) (Track-of bound t a (after_text-keeps shell t g k).0) h
  text_end-answered shell call d log (Exit t) g k h = let a : Answer = text_end shell (Exit t) g in answered_on call d log t (state_of a) (Track-of bound t a (after_exit-keeps t g k).0) h
  text_end-answered shell call d log (Ended ending t) g k h = h
  text_end-answered shell call d log (Dry t) g k h = h

  text_end-asks : (shell : Shell) (run : OutcomeWord → Answer) (a : Answer) (g : State → Answer) → ((t : State) → Keeps bound t g) → ((x : OutcomeWord) → Extends x a (run x)) → AsksOne run a → AsksOne (λ x. text_end shell (run x) g) (text_end shell a g)
  text_end-asks shell run (Normal t) g k e h = asks_same (λ x. text_end shell (Normal (more x t)) g) (λ x. text_end shell (run x) g) (text_end shell (Normal t) g) (λ x. ap (λ (b : Answer). text_end shell b g) (e x)) (after_text-keeps shell t g k).2
  text_end-asks shell run (Exit t) g k e h = asks_same (λ x. text_end shell (Exit (more x t)) g) (λ x. text_end shell (run x) g) (text_end shell (Exit t) g) (λ x. ap (λ (b : Answer). text_end shell b g) (e x)) (after_exit-keeps t g k).2
  text_end-asks shell run (Ended ending t) g k e h = tt
  text_end-asks shell run (Dry t) g k e h = (h.0, λ d x. text_end-answered shell h.0 d t.log (run (d ∷ x)) g k (h.1 d x))

  -- a compound command that `exit` has left
  left_goes : (s t : State) → GoesTo s t → GoesTo s (compound_left t)
  left_goes s t g = GoesTo-trans s t (compound_left t) g (remembers t (λ m. record m { status = left_status m.status }))

  compound-track : (s : State) (a : Answer) → Track bound s a → Track bound s (compound_end a)
  compound-track s (Normal t) h = h
  compound-track s (Exit t) h = left_goes s t h
  compound-track s (Ended ending t) h = h
  compound-track s (Dry t) h = h

  compound-word : (a : Answer) → (state_of (compound_end a)).word ≡ (state_of a).word
  compound-word (Normal t) = refl
  compound-word (Exit t) = refl
  compound-word (Ended ending t) = refl
  compound-word (Dry t) = refl

  compound-steps : (a : Answer) → (state_of (compound_end a)).steps ≡ (state_of a).steps
  compound-steps (Normal t) = refl
  compound-steps (Exit t) = refl
  compound-steps (Ended ending t) = refl
  compound-steps (Dry t) = refl

  compound-log : (a : Answer) → (state_of (compound_end a)).log ≡ (state_of a).log
  compound-log (Normal t) = refl
  compound-log (Exit t) = refl
  compound-log (Ended ending t) = refl
  compound-log (Dry t) = refl

  compound-extends : (x : OutcomeWord) (a b : Answer) → Extends x a b → Extends x (compound_end a) (compound_end b)
  compound-extends x (Normal t) b h = ap compound_end h
  compound-extends x (Exit t) b h = ap compound_end h
  compound-extends x (Ended ending t) b h = ap compound_end h
  compound-extends x (Dry t) b h = (λ ne. let e = ap length (compound-word b) in let l = h.0 ne in omega arith, let e = compound-steps b in let l = h.1 in omega arith)

  compound-asks : (run : OutcomeWord → Answer) (a : Answer) → AsksOne run a → AsksOne (λ x. compound_end (run x)) (compound_end a)
  compound-asks run (Normal t) h = tt
  compound-asks run (Exit t) h = tt
  compound-asks run (Ended ending t) h = tt
  compound-asks run (Dry t) h = (h.0, λ d x. subst (λ (later : List LoggedCommand). HasAnswered h.0 d t.log later) (sym (compound-log (run (d ∷ x)))) (h.1 d x))

  -- the text of a file that `exit` has left for the prompt
  prompt-track : (s : State) (a : Answer) → Track bound s a → Track bound s (left_to_prompt a)
  prompt-track s (Normal t) h = h
  prompt-track s (Exit t) h = h
  prompt-track s (Ended ending t) h = h
  prompt-track s (Dry t) h = h

  prompt-state : (a : Answer) → state_of (left_to_prompt a) ≡ state_of a
  prompt-state (Normal t) = refl
  prompt-state (Exit t) = refl
  prompt-state (Ended ending t) = refl
  prompt-state (Dry t) = refl

  prompt-extends : (x : OutcomeWord) (a b : Answer) → Extends x a b → Extends x (left_to_prompt a) (left_to_prompt b)
  prompt-extends x (Normal t) b h = ap left_to_prompt h
  prompt-extends x (Exit t) b h = ap left_to_prompt h
  prompt-extends x (Ended ending t) b h = ap left_to_prompt h
  prompt-extends x (Dry t) b h = (λ ne. let e = ap (λ (u : State). length u.word) (prompt-state b) in let l = h.0 ne in omega arith, let e = ap (λ (u : State). u.steps) (prompt-state b) in let l = h.1 in omega arith)

  prompt-asks : (run : OutcomeWord → Answer) (a : Answer) → AsksOne run a → AsksOne (λ x. left_to_prompt (run x)) (left_to_prompt a)
  prompt-asks run (Normal t) h = tt
  prompt-asks run (Exit t) h = tt
  prompt-asks run (Ended ending t) h = tt
  prompt-asks run (Dry t) h = (h.0, λ d x. subst (λ (later : List LoggedCommand). HasAnswered h.0 d t.log later) (sym (ap (λ (u : State). u.log) (prompt-state (run (d ∷ x))))) (h.1 d x))

  pub Keeps-sourced : (shell : Shell) (s : State) (f : State → Answer) → Keeps bound s f → Keeps bound s (λ t. sourced shell (f t))
  Keeps-sourced Profile s f h = h
  Keeps-sourced Old2023 s f h = h
  Keeps-sourced Old2025 s f h = h
  Keeps-sourced Modern2025 s f h = (prompt-track s (f s) h.0, λ x. prompt-extends x (f s) (f (more x s)) (h.1 x), prompt-asks (λ x. f (more x s)) (f s) h.2)

  pub Keeps-compound : (shell : Shell) (s : State) (f : State → Answer) → Keeps bound s f → Keeps bound s (λ t. compound shell (f t))
  Keeps-compound Profile s f h = h
  Keeps-compound Old2023 s f h = h
  Keeps-compound Old2025 s f h = h
  Keeps-compound Modern2025 s f h = (compound-track s (f s) h.0, λ x. compound-extends x (f s) (f (more x s)) (h.1 x), compound-asks (λ x. f (more x s)) (f s) h.2)

module _ (limits : Limits) where
  abbrev pub KeepsAll : (State → Answer) → Type 0
  KeepsAll f = (s : State) → Keeps limits.device_bound s f

  pub Keeps-text_end : (s : State) (f g : State → Answer) → Keeps limits.device_bound s f → KeepsAll g → Keeps limits.device_bound s (λ t. text_end limits.shell (f t) g)
  Keeps-text_end s f g h k = (text_end-track limits.device_bound limits.shell s (f s) g h.0 k, λ x. text_end-extends limits.device_bound limits.shell x (f s) (f (more x s)) g k (h.1 x), text_end-asks limits.device_bound limits.shell (λ x. f (more x s)) (f s) g k h.1 h.2)

  pub Keeps-begin : (f : State → Answer) → KeepsAll f → KeepsAll (begin limits f)
  Keeps-begin f h s = Keeps-if limits.device_bound s (nat_lt s.steps limits.step_bound) (λ t. f (record t { steps = suc t.steps })) (Ended CutSteps) (Keeps-counted limits.device_bound s f (h (record s { steps = suc s.steps }))) (Keeps-ended limits.device_bound s CutSteps)

  -- a device command
  finish-track : (b : Option BoardEnd) (name : Text) (s t : State) → GoesTo s t → Track limits.device_bound s (finish b name t)
  finish-track (Some finish) name s t g = g
  finish-track None name s t g = g

  finish-extends : (x : OutcomeWord) (b : Option BoardEnd) (name : Text) (t : State) → Extends x (finish b name t) (finish b name (more x t))
  finish-extends x (Some finish) name t = refl
  finish-extends x None name t = refl

  finish-less : (b : Option BoardEnd) (name : Text) (x : OutcomeWord) (t : State) → t.word ≡ x → length (state_of (finish b name t)).word < suc (length x)
  finish-less (Some finish) name x t e = let l = ap length e in omega arith
  finish-less None name x t e = let l = ap length e in omega arith

  finish-steps : (b : Option BoardEnd) (name : Text) (t : State) → (state_of (finish b name t)).steps ≡ t.steps
  finish-steps (Some finish) name t = refl
  finish-steps None name t = refl

  -- its entry in the log
  abbrev entry : Outcome → Request → LoggedCommand
  entry d r = record { success = succeeds d; words = r.name ∷ r.words; stays = r.effect.stays; again = r.again }

  took : (s : State) (r : Request) (d : Outcome) (rest : OutcomeWord) → r.again ≡ false → s.word ≡ d ∷ rest → GoesTo s (logged d r (record s { word = rest }))
  took s r d rest fresh e = record { taken = d ∷ []; word = e; log = (let l = length-append s.log (entry d r ∷ []) in omega arith); outcomes = answers-asked s.log (entry d r) fresh; further = (succeeds d, r.name ∷ r.words) ∷ []; grows = asked_one s.log (entry d r) fresh; steps = omega arith }

  was_told : (s : State) (r : Request) (d : Outcome) → GoesTo s (logged d (told_again r) s)
  was_told s r d = record { taken = []; word = refl; log = (let l = length-append s.log (entry d (told_again r) ∷ []) in omega arith); outcomes = answers-again s.log (entry d (told_again r)) refl ∙ sym (append-nil (answers s.log)); further = []; grows = asked_none s.log (entry d (told_again r)) refl ∙ sym (append-nil (asked_in s.log)); steps = omega arith }

  -- a device command with its outcome
  with-track : (s t : State) (r : Request) (d : Outcome) → GoesTo s (logged d r t) → Track limits.device_bound s (with_outcome d r t)
  with-track s t r Success g =
      let l : State = logged Success r t in
      let u : State = set_environment (sets_in r.words r.effect.sets) l in
      finish-track r.effect.ends r.name s u (GoesTo-trans s l u g (remembers l (λ m. (set_environment (sets_in r.words r.effect.sets) (record l { memory = m })).memory)))
  with-track s t r Failure g = g

  with-extends : (t : State) (r : Request) (d : Outcome) (x : OutcomeWord) → Extends x (with_outcome d r t) (with_outcome d r (more x t))
  with-extends t r Success x = finish-extends x r.effect.ends r.name (set_environment (sets_in r.words r.effect.sets) (logged Success r t))
  with-extends t r Failure x = refl

  asked : (s : State) (r : Request) (rest : OutcomeWord) → r.again ≡ false → length s.log < limits.device_bound → s.word ≡ rest → Track limits.device_bound s (take_outcome r rest s)
  asked s r [] fresh room e = (stays s, e, room)
  asked s r (d ∷ rest) fresh room e = with-track s (record s { word = rest }) r d (took s r d rest fresh e)

  asked-extends : (s : State) (r : Request) (rest x : OutcomeWord) → Extends x (take_outcome r rest s) (take_outcome r (rest ++ x) (more x s))
  asked-extends s r [] [] = (λ ne. absurd (ne refl), omega arith)
  asked-extends s r [] (Success ∷ x) =
      let t : State = set_environment (sets_in r.words r.effect.sets) (logged Success r (record s { word = x })) in
      (λ ne. finish-less r.effect.ends r.name x t refl, let e = finish-steps r.effect.ends r.name t in omega arith)
  asked-extends s r [] (Failure ∷ x) = (λ ne. omega arith, omega arith)
  asked-extends s r (d ∷ rest) x = with-extends (record s { word = rest }) r d x

  -- with its outcome, a command asks for no other one
  finish-asks : (run : OutcomeWord → Answer) (b : Option BoardEnd) (name : Text) (t : State) → AsksOne run (finish b name t)
  finish-asks run (Some finish) name t = tt
  finish-asks run None name t = tt

  outcome-asks : (run : OutcomeWord → Answer) (t : State) (r : Request) (d : Outcome) → AsksOne run (with_outcome d r t)
  outcome-asks run t r Success = finish-asks run r.effect.ends r.name (set_environment (sets_in r.words r.effect.sets) (logged Success r t))
  outcome-asks run t r Failure = tt

  finish-log : (b : Option BoardEnd) (name : Text) (t : State) → (state_of (finish b name t)).log ≡ t.log
  finish-log (Some finish) name t = refl
  finish-log None name t = refl

  outcome-log : (t : State) (r : Request) (d : Outcome) → (state_of (with_outcome d r t)).log ≡ t.log ++ entry d r ∷ []
  outcome-log t r Success = finish-log r.effect.ends r.name (set_environment (sets_in r.words r.effect.sets) (logged Success r t))
  outcome-log t r Failure = refl

  pub outcome_answers : (s : State) (r : Request) (d : Outcome) (x : OutcomeWord) → r.again ≡ false → HasAnswered (r.name ∷ r.words) d s.log (state_of (take_outcome r (d ∷ x) s)).log
  outcome_answers s r d x fresh = record {
    further = [];
    grows = ap asked_in (outcome-log (record s { word = x }) r d) ∙ asked_one s.log (entry d r) fresh;
  }

  asked-asks : (s : State) (r : Request) (rest : OutcomeWord) → r.again ≡ false → AsksOne (λ x. take_outcome r (rest ++ x) (more x s)) (take_outcome r rest s)
  asked-asks s r [] fresh = (r.name ∷ r.words, λ d x. outcome_answers (more (d ∷ x) s) r d x fresh)
  asked-asks s r (d ∷ rest) fresh = outcome-asks (λ x. take_outcome r (d ∷ rest ++ x) (more x s)) (record s { word = rest }) r d

  pub Keeps-take : (s : State) (r : Request) → r.again ≡ false → length s.log < limits.device_bound → Keeps limits.device_bound s (λ t. take_outcome r t.word t)
  Keeps-take s r fresh room = (asked s r s.word fresh room refl, λ x. asked-extends s r s.word x, asked-asks s r s.word fresh)

  Keeps-tell : (s : State) (r : Request) (o : Option Bool) → r.again ≡ false → length s.log < limits.device_bound → Keeps limits.device_bound s (λ t. tell_or_take o r t)
  Keeps-tell s r None fresh room = Keeps-take s r fresh room
  Keeps-tell s r (Some success) fresh room =
      let d : Outcome = outcome_when success in
      (with-track s s (told_again r) d (was_told s r d), λ x. with-extends s (told_again r) d x, outcome-asks (λ x. with_outcome d (told_again r) (more x s)) s (told_again r) d)

  pub Keeps-device-if : (s : State) (r : Request) (b : Bool) (o : Option Bool) → r.again ≡ false → (b ≡ true → length s.log < limits.device_bound) → Keeps limits.device_bound s (λ t. elim b [ true ↦ tell_or_take o r t | false ↦ Ended CutDevices t ])
  Keeps-device-if s r true o fresh room = Keeps-tell s r o fresh (room refl)
  Keeps-device-if s r false o fresh room = Keeps-ended limits.device_bound s CutDevices

  pub Keeps-device : (r : Request) → r.again ≡ false → KeepsAll (device limits r)
  Keeps-device r fresh s = Keeps-device-if s r (nat_lt (length s.log) limits.device_bound) (told r s.log) fresh (λ e. ltb-true (length s.log) limits.device_bound e)

  pub Keeps-sized : (fs : List Text) (f : List Text → State → Answer) → ((gs : List Text) → KeepsAll (f gs)) → KeepsAll (sized fs f)
  Keeps-sized fs f h s = Keeps-if limits.device_bound s (nat_le (size fs) most_bytes) (f fs) (Ended Size) (h fs s) (Keeps-ended limits.device_bound s Size)

  pub Keeps-assign : (pairs : List (Text × tree.Word)) → KeepsAll (assign limits.shell pairs)
  Keeps-assign [] s = Keeps-normal limits.device_bound s (λ m. record m { status = 0 })
  Keeps-assign (pair ∷ pairs) s =
      let value : Text = assigned_in limits.shell (parameters_in s.memory) pair.1 in
      Keeps-if limits.device_bound s (nat_le (length value) most_bytes) (λ t. assign limits.shell pairs (assign_local limits.shell pair.0 value t)) (Ended Size)
      (Keeps-remember limits.device_bound s (λ m. (assign_local limits.shell pair.0 value (record s { memory = m })).memory) (assign limits.shell pairs) (Keeps-assign pairs (assign_local limits.shell pair.0 value s)))
      (Keeps-ended limits.device_bound s Size)

  -- a `run`, if each script keeps it
  module _ (script : Script → State → Answer) (kept : (a : Script) → KeepsAll (script a)) where
    pub Keeps-read : (found : TextRead) (name : Text) → KeepsAll (run_read limits script name found)
    Keeps-read (Runs tree.Empty) name s = Keeps-remember limits.device_bound s (λ m. record m { status = 0 }) (script tree.Empty) (kept tree.Empty (set_status 0 s))
    Keeps-read (Runs (tree.Runs l ls)) name s = kept (tree.Runs l ls) s
    Keeps-read Fails name s = Keeps-normal limits.device_bound s (λ m. record m { status = 1 })
    Keeps-read Panics name s = Keeps-ended limits.device_bound s (Panic name)
    Keeps-read Unread name s = Keeps-ended limits.device_bound s (unread limits.shell name)

    pub Keeps-text : (name text : Text) → KeepsAll (run_text limits script name text)
    Keeps-text name text = Keeps-read (first_in limits.shell text) name

    pub Keeps-started : (name text : Text) → KeepsAll (started_text limits script name text)
    Keeps-started name text = Keeps-read (started_in limits.shell text) name

    pub Keeps-named : (text : Option Text) (name : Text) (next : State → Answer) (s : State) → KeepsAll next → Keeps limits.device_bound s (λ t. elim text [ None ↦ Normal (set_status 1 t) | Some v ↦ text_end limits.shell (started_text limits script name v t) next ])
    Keeps-named None name next s h = Keeps-normal limits.device_bound s (λ m. record m { status = 1 })
    Keeps-named (Some v) name next s h = Keeps-text_end s (started_text limits script name v) next (Keeps-started name v s) h

    pub Keeps-run : (names : List Text) → KeepsAll (run_all limits script names)
    Keeps-run [] s = Keeps-stays limits.device_bound s
    Keeps-run (name ∷ names) s = Keeps-named (get s.memory.environment name) name (run_all limits script names) s (Keeps-run names)

    pub Keeps-sourced_text : (name text : Text) → KeepsAll (sourced_text limits script name text)
    Keeps-sourced_text name text s = Keeps-sourced limits.device_bound limits.shell s (run_read limits script name (sourced_in limits.shell text)) (Keeps-read (sourced_in limits.shell text) name s)

    pub Keeps-found : (text : Option Text) (name : Text) (s : State) → Keeps limits.device_bound s (λ t. elim text [ None ↦ Normal (set_status 1 t) | Some v ↦ text_end limits.shell (sourced_text limits script name v t) Normal ])
    Keeps-found None name s = Keeps-normal limits.device_bound s (λ m. record m { status = 1 })
    Keeps-found (Some v) name s = Keeps-text_end s (sourced_text limits script name v) Normal (Keeps-sourced_text name v s) (Keeps-stays limits.device_bound)

    pub Keeps-here : (name : Text) (before : ℕ) → KeepsAll (λ t. run_file limits script name (set_status before t))
    Keeps-here name before s =
        let change : Memory → Memory = λ m. record m { status = before } in
        Keeps-remember limits.device_bound s change (run_file limits script name) (Keeps-found (file_in limits.devices name) name (remember change s))

    pub Keeps-chosen : (name : Text) (before : ℕ) (next : State → Answer) → KeepsAll next → KeepsAll (chosen limits script name before next)
    Keeps-chosen name before next k s =
        Keeps-if limits.device_bound s (nat_eq s.memory.status 0) (λ t. run_file limits script name (set_status before t)) next (Keeps-here name before s) (k s)

    pub Keeps-one_file : (name : Text) (others : List Text) (before : ℕ) → KeepsAll (run_one limits script name others before)
    Keeps-one_file name [] before s = Keeps-here name before s
    Keeps-one_file name (other ∷ others) before s =
        let next : State → Answer = run_one limits script other others before in
        Keeps-go_on limits.device_bound s (started_text limits script name (choice_text name)) (chosen limits script name before next) (Keeps-started name (choice_text name) s) (Keeps-chosen name before next (Keeps-one_file other others before))

    pub Keeps-file : (name : Text) (others : List Text) (before : ℕ) → KeepsAll (file_follows limits script name others before)
    Keeps-file name others before s =
        Keeps-if limits.device_bound s (nat_eq s.memory.status 0) (run_one limits script name others before) Normal (Keeps-one_file name others before s) (Keeps-stays limits.device_bound s)

    -- the status before the command is that of the state in which it is asked, whatever the word
    pub Keeps-handed : (runs : List Text) (s : State) (f : State → Answer) → Keeps limits.device_bound s f → Keeps limits.device_bound s (λ t. handed_over limits script runs t.memory.status (f t))
    Keeps-handed [] s f h = h
    Keeps-handed (name ∷ others) s f h = Keeps-go_on limits.device_bound s f (file_follows limits script name others s.memory.status) h (Keeps-file name others s.memory.status)

    pub Keeps-leave : (status : Option ℕ) (other : ℕ) (s : State) → Keeps limits.device_bound s (λ t. elim status [ Some n ↦ Exit (set_status n t) | None ↦ Normal (set_status other t) ])
    Keeps-leave (Some n) other s = Keeps-exit limits.device_bound s (λ m. record m { status = n })
    Keeps-leave None other s = Keeps-normal limits.device_bound s (λ m. record m { status = other })

    pub Keeps-command : (again : Bool) (b : Called) (name : Text) (ws : List Text) → KeepsAll (command limits again script b name ws)
    Keeps-command again (BuiltIn (ChangesVariables change)) name ws s = Keeps-normal limits.device_bound s (variables_changed change ws)
    Keeps-command again (BuiltIn RunsTexts) name [] s = Keeps-normal limits.device_bound s (λ m. record m { status = 1 })
    Keeps-command again (BuiltIn RunsTexts) name (w ∷ ws) s = Keeps-run (w ∷ ws) s
    Keeps-command again (BuiltIn Tests) name ws s = Keeps-if limits.device_bound s (asks_in limits.shell ws) (device limits (test_request limits name ws)) (λ t. Normal (set_status (status_when (truth_in limits.shell ws)) t)) (Keeps-device (test_request limits name ws) refl s) (Keeps-normal limits.device_bound s (λ m. record m { status = status_when (truth_in limits.shell ws) }))
    Keeps-command again (BuiltIn (WritesText written)) name ws s = Keeps-normal limits.device_bound s (text_written written ws)
    Keeps-command again (BuiltIn Exits) name ws s = Keeps-leave (leaves_in limits.shell again ws) (status_of_exit limits.shell ws) s
    Keeps-command again (Device effect) name ws s =
        let r : Request = request_of name ws (effect_now limits.room s effect) in
        Keeps-handed effect.runs s (device limits r) (Keeps-device r refl s)
    Keeps-command again NoCommand name ws s = Keeps-ended limits.device_bound s (Unknown name)

    Keeps-call : (again : Bool) (fs : List Text) → KeepsAll (simple_call limits again script fs)
    Keeps-call again [] s = Keeps-normal limits.device_bound s (λ m. record m { status = status_of_nothing limits.shell m.status })
    Keeps-call again (name ∷ ws) s = Keeps-if limits.device_bound s (follows limits.shell limits.devices name ws) (command limits again script (called_by limits.devices name ws) name ws) (Ended (Unsupported name)) (Keeps-command again (called_by limits.devices name ws) name ws s) (Keeps-ended limits.device_bound s (Unsupported name))

    pub Keeps-simple : (again : Bool) (fs : List Text) → KeepsAll (simple limits again script fs)
    Keeps-simple again fs = Keeps-call again (call_in limits.shell fs)

  -- what a turn of a loop does after its condition
  abbrev pub after_condition : Bool → (State → Answer) → (State → Answer) → ℕ → State → Answer
  after_condition until b again last t = elim (holds until t.memory.status) [ true ↦ go_on (b t) again | false ↦ Normal (set_status (status_of_loop limits.shell last t.memory.status) t) ]

  pub Keeps-after_condition : (until : Bool) (b again : State → Answer) → KeepsAll b → KeepsAll again → (last : ℕ) → KeepsAll (after_condition until b again last)
  Keeps-after_condition until b again k h last t =
      let bound : ℕ = limits.device_bound in
      Keeps-if bound t (holds until t.memory.status) (λ v. go_on (b v) again) (λ v. Normal (set_status (status_of_loop limits.shell last v.memory.status) v)) (Keeps-go_on bound t b again (k t) h) (Keeps-normal bound t (λ m. record m { status = status_of_loop limits.shell last m.status }))

  pub Keeps-turns : (left : ℕ) (until : Bool) (c b : State → Answer) → KeepsAll c → KeepsAll b → (last : ℕ) → KeepsAll (turns limits.shell left until c b last)
  Keeps-turns zero until c b h k last s = Keeps-ended limits.device_bound s CutSteps
  Keeps-turns (suc left) until c b h k last s =
      let again : KeepsAll (λ u. turns limits.shell left until c b u.memory.status u) = λ u. Keeps-turns left until c b h k u.memory.status u in
      Keeps-go_on limits.device_bound s c (after_condition until b (λ u. turns limits.shell left until c b u.memory.status u) last) (h s) (Keeps-after_condition until b (λ u. turns limits.shell left until c b u.memory.status u) k again last)

  pub Keeps-for : (name : Text) (b : State → Answer) → KeepsAll b → (last : ℕ) (fs : List Text) → KeepsAll (for_each limits.shell name b last fs)
  Keeps-for name b k last [] s = Keeps-normal limits.device_bound s (λ m. record m { status = last })
  Keeps-for name b k last (f ∷ fs) s =
      let bound : ℕ = limits.device_bound in
      Keeps-go_on bound s (λ t. b (begin_turn limits.shell name f t)) (λ t. for_each limits.shell name b t.memory.status fs t)
      (Keeps-remember bound s (λ m. (begin_turn limits.shell name f (record s { memory = m })).memory) b (k (begin_turn limits.shell name f s)))
      (λ t. Keeps-for name b k t.memory.status fs t)

  pub Keeps-turns_of : (name : Text) (b : State → Answer) → KeepsAll b → (fs : List Text) → KeepsAll (turns_of limits.shell name b fs)
  Keeps-turns_of name b k fs s = Keeps-if limits.device_bound s (follows_turns limits.shell name fs) (λ t. compound limits.shell (for_each limits.shell name b 0 fs t)) (Ended (Unsupported name)) (Keeps-compound limits.device_bound limits.shell s (for_each limits.shell name b 0 fs) (Keeps-for name b k 0 fs s)) (Keeps-ended limits.device_bound s (Unsupported name))

  pub Keeps-words : (name : Text) (words : List tree.Word) (b : State → Answer) → KeepsAll b → KeepsAll (λ t. for_words limits.shell name words b (for_begun limits.shell t))
  Keeps-words name words b k s =
      Keeps-remember limits.device_bound s (λ m. record m { status = status_of_for limits.shell m.status }) (for_words limits.shell name words b)
      (let u : State = for_begun limits.shell s in Keeps-sized (turns_in limits.shell (parameters_in u.memory) words) (turns_of limits.shell name b) (Keeps-turns_of name b k) u)

  -- what follows a block that is not run
  pub Keeps-skip : (b : Script) (f : State → Answer) → KeepsAll f → KeepsAll (λ t. f (block_skipped limits.shell b t))
  Keeps-skip b f k s = Keeps-remember limits.device_bound s (λ m. record m { status = status_of_skipped limits.shell b m.status }) f (k (block_skipped limits.shell b s))

  -- what follows a command that is skipped
  abbrev pub skipped : (State → Answer) → State → Answer
  skipped rest t = elim (skips_rest limits.shell) [ true ↦ Normal t | false ↦ rest t ]

  Keeps-skipped : (rest : State → Answer) (s : State) → Keeps limits.device_bound s rest → Keeps limits.device_bound s (skipped rest)
  Keeps-skipped rest s h = Keeps-if limits.device_bound s (skips_rest limits.shell) Normal rest (Keeps-stays limits.device_bound s) h

  module _ (left : ℕ) (text : Script → State → Answer) (kept : (a : Script) → KeepsAll (text a)) where
    mutual
      pub Keeps-script : (a : Script) → KeepsAll (exec_script limits left text a)
      Keeps-script tree.Empty s = Keeps-stays limits.device_bound s
      Keeps-script (tree.Runs l ls) s = Keeps-go_on limits.device_bound s (exec_list limits left text l) (exec_script limits left text ls) (Keeps-list l s) (Keeps-script ls)

      pub Keeps-list : (a : AndOr) → KeepsAll (exec_list limits left text a)
      Keeps-list (tree.Starts c rest) s = Keeps-go_on limits.device_bound s (exec_command limits left text c) (exec_joined limits left text rest) (Keeps-one c s) (Keeps-joined rest)

      pub Keeps-joined : (a : Joined) → KeepsAll (exec_joined limits left text a)
      Keeps-joined tree.Alone s = Keeps-stays limits.device_bound s
      Keeps-joined (tree.Joins op c rest) s = Keeps-if limits.device_bound s (goes op s.memory.status) (λ t. go_on (exec_command limits left text c t) (exec_joined limits left text rest)) (skipped (exec_joined limits left text rest)) (Keeps-go_on limits.device_bound s (exec_command limits left text c) (exec_joined limits left text rest) (Keeps-one c s) (Keeps-joined rest)) (Keeps-skipped (exec_joined limits left text rest) s (Keeps-joined rest s))

      pub Keeps-one : (a : Command) → KeepsAll (exec_command limits left text a)
      Keeps-one (tree.Simple words) s = Keeps-begin (λ t. sized (fields_in limits.shell (parameters_in t.memory) words) (simple limits (reads_again words) text) t) (λ t. Keeps-sized (fields_in limits.shell (parameters_in t.memory) words) (simple limits (reads_again words) text) (Keeps-simple text kept (reads_again words)) t) s
      Keeps-one (tree.Assign pairs) s = Keeps-begin (assign limits.shell pairs) (Keeps-assign pairs) s
      Keeps-one (tree.If arms) s = Keeps-compound limits.device_bound limits.shell s (exec_arms limits left text arms) (Keeps-arms arms s)
      Keeps-one (tree.Loop until c b) s =
          Keeps-compound limits.device_bound limits.shell s (turns limits.shell left until (exec_script limits left text c) (exec_script limits left text b) 0)
          (Keeps-turns left until (exec_script limits left text c) (exec_script limits left text b) (Keeps-script c) (Keeps-script b) 0 s)
      Keeps-one (tree.For name words b) s = Keeps-begin (λ t. for_words limits.shell name words (exec_script limits left text b) (for_begun limits.shell t)) (Keeps-words name words (exec_script limits left text b) (Keeps-script b)) s

      pub Keeps-arms : (a : Arms) → KeepsAll (exec_arms limits left text a)
      Keeps-arms tree.NoElse s = Keeps-normal limits.device_bound s (λ m. record m { status = status_of_no_block limits.shell m.status })
      Keeps-arms (tree.Else b) s = Keeps-script b s
      Keeps-arms (tree.Arm c b arms) s = Keeps-go_on limits.device_bound s (exec_script limits left text c) (λ t. elim (nat_eq t.memory.status 0) [ true ↦ exec_script limits left text b t | false ↦ exec_arms limits left text arms (block_skipped limits.shell b t) ]) (Keeps-script c s) (λ t. Keeps-if limits.device_bound t (nat_eq t.memory.status 0) (exec_script limits left text b) (λ u. exec_arms limits left text arms (block_skipped limits.shell b u)) (Keeps-script b t) (Keeps-skip b (exec_arms limits left text arms) (Keeps-arms arms) t))

  -- a script keeps all this, whatever steps are left
  pub Keeps-exec : (left : ℕ) (a : Script) → KeepsAll (exec limits left a)
  Keeps-exec zero a = Keeps-script zero (λ t s. Ended CutSteps s) (λ b s. Keeps-ended limits.device_bound s CutSteps) a
  Keeps-exec (suc left) a = Keeps-script (suc left) (exec limits left) (Keeps-exec left) a
