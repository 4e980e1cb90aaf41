-- The states that the search enters, each by the outcomes that lead to it. No two are alike.
use Rattle.std.proofs.Common.{ℕ, Bool, nat_eq, suc, zero, ◌+◌, ◌≤◌, ◌<◌, List, [], ◌∷◌, ◌++◌, length, reverse, Some, refl, sym, ap, subst, ◌∙◌, ◌≡◌, arith, append_assoc, append-nil, length-append, inl, inr, map}
use Rattle.std.specs.Prelude.{Result, Err, IfErr, Option, None, MatchOption}
use Rattle.std.specs.List.{AllByRecursion, slice_get}
use Rattle.std.specs.FinMap.{get-entries}
use Rattle.std.specs.declared.alloc.Global.{Global}
use Rattle.bootstore_state.specs.Moment.{Moment, RunningFrame}
use Rattle.bootstore_state.specs.StoredState.{state_at}
use Rattle.rehearse_terms.specs.Bounds.{most_steps}
use Rattle.rehearse_terms.specs.Outcomes.{OutcomeWord, Outcome, Success, Failure}
use Rattle.rehearse_terms.specs.State.{Text}
use Rattle.rehearse_rules.specs.Execution.{Limits}
use Rattle.rehearse_rules.specs.Runs.{Task, kind, run_on}
use Rattle.rehearse_machine.specs.declared.rehearsal.Stop.{Stop}
use Rattle.rehearse_machine.specs.declared.rehearsal.Stop.TheVariants.{Asks}
use Rattle.rehearse_machine.specs.StoppedTexts.{StoppedAt}
use Rattle.rehearse_reads.specs.Keys as keys
use Rattle.rehearse_reads.specs.Keys.{Key, AgreeAt, AgreeOn, IsAmong}
use Rattle.rehearse_reports.specs.Known.{AllHold, Holds, key_of, keys_of}
use Rattle.rehearse_reports.specs.declared.known.Known.{Known}
use Rattle.rehearse_reports.specs.declared.known.Known.TheVariants.{Environment, Local, AnswerTo, Succeeded, Status}
use Rattle.rehearse_reuse.specs.Futures.{came_kind}
use Rattle.rehearse_reuse.specs.SummedRuns.{FitsIf}
use Rattle.rehearse_states.specs.Drawing.{asks_in, node_shown, nodes_shown}
use Rattle.rehearse_states.specs.Flow as flow
use Rattle.rehearse_states.specs.RowsShown.{saturated_summary}
use Rattle.rehearse_states.specs.SumNodes.{SumNode, IsSummary}
use Rattle.rehearse_states.specs.declared.summary.Summary as rt
use Rattle.rehearse_states.specs.Summaries.{Summary}
use Rattle.rehearse_states.specs.declared.flow.Flow.{Flow}
use Rattle.rehearse_states.proofs.NodeLemmas.{asks_append}
use Rattle.rehearse_endings.proofs.SearchLemmas.{Both, Room, kind_settled, shown_as}
use Rattle.rehearse_endings.specs.OnTop.{HasOnTop}
use Rattle.rehearse_endings.specs.Indexed.{Fits, NoneFits}
use Rattle.rehearse_endings.specs.Searching.{IsKeptAt, SummedFrom}
use Rattle.rehearse_endings.specs.States.{AreApart, AreKeptAs, AreOnOneRun, Asked, ComesBefore, ComesBy, ComesToStates, ComesToSteps, Entered, HasEntered, HasStates, IsKeptAs, IsLike, IsMet, IsSearchedIn, IsUnlike, NoTwoAlike, Searched}
use Rattle.rehearse_endings.specs.declared.sum_error.SumError.{SumError}
use Rattle.rehearse_endings.specs.declared.sum_error.SumError.TheVariants.{States}
use Rattle.rehearse_endings.specs.declared.entry.Entry.{Entry}
use Rattle.rehearse_endings.specs.declared.table.Table.{Table}

-- ---- lists

pub all_and : {A : Type 0} (P : A → Type 0) (xs ys : List A) → AllByRecursion P xs → AllByRecursion P ys → AllByRecursion P (xs ++ ys)
all_and P [] ys h k = k
all_and P (x ∷ xs) ys h k = (h.0, all_and P xs ys h.1 k)

all_as : {A : Type 0} (P Q : A → Type 0) (xs : List A) → ((x : A) → P x → Q x) → AllByRecursion P xs → AllByRecursion Q xs
all_as P Q [] f h = tt
all_as P Q (x ∷ xs) f h = (f x h.0, all_as P Q xs f h.1)

both_of : {A : Type 0} (P Q R : A → Type 0) (xs : List A) → ((x : A) → P x → Q x → R x) → AllByRecursion P xs → AllByRecursion Q xs → AllByRecursion R xs
both_of P Q R [] f h k = tt
both_of P Q R (x ∷ xs) f h k = (f x h.0 k.0, both_of P Q R xs f h.1 k.1)

-- ---- what a look-up says

pub something : {A : Type 0} (P : Type 0) (Q : A → Type 0) (o : Option A) (x : A) → o ≡ Some x → MatchOption o P Q → Q x
something P Q None x e h = absurd (let f = e in cc)
something P Q (Some y) x e h = subst Q (let f = e in cc) h

-- ---- outcomes

comes_next : (p : OutcomeWord) (d : Outcome) → ComesBefore p (p ++ d ∷ [])
comes_next p d = (d, [], refl)

comes_on : (q p : OutcomeWord) (d : Outcome) → ComesBefore q p → ComesBefore q (p ++ d ∷ [])
comes_on q p d h = (h.0, h.1 ++ d ∷ [], ap (λ (w : OutcomeWord). w ++ d ∷ []) h.2 ∙ append_assoc q (h.0 ∷ h.1) (d ∷ []))

-- the search reaches the next outcome by one more state
pub comes_by : (p : OutcomeWord) (d : Outcome) (m : Moment) (begun : List Asked) → ComesBy p begun → ComesBy (p ++ d ∷ []) ((p, m) ∷ begun)
comes_by p d m begun h = (comes_next p d, all_as (λ t. ComesBefore t.0 p) (λ t. ComesBefore t.0 (p ++ d ∷ [])) begun (λ t k. comes_on t.0 p d k) h)

-- ---- a state that is like one that was searched fits its entry

held_there : (m n : Moment) (known : Known) → Holds m known → AgreeAt (key_of known) (state_at m []) (state_at n []) → Holds n known
held_there m n (Environment name value) h k = get-entries n.environment name.items ∙ k ∙ sym (get-entries m.environment name.items) ∙ h
held_there m n (Local name value) h k = get-entries n.locals name.items ∙ k ∙ sym (get-entries m.locals name.items) ∙ h
held_there m n (AnswerTo call answer) h k = k ∙ h
held_there m n (Succeeded start has) h k = k ∙ h
held_there m n (Status status) h k = k ∙ h

all_held_there : (m n : Moment) (all : List Known) → AllHold m all → AgreeOn (keys_of all) (state_at m []) (state_at n []) → AllHold n all
all_held_there m n [] h agree = tt
all_held_there m n (known ∷ all) h agree = (held_there m n known h.0 (agree (key_of known) (inl refl)), all_held_there m n all h.1 (λ key among. agree key (inr among)))

like_fits : (limits : Limits) (s : Searched) (e : Entry) (m : Moment) → IsKeptAs s e → IsLike limits s m → Fits limits.step_bound limits.device_bound e m
like_fits limits s e m kept like = record {
  frames =
      subst (λ (whole : Bool). HasOnTop whole (reverse e.frames.items) m.frames) (sym kept.whole)
      (subst (λ (top : List RunningFrame). HasOnTop (nat_eq s.below 0) top m.frames) (sym kept.frames) like.frames);
  known = all_held_there s.asked.1 m e.known.items kept.known (subst (λ (ks : List Key). AgreeOn ks (state_at s.asked.1 []) (state_at m [])) (sym kept.keys) like.agree);
  steps =
      subst (λ (x : Summary). FitsIf x.cut_steps e.steps m.steps x.steps limits.step_bound) (sym kept.shown)
      (subst (λ (n : ℕ). FitsIf s.to_come.cut_steps n m.steps s.to_come.steps limits.step_bound) (sym kept.steps) like.steps);
  devices =
      subst (λ (x : Summary). FitsIf x.cut_devices e.devices (length m.log) x.devices limits.device_bound) (sym kept.shown)
      (subst (λ (n : ℕ). FitsIf s.to_come.cut_devices n (length m.log) s.to_come.devices limits.device_bound) (sym kept.devices) like.devices);
}

-- a state for which no entry fits is unlike all
none_like : (limits : Limits) (searched : List Searched) (entries : List Entry) (t : Asked) → AreKeptAs searched entries → NoneFits limits.step_bound limits.device_bound entries t.1 → AllByRecursion (λ s. IsUnlike limits s t) searched
none_like limits [] entries t kept none = tt
none_like limits (s ∷ searched) [] t kept none = absurd kept
none_like limits (s ∷ searched) (e ∷ entries) t kept none =
    (inl (λ like. none zero e refl (like_fits limits s e t.1 kept.0 like)), none_like limits searched entries t kept.1 (λ place other got. none (suc place) other got))

-- ---- a state that is entered

pub met_as : (task : Task) (p : OutcomeWord) (stop other : Stop) (m : Moment) → stop ≡ other → StoppedAt task p stop m → StoppedAt task p other m
met_as task p stop other m e h = subst (λ (x : Stop). StoppedAt task p x m) e h

is_met : (task : Task) (p : OutcomeWord) (m : Moment) → StoppedAt task p Asks m → IsMet task (p, m)
is_met task p m at = (ap (kind task) (sym (append-nil p)) ∙ sym (kind_settled (run_on task (p ++ []))) ∙ ap came_kind at.2, at)

module _ (names : List Text) (task : Task) (p : OutcomeWord) (m : Moment) (begun : List Asked) (at : StoppedAt task p Asks m) (by : ComesBy p begun) (old : Table) (has : HasEntered names task begun old)
    (none : NoneFits task.limits.step_bound task.limits.device_bound old.entries.items m) where
  one_more : AreApart names task has.0 ((p, m) ∷ begun)
  one_more = record {
    found = has.1.apart.found;
    met = (is_met task p m at, has.1.apart.met);
    unlike = has.1.apart.unlike;
    anew = (none_like task.limits has.0 old.entries.items (p, m) has.1.kept_as none, has.1.apart.anew);
    one_run = (by, has.1.apart.one_run);
  }

  pub enters : (new : Table) → new.entries.items ≡ old.entries.items → new.flow ≡ old.flow → new.visited ≡ old.visited + 1 → HasEntered names task ((p, m) ∷ begun) new
  enters new e f v = (
    has.0,
    record {
      kept_as = subst (AreKeptAs has.0) (sym e) has.1.kept_as;
      many = let a = has.1.many in omega arith;
      apart = one_more;
      asks = ap (λ (x : Flow). asks_in (nodes_shown x.nodes)) f ∙ has.1.asks;
    },
  )

  pub too_many : old.visited ≤ old.most → old.most ≤ old.visited → ComesToStates names task (old.most + 1)
  too_many l h = (has.0, (p, m) ∷ begun, (let a = has.1.many in omega arith), one_more)

-- the answer that the table is full is passed on
pub refused_as : {A : Type 0} (names : List Text) (task : Task) (count : ℕ) (r : Result A SumError) (e : SumError) → r ≡ Err e → (e ≡ States → ComesToStates names task count) → IfErr r (λ (x : SumError). x ≡ States → ComesToStates names task count)
refused_as {A} names task count r e is h = subst (λ (x : Result A SumError). IfErr x (λ (y : SumError). y ≡ States → ComesToStates names task count)) (sym is) h

-- any other answer too
pub passed_on : {A : Type 0} (P : SumError → Type 0) (r : Result A SumError) (e : SumError) → r ≡ Err e → P e → IfErr r P
passed_on {A} P r e is h = subst (λ (x : Result A SumError). IfErr x P) (sym is) h

-- as many steps as the states that were entered have room for
pub too_costly : (names : List Text) (task : Task) (begun : List Asked) (table : Table) (work steps : ℕ) → HasEntered names task begun table → work < steps → Room steps table.visited → ComesToSteps names task table.visited work
too_costly names task begun table work steps h more room = ((h.0, begun, h.1.many, h.1.apart), omega (arith, more, room))

-- before a state was entered
pub costly_at_once : (names : List Text) (task : Task) (work steps : ℕ) → work < steps → steps ≤ most_steps → ComesToSteps names task 0 work
costly_at_once names task work steps more within = (([], [], refl, record { found = tt; met = tt; unlike = tt; anew = tt; one_run = tt }), omega arith)

-- ---- a state that was searched

kept_more : (searched : List Searched) (entries : List Entry) (s : Searched) (e : Entry) → AreKeptAs searched entries → IsKeptAs s e → AreKeptAs (searched ++ s ∷ []) (entries ++ e ∷ [])
kept_more [] [] s e h k = (k, tt)
kept_more [] (x ∷ entries) s e h k = absurd h
kept_more (x ∷ searched) [] s e h k = absurd h
kept_more (x ∷ searched) (y ∷ entries) s e h k = (h.0, kept_more searched entries s e h.1 k)

unlike_more : (limits : Limits) (searched : List Searched) (s : Searched) → NoTwoAlike limits searched → AllByRecursion (λ x. IsUnlike limits x s.asked) searched → NoTwoAlike limits (searched ++ s ∷ [])
unlike_more limits [] s h k = (tt, tt)
unlike_more limits (x ∷ searched) s h k = (all_and (λ other. IsUnlike limits x other.asked) searched (s ∷ []) h.0 (k.0, tt), unlike_more limits searched s h.1 k.1)

-- the state that was entered last was searched to its end
pub searched_last : (names : List Text) (task : Task) (begun : List Asked) (searched : List Searched) (s : Searched) → AreApart names task searched (s.asked ∷ begun) → IsSearchedIn names task s → AreApart names task (searched ++ s ∷ []) begun
searched_last names task begun searched s apart here = record {
  found = all_and (IsSearchedIn names task) searched (s ∷ []) apart.found (here, tt);
  met = apart.met.1;
  unlike = unlike_more task.limits searched s apart.unlike apart.anew.0;
  anew = both_of (λ t. AllByRecursion (λ x. IsUnlike task.limits x t) searched) (λ t. ComesBefore t.0 s.asked.0) (λ t. AllByRecursion (λ x. IsUnlike task.limits x t) (searched ++ s ∷ [])) begun
      (λ t before comes. all_and (λ x. IsUnlike task.limits x t) searched (s ∷ []) before (inr comes, tt)) apart.anew.1 apart.one_run.0;
  one_run = apart.one_run.1;
}

pub gone_through : (names : List Text) (task : Task) (p : OutcomeWord) (m : Moment) (begun : List Asked) (old new : Table) (made : Flow) (node_words : List Text) (won lost : ℕ) (key_list : List Key) (devices below : ℕ) (sum_nodes : List SumNode) (whole : rt.Summary) (shown : Summary)
    → HasEntered names task ((p, m) ∷ begun) old → nodes_shown made.nodes ≡ nodes_shown old.flow.nodes ++ flow.Asks node_words won lost ∷ []
    → IsKeptAt old.entries.items new.entries.items below m key_list devices whole → new.flow ≡ made → new.visited ≡ old.visited
    → Both names task.limits below m key_list → IsSummary sum_nodes whole shown → SummedFrom names task.limits Asks m shown → devices ≡ length m.log → HasEntered names task begun new
gone_through names task p m begun old new made node_words won lost key_list devices below sum_nodes whole shown has nodes kept flows visited both is summed logged = (
  searched,
  record {
    kept_as = subst (AreKeptAs searched) (sym kept.kept.1) (kept_more has.0 old.entries.items s e has.1.kept_as kept_as);
    many = let a = has.1.many in let b = length-append has.0 (s ∷ []) in omega arith;
    apart = searched_last names task begun has.0 s has.1.apart here;
    asks =
        let a = ap (λ (x : Flow). asks_in (nodes_shown x.nodes)) flows in
        let b = ap asks_in nodes in
        let c = asks_append (nodes_shown old.flow.nodes) (flow.Asks node_words won lost ∷ []) in
        let d = has.1.asks in
        let f = length-append has.0 (s ∷ []) in
        omega (arith, a, b, c, d, f);
  },
)
  where
    e : Entry
    e = kept.kept.0

    s : Searched
    s = record { asked = (p, m); below = below; keys = key_list; to_come = summed.0 }

    searched : List Searched
    searched = has.0 ++ s ∷ []

    kept_as : IsKeptAs s e
    kept_as = record {
      frames = ap reverse kept.kept.2 ∙ kept.frames;
      whole = kept.kept.7;
      known = subst (AllHold m) (sym kept.kept.3) kept.holds;
      keys = ap keys_of kept.kept.3 ∙ kept.same;
      steps = kept.kept.4;
      devices = kept.kept.5 ∙ logged;
      shown = (shown_as sum_nodes whole e.summary shown (saturated_summary summed.0) kept.kept.6 summed.2 is).1;
    }

    here : IsSearchedIn names task s
    here = record { met = has.1.apart.met.0; enough = both.enough; apart = both.never; sums = summed.1 }

-- no further state was entered
pub none_entered : (names : List Text) (task : Task) (begun : List Asked) (old new : Table) → new.entries.items ≡ old.entries.items → asks_in (nodes_shown new.flow.nodes) ≡ asks_in (nodes_shown old.flow.nodes) → new.visited ≡ old.visited → HasEntered names task begun old → HasEntered names task begun new
none_entered names task begun old new e asks v h = (
  h.0,
  record {
    kept_as = subst (AreKeptAs h.0) (sym e) h.1.kept_as;
    many = h.1.many ∙ sym v;
    apart = h.1.apart;
    asks = asks ∙ h.1.asks;
  },
)

-- ---- the whole

pub first_entered : (names : List Text) (task : Task) (table : Table) → table.entries.items ≡ [] → table.flow.nodes.items ≡ [] → table.visited ≡ 0 → HasEntered names task [] table
first_entered names task table e f v = (
  [],
  record {
    kept_as = subst (AreKeptAs []) (sym e) tt;
    many = sym v;
    apart = record { found = tt; met = tt; unlike = tt; anew = tt; one_run = tt };
    asks = ap (λ ns. asks_in (map node_shown ns)) f;
  },
)

pub whole_states : (names : List Text) (task : Task) (table : Table) → HasEntered names task [] table → HasStates names task table.visited
whole_states names task table h = (h.0, (let a = h.1.many in omega arith), h.1.apart)

pub whole_asks : (names : List Text) (task : Task) (table : Table) → HasEntered names task [] table → asks_in (nodes_shown table.flow.nodes) ≡ table.visited
whole_asks names task table h = let a = h.1.many in let b = h.1.asks in omega arith
