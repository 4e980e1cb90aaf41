-- Why boots are not reported, and when all are.
use Rattle.std.proofs.Common.{◌≡◌, ℕ, ◌+◌, ◌<◌, ◌≤◌, Bool, true, false, List, [], ◌∷◌, ◌++◌, length, take, Option, Some, None, Result, Ok, Err, ◌≢◌, refl, sym, ap, subst, ◌∙◌, arith, if◌then◌else◌}
use Rattle.std.specs.Prelude.{IfErr, IfOk, OnOk}
use Rattle.std.specs.List.{AllByRecursion, flat_map, list_any}
use Rattle.std.proofs.lemmas.List.{take_all}
use Rattle.std.proofs.lemmas.List.Sums.{fold-append}
use Rattle.board_start.specs.declared.board_error.BoardError.TheVariants as board
use Rattle.rehearse_boots.specs.Boots.{Asked, Boot, HasMoreBoots, IsReached, Kept, StartOf, boot_of, each_once, first_of, found_by, found_from, is_first, next_after, next_boots, rehearsed, rehearsed_by, same_kept, told_apart, ways_of, with_boot, Started}
use Rattle.rehearse_boots.specs.Exploring.{AddsBoot, AddsStarted, AreTold, BreaksAt, ChecksChanges, IsExplored, IsStarted, IsUntoldBoot, IsUntoldStarted, next_of_all, untold_by, with_boots}
use Rattle.rehearse_boots.specs.TellingBoots.{AreLines, AreRightChanges, IsAnswer, IsUntold}
use Rattle.rehearse_boots.specs.Ways.{Way, graph_of, ways_in}
use Rattle.rehearse_boots.specs.declared.boots_error.BootsError.{BootsError}
use Rattle.rehearse_boots.specs.declared.found.FoundBy.{FoundBy}
use Rattle.rehearse_boots.specs.declared.boots_error.BootsError.TheVariants.{Board, Changes, NoSuchVariable, Boots, States, Steps, Bytes, Write, Memory}
use Rattle.rehearse_boots.proofs.FoundLemmas.{reached_with}
use Rattle.rehearse_endings.specs.Held.{ComesToBytes}
use Rattle.rehearse_endings.specs.States.{ComesToStates, ComesToSteps}
use Rattle.rehearse_endings.specs.declared.sum_error.SumError.{SumError}
use Rattle.rehearse_endings.specs.declared.sum_error.SumError.TheVariants as endings_error
use Rattle.rehearse_rules.specs.Runs.{unheard}
use Rattle.rehearse_states.specs.Endings.{endings}
use Rattle.rehearse_terms.specs.State.{Text}

-- ---- each boot once

apart_one : (boots : List Kept) (kept : Kept) → each_once boots ≡ boots → each_once (with_boot boots kept) ≡ with_boot boots kept
apart_one boots kept h = by (list_any (same_kept kept) boots) refl
  where
    by : (s : Bool) → list_any (same_kept kept) boots ≡ s → each_once (if s then boots else boots ++ kept ∷ []) ≡ (if s then boots else boots ++ kept ∷ [])
    by true e = h
    by false e =
        fold-append with_boot [] boots (kept ∷ [])
        ∙ ap (λ x. with_boot x kept) h
        ∙ ap (λ s. if s then boots else boots ++ kept ∷ []) e

pub apart_with : (boots next : List Kept) → each_once boots ≡ boots → each_once (with_boots boots next) ≡ with_boots boots next
apart_with boots [] h = h
apart_with boots (n ∷ next) h = apart_with (with_boot boots n) next (apart_one boots n h)

module _ (start_of : StartOf) (asked : Asked) where
  pub told_apart_all : (count : ℕ) (boots : List Kept) (graph : List (List Way)) → AreTold start_of asked count boots graph → each_once boots ≡ boots
  told_apart_all count boots graph told =
      ap each_once told.found ∙ apart_with [] (first_of asked ∷ flat_map (next_boots start_of asked) (take count boots)) refl ∙ sym told.found

  -- ---- a boot that is not reported

  more_boots : (kept : Kept) (b : Boot) (most : ℕ) (old new : List Kept) → IsReached start_of asked kept → boot_of start_of asked kept ≡ Some b → AllByRecursion (IsReached start_of asked) old → each_once old ≡ old
      → BreaksAt (flat_map (next_after asked b.saved) (ways_of asked b.task)) most old new → HasMoreBoots start_of asked most
  more_boots kept b most old new reached is all apart breaks = record {
    boots = new;
    reached = subst (AllByRecursion (IsReached start_of asked)) (sym breaks.boots) (reached_with start_of asked kept b breaks.front breaks.behind old reached is breaks.stands all);
    apart = ap each_once breaks.boots ∙ apart_with old breaks.front apart ∙ sym breaks.boots;
    many = breaks.many;
  }

  pub untold_boot : (kept : Kept) (states work bytes most : ℕ) (old new : List Kept) → IsReached start_of asked kept → AllByRecursion (IsReached start_of asked) old → each_once old ≡ old
      → (e : BootsError) → IsUntoldBoot start_of asked kept states work bytes most old new e → IsUntold start_of asked states work bytes most e
  untold_boot kept states work bytes most old new reached all apart (Board (board.Start fault)) h = record { kept = kept; reached = reached; faulty = h }
  untold_boot kept states work bytes most old new reached all apart (Board (board.Devices fault)) h = record { kept = kept; reached = reached; faulty = h }
  untold_boot kept states work bytes most old new reached all apart (Board board.Memory) h = absurd h
  untold_boot kept states work bytes most old new reached all apart (Changes fault) h = absurd h.2
  untold_boot kept states work bytes most old new reached all apart NoSuchVariable h = record { kept = kept; started = h.0; reached = reached; starts = h.1; missing = h.2 }
  untold_boot kept states work bytes most old new reached all apart Boots h = more_boots kept h.2.0 most old new reached (ap (rehearsed_by asked kept) h.1 ∙ h.2.1) all apart h.2.2
  untold_boot kept states work bytes most old new reached all apart States h = record { kept = kept; boot = h.2.0; reached = reached; rehearsed = ap (rehearsed_by asked kept) h.1 ∙ h.2.1; so = h.2.2 }
  untold_boot kept states work bytes most old new reached all apart (Steps count) h = record { kept = kept; boot = h.2.0; reached = reached; rehearsed = ap (rehearsed_by asked kept) h.1 ∙ h.2.1; so = h.2.2 }
  untold_boot kept states work bytes most old new reached all apart (Bytes count) h = record { kept = kept; boot = h.2.0; reached = reached; rehearsed = ap (rehearsed_by asked kept) h.1 ∙ h.2.1; so = h.2.2 }
  untold_boot kept states work bytes most old new reached all apart Write h = absurd h.2
  untold_boot kept states work bytes most old new reached all apart Memory h = h

  -- ---- the first boot, and all boots

  pub told_first : (boots : List Kept) → boots ≡ first_of asked ∷ [] → AreTold start_of asked 0 boots []
  told_first boots e = subst (λ b. AreTold start_of asked 0 b []) (sym e) (record { found = refl; reached = (is_first, tt); start = tt; ways = refl })

  pub told_all : (place : ℕ) (boots : List Kept) (graph : List (List Way)) → length boots ≤ place → AreTold start_of asked place boots graph → AreTold start_of asked (length boots) boots graph
  told_all place boots graph past told =
      let e : take place boots ≡ take (length boots) boots = take_all place boots past ∙ sym (take_all (length boots) boots (omega arith)) in
      record {
        found = told.found ∙ ap (found_from start_of asked) e;
        reached = told.reached;
        start = subst (AllByRecursion (λ k. (b : Boot) × (boot_of start_of asked k ≡ Some b))) e told.start;
        ways = told.ways ∙ ap (graph_of start_of asked boots) e;
      }

-- ---- refusals that are passed on

pub on_ok : {A E : Type 0} (r : Result A E) (P Q : Type 0) → (P → Q) → OnOk r P → OnOk r Q
on_ok (Ok a) P Q f h = f h
on_ok (Err e) P Q f h = h

pub if_ok : {A E : Type 0} (r : Result A E) (P Q : A → Type 0) → ((a : A) → P a → Q a) → IfOk r P → IfOk r Q
if_ok (Ok a) P Q f h = f a h
if_ok (Err e) P Q f h = h

pub on_err : {A E : Type 0} (r : Result A E) (P Q : E → Type 0) → ((e : E) → P e → Q e) → IfErr r P → IfErr r Q
on_err (Ok a) P Q f h = h
on_err (Err e) P Q f h = f e h

pub on_err_both : {A E : Type 0} (r : Result A E) (P Q R : E → Type 0) → ((e : E) → P e → Q e → R e) → IfErr r P → IfErr r Q → IfErr r R
on_err_both (Ok a) P Q R f h k = h
on_err_both (Err e) P Q R f h k = f e h k

module _ (asked : Asked) (kept : Kept) (states work bytes most : ℕ) (s : Started) (b : Boot) (old new : List Kept) (is : rehearsed asked kept s ≡ Some b) where
  -- of the boots that follow
  pub untold_ways : (e : BootsError) → (e ≡ Boots → BreaksAt (next_of_all asked b.saved (endings (told_apart asked) b.task)) most old new) → (e ≢ Boots → e ≡ Memory) → IsUntoldStarted asked kept states work bytes most s old new e
  untold_ways Boots many other = (b, is, many refl)
  untold_ways Memory many other = tt
  untold_ways (Board fault) many other = absurd (let f = other (λ e. let g = e in cc) in cc)
  untold_ways (Changes fault) many other = absurd (let f = other (λ e. let g = e in cc) in cc)
  untold_ways NoSuchVariable many other = absurd (let f = other (λ e. let g = e in cc) in cc)
  untold_ways States many other = absurd (let f = other (λ e. let g = e in cc) in cc)
  untold_ways (Steps count) many other = absurd (let f = other (λ e. let g = e in cc) in cc)
  untold_ways (Bytes count) many other = absurd (let f = other (λ e. let g = e in cc) in cc)
  untold_ways Write many other = absurd (let f = other (λ e. let g = e in cc) in cc)

  -- of its endings
  pub untold_endings : (names : List Text) (e : SumError) → names ≡ told_apart asked → (e ≡ endings_error.States → ComesToStates names (unheard b.task) (states + 1)) → ((count : ℕ) → e ≡ endings_error.Steps count → ComesToSteps names (unheard b.task) count work)
      → ((count : ℕ) → e ≡ endings_error.Bytes count → ComesToBytes names (unheard b.task) count bytes) → IsUntoldStarted asked kept states work bytes most s old new (untold_by e)
  untold_endings names endings_error.States apart few costly large = (b, is, subst (λ n. ComesToStates n (unheard b.task) (states + 1)) apart (few refl))
  untold_endings names (endings_error.Steps count) apart few costly large = (b, is, subst (λ n. ComesToSteps n (unheard b.task) count work) apart (costly count refl))
  untold_endings names (endings_error.Bytes count) apart few costly large = (b, is, subst (λ n. ComesToBytes n (unheard b.task) count bytes) apart (large count refl))
  untold_endings names endings_error.Memory apart few costly large = tt

-- of a boot that starts so
pub untold_started : (start_of : StartOf) (asked : Asked) (kept : Kept) (states work bytes most : ℕ) (s : Started) (old new : List Kept) → start_of (found_by asked kept) ≡ Ok s → (e : BootsError) → IsUntoldStarted asked kept states work bytes most s old new e
    → IsUntoldBoot start_of asked kept states work bytes most old new e
untold_started start_of asked kept states work bytes most s old new is (Board fault) h = absurd h
untold_started start_of asked kept states work bytes most s old new is (Changes fault) h = absurd h
untold_started start_of asked kept states work bytes most s old new is NoSuchVariable h = (s, is, h)
untold_started start_of asked kept states work bytes most s old new is Boots h = (s, is, h)
untold_started start_of asked kept states work bytes most s old new is States h = (s, is, h)
untold_started start_of asked kept states work bytes most s old new is (Steps count) h = (s, is, h)
untold_started start_of asked kept states work bytes most s old new is (Bytes count) h = (s, is, h)
untold_started start_of asked kept states work bytes most s old new is Write h = absurd h
untold_started start_of asked kept states work bytes most s old new is Memory h = tt

-- a boot that does not start
pub untold_start : (start_of : StartOf) (asked : Asked) (kept : Kept) (states work bytes most : ℕ) (old new : List Kept) (e : BootsError) → IsStarted (start_of (found_by asked kept)) (Err e) → IsUntoldBoot start_of asked kept states work bytes most old new e
untold_start start_of asked kept states work bytes most old new (Board (board.Start fault)) h = h
untold_start start_of asked kept states work bytes most old new (Board (board.Devices fault)) h = h
untold_start start_of asked kept states work bytes most old new (Board board.Memory) h = h
untold_start start_of asked kept states work bytes most old new (Changes fault) h = absurd h
untold_start start_of asked kept states work bytes most old new NoSuchVariable h = absurd h
untold_start start_of asked kept states work bytes most old new Boots h = absurd h
untold_start start_of asked kept states work bytes most old new States h = absurd h
untold_start start_of asked kept states work bytes most old new (Steps count) h = absurd h
untold_start start_of asked kept states work bytes most old new (Bytes count) h = absurd h
untold_start start_of asked kept states work bytes most old new Write h = absurd h
untold_start start_of asked kept states work bytes most old new Memory h = h

-- the ways from a boot that starts so
pub boot_adds : (start_of : StartOf) (asked : Asked) (kept : Kept) (s : Started) (old new : List Kept) (before : List (List Way)) (ways : List Way) → start_of (found_by asked kept) ≡ Ok s → AddsStarted asked kept s old new ways
    → AddsBoot start_of asked kept old new before (before ++ ways ∷ [])
boot_adds start_of asked kept s old new before ways is adds =
    let boot : boot_of start_of asked kept ≡ Some adds.boot = ap (rehearsed_by asked kept) is ∙ adds.is in
    record {
      boot = adds.boot;
      is = boot;
      boots = adds.boots;
      ways = ap (λ w. before ++ w ∷ []) (adds.ways ∙ ap (ways_in asked new) (sym boot));
    }

-- the first boot is one too many
pub untold_first : (start_of : StartOf) (asked : Asked) (states work bytes most : ℕ) (boots : List Kept) (e : BootsError) → (e ≡ Boots → (boots ≡ first_of asked ∷ []) × (most < length boots)) → (e ≢ Boots → e ≡ Memory) → IsUntold start_of asked states work bytes most e
untold_first start_of asked states work bytes most boots Boots many other =
    let one = (many refl).0 in
    record {
      boots = boots;
      reached = subst (AllByRecursion (IsReached start_of asked)) (sym one) (is_first, tt);
      apart = subst (λ b. each_once b ≡ b) (sym one) refl;
      many = (many refl).1;
    }
untold_first start_of asked states work bytes most boots Memory many other = tt
untold_first start_of asked states work bytes most boots (Board fault) many other = absurd (let f = other (λ e. let g = e in cc) in cc)
untold_first start_of asked states work bytes most boots (Changes fault) many other = absurd (let f = other (λ e. let g = e in cc) in cc)
untold_first start_of asked states work bytes most boots NoSuchVariable many other = absurd (let f = other (λ e. let g = e in cc) in cc)
untold_first start_of asked states work bytes most boots States many other = absurd (let f = other (λ e. let g = e in cc) in cc)
untold_first start_of asked states work bytes most boots (Steps count) many other = absurd (let f = other (λ e. let g = e in cc) in cc)
untold_first start_of asked states work bytes most boots (Bytes count) many other = absurd (let f = other (λ e. let g = e in cc) in cc)
untold_first start_of asked states work bytes most boots Write many other = absurd (let f = other (λ e. let g = e in cc) in cc)

-- ---- the whole answer

pub checked_changes : (asked : Asked) (changes : Option Text) → ChecksChanges asked.environment changes (Ok tt) → AreRightChanges asked changes
checked_changes asked None h = tt
checked_changes asked (Some text) h = h

pub lines_are : (start_of : StartOf) (asked : Asked) (most : ℕ) (boots : List Kept) (found : List FoundBy) (graph : List (List Way)) → IsExplored start_of asked most boots found graph → (text : Text) (holds : Bool)
    → AreRightChanges asked asked.changes → IsAnswer start_of asked boots asked.expected text holds → AreLines start_of asked most text holds
lines_are start_of asked most boots found graph is text holds changes answer =
    let all : take (length boots) boots ≡ boots = take_all (length boots) boots (omega arith) in
    record {
      changes = changes;
      boots = boots;
      are = record {
        all = is.told.found ∙ ap (found_from start_of asked) all;
        reached = is.told.reached;
        starts = subst (AllByRecursion (λ k. (b : Boot) × (boot_of start_of asked k ≡ Some b))) all is.told.start;
      };
      few = is.few;
      answer = answer;
    }
