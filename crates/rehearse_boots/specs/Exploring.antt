-- What is known while boots are explored. Ours.
use Rattle.std.specs.Prelude.{◌≡◌, ℕ, ◌+◌, ◌<◌, ◌≤◌, List, [], ◌∷◌, ◌++◌, length, map, filter, fold, take, Option, Some, None, option_map, Result, Ok, Err, Vec, if◌then◌else◌}
use Rattle.std.specs.declared.alloc.Global.{Global}
use Rattle.std.specs.List.{AllByRecursion, flat_map, list_any}
use Rattle.board_start.specs.Boards.{Fault, OfDevices, OfStart}
use Rattle.board_start.specs.declared.board_error.BoardError.TheVariants as board
use Rattle.envimage.specs.Data.{Pair}
use Rattle.envtools.specs.Scripting.{scripted}
use Rattle.envtools.specs.declared.script.ScriptError.TheVariants as script
use Rattle.rehearse_boots.specs.Boots.{Asked, Boot, IsReached, Kept, Next, StartOf, Started, boot_of, bounds_in, both, first_of, found_by, found_from, is_followed, next_after, number_of, rehearsed, same_kept, told_apart, ways_of, with_boot}
use Rattle.rehearse_boots.specs.BootLines.{way_text}
use Rattle.rehearse_boots.specs.Expecting.{is_clean}
use Rattle.rehearse_boots.specs.BootsShown.{asked_of, started_shown}
use Rattle.rehearse_boots.specs.Ways.{AreFoundBy, Way, graph_of, is_met, way_of, way_shown, ways_in}
use Rattle.rehearse_boots.specs.declared.ask.Started as rt
use Rattle.rehearse_boots.specs.declared.boots_error.BootsError.{BootsError}
use Rattle.rehearse_boots.specs.declared.boots_error.BootsError.TheVariants.{Board, Changes, NoSuchVariable, Boots, States, Steps, Bytes, Memory}
use Rattle.rehearse_boots.specs.declared.boot.Numbers.{Numbers}
use Rattle.rehearse_boots.specs.declared.boot.Telling.{Telling}
use Rattle.rehearse_boots.specs.declared.found.FoundBy.{FoundBy}
use Rattle.rehearse_boots.specs.declared.way.Way as rt_way
use Rattle.rehearse_endings.specs.Held.{ComesToBytes}
use Rattle.rehearse_endings.specs.States.{ComesToStates, ComesToSteps}
use Rattle.rehearse_endings.specs.declared.sum_error.SumError.{SumError}
use Rattle.rehearse_endings.specs.declared.sum_error.SumError.TheVariants as endings
use Rattle.rehearse_rules.specs.Expected.{Answered}
use Rattle.rehearse_rules.specs.Listing.{line}
use Rattle.rehearse_rules.specs.Runs.{unheard}
use Rattle.rehearse_states.specs.Endings.{Row}
use Rattle.rehearse_states.specs.Endings as all
use Rattle.rehearse_states.specs.EndingLines.{lines_below}
use Rattle.rehearse_terms.specs.Outcomes.{OutcomeWord}
use Rattle.rehearse_terms.specs.State.{Text}
use Rattle.text.specs.TextsShown.{bytes_of_words}

-- what is asked of the boots
abbrev pub asked_in : Telling → Asked
asked_in t = asked_of t.env.now t.ask.now

-- the names, what the first boot finds, and the bounds are those of what is asked
abbrev pub IsRight : Telling → Type 0
IsRight t =
    (map (λ n. n.now) t.apart.now ≡ told_apart (asked_in t)) × ((bytes_of_words t.first.now ≡ first_of (asked_in t))
    × (t.bounds ≡ bounds_in (asked_in t)))

abbrev pub graph_shown : List (Vec rt_way.Way Global) → List (List Way)
graph_shown graph = map (λ ways. map way_shown ways.items) graph

-- ---- the endings of one boot

-- those that are followed of some endings, and the boots that follow them
abbrev pub followed : Asked → List Row → List Row
followed asked rows = filter (is_followed asked) rows

abbrev pub next_of_all : Asked → (saved : Kept) → List Row → List Kept
next_of_all asked saved rows = flat_map (next_after asked saved) (followed asked rows)

-- the boots, after these
abbrev pub with_boots : List Kept → List Kept → List Kept
with_boots boots next = fold with_boot boots next

-- the ways from a boot to others are added, and the boots
pub record AddsWays (asked : Asked) (saved : Kept) (fails : OutcomeWord → List Answered) (rows : List Row) (old new : List Kept) (before after : List Way) : Type 0 where
  pub boots : new ≡ with_boots old (next_of_all asked saved rows)
  pub ways : after ≡ before ++ map (way_of asked new saved fails) (followed asked rows)

-- one more boot is added with the way by which it was found, if it is new
abbrev pub with_finding : FoundBy → List Kept → Kept → List FoundBy → List FoundBy
with_finding by boots kept found = if list_any (same_kept kept) boots then found else found ++ by ∷ []

abbrev pub with_findings : FoundBy → List Kept → List Kept → List FoundBy → List FoundBy
with_findings by boots [] found = found
with_findings by boots (kept ∷ next) found = with_findings by (with_boot boots kept) next (with_finding by boots kept found)

-- the boots after an ending are added, and these are their numbers
pub record AddsNext (by : FoundBy) (next : Next) (old new : List Kept) (found found' : List FoundBy) (numbers : Numbers) : Type 0 where
  pub boots : new ≡ with_boots old (both next)
  pub findings : found' ≡ with_findings by old (both next) found
  pub next_is : numbers.next ≡ number_of new next.saved
  pub changed_is : numbers.changed ≡ option_map (number_of new) next.changed

-- a way of an ending to boots of these numbers
pub record IsWay (asked : Asked) (fails : OutcomeWord → List Answered) (r : Row) (numbers : Numbers) (way : Way) : Type 0 where
  pub lines : way.lines ≡ line (way_text r numbers.next numbers.changed) ++ lines_below asked.names fails r
  pub next_is : way.next ≡ numbers.next
  pub changed_is : way.changed ≡ numbers.changed
  pub clean : way.is_clean ≡ is_clean r
  pub expected : way.is_expected ≡ is_met asked asked.expected r

-- while the boot at a place is explored, each boot is found by a way
abbrev pub StaysFound : (place : ℕ) → (ways ways' : List Way) → (boots boots' : List Kept) → (found found' : List FoundBy) → Type 0
StaysFound place ways ways' boots boots' found found' =
    (graph : List (List Way)) → length graph ≡ place → place < length boots → AreFoundBy (graph ++ ways ∷ []) boots found →
    AreFoundBy (graph ++ ways' ∷ []) boots' found'

-- with the first of these boots, there are more than allowed
pub record BreaksAt (next : List Kept) (most : ℕ) (old new : List Kept) : Type 0 where
  pub front : List Kept
  pub behind : List Kept
  pub stands : next ≡ front ++ behind
  pub boots : new ≡ with_boots old front
  pub many : most < length new

-- ---- one boot

-- the ways from a boot that starts so are added, and the boots that follow
pub record AddsStarted (asked : Asked) (kept : Kept) (s : Started) (old new : List Kept) (after : List Way) : Type 0 where
  pub boot : Boot
  pub is : rehearsed asked kept s ≡ Some boot
  pub boots : new ≡ with_boots old (flat_map (next_after asked boot.saved) (ways_of asked boot.task))
  pub ways : after ≡ ways_in asked new (Some boot)

-- how a refusal of the endings of a boot is reported
abbrev pub untold_by : SumError → BootsError
untold_by endings.States = States
untold_by (endings.Steps count) = Steps count
untold_by (endings.Bytes count) = Bytes count
untold_by endings.Memory = Memory

-- what a boot starts with, or why it does not; memory may run out before that is known
abbrev pub IsStarted : Result Started Fault → Result rt.Started BootsError → Type 0
IsStarted start (Ok s) = start ≡ Ok (started_shown s)
IsStarted start (Err (Board (board.Start fault))) = start ≡ Err (OfStart fault)
IsStarted start (Err (Board (board.Devices fault))) = start ≡ Err (OfDevices fault)
IsStarted start (Err (Board board.Memory)) = ⊥
IsStarted start (Err Memory) = Unit {0}
IsStarted start (Err error) = ⊥

-- why a boot that starts so is not reported
abbrev pub IsUntoldStarted : Asked → Kept → (states work bytes most : ℕ) → Started → (old new : List Kept) → BootsError → Type 0
IsUntoldStarted asked kept states work bytes most s old new NoSuchVariable = rehearsed asked kept s ≡ None
IsUntoldStarted asked kept states work bytes most s old new Boots =
    (b : Boot) × (rehearsed asked kept s ≡ Some b) × BreaksAt (next_of_all asked b.saved (all.endings (told_apart asked) b.task)) most old new
IsUntoldStarted asked kept states work bytes most s old new States =
    (b : Boot) × (rehearsed asked kept s ≡ Some b) × ComesToStates (told_apart asked) (unheard b.task) (states + 1)
IsUntoldStarted asked kept states work bytes most s old new (Steps count) =
    (b : Boot) × (rehearsed asked kept s ≡ Some b) × ComesToSteps (told_apart asked) (unheard b.task) count work
IsUntoldStarted asked kept states work bytes most s old new (Bytes count) =
    (b : Boot) × (rehearsed asked kept s ≡ Some b) × ComesToBytes (told_apart asked) (unheard b.task) count bytes
IsUntoldStarted asked kept states work bytes most s old new Memory = Unit {0}
IsUntoldStarted asked kept states work bytes most s old new _ = ⊥

-- why a boot is not reported
abbrev pub IsUntoldBoot : StartOf → Asked → Kept → (states work bytes most : ℕ) → (old new : List Kept) → BootsError → Type 0
IsUntoldBoot start_of asked kept states work bytes most old new (Board (board.Start fault)) = start_of (found_by asked kept) ≡ Err (OfStart fault)
IsUntoldBoot start_of asked kept states work bytes most old new (Board (board.Devices fault)) = start_of (found_by asked kept) ≡ Err (OfDevices fault)
IsUntoldBoot start_of asked kept states work bytes most old new (Board board.Memory) = ⊥
IsUntoldBoot start_of asked kept states work bytes most old new Memory = Unit {0}
IsUntoldBoot start_of asked kept states work bytes most old new error =
    (s : Started) × (start_of (found_by asked kept) ≡ Ok s) × IsUntoldStarted asked kept states work bytes most s old new error

-- the ways from a boot are added, and the boots that follow it
pub record AddsBoot (start_of : StartOf) (asked : Asked) (kept : Kept) (old new : List Kept) (before after : List (List Way)) : Type 0 where
  pub boot : Boot
  pub is : boot_of start_of asked kept ≡ Some boot
  pub boots : new ≡ with_boots old (flat_map (next_after asked boot.saved) (ways_of asked boot.task))
  pub ways : after ≡ before ++ ways_in asked new (boot_of start_of asked kept) ∷ []

-- while it is, each boot stays found by a way
abbrev pub AreStillFound : (place : ℕ) → (graph graph' : List (List Way)) → (boots boots' : List Kept) → (found found' : List FoundBy) → Type 0
AreStillFound place graph graph' boots boots' found found' =
    length graph ≡ place → place < length boots → AreFoundBy graph boots found → AreFoundBy graph' boots' found'

-- ---- so many boots

-- the first so many were explored
pub record AreTold (start_of : StartOf) (asked : Asked) (count : ℕ) (boots : List Kept) (graph : List (List Way)) : Type 0 where
  pub found : boots ≡ found_from start_of asked (take count boots)
  pub reached : AllByRecursion (IsReached start_of asked) boots
  pub start : AllByRecursion (λ kept. (b : Boot) × (boot_of start_of asked kept ≡ Some b)) (take count boots)
  pub ways : graph ≡ graph_of start_of asked boots (take count boots)

-- all were explored
pub record IsExplored (start_of : StartOf) (asked : Asked) (most : ℕ) (boots : List Kept) (found : List FoundBy) (graph : List (List Way)) : Type 0 where
  pub told : AreTold start_of asked (length boots) boots graph
  pub by : AreFoundBy graph boots found
  pub few : length boots ≤ most

-- ---- the script of changes

-- no line of it is refused, or this one
abbrev pub ChecksChanges : List Pair → (changes : Option Text) → Result (Unit {0}) BootsError → Type 0
ChecksChanges environment None (Ok u) = Unit {0}
ChecksChanges environment (Some changes) (Ok u) = (scripted environment changes).fault ≡ None
ChecksChanges environment (Some changes) (Err (Changes (script.BadName number))) = (scripted environment changes).fault ≡ Some (script.BadName number)
ChecksChanges environment (Some changes) (Err (Changes (script.BadValue number))) = (scripted environment changes).fault ≡ Some (script.BadValue number)
ChecksChanges environment changes (Err Memory) = Unit {0}
ChecksChanges environment changes (Err error) = ⊥
