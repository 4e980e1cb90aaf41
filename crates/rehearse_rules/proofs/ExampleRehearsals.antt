-- What worked examples are computed with.
use Rattle.std.proofs.Common.{◌≡◌, ℕ, zero, suc, ◌&&◌, Bool, true, false, List, [], ◌∷◌, ◌++◌, Option, Some, None, codes, refl, ap, ◌∙◌, map, take}
use Rattle.std.specs.Prelude.{unwrap_or}
use Rattle.std.specs.Fmt.{digits}
use Rattle.hushlang.specs.Expansion.{fields, joined, atoms}
use Rattle.hushlang_old.specs.OldTrees.{has_fault, lacks_end, old_tree_of}
use Rattle.hushlang_old.specs.Defaults.{variable_of, behind_variable}
use Rattle.hushlang_old.specs.OldFields.{old_fields, old_turns, inserted, word_text, command_text, read, reread}
use Rattle.hushlang_modern.specs.ModernFields.{expanded, modern_fields}
use Rattle.hushlang_modern.specs.ModernTrees.{modern_text}
use Rattle.rehearse_terms.specs.Outcomes.{OutcomeWord, WordKind, Run, Short, Long, is_run_kind}
use Rattle.rehearse_rules.specs.Choosing.{turned, first_run, first_from}
use Rattle.hushlang.specs.Trees.{tree_of}
use Rattle.rehearse_terms.specs.State.{Text, Variables}
use Rattle.device_list.specs.DeviceList.{Devices, only}
use Rattle.rehearse_terms.specs.declared.shell.Shell.TheVariants.{Profile}
use Rattle.rehearse_terms.specs.declared.written.Written.TheVariants.{Kept}
use Rattle.rehearse_rules.specs.Execution.{Limits, Ending, End}
use Rattle.device_list.specs.DeviceLaws.{quiet}
use Rattle.rehearse_rules.specs.Runs.{Task, run_on, state_of, ending_of, kind, runs, is_allowed, IsListed, rest, work}
use Rattle.rehearse_rules.specs.Listing.{listing, record_of}
use Rattle.rehearse_rules.proofs.TaskChoices.{task_begins, task_ends, task_goes_on}

-- the device list of most examples
abbrev pub only_load : Devices
only_load = only ((codes "load", quiet) ∷ [])

abbrev pub limits : Devices → ℕ → ℕ → Limits
limits devices device_bound step_bound = record { devices = devices; device_bound = device_bound; step_bound = step_bound; shell = Profile; room = None }

-- only `load` is listed, and both bounds are the usual ones
abbrev pub usual : Limits
usual = limits only_load 16 10000

-- the rehearsal of a text as `bootcmd`, among other variables, which come before and after it in byte order
abbrev pub bootcmd_among : Limits → Variables → Text → Task
bootcmd_among s environment text = record { limits = s; environment = environment; name = codes "bootcmd"; text = text; failures = None; written = Kept }

abbrev pub bootcmd : Limits → Text → Task
bootcmd s text = bootcmd_among s ((codes "bootcmd", text) ∷ []) text

-- a name that is not set
abbrev pub z : List Text
z = codes "z" ∷ []

-- the listing of a run that is cut before it asks a device command
abbrev pub cut_listing : Text
cut_listing = codes "run .\nunset z\ncut steps\ndone\n"

-- the whole listing
unfoldable pub listed : Task → List Text → Option ℕ → Text
unfolding tree_of old_tree_of has_fault lacks_end fields joined atoms digits old_fields old_turns inserted variable_of behind_variable word_text command_text read reread modern_text modern_fields expanded
listed task names limit = listing (record_of task names) (runs task) limit

-- the listing of the runs after a word
unfoldable pub listed_after : Task → OutcomeWord → List Text → Option ℕ → Text
unfolding tree_of old_tree_of has_fault lacks_end fields joined atoms digits old_fields old_turns inserted variable_of behind_variable word_text command_text read reread modern_text modern_fields expanded
listed_after task w names limit = listing (record_of task names) (rest task w) limit

-- the work of the first runs, for each of these numbers of runs
unfoldable pub works : Task → List ℕ → List ℕ
unfolding tree_of old_tree_of has_fault lacks_end fields joined atoms digits old_fields old_turns inserted variable_of behind_variable word_text command_text read reread modern_text modern_fields expanded
works task counts = map (λ k. work task (take k (runs task))) counts

-- ---- what a text writes, and how its run ends, if it asks no device command

abbrev pub Told : Type 0
Told = Text × Ending

unfoldable pub told_of : Task → Told
unfolding tree_of old_tree_of has_fault lacks_end fields joined atoms digits old_fields old_turns inserted variable_of behind_variable word_text command_text read reread modern_text modern_fields expanded
told_of task = (unwrap_or (state_of (run_on task [])).memory.text [], ending_of (run_on task []))

abbrev pub told : Text → Told
told text = told_of (bootcmd (limits only_load 2 10000) text)

abbrev pub told_with : Variables → Text → Told
told_with variables text = told_of (bootcmd_among (limits only_load 2 10000) variables text)

abbrev pub told_within : ℕ → Text → Told
told_within steps text = told_of (bootcmd (limits only_load 2 steps) text)

-- the texts write this and end with status 0
abbrev pub write : List Text → List Told
write texts = map (λ text. (text, End 0)) texts

-- ---- long texts

abbrev pub times : ℕ → Text → Text
times zero text = []
times (suc n) text = text ++ times n text

abbrev pub letters : ℕ → Text
letters zero = []
letters (suc n) = 97 ∷ letters n

-- ---- without trying all words, by the laws: the first run, and what follows each run

abbrev pub begins : Task → OutcomeWord
begins task = first_run (is_allowed task) (kind task) task.limits.device_bound

-- the run that follows if u is turned into p
abbrev pub begun_by : Task → OutcomeWord → OutcomeWord
begun_by task p = first_from (is_allowed task) (kind task) task.limits.device_bound p

-- the runs after u, at most n of them
abbrev pub followers : ℕ → Task → OutcomeWord → List OutcomeWord
followers zero task u = []
followers (suc n) task u = elim (turned (is_allowed task) u) [ None ↦ [] | Some p ↦ begun_by task p ∷ followers n task (begun_by task p) ]

-- whether u is listed
abbrev pub is_listed : Task → OutcomeWord → Bool
is_listed task u = is_run_kind (kind task u) && is_allowed task u

-- whether u is listed, and at most n runs follow it
abbrev pub are_all : ℕ → Task → OutcomeWord → Bool
are_all zero task u = is_listed task u && elim (turned (is_allowed task) u) [ None ↦ true | Some p ↦ false ]
are_all (suc n) task u = is_listed task u && elim (turned (is_allowed task) u) [ None ↦ true | Some p ↦ are_all n task (begun_by task p) ]

is_run : (task : Task) (u : OutcomeWord) (k : WordKind) (few b : Bool) → kind task u ≡ k → is_allowed task u ≡ few → ((is_run_kind k && few) && b) ≡ true → IsListed task u × (b ≡ true)
is_run task u Run true b is e h = (record { run = is; few = e }, h)
is_run task u Run false b is e h = absurd (let f = h in cc)
is_run task u Short few b is e h = absurd (let f = h in cc)
is_run task u Long few b is e h = absurd (let f = h in cc)

rest-followers : (n : ℕ) (task : Task) (u : OutcomeWord) → are_all n task u ≡ true → rest task u ≡ followers n task u
rest-followers zero task u e = by (turned (is_allowed task) u) refl e
  where
    by : (t : Option OutcomeWord) → turned (is_allowed task) u ≡ t → (is_listed task u && elim t [ None ↦ true | Some p ↦ false ]) ≡ true → rest task u ≡ []
    by None is e = task_ends task u (is_run task u (kind task u) (is_allowed task u) true refl refl e).0 is
    by (Some p) is e = absurd (let h = (is_run task u (kind task u) (is_allowed task u) false refl refl e).1 in cc)
rest-followers (suc n) task u e = by (turned (is_allowed task) u) refl e (λ v. rest-followers n task v)
  where
    by : (t : Option OutcomeWord) → turned (is_allowed task) u ≡ t → (is_listed task u && elim t [ None ↦ true | Some p ↦ are_all n task (begun_by task p) ]) ≡ true
        → ((v : OutcomeWord) → are_all n task v ≡ true → rest task v ≡ followers n task v)
        → rest task u ≡ elim t [ None ↦ [] | Some p ↦ begun_by task p ∷ followers n task (begun_by task p) ]
    by None is e later = task_ends task u (is_run task u (kind task u) (is_allowed task u) true refl refl e).0 is
    by (Some p) is e later =
        let v : OutcomeWord = begun_by task p in
        let h = is_run task u (kind task u) (is_allowed task u) (are_all n task v) refl refl e in
        task_goes_on task u p h.0 is ∙ ap (λ (vs : List OutcomeWord). v ∷ vs) (later v h.1)

-- whether these are all runs: the first and at most n after it, or the runs after u
unfoldable pub ends_along : ℕ → Task → Bool
unfolding tree_of old_tree_of has_fault lacks_end fields joined atoms digits old_fields old_turns inserted variable_of behind_variable word_text command_text read reread modern_text modern_fields expanded
ends_along n task = are_all n task (begins task)

unfoldable pub ends_behind : ℕ → Task → OutcomeWord → Bool
unfolding tree_of old_tree_of has_fault lacks_end fields joined atoms digits old_fields old_turns inserted variable_of behind_variable word_text command_text read reread modern_text modern_fields expanded
ends_behind n task u = are_all n task u

-- their listings, and the work of the first runs
unfoldable pub listed_along : ℕ → Task → List Text → Option ℕ → Text
unfolding tree_of old_tree_of has_fault lacks_end fields joined atoms digits old_fields old_turns inserted variable_of behind_variable word_text command_text read reread modern_text modern_fields expanded
listed_along n task names limit = listing (record_of task names) (begins task ∷ followers n task (begins task)) limit

unfoldable pub listed_behind : ℕ → Task → OutcomeWord → List Text → Option ℕ → Text
unfolding tree_of old_tree_of has_fault lacks_end fields joined atoms digits old_fields old_turns inserted variable_of behind_variable word_text command_text read reread modern_text modern_fields expanded
listed_behind n task u names limit = listing (record_of task names) (followers n task u) limit

unfoldable pub works_along : ℕ → Task → List ℕ → List ℕ
unfolding tree_of old_tree_of has_fault lacks_end fields joined atoms digits old_fields old_turns inserted variable_of behind_variable word_text command_text read reread modern_text modern_fields expanded
works_along n task counts = map (λ k. work task (take k (begins task ∷ followers n task (begins task)))) counts

runs-along : (n : ℕ) (task : Task) → ends_along n task ≡ true → runs task ≡ begins task ∷ followers n task (begins task)
unfolding ends_along
runs-along n task e = task_begins task ∙ ap (λ (ws : List OutcomeWord). begins task ∷ ws) (rest-followers n task (begins task) e)

pub along : (n : ℕ) (task : Task) (names : List Text) (limit : Option ℕ) (text : Text) → ends_along n task ≡ true → listed_along n task names limit ≡ text → listed task names limit ≡ text
unfolding listed listed_along
along n task names limit text e h = ap (λ (ws : List OutcomeWord). listing (record_of task names) ws limit) (runs-along n task e) ∙ h

pub behind : (n : ℕ) (task : Task) (u : OutcomeWord) (names : List Text) (limit : Option ℕ) (text : Text) → ends_behind n task u ≡ true → listed_behind n task u names limit ≡ text → listed_after task u names limit ≡ text
unfolding listed_after listed_behind ends_behind
behind n task u names limit text e h = ap (λ (ws : List OutcomeWord). listing (record_of task names) ws limit) (rest-followers n task u e) ∙ h

pub working : (n : ℕ) (task : Task) (counts numbers : List ℕ) → ends_along n task ≡ true → works_along n task counts ≡ numbers → works task counts ≡ numbers
unfolding works works_along
working n task counts numbers e h = ap (λ (ws : List OutcomeWord). map (λ k. work task (take k ws)) counts) (runs-along n task e) ∙ h
