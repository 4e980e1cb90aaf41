-- What may be reported in the place of what commands read and write.
use Rattle.std.proofs.Common.{◌≡◌, ◌∙◌, refl, sym, ap, subst, ℕ, suc, Bool, true, false, List, [], ◌∷◌, ◌++◌, append_assoc, map, length, Option, Some, None, inl, nat_lt, nat_le, nat_eq, if◌then◌else◌}
use Rattle.std.specs.List.{flat_map}
use Rattle.hushlang.specs.Tree as tree
use Rattle.hushlang.specs.Tree.{Arms}
use Rattle.hushlang.specs.Expansion.{size, most_bytes}
use Rattle.hushlang_old.specs.Defaults.{variable_of, has_more}
use Rattle.device_list.specs.Called.{sets_in}
use Rattle.device_list.specs.DeviceList.{Effect}
use Rattle.rehearse_terms.specs.Outcomes.{Outcome, Success, Failure}
use Rattle.rehearse_terms.specs.State.{Text, Memory, State, get}
use Rattle.rehearse_terms.specs.declared.shell.Shell.{Shell}
use Rattle.rehearse_terms.specs.declared.shell.Shell.TheVariants.{Profile, Old2023, Old2025, Modern2025}
use Rattle.rehearse_rules.specs.ByShell.{fields_in, turns_in, assigned_in, is_refused, reads_again, follows_turns}
use Rattle.rehearse_rules.specs.Parameters.{parameters_in}
use Rattle.rehearse_rules.specs.Execution.{Limits, Request, told, outcome_when, assign_local, for_begun}
use Rattle.rehearse_reads.specs.Keys.{Key, Access, Reads, Writes, Environment, Local, Status, all_read, AreAmong, keys_in_front, Covers}
use Rattle.rehearse_reads.specs.Accesses.{status_written, variable_reads, inside_reads, piece_reads, word_reads, words_reads, copied_keys, room_reads, names_written, told_reads, handing_reads, outcome_writes, outcome_accesses, sized_accesses, local_accesses, assign_accesses, nothing_accesses, begun_accesses, modern_accesses}
use Rattle.rehearse_reads.proofs.KeysRead.{covering_joins}
use Rattle.rehearse_reads.proofs.AbreastLemmas.{still_among}
use Rattle.rehearse_frames.specs.MoveAccesses.{of_asking, of_telling, of_beginning_for, of_beginning_arms, of_fields, of_command, of_beginning_turns, of_beginning_words}
use Rattle.rehearse_reports.proofs.ReportLemmas.{covers_itself, covers_through, covers_less, covers_write, covers_written, reads_cover, reads_alone, nothing_after}

pub covers_status : Covers [] status_written
covers_status = covers_write Status [] (covers_itself [])

pub covers_nothing : (shell : Shell) → Covers [] (nothing_accesses shell)
covers_nothing Profile = covers_status
covers_nothing Old2023 = covers_itself []
covers_nothing Old2025 = covers_itself []
covers_nothing Modern2025 = covers_itself []

-- a status that is written in the modern shell alone needs nothing known
pub covers_modern : (shell : Shell) (xs ys : List Access) → Covers xs ys → Covers xs (modern_accesses shell ++ ys)
covers_modern Profile xs ys h = h
covers_modern Old2023 xs ys h = h
covers_modern Old2025 xs ys h = h
covers_modern Modern2025 xs ys h = covers_written Status xs ys h

-- ---- device commands

pub covers_names : (names : List Text) → Covers [] (names_written names)
covers_names [] = covers_itself []
covers_names (name ∷ names) = covers_write (Environment name) (names_written names) (covers_names names)

covers_writes : (outcome : Outcome) (request : Request) → Covers [] (outcome_writes outcome request)
covers_writes Success request = covers_write Status (names_written (map (λ e. e.0) (sets_in request.words request.effect.sets))) (covers_names (map (λ e. e.0) (sets_in request.words request.effect.sets)))
covers_writes Failure request = covers_status

-- what is read before the outcome
abbrev pub early_reads : Effect → List Access
early_reads effect = handing_reads effect.runs ++ all_read (copied_keys effect.sets)

early_alone : (runs : List Text) (keys : List Key) → Covers (handing_reads runs ++ all_read keys) []
early_alone [] keys = reads_alone keys
early_alone (name ∷ others) keys = reads_alone (Status ∷ keys)

covers_told : (o : Option Bool) (request : Request) → Covers (early_reads request.effect) (of_telling o request)
covers_told None request = early_alone request.effect.runs (copied_keys request.effect.sets)
covers_told (Some success) request =
    let writes : List Access = outcome_writes (outcome_when success) request in
    subst (Covers (early_reads request.effect)) (append_assoc (handing_reads request.effect.runs) (all_read (copied_keys request.effect.sets)) writes)
    (covers_less (early_reads request.effect) writes (covers_writes (outcome_when success) request))

-- the answer is read, if a device command is left, and what is read before the outcome
pub covers_asking : (limits : Limits) (request : Request) (s : State) → Covers (all_read (told_reads request) ++ early_reads request.effect) (of_asking limits request s)
covers_asking limits request s = by (nat_lt (length s.log) limits.device_bound)
  where
    keys : List Access
    keys = all_read (told_reads request)

    early : List Access
    early = early_reads request.effect

    by : (b : Bool) → Covers (keys ++ early) (elim b [ true ↦ keys ++ of_telling (told request s.log) request | false ↦ [] ])
    by true = covering_joins keys (of_telling (told request s.log) request) keys early (covers_itself keys) (covers_told (told request s.log) request)
    by false = reads_cover (told_reads request) early [] (early_alone request.effect.runs (copied_keys request.effect.sets))

-- what may be read in front of the outcome may also be reported before that
behind_reads : (keys first : List Key) (others : List Access) (later : List Key) → AreAmong keys (keys_in_front others later) → AreAmong keys (keys_in_front (all_read first ++ others) later)
behind_reads keys [] others later h = h
behind_reads keys (key ∷ first) others later h = still_among (keys_in_front (all_read first ++ others) later) key keys (behind_reads keys first others later h)

read_in_front : (keys later : List Key) → AreAmong keys (keys_in_front (all_read keys) later)
read_in_front [] later = tt
read_in_front (key ∷ keys) later = (inl refl, still_among (keys_in_front (all_read keys) later) key keys (read_in_front keys later))

reads_before : (keys : List Key) (others accesses : List Access) → ((later : List Key) → AreAmong keys (keys_in_front others later)) → Covers others accesses → Covers others (all_read keys ++ accesses)
reads_before [] others accesses h k = k
reads_before (key ∷ keys) others accesses h k = λ later. ((h later).0, reads_before keys others accesses (λ ks. (h ks).1) k later)

room_in_front : (room : Option ℕ) (first : List Key) (effect : Effect) (later : List Key) → AreAmong (room_reads room effect.sets) (keys_in_front (all_read first ++ early_reads effect) later)
room_in_front None first effect later = tt
room_in_front (Some room) first effect later = behind_reads copied first (early_reads effect) later (by effect.runs)
  where
    copied : List Key
    copied = copied_keys effect.sets

    by : (runs : List Text) → AreAmong copied (keys_in_front (handing_reads runs ++ all_read copied) later)
    by [] = read_in_front copied later
    by (name ∷ others) = still_among (keys_in_front (all_read copied) later) Status copied (read_in_front copied later)

-- so the room is read with it
pub covers_room : (limits : Limits) (request : Request) (s : State) → Covers (all_read (told_reads request) ++ early_reads request.effect) (all_read (room_reads limits.room request.effect.sets) ++ of_asking limits request s)
covers_room limits request s =
    reads_before (room_reads limits.room request.effect.sets) (all_read (told_reads request) ++ early_reads request.effect) (of_asking limits request s)
    (room_in_front limits.room (told_reads request) request.effect) (covers_asking limits request s)

-- ---- commands that begin

pub covers_arms : (shell : Shell) (arms : Arms) → Covers [] (of_beginning_arms shell arms)
covers_arms shell (tree.Arm c b arms) = covers_itself []
covers_arms shell (tree.Else b) = covers_itself []
covers_arms shell tree.NoElse = covers_nothing shell

covers_first : (fields : List Text) → Covers [] (of_beginning_for fields)
covers_first [] = covers_status
covers_first (f ∷ fields) = covers_itself []

-- what words read again, where the variables of the environment are the same
variable_again : (m n : Memory) (name : Text) → n.environment ≡ m.environment → variable_reads n name ≡ variable_reads m name
variable_again m n name e = ap (λ v. Environment name ∷ (elim (get v name) [ Some value ↦ [] | None ↦ Local name ∷ [] ])) e

inside_again : (m n : Memory) (inside : Text) → n.environment ≡ m.environment → inside_reads n inside ≡ inside_reads m inside
inside_again m n inside e =
    let some = has_more inside in
    ap (λ (x : List Key). x ++ (if some then variable_reads n (variable_of inside) else [])) (variable_again m n inside e)
    ∙ ap (λ (x : List Key). variable_reads m inside ++ (if some then x else [])) (variable_again m n (variable_of inside) e)

piece_again : (m n : Memory) (piece : tree.Piece) → n.environment ≡ m.environment → piece_reads n piece ≡ piece_reads m piece
piece_again m n (tree.Bytes bytes) e = refl
piece_again m n tree.Mark e = refl
piece_again m n (tree.Var name split) e = inside_again m n name e
piece_again m n tree.Status e = refl

word_again : (m n : Memory) (word : tree.Word) → n.environment ≡ m.environment → word_reads n word ≡ word_reads m word
word_again m n [] e = refl
word_again m n (piece ∷ word) e = ap (λ (x : List Key). x ++ word_reads n word) (piece_again m n piece e) ∙ ap (λ (x : List Key). piece_reads m piece ++ x) (word_again m n word e)

words_again : (m n : Memory) (words : List tree.Word) → n.environment ≡ m.environment → words_reads n words ≡ words_reads m words
words_again m n [] e = refl
words_again m n (word ∷ words) e = ap (λ (x : List Key). x ++ words_reads n words) (word_again m n word e) ∙ ap (λ (x : List Key). word_reads m word ++ x) (words_again m n words e)

covers_turns : (shell : Shell) (name : Text) (fields : List Text) → Covers [] (of_beginning_turns shell name fields)
covers_turns shell name fields = by (follows_turns shell name fields)
  where
    by : (b : Bool) → Covers [] (elim b [ true ↦ of_beginning_for fields | false ↦ [] ])
    by true = covers_first fields
    by false = covers_itself []

-- the words of a `for`
covers_words : (shell : Shell) (name : Text) (words : List tree.Word) (s : State) → Covers (all_read (words_reads s.memory words)) (of_beginning_words shell name words s)
covers_words shell name words s =
    covers_less (all_read (words_reads s.memory words)) (sized_accesses (turns_in shell (parameters_in s.memory) words) (λ values u. of_beginning_turns shell name values) s)
    (by (nat_le (size (turns_in shell (parameters_in s.memory) words)) most_bytes) (turns_in shell (parameters_in s.memory) words))
  where
    by : (b : Bool) (fields : List Text) → Covers [] (elim b [ true ↦ of_beginning_turns shell name fields | false ↦ [] ])
    by true fields = covers_turns shell name fields
    by false fields = covers_itself []

pub covers_for : (limits : Limits) (name : Text) (words : List tree.Word) (body : tree.Script) (s : State) → Covers (all_read (words_reads s.memory words)) (of_command limits (tree.For name words body) [] s)
covers_for limits name words body s = by (nat_lt s.steps limits.step_bound)
  where
    begun : State
    begun = for_begun limits.shell (record s { steps = suc s.steps })

    by : (b : Bool) → Covers (all_read (words_reads s.memory words)) (elim b [ true ↦ modern_accesses limits.shell ++ of_beginning_words limits.shell name words begun | false ↦ [] ])
    by true =
        covers_modern limits.shell (all_read (words_reads s.memory words)) (of_beginning_words limits.shell name words begun)
        (subst (λ (keys : List Key). Covers (all_read keys) (of_beginning_words limits.shell name words begun)) (words_again s.memory begun.memory words refl) (covers_words limits.shell name words begun))
    by false = reads_alone (words_reads s.memory words)

-- a step that is begun, or is none
pub begun_so : (limits : Limits) (body : State → List Access) (s : State) (b : Bool) → nat_lt s.steps limits.step_bound ≡ b
    → begun_accesses limits body s ≡ (elim b [ true ↦ body (record s { steps = suc s.steps }) | false ↦ [] ])
begun_so limits body s b e = ap (λ (x : Bool). elim x [ true ↦ body (record s { steps = suc s.steps }) | false ↦ [] ]) e

-- a simple command whose fields are known
pub call_so : (limits : Limits) (words : List tree.Word) (s : State) (fields : List Text) → nat_lt s.steps limits.step_bound ≡ true → fields ≡ fields_in limits.shell (parameters_in s.memory) words → nat_le (size fields) most_bytes ≡ true
    → all_read (words_reads s.memory words) ++ of_fields limits (reads_again words) [] fields (record s { steps = suc s.steps }) ≡ of_command limits (tree.Simple words) [] s
call_so limits words s fields e is fits =
    let t : State = record s { steps = suc s.steps } in
    sym (begun_so limits (λ u. all_read (words_reads u.memory words) ++ sized_accesses (fields_in limits.shell (parameters_in u.memory) words) (of_fields limits (reads_again words) []) u) s true e
    ∙ ap (λ (fs : List Text). all_read (words_reads s.memory words) ++ sized_accesses fs (of_fields limits (reads_again words) []) t) (sym is)
    ∙ ap (λ (b : Bool). all_read (words_reads s.memory words) ++ (elim b [ true ↦ of_fields limits (reads_again words) [] fields t | false ↦ [] ])) fits)

-- and one whose fields hold too many bytes
pub long_so : (limits : Limits) (words : List tree.Word) (s : State) → nat_lt s.steps limits.step_bound ≡ true → nat_le (size (fields_in limits.shell (parameters_in s.memory) words)) most_bytes ≡ false
    → all_read (words_reads s.memory words) ≡ of_command limits (tree.Simple words) [] s
long_so limits words s e fits =
    let fields : List Text = fields_in limits.shell (parameters_in s.memory) words in
    let t : State = record s { steps = suc s.steps } in
    sym (begun_so limits (λ u. all_read (words_reads u.memory words) ++ sized_accesses (fields_in limits.shell (parameters_in u.memory) words) (of_fields limits (reads_again words) []) u) s true e
    ∙ ap (λ (b : Bool). all_read (words_reads s.memory words) ++ (elim b [ true ↦ of_fields limits (reads_again words) [] fields t | false ↦ [] ])) fits
    ∙ nothing_after (all_read (words_reads s.memory words)))

-- ---- assignments

covers_local : (shell : Shell) (name value : Text) → Covers [] (local_accesses shell name value)
covers_local shell name value = by (is_refused shell value)
  where
    by : (b : Bool) → Covers [] (if b then [] else Writes (Local name) ∷ [])
    by true = covers_itself []
    by false = covers_write (Local name) [] (covers_itself [])

-- what the words of the values read
abbrev pub values_reads : Memory → List (Text × tree.Word) → List Key
values_reads m [] = []
values_reads m (pair ∷ pairs) = word_reads m pair.1 ++ values_reads m pairs

reads_joined : (xs ys : List Key) → all_read (xs ++ ys) ≡ all_read xs ++ all_read ys
reads_joined [] ys = refl
reads_joined (x ∷ xs) ys = ap (λ (zs : List Access). Reads x ∷ zs) (reads_joined xs ys)

-- a value that fits is assigned, and the ones after it
abbrev assigned_if : Bool → Shell → Text × tree.Word → List (Text × tree.Word) → State → List Access
assigned_if b shell pair pairs s =
    elim b [ true ↦ local_accesses shell pair.0 (assigned_in shell (parameters_in s.memory) pair.1) ++ assign_accesses shell pairs (assign_local shell pair.0 (assigned_in shell (parameters_in s.memory) pair.1) s) | false ↦ [] ]

covers_rest : (b : Bool) (shell : Shell) (pair : Text × tree.Word) (pairs : List (Text × tree.Word)) (s : State) (keys : List Key)
    → Covers (all_read keys) (assign_accesses shell pairs (assign_local shell pair.0 (assigned_in shell (parameters_in s.memory) pair.1) s)) → Covers (all_read keys) (assigned_if b shell pair pairs s)
covers_rest true shell pair pairs s keys h =
    let value : Text = assigned_in shell (parameters_in s.memory) pair.1 in
    covering_joins (local_accesses shell pair.0 value) (assign_accesses shell pairs (assign_local shell pair.0 value s)) [] (all_read keys) (covers_local shell pair.0 value) h
covers_rest false shell pair pairs s keys h = reads_alone keys

-- of assignments it is enough to report what their words read
pub covers_values : (shell : Shell) (m : Memory) (pairs : List (Text × tree.Word)) (s : State) → s.memory.environment ≡ m.environment → Covers (all_read (values_reads m pairs)) (assign_accesses shell pairs s)
covers_values shell m [] s e = covers_status
covers_values shell m (pair ∷ pairs) s e =
    let fits : Bool = nat_le (length (assigned_in shell (parameters_in s.memory) pair.1)) most_bytes in
    subst (λ (xs : List Access). Covers xs (assign_accesses shell (pair ∷ pairs) s)) (sym (reads_joined (word_reads m pair.1) (values_reads m pairs)))
    (covering_joins (all_read (word_reads s.memory pair.1)) (assigned_if fits shell pair pairs s) (all_read (word_reads m pair.1)) (all_read (values_reads m pairs))
    (subst (λ (keys : List Key). Covers (all_read (word_reads m pair.1)) (all_read keys)) (sym (word_again m s.memory pair.1 e)) (covers_itself (all_read (word_reads m pair.1))))
    (covers_rest fits shell pair pairs s (values_reads m pairs) (covers_values shell m pairs (assign_local shell pair.0 (assigned_in shell (parameters_in s.memory) pair.1) s) e)))

-- ---- assignments as they are reported

-- the words of a value are read, which is too long
pub assign_long : (limits : Limits) (pair : Text × tree.Word) (pairs : List (Text × tree.Word)) (s : State) → nat_lt s.steps limits.step_bound ≡ true → nat_le (length (assigned_in limits.shell (parameters_in s.memory) pair.1)) most_bytes ≡ false
    → all_read (word_reads s.memory pair.1) ≡ of_command limits (tree.Assign (pair ∷ pairs)) [] s
assign_long limits pair pairs s e fits =
    sym (begun_so limits (assign_accesses limits.shell (pair ∷ pairs)) s true e
    ∙ ap (λ (b : Bool). all_read (word_reads s.memory pair.1) ++ assigned_if b limits.shell pair pairs (record s { steps = suc s.steps })) fits
    ∙ nothing_after (all_read (word_reads s.memory pair.1)))

-- or it fits: its variable is written, and the words of the values after it are read
pub assign_fits : (limits : Limits) (pair : Text × tree.Word) (pairs : List (Text × tree.Word)) (s : State) → nat_lt s.steps limits.step_bound ≡ true → nat_le (length (assigned_in limits.shell (parameters_in s.memory) pair.1)) most_bytes ≡ true
    → Covers (all_read (word_reads s.memory pair.1) ++ (local_accesses limits.shell pair.0 (assigned_in limits.shell (parameters_in s.memory) pair.1) ++ all_read (values_reads s.memory pairs))) (of_command limits (tree.Assign (pair ∷ pairs)) [] s)
assign_fits limits pair pairs s e fits =
    let t : State = record s { steps = suc s.steps } in
    let value : Text = assigned_in limits.shell (parameters_in s.memory) pair.1 in
    let reads : List Access = all_read (word_reads s.memory pair.1) in
    let written : List Access = local_accesses limits.shell pair.0 value in
    let rest : List Access = assign_accesses limits.shell pairs (assign_local limits.shell pair.0 value t) in
    subst (λ (xs : List Access). Covers (reads ++ (written ++ all_read (values_reads s.memory pairs))) xs)
    (sym (begun_so limits (assign_accesses limits.shell (pair ∷ pairs)) s true e ∙ ap (λ (b : Bool). reads ++ assigned_if b limits.shell pair pairs t) fits))
    (covering_joins reads (written ++ rest) reads (written ++ all_read (values_reads s.memory pairs)) (covers_itself reads)
    (covering_joins written rest written (all_read (values_reads s.memory pairs)) (covers_itself written) (covers_values limits.shell s.memory pairs (assign_local limits.shell pair.0 value t) refl)))

-- no value is assigned
pub assign_none : (limits : Limits) (s : State) → Covers [] (of_command limits (tree.Assign []) [] s)
assign_none limits s = by (nat_lt s.steps limits.step_bound)
  where
    by : (b : Bool) → Covers [] (elim b [ true ↦ status_written | false ↦ [] ])
    by true = covers_status
    by false = covers_itself []

-- no step is left
pub none_begun : (limits : Limits) (command : tree.Command) (s : State) → nat_lt s.steps limits.step_bound ≡ false → Covers [] (of_command limits command [] s)
none_begun limits (tree.Simple words) s e =
    subst (Covers []) (sym (begun_so limits (λ u. all_read (words_reads u.memory words) ++ sized_accesses (fields_in limits.shell (parameters_in u.memory) words) (of_fields limits (reads_again words) []) u) s false e)) (covers_itself [])
none_begun limits (tree.Assign pairs) s e = subst (Covers []) (sym (begun_so limits (assign_accesses limits.shell pairs) s false e)) (covers_itself [])
none_begun limits (tree.If arms) s e = covers_arms limits.shell arms
none_begun limits (tree.Loop until c b) s e = covers_itself []
none_begun limits (tree.For name words body) s e =
    subst (Covers []) (sym (begun_so limits (λ t. modern_accesses limits.shell ++ of_beginning_words limits.shell name words (for_begun limits.shell t)) s false e)) (covers_itself [])
