-- Laws of what runs read, over the definitions alone. Ours.
use Rattle.std.specs.Prelude.{◌≡◌, ℕ, List, ◌++◌, ◌↔◌}
use Rattle.hushlang.specs.Tree.{Script}
use Rattle.rehearse_terms.specs.Outcomes.{OutcomeWord}
use Rattle.rehearse_terms.specs.State.{Text, State}
use Rattle.rehearse_rules.specs.Execution.{Limits, exec, run_text}
use Rattle.rehearse_rules.specs.Runs.{Task, run_on, unheard}
use Rattle.rehearse_reads.specs.Keys.{Key, Access, AreAmong, AgreeOn, all_read, ReadsWithin, keys_in_front, keys_read, known_after, Covers}
use Rattle.rehearse_reads.specs.Accesses.{accesses, run_text_accesses}
use Rattle.rehearse_reads.specs.Alike.{IsAlike, EndAlike, ComeToSame}

-- ---- keys

-- the keys that are read before they are written are all that has to be known, and no key too many
abbrev pub KeysReadSuffice : Type 0
KeysReadSuffice = (accesses : List Access) (known : List Key) →
    ReadsWithin known accesses ↔ AreAmong (keys_read accesses) known

-- of one stretch after another: what the first one reads, and what the second one reads that the first has not written
abbrev pub StretchesJoin : Type 0
StretchesJoin = (front behind : List Access) (later : List Key) →
    keys_in_front (front ++ behind) later ≡ keys_in_front front (keys_in_front behind later)

-- with more keys after, no fewer have to be known in front
abbrev pub MoreKeysInFront : Type 0
MoreKeysInFront = (front : List Access) (later more : List Key) → AreAmong later more →
    AreAmong (keys_in_front front later) (keys_in_front front more)

-- accesses that cover those of one stretch and of the next cover both
abbrev pub CoveringJoins : Type 0
CoveringJoins = (front behind one other : List Access) → Covers one front → Covers other behind → Covers (one ++ other) (front ++ behind)

-- a key that is read besides does no harm
abbrev pub FurtherReadsCover : Type 0
FurtherReadsCover = (accesses : List Access) (keys : List Key) → Covers (all_read keys ++ accesses) accesses

-- ---- runs

-- From two states that agree on some keys, among which is what a script reads before it writes it, the script goes on
-- alike, as far as the bounds allow. The states that it reaches agree on these keys and on all that it wrote.
abbrev pub StatesGoAlike : Type 0
StatesGoAlike = (limits : Limits) (left : ℕ) (script : Script) (keys : List Key) (s t : State) → let reached =
    accesses limits left script s in AreAmong (keys_read reached) keys → AgreeOn keys s t → t.word ≡ s.word →
    IsAlike limits s.steps t.steps s.log t.log (known_after keys reached)
    (exec limits left script s) (exec limits left script t)

-- So does the text of a variable, up to the end of its run: whether the word is a run, how it ends, the further commands
-- in its log, and how many steps and device commands it needs room for.
abbrev pub RunsEndAlike : Type 0
RunsEndAlike = (limits : Limits) (left : ℕ) (name text : Text) (keys : List Key) (s t : State) → let reached =
    run_text_accesses limits left name text s in AreAmong (keys_read reached) keys → AgreeOn keys s t → t.word ≡ s.word →
    EndAlike limits s.steps t.steps s.log t.log (known_after keys reached)
    (run_text limits (exec limits left) name text s) (run_text limits (exec limits left) name text t)

-- A rehearsal of which the text is dropped has the same runs. Each ends in the same way, after the same device commands and as
-- many steps, and leaves the same values of the variables of the environment.
abbrev pub UnheardRunsGoAlike : Type 0
UnheardRunsGoAlike = (task : Task) (w : OutcomeWord) → ComeToSame (run_on task w) (run_on (unheard task) w)
