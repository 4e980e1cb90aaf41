-- Calls one after another on files whose contents are known: reads, and then a write, or a file that is made.
use Rattle.std.proofs.Common.{◌≡◌, ◌∙◌, ℕ, true, refl, sym, ap, List, [], ◌∷◌, ◌++◌, append_assoc, append-nil, Ok, Err}
use Rattle.std.specs.Prelude.{Result, Vec}
use Rattle.std.specs.declared.alloc.Global.{Global}
use Rattle.std.proofs.lemmas.List.Folds.{list_all-append}
use Rattle.tool_files.specs.CallOrder.{CreatesLast, OnlyReads, WritesLast, are_reads, is_read}
use Rattle.tool_files.specs.Told.{ReadsAll, ReadsAt, Told}
use Rattle.tool_files.specs.declared.files.Action.{Action}
use Rattle.tool_files.specs.declared.files.Action.TheVariants.{Create, ReadAll, ReadAt, WriteAt}
use Rattle.tool_files.specs.declared.files.FileFault.{FileFault}
use Rattle.tool_files.specs.declared.files.FileFault.TheVariants.{Failed, Short, TooLong, Memory}

-- no call
pub OnlyReads-none : (told : Told) → OnlyReads told told
OnlyReads-none told = record { reads = []; calls = sym (append-nil told.calls); all = refl; stored = refl }

-- reads, and then reads
pub OnlyReads-then : (x y z : Told) → OnlyReads x y → OnlyReads y z → OnlyReads x z
OnlyReads-then x y z first second = record {
  reads = first.reads ++ second.reads;
  calls = second.calls ∙ ap (λ (cs : List (List ℕ × Action)). cs ++ second.reads) first.calls ∙ append_assoc x.calls first.reads second.reads;
  all = both first.reads second.reads first.all second.all;
  stored = second.stored ∙ first.stored;
}
  where
    both : (cs ds : List (List ℕ × Action)) → are_reads cs ≡ true → are_reads ds ≡ true → are_reads (cs ++ ds) ≡ true
    both cs ds e f = rw (list_all-append, e, f) refl

-- one read
pub OnlyReads-one : (path : List ℕ) (action : Action) (old new : Told) → is_read action ≡ true → new.calls ≡ old.calls ++ (path, action) ∷ [] → new.stored ≡ old.stored
    → OnlyReads old new
OnlyReads-one path action old new read calls stored = record { reads = (path, action) ∷ []; calls = calls; all = rw read refl; stored = stored }

-- nothing called and nothing changed
pub OnlyReads-same : (old new : Told) → new.calls ≡ old.calls → new.stored ≡ old.stored → OnlyReads old new
OnlyReads-same old new calls stored = record { reads = []; calls = calls ∙ sym (append-nil old.calls); all = refl; stored = stored }

-- a read of a whole file
pub OnlyReads-whole : (path : List ℕ) (old new : Told) (r : Result (Vec ℕ Global) FileFault) → ReadsAll path old new r → OnlyReads old new
OnlyReads-whole path old new (Ok bytes) h = OnlyReads-one path ReadAll old new refl h.calls h.stored
OnlyReads-whole path old new (Err Memory) h = OnlyReads-same old new h.calls h.stored
OnlyReads-whole path old new (Err Failed) h = OnlyReads-one path ReadAll old new refl h.calls h.stored
OnlyReads-whole path old new (Err Short) h = OnlyReads-one path ReadAll old new refl h.calls h.stored
OnlyReads-whole path old new (Err TooLong) h = OnlyReads-one path ReadAll old new refl h.calls h.stored

-- a read of a part
pub OnlyReads-part : (path : List ℕ) (offset size : ℕ) (old new : Told) (r : Result (Vec ℕ Global) FileFault) → ReadsAt path offset size old new r → OnlyReads old new
OnlyReads-part path offset size old new (Ok bytes) h = OnlyReads-one path (ReadAt offset size) old new refl h.calls h.stored
OnlyReads-part path offset size old new (Err Memory) h = OnlyReads-same old new h.calls h.stored
OnlyReads-part path offset size old new (Err Failed) h = OnlyReads-one path (ReadAt offset size) old new refl h.calls h.stored
OnlyReads-part path offset size old new (Err Short) h = OnlyReads-one path (ReadAt offset size) old new refl h.calls h.stored
OnlyReads-part path offset size old new (Err TooLong) h = OnlyReads-one path (ReadAt offset size) old new refl h.calls h.stored

-- reads, and then a write that was made
pub WritesLast-then : (path : List ℕ) (offset size : ℕ) (x y z : Told) → OnlyReads x y → z.calls ≡ y.calls ++ (path, WriteAt offset size) ∷ []
    → WritesLast path offset size x z
WritesLast-then path offset size x y z first calls = record {
  reads = first.reads;
  calls = calls ∙ ap (λ (cs : List (List ℕ × Action)). cs ++ (path, WriteAt offset size) ∷ []) first.calls ∙ append_assoc x.calls first.reads ((path, WriteAt offset size) ∷ []);
  all = first.all;
}

-- reads, and then a file that was made
pub CreatesLast-then : (path : List ℕ) (size : ℕ) (x y z : Told) → OnlyReads x y → z.calls ≡ y.calls ++ (path, Create size) ∷ []
    → CreatesLast path size x z
CreatesLast-then path size x y z first calls = record {
  reads = first.reads;
  calls = calls ∙ ap (λ (cs : List (List ℕ × Action)). cs ++ (path, Create size) ∷ []) first.calls ∙ append_assoc x.calls first.reads ((path, Create size) ∷ []);
  all = first.all;
}
