-- The images of a call, read by what names them.
use Rattle.std.proofs.Common.{◌∙◌, ℕ, refl, sym, ap, subst, List, [], ◌∷◌, ◌++◌, append_assoc, Option, Some, None, Ok, Err, inl, inr}
use Rattle.std.specs.Prelude.{Result}
use Rattle.tool_files.proofs.OrderLemmas.{OnlyReads-none, OnlyReads-one, OnlyReads-then}
use Rattle.tool_files.specs.CallOrder.{OnlyReads}
use Rattle.tool_files.specs.Told.{Stored, Told, file_at}
use Rattle.tool_files.specs.declared.files.Action.{Action}
use Rattle.tool_files.specs.declared.files.Action.TheVariants.{ReadAll}
use Rattle.tool_images.specs.declared.fault.Fault.{Fault}
use Rattle.tool_images.specs.declared.fault.Fault.TheVariants as fault
use Rattle.tool_steps.proofs.ReadingLemmas.{found-reads}
use Rattle.tool_steps.specs.Images.{Copy}
use Rattle.tool_steps.specs.Origins.{AreUnequal, HasReadFiles, HasReadImages, IsFilesFault, PairsUp, ReadsFile, ReadsFiles}
use Rattle.tool_steps.specs.ReadingFiles.{IsTextFault}
use Rattle.tool_steps.specs.declared.images.Images.{Images}
use Rattle.tool_steps.specs.declared.read.StoredCopy.{StoredCopy}
use Rattle.tool_words.specs.Asked.{OriginShown, configured, no_images, texts, whole}

-- ---- each of them only reads

file-reads : (path : List ℕ) (old new : Told) (copy : StoredCopy) → ReadsFile path old new (Ok copy) → OnlyReads old new
file-reads path old new copy h = OnlyReads-one path ReadAll old new refl h.1.calls h.1.stored

files-read : (first : List ℕ) (second : Option (List ℕ)) (old new : Told) (found : List Copy) → HasReadFiles first second old new found → OnlyReads old new
files-read first None old new found h = OnlyReads-one first ReadAll old new refl h.calls h.stored
files-read first (Some second) old new found h = record { reads = (first, ReadAll) ∷ (second, ReadAll) ∷ []; calls = h.calls; all = refl; stored = h.stored }

pub origin-reads : (origin : OriginShown) (old new : Told) (found : List Copy) → HasReadImages origin old new found → OnlyReads old new
origin-reads (configured config) old new found h = found-reads config old new found h
origin-reads (whole first second) old new found h = files-read first second old new found h
origin-reads (texts path order) old new found h = OnlyReads-one path ReadAll old new refl h.calls h.stored
origin-reads (no_images order) old new found h = subst (λ (t : Told). OnlyReads old t) (sym h.same) (OnlyReads-none old)

-- ---- a single image

pub one-read : (path : List ℕ) (copy : StoredCopy) (old new : Told) → ReadsFile path old new (Ok copy) → ReadsFiles path None old new (Ok (record { first = copy; second = None }))
one-read path copy old new h = record { bytes = copy.bytes.items; there = h.1.found; are = ap (λ (c : Copy). c ∷ []) h.0; calls = h.1.calls; stored = h.1.stored }

-- ---- a pair

-- the first file is refused
pub first-refused : (first second : List ℕ) (old new : Told) (f : Fault) → ReadsFile first old new (Err f) → ReadsFiles first (Some second) old new (Err f)
first-refused first second old new fault.UnequalSizes h = absurd h.1
first-refused first second old new f h = (h.0, inl h.1)

-- the second file is refused
pub second-refused : (first second : List ℕ) (x : StoredCopy) (a b c : Told) (f : Fault) → ReadsFile first a b (Ok x) → ReadsFile second b c (Err f) → ReadsFiles first (Some second) a c (Err f)
second-refused first second x a b c fault.UnequalSizes h i = absurd i.1
second-refused first second x a b c f h i =
    let why : IsTextFault second (file_at second a.stored) f = subst (λ (s : Stored). IsTextFault second (file_at second s) f) h.1.stored i.1 in
    (OnlyReads-then a b c (file-reads first a b x h) i.0, inr why)

-- both were read
pub pair-up : (first second : List ℕ) (x y : StoredCopy) (r : Result Images Fault) (a b c : Told) → ReadsFile first a b (Ok x) → ReadsFile second b c (Ok y) → PairsUp x y r
    → ReadsFiles first (Some second) a c r
pair-up first second x y (Ok images) a b c h i up = record {
  bytes = x.bytes.items;
  more = y.bytes.items;
  there = h.1.found;
  there_too = sym (ap (λ (s : Stored). file_at second s) h.1.stored) ∙ i.1.found;
  equal = up.0;
  are = up.1 ∙ rw (h.0, i.0) refl;
  calls = i.1.calls ∙ ap (λ (cs : List (List ℕ × Action)). cs ++ (second, ReadAll) ∷ []) h.1.calls ∙ append_assoc a.calls ((first, ReadAll) ∷ []) ((second, ReadAll) ∷ []);
  stored = i.1.stored ∙ h.1.stored;
}
pair-up first second x y (Err f) a b c h i up =
    let unequal : AreUnequal first second a.stored = record {
      bytes = x.bytes.items;
      more = y.bytes.items;
      there = h.1.found;
      there_too = sym (ap (λ (s : Stored). file_at second s) h.1.stored) ∙ i.1.found;
      unequal = up.0;
    } in (
      OnlyReads-then a b c (file-reads first a b x h) (file-reads second b c y i),
      subst (λ (f : Fault). IsFilesFault first (Some second) a.stored f) (sym up.1) unequal,
    )
