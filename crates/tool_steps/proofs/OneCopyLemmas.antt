-- The images of a source, where one copy of a pair may be enough.
use Rattle.std.proofs.Common.{◌≡◌, ◌∙◌, ◌⊎◌, ℕ, Bool, true, false, refl, sym, ap, subst, List, [], ◌∷◌, ◌++◌, append_assoc, Option, Some, None, Ok, Err, inl, inr}
use Rattle.std.specs.Prelude.{Result, IfErr, String, is_some, string_bytes}
use Rattle.std.specs.declared.alloc.Global.{Global}
use Rattle.envimage.specs.Config.{PlaceShown}
use Rattle.envimage.specs.Place.{place_shown}
use Rattle.envimage.specs.declared.config.Place.{Place}
use Rattle.tool_files.proofs.OrderLemmas.{OnlyReads-one, OnlyReads-part, OnlyReads-then}
use Rattle.tool_files.specs.CallOrder.{OnlyReads}
use Rattle.tool_files.specs.Told.{ReadsAt, Stored, Told}
use Rattle.tool_files.specs.declared.files.Action.{Action}
use Rattle.tool_files.specs.declared.files.Action.TheVariants.{ReadAll}
use Rattle.tool_files.specs.declared.files.FileFault.{FileFault}
use Rattle.tool_files.specs.declared.files.FileFault.TheVariants as file
use Rattle.output.specs.Sink.{Sink}
use Rattle.tool_images.specs.FileFaults.{IsPathOf, read_fault}
use Rattle.tool_images.specs.declared.fault.Fault.{Fault}
use Rattle.tool_images.specs.declared.fault.Fault.TheVariants.{Memory}
use Rattle.tool_images.specs.declared.word_form.WordForm.{WordForm}
use Rattle.tool_steps.proofs.OriginLemmas.{origin-reads}
use Rattle.tool_steps.proofs.ReadingLemmas.{copy-reads, images-read, named-reads}
use Rattle.tool_steps.specs.Faults.{IsReadFault}
use Rattle.tool_steps.specs.Images.{Copy, HasRead, NamesPlaces, ReadsPlaces, copies, copy_of}
use Rattle.tool_steps.specs.Notes.{MayTell, TellsIf}
use Rattle.tool_steps.specs.OneCopy.{Finds, FindsEither, FindsImages, FindsPair, HasFound, IsLoss, IsSoughtFault, IsUnfound, Joins, LacksImages, LosesBoth, LosesCopy, LosesOne, ReadsBoth, ReadsPair, SeeksCopy, in_its_place}
use Rattle.tool_steps.specs.Origins.{IsOriginFault, ReadsOrigin}
use Rattle.tool_steps.specs.ReadingFiles.{IsCopyFault, ReadsCopy, bytes_at, read_of}
use Rattle.tool_steps.specs.declared.images.Images.{Images}
use Rattle.tool_steps.specs.declared.one_copy.ImageSource.{ImageSource}
use Rattle.tool_steps.specs.declared.read.SoughtCopy.{SoughtCopy}
use Rattle.tool_steps.specs.declared.read.SoughtCopy.TheVariants.{Lost, Read}
use Rattle.tool_steps.specs.declared.read.StoredCopy.{StoredCopy}
use Rattle.tool_words.specs.Asked.{OriginShown, configured, no_images, texts, whole}
use Rattle.tool_words.specs.CommandAnswers.{origin_shown}
use Rattle.tool_words.specs.declared.ask.Origin.{Origin}
use Rattle.tool_words.specs.declared.ask.Origin.TheVariants.{Config, Empty, Files, Text}

-- ---- one copy

-- a read of its file that failed
pub copy-lost : (place : Place) (path : WordForm) (f : Fault) (k : FileFault) (old new : Told) → f ≡ read_fault path k → (f ≡ Memory → ⊥) → IsPathOf path (place_shown place).device
    → ReadsAt (place_shown place).device (place_shown place).offset (place_shown place).size old new (Err k) → SeeksCopy place old new (Ok (Lost place f))
copy-lost place path f k old new is other named h = (refl, subst (λ (f : Fault). LosesCopy (place_shown place) f old new) (sym is) (by k (λ memory. other (is ∙ memory)) h))
  where
    by : (k : FileFault) → (read_fault path k ≡ Memory → ⊥) → ReadsAt (place_shown place).device (place_shown place).offset (place_shown place).size old new (Err k)
        → LosesCopy (place_shown place) (read_fault path k) old new
    by file.Failed other h = record { why = named; calls = h.calls; stored = h.stored }
    by file.Short other h = record { why = (named, h.part); calls = h.calls; stored = h.stored }
    by file.TooLong other h = absurd h.part
    by file.Memory other h = absurd (other refl)

-- a read to which memory was refused
pub copy-unsought : (place : Place) (f : Fault) (path : WordForm) (k : FileFault) (old new : Told) → f ≡ read_fault path k
    → ReadsAt (place_shown place).device (place_shown place).offset (place_shown place).size old new (Err k) → SeeksCopy place old new (Err f)
copy-unsought place f path k old new is h = OnlyReads-part (place_shown place).device (place_shown place).offset (place_shown place).size old new (Err k) h

pub sought-reads : (place : Place) (old new : Told) (sought : SoughtCopy) → SeeksCopy place old new (Ok sought) → OnlyReads old new
sought-reads place old new (Read copy) h = copy-reads place old new (Ok copy) h.1
sought-reads place old new (Lost at fault) h = OnlyReads-one (place_shown place).device (read_of (place_shown place)).1 old new refl h.1.calls h.1.stored

-- ---- a pair

-- two reads are two calls
two-calls : (a b c : Told) (x y : List ℕ × Action) → b.calls ≡ a.calls ++ x ∷ [] → c.calls ≡ b.calls ++ y ∷ [] → c.calls ≡ a.calls ++ x ∷ y ∷ []
two-calls a b c x y first second = second ∙ ap (λ (cs : List (List ℕ × Action)). cs ++ y ∷ []) first ∙ append_assoc a.calls (x ∷ []) (y ∷ [])

both-read : (first second : Place) (x y : StoredCopy) (a b c : Told) → SeeksCopy first a b (Ok (Read x)) → SeeksCopy second b c (Ok (Read y))
    → ReadsBoth (place_shown first) (place_shown second) a c (copy_of x ∷ copy_of y ∷ [])
both-read first second x y a b c h i = record {
  bytes = x.bytes.items;
  more = y.bytes.items;
  there = h.1.found;
  there_too = sym (ap (λ (s : Stored). bytes_at (place_shown second) s) h.1.stored) ∙ i.1.found;
  are = rw (h.0, i.0) refl;
  calls = two-calls a b c (read_of (place_shown first)) (read_of (place_shown second)) h.1.calls i.1.calls;
  stored = i.1.stored ∙ h.1.stored;
}

second-lost : (first second : Place) (x : StoredCopy) (at : Place) (fault : Fault) (a b c : Told) → SeeksCopy first a b (Ok (Read x)) → SeeksCopy second b c (Ok (Lost at fault))
    → LosesOne (place_shown first) (place_shown second) (place_shown at) a c (in_its_place (copy_of x) (place_shown at))
second-lost first second x at fault a b c h i = record {
  copy = copy_of x;
  places = inl (ap place_shown (sym h.0), ap place_shown (sym i.0));
  there = rw h.0 h.1.found;
  fault = fault;
  why = rw i.0 (subst (λ (s : Stored). IsLoss s (place_shown second) fault) h.1.stored i.1.why);
  are = refl;
  calls = two-calls a b c (read_of (place_shown first)) (read_of (place_shown second)) h.1.calls i.1.calls;
  stored = i.1.stored ∙ h.1.stored;
}

first-lost : (first second : Place) (y : StoredCopy) (at : Place) (fault : Fault) (a b c : Told) → SeeksCopy first a b (Ok (Lost at fault)) → SeeksCopy second b c (Ok (Read y))
    → LosesOne (place_shown first) (place_shown second) (place_shown at) a c (in_its_place (copy_of y) (place_shown at))
first-lost first second y at fault a b c h i = record {
  copy = copy_of y;
  places = inr (ap place_shown (sym h.0), ap place_shown (sym i.0));
  there = rw i.0 (sym (ap (λ (s : Stored). bytes_at (place_shown second) s) h.1.stored) ∙ i.1.found);
  fault = fault;
  why = rw h.0 h.1.why;
  are = refl;
  calls = two-calls a b c (read_of (place_shown first)) (read_of (place_shown second)) h.1.calls i.1.calls;
  stored = i.1.stored ∙ h.1.stored;
}

both-lost : (first second at other : Place) (fault more : Fault) (a b c : Told) → SeeksCopy first a b (Ok (Lost at fault)) → SeeksCopy second b c (Ok (Lost other more))
    → LosesBoth (place_shown first) (place_shown second) a c fault
both-lost first second at other fault more a b c h i = record {
  why = h.1.why;
  other = more;
  why_other = subst (λ (s : Stored). IsLoss s (place_shown second) more) h.1.stored i.1.why;
  calls = two-calls a b c (read_of (place_shown first)) (read_of (place_shown second)) h.1.calls i.1.calls;
}

-- what the two reads give
pub pair-found : (program : List ℕ) (first second : Place) (x y : SoughtCopy) (err err' : Sink) (r : Result Images Fault) (a b c : Told) → SeeksCopy first a b (Ok x)
    → SeeksCopy second b c (Ok y) → Joins program x y err err' r → FindsPair program (place_shown first) (place_shown second) err err' a c r
pair-found program first second x y err err' (Err f) a b c h i j =
    (OnlyReads-then a b c (sought-reads first a b x h) (sought-reads second b c y i), why x y h i j)
  where
    why : (x y : SoughtCopy) → SeeksCopy first a b (Ok x) → SeeksCopy second b c (Ok y) → Joins program x y err err' (Err f)
        → (f ≡ Memory) ⊎ LosesBoth (place_shown first) (place_shown second) a c f
    why (Read x) (Read y) h i j = inl j
    why (Read x) (Lost at fault) h i j = inl j
    why (Lost at fault) (Read y) h i j = inl j
    why (Lost at fault) (Lost other more) h i j =
        inr (subst (λ (f : Fault). LosesBoth (place_shown first) (place_shown second) a c f) (sym j) (both-lost first second at other fault more a b c h i))
pair-found program first second (Read x) (Read y) err err' (Ok images) a b c h i j =
    (None, subst (ReadsBoth (place_shown first) (place_shown second) a c) (sym j.0) (both-read first second x y a b c h i), j.1)
pair-found program first second (Read x) (Lost at fault) err err' (Ok images) a b c h i j =
    (Some (place_shown at), subst (LosesOne (place_shown first) (place_shown second) (place_shown at) a c) (sym j.0) (second-lost first second x at fault a b c h i), j.1)
pair-found program first second (Lost at fault) (Read y) err err' (Ok images) a b c h i j =
    (Some (place_shown at), subst (LosesOne (place_shown first) (place_shown second) (place_shown at) a c) (sym j.0) (first-lost first second y at fault a b c h i), j.1)
pair-found program first second (Lost at fault) (Lost other more) err err' (Ok images) a b c h i j = absurd j

-- memory ran out at the second copy
pub second-unsought : (program : List ℕ) (first second : Place) (x : SoughtCopy) (err err' : Sink) (f : Fault) (a b c : Told) → SeeksCopy first a b (Ok x) → OnlyReads b c → f ≡ Memory
    → FindsPair program (place_shown first) (place_shown second) err err' a c (Err f)
second-unsought program first second x err err' f a b c h reads is = (OnlyReads-then a b c (sought-reads first a b x h) reads, inl is)

-- what is said of a pair
pub pair-told : (program : List ℕ) (x y : SoughtCopy) (err err' : Sink) (r : Result Images Fault) → Joins program x y err err' r → IfErr r (λ _. err' ≡ err) → MayTell program true err err'
pair-told program x y err err' (Err f) j quiet = inl quiet
pair-told program (Read x) (Read y) err err' (Ok images) j quiet = inl j.1
pair-told program (Read x) (Lost at fault) err err' (Ok images) j quiet = inr j.1
pair-told program (Lost at fault) (Read y) err err' (Ok images) j quiet = inr j.1
pair-told program (Lost at fault) (Lost other more) err err' (Ok images) j quiet = absurd j

-- its refusal is one of reading
pub pair-fault : (program : List ℕ) (x y : SoughtCopy) (err err' : Sink) (r : Result Images Fault) → IsSoughtFault (Ok x) → Joins program x y err err' r → IfErr r IsReadFault
pair-fault program x y err err' (Ok images) h j = tt
pair-fault program (Read x) (Read y) err err' (Err f) h j = subst IsReadFault (sym j) tt
pair-fault program (Read x) (Lost at fault) err err' (Err f) h j = subst IsReadFault (sym j) tt
pair-fault program (Lost at fault) (Read y) err err' (Err f) h j = subst IsReadFault (sym j) tt
pair-fault program (Lost at fault) (Lost other more) err err' (Err f) h j = subst IsReadFault (sym j) h

-- ---- the images of a source

-- what names them, if all copies are needed
pub all-found : (program : List ℕ) (source : ImageSource) (err : Sink) (old new : Told) (r : Result Images Fault) → (source.one_copy ≡ true → (config : String Global) → source.origin ≡ Config config → ⊥)
    → ReadsOrigin (origin_shown source.origin) old new r → FindsImages program source err err old new r
all-found program source err old new (Ok images) other h = record { lost = None; read = h; tells = refl }
all-found program source err old new (Err f) other h = (h.0, why source.one_copy source.origin other h.1)
  where
    why : (one_copy : Bool) (origin : Origin) → (one_copy ≡ true → (config : String Global) → origin ≡ Config config → ⊥) → IsOriginFault (origin_shown origin) old.stored f
        → IsUnfound one_copy (origin_shown origin) old new f
    why false origin other h = h
    why true (Files first second) other h = h
    why true (Text path order) other h = h
    why true (Empty order) other h = h
    why true (Config config) other h = absurd (other refl config refl)

-- a configuration, if one copy is enough
pub either-found : (program : List ℕ) (source : ImageSource) (config : String Global) (err err' : Sink) (old new : Told) (r : Result Images Fault) → source.origin ≡ Config config → source.one_copy ≡ true
    → FindsEither program (string_bytes config) err err' old new r → FindsImages program source err err' old new r
either-found program source config err err' old new (Ok images) named is h = record { lost = h.0; read = rw (named, is) h.1; tells = h.2 }
either-found program source config err err' old new (Err f) named is h = (h.0, rw (named, is) h.1)

-- the configuration is refused
pub places-unfound : (program config : List ℕ) (err : Sink) (old new : Told) (f : Fault) → ReadsPlaces config old new (Err f) → FindsEither program config err err old new (Err f)
places-unfound program config err old new f h = (h.0, inl h.1)

-- a single image
pub single-found : (program config : List ℕ) (err : Sink) (p : Place) (x : StoredCopy) (a b c : Told) → ReadsPlaces config a b (Ok (p, None))
    → x.place ≡ p → ReadsCopy p b c (Ok x) → FindsEither program config err err a c (Ok (record { first = x; second = None }))
single-found program config err p x a b c first place second =
    (None, images-read config p None x None a b c c first place second refl, refl)

pub single-unfound : (program config : List ℕ) (err : Sink) (p : Place) (a b c : Told) (f : Fault)
    → ReadsPlaces config a b (Ok (p, None)) → ReadsCopy p b c (Err f) → FindsEither program config err err a c (Err f)
single-unfound program config err p a b c f first h =
    let why : IsCopyFault a.stored (place_shown p) f = subst (λ (s : Stored). IsCopyFault s (place_shown p) f) first.stored h.1 in (
      OnlyReads-then a b c (named-reads config a b (place_shown p ∷ []) first) h.0,
      inr (inl (record { text = first.text; there = first.there; says = (place_shown p, first.names, why) })),
    )

-- both copies of a pair, as all images
pair-all : (config : List ℕ) (p q : PlaceShown) (found : List Copy) (a b c : Told) → NamesPlaces config a b (p ∷ q ∷ []) → ReadsBoth p q b c found → HasRead config a c found
pair-all config p q found a b c first second = subst (HasRead config a c) (sym second.are) (record {
  text = first.text;
  there = first.there;
  named = first.names;
  bytes =
      let e : bytes_at p a.stored ≡ Some second.bytes = sym (ap (λ (s : Stored). bytes_at p s) first.stored) ∙ second.there in
      let f : bytes_at q a.stored ≡ Some second.more = sym (ap (λ (s : Stored). bytes_at q s) first.stored) ∙ second.there_too in
      rw (e, f) refl;
  calls = second.calls ∙ ap (λ (cs : List (List ℕ × Action)). cs ++ read_of p ∷ read_of q ∷ []) first.calls ∙ append_assoc a.calls ((config, ReadAll) ∷ []) (read_of p ∷ read_of q ∷ []);
  stored = second.stored ∙ first.stored;
})

pair-found-of : (program config : List ℕ) (err err' : Sink) (p q : Place) (a b c : Told) (r : Result Images Fault)
    → ReadsPlaces config a b (Ok (p, Some q)) → FindsPair program (place_shown p) (place_shown q) err err' b c r → FindsEither program config err err' a c r
pair-found-of program config err err' p q a b c (Ok images) first h = by h.0 h.1 h.2
  where
    by : (lost : Option PlaceShown) → ReadsPair (place_shown p) (place_shown q) lost b c (copies images) → TellsIf program (is_some lost) err err'
        → FindsEither program config err err' a c (Ok images)
    by None read tells = (None, pair-all config (place_shown p) (place_shown q) (copies images) a b c first read, tells)
    by (Some lost) read tells = (Some lost, record { first = place_shown p; second = place_shown q; after_config = b; named = first; loses = read }, tells)
pair-found-of program config err err' p q a b c (Err f) first h =
    (OnlyReads-then a b c (named-reads config a b (place_shown p ∷ place_shown q ∷ []) first) h.0, why h.1)
  where
    why : (f ≡ Memory) ⊎ LosesBoth (place_shown p) (place_shown q) b c f → LacksImages config a c f
    why (inl memory) = subst (λ (f : Fault). LacksImages config a c f) (sym memory) (inl tt)
    why (inr lost) = inr (inr (record { first = place_shown p; second = place_shown q; after_config = b; named = first; loses = lost }))

-- the same, with the second place that was named
pub source-found : (program config : List ℕ) (err err' : Sink) (p q : Place) (second : Option Place) (a b c : Told) (r : Result Images Fault) → second ≡ Some q
    → ReadsPlaces config a b (Ok (p, second)) → FindsPair program (place_shown p) (place_shown q) err err' b c r → FindsEither program config err err' a c r
source-found program config err err' p q second a b c r named first h =
    pair-found-of program config err err' p q a b c r (subst (λ (s : Option Place). ReadsPlaces config a b (Ok (p, s))) named first) h

-- ---- what finding them did

one-reads : (first second lost : PlaceShown) (old new : Told) (found : List Copy) → LosesOne first second lost old new found → OnlyReads old new
one-reads first second lost old new found h =
    record { reads = read_of first ∷ read_of second ∷ []; calls = h.calls; all = refl; stored = h.stored }

finds-reads : (one_copy : Bool) (origin : OriginShown) (lost : Option PlaceShown) (old new : Told) (found : List Copy) → Finds one_copy origin lost old new found → OnlyReads old new
finds-reads one_copy origin None old new found h = origin-reads origin old new found h
finds-reads true (whole first second) (Some lost) old new found h = absurd h
finds-reads true (texts path order) (Some lost) old new found h = absurd h
finds-reads true (no_images order) (Some lost) old new found h = absurd h
finds-reads true (configured config) (Some lost) old new found h =
    OnlyReads-then old h.after_config new (named-reads config old h.after_config (h.first ∷ h.second ∷ []) h.named)
    (one-reads h.first h.second lost h.after_config new found h.loses)
finds-reads false origin (Some lost) old new found h = absurd h

-- files were only read
pub source-reads : (program : List ℕ) (source : ImageSource) (err err' : Sink) (old new : Told) (found : List Copy) → HasFound program source err err' old new found → OnlyReads old new
source-reads program source err err' old new found h = finds-reads source.one_copy (origin_shown source.origin) h.lost old new found h.read
