-- Reads one after another, from files whose contents are known.
use Rattle.std.proofs.Common.{◌≡◌, ◌∙◌, ℕ, true, refl, sym, ap, subst, List, [], ◌∷◌, ◌++◌, map, append_assoc, Option, Some, None, Ok, Err, inl, inr}
use Rattle.std.specs.Prelude.{Result, Vec}
use Rattle.std.specs.declared.alloc.Global.{Global}
use Rattle.envimage.specs.Config.{PlaceShown, places}
use Rattle.envimage.specs.Place.{place_shown}
use Rattle.envimage.specs.declared.config.Place.{Place}
use Rattle.tool_files.proofs.OrderLemmas.{OnlyReads-none, OnlyReads-one, OnlyReads-part, OnlyReads-then, OnlyReads-whole}
use Rattle.tool_files.specs.CallOrder.{OnlyReads, are_reads}
use Rattle.tool_files.specs.Told.{IfTold, ReadsAll, ReadsAt, Told, Stored, file_at}
use Rattle.tool_images.specs.FileFaults.{IsPathOf, read_fault}
use Rattle.tool_images.specs.declared.fault.Fault.{Fault}
use Rattle.tool_images.specs.declared.fault.Fault.TheVariants as fault
use Rattle.tool_files.specs.declared.files.FileFault.{FileFault}
use Rattle.tool_files.specs.declared.files.FileFault.TheVariants.{Failed, Short, TooLong, Memory}
use Rattle.tool_images.specs.declared.word_form.WordForm.{WordForm}
use Rattle.tool_files.specs.declared.files.Action.{Action}
use Rattle.tool_files.specs.declared.files.Action.TheVariants.{ReadAll}
use Rattle.tool_steps.specs.Images.{Copy, HasRead, Names, NamesPlaces, ReadsImages, ReadsPlaces, ReadsSecond, OfSome, copies, copy_of, second_place}
use Rattle.tool_steps.specs.ReadingFiles.{IsShort, Reads, ReadsCopy, ReadsText, bytes_at, read_of}
use Rattle.tool_steps.specs.declared.read.StoredCopy.{StoredCopy}

-- ---- each of them only reads

pub text-reads : (path : List ℕ) (old new : Told) (r : Result (Vec ℕ Global) Fault) → ReadsText path old new r → OnlyReads old new
text-reads path old new (Ok text) h = OnlyReads-one path ReadAll old new refl h.calls h.stored
text-reads path old new (Err fault) h = h.0

pub copy-reads : (place : Place) (old new : Told) (r : Result StoredCopy Fault) → ReadsCopy place old new r → OnlyReads old new
copy-reads place old new (Ok copy) h = OnlyReads-one (place_shown place).device (read_of (place_shown place)).1 old new refl h.calls h.stored
copy-reads place old new (Err fault) h = h.0

-- and so do the reads of the configuration and of the copies that it names
pub found-reads : (config : List ℕ) (old new : Told) (found : List Copy) → HasRead config old new found → OnlyReads old new
found-reads config old new found h = record { reads = (config, ReadAll) ∷ map (λ c. read_of c.0) found; calls = h.calls; all = each found; stored = h.stored }
  where
    each : (found : List Copy) → are_reads (map (λ c. read_of c.0) found) ≡ true
    each [] = refl
    each (copy ∷ more) = each more

-- ---- three calls as one step

pub then-three : {P Q R S : Told → Told → Type 0} (a b c d : Option Told) → ((x y z w : Told) → P x y → Q y z → R z w → S x w) → IfTold a b P → IfTold b c Q → IfTold c d R
    → IfTold a d S
then-three None b c d join first second third = tt
then-three (Some x) None c d join first second third = absurd first
then-three (Some x) (Some y) None d join first second third = absurd second
then-three (Some x) (Some y) (Some z) None join first second third = absurd third
then-three (Some x) (Some y) (Some z) (Some w) join first second third = join x y z w first second third

-- what one call did, in other words
pub IfTold-weaker : {P Q : Told → Told → Type 0} (a b : Option Told) → ((x y : Told) → P x y → Q x y) → IfTold a b P → IfTold a b Q
IfTold-weaker None b weaker h = tt
IfTold-weaker (Some x) None weaker h = absurd h
IfTold-weaker (Some x) (Some y) weaker h = weaker x y h

-- ---- all of them together

-- the places that a configuration names
pub places-read : (config text : List ℕ) (named : Place × Option Place) (a b : Told) → Reads (config, ReadAll) (file_at config a.stored) a b text → Names (places text) (Ok named)
    → ReadsPlaces config a b (Ok named)
places-read config text named a b read is = record { text = text; there = read.found; names = is; calls = read.calls; stored = read.stored }

pub named-reads : (config : List ℕ) (a b : Told) (named : List PlaceShown) → NamesPlaces config a b named → OnlyReads a b
named-reads config a b named h = OnlyReads-one config ReadAll a b refl h.calls h.stored

single-read : (config : List ℕ) (x : Copy) (a b c : Told) → NamesPlaces config a b (x.0 ∷ []) → Reads (read_of x.0) (bytes_at x.0 b.stored) b c x.1 → HasRead config a c (x ∷ [])
single-read config x a b c first second = record {
  text = first.text;
  there = first.there;
  named = first.names;
  bytes = ap (λ (o : Option (List ℕ)). o ∷ []) (sym (ap (λ (s : Stored). bytes_at x.0 s) first.stored) ∙ second.found);
  calls = second.calls ∙ ap (λ (cs : List (List ℕ × Action)). cs ++ read_of x.0 ∷ []) first.calls ∙ append_assoc a.calls ((config, ReadAll) ∷ []) (read_of x.0 ∷ []);
  stored = second.stored ∙ first.stored;
}

pair-read : (config : List ℕ) (x y : Copy) (a b c d : Told) → NamesPlaces config a b (x.0 ∷ y.0 ∷ []) → Reads (read_of x.0) (bytes_at x.0 b.stored) b c x.1
    → Reads (read_of y.0) (bytes_at y.0 c.stored) c d y.1 → HasRead config a d (x ∷ y ∷ [])
pair-read config x y a b c d first second third = record {
  text = first.text;
  there = first.there;
  named = first.names;
  bytes =
      let e : bytes_at x.0 a.stored ≡ Some x.1 = sym (ap (λ (s : Stored). bytes_at x.0 s) first.stored) ∙ second.found in
      let f : bytes_at y.0 a.stored ≡ Some y.1 = sym (ap (λ (s : Stored). bytes_at y.0 s) (second.stored ∙ first.stored)) ∙ third.found in
      rw (e, f) refl;
  calls = third.calls ∙ ap (λ (cs : List (List ℕ × Action)). cs ++ read_of y.0 ∷ []) (second.calls ∙ ap (λ (cs : List (List ℕ × Action)). cs ++ read_of x.0 ∷ []) first.calls ∙ append_assoc a.calls ((config, ReadAll) ∷ []) (read_of x.0 ∷ []))
      ∙ append_assoc a.calls ((config, ReadAll) ∷ read_of x.0 ∷ []) (read_of y.0 ∷ []);
  stored = third.stored ∙ second.stored ∙ first.stored;
}

-- the text of the configuration, the first copy, and the second if there is one
pub images-read : (config : List ℕ) (p : Place) (q : Option Place) (x : StoredCopy) (y : Option StoredCopy) (a b c d : Told)
    → ReadsPlaces config a b (Ok (p, q)) → x.place ≡ p → ReadsCopy p b c (Ok x) → ReadsSecond q c d (Ok y) → HasRead config a d (copies (record { first = x; second = y }))
images-read config p None x None a b c d first place second third =
    subst (λ (t : Told). HasRead config a t (copy_of x ∷ [])) (sym third)
    (single-read config (copy_of x) a b c (rw place first) (rw place second))
images-read config p (Some q) x (Some y) a b c d first place second third =
    pair-read config (copy_of x) (copy_of y) a b c d (rw (place, third.0) first) (rw place second) (rw third.0 third.1)
images-read config p None x (Some y) a b c d first place second third = absurd third
images-read config p (Some q) x None a b c d first place second third = absurd third

-- ---- refusals

-- the refusal of a whole file, and of a place, by the contents of the files
pub text-refused : (path : List ℕ) (form : WordForm) (old new : Told) (k : FileFault) → IsPathOf form path → ReadsAll path old new (Err k) → ReadsText path old new (Err (read_fault form k))
text-refused path form old new Failed is h = (OnlyReads-whole path old new (Err Failed) h, is)
text-refused path form old new Short is h = absurd h.whole
text-refused path form old new TooLong is h = (OnlyReads-whole path old new (Err TooLong) h, (is, h.whole))
text-refused path form old new Memory is h = (OnlyReads-whole path old new (Err Memory) h, tt)

pub copy-refused : (place : Place) (form : WordForm) (old new : Told) (k : FileFault) → IsPathOf form (place_shown place).device
    → ReadsAt (place_shown place).device (place_shown place).offset (place_shown place).size old new (Err k) → ReadsCopy place old new (Err (read_fault form k))
copy-refused place form old new Failed is h = (OnlyReads-part (place_shown place).device (place_shown place).offset (place_shown place).size old new (Err Failed) h, is)
copy-refused place form old new Short is h = (OnlyReads-part (place_shown place).device (place_shown place).offset (place_shown place).size old new (Err Short) h, (is, h.part))
copy-refused place form old new TooLong is h = absurd h.part
copy-refused place form old new Memory is h = (OnlyReads-part (place_shown place).device (place_shown place).offset (place_shown place).size old new (Err Memory) h, tt)

-- the refusal of the configuration's file
pub places-unread : (config : List ℕ) (old new : Told) (f : Fault) → ReadsText config old new (Err f) → ReadsPlaces config old new (Err f)
places-unread config old new (fault.Config error) h = absurd h.1
places-unread config old new f h = h

-- the refusal of what the configuration says
pub places-unnamed : (config text : List ℕ) (old new : Told) (f : Fault) → Reads (config, ReadAll) (file_at config old.stored) old new text → Names (places text) (Err f)
    → ReadsPlaces config old new (Err f)
places-unnamed config text old new (fault.Config error) read h = (OnlyReads-one config ReadAll old new refl read.calls read.stored, record { text = text; there = read.found; says = h })
places-unnamed config text old new f read h = absurd h

-- what a configuration's text says
pub places-told : (config text : List ℕ) (old new : Told) (r : Result (Place × Option Place) Fault) → Reads (config, ReadAll) (file_at config old.stored) old new text → Names (places text) r
    → ReadsPlaces config old new r
places-told config text old new (Ok named) read h = places-read config text named old new read h
places-told config text old new (Err f) read h = places-unnamed config text old new f read h

-- the images of a configuration that was refused
pub images-unread : (config : List ℕ) (old new : Told) (f : Fault) → ReadsPlaces config old new (Err f) → ReadsImages config old new (Err f)
images-unread config old new (fault.Config error) h = h
images-unread config old new (fault.CannotRead path) h = (h.0, inl h.1)
images-unread config old new (fault.FileTooLong path) h = h
images-unread config old new fault.Memory h = h
images-unread config old new f h = absurd h.1

-- the refusal of a copy, after other reads; `named` are the places, and this is one of them
copy-unread : (config : List ℕ) (place : Place) (named : List PlaceShown) (a b c d : Told) (f : Fault) → NamesPlaces config a b named → OnlyReads b c
    → ((IsSo : PlaceShown → Type 0) → IsSo (place_shown place) → OfSome IsSo named) → ReadsCopy place c d (Err f) → ReadsImages config a d (Err f)
copy-unread config place named a b c d (fault.CannotRead told) first reads among h =
    let all = OnlyReads-then a b c (named-reads config a b named first) reads in
    (OnlyReads-then a c d all h.0, inr (record { text = first.text; there = first.there; says = (named, first.names, among (λ p. IsPathOf told p.device) h.1) }))
copy-unread config place named a b c d (fault.FileShort told) first reads among h =
    let all = OnlyReads-then a b c (named-reads config a b named first) reads in
    let short : IsShort a.stored (place_shown place) = subst (λ (s : Stored). IsShort s (place_shown place)) all.stored h.1.1 in
    (OnlyReads-then a c d all h.0, record { text = first.text; there = first.there; says = (named, first.names, among (λ p. IsPathOf told p.device × IsShort a.stored p) (h.1.0, short)) })
copy-unread config place named a b c d fault.Memory first reads among h =
    (OnlyReads-then a c d (OnlyReads-then a b c (named-reads config a b named first) reads) h.0, tt)
copy-unread config place named a b c d f first reads among h = absurd h.1

pub first-unread : (config : List ℕ) (p : Place) (q : Option Place) (a b c : Told) (f : Fault) → ReadsPlaces config a b (Ok (p, q)) → ReadsCopy p b c (Err f) → ReadsImages config a c (Err f)
first-unread config p q a b c f first h =
    copy-unread config p (place_shown p ∷ second_place q) a b b c f first (OnlyReads-none b) (λ P so. inl so) h

pub second-unread : (config : List ℕ) (p : Place) (q : Option Place) (x : StoredCopy) (a b c d : Told) (f : Fault) → ReadsPlaces config a b (Ok (p, q)) → ReadsCopy p b c (Ok x)
    → ReadsSecond q c d (Err f) → ReadsImages config a d (Err f)
second-unread config p None x a b c d f first second h = absurd h
second-unread config p (Some q) x a b c d f first second h =
    copy-unread config q (place_shown p ∷ place_shown q ∷ []) a b c d f first (copy-reads p b c (Ok x) second) (λ P so. inr (inl so)) h
