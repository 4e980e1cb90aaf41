-- What a rehearsal is read from: the images, then the device list, and then the script, if one is named.
use Rattle.std.proofs.Common.{ℕ, refl, sym, subst, List, Option, Some, None, Ok, Err, inl, inr}
use Rattle.std.specs.Prelude.{Vec, option_map}
use Rattle.std.specs.declared.alloc.Global.{Global}
use Rattle.tool_images.specs.declared.fault.Fault.{Fault}
use Rattle.tool_files.proofs.OrderLemmas.{OnlyReads-none, OnlyReads-one, OnlyReads-then}
use Rattle.tool_files.specs.CallOrder.{OnlyReads}
use Rattle.tool_files.specs.Told.{IfTold, Stored, Told, file_at}
use Rattle.tool_files.specs.declared.files.Action.TheVariants.{ReadAll}
use Rattle.tool_steps.proofs.OriginLemmas.{origin-reads}
use Rattle.tool_steps.specs.Images.{Copy, copies}
use Rattle.tool_steps.specs.Origins.{HasReadImages, ReadsOrigin}
use Rattle.tool_steps.specs.ReadingFiles.{IsTextFault, ReadsText}
use Rattle.tool_steps.specs.Scripts.{HasReadNamed, IsNamedFault, ReadsNamed}
use Rattle.tool_steps.specs.Sources.{AreListed, AreRead, ReadsSources}
use Rattle.tool_steps.specs.declared.images.Images.{Images}
use Rattle.tool_steps.specs.declared.sources.Sources.{Sources}
use Rattle.tool_words.specs.Asked.{InputsShown, OriginShown}

-- what a call did, said otherwise
pub IfTold-weaker : {P Q : Told → Told → Type 0} (a b : Option Told) → ((x y : Told) → P x y → Q x y) → IfTold a b P → IfTold a b Q
IfTold-weaker None b weaker h = tt
IfTold-weaker (Some x) None weaker h = absurd h
IfTold-weaker (Some x) (Some y) weaker h = weaker x y h

-- the bytes of a text, if there is one
abbrev pub bytes_if : Option (Vec ℕ Global) → Option (List ℕ)
bytes_if text = option_map (λ v. v.items) text

-- ---- each of them only reads

pub named-reads : (path : Option (List ℕ)) (old new : Told) (script : Option (List ℕ)) → HasReadNamed path old new script → OnlyReads old new
named-reads None old new None h = subst (λ (t : Told). OnlyReads old t) (sym h) (OnlyReads-none old)
named-reads None old new (Some script) h = absurd h
named-reads (Some path) old new None h = absurd h
named-reads (Some path) old new (Some script) h = OnlyReads-one path ReadAll old new refl h.read.calls h.read.stored

pub listed-reads : (origin : OriginShown) (list : List ℕ) (old new : Told) (found : List Copy) (text : List ℕ) → AreListed origin list old new found text → OnlyReads old new
listed-reads origin list old new found text h =
    OnlyReads-then old h.after_images new (origin-reads origin old h.after_images found h.read) (OnlyReads-one list ReadAll h.after_images new refl h.listed.calls h.listed.stored)

-- ---- the device list

pub are-listed : (origin : OriginShown) (list : List ℕ) (found : List Copy) (text : Vec ℕ Global) (x y z : Told) → HasReadImages origin x y found
    → ReadsText list y z (Ok text) → AreListed origin list x z found text.items
are-listed origin list found text x y z read listed = record { after_images = y; read = read; listed = listed }

-- it was refused
pub sources-unlisted : (inputs : InputsShown) (images : Images) (x y z : Told) (f : Fault) → ReadsOrigin inputs.origin x y (Ok images)
    → ReadsText inputs.device_list y z (Err f) → ReadsSources inputs x z (Err f)
sources-unlisted inputs images x y z f read h =
    let reads = origin-reads inputs.origin x y (copies images) read in
    let refused : IsTextFault inputs.device_list (file_at inputs.device_list x.stored) f = subst (λ (s : Stored). IsTextFault inputs.device_list (file_at inputs.device_list s) f) reads.stored h.1 in
    (OnlyReads-then x y z reads h.0, inr (inl (record { found = copies images; after_images = y; read = read; refused = refused })))

-- ---- the script

-- what was read, if one is named
pub has-read : (path : Option (List ℕ)) (old new : Told) (script : Option (Vec ℕ Global)) → ReadsNamed path old new (Ok script) → HasReadNamed path old new (bytes_if script)
has-read path old new None h = h
has-read path old new (Some script) h = h

-- it was refused
pub sources-unscripted : (inputs : InputsShown) (images : Images) (text : Vec ℕ Global) (x y z w : Told) (f : Fault) → ReadsOrigin inputs.origin x y (Ok images)
    → ReadsText inputs.device_list y z (Ok text) → ReadsNamed inputs.script z w (Err f) → ReadsSources inputs x w (Err f)
sources-unscripted inputs images text x y z w f read listed h =
    let both = are-listed inputs.origin inputs.device_list (copies images) text x y z read listed in
    let reads = listed-reads inputs.origin inputs.device_list x z (copies images) text.items both in
    let refused : IsNamedFault inputs.script x.stored f = subst (λ (s : Stored). IsNamedFault inputs.script s f) reads.stored h.1 in
    (OnlyReads-then x z w reads h.0, inr (inr (record { found = copies images; text = text.items; after_list = z; listed = both; refused = refused })))

-- ---- all of them

pub sources-read : (inputs : InputsShown) (images : Images) (text : Vec ℕ Global) (script : Option (Vec ℕ Global)) (x y z w : Told) → ReadsOrigin inputs.origin x y (Ok images)
    → ReadsText inputs.device_list y z (Ok text) → ReadsNamed inputs.script z w (Ok script) → ReadsSources inputs x w (Ok (record { images = images; device_list = text; script = script }))
sources-read inputs images text script x y z w read listed named = record {
  found = copies images;
  text = text.items;
  after_list = z;
  listed = are-listed inputs.origin inputs.device_list (copies images) text x y z read listed;
  script = bytes_if script;
  scripted = has-read inputs.script z w script named;
  so = (refl, refl, refl);
}

-- what holds of what they give holds of what was read
pub so-of-sources : (inputs : InputsShown) (sources : Sources) (x z : Told) (IsSo : List Copy → List ℕ → Option (List ℕ) → Type 0) → ReadsSources inputs x z (Ok sources)
    → IsSo (copies sources.images) sources.device_list.items (bytes_if sources.script) → AreRead inputs x z IsSo
so-of-sources inputs sources x z IsSo read so = record {
  found = read.found;
  text = read.text;
  after_list = read.after_list;
  listed = read.listed;
  script = read.script;
  scripted = read.scripted;
  so = subst (λ (found : List Copy). IsSo found read.text read.script) (sym read.so.0)
      (subst (λ (text : List ℕ). IsSo (copies sources.images) text read.script) (sym read.so.1)
      (subst (λ (script : Option (List ℕ)). IsSo (copies sources.images) sources.device_list.items script) (sym read.so.2) so));
}

-- they were only read
pub only-read : (inputs : InputsShown) (sources : Sources) (x z : Told) → ReadsSources inputs x z (Ok sources) → OnlyReads x z
only-read inputs sources x z read =
    OnlyReads-then x read.after_list z (listed-reads inputs.origin inputs.device_list x read.after_list read.found read.text read.listed)
    (named-reads inputs.script read.after_list z read.script read.scripted)
