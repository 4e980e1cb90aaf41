-- The files of a folder, read one after another.
use Rattle.std.proofs.Common.{◌≡◌, ◌||◌, zero, suc, take, get_or, is_some, ◌∙◌, ◌+◌, ◌<◌, ℕ, Bool, true, false, cond, refl, sym, ap, subst, List, [], ◌∷◌, ◌++◌, map, fold, length, append_assoc, append-nil, Option, Some, None, Ok, Err, inl, inr, arith}
use Rattle.std.specs.Prelude.{IsSomeAnd}
use Rattle.std.specs.List.{list_any, AllZip}
use Rattle.std.specs.Str.{bytes_eq}
use Rattle.std.proofs.lemmas.List.{map-append}
use Rattle.board_files.specs.NamedFiles.{path_below, names_of, once_more, one_more, each_once, most_bytes, total, HoldsScript, AreScripts, read_of, HaveRead, ReadsWithin, IsOneMore, ReadsOne, IsFilesFault, IsRefused}
use Rattle.device_list.specs.CallLines.{FileText, Files}
use Rattle.commands.specs.TextsShown.{texts}
use Rattle.device_list.specs.CommandsShown.{files_shown, text_shown}
use Rattle.device_list.specs.DevicesShown.{Bytes}
use Rattle.device_list.specs.declared.file_text.FileText.{FileText as KeptFile}
use Rattle.indexmap.specs.IndexMap.{insert_entry}
use Rattle.std.specs.Map.{lookup}
use Rattle.tool_images.specs.FileFaults.{IsPathOf}
use Rattle.tool_images.specs.declared.word_form.WordForm.{WordForm}
use Rattle.envimage.specs.Config.{is_text}
use Rattle.script_file.specs.ScriptFiles.{script_in}
use Rattle.tool_files.proofs.OrderLemmas.{OnlyReads-one, OnlyReads-then}
use Rattle.tool_files.specs.CallOrder.{OnlyReads, are_reads}
use Rattle.tool_files.specs.Told.{IfTold, Stored, Told}
use Rattle.tool_files.specs.declared.files.Action.{Action}
use Rattle.tool_files.specs.declared.files.Action.TheVariants.{ReadAll}
use Rattle.tool_images.specs.declared.fault.Fault.{Fault}
use Rattle.tool_images.specs.declared.fault.Fault.TheVariants as faults
use Rattle.tool_steps.specs.Scripts.{HasReadSized}

-- ---- names

pub names-more : (files : Files) (name : List ℕ) (file : FileText) → names_of (files ++ (name, file) ∷ []) ≡ names_of files ++ name ∷ []
names-more files name file = map-append (λ (f : List ℕ × FileText). f.0) files ((name, file) ∷ [])

-- a name that no path may have
pub no-path : (names : List (List ℕ)) (name : List ℕ) → is_text name ≡ false → one_more names name ≡ names
no-path names name e = ap (λ (b : Bool). cond b (once_more names name) names) e

-- one that was there before
pub there-before : (names : List (List ℕ)) (name : List ℕ) → list_any (bytes_eq name) names ≡ true → one_more names name ≡ names
there-before names name e = by (is_text name)
  where
    by : (b : Bool) → cond b (once_more names name) names ≡ names
    by true = ap (λ (c : Bool). cond c names (names ++ name ∷ [])) e
    by false = refl

-- and a new one
pub new-name : (names : List (List ℕ)) (name : List ℕ) → is_text name ≡ true → list_any (bytes_eq name) names ≡ false → one_more names name ≡ names ++ name ∷ []
new-name names name text new =
    ap (λ (b : Bool). cond b (once_more names name) names) text ∙ ap (λ (c : Bool). cond c names (names ++ name ∷ [])) new

-- a longer list
pub record IsGrown (seen all : List (List ℕ)) : Type 0 where
  pub rest : List (List ℕ)
  pub is : all ≡ seen ++ rest

-- no name that is kept is left out again
one-grows : (seen : List (List ℕ)) (name : List ℕ) → IsGrown seen (one_more seen name)
one-grows seen name = by (is_text name)
  where
    same : IsGrown seen seen
    same = record { rest = []; is = sym (append-nil seen) }

    new : (there : Bool) → IsGrown seen (cond there seen (seen ++ name ∷ []))
    new true = same
    new false = record { rest = name ∷ []; is = refl }

    by : (text : Bool) → IsGrown seen (cond text (once_more seen name) seen)
    by true = new (list_any (bytes_eq name) seen)
    by false = same

fold-grows : (seen names : List (List ℕ)) → IsGrown seen (fold one_more seen names)
fold-grows seen [] = record { rest = []; is = sym (append-nil seen) }
fold-grows seen (name ∷ names) =
    let one = one-grows seen name in
    let more = fold-grows (one_more seen name) names in
    record {
      rest = one.rest ++ more.rest;
      is = more.is ∙ ap (λ (ns : List (List ℕ)). ns ++ more.rest) one.is ∙ append_assoc seen one.rest more.rest;
    }

fold-append : (seen first more : List (List ℕ)) → fold one_more seen (first ++ more) ≡ fold one_more (fold one_more seen first) more
fold-append seen [] more = refl
fold-append seen (name ∷ first) more = fold-append (one_more seen name) first more

-- the names that are kept of more names
each-grows : (first all : List (List ℕ)) → IsGrown first all → IsGrown (each_once first) (each_once all)
each-grows first all grown =
    let more = fold-grows (each_once first) grown.rest in
    record { rest = more.rest; is = ap each_once grown.is ∙ fold-append [] first grown.rest ∙ more.is }

-- ---- what was read

pub none-read : (folder : List ℕ) (told : Told) → HaveRead folder told told []
none-read folder told = record { scripts = tt; calls = sym (append-nil told.calls); stored = refl }

scripts-more : (folder : List ℕ) (stored : Stored) (files : Files) (file : List ℕ × FileText) → AreScripts folder stored files → HoldsScript (path_below folder file.0) stored file.1
    → AreScripts folder stored (files ++ file ∷ [])
scripts-more folder stored [] file all one = (one, tt)
scripts-more folder stored (f ∷ files) file all one = (all.0, scripts-more folder stored files file all.1 one)

-- the script that was read is what its file holds, and the size is the file's
holds : (path : List ℕ) (old new : Told) (file : FileText) → HasReadSized path old new file.text file.size → HoldsScript path old.stored file
holds path old new file read =
    subst (λ (found : Option (List ℕ)). IsSomeAnd found (λ all. (script_in all ≡ Ok file.text) × (file.size ≡ length all))) (sym read.read.found) (read.holds, read.sized)

pub one-read : (folder name : List ℕ) (file : FileText) (files : Files) (x y z : Told) → HaveRead folder x y files → HasReadSized (path_below folder name) y z file.text file.size
    → HaveRead folder x z (files ++ (name, file) ∷ [])
one-read folder name file files x y z before read = record {
  scripts = scripts-more folder x.stored files (name, file) before.scripts
      (subst (λ (s : Stored). HoldsScript (path_below folder name) s file) before.stored (holds (path_below folder name) y z file read));
  calls = read.read.calls ∙ ap (λ (cs : List (List ℕ × Action)). cs ++ (path_below folder name, ReadAll) ∷ []) before.calls
      ∙ append_assoc x.calls (map (read_of folder) files) ((path_below folder name, ReadAll) ∷ [])
      ∙ ap (λ (cs : List (List ℕ × Action)). x.calls ++ cs) (sym (map-append (read_of folder) files ((name, file) ∷ [])));
  stored = read.read.stored ∙ before.stored;
}

-- they were only read
pub only-read : (folder : List ℕ) (x y : Told) (files : Files) → HaveRead folder x y files → OnlyReads x y
only-read folder x y files h = record { reads = map (read_of folder) files; calls = h.calls; all = each files; stored = h.stored }
  where
    each : (files : Files) → are_reads (map (read_of folder) files) ≡ true
    each [] = refl
    each (file ∷ files) = each files

total-more : (files : Files) (file : List ℕ × FileText) → total (files ++ file ∷ []) ≡ total files + length file.1.text
total-more [] file = omega arith
total-more (f ∷ files) file = let rest = total-more files file in omega (arith, rest)

-- ---- one more of them

-- the files so far, and the room that is left
pub record AreSoFar (folder : List ℕ) (names : List (List ℕ)) (old new : Told) (files : Files) (left : ℕ) : Type 0 where
  pub read : HaveRead folder old new files
  pub named : names_of files ≡ each_once names
  pub room : total files + left ≡ most_bytes

pub one-more : (folder name : List ℕ) (names : List (List ℕ)) (before after : Files) (room left : ℕ) (x y z : Told) → AreSoFar folder names x y before room
    → ReadsOne folder name y z before after room left (Ok tt) → AreSoFar folder (names ++ name ∷ []) x z after left
one-more folder name names before after room left x y z so reads = by reads.0
  where
    each-more : one_more (names_of before) name ≡ each_once (names ++ name ∷ [])
    each-more = ap (λ (ns : List (List ℕ)). one_more ns name) so.named ∙ sym (fold-append [] names (name ∷ []))

    rest : total after + left ≡ most_bytes
    rest = reads.1 ∙ so.room

    by : IsOneMore folder name y z before after → AreSoFar folder (names ++ name ∷ []) x z after left
    by (inl same) = record {
      read = subst (λ (files : Files). HaveRead folder x z files) (sym same.1) (subst (λ (t : Told). HaveRead folder x t before) (sym same.2) so.read);
      named = ap names_of same.1 ∙ sym same.0 ∙ each-more;
      room = rest;
    }
    by (inr more) =
        let file = more.1.0 in
        record {
          read = subst (λ (files : Files). HaveRead folder x z files) (sym more.1.1) (one-read folder name file before x y z so.read more.1.2);
          named = ap names_of more.1.1 ∙ names-more before name file ∙ sym more.0 ∙ each-more;
          room = rest;
        }

-- one is refused, of all the names
pub one-refused : (folder name : List ℕ) (names all : List (List ℕ)) (before after : Files) (room left : ℕ) (x y z : Told) (fault : Fault) → IsGrown (names ++ name ∷ []) all
    → AreSoFar folder names x y before room → ReadsOne folder name y z before after room left (Err fault) → OnlyReads x z × IsFilesFault folder all x.stored fault
one-refused folder name names all before after room left x y z fault grown so reads =
    let more = each-grows (names ++ name ∷ []) all grown in
    let here : each_once (names ++ name ∷ []) ≡ names_of before ++ name ∷ [] =
    fold-append [] names (name ∷ []) ∙ ap (λ (ns : List (List ℕ)). one_more ns name) (sym so.named) ∙ reads.1 in (
      OnlyReads-then x y z (only-read folder x y before so.read) reads.0,
      record {
        before = before;
        name = name;
        after = more.rest;
        order = more.is ∙ ap (λ (ns : List (List ℕ)). ns ++ more.rest) here ∙ append_assoc (names_of before) (name ∷ []) more.rest;
        scripts = so.read.scripts;
        left = room;
        room = so.room;
        refused = subst (λ (s : Stored). IsRefused (path_below folder name) room s fault) so.read.stored reads.2;
      },
    )

-- ---- the map that holds them

abbrev is_key : List ℕ → Bytes → Bool
is_key name key = bytes_eq name key.items

abbrev same_key : Bytes → Bytes → Bool
same_key a b = bytes_eq a.items b.items

pub any-there : (es : List (Bytes × KeptFile)) (name : List ℕ) → list_any (bytes_eq name) (names_of (files_shown es)) ≡ is_some (lookup (is_key name) es)
any-there [] name = refl
any-there (d ∷ es) name = by (bytes_eq name d.0.items) (any-there es name)
  where
    by : (b : Bool) → list_any (bytes_eq name) (names_of (files_shown es)) ≡ is_some (lookup (is_key name) es)
        → (b || list_any (bytes_eq name) (names_of (files_shown es))) ≡ is_some (cond b (Some d.1) (lookup (is_key name) es))
    by true rest = refl
    by false rest = rest

pub insert-new : (es : List (Bytes × KeptFile)) (k : Bytes) (w : KeptFile) → list_any (bytes_eq k.items) (names_of (files_shown es)) ≡ false → files_shown (insert_entry same_key es k w) ≡ files_shown es ++ (k.items, text_shown w) ∷ []
insert-new [] k w new = refl
insert-new (d ∷ es) k w new = by (bytes_eq k.items d.0.items) new (insert-new es k w)
  where
    by : (b : Bool) → (b || list_any (bytes_eq k.items) (names_of (files_shown es))) ≡ false
        → (list_any (bytes_eq k.items) (names_of (files_shown es)) ≡ false → files_shown (insert_entry same_key es k w) ≡ files_shown es ++ (k.items, text_shown w) ∷ [])
        → files_shown (cond b ((d.0, w) ∷ es) (d ∷ insert_entry same_key es k w)) ≡ files_shown (d ∷ es) ++ (k.items, text_shown w) ∷ []
    by true e rest = absurd (let f = e in cc)
    by false e rest = ap (λ (fs : Files). (d.0.items, text_shown d.1) ∷ fs) (rest e)

-- copies of names and files are the same names and files
pub files-copied : (IsCopy : Bytes → Bytes → Type 0) (IsSame : KeptFile → KeptFile → Type 0) → ((v w : Bytes) → IsCopy v w → w.items ≡ v.items) → ((v w : KeptFile) → IsSame v w → text_shown w ≡ text_shown v)
    → (es fs : List (Bytes × KeptFile)) → AllZip (λ p q. IsCopy p.0 q.0 × IsSame p.1 q.1) es fs → files_shown fs ≡ files_shown es
files-copied IsCopy IsSame name file [] [] all = refl
files-copied IsCopy IsSame name file [] (f ∷ fs) all = absurd all
files-copied IsCopy IsSame name file (e ∷ es) [] all = absurd all
files-copied IsCopy IsSame name file (e ∷ es) (f ∷ fs) all =
    let named = name e.0 f.0 all.0.0 in
    let same = file e.1 f.1 all.0.1 in
    let rest = files-copied IsCopy IsSame name file es fs all.1 in
    λ i. (named i, same i) ∷ rest i

-- ---- one of them

pub over-room : (path : List ℕ) (room : ℕ) (file : FileText) (told : WordForm) (x y : Told) → IsPathOf told path → HasReadSized path x y file.text file.size → room < length file.text
    → ReadsWithin path room x y (Err (faults.FileTooLong told))
over-room path room file told x y named read over =
    (OnlyReads-one path ReadAll x y refl read.read.calls read.read.stored, inr (named, (file, holds path x y file read, over)))

-- nothing is read
pub told-same : (P : Told → Told → Type 0) (a : Option Told) → ((x : Told) → P x x) → IfTold a a P
told-same P None same = tt
told-same P (Some x) same = same x

pub nothing-more : (folder name : List ℕ) (files : Files) (room : ℕ) (x : Told) → one_more (names_of files) name ≡ names_of files → ReadsOne folder name x x files files room room (Ok tt)
nothing-more folder name files room x e = (inl (e, refl, refl), refl)

pub more-read : (folder name : List ℕ) (file : FileText) (before after : Files) (room left : ℕ) (x y : Told) → is_text name ≡ true → list_any (bytes_eq name) (names_of before) ≡ false
    → after ≡ before ++ (name, file) ∷ [] → left + length file.text ≡ room → HasReadSized (path_below folder name) x y file.text file.size → ReadsOne folder name x y before after room left (Ok tt)
more-read folder name file before after room left x y is new grown rest read =
    let sum = total-more before (name, file) in
    let all : total after ≡ total (before ++ (name, file) ∷ []) = ap total grown in
    (inr (new-name (names_of before) name is new, (file, grown, read)), omega (arith, sum, all, rest))

pub more-refused : (folder name : List ℕ) (before after : Files) (room left : ℕ) (x y : Told) (fault : Fault) → is_text name ≡ true → list_any (bytes_eq name) (names_of before) ≡ false
    → OnlyReads x y × IsRefused (path_below folder name) room x.stored fault → ReadsOne folder name x y before after room left (Err fault)
more-refused folder name before after room left x y fault is new refused = (refused.0, new-name (names_of before) name is new, refused.1)

-- a file was read, and memory runs out before it is kept
pub more-lost : (folder name : List ℕ) (file : FileText) (before after : Files) (room left : ℕ) (x y : Told) → is_text name ≡ true → list_any (bytes_eq name) (names_of before) ≡ false
    → HasReadSized (path_below folder name) x y file.text file.size → ReadsOne folder name x y before after room left (Err faults.Memory)
more-lost folder name file before after room left x y is new read =
    (OnlyReads-one (path_below folder name) ReadAll x y refl read.read.calls read.read.stored, new-name (names_of before) name is new, inl tt)

-- ---- the names so far, and one more

pub take-one : (names : List Bytes) (i : ℕ) (name : Bytes) → i < length names → name ≡ get_or names i name → texts (take (suc i) names) ≡ texts (take i names) ++ name.items ∷ []
take-one [] i name within is = absurd (omega (arith, within))
take-one (n ∷ names) zero name within is = ap (λ (b : Bytes). b.items ∷ []) (sym is)
take-one (n ∷ names) (suc i) name within is = ap (λ (ns : List (List ℕ)). n.items ∷ ns) (take-one names i name (omega (arith, within)) is)

pub take-rest : (names : List Bytes) (i : ℕ) (name : Bytes) → i < length names → name ≡ get_or names i name → IsGrown (texts (take i names) ++ name.items ∷ []) (texts names)
take-rest [] i name within is = absurd (omega (arith, within))
take-rest (n ∷ names) zero name within is = record { rest = texts names; is = ap (λ (b : Bytes). b.items ∷ texts names) (sym is) }
take-rest (n ∷ names) (suc i) name within is =
    let more = take-rest names i name (omega (arith, within)) is in
    record { rest = more.rest; is = ap (λ (ns : List (List ℕ)). n.items ∷ ns) more.is }
