-- Texts that are imported, byte by byte, and the settings of their entries.
use Rattle.std.proofs.Common.{◌≡◌, ℕ, zero, suc, ◌+◌, ◌-◌, ◌≤◌, ◌<◌, ◌==◌, ◌&&◌, ◌||◌, not, Bool, true, false, cond, List, [], ◌∷◌, ◌++◌, map, drop, length, get_or, append_assoc, refl, sym, ap, ◌∙◌, arith}
use Rattle.std.specs.Prelude.{Vec}
use Rattle.std.specs.List.{list_any}
use Rattle.std.specs.Str.{bytes_eq}
use Rattle.std.specs.declared.alloc.Global.{Global}
use Rattle.std.proofs.Math.Seq.{drop-cons}
use Rattle.std.proofs.lemmas.List.{map-append}
use Rattle.indexmap.specs.IndexSet.{insert_key}
use Rattle.text.specs.Lines.{Text}
use Rattle.text.specs.TextsShown.{option_items}
use Rattle.commands.specs.TextsShown.{texts}
use Rattle.commands.proofs.ComputedLemmas.{any_text}
use Rattle.device_list.specs.DevicesShown.{setting_shown}
use Rattle.device_list.specs.Imports.{Entries, is_asked, is_start, no_entry, read_from, settings_from, side_of, with_byte, with_seen}
use Rattle.device_list.specs.ImportsShown.{all_entries}
use Rattle.device_list.specs.Settings as says
use Rattle.device_list.specs.Settings.{Imported}
use Rattle.device_list.specs.declared.imports.Entry.{Entry}
use Rattle.device_list.specs.declared.setting.Reading.{Reading}
use Rattle.device_list.specs.declared.setting.Setting.{Setting}

-- ---- one byte

pub at_room : (room at : ℕ) (s : Entries) (b : ℕ) (rest : Text) → room ≤ at → is_start s.part ≡ true → read_from (room - at) s (b ∷ rest) ≡ s
at_room room at s b rest over start = by (room - at) (omega (arith, over))
  where
    by : (left : ℕ) → left ≡ 0 → read_from left s (b ∷ rest) ≡ s
    by zero e = rw start refl
    by (suc left) e = absurd (let f = e in cc)

pub within_entry : (room at : ℕ) (s : Entries) (b : ℕ) (rest : Text) → is_start s.part ≡ false → read_from (room - at) s (b ∷ rest) ≡ read_from (room - (at + 1)) (with_byte b s) rest
within_entry room at s b rest inside = by (room - at) (room - (at + 1)) (omega arith)
  where
    by : (left next : ℕ) → next ≡ left - 1 → read_from left s (b ∷ rest) ≡ read_from next (with_byte b s) rest
    by zero next e = rw inside (ap (λ n. read_from n (with_byte b s) rest) (sym e))
    by (suc left) next e = ap (λ n. read_from n (with_byte b s) rest) (let f : left ≡ next = omega (arith, e) in f)

pub before_room : (room at : ℕ) (s : Entries) (b : ℕ) (rest : Text) → at < room → read_from (room - at) s (b ∷ rest) ≡ read_from (room - (at + 1)) (with_byte b s) rest
before_room room at s b rest within = by (room - at) (room - (at + 1)) (omega (arith, within))
  where
    by : (left next : ℕ) → left ≡ suc next → read_from left s (b ∷ rest) ≡ read_from next (with_byte b s) rest
    by zero next e = absurd (let f = e in cc)
    by (suc left) next e = ap (λ n. read_from n (with_byte b s) rest) (let f : left ≡ next = omega (arith, e) in f)

-- the bytes from a place on
pub from_place : {A : Type 0} (xs : List A) (i : ℕ) (d : A) → i < length xs → drop i xs ≡ get_or xs i d ∷ drop (i + 1) xs
from_place xs i d within = let n : suc i ≡ i + 1 = omega arith in drop-cons xs i d within ∙ ap (λ (k : ℕ). get_or xs i d ∷ drop k xs) n

-- no entry begins there
pub read_to : (room at : ℕ) (s : Entries) (text : Text) → at < length text → room ≤ at → is_start s.part ≡ true → read_from room no_entry text ≡ read_from (room - at) s (drop at text) → read_from room no_entry text ≡ s
read_to room at s text within over start e =
    e ∙ ap (read_from (room - at) s) (from_place text at 0 within) ∙ at_room room at s (get_or text at 0) (drop (at + 1) text) over start

-- ---- names that were seen

abbrev pub keys_shown : List (Vec ℕ Global) → List Text
keys_shown = map (λ name. name.items)

pub any_key : (name : Vec ℕ Global) (names : List (Vec ℕ Global)) → list_any (λ b. bytes_eq name.items b.items) names ≡ list_any (bytes_eq name.items) (keys_shown names)
any_key name [] = refl
any_key name (n ∷ names) = ap (λ b. bytes_eq name.items n.items || b) (any_key name names)

keys-append : (names : List (Vec ℕ Global)) (name : Vec ℕ Global) → keys_shown (names ++ name ∷ []) ≡ keys_shown names ++ name.items ∷ []
keys-append [] name = refl
keys-append (n ∷ names) name = ap (λ rest. n.items ∷ rest) (keys-append names name)

keys-if : (b : Bool) (names : List (Vec ℕ Global)) (name : Vec ℕ Global) → keys_shown (cond b names (names ++ name ∷ [])) ≡ cond b (keys_shown names) (keys_shown names ++ name.items ∷ [])
keys-if true names name = refl
keys-if false names name = keys-append names name

pub key-inserted : (old new : List (Vec ℕ Global)) (name : Vec ℕ Global) → new ≡ insert_key (λ a b. bytes_eq a.items b.items) old name → keys_shown new ≡ with_seen (keys_shown old) name.items
key-inserted old new name e =
    ap keys_shown e ∙ keys-if (list_any (λ b. bytes_eq name.items b.items) old) old name ∙ ap (λ b. cond b (keys_shown old) (keys_shown old ++ name.items ∷ [])) (any_key name old)

-- ---- one more setting

pub setting_added : (reading : Reading) (entries : List Entry) (i : ℕ) (entry : Entry) (name : Vec ℕ Global) (seen keys : List (Vec ℕ Global)) (first : Bool) (settings more all : List Setting) (set : Setting) → i < length entries → entry ≡ get_or entries i entry
    → name.items ≡ entry.name.items → first ≡ not (list_any (λ b. bytes_eq name.items b.items) seen) → keys ≡ insert_key (λ a b. bytes_eq a.items b.items) seen name
    → setting_shown set ≡ (Imported entry.name.items reading first, side_of (option_items entry.value)) → more ≡ settings ++ set ∷ []
    → map setting_shown settings ++ settings_from reading (keys_shown seen) (all_entries (drop i entries)) ≡ map setting_shown all ++ settings_from reading [] (all_entries entries)
    → map setting_shown more ++ settings_from reading (keys_shown keys) (all_entries (drop (i + 1) entries)) ≡ map setting_shown all ++ settings_from reading [] (all_entries entries)
setting_added reading entries i entry name seen keys first settings more all set within is named new inserted said pushed before =
    let rest = all_entries (drop (i + 1) entries) in
    let here : drop i entries ≡ entry ∷ drop (i + 1) entries = from_place entries i entry within ∙ ap (λ (e : Entry). e ∷ drop (i + 1) entries) (sym is) in
    let known : keys_shown keys ≡ with_seen (keys_shown seen) entry.name.items = key-inserted seen keys name inserted ∙ ap (with_seen (keys_shown seen)) named in
    let is_first : first ≡ not (list_any (bytes_eq entry.name.items) (keys_shown seen)) = new ∙ ap not (any_key name seen) ∙ ap (λ (n : Text). not (list_any (bytes_eq n) (keys_shown seen))) named in
    let setting : Bool → says.Setting = λ f. (Imported entry.name.items reading f, side_of (option_items entry.value)) in
    let one : says.Setting = (Imported entry.name.items reading (not (list_any (bytes_eq entry.name.items) (keys_shown seen))), side_of (option_items entry.value)) in
    ap (λ (x : List Setting). map setting_shown x ++ settings_from reading (keys_shown keys) rest) pushed
    ∙ ap (λ (x : List says.Setting). x ++ settings_from reading (keys_shown keys) rest) (map-append setting_shown settings (set ∷ []))
    ∙ append_assoc (map setting_shown settings) (setting_shown set ∷ []) (settings_from reading (keys_shown keys) rest)
    ∙ ap (λ (x : says.Setting). map setting_shown settings ++ x ∷ settings_from reading (keys_shown keys) rest) (said ∙ ap setting is_first)
    ∙ ap (λ (names : List Text). map setting_shown settings ++ one ∷ settings_from reading names rest) known
    ∙ ap (λ (es : List Entry). map setting_shown settings ++ settings_from reading (keys_shown seen) (all_entries es)) (sym here)
    ∙ before

-- ---- names that are asked

pub asked_among : (names : List (Vec ℕ Global)) (name : Text) (first : Bool) → (length names == 0) ≡ false → first ≡ true → list_any (λ one. bytes_eq name one.items) names ≡ is_asked (texts names) name first
asked_among [] name first some e = absurd (let f = some in cc)
asked_among (n ∷ names) name first some e = any_text name (n ∷ names) ∙ ap (λ (f : Bool). f && list_any (bytes_eq name) (texts (n ∷ names))) (sym e)
