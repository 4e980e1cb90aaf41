-- The lines of one name, joined one after another.
use Rattle.std.proofs.Common.{◌≡◌, ℕ, ◌||◌, ◌&&◌, Bool, true, false, cond, List, [], ◌∷◌, ◌++◌, length, map, nat_eq, Option, Some, None, Result, Ok, Err, refl, sym, ap, subst, ◌∙◌, append_assoc, inl, inr}
use Rattle.std.proofs.lemmas.Bool.{cases_Bool, and_parts}
use Rattle.std.proofs.lemmas.Grind.{flat_map-append}
use Rattle.std.proofs.lemmas.List.{append-nil}
use Rattle.std.proofs.lemmas.List.Elements.{filter-append}
use Rattle.std.proofs.lemmas.List.Folds.{list_any-append}
use Rattle.std.specs.Cmp.Lexicographic.{bytes_decides}
use Rattle.std.specs.List.{list_any, flat_map}
use Rattle.std.specs.Result.{result_ok}
use Rattle.std.specs.Map.{lookup}
use Rattle.std.specs.Str.{bytes_eq}
use Rattle.text.specs.Lines.{numbered_lines}
use Rattle.std.proofs.Math.Bool.{or-false}
use Rattle.text.specs.Lines.{Text}
use Rattle.text.specs.Words.{has_nul}
use Rattle.device_list.specs.CallLines.{Call, call_said, is_call}
use Rattle.device_list.specs.DeviceList.{Effect, Effects, Devices, DeviceLine, effect_at, changed_at, joint_behind, joined_behind, joined_by, joined, only, device_words, begins_comment, heading_of, line_of, known_named, with_known, is_steady_test, with_call, Pattern, further_in, asking_of, most_choices, with_choice, goes_on, is_or, after_call, after_known, after_words, after_line, listed_lines}
use Rattle.device_list.specs.Finishes.{first_finish, first_of}
use Rattle.device_list.specs.declared.finish.BoardEnd.{BoardEnd}
use Rattle.device_list.proofs.LineLemmas.{known_is_bad, test_is_built_in, calls_are_bad}
use Rattle.device_list.specs.DeviceLaws.{line_said, with_said, lines_said, lines_at, same_word, whole_effect, LinesAreJoined}
use Rattle.device_list.specs.declared.devices_error.DevicesError.{DevicesError}
use Rattle.device_list.specs.declared.devices_error.DevicesError.TheVariants.{BadLine}
use Rattle.device_list.specs.NamedPlaces.{in_sub}
use Rattle.device_list.proofs.MarkLemmas.{lines_of}

-- ---- a table after a change at a name

lookup-changed_same : {V : Type 0} (change : Option V → V) (es : List (Text × V)) (key name : Text) → bytes_eq name key ≡ true
    → lookup (bytes_eq name) (changed_at change es key) ≡ Some (change (lookup (bytes_eq name) es))
lookup-changed_same change [] key name e = rw e refl
lookup-changed_same change (d ∷ es) key name e =
    let is : name ≡ key = (bytes_decides name key).0 e in
    let same : bytes_eq key d.0 ≡ bytes_eq name d.0 = ap (λ n. bytes_eq n d.0) (sym is) in
    elim (cases_Bool (bytes_eq name d.0)) [
      | inl here ↦ rw (same ∙ here, here) refl
      | inr other ↦ rw (same ∙ other, other) (lookup-changed_same change es key name e)
    ]

lookup-changed_other : {V : Type 0} (change : Option V → V) (es : List (Text × V)) (key name : Text) → bytes_eq name key ≡ false
    → lookup (bytes_eq name) (changed_at change es key) ≡ lookup (bytes_eq name) es
lookup-changed_other change [] key name e = rw e refl
lookup-changed_other change (d ∷ es) key name e =
    elim (cases_Bool (bytes_eq key d.0)) [
      | inl here ↦
          let is : key ≡ d.0 = (bytes_decides key d.0).0 here in
          let apart : bytes_eq name d.0 ≡ false = ap (bytes_eq name) (sym is) ∙ e in
          rw (here, apart) refl
      | inr other ↦ rw other (ap (λ o. cond (bytes_eq name d.0) (Some d.1) o) (lookup-changed_other change es key name e))
    ]

-- ---- a list after one more line

sub-same : (o : Option Effects) (v u : Text) (more : Effect) → bytes_eq u v ≡ true → in_sub (Some (joined_behind v more o)) u ≡ Some (joint_behind more (in_sub o u))
sub-same None v u more w = rw w refl
sub-same (Some effects) v u more w = lookup-changed_same (joint_behind more) effects v u w

sub-other : (o : Option Effects) (v u : Text) (more : Effect) → bytes_eq u v ≡ false → in_sub (Some (joined_behind v more o)) u ≡ in_sub o u
sub-other None v u more w = rw w refl
sub-other (Some effects) v u more w = lookup-changed_other (joint_behind more) effects v u w

effect_at-joined_same : (devices : Devices) (name : Text) (word : Option Text) (key : Text) (first : Option Text) (more : Effect) → same_word word first ≡ true → bytes_eq name key ≡ true
    → effect_at (joined_by devices key first more) name word ≡ Some (joint_behind more (effect_at devices name word))
effect_at-joined_same devices name None key None more w n = lookup-changed_same (joint_behind more) devices.commands key name n
effect_at-joined_same devices name None key (Some v) more w n = absurd (let f = w in cc)
effect_at-joined_same devices name (Some u) key None more w n = absurd (let f = w in cc)
effect_at-joined_same devices name (Some u) key (Some v) more w n =
    ap (λ o. in_sub o u) (lookup-changed_same (joined_behind v more) devices.subs key name n) ∙ sub-same (lookup (bytes_eq name) devices.subs) v u more w

first_false : (a b : Bool) → (a && b) ≡ false → b ≡ true → a ≡ false
first_false true b e h = absurd (let f = sym h ∙ e in cc)
first_false false b e h = refl

effect_at-joined_other : (devices : Devices) (name : Text) (word : Option Text) (key : Text) (first : Option Text) (more : Effect) → (same_word word first && bytes_eq name key) ≡ false
    → effect_at (joined_by devices key first more) name word ≡ effect_at devices name word
effect_at-joined_other devices name None key None more e = lookup-changed_other (joint_behind more) devices.commands key name e
effect_at-joined_other devices name None key (Some v) more e = refl
effect_at-joined_other devices name (Some u) key None more e = refl
effect_at-joined_other devices name (Some u) key (Some v) more e =
    elim (cases_Bool (bytes_eq name key)) [
      | inl n ↦
          ap (λ o. in_sub o u) (lookup-changed_same (joined_behind v more) devices.subs key name n)
          ∙ sub-other (lookup (bytes_eq name) devices.subs) v u more (first_false (bytes_eq u v) (bytes_eq name key) e n)
      | inr n ↦ ap (λ o. in_sub o u) (lookup-changed_other (joined_behind v more) devices.subs key name n)
    ]

first-none : (ends : Option BoardEnd) → first_finish ends None ≡ ends
first-none None = refl
first-none (Some finish) = refl

-- how the run ends, by one more line
first-more : (before : List DeviceLine) (one : DeviceLine) → first_of (map (λ l. l.effect.ends) (before ++ one ∷ [])) ≡ first_finish (first_of (map (λ l. l.effect.ends) before)) one.effect.ends
first-more [] one = first-none one.effect.ends
first-more (l ∷ before) one = by l.effect.ends (first-more before one)
  where
    by : (ends : Option BoardEnd) → first_of (map (λ l. l.effect.ends) (before ++ one ∷ [])) ≡ first_finish (first_of (map (λ l. l.effect.ends) before)) one.effect.ends
        → first_finish ends (first_of (map (λ l. l.effect.ends) (before ++ one ∷ []))) ≡ first_finish (first_finish ends (first_of (map (λ l. l.effect.ends) before))) one.effect.ends
    by None more = more
    by (Some finish) more = refl

whole_effect-more : (before : List DeviceLine) (one : DeviceLine) → whole_effect (before ++ one ∷ []) ≡ Some (joint_behind one.effect (whole_effect before))
whole_effect-more [] one =
    ap (λ b. let e : Effect = record { ends = b; stays = one.effect.stays || false; always = one.effect.always; needs = one.effect.needs; normal = one.effect.normal; runs = one.effect.runs; sets = one.effect.sets ++ [] } in Some e) (first-none one.effect.ends)
    ∙ ap (λ b. let e : Effect = record { ends = one.effect.ends; stays = b; always = one.effect.always; needs = one.effect.needs; normal = one.effect.normal; runs = one.effect.runs; sets = one.effect.sets ++ [] } in Some e) (or-false one.effect.stays)
    ∙ ap (λ s. let e : Effect = record { ends = one.effect.ends; stays = one.effect.stays; always = one.effect.always; needs = one.effect.needs; normal = one.effect.normal; runs = one.effect.runs; sets = s } in Some e) (append-nil one.effect.sets)
whole_effect-more (l ∷ before) one =
    let ends : first_of (map (λ l. l.effect.ends) ((l ∷ before) ++ one ∷ [])) ≡ first_finish (first_of (map (λ l. l.effect.ends) (l ∷ before))) one.effect.ends = first-more (l ∷ before) one in
    let stays : list_any (λ l. l.effect.stays) ((l ∷ before) ++ one ∷ []) ≡ (list_any (λ l. l.effect.stays) (l ∷ before) || one.effect.stays) =
    list_any-append (λ l. l.effect.stays) (l ∷ before) (one ∷ []) ∙ ap (λ b. list_any (λ l. l.effect.stays) (l ∷ before) || b) (or-false one.effect.stays) in
    let sets : flat_map (λ l. l.effect.sets) ((l ∷ before) ++ one ∷ []) ≡ flat_map (λ l. l.effect.sets) (l ∷ before) ++ one.effect.sets =
    flat_map-append (λ l. l.effect.sets) (l ∷ before) (one ∷ []) ∙ ap (λ s. flat_map (λ l. l.effect.sets) (l ∷ before) ++ s) (append-nil one.effect.sets) in
    cc

-- each name, and each first word of its calls, do what the lines so far say
abbrev IsWhole : Devices → List DeviceLine → Type 0
IsWhole devices before = (name : Text) (word : Option Text) → effect_at devices name word ≡ whole_effect (lines_at name word before)

IsWhole-joined : (devices : Devices) (before : List DeviceLine) (one : DeviceLine) → IsWhole devices before → IsWhole (joined devices one) (before ++ one ∷ [])
IsWhole-joined devices before one h name word =
    let cut = filter-append (λ l. same_word word l.word && bytes_eq name l.name) before (one ∷ []) in
    elim (cases_Bool (same_word word one.word && bytes_eq name one.name)) [
      | inl same ↦
          let both = and_parts (same_word word one.word) (bytes_eq name one.name) same in
          let last : lines_at name word (one ∷ []) ≡ one ∷ [] = rw same refl in
          effect_at-joined_same devices name word one.name one.word one.effect both.0 both.1 ∙ (ap (λ o. Some (joint_behind one.effect o)) (h name word)
          ∙ sym (ap whole_effect (cut ∙ ap (λ l. lines_at name word before ++ l) last) ∙ whole_effect-more (lines_at name word before) one))
      | inr other ↦
          let none : lines_at name word (one ∷ []) ≡ [] = rw other refl in
          effect_at-joined_other devices name word one.name one.word one.effect other ∙ (h name word
          ∙ sym (ap whole_effect (cut ∙ (ap (λ l. lines_at name word before ++ l) none ∙ append-nil (lines_at name word before)))))
    ]

-- what is accepted is one value
pub ok-same : {T : Type 0} {x y : T} → (let r : Result T DevicesError = Ok x in r) ≡ Ok y → x ≡ y
ok-same e = cc

IsWhole-kept : (devices next : Devices) (before : List DeviceLine) → devices ≡ next → IsWhole devices before → IsWhole next (before ++ [])
IsWhole-kept devices next before e h name word =
    ap (λ d. effect_at d name word) (sym e) ∙ (h name word ∙ ap (λ ls. whole_effect (lines_at name word ls)) (sym (append-nil before)))

IsWhole-next : (devices next : Devices) (before : List DeviceLine) (one : DeviceLine) → joined devices one ≡ next → IsWhole devices before → IsWhole next (before ++ one ∷ [])
IsWhole-next devices next before one e h name word = ap (λ d. effect_at d name word) (sym e) ∙ IsWhole-joined devices before one h name word

-- a command that is computed has the lines that it had
IsWhole-known : (devices : Devices) (before : List DeviceLine) (added : Text) → IsWhole devices before → IsWhole (with_known devices added) before
IsWhole-known devices before added h = by (list_any (bytes_eq added) devices.known)
  where
    by : (b : Bool) → IsWhole (cond b devices (record devices { known = devices.known ++ added ∷ [] })) before
    by true name word = h name word
    by false name None = h name None
    by false name (Some word) = h name (Some word)

-- and so it is if the answers of `test -e` stay
IsWhole-test : (devices : Devices) (before : List DeviceLine) → IsWhole devices before → IsWhole (record devices { test_stays = true }) before
IsWhole-test devices before h name None = h name None
IsWhole-test devices before h name (Some word) = h name (Some word)

-- or it is asked about one more file
IsWhole-asking : (devices : Devices) (before : List DeviceLine) (choices : List Text) → IsWhole devices before → IsWhole (record devices { choices = choices }) before
IsWhole-asking devices before choices h name None = h name None
IsWhole-asking devices before choices h name (Some word) = h name (Some word)

-- and after a line of calls
IsWhole-with : (devices : Devices) (before : List DeviceLine) (calls : List (Text × List (Pattern × Effect))) → IsWhole devices before → IsWhole (record devices { calls = calls }) before
IsWhole-with devices before calls h name None = h name None
IsWhole-with devices before calls h name (Some word) = h name (Some word)

-- or of `or`
IsWhole-or : (devices next : Devices) (before : List DeviceLine) (number : ℕ) (further : Option (List (Text × List (Pattern × Effect)) × Text)) → goes_on devices number further ≡ Ok next → IsWhole devices before → IsWhole next (before ++ [])
IsWhole-or devices next before number None e h = absurd (let f = e in cc)
IsWhole-or devices next before number (Some further) e h = by (nat_eq (length devices.choices) most_choices) e
  where
    lines : Devices
    lines = record devices { calls = further.0 }

    by : (b : Bool) → cond b (Err (BadLine number)) (Ok (with_choice lines further.1)) ≡ Ok next → IsWhole next (before ++ [])
    by true f = absurd (let g = f in cc)
    by false f =
        let asked : Devices = with_choice lines further.1 in
        IsWhole-kept asked next before (ok-same f) (IsWhole-with (asking_of lines further.1) before asked.calls (IsWhole-asking lines before (lines.choices ++ further.1 ∷ []) (IsWhole-with devices before further.0 h)))

IsWhole-call : (devices next : Devices) (before : List DeviceLine) (number : ℕ) (or : Bool) (line : Result Call DevicesError) → after_call devices number or line ≡ Ok next → IsWhole devices before → IsWhole next (before ++ [])
IsWhole-call devices next before number or (Err fault) e h = absurd (let f = e in cc)
IsWhole-call devices next before number true (Ok call) e h = IsWhole-or devices next before number (further_in devices.calls call) e h
IsWhole-call devices next before number false (Ok call) e h =
    let called : Devices = with_call devices call in IsWhole-kept called next before (ok-same e) (IsWhole-with devices before called.calls h)

-- one more line
IsWhole-words : (devices next : Devices) (before : List DeviceLine) (number : ℕ) (line : Text) (words : List Text) → after_words devices number line words ≡ Ok next
    → IsWhole devices before → IsWhole next (before ++ with_said (line_said number words) [])
IsWhole-words devices next before number line [] e h = IsWhole-kept devices next before (ok-same e) h
IsWhole-words devices next before number line (first ∷ words) e h =
    by (known_named first words) refl (is_steady_test first words) refl (begins_comment first) (has_nul line) (is_call first words) refl (line_of number (heading_of first words)) refl e
  where
    by : (o : Option Text) → known_named first words ≡ o → (test : Bool) → is_steady_test first words ≡ test → (comment nul call : Bool) → is_call first words ≡ call → (r : Result DeviceLine DevicesError) → line_of number (heading_of first words) ≡ r
        → cond comment (Ok devices) (cond nul (Err (BadLine number)) (cond call (after_call devices number (is_or first) (call_said devices.files number line first words)) (after_known devices o test r))) ≡ Ok next
        → IsWhole next (before ++ with_said (cond comment None (result_ok r)) [])
    by o is test at true nul call called r line_is e = IsWhole-kept devices next before (ok-same e) h
    by o is test at false true call called r line_is e = cc
    by o is test at false false true called (Err fault) line_is e = IsWhole-call devices next before number (is_or first) (call_said devices.files number line first words) e h
    by o is test at false false true called (Ok one) line_is e = absurd (let bad = sym (calls_are_bad number first words called) ∙ line_is in cc)
    by None is false at false false false called (Err fault) line_is e = cc
    by None is false at false false false called (Ok one) line_is e = IsWhole-next devices next before one (ok-same e) h
    by None is true at false false false called (Err fault) line_is e = IsWhole-kept (record devices { test_stays = true }) next before (ok-same e) (IsWhole-test devices before h)
    by None is true at false false false called (Ok one) line_is e = absurd (let bad = sym (test_is_built_in number first words at) ∙ line_is in cc)
    by (Some name) is test at false false false called (Err fault) line_is e = IsWhole-kept (with_known devices name) next before (ok-same e) (IsWhole-known devices before name h)
    by (Some name) is test at false false false called (Ok one) line_is e = absurd (let bad = sym (known_is_bad number first words name is) ∙ line_is in cc)

with_said-append : (o : Option DeviceLine) (more : List DeviceLine) → with_said o [] ++ more ≡ with_said o more
with_said-append None more = refl
with_said-append (Some one) more = refl

IsWhole-lines : (lines : List (ℕ × Text)) (devices done : Devices) (before : List DeviceLine) → listed_lines devices lines ≡ Ok done → IsWhole devices before → IsWhole done (before ++ lines_said lines)
IsWhole-lines [] devices done before e h = IsWhole-kept devices done before (ok-same e) h
IsWhole-lines (l ∷ lines) devices done before e h =
    by (after_line devices l.0 l.1) refl e (λ next. IsWhole-lines lines next done (before ++ with_said (line_said l.0 (device_words l.1)) []))
  where
    by : (r : Result Devices DevicesError) → after_line devices l.0 l.1 ≡ r → ◌≡◌ {A = Result Devices DevicesError} (elim r [ Ok next ↦ listed_lines next lines | Err fault ↦ Err fault ]) (Ok done)
        → ((next : Devices) → listed_lines next lines ≡ Ok done → IsWhole next (before ++ with_said (line_said l.0 (device_words l.1)) []) → IsWhole done ((before ++ with_said (line_said l.0 (device_words l.1)) []) ++ lines_said lines))
        → IsWhole done (before ++ with_said (line_said l.0 (device_words l.1)) (lines_said lines))
    by (Err fault) is e later = cc
    by (Ok next) is e later =
        let o = line_said l.0 (device_words l.1) in
        let regroup : (before ++ with_said o []) ++ lines_said lines ≡ before ++ with_said o (lines_said lines) =
        append_assoc before (with_said o []) (lines_said lines) ∙ ap (λ ls. before ++ ls) (with_said-append o (lines_said lines)) in
        subst (λ ls. IsWhole done ls) regroup (later next e (IsWhole-words devices next before l.0 l.1 (device_words l.1) is h))

pub lines_are_joined : LinesAreJoined
lines_are_joined text devices e = IsWhole-lines (numbered_lines text) (only []) devices [] (lines_of text devices e) none
  where
    none : IsWhole (only []) []
    none name None = refl
    none name (Some word) = refl
