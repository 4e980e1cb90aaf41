-- What no line of a list uses, the list does not say.
use Rattle.std.proofs.Common.{◌≡◌, ℕ, ◌||◌, ◌&&◌, not, Bool, true, false, cond, List, [], ◌∷◌, ◌++◌, filter, Option, Some, None, Result, Ok, Err, codes, refl, sym, ap, subst, ◌∙◌}
use Rattle.std.proofs.lemmas.Bool.{and_parts, or_parts}
use Rattle.std.proofs.Math.Bool.{and-true}
use Rattle.std.specs.Option.{is_some}
use Rattle.std.specs.List.{list_any, list_all, AllByRecursion}
use Rattle.std.specs.Map.{lookup}
use Rattle.std.specs.Str.{bytes_eq}
use Rattle.text.specs.Lines.{numbered_lines}
use Rattle.text.specs.Lines.{Text}
use Rattle.text.specs.Words.{has_nul}
use Rattle.builtins.specs.Builtins.{is_built_in}
use Rattle.device_list.specs.CallLines.{call_said, is_call}
use Rattle.device_list.specs.DeviceList.{Effect, Effects, Devices, Setting, DeviceLine, Heading, effect_in, effect_at, line_effect, joint, joint_behind, joined_behind, joined_by, joined, changed_at, only, listed, device_words, begins_comment, heading_of, settings, line_with, line_of, known_named, with_known, is_steady_test, after_known, is_or, after_call, after_words, after_line, listed_lines}
use Rattle.device_list.specs.Kinds.{Kind, Settings, Final, Stops, Sub, Known, Steady, Calls, ends_by, may_say, every_kind, same_kind, has, has_words, uses, kinds_said, kinds_of, EachCall, SaysNothing, UnusedKindsSayNothing}
use Rattle.device_list.specs.Finishes.{first_finish}
use Rattle.device_list.specs.declared.finish.BoardEnd.{BoardEnd}
use Rattle.device_list.specs.declared.devices_error.DevicesError.{DevicesError}
use Rattle.device_list.specs.declared.devices_error.DevicesError.TheVariants.{BadLine, BuiltIn}
use Rattle.device_list.proofs.JoinedLines.{ok-same}
use Rattle.device_list.proofs.LineLemmas.{test_is}
use Rattle.device_list.proofs.PlaceLemmas.{without_calls}
use Rattle.device_list.proofs.MarkLemmas.{lines_of}

is_false : (b : Bool) → not b ≡ true → b ≡ false
is_false true f = absurd (let g = f in cc)
is_false false f = refl

-- ---- a kind that the line of a command does not use

any-if : (used : Bool) (kind other : Kind) (more : List Kind) → list_any (same_kind kind) (cond used (other ∷ more) more) ≡ (used && same_kind kind other || list_any (same_kind kind) more)
any-if true kind other more = refl
any-if false kind other more = refl

unused : (kind : Kind) (h : Heading) → has (filter (uses h) every_kind) kind ≡ false → uses h kind ≡ false
unused kind h e =
    let boots = or_parts (ends_by h.ends Final && same_kind kind Final) (has (filter (uses h) (Stops ∷ Steady ∷ Sub ∷ Settings ∷ Known ∷ Calls ∷ [])) kind) (sym (any-if (ends_by h.ends Final) kind Final (filter (uses h) (Stops ∷ Steady ∷ Sub ∷ Settings ∷ Known ∷ Calls ∷ []))) ∙ e) in
    let ends = or_parts (ends_by h.ends Stops && same_kind kind Stops) (has (filter (uses h) (Steady ∷ Sub ∷ Settings ∷ Known ∷ Calls ∷ [])) kind) (sym (any-if (ends_by h.ends Stops) kind Stops (filter (uses h) (Steady ∷ Sub ∷ Settings ∷ Known ∷ Calls ∷ []))) ∙ boots.1) in
    let stays = or_parts (h.stays && same_kind kind Steady) (has (filter (uses h) (Sub ∷ Settings ∷ Known ∷ Calls ∷ [])) kind) (sym (any-if h.stays kind Steady (filter (uses h) (Sub ∷ Settings ∷ Known ∷ Calls ∷ []))) ∙ ends.1) in
    let sub = or_parts (is_some h.word && same_kind kind Sub) (has (filter (uses h) (Settings ∷ Known ∷ Calls ∷ [])) kind) (sym (any-if (is_some h.word) kind Sub (filter (uses h) (Settings ∷ Known ∷ Calls ∷ []))) ∙ stays.1) in
    let sets = or_parts (has_words h && same_kind kind Settings) false (sym (any-if (has_words h) kind Settings []) ∙ sub.1) in
    by kind boots.0 ends.0 stays.0 sub.0 sets.0
  where
    by : (kind : Kind) → (ends_by h.ends Final && same_kind kind Final) ≡ false → (ends_by h.ends Stops && same_kind kind Stops) ≡ false → (h.stays && same_kind kind Steady) ≡ false → (is_some h.word && same_kind kind Sub) ≡ false → (has_words h && same_kind kind Settings) ≡ false → uses h kind ≡ false
    by Final boots ends stays sub sets = sym (and-true (ends_by h.ends Final)) ∙ boots
    by Stops boots ends stays sub sets = sym (and-true (ends_by h.ends Stops)) ∙ ends
    by Steady boots ends stays sub sets = sym (and-true h.stays) ∙ stays
    by Sub boots ends stays sub sets = sym (and-true (is_some h.word)) ∙ sub
    by Settings boots ends stays sub sets = sym (and-true (has_words h)) ∙ sets
    by Known boots ends stays sub sets = refl
    by Calls boots ends stays sub sets = refl

-- ---- what each line keeps of a list, the whole list keeps

module _ (kind : Kind) (P : Devices → Type 0)
    (command : (devices : Devices) (number : ℕ) (h : Heading) (one : DeviceLine) → line_of number h ≡ Ok one → uses h kind ≡ false → P devices → P (joined devices one))
    (known : same_kind kind Known ≡ false → (devices : Devices) (name : Text) → P devices → P (with_known devices name))
    (test : same_kind kind Steady ≡ false → (devices : Devices) → P devices → P (record devices { test_stays = true })) where
  words-keep : (devices next : Devices) (number : ℕ) (line : Text) (words : List Text) → may_say (kinds_said words) kind ≡ false → after_words devices number line words ≡ Ok next → P devices → P next
  words-keep devices next number line [] none e p = subst P (ok-same e) p
  words-keep devices next number line (first ∷ words) none e p =
      by (begins_comment first) (has_nul line) (is_call first words) (known_named first words) (is_steady_test first words) refl (line_of number (heading_of first words)) refl none e
    where
      steady_test : is_steady_test first words ≡ true → has (filter (uses (heading_of first words)) every_kind) kind ≡ false → same_kind kind Steady ≡ false
      steady_test at without =
          let t = test_is first words at in
          let here : has (filter (uses (heading_of (codes "steady") (codes "test" ∷ []))) every_kind) kind ≡ false = sym (λ i. has (filter (uses (heading_of (t.0 i) (t.1 i))) every_kind) kind) ∙ without in
          (or_parts (same_kind kind Steady) false here).0

      used : (kinds : List Kind) → may_say kinds kind ≡ false → has kinds kind ≡ false
      used kinds f = (or_parts (has kinds kind) (has kinds Calls) f).0

      by : (comment nul call : Bool) (o : Option Text) (is_test : Bool) → is_steady_test first words ≡ is_test → (r : Result DeviceLine DevicesError) → line_of number (heading_of first words) ≡ r
          → may_say (cond comment [] (cond call (Calls ∷ []) (cond (is_some o) (Known ∷ []) (filter (uses (heading_of first words)) every_kind)))) kind ≡ false
          → cond comment (Ok devices) (cond nul (Err (BadLine number)) (cond call (after_call devices number (is_or first) (call_said devices.files number line first words)) (after_known devices o is_test r))) ≡ Ok next → P next
      by true nul call o is_test at r is without f = subst P (ok-same f) p
      by false true call o is_test at r is without f = absurd (let g = f in cc)
      by false false true o is_test at r is without f = absurd (let g = (or_parts (has (Calls ∷ []) kind) true without).1 in cc)
      by false false false (Some name) is_test at r is without f = subst P (ok-same f) (known (or_parts (same_kind kind Known) false (used (Known ∷ []) without)).0 devices name p)
      by false false false None true at r is without f = subst P (ok-same f) (test (steady_test at (used (filter (uses (heading_of first words)) every_kind) without)) devices p)
      by false false false None false at (Err fault) is without f = absurd (let g = f in cc)
      by false false false None false at (Ok one) is without f = subst P (ok-same f) (command devices number (heading_of first words) one is (unused kind (heading_of first words) (used (filter (uses (heading_of first words)) every_kind) without)) p)

  lines-keep : (lines : List (ℕ × Text)) (devices done : Devices) → list_all (λ l. not (may_say (kinds_of l.1) kind)) lines ≡ true → listed_lines devices lines ≡ Ok done → P devices → P done
  lines-keep [] devices done none e p = subst P (ok-same e) p
  lines-keep (l ∷ lines) devices done none e p =
      let both = and_parts (not (may_say (kinds_of l.1) kind)) (list_all (λ l. not (may_say (kinds_of l.1) kind)) lines) none in
      by (after_line devices l.0 l.1) refl e (is_false (may_say (kinds_of l.1) kind) both.0) (λ next. lines-keep lines next done both.1)
    where
      by : (r : Result Devices DevicesError) → after_line devices l.0 l.1 ≡ r → ◌≡◌ {A = Result Devices DevicesError} (elim r [ Ok next ↦ listed_lines next lines | Err fault ↦ Err fault ]) (Ok done)
          → may_say (kinds_of l.1) kind ≡ false → ((next : Devices) → listed_lines next lines ≡ Ok done → P next → P done) → P done
      by (Err fault) is f without later = absurd (let g = f in cc)
      by (Ok next) is f without later = later next f (words-keep devices next l.0 l.1 (device_words l.1) without is p)

  list-keeps : (text : Text) (devices : Devices) → listed text ≡ Ok devices → list_all (λ l. not (may_say (kinds_of l.1) kind)) (numbered_lines text) ≡ true → P (only []) → P devices
  list-keeps text devices e none p = lines-keep (numbered_lines text) (only []) devices none (lines_of text devices e) p

-- ---- what each line says, each call does

-- what a line of a command says
pub line-says : (number : ℕ) (h : Heading) (one : DeviceLine) → line_of number h ≡ Ok one
    → (sets : List Setting) × (settings (is_some h.word) h.words ≡ Some sets) × ((let l : DeviceLine = record { name = h.name; word = h.word; effect = record { ends = h.ends; stays = h.stays; always = None; needs = []; normal = false; runs = []; sets = sets } } in l) ≡ one)
line-says number h one e = by (settings (is_some h.word) h.words) refl (is_built_in h.name) refl e
  where
    by : (o : Option (List Setting)) → settings (is_some h.word) h.words ≡ o → (b : Bool) → is_built_in h.name ≡ b → line_with number h o ≡ Ok one
        → (sets : List Setting) × (settings (is_some h.word) h.words ≡ Some sets) × ((let l : DeviceLine = record { name = h.name; word = h.word; effect = record { ends = h.ends; stays = h.stays; always = None; needs = []; normal = false; runs = []; sets = sets } } in l) ≡ one)
    by None found b is f = absurd (let g = f in cc)
    by (Some sets) found true is f = absurd (let g : line_with number h (Some sets) ≡ Err (BuiltIn number) = rw is refl in let k = sym g ∙ f in cc)
    by (Some sets) found false is f =
        let made : DeviceLine = record { name = h.name; word = h.word; effect = record { ends = h.ends; stays = h.stays; always = None; needs = []; normal = false; runs = []; sets = sets } } in
        let g : line_with number h (Some sets) ≡ Ok made = rw is refl in
        (sets, found, ok-same (sym g ∙ f))

pub changed-all : {V : Type 0} (P : V → Type 0) (change : Option V → V) (es : List (Text × V)) (key : Text) → AllByRecursion (λ e. P e.1) es → P (change None) → ((v : V) → P v → P (change (Some v)))
    → AllByRecursion (λ e. P e.1) (changed_at change es key)
changed-all P change [] key all new more = (new, tt)
changed-all P change (e ∷ es) key all new more = by (bytes_eq key e.0) (changed-all P change es key all.1 new more)
  where
    by : (b : Bool) → AllByRecursion (λ e. P e.1) (changed_at change es key) → AllByRecursion (λ e. P e.1) (cond b ((e.0, change (Some e.1)) ∷ es) (e ∷ changed_at change es key))
    by true rest = (more e.1 all.0, all.1)
    by false rest = (all.0, rest)

pub found-all : {V : Type 0} (P : V → Type 0) (test : Text → Bool) (es : List (Text × V)) (v : V) → AllByRecursion (λ e. P e.1) es → lookup test es ≡ Some v → P v
found-all P test [] v all e = absurd (let f = e in cc)
found-all P test (d ∷ es) v all e = by (test d.0) e (found-all P test es v all.1)
  where
    by : (b : Bool) → cond b (Some d.1) (lookup test es) ≡ Some v → (lookup test es ≡ Some v → P v) → P v
    by true f rest = let same : d.1 ≡ v = cc in subst P same all.0
    by false f rest = rest f

module _ (Does : Effect → Type 0) (both : (before more : Effect) → Does before → Does more → Does (joint before more)) where
  abbrev pub Each : Effects → Type 0
  Each = AllByRecursion (λ d. Does d.1)

  abbrev pub AllDo : Devices → Type 0
  AllDo devices = Each devices.commands × (AllByRecursion (λ t. Each t.1) devices.subs × (devices.calls ≡ []))

  joined_in-do : (effects : Effects) (name : Text) (more : Effect) → Does more → Each effects → Each (changed_at (joint_behind more) effects name)
  joined_in-do effects name more does all = changed-all Does (joint_behind more) effects name all does (λ before d. both before more d does)

  pub joined-do : (devices : Devices) (name : Text) (word : Option Text) (more : Effect) → Does more → AllDo devices → AllDo (joined_by devices name word more)
  joined-do devices name None more does all = (joined_in-do devices.commands name more does all.0, all.1)
  joined-do devices name (Some word) more does all =
      (all.0, (changed-all Each (joined_behind word more) devices.subs name all.1.0 (does, tt) (λ effects a. joined_in-do effects word more does a), all.1.1))

  known-do : (devices : Devices) (name : Text) → AllDo devices → AllDo (with_known devices name)
  known-do devices name all = by (list_any (bytes_eq name) devices.known)
    where
      by : (b : Bool) → AllDo (cond b devices (record devices { known = devices.known ++ name ∷ [] }))
      by true = all
      by false = all

  -- what is found is what a line says
  named-does : (devices : Devices) (name : Text) (effect : Effect) → AllDo devices → effect_at devices name None ≡ Some effect → Does effect
  named-does devices name effect all e = found-all Does (bytes_eq name) devices.commands effect all.0 e

  sub-does : (devices : Devices) (name word : Text) (effect : Effect) → AllDo devices → effect_at devices name (Some word) ≡ Some effect → Does effect
  sub-does devices name word effect all e = by (lookup (bytes_eq name) devices.subs) refl e
    where
      by : (o : Option Effects) → lookup (bytes_eq name) devices.subs ≡ o → ◌≡◌ {A = Option Effect} (elim o [ None ↦ None | Some effects ↦ effect_in effects word ]) (Some effect) → Does effect
      by None is f = absurd (let g = f in cc)
      by (Some effects) is f = found-all Does (bytes_eq word) effects effect (found-all Each (bytes_eq name) devices.subs effects all.1.0 is) f

  pub lines-do : (devices : Devices) (name : Text) (words : List Text) (effect : Effect) → AllDo devices → line_effect devices name words ≡ Some effect → Does effect
  lines-do devices name [] effect all e = named-does devices name effect all e
  lines-do devices name (word ∷ words) effect all e = by (effect_at devices name (Some word)) refl e
    where
      by : (o : Option Effect) → effect_at devices name (Some word) ≡ o → ◌≡◌ {A = Option Effect} (elim o [ Some found ↦ Some found | None ↦ effect_at devices name None ]) (Some effect) → Does effect
      by None is f = named-does devices name effect all f
      by (Some found) is f = sub-does devices name word effect all (is ∙ f)

  calls-do : (devices : Devices) → AllDo devices → EachCall Does devices
  calls-do devices all name words effect e = lines-do devices name words effect all (sym (without_calls devices name words all.1.1) ∙ e)

-- ---- each kind

abbrev IsUnused : Kind → Text → Type 0
IsUnused kind text = list_all (λ l. not (may_say (kinds_of l.1) kind)) (numbered_lines text) ≡ true

-- a kind of which a command is by how it ends the run
module _ (kind : Kind) (is_end : (h : Heading) → uses h kind ≡ ends_by h.ends kind) where
  abbrev GoesOn : Effect → Type 0
  GoesOn effect = ends_by effect.ends kind ≡ false

  both-go : (before more : Effect) → GoesOn before → GoesOn more → GoesOn (joint before more)
  both-go before more a b = by before.ends a
    where
      by : (ends : Option BoardEnd) → ends_by ends kind ≡ false → ends_by (first_finish ends more.ends) kind ≡ false
      by None a = b
      by (Some finish) a = a

  end-unused : (text : Text) (devices : Devices) → listed text ≡ Ok devices → IsUnused kind text → EachCall GoesOn devices
  end-unused text devices e none =
      calls-do GoesOn both-go devices (list-keeps kind (AllDo GoesOn both-go) command (λ other devices name. known-do GoesOn both-go devices name) (λ other devices all. all) text devices e none (tt, (tt, refl)))
    where
      command : (devices : Devices) (number : ℕ) (h : Heading) (one : DeviceLine) → line_of number h ≡ Ok one → uses h kind ≡ false → AllDo GoesOn both-go devices → AllDo GoesOn both-go (joined devices one)
      command devices number h one is without all =
          let says = line-says number h one is in
          joined-do GoesOn both-go devices one.name one.word one.effect (sym (λ i. ends_by (says.2 i).effect.ends kind) ∙ sym (is_end h) ∙ without) all

abbrev AsksAnew : Effect → Type 0
AsksAnew effect = effect.stays ≡ false

both-ask : (before more : Effect) → AsksAnew before → AsksAnew more → AsksAnew (joint before more)
both-ask before more a b = λ i. a i || b i

abbrev AllAskAnew : Devices → Type 0
AllAskAnew devices = AllDo AsksAnew both-ask devices × (devices.test_stays ≡ false)

steady-unused : (text : Text) (devices : Devices) → listed text ≡ Ok devices → IsUnused Steady text → SaysNothing Steady devices
steady-unused text devices e none =
    let all = list-keeps Steady AllAskAnew command known (λ unlike devices p. absurd (let f = unlike in cc)) text devices e none ((tt, (tt, refl)), refl) in
    (calls-do AsksAnew both-ask devices all.0, all.1)
  where
    same_test : (devices : Devices) (name : Text) (word : Option Text) (more : Effect) → (joined_by devices name word more).test_stays ≡ devices.test_stays
    same_test devices name None more = refl
    same_test devices name (Some word) more = refl

    command : (devices : Devices) (number : ℕ) (h : Heading) (one : DeviceLine) → line_of number h ≡ Ok one → uses h Steady ≡ false → AllAskAnew devices → AllAskAnew (joined devices one)
    command devices number h one is without all =
        let says = line-says number h one is in
        (joined-do AsksAnew both-ask devices one.name one.word one.effect (sym (λ i. (says.2 i).effect.stays) ∙ without) all.0, same_test devices one.name one.word one.effect ∙ all.1)

    known : same_kind Steady Known ≡ false → (devices : Devices) (name : Text) → AllAskAnew devices → AllAskAnew (with_known devices name)
    known unlike devices name all = by (list_any (bytes_eq name) devices.known)
      where
        by : (b : Bool) → AllAskAnew (cond b devices (record devices { known = devices.known ++ name ∷ [] }))
        by true = all
        by false = all

abbrev NoSubs : Devices → Type 0
NoSubs devices = devices.subs ≡ []

sub-unused : (text : Text) (devices : Devices) → listed text ≡ Ok devices → IsUnused Sub text → SaysNothing Sub devices
sub-unused text devices e none = list-keeps Sub NoSubs command known (λ other devices p. p) text devices e none refl
  where
    no_word : (word : Option Text) → is_some word ≡ false → word ≡ None
    no_word None f = refl
    no_word (Some word) f = absurd (let g = f in cc)

    command : (devices : Devices) (number : ℕ) (h : Heading) (one : DeviceLine) → line_of number h ≡ Ok one → uses h Sub ≡ false → NoSubs devices → NoSubs (joined devices one)
    command devices number h one is without all =
        let says = line-says number h one is in
        let none : one.word ≡ None = sym (λ i. (says.2 i).word) ∙ no_word h.word without in
        (λ i. (joined_by devices one.name (none i) one.effect).subs) ∙ all

    known : same_kind Sub Known ≡ false → (devices : Devices) (name : Text) → NoSubs devices → NoSubs (with_known devices name)
    known unlike devices name all = by (list_any (bytes_eq name) devices.known)
      where
        by : (b : Bool) → NoSubs (cond b devices (record devices { known = devices.known ++ name ∷ [] }))
        by true = all
        by false = all

abbrev SetsNothing : Effect → Type 0
SetsNothing effect = effect.sets ≡ []

both-nothing : (before more : Effect) → SetsNothing before → SetsNothing more → SetsNothing (joint before more)
both-nothing before more a b = λ i. a i ++ b i

settings-unused : (text : Text) (devices : Devices) → listed text ≡ Ok devices → IsUnused Settings text → SaysNothing Settings devices
settings-unused text devices e none =
    calls-do SetsNothing both-nothing devices (list-keeps Settings (AllDo SetsNothing both-nothing) command (λ other devices name. known-do SetsNothing both-nothing devices name) (λ other devices all. all) text devices e none (tt, (tt, refl)))
  where
    no_words : (words : List Text) → ◌≡◌ {A = Bool} (elim words [ [] ↦ false | word ∷ more ↦ true ]) false → words ≡ []
    no_words [] f = refl
    no_words (word ∷ words) f = absurd (let g = f in cc)

    command : (devices : Devices) (number : ℕ) (h : Heading) (one : DeviceLine) → line_of number h ≡ Ok one → uses h Settings ≡ false → AllDo SetsNothing both-nothing devices → AllDo SetsNothing both-nothing (joined devices one)
    command devices number h one is without all =
        let says = line-says number h one is in
        let found : ◌≡◌ {A = Option (List Setting)} (Some []) (Some says.0) = sym (ap (settings (is_some h.word)) (no_words h.words without)) ∙ says.1 in
        let empty : [] ≡ says.0 = cc in
        joined-do SetsNothing both-nothing devices one.name one.word one.effect (sym (λ i. (says.2 i).effect.sets) ∙ sym empty) all

abbrev NoneKnown : Devices → Type 0
NoneKnown devices = devices.known ≡ []

known-unused : (text : Text) (devices : Devices) → listed text ≡ Ok devices → IsUnused Known text → SaysNothing Known devices
known-unused text devices e none = list-keeps Known NoneKnown command (λ unlike devices name p. absurd (let f = unlike in cc)) (λ other devices p. p) text devices e none refl
  where
    same_known : (devices : Devices) (name : Text) (word : Option Text) (more : Effect) → (joined_by devices name word more).known ≡ devices.known
    same_known devices name None more = refl
    same_known devices name (Some word) more = refl

    command : (devices : Devices) (number : ℕ) (h : Heading) (one : DeviceLine) → line_of number h ≡ Ok one → uses h Known ≡ false → NoneKnown devices → NoneKnown (joined devices one)
    command devices number h one is without all = same_known devices one.name one.word one.effect ∙ all

abbrev TakesOutcomes : Effect → Type 0
TakesOutcomes effect = (effect.always ≡ None) × (effect.needs ≡ []) × (effect.normal ≡ false) × (effect.runs ≡ [])

both-take : (before more : Effect) → TakesOutcomes before → TakesOutcomes more → TakesOutcomes (joint before more)
both-take before more a b = a

calls-unused : (text : Text) (devices : Devices) → listed text ≡ Ok devices → IsUnused Calls text → SaysNothing Calls devices
calls-unused text devices e none =
    let all = list-keeps Calls (AllDo TakesOutcomes both-take) command (λ other devices name. known-do TakesOutcomes both-take devices name) (λ other devices all. all) text devices e none (tt, (tt, refl)) in
    (calls-do TakesOutcomes both-take devices all, all.1.1)
  where
    command : (devices : Devices) (number : ℕ) (h : Heading) (one : DeviceLine) → line_of number h ≡ Ok one → uses h Calls ≡ false → AllDo TakesOutcomes both-take devices → AllDo TakesOutcomes both-take (joined devices one)
    command devices number h one is without all =
        let says = line-says number h one is in
        joined-do TakesOutcomes both-take devices one.name one.word one.effect (sym (λ i. (says.2 i).effect.always), sym (λ i. (says.2 i).effect.needs), sym (λ i. (says.2 i).effect.normal), sym (λ i. (says.2 i).effect.runs)) all

pub unused_kinds_say_nothing : UnusedKindsSayNothing
unused_kinds_say_nothing Final text devices e none = end-unused Final (λ h. refl) text devices e none
unused_kinds_say_nothing Stops text devices e none = end-unused Stops (λ h. refl) text devices e none
unused_kinds_say_nothing Steady text devices e none = steady-unused text devices e none
unused_kinds_say_nothing Sub text devices e none = sub-unused text devices e none
unused_kinds_say_nothing Settings text devices e none = settings-unused text devices e none
unused_kinds_say_nothing Known text devices e none = known-unused text devices e none
unused_kinds_say_nothing Calls text devices e none = calls-unused text devices e none
