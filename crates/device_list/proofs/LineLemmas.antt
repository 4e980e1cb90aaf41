-- Lines that name no command, though their words begin as those of one.
use Rattle.std.proofs.Common.{◌≡◌, ℕ, ◌+◌, take, drop, ◌&&◌, ◌||◌, not, ◌⊎◌, Bool, true, false, List, [], ◌∷◌, Option, Some, None, Err, codes, cond, refl, sym, ap, ◌∙◌, inl, inr}
use Rattle.std.proofs.lemmas.Bool.{cases_Bool, and_parts}
use Rattle.std.proofs.lemmas.List.Folds.{list_any_at}
use Rattle.std.proofs.lemmas.List.Quantifiers.{position-Some}
use Rattle.std.specs.Cmp.Lexicographic.{bytes_decides}
use Rattle.std.specs.Option.{is_some, option_map}
use Rattle.std.specs.List.{list_any, position}
use Rattle.std.specs.Str.{bytes_eq}
use Rattle.text.specs.Words.{is_equals}
use Rattle.text.specs.Lines.{Text}
use Rattle.commands.specs.KnownCommands.{known_of}
use Rattle.device_list.specs.CallLines.{is_colon, is_lone, is_call}
use Rattle.device_list.specs.Finishes.{finish_named}
use Rattle.device_list.specs.declared.finish.BoardEnd.{BoardEnd}
use Rattle.device_list.specs.declared.finish.BoardEnd.TheVariants.{Boots, Restarts, Halts}
use Rattle.device_list.specs.DeviceList.{finish_before, Setting, Literal, named, call_of, steady_of, heading_of, settings, setting, left_side, line_with, line_of, known_named, is_steady_test}
use Rattle.device_list.specs.declared.devices_error.DevicesError.TheVariants.{BadLine, BuiltIn}

is_false : (b : Bool) → not b ≡ true → b ≡ false
is_false true f = absurd (let g = f in cc)
is_false false f = refl

-- ---- a word without `=` is not a setting

not_found : (test : ℕ → Bool) (bytes : Text) → list_any test bytes ≡ false → position test bytes ≡ None
not_found test bytes none = by (position test bytes) refl
  where
    by : (o : Option ℕ) → position test bytes ≡ o → o ≡ None
    by None is = refl
    by (Some at) is =
        let found = position-Some test bytes at 0 is in
        let some : list_any test bytes ≡ true = list_any_at test bytes at 0 found.0 found.1 in
        absurd (let f = sym some ∙ none in cc)

no_settings : (second : Text) (words : List Text) → list_any is_equals second ≡ false → settings false (second ∷ words) ≡ None
no_settings second words none =
    let gone : setting false second ≡ None =
    ap (λ (o : Option ℕ). let r : Option Setting = elim o [ None ↦ None | Some at ↦ option_map (λ left. (left, Literal (drop (at + 1) second))) (left_side false (take at second)) ] in r) (not_found is_equals second none) in
    ap (λ (o : Option Setting). let r : Option (List Setting) = elim o [ None ↦ None | Some one ↦ option_map (λ more. one ∷ more) (settings false words) ] in r) gone

module _ (number : ℕ) where
  pub named_is_bad : (ends : Option BoardEnd) (stays : Bool) (first second : Text) (words : List Text) → list_any is_equals second ≡ false → line_of number (named ends stays first (second ∷ words)) ≡ Err (BadLine number)
  named_is_bad ends stays first second words none = ap (line_with number (named ends stays first (second ∷ words))) (no_settings second words none)

  call_is_bad : (ends : Option BoardEnd) (first second : Text) (words : List Text) → bytes_eq first (codes "sub") ≡ false → list_any is_equals second ≡ false → line_of number (call_of ends false first (second ∷ words)) ≡ Err (BadLine number)
  call_is_bad ends first second [] other none = named_is_bad ends false first second [] none
  call_is_bad ends first second (third ∷ words) other none = rw other (named_is_bad ends false first second (third ∷ words) none)

  -- `steady` as the name of a command, and the words that end a run
  pub steady_is_bad : (ends : Option BoardEnd) (first second : Text) (words : List Text) → bytes_eq first (codes "steady") ≡ true → list_any is_equals second ≡ false → line_of number (call_of ends false first (second ∷ words)) ≡ Err (BadLine number)
  steady_is_bad ends first second words e none =
      let is : first ≡ codes "steady" = (bytes_decides first (codes "steady")).0 e in
      call_is_bad ends first second words (ap (λ f. bytes_eq f (codes "sub")) is) none

  pub finish_is_bad : (finish : BoardEnd) (first second : Text) (words : List Text) → finish_named first ≡ Some finish → list_any is_equals second ≡ false → line_of number (steady_of None first (second ∷ words)) ≡ Err (BadLine number)
  finish_is_bad finish first second words e none =
      by (bytes_eq first (codes "final")) (bytes_eq first (codes "restart")) (bytes_eq first (codes "halt")) refl refl refl e
    where
      one : (word : Text) → line_of number (steady_of None word (second ∷ words)) ≡ Err (BadLine number) → bytes_eq first word ≡ true → line_of number (steady_of None first (second ∷ words)) ≡ Err (BadLine number)
      one word bad same =
          let is : first ≡ word = (bytes_decides first word).0 same in
          (λ i. line_of number (steady_of None (is i) (second ∷ words))) ∙ bad

      by : (a b c : Bool) → bytes_eq first (codes "final") ≡ a → bytes_eq first (codes "restart") ≡ b → bytes_eq first (codes "halt") ≡ c
          → ◌≡◌ {A = Option BoardEnd} (cond a (Some Boots) (cond b (Some Restarts) (cond c (Some Halts) None))) (Some finish) → line_of number (steady_of None first (second ∷ words)) ≡ Err (BadLine number)
      by true b c p q r f = one (codes "final") (call_is_bad None (codes "final") second words refl none) p
      by false true c p q r f = one (codes "restart") (call_is_bad None (codes "restart") second words refl none) q
      by false false true p q r f = one (codes "halt") (call_is_bad None (codes "halt") second words refl none) r
      by false false false p q r f = cc

-- what is in front of a command says how it ends the run
pub finish_parts : (finish : BoardEnd) (first second : Text) → finish_before first second ≡ Some finish → (finish_named first ≡ Some finish) × (list_any is_equals second ≡ false)
finish_parts finish first second e = by (finish_named first) (list_any is_equals second) e
  where
    by : (o : Option BoardEnd) (b : Bool) → ◌≡◌ {A = Option BoardEnd} (elim o [ None ↦ None | Some f ↦ cond b None (Some f) ]) (Some finish) → (o ≡ Some finish) × (b ≡ false)
    by None b f = absurd (let g = f in cc)
    by (Some other) true f = absurd (let g = f in cc)
    by (Some other) false f = (f, refl)

-- ---- a `known` line names no command

bad_name : (number : ℕ) (name : Text) → is_some (known_of name) ≡ true → line_of number (heading_of (codes "known") (name ∷ [])) ≡ Err (BadLine number)
bad_name number name e = by (bytes_eq name (codes "env")) (bytes_eq name (codes "itest")) (bytes_eq name (codes "setexpr")) refl refl refl e
  where
    one : (known : Text) → line_of number (heading_of (codes "known") (known ∷ [])) ≡ Err (BadLine number) → name ≡ known → line_of number (heading_of (codes "known") (name ∷ [])) ≡ Err (BadLine number)
    one known bad is = ap (λ (n : Text). line_of number (heading_of (codes "known") (n ∷ []))) is ∙ bad

    by : (a b c : Bool) → bytes_eq name (codes "env") ≡ a → bytes_eq name (codes "itest") ≡ b → bytes_eq name (codes "setexpr") ≡ c → is_some (known_of name) ≡ true → line_of number (heading_of (codes "known") (name ∷ [])) ≡ Err (BadLine number)
    by true b c p q r f = one (codes "env") refl ((bytes_decides name (codes "env")).0 p)
    by false true c p q r f = one (codes "itest") refl ((bytes_decides name (codes "itest")).0 q)
    by false false true p q r f = one (codes "setexpr") refl ((bytes_decides name (codes "setexpr")).0 r)
    by false false false p q r f = absurd (let g : is_some (known_of name) ≡ false = rw (p, q, r) refl in let h = sym g ∙ f in cc)

-- a line that has a command computed
known_is : (first : Text) (words : List Text) (name : Text) → known_named first words ≡ Some name → (first ≡ codes "known") × (second : Text) × (words ≡ second ∷ []) × (is_some (known_of second) ≡ true)
known_is first [] name e = cc
known_is first (second ∷ third ∷ words) name e = cc
known_is first (second ∷ []) name e =
    elim (cases_Bool (bytes_eq first (codes "known") && is_some (known_of second))) [
      | inl both ↦
          let parts = and_parts (bytes_eq first (codes "known")) (is_some (known_of second)) both in
          ((bytes_decides first (codes "known")).0 parts.0, second, refl, parts.1)
      | inr neither ↦ absurd (let none : known_named first (second ∷ []) ≡ None = rw neither refl in let f = sym none ∙ e in cc)
    ]

pub known_is_bad : (number : ℕ) (first : Text) (words : List Text) (name : Text) → known_named first words ≡ Some name → line_of number (heading_of first words) ≡ Err (BadLine number)
known_is_bad number first words name e =
    let k = known_is first words name e in
    (λ i. line_of number (heading_of (k.0 i) (k.2 i))) ∙ bad_name number k.1 k.3

-- and is no `steady test` line
pub known_is_no_test : (first : Text) (words : List Text) (name : Text) → known_named first words ≡ Some name → is_steady_test first words ≡ false
known_is_no_test first words name e =
    let k = known_is first words name e in
    let other : is_steady_test (codes "known") (k.1 ∷ []) ≡ false = refl in
    (λ i. is_steady_test (k.0 i) (k.2 i)) ∙ other

-- ---- a `steady test` line names no command

pub test_is : (first : Text) (words : List Text) → is_steady_test first words ≡ true → (first ≡ codes "steady") × (words ≡ codes "test" ∷ [])
test_is first [] e = cc
test_is first (second ∷ third ∷ words) e = cc
test_is first (second ∷ []) e =
    let both = and_parts (bytes_eq first (codes "steady")) (bytes_eq second (codes "test")) e in
    ((bytes_decides first (codes "steady")).0 both.0, ap (λ (w : Text). w ∷ []) ((bytes_decides second (codes "test")).0 both.1))

pub test_is_built_in : (number : ℕ) (first : Text) (words : List Text) → is_steady_test first words ≡ true → line_of number (heading_of first words) ≡ Err (BuiltIn number)
test_is_built_in number first words e =
    let t = test_is first words e in
    let built_in : line_of number (heading_of (codes "steady") (codes "test" ∷ [])) ≡ Err (BuiltIn number) = refl in
    (λ i. line_of number (heading_of (t.0 i) (t.1 i))) ∙ built_in

-- ---- a line of calls names no command, though it might without the lines of calls

-- words of which one is `:` are no settings
colon_sets : (words : List Text) → list_any is_colon words ≡ true → settings false words ≡ None
colon_sets [] e = absurd (let f = e in cc)
colon_sets (word ∷ words) e =
    elim (cases_Bool (is_colon word)) [
      | inl here ↦
          let is : word ≡ codes ":" = (bytes_decides word (codes ":")).0 here in
          let none : settings false (codes ":" ∷ words) ≡ None = refl in
          (λ i. settings false (is i ∷ words)) ∙ none
      | inr other ↦ by (setting false word) (colon_sets words (sym (ap (λ (b : Bool). b || list_any is_colon words) other) ∙ e))
    ]
  where
    by : (o : Option Setting) → settings false words ≡ None
        → ◌≡◌ {A = Option (List Setting)} (elim o [ None ↦ None | Some first ↦ option_map (λ more. first ∷ more) (settings false words) ]) None
    by None rest = refl
    by (Some first) rest = ap (λ (r : Option (List Setting)). option_map (λ more. first ∷ more) r) rest

-- what a line of calls is
abbrev IsCallLine : Text → List Text → Type 0
IsCallLine first words = (first ≡ codes "call") × (list_any is_colon words ≡ true)

abbrev IsLoneLine : (kind : Text) → Text → List Text → Type 0
IsLoneLine kind first words = (first ≡ kind) × ((name : Text) × ((words ≡ name ∷ []) × (list_any is_equals name ≡ false)))

abbrev IsOrLine : Text → List Text → Type 0
IsOrLine first words = (first ≡ codes "or") × ((rest : List Text) × (words ≡ codes "call" ∷ rest))

call_is : (first : Text) (words : List Text) → is_call first words ≡ true → IsCallLine first words ⊎ ((IsLoneLine (codes "absent") first words ⊎ IsLoneLine (codes "saves") first words) ⊎ IsOrLine first words)
call_is first [] e = absurd (let f = e in cc)
call_is first (word ∷ words) e = by (bytes_eq first (codes "call")) refl (bytes_eq first (codes "or")) refl e
  where
    lone : (ws : List Text) → is_lone word ws ≡ true → (name : Text) × ((word ∷ ws ≡ name ∷ []) × (list_any is_equals name ≡ false))
    lone [] f = (word, (refl, is_false (list_any is_equals word) f))
    lone (w ∷ ws) f = absurd (let g = f in cc)

    by : (b : Bool) → bytes_eq first (codes "call") ≡ b → (o : Bool) → bytes_eq first (codes "or") ≡ o
        → cond b (list_any is_colon (word ∷ words)) (cond o (bytes_eq word (codes "call") && list_any is_colon words) ((bytes_eq first (codes "absent") || bytes_eq first (codes "saves")) && is_lone word words)) ≡ true
        → IsCallLine first (word ∷ words) ⊎ ((IsLoneLine (codes "absent") first (word ∷ words) ⊎ IsLoneLine (codes "saves") first (word ∷ words)) ⊎ IsOrLine first (word ∷ words))
    by true is o of f = inl ((bytes_decides first (codes "call")).0 is, f)
    by false is true of f =
        let both = and_parts (bytes_eq word (codes "call")) (list_any is_colon words) f in
        inr (inr ((bytes_decides first (codes "or")).0 of, (words, ap (λ (w : Text). w ∷ words) ((bytes_decides word (codes "call")).0 both.0))))
    by false is false of f =
        let both = and_parts (bytes_eq first (codes "absent") || bytes_eq first (codes "saves")) (is_lone word words) f in
        inr (inl (either (bytes_eq first (codes "absent")) refl both.0 (lone words both.1)))
      where
        either : (b : Bool) → bytes_eq first (codes "absent") ≡ b → (b || bytes_eq first (codes "saves")) ≡ true → (name : Text) × ((word ∷ words ≡ name ∷ []) × (list_any is_equals name ≡ false))
            → IsLoneLine (codes "absent") first (word ∷ words) ⊎ IsLoneLine (codes "saves") first (word ∷ words)
        either true is g alone = inl ((bytes_decides first (codes "absent")).0 is, alone)
        either false is g alone = inr ((bytes_decides first (codes "saves")).0 g, alone)

call_heading : (words : List Text) → heading_of (codes "call") words ≡ named None false (codes "call") words
call_heading [] = refl
call_heading (word ∷ []) = refl
call_heading (word ∷ second ∷ words) = refl

or_heading : (rest : List Text) → heading_of (codes "or") (codes "call" ∷ rest) ≡ named None false (codes "or") (codes "call" ∷ rest)
or_heading [] = refl
or_heading (word ∷ rest) = refl

pub calls_are_bad : (number : ℕ) (first : Text) (words : List Text) → is_call first words ≡ true → line_of number (heading_of first words) ≡ Err (BadLine number)
calls_are_bad number first words e =
    elim (call_is first words e) [
      | inl call ↦
          (λ i. line_of number (heading_of (call.0 i) words))
          ∙ ap (line_of number) (call_heading words)
          ∙ ap (line_with number (named None false (codes "call") words)) (colon_sets words call.1)
      | inr (inl (inl absent)) ↦
          let bad : line_of number (heading_of (codes "absent") (absent.1.0 ∷ [])) ≡ Err (BadLine number) = named_is_bad number None false (codes "absent") absent.1.0 [] absent.1.1.1 in
          (λ i. line_of number (heading_of (absent.0 i) (absent.1.1.0 i))) ∙ bad
      | inr (inl (inr saves)) ↦
          let bad : line_of number (heading_of (codes "saves") (saves.1.0 ∷ [])) ≡ Err (BadLine number) = named_is_bad number None false (codes "saves") saves.1.0 [] saves.1.1.1 in
          (λ i. line_of number (heading_of (saves.0 i) (saves.1.1.0 i))) ∙ bad
      | inr (inr further) ↦
          (λ i. line_of number (heading_of (further.0 i) (further.1.1 i)))
          ∙ ap (line_of number) (or_heading further.1.0)
          ∙ named_is_bad number None false (codes "or") (codes "call") further.1.0 refl
    ]

pub calls_are_not_known : (first : Text) (words : List Text) → is_call first words ≡ true → known_named first words ≡ None
calls_are_not_known first words e =
    elim (call_is first words e) [
      | inl call ↦ (λ i. known_named (call.0 i) words) ∙ none (codes "call") words refl
      | inr (inl (inl absent)) ↦ (λ i. known_named (absent.0 i) words) ∙ none (codes "absent") words refl
      | inr (inl (inr saves)) ↦ (λ i. known_named (saves.0 i) words) ∙ none (codes "saves") words refl
      | inr (inr further) ↦ (λ i. known_named (further.0 i) words) ∙ none (codes "or") words refl
    ]
  where
    none : (name : Text) (ws : List Text) → bytes_eq name (codes "known") ≡ false → known_named name ws ≡ None
    none name [] f = refl
    none name (w ∷ []) f = rw f refl
    none name (v ∷ w ∷ ws) f = refl

pub calls_are_no_test : (first : Text) (words : List Text) → is_call first words ≡ true → is_steady_test first words ≡ false
calls_are_no_test first words e =
    elim (call_is first words e) [
      | inl call ↦ (λ i. is_steady_test (call.0 i) words) ∙ no (codes "call") words refl
      | inr (inl (inl absent)) ↦ (λ i. is_steady_test (absent.0 i) words) ∙ no (codes "absent") words refl
      | inr (inl (inr saves)) ↦ (λ i. is_steady_test (saves.0 i) words) ∙ no (codes "saves") words refl
      | inr (inr further) ↦ (λ i. is_steady_test (further.0 i) words) ∙ no (codes "or") words refl
    ]
  where
    no : (name : Text) (ws : List Text) → bytes_eq name (codes "steady") ≡ false → is_steady_test name ws ≡ false
    no name [] f = refl
    no name (w ∷ []) f = rw f refl
    no name (v ∷ w ∷ ws) f = refl
