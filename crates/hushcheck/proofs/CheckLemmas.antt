-- One turn of a check: what is reached so far, what was reported of it, and how much is left.
use Rattle.std.proofs.Common.{◌≡◌, ℕ, zero, suc, ◌+◌, ◌-◌, ◌<◌, ◌≤◌, ◌⊎◌, inl, inr, Bool, true, false, ◌&&◌, ◌||◌, List, [], ◌∷◌, ◌++◌, length, map, take, drop, get_or, Contains, Option, Some, None, option_map, refl, sym, ap, subst, ◌∙◌, append_assoc, arith, nat_lt}
use Rattle.std.specs.Cmp.Lexicographic.{bytes_decides, nat_list_eq_equiv}
use Rattle.std.proofs.Math.Bool.{and_assoc}
use Rattle.std.proofs.lemmas.Bool.{cases_Bool, cases_lt, lt-ltb, ltb-true}
use Rattle.std.proofs.lemmas.List.{append-nil, get_or_append_left, length-append, take-append-drop, take-append-le, take_all}
use Rattle.std.proofs.lemmas.List.Folds.{list_any-append, list_all-append}
use Rattle.std.proofs.lemmas.Grind.{flat_map-append}
use Rattle.std.proofs.Math.Seq.{get_or-append_seam, take-append_seam}
use Rattle.std.specs.List.{flat_map, list_all, list_any}
use Rattle.std.specs.Map.{lookup}
use Rattle.std.specs.Str.{bytes_eq}
use Rattle.envimage.specs.Data.{Pair}
use Rattle.envtools.specs.Environment.{same, value_of}
use Rattle.device_list.specs.DeviceList.{Devices, FileText, Files}
use Rattle.hushcheck.specs.Calls.{files_by_value}
use Rattle.hushcheck.specs.Names.{Text, run_by_value}
use Rattle.hushcheck.specs.Rules.{Rules}
use Rattle.hushcheck.specs.Order.{AreTurns, File, IsOrder, IsReached, Turn, Variable, called_by, file_text, files_after, files_in, is_asked, is_called, is_called_by, is_file, is_run, once, run_by, variable_in, variables_after, variables_in, file_in_turn, with_name, with_names}
use Rattle.hushcheck.specs.Queue.{Queue, after_turn, first_queue, has_file, has_turn, has_variable, next_turn, with_reached}
use Rattle.hushcheck.specs.Report.{BeginsTurns, TakesTurns, is_fine, lines_of}
use Rattle.hushcheck.specs.Unset.{Used, used_by}
use Rattle.hushcheck.proofs.OrderLemmas.{with_names-append}

-- at a place or after it
past : (a b : ℕ) → nat_lt a b ≡ false → b ≤ a
past a b none = elim (cases_lt a b) [ inl less ↦ absurd (let some = lt-ltb a b less in cc) | inr more ↦ more ]

neither : (a b : Bool) → (a || b) ≡ false → (a ≡ false) × (b ≡ false)
neither true b h = absurd cc
neither false b h = (refl, h)

-- ---- names that are added after others

-- the names come after those that are there
abbrev Extends : List Text → List Text → Type 0
Extends names more = (extra : List Text) × (more ≡ names ++ extra)

extends_name : (names : List Text) (name : Text) → Extends names (with_name names name)
extends_name names name =
    elim (cases_Bool (list_any (same name) names)) [
      | inl there ↦ ([], rw there (sym (append-nil names)))
      | inr new ↦ (name ∷ [], rw new refl)
    ]

pub extends : (names more : List Text) → Extends names (with_names names more)
extends names [] = ([], sym (append-nil names))
extends names (n ∷ more) =
    let one = extends_name names n in
    let others = extends (with_name names n) more in
    (one.0 ++ others.0, others.1 ∙ ap (λ ns. ns ++ others.0) one.1 ∙ append_assoc names one.0 others.0)

length-with_name : (names : List Text) (name : Text) → length (with_name names name) ≤ length names + 1
length-with_name names name =
    elim (cases_Bool (list_any (same name) names)) [
      | inl there ↦ rw there (omega arith)
      | inr new ↦ rw new (let l = length-append names (name ∷ []) in omega (arith, l))
    ]

pub length-with_names : (names more : List Text) → length (with_names names more) ≤ length names + length more
length-with_names names [] = omega arith
length-with_names names (n ∷ more) = let one = length-with_name names n in let rest = length-with_names (with_name names n) more in omega (arith, one, rest)

-- ---- each name once

abbrev pub AreNew : List Text → Type 0
AreNew names = (k : ℕ) → k < length names → list_any (same (get_or names k [])) (take k names) ≡ false

new-push : (names : List Text) (name : Text) → AreNew names → list_any (same name) names ≡ false → AreNew (names ++ name ∷ [])
new-push names name all new k within =
    elim (cases_lt k (length names)) [
      | inl before ↦ let e = get_or_append_left names (name ∷ []) [] k before in let t = take-append-le k names (name ∷ []) (omega (arith, before)) in rw (e, t) (all k before)
      | inr last ↦
          let l = length-append names (name ∷ []) in
          let is : length names ≡ k = omega (arith, l, within, last) in
          let P : ℕ → Type 0 = λ j. list_any (same (get_or (names ++ name ∷ []) j [])) (take j (names ++ name ∷ [])) ≡ false in
          let e = get_or-append_seam names name [] [] in let t = take-append_seam names (name ∷ []) in
          subst P is (rw (e, t) new)
    ]

new-with_name : (names : List Text) (name : Text) → AreNew names → AreNew (with_name names name)
new-with_name names name all =
    elim (cases_Bool (list_any (same name) names)) [
      | inl there ↦ rw there all
      | inr new ↦ rw new (new-push names name all new)
    ]

new-with_names : (names more : List Text) → AreNew names → AreNew (with_names names more)
new-with_names names [] all = all
new-with_names names (n ∷ more) all = new-with_names (with_name names n) more (new-with_name names n all)

pub new-once : (names more : List Text) → names ≡ once more → AreNew names
new-once names more e = subst AreNew (sym e) (new-with_names [] more (λ k within. absurd (omega (arith, within))))

-- ---- names that have something in common

contains_tail : {X : Type 0} (x : X) (xs : List X) (m : X) → Contains xs m → Contains (x ∷ xs) m
contains_tail x xs m c = (suc c.0, (let h = c.1 in omega (arith, h)), c.2)

contains_head : {X : Type 0} (x : X) (xs : List X) → Contains (x ∷ xs) x
contains_head x xs = (0, omega arith, refl)

contains-push : {X : Type 0} (names : List X) (n m : X) → Contains (names ++ n ∷ []) m → Contains names m ⊎ (n ≡ m)
contains-push [] n m (zero, h, e) = inr e
contains-push [] n m (suc k, h, e) = absurd (omega (arith, h))
contains-push (x ∷ xs) n m (zero, h, e) = inl (0, omega arith, e)
contains-push (x ∷ xs) n m (suc k, h, e) =
    elim (contains-push xs n m (k, omega (arith, h), e)) [
      | inl there ↦ inl (contains_tail x xs m there)
      | inr last ↦ inr last
    ]

contains_none : {X : Type 0} (P : X → Type 0) (m : X) → Contains [] m → P m
contains_none P m c = absurd (let h = c.1 in omega (arith, h))

module _ {X : Type 0} (Good : X → Type 0) where
  good-push : (xs : List X) (x : X) → ((m : X) → Contains xs m → Good m) → Good x → (m : X) → Contains (xs ++ x ∷ []) m → Good m
  good-push xs x all good m c = elim (contains-push xs x m c) [ inl before ↦ all m before | inr last ↦ subst Good last good ]

module _ (Good : Text → Type 0) where
  abbrev AreGood : List Text → Type 0
  AreGood names = (m : Text) → Contains names m → Good m

  good-with_name : (names : List Text) (n : Text) → AreGood names → Good n → AreGood (with_name names n)
  good-with_name names n all good =
      elim (cases_Bool (list_any (same n) names)) [
        | inl there ↦ rw there all
        | inr new ↦ rw new (good-push Good names n all good)
      ]

  pub good-with_names : (names more : List Text) → AreGood names → AreGood more → AreGood (with_names names more)
  good-with_names names [] all others = all
  good-with_names names (n ∷ more) all others =
      good-with_names (with_name names n) more (good-with_name names n all (others n (contains_head n more))) (λ m c. others m (contains_tail n more m c))

  good-once : (names : List Text) → AreGood names → AreGood (once names)
  good-once names all = good-with_names [] names (λ m c. contains_none Good m c) all

-- ---- how many names may still come: those that the texts of a table lead to that had no turn

abbrev left_of : Bool → ℕ → ℕ
left_of true n = 0
left_of false n = n

any_push : (p n : Text) (done : List Text) → list_any (same p) (done ++ n ∷ []) ≡ (list_any (same p) done || (same p n || false))
any_push p n done = list_any-append (same p) done (n ∷ [])

less_of : (a b : Bool) (r : ℕ) → left_of (a || b) r ≤ left_of a r
less_of true b r = omega arith
less_of false true r = omega arith
less_of false false r = omega arith

module _ (cost : Option Text → ℕ) (none : cost None ≡ 0) where
  abbrev pub left : List Pair → List Text → ℕ
  left [] done = 0
  left (p ∷ table) done = left_of (list_any (same p.0) done) (cost (Some p.1)) + left table done

  left-push : (table : List Pair) (done : List Text) (n : Text) → left table (done ++ n ∷ []) ≤ left table done
  left-push [] done n = omega arith
  left-push (p ∷ table) done n =
      let e = any_push p.0 n done in
      let one = less_of (list_any (same p.0) done) (same p.0 n || false) (cost (Some p.1)) in
      let rest = left-push table done n in
      rw e (omega (arith, one, rest))

  pub left-turn : (table : List Pair) (done : List Text) (n : Text) → list_any (same n) done ≡ false → left table (done ++ n ∷ []) + cost (value_of table n) ≤ left table done
  left-turn [] done n new = omega (arith, none)
  left-turn (p ∷ table) done n new =
      elim (cases_Bool (same n p.0)) [
        | inl is ↦
            let eq : n ≡ p.0 = (bytes_decides n p.0).0 is in
            let fresh : list_any (same p.0) done ≡ false = subst (λ x. list_any (same x) done ≡ false) eq new in
            let there : same p.0 n ≡ true = nat_list_eq_equiv.symm p.0 n ∙ is in
            let e = any_push p.0 n done in
            let rest = left-push table done n in
            rw (is, e, fresh, there) (omega (arith, rest))
        | inr other ↦
            let away : same p.0 n ≡ false = nat_list_eq_equiv.symm p.0 n ∙ other in
            let e = any_push p.0 n done in
            let one = less_of (list_any (same p.0) done) (false || false) (cost (Some p.1)) in
            let rest = left-turn table done n new in
            rw (other, e, away) (omega (arith, one, rest))
      ]

-- the texts of the files of a device list, as a table
abbrev pub texts_of : Files → List Pair
texts_of files = map (λ file. (file.0, file.1.text)) files

abbrev pub files_of : Option Devices → List Pair
files_of None = []
files_of (Some devices) = texts_of devices.files

looked-up : (files : Files) (name : Text) → option_map (λ (file : FileText). file.text) (lookup (bytes_eq name) files) ≡ value_of (texts_of files) name
looked-up [] name = refl
looked-up (f ∷ files) name = elim (cases_Bool (same name f.0)) [
  | inl is ↦ rw is refl
  | inr other ↦ rw other (looked-up files name)
]

file_text-is : (devices : Option Devices) (name : Text) → file_text devices name ≡ value_of (files_of devices) name
file_text-is None name = refl
file_text-is (Some devices) name = looked-up devices.files name

-- how many names a text leads to
abbrev pub cost : Rules → Option Text → ℕ
cost rules text = length (run_by_value rules.shell text) + length (files_by_value rules text)

pub no_cost : (rules : Rules) → cost rules None ≡ 0
no_cost rules = refl

-- ---- the names before a place

take_suc : (names : List Text) (at : ℕ) → at < length names → take (at + 1) names ≡ take at names ++ get_or names at [] ∷ []
take_suc [] at h = absurd (omega (arith, h))
take_suc (n ∷ names) zero h = refl
take_suc (n ∷ names) (suc at) h = let e : suc at + 1 ≡ suc (at + 1) = omega arith in ap (λ k. take k (n ∷ names)) e ∙ ap (λ ns. n ∷ ns) (take_suc names at (omega (arith, h)))

take_front : (names more : List Text) (at : ℕ) → at ≤ length names → take at (with_names names more) ≡ take at names
take_front names more at within = let x = extends names more in ap (take at) x.1 ∙ take-append-le at names x.0 within

take_turn : (names more : List Text) (at : ℕ) → at < length names → take (at + 1) (with_names names more) ≡ take at names ++ get_or names at [] ∷ []
take_turn names more at within = take_front names more (at + 1) (omega (arith, within)) ∙ take_suc names at within

not_shorter : (names more : List Text) → length names ≤ length (with_names names more)
not_shorter names more = let x = extends names more in let l = length-append names x.0 in rw x.1 (omega (arith, l))

there_at : (names : List Text) (k : ℕ) → k < length names → Contains names (get_or names k [])
there_at names k within = (k, within, at names k within)
  where
    at : (xs : List Text) (k : ℕ) → k < length xs → get_or xs k (get_or xs k []) ≡ get_or xs k []
    at [] k h = absurd (omega (arith, h))
    at (y ∷ ys) zero h = refl
    at (y ∷ ys) (suc k) h = at ys k (omega (arith, h))

one_more : {X Y : Type 0} (f : X → List Y) (xs : List X) (x : X) → flat_map f (xs ++ x ∷ []) ≡ flat_map f xs ++ f x
one_more f xs x = flat_map-append f xs (x ∷ []) ∙ ap (λ ys. flat_map f xs ++ ys) (append-nil (f x))

-- the names that turns lead to, after one more
names_after : (f : Turn → List Text) (start names : List Text) (turns : List Turn) (t : Turn) → names ≡ once (start ++ flat_map f turns) → with_names names (f t) ≡ once (start ++ flat_map f (turns ++ t ∷ []))
names_after f start names turns t e =
    ap (λ ns. with_names ns (f t)) e ∙ sym (with_names-append [] (start ++ flat_map f turns) (f t))
    ∙ ap once (append_assoc start (flat_map f turns) (f t) ∙ ap (λ ns. start ++ ns) (sym (one_more f turns t)))

-- ---- what is reached

module _ (Good : List Turn → Type 0) where
  abbrev Wait : List Turn → Type 0
  Wait turns = (k : ℕ) → k < length turns → is_file (get_or turns k (Variable [])) ≡ true → Good (take k turns)

  wait-push : (turns : List Turn) (t : Turn) → Wait turns → (is_file t ≡ true → Good turns) → Wait (turns ++ t ∷ [])
  wait-push turns t all last k within file =
      elim (cases_lt k (length turns)) [
        | inl before ↦
            let e = get_or_append_left turns (t ∷ []) (Variable []) k before in
            let front : take k (turns ++ t ∷ []) ≡ take k turns = take-append-le k turns (t ∷ []) (omega (arith, before)) in
            subst Good (sym front) (all k before (ap is_file (sym e) ∙ file))
        | inr past ↦
            let l = length-append turns (t ∷ []) in
            let is : length turns ≡ k = omega (arith, l, within, past) in
            let P : ℕ → Type 0 = λ j. is_file (get_or (turns ++ t ∷ []) j (Variable [])) ≡ true → Good (take j (turns ++ t ∷ [])) in
            let here : P (length turns) = λ f. subst Good (sym (take-append_seam turns (t ∷ []))) (last (ap is_file (sym (get_or-append_seam turns t [] (Variable []))) ∙ f)) in
            subst P is here file
      ]

module _ (rules : Rules) (env : List Pair) (asked called : List Text) where
  -- no variable that is reached waits
  abbrev Rests : List Turn → Type 0
  Rests turns = variables_in turns ≡ variables_after rules env asked turns

  abbrev Reached : Turn → Type 0
  Reached = IsReached rules env asked called

  -- what is in the queue after these turns
  pub record Stands (q : Queue) (turns : List Turn) : Type 0 where
    pub within : q.at ≤ length q.variables
    pub files_within : q.file_at ≤ length q.files
    pub had : variables_in turns ≡ take q.at q.variables
    pub files_had : files_in turns ≡ take q.file_at q.files
    pub variables : q.variables ≡ variables_after rules env asked turns
    pub files : q.files ≡ files_after rules env called turns
    pub wait : Wait Rests turns
    pub reached : (m : Text) → Contains q.variables m → Reached (Variable m)
    pub files_reached : (m : Text) → Contains q.files m → Reached (File m)
    pub turns_reached : (t : Turn) → Contains turns t → Reached t

  pub stands_first : Stands (first_queue (once asked) (once called)) []
  stands_first = record {
    within = omega arith;
    files_within = omega arith;
    had = refl;
    files_had = refl;
    variables = ap once (sym (append-nil asked));
    files = ap once (sym (append-nil called));
    wait = λ k within file. absurd (omega (arith, within));
    reached = good-once (λ m. Reached (Variable m)) asked (λ m c. is_asked m c);
    files_reached = good-once (λ m. Reached (File m)) called (λ m c. is_called m c);
    turns_reached = λ t c. contains_none Reached t c;
  }

  -- after the next turn, by what it is
  module _ (q : Queue) (turns : List Turn) (s : Stands q turns) where
    abbrev after : Turn → Queue → Queue
    after t passed = with_reached passed (run_by rules env t) (called_by rules env t)

    -- a variable
    variable_next : q.at < length q.variables → Stands (after (Variable (get_or q.variables q.at [])) (record q { at = q.at + 1 })) (turns ++ Variable (get_or q.variables q.at []) ∷ [])
    variable_next before =
        let n = get_or q.variables q.at [] in
        let t : Turn = Variable n in
        let more = run_by rules env t in
        let more_files = called_by rules env t in
        let long = not_shorter q.variables more in
        let there : Reached t = s.reached n (there_at q.variables q.at before) in
        record {
          within = omega (arith, before, long);
          files_within = (let l = not_shorter q.files more_files in let h = s.files_within in omega (arith, l, h));
          had = one_more variable_in turns t ∙ ap (λ ns. ns ++ n ∷ []) s.had ∙ sym (take_turn q.variables more q.at before);
          files_had = one_more file_in_turn turns t ∙ append-nil (files_in turns) ∙ s.files_had ∙ sym (take_front q.files more_files q.file_at s.files_within);
          variables = names_after (run_by rules env) asked q.variables turns t s.variables;
          files = names_after (called_by rules env) called q.files turns t s.files;
          wait = wait-push Rests turns t s.wait (λ file. absurd (cc));
          reached = good-with_names (λ m. Reached (Variable m)) q.variables more s.reached (λ m c. is_run t m there c);
          files_reached = good-with_names (λ m. Reached (File m)) q.files more_files s.files_reached (λ m c. is_called_by t m there c);
          turns_reached = good-push Reached turns t s.turns_reached there;
        }

    -- a file, since no variable is left
    file_next : length q.variables ≤ q.at → q.file_at < length q.files → Stands (after (File (get_or q.files q.file_at [])) (record q { file_at = q.file_at + 1 })) (turns ++ File (get_or q.files q.file_at []) ∷ [])
    file_next past before =
        let n = get_or q.files q.file_at [] in
        let t : Turn = File n in
        let more = run_by rules env t in
        let more_files = called_by rules env t in
        let long = not_shorter q.files more_files in
        let there : Reached t = s.files_reached n (there_at q.files q.file_at before) in
        let rests : Rests turns = s.had ∙ take_all q.at q.variables past ∙ s.variables in
        record {
          within = (let l = not_shorter q.variables more in let h = s.within in omega (arith, l, h));
          files_within = omega (arith, before, long);
          had = one_more variable_in turns t ∙ append-nil (variables_in turns) ∙ s.had ∙ sym (take_front q.variables more q.at s.within);
          files_had = one_more file_in_turn turns t ∙ ap (λ ns. ns ++ n ∷ []) s.files_had ∙ sym (take_turn q.files more_files q.file_at before);
          variables = names_after (run_by rules env) asked q.variables turns t s.variables;
          files = names_after (called_by rules env) called q.files turns t s.files;
          wait = wait-push Rests turns t s.wait (λ file. rests);
          reached = good-with_names (λ m. Reached (Variable m)) q.variables more s.reached (λ m c. is_run t m there c);
          files_reached = good-with_names (λ m. Reached (File m)) q.files more_files s.files_reached (λ m c. is_called_by t m there c);
          turns_reached = good-push Reached turns t s.turns_reached there;
        }

    pub stands_next : has_turn q ≡ true → Stands (after_turn rules env q) (turns ++ next_turn q ∷ [])
    stands_next some =
        elim (cases_Bool (has_variable q)) [
          | inl more ↦ rw more (variable_next (ltb-true q.at (length q.variables) more))
          | inr none ↦
              let file : has_file q ≡ true = sym (ap (λ b. b || has_file q) none) ∙ some in
              rw none (file_next (past q.at (length q.variables) none) (ltb-true q.file_at (length q.files) file))
        ]

    are_turns : AreTurns rules env asked called turns
    are_turns = record {
      variables = (drop q.at q.variables, sym s.variables ∙ sym (take-append-drop q.at q.variables) ∙ ap (λ ns. ns ++ drop q.at q.variables) (sym s.had));
      files = (drop q.file_at q.files, sym s.files ∙ sym (take-append-drop q.file_at q.files) ∙ ap (λ ns. ns ++ drop q.file_at q.files) (sym s.files_had));
      files_wait = s.wait;
      reached = s.turns_reached;
    }

    pub is_order : has_turn q ≡ false → IsOrder rules env asked called turns
    is_order none =
        let both = neither (has_variable q) (has_file q) none in
        record {
          are_turns = are_turns;
          all_variables = s.had ∙ take_all q.at q.variables (past q.at (length q.variables) both.0) ∙ s.variables;
          all_files = s.files_had ∙ take_all q.file_at q.files (past q.file_at (length q.files) both.1) ∙ s.files;
        }

-- ---- how much is left gets less

-- the names that the texts may still lead to, and those that wait for their turns
abbrev pub room : Rules → List Pair → Queue → ℕ
room rules env q =
    left (cost rules) (no_cost rules) env (take q.at q.variables) + left (cost rules) (no_cost rules) (files_of rules.devices) (take q.file_at q.files)
    + (length q.variables - q.at) + (length q.files - q.file_at)

less_variable : (l l' k v v' f f' at file_at m n : ℕ) → l' + (m + n) ≤ l → v' ≤ v + m → f' ≤ f + n → at < v → file_at ≤ f → l' + k + (v' - (at + 1)) + (f' - file_at) < l + k + (v - at) + (f - file_at)
less_variable l l' k v v' f f' at file_at m n a b c d e = omega (arith, a, b, c, d, e)

less_file : (l k k' v v' f f' at file_at m n : ℕ) → k' + (m + n) ≤ k → v' ≤ v + m → f' ≤ f + n → at ≤ v → file_at < f → l + k' + (v' - at) + (f' - (file_at + 1)) < l + k + (v - at) + (f - file_at)
less_file l k k' v v' f f' at file_at m n a b c d e = omega (arith, a, b, c, d, e)

module _ (rules : Rules) (env : List Pair) (asked called : List Text) (q : Queue) (turns : List Turn) (s : Stands rules env asked called q turns) where
  abbrev left_by : List Pair → List Text → ℕ
  left_by = left (cost rules) (no_cost rules)

  abbrev behind : Turn → Queue → Queue
  behind t passed = with_reached passed (run_by rules env t) (called_by rules env t)

  variable_less : q.at < length q.variables → room rules env (behind (Variable (get_or q.variables q.at [])) (record q { at = q.at + 1 })) < room rules env q
  variable_less before =
      let n = get_or q.variables q.at [] in
      let more = run_by rules env (Variable n) in
      let more_files = called_by rules env (Variable n) in
      let new = new-once q.variables (asked ++ flat_map (run_by rules env) turns) s.variables q.at before in
      let fewer = left-turn (cost rules) (no_cost rules) env (take q.at q.variables) n new in
      rw (take_turn q.variables more q.at before, take_front q.files more_files q.file_at s.files_within)
      (less_variable (left_by env (take q.at q.variables)) (left_by env (take q.at q.variables ++ n ∷ [])) (left_by (files_of rules.devices) (take q.file_at q.files))
      (length q.variables) (length (with_names q.variables more)) (length q.files) (length (with_names q.files more_files)) q.at q.file_at (length more) (length more_files)
      fewer (length-with_names q.variables more) (length-with_names q.files more_files) before s.files_within)

  file_less : q.file_at < length q.files → room rules env (behind (File (get_or q.files q.file_at [])) (record q { file_at = q.file_at + 1 })) < room rules env q
  file_less before =
      let n = get_or q.files q.file_at [] in
      let more = run_by rules env (File n) in
      let more_files = called_by rules env (File n) in
      let table = files_of rules.devices in
      let new = new-once q.files (called ++ flat_map (called_by rules env) turns) s.files q.file_at before in
      let P : Option Text → Type 0 = λ text. left_by table (take q.file_at q.files ++ n ∷ []) + cost rules text ≤ left_by table (take q.file_at q.files) in
      let fewer : P (file_text rules.devices n) = subst P (sym (file_text-is rules.devices n)) (left-turn (cost rules) (no_cost rules) table (take q.file_at q.files) n new) in
      rw (take_front q.variables more q.at s.within, take_turn q.files more_files q.file_at before)
      (less_file (left_by env (take q.at q.variables)) (left_by table (take q.file_at q.files)) (left_by table (take q.file_at q.files ++ n ∷ []))
      (length q.variables) (length (with_names q.variables more)) (length q.files) (length (with_names q.files more_files)) q.at q.file_at (length more) (length more_files)
      fewer (length-with_names q.variables more) (length-with_names q.files more_files) s.within before)

  pub stands_less : has_turn q ≡ true → room rules env (after_turn rules env q) < room rules env q
  stands_less some =
      elim (cases_Bool (has_variable q)) [
        | inl more ↦ rw more (variable_less (ltb-true q.at (length q.variables) more))
        | inr none ↦
            let file : has_file q ≡ true = sym (ap (λ b. b || has_file q) none) ∙ some in
            rw none (file_less (ltb-true q.file_at (length q.files) file))
      ]

-- ---- what was reported

and_end : (b c : Bool) → (b && (c && true)) ≡ (b && c)
and_end true true = refl
and_end true false = refl
and_end false c = refl

and_true : (b : Bool) → (b && true) ≡ b
and_true true = refl
and_true false = refl

module _ (rules : Rules) (env : List Pair) (before : List Used) (asked called : List Text) (so_far : Bool) where
  -- what is in the queue, and what was reported of the turns, and what their texts use
  pub record Standing (q : Queue) (told : Text) (sound : Bool) (used : List Used) : Type 0 where
    pub turns : List Turn
    pub stands : Stands rules env asked called q turns
    pub told_is : told ≡ flat_map (lines_of rules env) turns
    pub sound_is : sound ≡ (so_far && list_all (is_fine rules env) turns)
    pub used_is : used ≡ before ++ flat_map (used_by rules env) turns

  -- before the first turn
  pub standing_first : (q : Queue) → q ≡ first_queue (once asked) (once called) → Standing q [] so_far before
  standing_first q e = record {
    turns = [];
    stands = subst (λ (p : Queue). Stands rules env asked called p []) (sym e) (stands_first rules env asked called);
    told_is = refl;
    sound_is = sym (and_true so_far);
    used_is = sym (append-nil before);
  }

  -- after one more turn
  pub standing_next : (q q' : Queue) (told told' : Text) (sound sound' : Bool) (used used' : List Used) → has_turn q ≡ true → Standing q told sound used
      → q' ≡ after_turn rules env q
      → told' ≡ told ++ lines_of rules env (next_turn q)
      → sound' ≡ (sound && is_fine rules env (next_turn q))
      → used' ≡ used ++ used_by rules env (next_turn q)
      → Standing q' told' sound' used'
  standing_next q q' told told' sound sound' used used' some s e t w u =
      let n = next_turn q in record {
        turns = s.turns ++ n ∷ [];
        stands = subst (λ (p : Queue). Stands rules env asked called p (s.turns ++ n ∷ [])) (sym e) (stands_next rules env asked called q s.turns s.stands some);
        told_is = t ∙ ap (λ ts. ts ++ lines_of rules env n) s.told_is ∙ sym (one_more (lines_of rules env) s.turns n);
        sound_is =
            w ∙ ap (λ b. b && is_fine rules env n) s.sound_is ∙ and_assoc so_far (list_all (is_fine rules env) s.turns) (is_fine rules env n)
            ∙ ap (λ b. so_far && b) (sym (list_all-append (is_fine rules env) s.turns (n ∷ []) ∙ and_end (list_all (is_fine rules env) s.turns) (is_fine rules env n)));
        used_is =
            u ∙ ap (λ us. us ++ used_by rules env n) s.used_is ∙ append_assoc before (flat_map (used_by rules env) s.turns) (used_by rules env n)
            ∙ ap (λ us. before ++ us) (sym (one_more (used_by rules env) s.turns n));
      }

  -- less is left
  pub room_less : (q q' : Queue) (told : Text) (sound : Bool) (used : List Used) → has_turn q ≡ true → Standing q told sound used → q' ≡ after_turn rules env q → room rules env q' < room rules env q
  room_less q q' told sound used some s e =
      subst (λ (p : Queue). room rules env p < room rules env q) (sym e) (stands_less rules env asked called q s.turns s.stands some)

  -- after the last turn
  pub standing_last : (q : Queue) (told : Text) (sound : Bool) (used : List Used) → has_turn q ≡ false → Standing q told sound used → TakesTurns rules env before asked called so_far told sound used
  standing_last q told sound used none s = record {
    order = s.turns;
    is_order = is_order rules env asked called q s.turns s.stands none;
    told_is = s.told_is;
    sound_is = s.sound_is;
    used_is = s.used_is;
  }

  -- in a turn
  pub begins_next : (q : Queue) (told : Text) (sound : Bool) (used : List Used) → has_turn q ≡ true → Standing q told sound used → BeginsTurns rules env asked called (told ++ lines_of rules env (next_turn q))
  begins_next q told sound used some s =
      let n = next_turn q in record {
        turns = s.turns ++ n ∷ [];
        are_turns = are_turns rules env asked called (after_turn rules env q) (s.turns ++ n ∷ []) (stands_next rules env asked called q s.turns s.stands some);
        told_is = ap (λ ts. ts ++ lines_of rules env n) s.told_is ∙ sym (one_more (lines_of rules env) s.turns n);
      }

-- before the first turn nothing is reported
pub begins_first : (rules : Rules) (env : List Pair) (asked called : List Text) → BeginsTurns rules env asked called []
begins_first rules env asked called = record {
  turns = [];
  are_turns = are_turns rules env asked called (first_queue (once asked) (once called)) [] (stands_first rules env asked called);
  told_is = refl;
}
