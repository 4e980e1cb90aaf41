-- Tables of variables: what a change of one place does to the variables.
use Rattle.std.proofs.Common.{◌≡◌, ℕ, Bool, true, false, cond, List, [], ◌∷◌, Option, Some, None, is_some, refl, sym, ap, subst, ◌∙◌}
use Rattle.std.specs.FinMap.{IsAntisymmetric, nat_cmp-IsAntisymmetric, slice_cmp-IsAntisymmetric, get, get-insert, get-remove, get-empty, same_map, entries, entries-insert, len-entries, len-empty, put}
use Rattle.std.specs.declared.cmp.Ordering.{Ordering}
use Rattle.std.specs.declared.cmp.Ordering.TheVariants.{Less, Equal, Greater}
use Rattle.std.specs.Ordering.{nat_cmp, is_eq, eq_by_cmp, match_ordering}
use Rattle.std.specs.Cmp.{eq_by_cmp_equiv, Equal-is}
use Rattle.std.proofs.lemmas.Cmp.{nat_list_cmp_total}
use Rattle.std.specs.Cmp.Lexicographic.{slice_cmp}
use Rattle.std.specs.Map.{lookup, set_value, remove_entry, keys_of}
use Rattle.std.specs.List.{AllZip, AllByRecursion}
use Rattle.std.specs.List.Sorted.{IsStrictlySortedBy}
use Rattle.std.proofs.lemmas.List.Elements.{same_from_all_zip}
use Rattle.std.specs.BTreeMap.{insert_entry}
use Rattle.std.specs.declared.alloc.Global.{Global}
use Rattle.std.specs.declared.vec.Vec.{Vec}
use Rattle.std.specs.List.{slice_get}
use Rattle.std.proofs.Common.{drop, drop-cons, suc, ◌+◌, add-one}
use Rattle.std.proofs.lemmas.Option.{slice_get_within, get_or_from_slice_get}
use Rattle.std.proofs.lemmas.List.{nil_from_length}
use Rattle.bootstore_state.specs.Moment.{Bytes, Variables, set_in_turn}
use Rattle.text.specs.TextsShown.{option_items, bytes_of_words}
use Rattle.bootstore_state.specs.Record.{assigned}
use Rattle.bootstore_state.specs.declared.table.Place.{Place}
use Rattle.bootstore_state.specs.Slots.{Slot, live, live_before}
use Rattle.bootstore_state.specs.Table.{slot_variables, is_name, place_value, kept_of}

abbrev pub by_bytes : Bytes → Bytes → Ordering
by_bytes = slice_cmp nat_cmp

exact : IsAntisymmetric by_bytes
exact = slice_cmp-IsAntisymmetric nat_cmp-IsAntisymmetric

-- names that compare as equal are the same
pub same_key : (p q : Bytes) → by_bytes p q ≡ Equal → p ≡ q
same_key = exact

pub same_name : (p q : Bytes) → eq_by_cmp by_bytes p q ≡ true → p ≡ q
same_name p q e = exact p q ((Equal-is _).0 e)

pub compares_equal : (p q : Bytes) → p ≡ q → is_eq (by_bytes p q) ≡ true
compares_equal p q e = subst (λ r. is_eq (by_bytes p r) ≡ true) e ((eq_by_cmp_equiv nat_list_cmp_total).refl p)

pub get-assigned : (m : Variables) (k : Bytes) (o : Option Bytes) (q : Bytes) → get (assigned m k o) q ≡ cond (eq_by_cmp by_bytes q k) o (get m q)
get-assigned m k None q = get-remove nat_list_cmp_total m k q
get-assigned m k (Some v) q = get-insert nat_list_cmp_total m k v q

over : {X : Type 0} (b : Bool) (p o g h : X) → h ≡ cond b o g → cond b p h ≡ cond b p g
over true p o g h e = refl
over false p o g h e = e

swapped : {X : Type 0} (a b : Bool) (o p g : X) → (a ≡ true → b ≡ true → ⊥) → cond a o (cond b p g) ≡ cond b p (cond a o g)
swapped true true o p g apart = absurd (apart refl refl)
swapped true false o p g apart = refl
swapped false true o p g apart = refl
swapped false false o p g apart = refl

alike : (m n : Variables) → ((q : Bytes) → get m q ≡ get n q) → m ≡ n
alike m n h = same_map nat_list_cmp_total exact m n h

-- of two values given to a name, the later one stays
pub assigned-again : (m : Variables) (k : Bytes) (o p : Option Bytes) → assigned (assigned m k o) k p ≡ assigned m k p
assigned-again m k o p = alike _ _ (λ q. get-assigned (assigned m k o) k p q ∙ over (eq_by_cmp by_bytes q k) p o (get m q) _ (get-assigned m k o q) ∙ sym (get-assigned m k p q))

-- the values of two names can be set in any order
pub assigned-swap : (m : Variables) (k j : Bytes) (o p : Option Bytes) → (k ≡ j → ⊥) → assigned (assigned m j p) k o ≡ assigned (assigned m k o) j p
assigned-swap m k j o p apart = alike _ _ (λ q.
    get-assigned (assigned m j p) k o q ∙ ap (cond (eq_by_cmp by_bytes q k) o) (get-assigned m j p q)
    ∙ swapped (eq_by_cmp by_bytes q k) (eq_by_cmp by_bytes q j) o p (get m q) (λ a b. apart (sym (same_name q k a) ∙ same_name q j b))
    ∙ sym (get-assigned (assigned m k o) j p q ∙ ap (cond (eq_by_cmp by_bytes q j) p) (get-assigned m k o q)))

-- giving a name the value that it has changes nothing
pub assigned-same : (m : Variables) (k : Bytes) (o : Option Bytes) → get m k ≡ o → assigned m k o ≡ m
assigned-same m k o e = alike _ _ (λ q. get-assigned m k o q ∙ kept (eq_by_cmp by_bytes q k) q refl)
  where
    kept : (b : Bool) (q : Bytes) → eq_by_cmp by_bytes q k ≡ b → cond b o (get m q) ≡ get m q
    kept true q t = sym (ap (get m) (same_name q k t) ∙ e)
    kept false q t = refl

pub get-slot_variables : (es : List Slot) (q : Bytes) → get (slot_variables es) q ≡ place_value (lookup (is_name q) es)
get-slot_variables [] q = get-empty by_bytes q
get-slot_variables (e ∷ es) q = get-assigned (slot_variables es) e.0.items (option_items e.1.value) q ∙ ap (cond (is_name q e.0) (option_items e.1.value)) (get-slot_variables es q) ∙ chosen (is_name q e.0)
  where
    chosen : (b : Bool) → cond b (option_items e.1.value) (place_value (lookup (is_name q) es)) ≡ place_value (cond b (Some e.1) (lookup (is_name q) es))
    chosen true = refl
    chosen false = refl

-- a value that is written at an existing place is set
pub variables-set_value : (es : List Slot) (name : Bytes) (w : Place) → is_some (lookup (is_name name) es) ≡ true → slot_variables (set_value (is_name name) es w) ≡ assigned (slot_variables es) name (option_items w.value)
variables-set_value [] name w there = cc
variables-set_value (e ∷ es) name w there = at (variables-set_value es name w) (is_name name e.0) refl there
  where
    at : (is_some (lookup (is_name name) es) ≡ true → slot_variables (set_value (is_name name) es w) ≡ assigned (slot_variables es) name (option_items w.value)) → (b : Bool) → is_name name e.0 ≡ b → is_some (cond b (Some e.1) (lookup (is_name name) es)) ≡ true
        → slot_variables (cond b ((e.0, w) ∷ es) (e ∷ set_value (is_name name) es w)) ≡ assigned (slot_variables (e ∷ es)) name (option_items w.value)
    at rest true t h =
        let same : name ≡ e.0.items = same_name name e.0.items t in
        subst (λ n. assigned (slot_variables es) e.0.items (option_items w.value) ≡ assigned (slot_variables (e ∷ es)) n (option_items w.value)) (sym same)
        (sym (assigned-again (slot_variables es) e.0.items (option_items e.1.value) (option_items w.value)))
    at rest false t h = ap (λ m. assigned m e.0.items (option_items e.1.value)) (rest h)
        ∙ sym (assigned-swap (slot_variables es) name e.0.items (option_items w.value) (option_items e.1.value) (λ s. let alike = compares_equal name e.0.items s in cc))

-- the keys' order
abbrev pub key_cmp : Vec ℕ Global → Vec ℕ Global → Ordering
key_cmp x y = by_bytes x.items y.items

pub variables-insert_entry : (es : List Slot) (k : Vec ℕ Global) (w : Place) → slot_variables (insert_entry key_cmp es k w) ≡ assigned (slot_variables es) k.items (option_items w.value)
variables-insert_entry [] k w = refl
variables-insert_entry (e ∷ es) k w = at (variables-insert_entry es k w) (key_cmp k e.0) refl
  where
    at : slot_variables (insert_entry key_cmp es k w) ≡ assigned (slot_variables es) k.items (option_items w.value) → (r : Ordering) → key_cmp k e.0 ≡ r
        → slot_variables (match_ordering r ((k, w) ∷ e ∷ es) ((e.0, w) ∷ es) (e ∷ insert_entry key_cmp es k w)) ≡ assigned (slot_variables (e ∷ es)) k.items (option_items w.value)
    at rest Less t = refl
    at rest Equal t = subst (λ n. assigned (slot_variables es) e.0.items (option_items w.value) ≡ assigned (slot_variables (e ∷ es)) n (option_items w.value)) (sym (exact k.items e.0.items t))
        (sym (assigned-again (slot_variables es) e.0.items (option_items e.1.value) (option_items w.value)))
    at rest Greater t = ap (λ m. assigned m e.0.items (option_items e.1.value)) rest
        ∙ sym (assigned-swap (slot_variables es) k.items e.0.items (option_items w.value) (option_items e.1.value) (λ s. let alike = (Equal-is _).0 (compares_equal k.items e.0.items s) in cc))

some_other : {X : Type 0} (b : Bool) (x y : X) (l : Option X) → is_some (cond b (Some x) l) ≡ is_some (cond b (Some y) l)
some_other true x y l = refl
some_other false x y l = refl

some_rest : {X : Type 0} (b : Bool) (x : X) (l m : Option X) → is_some l ≡ is_some m → is_some (cond b (Some x) l) ≡ is_some (cond b (Some x) m)
some_rest true x l m e = refl
some_rest false x l m e = e

some_more : {X : Type 0} (b : Bool) (x : X) (l : Option X) → is_some l ≡ true → is_some (cond b (Some x) l) ≡ true
some_more true x l h = refl
some_more false x l h = h

some_kept : {X : Type 0} (b : Bool) (x : X) (l m : Option X) → (is_some l ≡ true → is_some m ≡ true) → is_some (cond b (Some x) l) ≡ true → is_some (cond b (Some x) m) ≡ true
some_kept true x l m f h = refl
some_kept false x l m f h = f h

-- places are kept
pub slots-set_value : (test other : Vec ℕ Global → Bool) (es : List Slot) (w : Place) → is_some (lookup other (set_value test es w)) ≡ is_some (lookup other es)
slots-set_value test other [] w = refl
slots-set_value test other (e ∷ es) w = at (slots-set_value test other es w) (test e.0)
  where
    at : is_some (lookup other (set_value test es w)) ≡ is_some (lookup other es) → (b : Bool) → is_some (lookup other (cond b ((e.0, w) ∷ es) (e ∷ set_value test es w))) ≡ is_some (lookup other (e ∷ es))
    at rest true = some_other (other e.0) w e.1 _
    at rest false = some_rest (other e.0) e.1 _ _ rest

pub slots-insert_entry : (other : Vec ℕ Global → Bool) (es : List Slot) (k : Vec ℕ Global) (w : Place) → is_some (lookup other es) ≡ true → is_some (lookup other (insert_entry key_cmp es k w)) ≡ true
slots-insert_entry other [] k w h = cc
slots-insert_entry other (e ∷ es) k w h = at (slots-insert_entry other es k w) (key_cmp k e.0)
  where
    at : (is_some (lookup other es) ≡ true → is_some (lookup other (insert_entry key_cmp es k w)) ≡ true) → (r : Ordering) → is_some (lookup other (match_ordering r ((k, w) ∷ e ∷ es) ((e.0, w) ∷ es) (e ∷ insert_entry key_cmp es k w))) ≡ true
    at rest Less = some_more (other k) w _ h
    at rest Equal = some_other (other e.0) w e.1 _ ∙ h
    at rest Greater = some_kept (other e.0) e.1 _ _ rest h

-- what a look-up finds is the value
pub found : (es : List Slot) (q : Bytes) (r : Option Place) → r ≡ lookup (is_name q) es → place_value r ≡ get (slot_variables es) q
found es q r e = ap place_value e ∙ sym (get-slot_variables es q)

pub written : (es fs : List Slot) (name : Bytes) (old w : Place) → Some old ≡ lookup (is_name name) es → fs ≡ set_value (is_name name) es w → slot_variables fs ≡ assigned (slot_variables es) name (option_items w.value)
written es fs name old w there e = ap slot_variables e ∙ variables-set_value es name w (sym (ap is_some there))

pub written_slots : (es fs : List Slot) (name : Bytes) (w : Place) → fs ≡ set_value (is_name name) es w → (q : Bytes) → is_some (lookup (is_name q) es) ≡ true → is_some (lookup (is_name q) fs) ≡ true
written_slots es fs name w e q h = ap (λ l. is_some (lookup (is_name q) l)) e ∙ slots-set_value (is_name name) (is_name q) es w ∙ h

pub added : (es fs : List Slot) (k : Vec ℕ Global) (w : Place) (name : Bytes) → k.items ≡ name → fs ≡ insert_entry key_cmp es k w → slot_variables fs ≡ assigned (slot_variables es) name (option_items w.value)
added es fs k w name same e = ap slot_variables e ∙ variables-insert_entry es k w ∙ ap (λ n. assigned (slot_variables es) n (option_items w.value)) same

pub added_slots : (es fs : List Slot) (k : Vec ℕ Global) (w : Place) → fs ≡ insert_entry key_cmp es k w → (q : Bytes) → is_some (lookup (is_name q) es) ≡ true → is_some (lookup (is_name q) fs) ≡ true
added_slots es fs k w e q h = ap (λ l. is_some (lookup (is_name q) l)) e ∙ slots-insert_entry (is_name q) es k w h

-- removing a name changes nothing at other names
lookup-remove_entry : (name q : Bytes) (es : List Slot) → is_eq (by_bytes q name) ≡ false → lookup (is_name q) (remove_entry (is_name name) es) ≡ lookup (is_name q) es
lookup-remove_entry name q [] apart = refl
lookup-remove_entry name q (e ∷ es) apart = at (lookup-remove_entry name q es apart) (is_name name e.0) refl
  where
    at : lookup (is_name q) (remove_entry (is_name name) es) ≡ lookup (is_name q) es → (b : Bool) → is_name name e.0 ≡ b → lookup (is_name q) (cond b es (e ∷ remove_entry (is_name name) es)) ≡ lookup (is_name q) (e ∷ es)
    at rest true t =
        let other : is_name q e.0 ≡ false = subst (λ n. is_eq (by_bytes q n) ≡ false) (same_name name e.0.items t) apart in
        sym (ap (λ b. cond b (Some e.1) (lookup (is_name q) es)) other)
    at rest false t = ap (cond (is_name q e.0) (Some e.1)) rest

-- a name that is removed has no value
pub removed : (es fs : List Slot) (name : Bytes) → fs ≡ remove_entry (is_name name) es → lookup (is_name name) fs ≡ None → slot_variables fs ≡ assigned (slot_variables es) name None
removed es fs name e gone = alike _ _ (λ q. get-slot_variables fs q ∙ at q (is_eq (by_bytes q name)) refl ∙ sym (get-assigned (slot_variables es) name None q))
  where
    at : (q : Bytes) (b : Bool) → is_eq (by_bytes q name) ≡ b → place_value (lookup (is_name q) fs) ≡ cond b None (get (slot_variables es) q)
    at q true t = subst (λ n. place_value (lookup (is_name n) fs) ≡ None) (sym (same_name q name t)) (ap place_value gone)
    at q false t = ap (λ xs. place_value (lookup (is_name q) xs)) e ∙ ap place_value (lookup-remove_entry name q es t) ∙ sym (get-slot_variables es q)

pub removed_slots : (es fs : List Slot) (name : Bytes) → fs ≡ remove_entry (is_name name) es → lookup (is_name name) fs ≡ None → (q : Bytes) → is_some (lookup (is_name q) fs) ≡ cond (is_eq (by_bytes q name)) false (is_some (lookup (is_name q) es))
removed_slots es fs name e gone q = at (is_eq (by_bytes q name)) refl
  where
    at : (b : Bool) → is_eq (by_bytes q name) ≡ b → is_some (lookup (is_name q) fs) ≡ cond b false (is_some (lookup (is_name q) es))
    at true t = subst (λ n. is_some (lookup (is_name n) fs) ≡ false) (sym (same_name q name t)) (ap is_some gone)
    at false t = ap (λ xs. is_some (lookup (is_name q) xs)) e ∙ ap is_some (lookup-remove_entry name q es t)

-- What was kept last of each name.
pub removed_kept : (es fs : List Slot) (name : Bytes) → fs ≡ remove_entry (is_name name) es → lookup (is_name name) fs ≡ None → (q : Bytes) → kept_of (lookup (is_name q) fs) ≡ cond (is_eq (by_bytes q name)) 0 (kept_of (lookup (is_name q) es))
removed_kept es fs name e gone q = at (is_eq (by_bytes q name)) refl
  where
    at : (b : Bool) → is_eq (by_bytes q name) ≡ b → kept_of (lookup (is_name q) fs) ≡ cond b 0 (kept_of (lookup (is_name q) es))
    at true t = subst (λ n. kept_of (lookup (is_name n) fs) ≡ 0) (sym (same_name q name t)) (ap kept_of gone)
    at false t = ap (λ xs. kept_of (lookup (is_name q) xs)) e ∙ ap kept_of (lookup-remove_entry name q es t)

inner : (b c : Bool) (w v : Place) (g : Option Place) → c ≡ b → kept_of (cond c (Some w) g) ≡ cond b w.kept_at (kept_of (cond c (Some v) g))
inner true c w v g same = ap (λ x. kept_of (cond x (Some w) g)) same
inner false c w v g same = ap (λ x. kept_of (cond x (Some w) g)) same ∙ sym (ap (λ x. kept_of (cond x (Some v) g)) same)

outer : (a b : Bool) (k : ℕ) (p : Option Place) (g h : Option Place) → (a ≡ true → b ≡ true → ⊥) → kept_of h ≡ cond a k (kept_of g) → kept_of (cond b p h) ≡ cond a k (kept_of (cond b p g))
outer true true k p g h apart e = absurd (apart refl refl)
outer true false k p g h apart e = e
outer false true k p g h apart e = refl
outer false false k p g h apart e = e

kept-set_value : (es : List Slot) (name : Bytes) (w : Place) (q : Bytes) → is_some (lookup (is_name name) es) ≡ true → kept_of (lookup (is_name q) (set_value (is_name name) es w)) ≡ cond (is_eq (by_bytes q name)) w.kept_at (kept_of (lookup (is_name q) es))
kept-set_value [] name w q there = cc
kept-set_value (e ∷ es) name w q there = at (kept-set_value es name w q) (is_name name e.0) refl there
  where
    at : (is_some (lookup (is_name name) es) ≡ true → kept_of (lookup (is_name q) (set_value (is_name name) es w)) ≡ cond (is_eq (by_bytes q name)) w.kept_at (kept_of (lookup (is_name q) es))) → (b : Bool) → is_name name e.0 ≡ b → is_some (cond b (Some e.1) (lookup (is_name name) es)) ≡ true
        → kept_of (lookup (is_name q) (cond b ((e.0, w) ∷ es) (e ∷ set_value (is_name name) es w))) ≡ cond (is_eq (by_bytes q name)) w.kept_at (kept_of (lookup (is_name q) (e ∷ es)))
    at rest true t h = inner (is_eq (by_bytes q name)) (is_name q e.0) w e.1 (lookup (is_name q) es) (ap (λ n. is_eq (by_bytes q n)) (sym (same_name name e.0.items t)))
    at rest false t h = outer (is_eq (by_bytes q name)) (is_name q e.0) w.kept_at (Some e.1) (lookup (is_name q) es) _ (λ a b. let same = compares_equal name e.0.items (sym (same_name q name a) ∙ same_name q e.0.items b) in cc) (rest h)

kept-insert_entry : (es : List Slot) (k : Vec ℕ Global) (w : Place) (q : Bytes) → kept_of (lookup (is_name q) (insert_entry key_cmp es k w)) ≡ cond (is_eq (by_bytes q k.items)) w.kept_at (kept_of (lookup (is_name q) es))
kept-insert_entry [] k w q = at (is_name q k)
  where
    at : (b : Bool) → kept_of (cond b (Some w) None) ≡ cond b w.kept_at 0
    at true = refl
    at false = refl
kept-insert_entry (e ∷ es) k w q = at (kept-insert_entry es k w q) (key_cmp k e.0) refl
  where
    here : (b : Bool) (g : Option Place) → kept_of (cond b (Some w) g) ≡ cond b w.kept_at (kept_of g)
    here true g = refl
    here false g = refl

    at : kept_of (lookup (is_name q) (insert_entry key_cmp es k w)) ≡ cond (is_eq (by_bytes q k.items)) w.kept_at (kept_of (lookup (is_name q) es)) → (r : Ordering) → key_cmp k e.0 ≡ r
        → kept_of (lookup (is_name q) (match_ordering r ((k, w) ∷ e ∷ es) ((e.0, w) ∷ es) (e ∷ insert_entry key_cmp es k w))) ≡ cond (is_eq (by_bytes q k.items)) w.kept_at (kept_of (lookup (is_name q) (e ∷ es)))
    at rest Less t = here (is_name q k) (lookup (is_name q) (e ∷ es))
    at rest Equal t = inner (is_eq (by_bytes q k.items)) (is_name q e.0) w e.1 (lookup (is_name q) es) (ap (λ n. is_eq (by_bytes q n)) (sym (exact k.items e.0.items t)))
    at rest Greater t = outer (is_eq (by_bytes q k.items)) (is_name q e.0) w.kept_at (Some e.1) (lookup (is_name q) es) _ (λ a b. let same = (Equal-is _).0 (compares_equal k.items e.0.items (sym (same_name q k.items a) ∙ same_name q e.0.items b)) in cc) rest

pub written_kept : (es fs : List Slot) (name : Bytes) (old w : Place) → Some old ≡ lookup (is_name name) es → fs ≡ set_value (is_name name) es w → (q : Bytes) → kept_of (lookup (is_name q) fs) ≡ cond (is_eq (by_bytes q name)) w.kept_at (kept_of (lookup (is_name q) es))
written_kept es fs name old w there e q = ap (λ xs. kept_of (lookup (is_name q) xs)) e ∙ kept-set_value es name w q (sym (ap is_some there))

pub added_kept : (es fs : List Slot) (k : Vec ℕ Global) (w : Place) (name : Bytes) → k.items ≡ name → fs ≡ insert_entry key_cmp es k w → (q : Bytes) → kept_of (lookup (is_name q) fs) ≡ cond (is_eq (by_bytes q name)) w.kept_at (kept_of (lookup (is_name q) es))
added_kept es fs k w name same e q = ap (λ xs. kept_of (lookup (is_name q) xs)) e ∙ kept-insert_entry es k w q ∙ ap (λ n. cond (is_eq (by_bytes q n)) w.kept_at (kept_of (lookup (is_name q) es))) same

-- each name that has a place has one after a write
pub written_same_slots : (es fs : List Slot) (name : Bytes) (w : Place) → fs ≡ set_value (is_name name) es w → (q : Bytes) → is_some (lookup (is_name q) fs) ≡ is_some (lookup (is_name q) es)
written_same_slots es fs name w e q = ap (λ l. is_some (lookup (is_name q) l)) e ∙ slots-set_value (is_name name) (is_name q) es w

pub clone_text : (v w : Vec ℕ Global) → AllZip (λ (x y : ℕ). y ≡ x) v.items w.items → w.items ≡ v.items
clone_text v w h = same_from_all_zip (λ x y. y ≡ x) v.items w.items h (λ x y e. e)

pub clone_option : (D : Option (Vec ℕ Global) → Option (Vec ℕ Global) → Type 0) → ((v w : Vec ℕ Global) → D (Some v) (Some w) → w.items ≡ v.items) → ((v : Vec ℕ Global) → D None (Some v) → ⊥) → ((v : Vec ℕ Global) → D (Some v) None → ⊥) → (o p : Option (Vec ℕ Global)) → D o p → option_items p ≡ option_items o
clone_option D both more less None None h = refl
clone_option D both more less None (Some w) h = absurd (more w h)
clone_option D both more less (Some v) None h = absurd (less v h)
clone_option D both more less (Some v) (Some w) h = ap Some (both v w h)

-- slots that are clones make the same variables
pub clone_slots : (C : Vec ℕ Global → Vec ℕ Global → Type 0) (D : Place → Place → Type 0) → ((v w : Vec ℕ Global) → C v w → w.items ≡ v.items) → ((o p : Place) → D o p → option_items p.value ≡ option_items o.value)
    → (es fs : List Slot) → AllZip (λ p q. C p.0 q.0 × D p.1 q.1) es fs → slot_variables fs ≡ slot_variables es
clone_slots C D names values [] [] h = refl
clone_slots C D names values [] (f ∷ fs) h = absurd h
clone_slots C D names values (e ∷ es) [] h = absurd h
clone_slots C D names values (e ∷ es) (f ∷ fs) h =
    ap (λ m. assigned m f.0.items (option_items f.1.value)) (clone_slots C D names values es fs h.1)
    ∙ ap (λ n. assigned (slot_variables es) n (option_items f.1.value)) (names e.0 f.0 h.0.0)
    ∙ ap (assigned (slot_variables es) e.0.items) (values e.1 f.1 h.0.1)

pub clone_words : (C : Vec ℕ Global → Vec ℕ Global → Type 0) → ((v w : Vec ℕ Global) → C v w → w.items ≡ v.items) → (vs ws : List (Vec ℕ Global)) → AllZip C vs ws → bytes_of_words ws ≡ bytes_of_words vs
clone_words C same [] [] h = refl
clone_words C same [] (w ∷ ws) h = absurd h
clone_words C same (v ∷ vs) [] h = absurd h
clone_words C same (v ∷ vs) (w ∷ ws) h = let e = same v w h.0 in let f = clone_words C same vs ws h.1 in λ i. e i ∷ f i

-- each key of the slots comes after k
abbrev After : Vec ℕ Global → List Slot → Type 0
After k es = AllByRecursion (λ y. key_cmp k y ≡ Less) (keys_of es)

absent_before : (k : Vec ℕ Global) (es : List Slot) → After k es → None ≡ lookup (is_name k.items) es
absent_before k [] h = refl
absent_before k (e ∷ es) h = absent_before k es h.1 ∙ sym (ap (λ r. cond (is_eq r) (Some e.1) (lookup (is_name k.items) es)) h.0)

put_before : (k : Vec ℕ Global) (v : Bytes) (es : List Slot) → After k es → put by_bytes k.items v (live es) ≡ (k.items, v) ∷ live es
put_before k v [] h = refl
put_before k v (e ∷ es) h = at (put_before k v es h.1) e.1.value
  where
    at : put by_bytes k.items v (live es) ≡ (k.items, v) ∷ live es → (o : Option (Vec ℕ Global)) → put by_bytes k.items v (live_before e.0 o (live es)) ≡ (k.items, v) ∷ live_before e.0 o (live es)
    at rest None = rest
    at rest (Some w) = let less = h.0 in rw less refl

-- the variables in order are the slots that have a value
pub entries_live : (es : List Slot) → IsStrictlySortedBy key_cmp (keys_of es) → entries (slot_variables es) ≡ live es
unfolding IsStrictlySortedBy
entries_live [] h = nil_from_length _ (sym (len-entries (slot_variables [])) ∙ len-empty by_bytes Bytes)
entries_live (e ∷ es) h = at (entries_live es h.1) e.1.value
  where
    at : entries (slot_variables es) ≡ live es → (o : Option (Vec ℕ Global)) → entries (assigned (slot_variables es) e.0.items (option_items o)) ≡ live_before e.0 o (live es)
    at rest None = ap entries (assigned-same (slot_variables es) e.0.items None (get-slot_variables es e.0.items ∙ ap place_value (sym (absent_before e.0 es h.0)))) ∙ rest
    at rest (Some v) = entries-insert nat_list_cmp_total (slot_variables es) e.0.items v.items ∙ ap (put by_bytes e.0.items v.items) rest ∙ put_before e.0 v.items es h.0

-- one more of the pairs is set
pub set_next : (before after all : Variables) (pairs : List (Bytes × Bytes)) (i : ℕ) (name value : Bytes) → slice_get pairs i ≡ Some (name, value) → after ≡ assigned before name (Some value) → set_in_turn before (drop i pairs) ≡ all → set_in_turn after (drop (i + 1) pairs) ≡ all
set_next before after all pairs i name value there set left =
    let inside = slice_get_within pairs i (name, value) there in
    let first : drop i pairs ≡ (name, value) ∷ drop (i + 1) pairs =
    drop-cons pairs i (name, value) inside ∙ ap (λ pair. pair ∷ drop (suc i) pairs) (get_or_from_slice_get pairs i (name, value) (name, value) there) ∙ rw add-one refl in
    ap (λ variables. set_in_turn variables (drop (i + 1) pairs)) set ∙ sym (ap (set_in_turn before) first) ∙ left
