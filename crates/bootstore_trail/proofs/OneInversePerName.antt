-- Since the last mark, each name has at most one kept inverse.
use Rattle.std.proofs.Common.{◌≡◌, ℕ, ◌+◌, ◌≤◌, ◌<◌, Bool, true, false, cond, eqb, List, [], ◌∷◌, ◌||◌, Option, Result, Ok, Err, OnOk, OnErr, length, refl, sym, ap, subst, ◌∙◌, arith}
use Rattle.std.specs.declared.alloc.Global.{Global}
use Rattle.std.specs.declared.vec.Vec.{Vec}
use Rattle.std.specs.Ordering.{nat_cmp, is_eq}
use Rattle.std.specs.Cmp.Lexicographic.{slice_cmp}
use Rattle.std.proofs.lemmas.Bool.{eqb-true, eq-eqb, and_parts, and_from, or_right}
use Rattle.bootstore_state.specs.declared.table.Table.{Table}
use Rattle.bootstore_state.specs.declared.table.Place.{Place}
use Rattle.bootstore_trail.specs.declared.inverse.Marked.{Marked}
use Rattle.bootstore_trail.specs.declared.inverse.Inverse.{Inverse}
use Rattle.bootstore_trail.specs.declared.inverse.Inverse.TheVariants.{Variable, Touched}
use Rattle.bootstore_trail.specs.declared.inverse.Kept.{Kept}
use Rattle.bootstore_trail.specs.declared.inverse.Kept.TheVariants.{Mark, Change}
use Rattle.bootstore_state.specs.declared.present.Present.{Present}
use Rattle.bootstore_state.specs.declared.present.Scope.{Scope}
use Rattle.bootstore_state.specs.declared.present.Scope.TheVariants.{Environment, Local}
use Rattle.bootstore_state.specs.Moment.{Bytes, Moment, RunningFrame, Variables}
use Rattle.bootstore_state.specs.Record.{assigned}
use Rattle.bootstore_state.specs.Present.{chosen, table_of, with_table, with_variable}
use Rattle.bootstore_state.specs.Table.{AreEqual, IsWith, place_at, last_kept, kept_of, place_value, KeepsNothing}
use Rattle.bootstore_trail.specs.Inverse.{undone, marked_before, last_left, is_of, stands_as, is_kept, EachIsKept, tells_kept, all_tell_kept, up_to_mark, marks_tell, KeepsOnce}
use Rattle.bootstore_state.proofs.TableLemmas.{assigned-again, assigned-swap, same_name, compares_equal}

or_map : (a b c : Bool) → (b ≡ true → c ≡ true) → a || b ≡ true → a || c ≡ true
or_map true b c f h = refl
or_map false b c f h = f h

-- a change that is the count-th kept thing is among the kept things
stands_within : (test : Inverse → Bool) (count : ℕ) (kept : List Kept) → stands_as test count kept ≡ true → count ≤ length kept
stands_within test count [] h = absurd (let e : false ≡ true = h in cc)
stands_within test count (Mark mark ∷ kept) h = let less = stands_within test count kept h in omega arith
stands_within test count (Change i ∷ kept) h = at (stands_within test count kept) (eqb count (length kept + 1)) refl h
  where
    at : (stands_as test count kept ≡ true → count ≤ length kept) → (b : Bool) → eqb count (length kept + 1) ≡ b → cond b (test i) (stands_as test count kept) ≡ true → count ≤ length (Change i ∷ kept)
    at rest true t k = let e = eqb-true count (length kept + 1) t in omega arith
    at rest false t k = let less = rest k in omega arith

stands_more : (test : Inverse → Bool) (count : ℕ) (one : Kept) (kept : List Kept) → stands_as test count kept ≡ true → stands_as test count (one ∷ kept) ≡ true
stands_more test count (Mark mark) kept h = h
stands_more test count (Change i) kept h = at (eqb count (length kept + 1)) refl
  where
    at : (b : Bool) → eqb count (length kept + 1) ≡ b → cond b (test i) (stands_as test count kept) ≡ true
    at true t = absurd (let e = eqb-true count (length kept + 1) t in let less = stands_within test count kept h in omega arith)
    at false t = h

stands_less : (test : Inverse → Bool) (count : ℕ) (i : Inverse) (kept : List Kept) → test i ≡ false → stands_as test count (Change i ∷ kept) ≡ true → stands_as test count kept ≡ true
stands_less test count i kept other = at (eqb count (length kept + 1))
  where
    at : (b : Bool) → cond b (test i) (stands_as test count kept) ≡ true → stands_as test count kept ≡ true
    at true h = absurd (let e : test i ≡ true = h in cc)
    at false h = h

kept_more : (test : Inverse → Bool) (count : ℕ) (one : Kept) (kept : List Kept) → is_kept test count kept ≡ true → is_kept test count (one ∷ kept) ≡ true
kept_more test count one kept = or_map (eqb count 0) (stands_as test count kept) (stands_as test count (one ∷ kept)) (stands_more test count one kept)

kept_less : (test : Inverse → Bool) (count : ℕ) (i : Inverse) (kept : List Kept) → test i ≡ false → is_kept test count (Change i ∷ kept) ≡ true → is_kept test count kept ≡ true
kept_less test count i kept other = or_map (eqb count 0) (stands_as test count (Change i ∷ kept)) (stands_as test count kept) (stands_less test count i kept other)

kept_here : (test : Inverse → Bool) (i : Inverse) (kept : List Kept) → test i ≡ true → is_kept test (length kept + 1) (Change i ∷ kept) ≡ true
kept_here test i kept h =
    or_right (eqb (length kept + 1) 0) (stands_as test (length kept + 1) (Change i ∷ kept))
    (ap (λ b. cond b (test i) (stands_as test (length kept + 1) kept)) (eq-eqb (length kept + 1) (length kept + 1) refl) ∙ h)

-- if the count of a place is not 0, the inverse that it names is kept
pub stands_there : (test : Inverse → Bool) (count : ℕ) (kept : List Kept) → 0 < count → is_kept test count kept ≡ true → stands_as test count kept ≡ true
stands_there test count kept some = at (eqb count 0) refl
  where
    at : (b : Bool) → eqb count 0 ≡ b → b || stands_as test count kept ≡ true → stands_as test count kept ≡ true
    at true t h = absurd (let e = eqb-true count 0 t in omega arith)
    at false t h = h

-- the inverse of a variable names it
pub same_variable : (scope other : Scope) (name : Bytes) (key : Vec ℕ Global) (before : Option Place) → is_of scope name (Variable other key before) ≡ true → is_of other key.items ≡ is_of scope name
same_variable Environment Environment name key before t = ap (is_of Environment) (sym (same_name name key.items t))
same_variable Environment Local name key before t = absurd (let e : false ≡ true = t in cc)
same_variable Local Environment name key before t = absurd (let e : false ≡ true = t in cc)
same_variable Local Local name key before t = ap (is_of Local) (sym (same_name name key.items t))

is_of_itself : (scope : Scope) (name : Bytes) (key : Vec ℕ Global) (before : Option Place) → key.items ≡ name → is_of scope name (Variable scope key before) ≡ true
is_of_itself Environment name key before same = compares_equal name key.items (sym same)
is_of_itself Local name key before same = compares_equal name key.items (sym same)

-- After the last inverse was taken, each count still names a kept inverse.
left : (scope : Scope) (last new : Bytes → ℕ) (i : Inverse) (kept : List Kept) → EachIsKept (is_of scope) last (Change i ∷ kept) → tells_kept i kept ≡ true → AreEqual (last_left scope i last) new → EachIsKept (is_of scope) new kept
left scope last new (Variable other key before) kept h tells e = λ name. subst (λ k. is_kept (is_of scope name) k kept ≡ true) (sym (e name)) (at name (is_of scope name (Variable other key before)) refl)
  where
    at : (name : Bytes) (b : Bool) → is_of scope name (Variable other key before) ≡ b → is_kept (is_of scope name) (cond b (kept_of before) (last name)) kept ≡ true
    at name true t = subst (λ test. is_kept test (kept_of before) kept ≡ true) (same_variable scope other name key before t) tells
    at name false t = kept_less (is_of scope name) (last name) (Variable other key before) kept t (h name)
left scope last new (Touched below frame) kept h tells e = λ name. subst (λ k. is_kept (is_of scope name) k kept ≡ true) (sym (e name)) (kept_less (is_of scope name) (last name) (Touched below frame) kept refl (h name))

pub once_after : (p q : Present) (u : ℕ) (i : Inverse) (kept : List Kept) → KeepsOnce p u (Change i ∷ kept) → AreEqual (last_left Environment i (last_kept p.environment)) (last_kept q.environment) → AreEqual (last_left Local i (last_kept p.locals)) (last_kept q.locals) → KeepsOnce q u kept
once_after p q u i kept h environment locals =
    let parts = and_parts (tells_kept i kept) (all_tell_kept kept) h.before in
    record {
      variables = λ scope. left scope (last_kept (table_of p scope)) (last_kept (table_of q scope)) i kept (h.variables scope) parts.0 (both scope);
      before = parts.1;
      last_mark = h.last_mark;
      marks = h.marks;
    }
  where
    both : (scope : Scope) → AreEqual (last_left scope i (last_kept (table_of p scope))) (last_kept (table_of q scope))
    both Environment = environment
    both Local = locals

pub once_at_mark : (p q : Present) (u : ℕ) (mark : Marked) (kept : List Kept) → KeepsOnce p u (Mark mark ∷ kept) → q.environment ≡ p.environment → q.locals ≡ p.locals → KeepsOnce q mark.before.kept kept
once_at_mark p q u mark kept h environment locals =
    let parts = and_parts (eqb (up_to_mark kept) mark.before.kept) (marks_tell kept) h.marks in
    record {
      variables = λ scope name. ap (λ t. is_kept (is_of scope name) (last_kept t name) kept) (λ i. chosen scope (environment i) (locals i)) ∙ h.variables scope name;
      before = h.before;
      last_mark = eqb-true (up_to_mark kept) mark.before.kept parts.0;
      marks = parts.1;
    }

pub once_from_mark : (p : Present) (n : ℕ) (mark : Marked) (kept : List Kept) → KeepsOnce p mark.before.kept kept → length kept + 1 ≡ n → KeepsOnce p n (Mark mark ∷ kept)
once_from_mark p n mark kept h count = record {
  variables = h.variables;
  before = h.before;
  last_mark = count;
  marks = and_from (eqb (up_to_mark kept) mark.before.kept) (marks_tell kept) (eq-eqb (up_to_mark kept) mark.before.kept h.last_mark) h.marks;
}

pub once_touched : (p : Present) (u below : ℕ) (frame : RunningFrame) (kept : List Kept) → KeepsOnce p u kept → KeepsOnce p u (Change (Touched below frame) ∷ kept)
once_touched p u below frame kept h = record {
  variables = λ scope name. kept_more (is_of scope name) (last_kept (table_of p scope) name) (Change (Touched below frame)) kept (h.variables scope name);
  before = h.before;
  last_mark = h.last_mark;
  marks = h.marks;
}

-- if a name gets the count that it has, no count changes
pub with_same : (last new : Bytes → ℕ) (name : Bytes) (k : ℕ) → IsWith last name k new → k ≡ last name → AreEqual last new
with_same last new name k e same = λ q. e q ∙ at q (is_eq (slice_cmp nat_cmp q name)) refl
  where
    at : (q : Bytes) (b : Bool) → is_eq (slice_cmp nat_cmp q name) ≡ b → cond b k (last q) ≡ last q
    at q true t = same ∙ ap last (sym (same_name q name t))
    at q false t = refl

-- equal counts are kept, and so is the count 0
pub kept_equal : (test : Bytes → Inverse → Bool) (last new : Bytes → ℕ) (kept : List Kept) → EachIsKept test last kept → AreEqual last new → EachIsKept test new kept
kept_equal test last new kept h e = λ q. subst (λ k. is_kept (test q) k kept ≡ true) (sym (e q)) (h q)

pub with_none : (test : Bytes → Inverse → Bool) (last new : Bytes → ℕ) (name : Bytes) (kept : List Kept) → IsWith last name 0 new → EachIsKept test last kept → EachIsKept test new kept
with_none test last new name kept e h = λ q. subst (λ k. is_kept (test q) k kept ≡ true) (sym (e q)) (at q (is_eq (slice_cmp nat_cmp q name)))
  where
    at : (q : Bytes) (b : Bool) → is_kept (test q) (cond b 0 (last q)) kept ≡ true
    at q true = refl
    at q false = h q

with_here : (test : Bytes → Inverse → Bool) (last new : Bytes → ℕ) (name : Bytes) (i : Inverse) (kept : List Kept) → test name i ≡ true → IsWith last name (length kept + 1) new → EachIsKept test last kept → EachIsKept test new (Change i ∷ kept)
with_here test last new name i kept is_one e h = λ q. subst (λ k. is_kept (test q) k (Change i ∷ kept) ≡ true) (sym (e q)) (at q (is_eq (slice_cmp nat_cmp q name)) refl)
  where
    at : (q : Bytes) (b : Bool) → is_eq (slice_cmp nat_cmp q name) ≡ b → is_kept (test q) (cond b (length kept + 1) (last q)) (Change i ∷ kept) ≡ true
    at q true t = kept_here (test q) i kept (subst (λ n. test n i ≡ true) (sym (same_name q name t)) is_one)
    at q false t = kept_more (test q) (last q) (Change i) kept (h q)

-- what is known of each table is known of each after a change of one
each_table : (P : Scope → (Bytes → ℕ) → Type 0) (p : Present) (t : Table) (scope : Scope) → P scope (last_kept t) → ((s : Scope) → P s (last_kept (table_of p s))) → (s : Scope) → P s (last_kept (table_of (with_table p scope t) s))
each_table P p t Environment here there Environment = here
each_table P p t Environment here there Local = there Local
each_table P p t Local here there Environment = there Environment
each_table P p t Local here there Local = here

module _ (p : Present) (t : Table) (u : ℕ) (kept : List Kept) (once : KeepsOnce p u kept) (scope : Scope) where
  pub once_set : EachIsKept (is_of scope) (last_kept t) kept → KeepsOnce (with_table p scope t) u kept
  once_set h = record { variables = each_table (λ s last. EachIsKept (is_of s) last kept) p t scope h once.variables; before = once.before; last_mark = once.last_mark; marks = once.marks }

  pub once_kept : (name : Bytes) (key : Vec ℕ Global) (before : Option Place) → key.items ≡ name → before ≡ place_at (table_of p scope) name → IsWith (last_kept (table_of p scope)) name (length kept + 1) (last_kept t) → KeepsOnce (with_table p scope t) u (Change (Variable scope key before) ∷ kept)
  once_kept name key before same was e =
      let told : is_kept (is_of scope key.items) (kept_of before) kept ≡ true = ap (λ n. is_kept (is_of scope n) (kept_of before) kept) same ∙ ap (λ b. is_kept (is_of scope name) (kept_of b) kept) was ∙ once.variables scope name in
      record {
        variables = each_table (λ s last. EachIsKept (is_of s) last (Change (Variable scope key before) ∷ kept)) p t scope
            (with_here (is_of scope) (last_kept (table_of p scope)) (last_kept t) name (Variable scope key before) kept (is_of_itself scope name key before same) e (once.variables scope))
            (λ s q. kept_more (is_of s q) (last_kept (table_of p s) q) (Change (Variable scope key before)) kept (once.variables s q));
        before = and_from (tells_kept (Variable scope key before) kept) (all_tell_kept kept) told once.before;
        last_mark = once.last_mark;
        marks = once.marks;
      }

-- Setting a name again after the mark changes no marked moment.
set_undone : (v : Variables) (name key : Bytes) (o before : Option Bytes) (b : Bool) → is_eq (slice_cmp nat_cmp name key) ≡ b → assigned (assigned v name o) key before ≡ cond b (assigned v key before) (assigned (assigned v key before) name o)
set_undone v name key o before true t = ap (λ n. assigned (assigned v n o) key before) (same_name name key t) ∙ assigned-again v key o before
set_undone v name key o before false t = assigned-swap v key name before o (λ s. let alike = compares_equal name key (sym s) in cc)

undone_set : (scope : Scope) (i : Inverse) (m : Moment) (name : Bytes) (o : Option Bytes) (b : Bool) → is_of scope name i ≡ b → undone i (with_variable scope name o m) ≡ cond b (undone i m) (with_variable scope name o (undone i m))
undone_set Environment (Variable Environment key before) m name o true t = ap (λ v. record m { environment = v }) (set_undone m.environment name key.items o (place_value before) true t)
undone_set Environment (Variable Environment key before) m name o false t = ap (λ v. record m { environment = v }) (set_undone m.environment name key.items o (place_value before) false t)
undone_set Local (Variable Local key before) m name o true t = ap (λ v. record m { locals = v }) (set_undone m.locals name key.items o (place_value before) true t)
undone_set Local (Variable Local key before) m name o false t = ap (λ v. record m { locals = v }) (set_undone m.locals name key.items o (place_value before) false t)
undone_set scope i m name o false t = refl
undone_set scope i m name o true t = absurd (let e : false ≡ true = t in cc)

marked_again : (scope : Scope) (kept : List Kept) (m : Moment) (name : Bytes) (o : Option Bytes) (count : ℕ) → stands_as (is_of scope name) count kept ≡ true → up_to_mark kept < count → marked_before (with_variable scope name o m) kept ≡ marked_before m kept
marked_again scope [] m name o count h later = absurd (let e : false ≡ true = h in cc)
marked_again scope (Mark mark ∷ kept) m name o count h later = absurd (let less = stands_within (is_of scope name) count kept h in omega arith)
marked_again scope (Change i ∷ kept) m name o count h later = at (λ k. marked_again scope kept (undone i m) name o count k later) (is_of scope name i) refl
  where
    at : (stands_as (is_of scope name) count kept ≡ true → marked_before (with_variable scope name o (undone i m)) kept ≡ marked_before (undone i m) kept)
        → (b : Bool) → is_of scope name i ≡ b → marked_before (undone i (with_variable scope name o m)) kept ≡ marked_before (undone i m) kept
    at rest true t = ap (λ n. marked_before n kept) (undone_set scope i m name o true t)
    at rest false t = ap (λ n. marked_before n kept) (undone_set scope i m name o false t) ∙ rest (stands_less (is_of scope name) count i kept t h)

pub marked_once : (scope : Scope) (p : Present) (u : ℕ) (kept : List Kept) → KeepsOnce p u kept → (m : Moment) (name : Bytes) (o : Option Bytes) (count : ℕ) → u < count → count ≡ last_kept (table_of p scope) name → marked_before (with_variable scope name o m) kept ≡ marked_before m kept
marked_once scope p u kept once m name o count later told =
    let there = stands_there (is_of scope name) count kept (omega arith) (ap (λ k. is_kept (is_of scope name) k kept) told ∙ once.variables scope name) in
    marked_again scope kept m name o count there (omega (arith, once.last_mark))

-- what holds after a success and after a refusal holds
pub on_either : {A E : Type 0} (r : Result A E) (P Q R : Type 0) → OnOk r P → OnErr r Q → (P → R) → (Q → R) → R
on_either (Ok x) P Q R p q f g = f p
on_either (Err x) P Q R p q f g = g q

pub once_nothing : (p : Present) (kept : List Kept) → kept ≡ [] → KeepsNothing p.environment → KeepsNothing p.locals → KeepsOnce p 0 kept
once_nothing p kept none environment locals = subst (KeepsOnce p 0) (sym none) (record {
  variables = λ scope q. ap (λ k. is_kept (is_of scope q) k []) (at scope q);
  before = refl;
  last_mark = refl;
  marks = refl;
})
  where
    at : (scope : Scope) → KeepsNothing (table_of p scope)
    at Environment = environment
    at Local = locals
