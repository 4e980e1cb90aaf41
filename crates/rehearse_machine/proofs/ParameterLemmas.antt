-- What words expand by, in a store's moment and in the state that it describes.
use Rattle.std.proofs.Common.{◌≡◌, ℕ, Bool, true, false, cond, List, [], ◌∷◌, Option, Some, None, refl, sym, ap, ◌∙◌, nat_le, ◌≤◌, ◌<◌}
use Rattle.std.proofs.lemmas.Bool.{le-leb, lt-leb}
use Rattle.std.specs.Borrow.{Bor}
use Rattle.std.specs.Option.{option_copied}
use Rattle.text.specs.TextsShown.{option_bytes}
use Rattle.std.specs.FinMap as finite
use Rattle.std.specs.FinMap.{get-insert, get-entries, find, entries}
use Rattle.std.specs.Ordering.{nat_cmp, eq_by_cmp}
use Rattle.std.proofs.lemmas.Cmp.{nat_list_cmp_total}
use Rattle.std.specs.Cmp.Lexicographic.{slice_cmp}
use Rattle.hushlang.specs.Expansion as expansion
use Rattle.bootstore_state.specs.Moment.{Bytes, Variables, Moment}
use Rattle.rehearse_terms.specs.Outcomes.{OutcomeWord}
use Rattle.rehearse_terms.specs.State.{Text, value_in}
use Rattle.rehearse_rules.specs.Parameters.{parameters_in}
use Rattle.bootstore_state.specs.StoredState.{state_at}
use Rattle.rehearse_machine.specs.Variables.{in_front, all_variables}

abbrev pub over : Option Bytes → Option Bytes → Option Bytes
over (Some value) o = Some value
over None o = o

over_cond : (b : Bool) (v : Bytes) (x o : Option Bytes) → cond b (Some v) (over x o) ≡ over (cond b (Some v) x) o
over_cond true v x o = refl
over_cond false v x o = refl

front_value : (es : List (Bytes × Bytes)) (variables : Variables) (name : Bytes) → finite.get (in_front es variables) name ≡ over (find (slice_cmp nat_cmp) name es) (finite.get variables name)
front_value [] variables name = refl
front_value (e ∷ es) variables name =
    get-insert nat_list_cmp_total (in_front es variables) e.0 e.1 name
    ∙ ap (cond (eq_by_cmp (slice_cmp nat_cmp) name e.0) (Some e.1)) (front_value es variables name)
    ∙ over_cond (eq_by_cmp (slice_cmp nat_cmp) name e.0) e.1 (find (slice_cmp nat_cmp) name es) (finite.get variables name)

-- the value of a variable: the environment's, or else the shell variable's
pub value_of_all : (m : Moment) (name : Bytes) → finite.get (all_variables m) name ≡ over (finite.get m.environment name) (finite.get m.locals name)
value_of_all m name = front_value (entries m.environment) m.locals name ∙ ap (λ (o : Option Bytes). over o (finite.get m.locals name)) (sym (get-entries m.environment name))

over-is : (a b : Option Bytes) → over a b ≡ elim a [ Some value ↦ Some value | None ↦ b ]
over-is (Some value) b = refl
over-is None b = refl

same_value : (m : Moment) (w : OutcomeWord) (name : Text) → finite.get (all_variables m) name ≡ value_in (state_at m w).memory name
same_value m w name =
    front_value (entries m.environment) m.locals name ∙ ap (over (find (slice_cmp nat_cmp) name (entries m.environment))) (get-entries m.locals name)
    ∙ over-is (find (slice_cmp nat_cmp) name (entries m.environment)) (find (slice_cmp nat_cmp) name (entries m.locals))

pub same_parameters : (m : Moment) (w : OutcomeWord) → expansion.parameters_of (all_variables m) m.status ≡ parameters_in (state_at m w).memory
same_parameters m w = λ i. record { value = λ name. same_value m w name i; status = m.status }

pub copied_bytes : (o : Option (Bor (List ℕ))) → option_copied o ≡ option_bytes o
copied_bytes None = refl
copied_bytes (Some b) = refl

pub from_environment : (m : Moment) (name value : Bytes) → finite.get m.environment name ≡ Some value → Some value ≡ finite.get (all_variables m) name
from_environment m name value e = sym (value_of_all m name ∙ ap (λ (o : Option Bytes). over o (finite.get m.locals name)) e)

pub from_locals : (m : Moment) (name : Bytes) (o : Option Bytes) → finite.get m.environment name ≡ None → o ≡ finite.get m.locals name → o ≡ finite.get (all_variables m) name
from_locals m name o e f = f ∙ sym (value_of_all m name ∙ ap (λ (x : Option Bytes). over x (finite.get m.locals name)) e)

pub fits : (n m : ℕ) → n ≤ m → nat_le n m ≡ true
fits n m h = le-leb n m h

pub exceeds : (n m : ℕ) → m < n → nat_le n m ≡ false
exceeds n m h = lt-leb n m h
