use Rattle.std.proofs.Common.{◌≡◌, ◌∙◌, sym, ap, Bool, true, false, cond, ℕ, List, Some, None}
use Rattle.std.specs.Ordering.{is_eq, nat_cmp}
use Rattle.std.specs.Cmp.Lexicographic.{slice_cmp, nat_list_cmp_total}
use Rattle.std.specs.FinMap.{empty, insert, get, get-insert, get-empty}
use Rattle.hushlang.proofs.expanding.one_variable.OneVariableVars.get.Goals as goal

-- the value, if the names are equal
one_variable : (name value asked : List ℕ) (same : Bool) → is_eq (slice_cmp nat_cmp asked name) ≡ same → get (insert (empty {K = List ℕ} {X = List ℕ} {R = slice_cmp nat_cmp}) name value) asked ≡ cond same (Some value) None
one_variable name value asked same e =
    get-insert nat_list_cmp_total empty name value asked ∙ ap (λ same. cond same (Some value) (get (empty {R = slice_cmp nat_cmp}) asked)) e ∙ ap (cond same (Some value)) (get-empty (slice_cmp nat_cmp) asked)

pub returns-then-is_eq : goal.returns-then-is_eq
returns-then-is_eq c = sym (one_variable c.args.self.now.name.now c.args.self.now.value.now c.args.name.now true (sym (c.is_eq.ensures ∙ ap is_eq c.cmp.ensures) ∙ c.if-is_eq.true))

pub returns-else-is_eq : goal.returns-else-is_eq
returns-else-is_eq c = sym (one_variable c.args.self.now.name.now c.args.self.now.value.now c.args.name.now false (sym (c.is_eq.ensures ∙ ap is_eq c.cmp.ensures) ∙ c.if-is_eq.false))
