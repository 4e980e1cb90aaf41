-- How many alternatives a list has.
use Rattle.std.proofs.Common.{◌≡◌, ◌≤◌, ◌*◌, ℕ, ltb, ◌&&◌, not, Bool, true, false, cond, List, [], ◌∷◌, ◌++◌, Some, None, Result, Ok, Err, refl, sym, ap, subst, arith}
use Rattle.std.proofs.lemmas.Bool.{ltb-false}
use Rattle.std.specs.Map.{lookup}
use Rattle.std.specs.Str.{bytes_eq}
use Rattle.text.specs.Lines.{Text, numbered_lines}
use Rattle.device_list.specs.DeviceList.{changed_at}
use Rattle.board_start.specs.StartLines.{Said, Given, Before, Counts, Faulty, Other, said}
use Rattle.board_start.specs.Start.{Values, Start, no_start, count_of, choices, most, has_value, with_value, is_further, with_before, with_counter, after_said, started_by}
use Rattle.board_start.specs.StartLaws.{AlternativesAreFew}
use Rattle.board_start.specs.declared.start_error.StartError.{StartError}
use Rattle.board_start.specs.declared.start_error.StartError.TheVariants.{TooMany}

-- a value that is there changes nothing
kept : (values : Values) (value : Text) → not (has_value values value) ≡ false → with_value value (Some values) ≡ values
kept values value e = by (has_value values value) e
  where
    by : (b : Bool) → not b ≡ false → cond b values (record values { others = values.others ++ value ∷ [] }) ≡ values
    by true e = refl
    by false e = absurd (let f = e in cc)

-- so only a further value makes more alternatives
unchanged : (givens : List (Text × Values)) (name value : Text) → is_further givens name value ≡ false → choices (changed_at (with_value value) givens name) ≡ choices givens
unchanged [] name value e = refl
unchanged (g ∷ givens) name value e = by (bytes_eq name g.0) e (unchanged givens name value)
  where
    by : (b : Bool) → ◌≡◌ {A = Bool} (elim (cond b (Some g.1) (lookup (bytes_eq name) givens)) [ None ↦ false | Some values ↦ not (has_value values value) ]) false
        → (is_further givens name value ≡ false → choices (changed_at (with_value value) givens name) ≡ choices givens)
        → choices (cond b ((g.0, with_value value (Some g.1)) ∷ givens) (g ∷ changed_at (with_value value) givens name)) ≡ count_of g.1 * choices givens
    by true e rest = ap (λ v. count_of v * choices givens) (kept g.1 value e)
    by false e rest = ap (λ n. count_of g.1 * n) (rest e)

is-start : (one next : Start) → ◌≡◌ {A = Result Start StartError} (Ok one) (Ok next) → one ≡ next
is-start one next e = cc

few-same : (one next : Start) → choices one.givens ≤ most → ◌≡◌ {A = Result Start StartError} (Ok one) (Ok next) → choices next.givens ≤ most
few-same one next few e = subst (λ (s : Start). choices s.givens ≤ most) (is-start one next e) few

few-after : (start : Start) (number : ℕ) (s : Said) (next : Start) → choices start.givens ≤ most → after_said start number s ≡ Ok next → choices next.givens ≤ most
few-after start number (Given name value) next few e = by (is_further start.givens name value) (ltb most (choices new)) refl refl e
  where
    new : List (Text × Values)
    new = changed_at (with_value value) start.givens name

    by : (further many : Bool) → is_further start.givens name value ≡ further → ltb most (choices new) ≡ many
        → ◌≡◌ {A = Result Start StartError} (cond (further && many) (Err (TooMany number)) (Ok (record start { givens = new }))) (Ok next) → choices next.givens ≤ most
    by true true f m e = absurd (let g = e in cc)
    by true false f m e = few-same (record start { givens = new }) next (ltb-false most (choices new) m) e
    by false many f m e = few-same (record start { givens = new }) next (subst (λ (n : ℕ). n ≤ most) (sym (unchanged start.givens name value f)) few) e
few-after start number (Before name) next few e = few-same (with_before start name) next few e
few-after start number (Counts counter) next few e = few-same (with_counter start counter) next few e
few-after start number Faulty next few e = few-same start next few e
few-after start number Other next few e = few-same start next few e

few-all : (lines : List (ℕ × Text)) (start done : Start) → choices start.givens ≤ most → started_by start lines ≡ Ok done → choices done.givens ≤ most
few-all [] start done few e = few-same start done few e
few-all (l ∷ lines) start done few e = by (after_said start l.0 (said l.1)) refl e (λ next. few-all lines next done)
  where
    by : (r : Result Start StartError) → after_said start l.0 (said l.1) ≡ r → ◌≡◌ {A = Result Start StartError} (elim r [ Ok next ↦ started_by next lines | Err fault ↦ Err fault ]) (Ok done)
        → ((next : Start) → choices next.givens ≤ most → started_by next lines ≡ Ok done → choices done.givens ≤ most) → choices done.givens ≤ most
    by (Ok next) is f rest = rest next (few-after start l.0 (said l.1) next few is) f
    by (Err fault) is f rest = absurd (let g = f in cc)

pub alternatives_are_few : AlternativesAreFew
alternatives_are_few text start e = few-all (numbered_lines text) no_start start (omega arith) e
