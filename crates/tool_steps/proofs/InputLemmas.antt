-- What was read of an input, up to the limit or past it.
use Rattle.std.proofs.Common.{◌≡◌, ◌∙◌, subst, ◌<◌, ◌≤◌, ℕ, List, length, take, min, Option, None, Some, arith, length-take}
use Rattle.std.proofs.lemmas.List.{take_all}
use Rattle.std.specs.Prelude.{IfSome}
use Rattle.tool_files.specs.Told.{read_limit}
use Rattle.tool_steps.specs.ReadingFiles.{IsCutOff, IsInput, cut_off_line}

-- a text within the limit is the whole input
whole-input : (input : Option (List ℕ)) (text : List ℕ) → IfSome input (λ left. text ≡ take 1048577 left) → length text ≤ 1048576 → IfSome input (λ all. text ≡ all)
whole-input None text is short = tt
whole-input (Some all) text is short =
    let taken : length text ≡ min 1048577 (length all) = rw is (length-take 1048577 all) in
    let fits : length all ≤ 1048577 = omega (arith, short, taken) in
    is ∙ take_all 1048577 all fits

-- if more than the limit was read of an input, the input is longer than the limit
pub long-input : (input : Option (List ℕ)) (text : List ℕ) → IfSome input (λ left. text ≡ take 1048577 left) → 1048576 < length text
    → IfSome input (λ all. read_limit < length all)
long-input None text is past = tt
long-input (Some all) text is past =
    let taken : length text ≡ min 1048577 (length all) = rw is (length-take 1048577 all) in
    omega (arith, past, taken)

-- and no line of it is cut off, or the last one is
pub ended-input : (input : Option (List ℕ)) (text : List ℕ) → IfSome input (λ left. text ≡ take 1048577 left) → length text ≤ 1048576 → cut_off_line text ≡ None → IsInput input text
ended-input input text is short ended = (whole-input input text is short, ended)

pub cut-input : (input : Option (List ℕ)) (text : List ℕ) (line : ℕ) → IfSome input (λ left. text ≡ take 1048577 left) → length text ≤ 1048576 → cut_off_line text ≡ Some line
    → IfSome input (IsCutOff line)
cut-input None text line is short cut = tt
cut-input (Some all) text line is short cut = subst (IsCutOff line) (whole-input (Some all) text is short) (short, cut)
