-- The parts of a script's line.
use Rattle.std.proofs.Common.{◌≡◌, ℕ, ◌+◌, ◌-◌, List, [], ◌∷◌, ◌++◌, length, take, drop, inl, inr, None, Some, Result, Ok, Err, refl, sym, ap, ◌∙◌, arith}
use Rattle.std.proofs.lemmas.Bool.{cases_Bool}
use Rattle.std.proofs.lemmas.List.{take_all, take_rest}
use Rattle.std.specs.List.{position, position_or_len, slice_split, enumerate_from}
use Rattle.std.specs.Prelude.{unwrap_or}
use Rattle.std.proofs.Math.ListN.{drop_of_length-le}
use Rattle.text.proofs.WordLemmas.{position-or}
use Rattle.envimage.specs.Data.{Pair}
use Rattle.text.specs.Lines.{numbered_lines, is_newline}
use Rattle.text.specs.Words.{is_space, cut_front}
use Rattle.envtools.specs.Scripting.{ends_name, name_and_value, Reached, go_on, after_line, line_change, scripted_lines, scripted, AppliesLine, AppliesScript}
use Rattle.envtools.specs.declared.script.ScriptError.{ScriptError}
use Rattle.envtools.specs.declared.script.ScriptError.TheVariants.{BadName, BadValue, Memory}

-- ---- the name and the value

pub name-unfound : (text : List ℕ) → position ends_name text ≡ None → (text, []) ≡ name_and_value text
name-unfound text e =
    let n : position_or_len ends_name text ≡ length text = sym (position-or ends_name text) ∙ ap (λ o. unwrap_or o (length text)) e in
    let name : take (position_or_len ends_name text) text ≡ text = ap (λ k. take k text) n ∙ take_all (length text) text (omega arith) in
    let value : cut_front is_space (drop (position_or_len ends_name text + 1) text) ≡ [] =
    ap (λ k. cut_front is_space (drop (k + 1) text)) n ∙ ap (cut_front is_space) (drop_of_length-le text {i = length text + 1} (omega arith)) in
    λ i. (sym name i, sym value i)

pub name-found : (text : List ℕ) (at : ℕ) → position ends_name text ≡ Some at → (take at text, cut_front is_space (take (length text - (at + 1)) (drop (at + 1) text))) ≡ name_and_value text
name-found text at e =
    let n : at ≡ position_or_len ends_name text = sym (ap (λ o. unwrap_or o (length text)) e) ∙ position-or ends_name text in
    let name : take at text ≡ take (position_or_len ends_name text) text = ap (λ k. take k text) n in
    let value : cut_front is_space (take (length text - (at + 1)) (drop (at + 1) text)) ≡ cut_front is_space (drop (position_or_len ends_name text + 1) text) =
    ap (cut_front is_space) (take_rest text (at + 1)) ∙ ap (λ k. cut_front is_space (drop (k + 1) text)) n in
    λ i. (name i, value i)

pub ruleset names = (name-unfound, name-found)

-- ---- lines one after another

abbrev Lines : Type 0
Lines = List (ℕ × List ℕ)

abbrev sound : List Pair → Reached
sound env = record { env = env; fault = None }

-- one line, and then others
on_from : (old env : List Pair) (before left : Lines) (r : Result (List Pair) ScriptError)
    → ((o : List Pair) → scripted_lines o before ≡ sound env → scripted_lines o (before ++ left) ≡ scripted_lines env left)
    → go_on r old (λ next. scripted_lines next before) ≡ sound env → go_on r old (λ next. scripted_lines next (before ++ left)) ≡ scripted_lines env left
on_from old env before left (Ok next) more e = more next e
on_from old env before left (Err fault) more e = let bad : Some fault ≡ None = ap (λ r. r.fault) e in cc

pub scripted-append : (old env : List Pair) (before left : Lines) → scripted_lines old before ≡ sound env → scripted_lines old (before ++ left) ≡ scripted_lines env left
scripted-append old env [] left e = ap (λ r. scripted_lines r.env left) e
scripted-append old env (l ∷ before) left e =
    on_from old env before left (after_line old l.0 (line_change l.1)) (λ o. scripted-append o env before left) e

-- one line more
pub scripted-next : (old env new : List Pair) (before : Lines) (number : ℕ) (line : List ℕ) → scripted_lines old before ≡ sound env → after_line env number (line_change line) ≡ Ok new
    → scripted_lines old (before ++ (number, line) ∷ []) ≡ sound new
scripted-next old env new before number line reached done =
    scripted-append old env before ((number, line) ∷ []) reached ∙ ap (λ r. go_on r env (λ next. sound next)) done

-- a line that is refused
module _ (old env new : List Pair) (text : List ℕ) (before left : Lines) (number : ℕ) (line : List ℕ)
    (whole : numbered_lines text ≡ before ++ (number, line) ∷ left) (reached : scripted_lines old before ≡ sound env) where
  faulty : (fault : ScriptError) → after_line env number (line_change line) ≡ Err fault → new ≡ env → scripted old text ≡ record { env = new; fault = Some fault }
  faulty fault refused same =
      ap (scripted_lines old) whole ∙ (scripted-append old env before ((number, line) ∷ left) reached
      ∙ (ap (λ r. go_on r env (λ next. scripted_lines next left)) refused
      ∙ ap (λ e. record { env = e; fault = Some fault }) (sym same)))

  pub script-refused : (fault : ScriptError) → AppliesLine env number (line_change line) new (Err fault) → AppliesScript old text new (Err fault)
  script-refused (BadName n) h = faulty (BadName n) h.0 h.1
  script-refused (BadValue n) h = faulty (BadValue n) h.0 h.1
  script-refused Memory h = record { before = before; refused = (number, line); after = left; whole = whole; reached = reached ∙ ap sound (sym h) }

-- ---- the first line

split-some : (text : List ℕ) → (line : List ℕ) × (lines : List (List ℕ)) × (slice_split is_newline text ≡ line ∷ lines)
split-some [] = ([], [], refl)
split-some (b ∷ bs) =
    let more = split-some bs in
    elim (cases_Bool (is_newline b)) [
      | inl ends ↦ ([], slice_split is_newline bs, rw ends refl)
      | inr goes ↦ (b ∷ more.0, more.1, rw (goes, more.2) refl)
    ]

-- if the first line is refused, nothing changes
pub untouched : (env : List Pair) (text : List ℕ) → AppliesScript env text env (Err Memory)
untouched env text =
    let first = split-some text in
    record { before = []; refused = (1, first.0); after = enumerate_from 2 first.1; whole = ap (enumerate_from 1) first.2; reached = refl }
