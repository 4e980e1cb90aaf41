-- A listing of a task that broke off, and its resume point.
use Rattle.std.proofs.Common.{ℕ, zero, suc, Bool, true, false, List, [], ◌∷◌, ◌++◌, map, length, take, drop, Option, Some, None, refl, sym, ap, subst, ◌∙◌, ◌≡◌, ◌≢◌, ◌<◌, ◌≤◌, length-append, arith, ◌+◌, flat_map, nat_le, codes}
use Rattle.std.proofs.lemmas.List.Concat.{flat_map-append}
use Rattle.std.proofs.Math.Seq.{take-append_seam}
use Rattle.rehearse_terms.specs.Outcomes.{OutcomeWord, word_eq}
use Rattle.rehearse_terms.specs.State.{Text, State}
use Rattle.rehearse_rules.specs.Execution.{Ending}
use Rattle.rehearse_rules.specs.Runs.{Task, run_on, state_of, ending_of, runs, rest}
use Rattle.rehearse_rules.specs.Listing.{listing, line, last_of, spelled, words_listed, closing, record_of, record_lines, inner_lines, last_line}
use Rattle.rehearse_rules.specs.Resuming.{whole, next_text, ended_lines, is_last_line, Point, point_in, resume_point_of, point_after}
use Rattle.rehearse_rules.proofs.NextRunLemmas.{AreDistinct, Absent_at, word_eq-same, after_ends}
use Rattle.rehearse_rules.proofs.TaskChoices.{task_distinct}
use Rattle.rehearse_rules.proofs.Pages.{after_page, spelled_same}
use Rattle.rehearse_rules.proofs.WholeRecordLemmas.{IsSplit, split_whole, resumes}
use Rattle.rehearse_rules.proofs.RecordLines.{IsOneLine, spelled-line, lines-of, bytes_of, Told, told_lines, told_length, told_point, told-lines, AreOpen, past-records, part-lines, broken_off}

-- no run is in the list twice
twice : (w : OutcomeWord) (before between behind : List OutcomeWord) → AreDistinct (before ++ w ∷ between ++ w ∷ behind) → ⊥
twice w [] between behind h = let a : word_eq w w ≡ false = Absent_at w w between behind h.0 in let b = word_eq-same w in (let c = sym b ∙ a in cc)
twice w (v ∷ before) between behind h = twice w before between behind h.1

pub no_run_twice : (task : Task) (w : OutcomeWord) (before between behind : List OutcomeWord) → runs task ≢ before ++ w ∷ between ++ w ∷ behind
no_run_twice task w before between behind e = twice w before between behind (subst AreDistinct e (task_distinct task))

bytes_of-append : (a b : List Text) → bytes_of (a ++ b) ≡ bytes_of a + bytes_of b
bytes_of-append [] b = omega arith
bytes_of-append (l ∷ a) b = let ih = bytes_of-append a b in omega arith

length-lines : (ls : List Text) → length (flat_map line ls) ≡ bytes_of ls
length-lines [] = refl
length-lines (l ∷ ls) =
    let ih = length-lines ls in
    let one = length-append (l ++ 10 ∷ []) (flat_map line ls) in
    let two = length-append l (10 ∷ []) in
    omega arith

closing-line_at : (b : Bool) (us : List OutcomeWord) → IsOneLine (elim b [ true ↦ codes "done" | false ↦ codes "more " ++ spelled (last_of [] us) ]) × (is_last_line (elim b [ true ↦ codes "done" | false ↦ codes "more " ++ spelled (last_of [] us) ]) ≡ false)
closing-line_at true us = ((refl, (refl, (refl, (refl, tt)))), refl)
closing-line_at false us = ((refl, (refl, (refl, (refl, (refl, spelled-line (last_of [] us)))))), refl)

open_first : (l : Text) (j : ℕ) → is_last_line l ≡ false → AreOpen (take j (l ∷ []))
open_first l zero h = tt
open_first l (suc zero) h = (h, tt)
open_first l (suc (suc j)) h = (h, tt)

closing-line : (ws : List OutcomeWord) (limit : Option ℕ) → IsOneLine (closing ws limit) × (is_last_line (closing ws limit) ≡ false)
closing-line ws None = ((refl, (refl, (refl, (refl, tt)))), refl)
closing-line ws (Some limit) = closing-line_at (nat_le (length ws) limit) (take limit ws)

module _ (task : Task) (names : List Text) where
  abbrev written : OutcomeWord → Text
  written = record_of task names

  abbrev told : OutcomeWord → Told
  told w = record { word = w; state = state_of (run_on task w); ending = ending_of (run_on task w) }

  told-text : (us : List OutcomeWord) → flat_map written us ≡ flat_map line (flat_map (told_lines names) (map told us))
  told-text [] = refl
  told-text (u ∷ us) = ap (λ (t : Text). written u ++ t) (told-text us) ∙ sym (flat_map-append line (told_lines names (told u)) (flat_map (told_lines names) (map told us)))

  told-length : (u : OutcomeWord) → told_length names (told u) ≡ length (written u)
  told-length u =
      let s : State = state_of (run_on task u) in
      let e : Ending = ending_of (run_on task u) in
      let one = length-lines (record_lines u s e names) in
      let two = bytes_of-append (inner_lines s names) (last_line e ∷ []) in
      omega arith

  told-point : (v : OutcomeWord) (vs : List OutcomeWord) (point : Option Point) (at : ℕ) → told_point names point at (map told (v ∷ vs)) ≡ Some (record { word = spelled (last_of v vs); length_before = at + length (flat_map written (v ∷ vs)) })
  told-point v [] point at =
      let e = told-length v in
      let f = length-append (written v) [] in
      let g : at + told_length names (told v) ≡ at + length (flat_map written (v ∷ [])) = omega arith in
      ap (λ (n : ℕ). Some (record { word = spelled v; length_before = n })) g
  told-point v (x ∷ vs) point at =
      let e = told-length v in
      let f = length-append (written v) (flat_map written (x ∷ vs)) in
      let g : at + told_length names (told v) + length (flat_map written (x ∷ vs)) ≡ at + length (flat_map written (v ∷ x ∷ vs)) = omega arith in
      told-point x vs (Some (record { word = spelled v; length_before = at + told_length names (told v) })) (at + told_length names (told v)) ∙ ap (λ (n : ℕ). Some (record { word = spelled (last_of x vs); length_before = n })) g

  point_is : (us : List OutcomeWord) → told_point names None 0 (map told us) ≡ point_after written us
  point_is [] = refl
  point_is (v ∷ vs) =
      let n : 0 + length (flat_map written (v ∷ vs)) ≡ length (flat_map written (v ∷ vs)) = omega arith in
      told-point v vs None 0 ∙ ap (λ (m : ℕ). Some (record { word = spelled (last_of v vs); length_before = m })) n

  -- the closing line gives no point, and neither does any prefix of it
  closing_open : (l part missing : Text) → IsOneLine l → is_last_line l ≡ false → line l ≡ part ++ missing → AreOpen (ended_lines [] part)
  closing_open l part missing h k e = let p = part-lines [] l [] part missing h tt e in subst AreOpen (sym p.1) (open_first l p.0 k)

  point_at : (us more : List OutcomeWord) (last part missing p : Text) → IsOneLine last → is_last_line last ≡ false → p ≡ flat_map written us ++ part → next_text written more (line last) ≡ part ++ missing → (more ≢ [] → missing ≢ []) → resume_point_of p ≡ point_after written us
  point_at us [] last part missing p h k e f ne =
      let rs : List Told = map told us in
      let text : p ≡ flat_map line (flat_map (told_lines names) rs) ++ part = e ∙ ap (λ (t : Text). t ++ part) (told-text us) in
      let lines = ap (point_in None None 0) (lines-of (flat_map (told_lines names) rs) part (told-lines names rs)) in
      ap resume_point_of text ∙ lines ∙ past-records names rs (ended_lines [] part) None None 0 (closing_open last part missing h k f) ∙ point_is us
  point_at us (v ∷ more) last part missing p h k e f ne =
      let rs : List Told = map told us in
      let text : p ≡ flat_map line (flat_map (told_lines names) rs) ++ part = e ∙ ap (λ (t : Text). t ++ part) (told-text us) in
      ap resume_point_of text ∙ broken_off names rs (told v) part missing f (ne (λ x. cc)) ∙ point_is us

  pub whole_records : (ws : List OutcomeWord) (limit : Option ℕ) (p q : Text) → listing written ws limit ≡ p ++ q → IsSplit written (words_listed ws limit) (line (closing ws limit)) p (whole (map written (words_listed ws limit)) p)
  whole_records ws limit p q e = split_whole written (words_listed ws limit) (line (closing ws limit)) p q e

  pub resuming : (ws : List OutcomeWord) (p q : Text) → listing written ws None ≡ p ++ q → flat_map written (take (whole (map written ws) p) ws) ++ listing written (drop (whole (map written ws) p) ws) None ≡ listing written ws None
  resuming ws p q e = resumes written ws p

  pub resume_point : (ws : List OutcomeWord) (limit : Option ℕ) (p q : Text) → listing written ws limit ≡ p ++ q → resume_point_of p ≡ point_after written (take (whole (map written (words_listed ws limit)) p) (words_listed ws limit))
  resume_point ws limit p q e =
      let us : List OutcomeWord = words_listed ws limit in
      let k = whole (map written us) p in
      let s = whole_records ws limit p q e in
      let c = closing-line ws limit in
      point_at (take k us) (drop k us) (closing ws limit) s.0 s.1 p c.0 c.1 s.2 s.3 s.4

  -- the point is the word and the length of these records
  point_words : (us : List OutcomeWord) (point : Point) → point_after written us ≡ Some point → (us ≢ []) × (point.word ≡ spelled (last_of [] us)) × (point.length_before ≡ length (flat_map written us))
  point_words [] point e = absurd (let f = e in cc)
  point_words (v ∷ vs) point e = let f : record { word = spelled (last_of v vs); length_before = length (flat_map written (v ∷ vs)) } ≡ point = (let g = e in cc) in (λ x. cc, ap (λ (x : Point). x.word) (sym f), ap (λ (x : Point). x.length_before) (sym f))

  some_taken : (k : ℕ) (ws : List OutcomeWord) → take k ws ≢ [] → (n : ℕ) × (0 < n) × (n ≤ length ws) × (take k ws ≡ take n ws) × (drop k ws ≡ drop n ws)
  some_taken zero ws ne = absurd (ne refl)
  some_taken (suc k) [] ne = absurd (ne refl)
  some_taken (suc zero) (w ∷ ws) ne = (1, omega arith, omega arith, refl, refl)
  some_taken (suc (suc k)) (w ∷ []) ne = (1, omega arith, omega arith, refl, refl)
  some_taken (suc (suc k)) (w ∷ v ∷ ws) ne = let ih = some_taken (suc k) (v ∷ ws) (λ x. cc) in (suc ih.0, omega arith, omega arith, ap (λ (us : List OutcomeWord). w ∷ us) ih.3, ih.4)

  -- what is before the point and what follows its word, if ws are the last of all runs
  resumed_in : (front ws : List OutcomeWord) → runs task ≡ front ++ ws → (p q : Text) (point : Point) (w : OutcomeWord) → listing written ws None ≡ p ++ q → resume_point_of p ≡ Some point → point.word ≡ spelled w → take point.length_before p ++ listing written (rest task w) None ≡ listing written ws None
  resumed_in front ws all p q point w e f g =
      let k = whole (map written ws) p in
      let s = whole_records ws None p q e in
      let at = point_words (take k ws) point (sym (resume_point ws None p q e) ∙ f) in
      let n = some_taken k ws at.0 in
      let word : w ≡ last_of [] (take k ws) = spelled_same w (last_of [] (take k ws)) (sym g ∙ at.1) in
      let left : rest task w ≡ drop k ws = ap (λ (v : OutcomeWord). rest task v) (word ∙ ap (last_of []) n.3) ∙ after_page (runs task) front ws n.0 (task_distinct task) all n.1 n.2 ∙ sym n.4 in
      let kept : take point.length_before p ≡ flat_map written (take k ws) = ap (λ (t : Text). take point.length_before t) s.2 ∙ ap (λ (m : ℕ). take m (flat_map written (take k ws) ++ s.0)) at.2 ∙ take-append_seam (flat_map written (take k ws)) s.0 in
      ap (λ (t : Text). t ++ listing written (rest task w) None) kept ∙ ap (λ (us : List OutcomeWord). flat_map written (take k ws) ++ listing written us None) left ∙ resumes written ws p

  pub resumed_at_point : (p q : Text) (point : Point) (w : OutcomeWord) → listing written (runs task) None ≡ p ++ q → resume_point_of p ≡ Some point → point.word ≡ spelled w → take point.length_before p ++ listing written (rest task w) None ≡ listing written (runs task) None
  resumed_at_point = resumed_in [] (runs task) refl

  pub resumed_rest : (u : OutcomeWord) (p q : Text) (point : Point) (w : OutcomeWord) → listing written (rest task u) None ≡ p ++ q → resume_point_of p ≡ Some point → point.word ≡ spelled w → take point.length_before p ++ listing written (rest task w) None ≡ listing written (rest task u) None
  resumed_rest u = let f = after_ends u (runs task) in resumed_in f.0 (rest task u) f.1
