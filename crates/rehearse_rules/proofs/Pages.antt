-- Listings in pages, and listings that broke off.
use Rattle.std.proofs.Common.{ℕ, zero, suc, Bool, true, false, List, [], ◌∷◌, ◌++◌, map, length, take, drop, Some, None, refl, sym, ap, subst, ◌∙◌, ◌≡◌, ◌<◌, ◌≤◌, append_assoc, arith, flat_map, take-append-drop, nat_le, codes, leb-false, leb-true, ◌↔◌, ◌≢◌}
use Rattle.std.specs.Prelude.{⊤}
use Rattle.std.proofs.lemmas.List.{append_cancel_right}
use Rattle.std.proofs.lemmas.List.Concat.{flat_map-append}
use Rattle.rehearse_terms.specs.Outcomes.{OutcomeWord, Success, Failure, after}
use Rattle.rehearse_terms.specs.State.{Text}
use Rattle.rehearse_rules.specs.Listing.{listing, record_of, line, last_of, spelled, outcome_digit}
use Rattle.rehearse_rules.specs.Runs.{Task, runs, rest}
use Rattle.rehearse_rules.proofs.NextRunLemmas.{AreDistinct, after_in, after_ends}
use Rattle.rehearse_rules.proofs.TaskChoices.{task_distinct}

-- the first k words, the last of which is known
taken_last : (k : ℕ) (w : OutcomeWord) (ws : List OutcomeWord) → 0 < k → k ≤ length ws → (c : List OutcomeWord) × (take k ws ≡ c ++ last_of w (take k ws) ∷ [])
taken_last zero w ws h l = absurd (omega arith)
taken_last (suc k) w [] h l = absurd (omega arith)
taken_last (suc zero) w (v ∷ ws) h l = ([], refl)
taken_last (suc (suc k)) w (v ∷ []) h l = absurd (omega arith)
taken_last (suc (suc k)) w (v ∷ x ∷ ws) h l = let ih = taken_last (suc k) v (x ∷ ws) (omega arith) (omega arith) in (v ∷ ih.0, ap (λ (us : List OutcomeWord). v ∷ us) ih.1)

-- what follows the last word of a page in the whole list
pub after_page : (all front ws : List OutcomeWord) (k : ℕ) → AreDistinct all → all ≡ front ++ ws → 0 < k → k ≤ length ws → after (last_of [] (take k ws)) all ≡ drop k ws
after_page all front ws k d e h l =
    let t = taken_last k [] ws h l in
    let w = last_of [] (take k ws) in
    let one : ws ≡ t.0 ++ w ∷ [] ++ drop k ws = sym (take-append-drop k ws) ∙ ap (λ (us : List OutcomeWord). us ++ drop k ws) t.1 in
    let two : all ≡ (front ++ t.0) ++ w ∷ drop k ws = e ∙ ap (λ (us : List OutcomeWord). front ++ us) one ∙ simp append_assoc in
    after_in w all (front ++ t.0) (drop k ws) two d

-- a page that ends with `more`, without that line, and the listing of what follows its word are together the listing
pub pages_join : (written : OutcomeWord → Text) (all front ws : List OutcomeWord) (limit : ℕ) → AreDistinct all → all ≡ front ++ ws → 0 < limit → limit < length ws → flat_map written (take limit ws) ++ listing written (after (last_of [] (take limit ws)) all) None ≡ listing written ws None
pages_join written all front ws limit d e h l =
    let a = after_page all front ws limit d e h (omega arith) in
    let b = flat_map-append written (take limit ws) (drop limit ws) in
    let c = ap (flat_map written) (take-append-drop limit ws) in
    let g : flat_map written (take limit ws) ++ flat_map written (drop limit ws) ≡ flat_map written ws = sym b ∙ c in
    rw a (sym (append_assoc (flat_map written (take limit ws)) (flat_map written (drop limit ws)) (line (codes "done"))) ∙ ap (λ (x : Text). x ++ line (codes "done")) g)

-- the last byte
abbrev last_byte : Text → ℕ
last_byte [] = 0
last_byte (b ∷ []) = b
last_byte (b ∷ c ∷ bytes) = last_byte (c ∷ bytes)

last_byte-append : (a : Text) (b : ℕ) (bytes : Text) → last_byte (a ++ b ∷ bytes) ≡ last_byte (b ∷ bytes)
last_byte-append [] b bytes = refl
last_byte-append (c ∷ []) b bytes = refl
last_byte-append (c ∷ d ∷ a) b bytes = last_byte-append (d ∷ a) b bytes

digits_end : (w : OutcomeWord) → last_byte (map outcome_digit w) < 101
digits_end [] = omega arith
digits_end (Success ∷ []) = omega arith
digits_end (Failure ∷ []) = omega arith
digits_end (Success ∷ d ∷ w) = digits_end (d ∷ w)
digits_end (Failure ∷ d ∷ w) = digits_end (d ∷ w)

spelled_end : (w : OutcomeWord) → last_byte (32 ∷ spelled w) < 101
spelled_end [] = omega arith
spelled_end (d ∷ w) = digits_end (d ∷ w)

-- bytes without a space
abbrev NoSpace : Text → Type 0
NoSpace [] = ⊤
NoSpace (b ∷ bytes) = (b ≢ 32) × NoSpace bytes

digits_space : (w : OutcomeWord) → NoSpace (map outcome_digit w)
digits_space [] = tt
digits_space (Success ∷ w) = (λ e. omega arith, digits_space w)
digits_space (Failure ∷ w) = (λ e. omega arith, digits_space w)

spelled_space : (w : OutcomeWord) → NoSpace (spelled w)
spelled_space [] = (λ e. omega arith, tt)
spelled_space (d ∷ w) = digits_space (d ∷ w)

space_in : (a y : Text) → NoSpace (a ++ 32 ∷ y) → ⊥
space_in [] y h = h.0 refl
space_in (b ∷ a) y h = space_in a y h.1

-- what is before the last space, and what is after it
split_space : (a b x y : Text) → NoSpace x → NoSpace y → a ++ 32 ∷ x ≡ b ++ 32 ∷ y → (a ≡ b) × (x ≡ y)
split_space [] [] x y h k e = (refl, (let f = e in cc))
split_space [] (c ∷ b) x y h k e = absurd (space_in b y (subst NoSpace (let f = e in cc) h))
split_space (c ∷ a) [] x y h k e = absurd (space_in a x (subst NoSpace (let f = e in cc) k))
split_space (c ∷ a) (d ∷ b) x y h k e =
    let f : a ++ 32 ∷ x ≡ b ++ 32 ∷ y = (let g = e in cc) in
    let ih = split_space a b x y h k f in
    let c-d : c ≡ d = (let g = e in cc) in
    (ap (λ (l : Text). c ∷ l) ih.0 ∙ ap (λ (z : ℕ). z ∷ b) c-d, ih.1)

apart : (a b : ℕ) (x y : Text) → a ≢ b → a ∷ x ≡ b ∷ y → ⊥
apart a b x y ne e = ne (let f = e in cc)

digits_same : (u v : OutcomeWord) → map outcome_digit u ≡ map outcome_digit v → u ≡ v
digits_same [] [] e = refl
digits_same [] (d ∷ v) e = absurd (let f = e in cc)
digits_same (d ∷ u) [] e = absurd (let f = e in cc)
digits_same (Success ∷ u) (Success ∷ v) e = ap (λ (w : OutcomeWord). Success ∷ w) (digits_same u v (let f = e in cc))
digits_same (Failure ∷ u) (Failure ∷ v) e = ap (λ (w : OutcomeWord). Failure ∷ w) (digits_same u v (let f = e in cc))
digits_same (Success ∷ u) (Failure ∷ v) e = absurd (apart 48 49 _ _ (λ k. omega arith) e)
digits_same (Failure ∷ u) (Success ∷ v) e = absurd (apart 49 48 _ _ (λ k. omega arith) e)

-- a word is known by its print
pub spelled_same : (u v : OutcomeWord) → spelled u ≡ spelled v → u ≡ v
spelled_same [] [] e = refl
spelled_same [] (Success ∷ v) e = absurd (apart 46 48 _ _ (λ k. omega arith) e)
spelled_same [] (Failure ∷ v) e = absurd (apart 46 49 _ _ (λ k. omega arith) e)
spelled_same (Success ∷ u) [] e = absurd (apart 48 46 _ _ (λ k. omega arith) e)
spelled_same (Failure ∷ u) [] e = absurd (apart 49 46 _ _ (λ k. omega arith) e)
spelled_same (c ∷ u) (d ∷ v) e = digits_same (c ∷ u) (d ∷ v) e

-- texts that end with a line end alike before its newline
line_ends : (a b x y : Text) → a ++ line x ≡ b ++ line y → a ++ x ≡ b ++ y
line_ends a b x y e = append_cancel_right (a ++ x) (b ++ y) (10 ∷ []) (append_assoc a x (10 ∷ []) ∙ e ∙ sym (append_assoc b y (10 ∷ [])))

space_ends : (a b m x y : Text) → NoSpace x → NoSpace y → a ++ (m ++ 32 ∷ x) ≡ b ++ (m ++ 32 ∷ y) → (a ≡ b) × (x ≡ y)
space_ends a b m x y h k e =
    let parts = split_space (a ++ m) (b ++ m) x y h k (append_assoc a m (32 ∷ x) ∙ e ∙ sym (append_assoc b m (32 ∷ y))) in
    (append_cancel_right a b m parts.0, parts.1)

-- the closing line is known by the end of the text
done_or_more : (a b : Text) (w : OutcomeWord) → a ++ line (codes "done") ≡ b ++ line (codes "more " ++ spelled w) → ⊥
done_or_more a b w e =
    let left = last_byte-append a 100 (codes "one") in
    let middle = last_byte-append b 109 (codes "ore " ++ spelled w) in
    let right = last_byte-append (codes "more") 32 (spelled w) in
    let same = ap last_byte (line_ends a b (codes "done") (codes "more " ++ spelled w) e) in
    let small = spelled_end w in
    omega arith

same_more : (a b : Text) (u w : OutcomeWord) → a ++ line (codes "more " ++ spelled u) ≡ b ++ line (codes "more " ++ spelled w) → (a ≡ b) × (u ≡ w)
same_more a b u w e =
    let parts = space_ends a b (codes "more") (spelled u) (spelled w) (spelled_space u) (spelled_space w) (line_ends a b (codes "more " ++ spelled u) (codes "more " ++ spelled w) e) in
    (parts.0, spelled_same u w parts.1)

-- the same for a page that ends with `more`, however it is cut
pages_at : (b : Bool) (written : OutcomeWord → Text) (all front ws : List OutcomeWord) (limit : ℕ) (page : Text) (w : OutcomeWord) → nat_le (length ws) limit ≡ b → AreDistinct all → all ≡ front ++ ws → 0 < limit → flat_map written (take limit ws) ++ line (elim b [ true ↦ codes "done" | false ↦ codes "more " ++ spelled (last_of [] (take limit ws)) ]) ≡ page ++ line (codes "more " ++ spelled w) → page ++ listing written (after w all) None ≡ listing written ws None
pages_at true written all front ws limit page w t d e h k = absurd (done_or_more (flat_map written (take limit ws)) page w k)
pages_at false written all front ws limit page w t d e h k =
    let same = same_more (flat_map written (take limit ws)) page (last_of [] (take limit ws)) w k in
    let joined = pages_join written all front ws limit d e h (leb-false (length ws) limit t) in
    subst (λ (x : Text). x ++ listing written (after w all) None ≡ listing written ws None) same.0
    (subst (λ (v : OutcomeWord). flat_map written (take limit ws) ++ listing written (after v all) None ≡ listing written ws None) same.1 joined)

pub pages_text : (written : OutcomeWord → Text) (all front ws : List OutcomeWord) (limit : ℕ) (page : Text) (w : OutcomeWord) → AreDistinct all → all ≡ front ++ ws → 0 < limit → listing written ws (Some limit) ≡ page ++ line (codes "more " ++ spelled w) → page ++ listing written (after w all) None ≡ listing written ws None
pages_text written all front ws limit page w d e h k = pages_at (nat_le (length ws) limit) written all front ws limit page w refl d e h k

-- a listing ends with `more` exactly if words are left out
more_left : (b : Bool) (written : OutcomeWord → Text) (ws : List OutcomeWord) (limit : ℕ) → nat_le (length ws) limit ≡ b → (page : Text) (w : OutcomeWord) → flat_map written (take limit ws) ++ line (elim b [ true ↦ codes "done" | false ↦ codes "more " ++ spelled (last_of [] (take limit ws)) ]) ≡ page ++ line (codes "more " ++ spelled w) → limit < length ws
more_left true written ws limit t page w e = absurd (done_or_more (flat_map written (take limit ws)) page w e)
more_left false written ws limit t page w e = leb-false (length ws) limit t

has_more : (b : Bool) (written : OutcomeWord → Text) (ws : List OutcomeWord) (limit : ℕ) → nat_le (length ws) limit ≡ b → limit < length ws → (page : Text) × (w : OutcomeWord) × (flat_map written (take limit ws) ++ line (elim b [ true ↦ codes "done" | false ↦ codes "more " ++ spelled (last_of [] (take limit ws)) ]) ≡ page ++ line (codes "more " ++ spelled w))
has_more true written ws limit t l = absurd (let e = leb-true (length ws) limit t in omega arith)
has_more false written ws limit t l = (flat_map written (take limit ws), last_of [] (take limit ws), refl)

pub more_is_left : (task : Task) (names : List Text) (ws : List OutcomeWord) (limit : ℕ) → ((page : Text) × (w : OutcomeWord) × (listing (record_of task names) ws (Some limit) ≡ page ++ line (codes "more " ++ spelled w))) ↔ (limit < length ws)
more_is_left task names ws limit = (λ h. more_left (nat_le (length ws) limit) (record_of task names) ws limit refl h.0 h.1 h.2, λ l. has_more (nat_le (length ws) limit) (record_of task names) ws limit refl l)

-- the laws of pages
pub pages_of_runs : (task : Task) (names : List Text) (limit : ℕ) (page : Text) (w : OutcomeWord) → 0 < limit → listing (record_of task names) (runs task) (Some limit) ≡ page ++ line (codes "more " ++ spelled w) → page ++ listing (record_of task names) (rest task w) None ≡ listing (record_of task names) (runs task) None
pages_of_runs task names limit page w h e = pages_text (record_of task names) (runs task) [] (runs task) limit page w (task_distinct task) refl h e

pub pages_of_rest : (task : Task) (names : List Text) (u : OutcomeWord) (limit : ℕ) (page : Text) (w : OutcomeWord) → 0 < limit → listing (record_of task names) (rest task u) (Some limit) ≡ page ++ line (codes "more " ++ spelled w) → page ++ listing (record_of task names) (rest task w) None ≡ listing (record_of task names) (rest task u) None
pages_of_rest task names u limit page w h e = let f = after_ends u (runs task) in pages_text (record_of task names) (runs task) f.0 (rest task u) limit page w (task_distinct task) f.1 h e
