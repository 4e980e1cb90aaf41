-- The whole records at the start of a listing.
use Rattle.std.proofs.Common.{ℕ, zero, suc, Bool, true, false, List, [], ◌∷◌, ◌++◌, map, length, take, drop, None, refl, sym, ap, subst, ◌∙◌, ◌≡◌, ◌≢◌, ◌⊎◌, inl, inr, ◌↔◌, ◌≤◌, append_assoc, arith, ◌+◌, flat_map, take-append-drop, nat_eq, codes, eq-eqb, drop_at, eqb-true}
use Rattle.std.proofs.lemmas.List.Concat.{flat_map-append}
use Rattle.std.specs.List.{starts_with}
use Rattle.std.proofs.lemmas.Bool.{and_parts, and_from, and_right}
use Rattle.rehearse_terms.specs.Outcomes.{OutcomeWord}
use Rattle.rehearse_terms.specs.State.{Text}
use Rattle.rehearse_rules.specs.Listing.{listing, line}
use Rattle.rehearse_rules.specs.Resuming.{whole, next_text}

-- a listing that broke off goes on from its whole records
pub resumes : (written : OutcomeWord → Text) (ws : List OutcomeWord) (p : Text) → let k = whole (map written ws) p in flat_map written (take k ws) ++ listing written (drop k ws) None ≡ listing written ws None
resumes written ws p =
    let k = whole (map written ws) p in
    let b = flat_map-append written (take k ws) (drop k ws) in
    let c = ap (flat_map written) (take-append-drop k ws) in
    let g : flat_map written (take k ws) ++ flat_map written (drop k ws) ≡ flat_map written ws = sym b ∙ c in
    sym (append_assoc (flat_map written (take k ws)) (flat_map written (drop k ws)) (line (codes "done"))) ∙ ap (λ (x : Text). x ++ line (codes "done")) g

begins_same : (r x : Text) → starts_with nat_eq (r ++ x) r ≡ true
begins_same [] x = refl
begins_same (b ∷ r) x = and_from (nat_eq b b) (starts_with nat_eq (r ++ x) r) (eq-eqb b b refl) (begins_same r x)

whole_one : (r : Text) (rs : List Text) (x : Text) → whole (r ∷ rs) (r ++ x) ≡ suc (whole rs x)
whole_one r rs x = let e = begins_same r x in let d = drop_at r x (length r) refl in rw (whole, e, d) refl

-- whole records are counted, and the rest is what is left after them
pub whole-records : (rs more : List Text) (q : Text) → whole (rs ++ more) (flat_map (λ r. r) rs ++ q) ≡ length rs + whole more q
whole-records [] more q = omega arith
whole-records (r ∷ rs) more q =
    let one = ap (whole (r ∷ rs ++ more)) (append_assoc r (flat_map (λ r. r) rs) q) in
    let two = whole_one r (rs ++ more) (flat_map (λ r. r) rs ++ q) in
    let ih = whole-records rs more q in
    one ∙ two ∙ (omega arith)

-- a text does not start with a longer one
too_short : (p r : Text) → r ≢ [] → starts_with nat_eq p (p ++ r) ≡ false
too_short [] [] ne = absurd (ne refl)
too_short [] (b ∷ r) ne = refl
too_short (b ∷ p) r ne = and_right (nat_eq b b) (starts_with nat_eq p (p ++ r)) (too_short p r ne)

whole_none : (p r : Text) (rs : List Text) → r ≢ [] → whole ((p ++ r) ∷ rs) p ≡ 0
whole_none p r rs ne = let e = too_short p r ne in rw (whole, e) refl

-- two cuts of the same text, by which of them comes first
pub overlap : (a b p q : Text) → a ++ b ≡ p ++ q → ((part : Text) × (p ≡ a ++ part) × (b ≡ part ++ q)) ⊎ ((missing : Text) × (a ≡ p ++ missing) × (missing ≢ []))
overlap [] b p q e = inl (p, refl, e)
overlap (x ∷ a) b [] q e = inr (x ∷ a, refl, λ k. cc)
overlap (x ∷ a) b (y ∷ p) q e =
    let f : a ++ b ≡ p ++ q = (let g = e in cc) in
    let h : x ≡ y = (let g = e in cc) in
    elim (overlap a b p q f) [
      | inl i ↦ inl (i.0, ap (λ (z : ℕ). z ∷ p) (sym h) ∙ ap (λ (t : Text). x ∷ t) i.1, i.2)
      | inr i ↦ inr (i.0, ap (λ (t : Text). x ∷ t) i.1 ∙ ap (λ (z : ℕ). z ∷ p ++ i.0) h, i.2)
    ]

-- p is k records and an open part of what follows
abbrev pub IsSplit : (OutcomeWord → Text) → List OutcomeWord → Text → Text → ℕ → Type 0
IsSplit written us last p k = (part : Text) × (missing : Text) × (p ≡ flat_map written (take k us) ++ part) × (next_text written (drop k us) last ≡ part ++ missing) × (drop k us ≢ [] → missing ≢ [])

split_here : (written : OutcomeWord → Text) (u : OutcomeWord) (us : List OutcomeWord) (last p missing : Text) → written u ≡ p ++ missing → missing ≢ [] → IsSplit written (u ∷ us) last p (whole (map written (u ∷ us)) p)
split_here written u us last p missing e ne =
    let none : whole (map written (u ∷ us)) p ≡ 0 = ap (λ (r : Text). whole (r ∷ map written us) p) e ∙ whole_none p missing (map written us) ne in
    subst (IsSplit written (u ∷ us) last p) (sym none) (p, missing, refl, e, λ some. ne)

split_after : (written : OutcomeWord → Text) (u : OutcomeWord) (us : List OutcomeWord) (last p part : Text) → p ≡ written u ++ part → IsSplit written us last part (whole (map written us) part) → IsSplit written (u ∷ us) last p (whole (map written (u ∷ us)) p)
split_after written u us last p part e h =
    let k = whole (map written us) part in
    let one : whole (map written (u ∷ us)) p ≡ suc k = ap (whole (map written (u ∷ us))) e ∙ whole_one (written u) (map written us) part in
    let text : p ≡ flat_map written (take (suc k) (u ∷ us)) ++ h.0 = e ∙ ap (λ (t : Text). written u ++ t) h.2 ∙ sym (append_assoc (written u) (flat_map written (take k us)) h.0) in
    subst (IsSplit written (u ∷ us) last p) (sym one) (h.0, h.1, text, h.3, h.4)

-- a prefix of a listing is its whole records and an open part
pub split_whole : (written : OutcomeWord → Text) (us : List OutcomeWord) (last p q : Text) → flat_map written us ++ last ≡ p ++ q → IsSplit written us last p (whole (map written us) p)
split_whole written [] last p q e = (p, q, refl, e, λ some. absurd (some refl))
split_whole written (u ∷ us) last p q e =
    let f : written u ++ (flat_map written us ++ last) ≡ p ++ q = sym (append_assoc (written u) (flat_map written us) last) ∙ e in
    elim (overlap (written u) (flat_map written us ++ last) p q f) [
      | inl h ↦ split_after written u us last p h.0 h.1 (split_whole written us last h.0 q h.2)
      | inr h ↦ split_here written u us last p h.0 h.1 h.2
    ]

-- `whole` is the greatest number of records with which the text starts
greater : (records : List Text) (p : Text) (k : ℕ) → k ≤ length records → (part : Text) × (p ≡ flat_map (λ r. r) (take k records) ++ part) → k ≤ whole records p
greater records p zero l h = omega arith
greater [] p (suc k) l h = absurd (omega arith)
greater (r ∷ records) p (suc k) l h =
    let rest : Text = flat_map (λ r. r) (take k records) ++ h.0 in
    let e : p ≡ r ++ rest = h.1 ∙ append_assoc r (flat_map (λ r. r) (take k records)) h.0 in
    let one : whole (r ∷ records) p ≡ suc (whole records rest) = ap (whole (r ∷ records)) e ∙ whole_one r records rest in
    let ih = greater records rest k (omega arith) (h.0, refl) in
    omega arith

begins_as : (p r : Text) → starts_with nat_eq p r ≡ true → p ≡ r ++ drop (length r) p
begins_as p [] e = refl
begins_as [] (b ∷ r) e = absurd (let f = e in cc)
begins_as (c ∷ p) (b ∷ r) e = let h = and_parts (nat_eq b c) (starts_with nat_eq p r) e in ap (λ (t : Text). c ∷ t) (begins_as p r h.1) ∙ ap (λ (z : ℕ). z ∷ r ++ drop (length r) p) (sym (eqb-true b c h.0))

smaller_at : (b : Bool) (r : Text) (records : List Text) (p : Text) (k : ℕ) → starts_with nat_eq p r ≡ b → suc k ≤ elim b [ true ↦ suc (whole records (drop (length r) p)) | false ↦ 0 ] → ((q : Text) → k ≤ whole records q → (part : Text) × (q ≡ flat_map (λ r. r) (take k records) ++ part)) → (part : Text) × (p ≡ (r ++ flat_map (λ r. r) (take k records)) ++ part)
smaller_at true r records p k e l ih =
    let h = ih (drop (length r) p) (omega arith) in
    (h.0, begins_as p r e ∙ ap (λ (t : Text). r ++ t) h.1 ∙ sym (append_assoc r (flat_map (λ r. r) (take k records)) h.0))
smaller_at false r records p k e l ih = absurd (omega arith)

smaller : (records : List Text) (p : Text) (k : ℕ) → k ≤ whole records p → (part : Text) × (p ≡ flat_map (λ r. r) (take k records) ++ part)
smaller records p zero l = (p, refl)
smaller [] p (suc k) l = absurd (omega arith)
smaller (r ∷ records) p (suc k) l = smaller_at (starts_with nat_eq p r) r records p k refl l (λ q m. smaller records q k m)

pub whole_is_greatest : (records : List Text) (p : Text) (k : ℕ) → k ≤ length records → ((part : Text) × (p ≡ flat_map (λ r. r) (take k records) ++ part)) ↔ (k ≤ whole records p)
whole_is_greatest records p k l = (λ h. greater records p k l h, λ h. smaller records p k h)
