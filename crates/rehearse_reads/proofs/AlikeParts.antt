-- Parts of scripts go alike from states that agree on what they read: one after another, and by choices.
use Rattle.std.proofs.Common.{◌≡◌, refl, sym, ap, subst, ℕ, ◌+◌, ◌≤◌, Bool, true, false, List, [], ◌∷◌, ◌++◌, length, inl, inr, length-append, arith, nat_le, nat_eq}
use Rattle.hushlang.specs.Expansion.{size, most_bytes}
use Rattle.rehearse_terms.specs.State.{Text, State, LoggedCommand}
use Rattle.rehearse_rules.specs.Execution.{Limits, Answer, Normal, Exit, Ended, Dry, Ending, Size, go_on, text_end, text_failed, sized}
use Rattle.rehearse_rules.specs.Runs.{state_of}
use Rattle.rehearse_rules.proofs.TakenOutcomes.{Track-of, KeepsAll, Keeps-if, Keeps-stays, Keeps-failed}
use Rattle.rehearse_reads.specs.Keys.{Key, Status, Access, Reads, all_read, ReadsWithin, known_after}
use Rattle.rehearse_reads.specs.Accesses.{behind, behind_text, sized_accesses}
use Rattle.rehearse_reads.specs.Alike.{devices_of, HaveFurther, AreAbreast, IsBeyond, IsAlike, same, cut_here, beyond}
use Rattle.rehearse_reads.proofs.AbreastLemmas.{near_failed}
use Rattle.rehearse_reads.proofs.AccessLemmas.{within_first, within_then, after_both, after_read}

-- no answer needs less room for device commands than its log
log_within : (a : Answer) → length (state_of a).log ≤ devices_of a
log_within (Normal s) = omega arith
log_within (Exit s) = omega arith
log_within (Ended ending s) = omega arith
log_within (Dry s) = omega arith

-- logs that go on alike differ by as much as the logs with which they started
pub further_apart : (k l here there : List LoggedCommand) → HaveFurther k l here there → length k + length there ≡ length l + length here
further_apart k l here there h =
    let a = ap length h.goes_on_here in
    let b = ap length h.goes_on_there in
    let c = length-append k h.further in
    let d = length-append l h.further in
    omega arith

module _ (limits : Limits) (i j : ℕ) (k l : List LoggedCommand) where
  abbrev Is : List Key → Answer → Answer → Type 0
  Is known a b = IsAlike limits i j k l known a b

  abbrev Near : List Key → State → State → Type 0
  Near known s t = AreAbreast limits i j k l known s t

  -- what holds of a part of a script, and of what it accesses, at two states
  abbrev Does : List Key → State → State → (State → Answer) → (State → List Access) → Type 0
  Does known s t f u = Near known s t → ReadsWithin known (u s) → Is (known_after known (u s)) (f s) (f t)

  abbrev AlwaysDoes : (State → Answer) → (State → List Access) → Type 0
  AlwaysDoes f u = (known : List Key) (s t : State) → Does known s t f u

  pub normal_alike : (known : List Key) (s t : State) → Near known s t → Is known (Normal s) (Normal t)
  normal_alike known s t near = same (record { there = t; is = refl; abreast = near })

  pub exit_alike : (known : List Key) (s t : State) → Near known s t → Is known (Exit s) (Exit t)
  exit_alike known s t near = same (record { there = t; is = refl; abreast = near })

  pub ended_alike : (known : List Key) (ending : Ending) (s t : State) → Near known s t → Is known (Ended ending s) (Ended ending t)
  ended_alike known ending s t near = same (record { there = t; is = refl; abreast = near })

  pub dry_alike : (known : List Key) (s t : State) → Near known s t → Is known (Dry s) (Dry t)
  dry_alike known s t near = same (record { there = t; is = refl; abreast = near })

  -- ---- what was beyond a bound stays beyond it

  beyond_later : (a b : Answer) → (state_of a).steps ≤ (state_of b).steps → devices_of a ≤ length (state_of b).log → IsBeyond limits i j k l a → IsBeyond limits i j k l b
  beyond_later a b e f (inl h) = let g = h.1 in inl (h.0, omega arith)
  beyond_later a b e f (inr h) = let g = h.1 in inr (h.0, let w = log_within b in omega arith)

  pub normal_later : (u : State) (g : State → Answer) → KeepsAll limits g → IsBeyond limits i j k l (Normal u) → IsBeyond limits i j k l (g u)
  normal_later u g kept h =
      let to = Track-of limits.device_bound u (g u) (kept u).0 in
      beyond_later (Normal u) (g u) to.steps (let e = to.log in omega arith) h

  pub if_later : (u : State) (status : ℕ) (g last : State → Answer) → KeepsAll limits g → KeepsAll limits last → IsBeyond limits i j k l (Normal u) → IsBeyond limits i j k l (elim (nat_eq status 0) [ true ↦ g u | false ↦ last u ])
  if_later u status g last kept stays h =
      let f : State → Answer = λ t. elim (nat_eq status 0) [ true ↦ g t | false ↦ last t ] in
      let keeps = Keeps-if limits.device_bound u (nat_eq status 0) g last (kept u) (stays u) in
      let to = Track-of limits.device_bound u (f u) keeps.0 in
      beyond_later (Normal u) (f u) to.steps (let e = to.log in omega arith) h

  -- ---- one part after another

  pub go_on_alike : (known : List Key) (a b : Answer) (g : State → Answer) (v : State → List Access) → AlwaysDoes g v → KeepsAll limits g → ReadsWithin known (behind a v) → Is known a b → Is (known_after known (behind a v)) (go_on a g) (go_on b g)
  go_on_alike known (Normal u) b g v does kept w (same h) = subst (λ (x : Answer). Is (known_after known (v u)) (g u) (go_on x g)) (sym h.is) (does known u h.there h.abreast w)
  go_on_alike known (Normal u) b g v does kept w (cut_here h) = absurd h
  go_on_alike known (Normal u) b g v does kept w (beyond h) = beyond (normal_later u g kept h)
  go_on_alike known (Exit u) b g v does kept w (same h) = subst (λ (x : Answer). Is known (Exit u) (go_on x g)) (sym h.is) (exit_alike known u h.there h.abreast)
  go_on_alike known (Exit u) b g v does kept w (cut_here h) = absurd h
  go_on_alike known (Exit u) b g v does kept w (beyond h) = beyond h
  go_on_alike known (Ended ending u) b g v does kept w (same h) = subst (λ (x : Answer). Is known (Ended ending u) (go_on x g)) (sym h.is) (ended_alike known ending u h.there h.abreast)
  go_on_alike known (Ended ending u) b g v does kept w (cut_here h) = cut_here h
  go_on_alike known (Ended ending u) b g v does kept w (beyond h) = beyond h
  go_on_alike known (Dry u) b g v does kept w (same h) = subst (λ (x : Answer). Is known (Dry u) (go_on x g)) (sym h.is) (dry_alike known u h.there h.abreast)
  go_on_alike known (Dry u) b g v does kept w (cut_here h) = absurd h
  go_on_alike known (Dry u) b g v does kept w (beyond h) = beyond h

  -- what is known after accesses, and then after others
  pub after_then : (known : List Key) (xs ys : List Access) (a b : Answer) → Is (known_after (known_after known xs) ys) a b → Is (known_after known (xs ++ ys)) a b
  after_then known xs ys a b h = subst (λ (ks : List Key). Is ks a b) (sym (after_both known xs ys)) h

  pub after_keys : (known keys : List Key) (ys : List Access) (a b : Answer) → Is (known_after known ys) a b → Is (known_after known (all_read keys ++ ys)) a b
  after_keys known keys ys a b h = subst (λ (ks : List Key). Is ks a b) (sym (after_read known keys ys)) h

  pub Alike-go_on : (known : List Key) (s t : State) (f g : State → Answer) (u v : State → List Access) → Does known s t f u → AlwaysDoes g v → KeepsAll limits g → Does known s t (λ x. go_on (f x) g) (λ x. u x ++ behind (f x) v)
  Alike-go_on known s t f g u v h does kept near w =
      after_then known (u s) (behind (f s) v) (go_on (f s) g) (go_on (f t) g)
      (go_on_alike (known_after known (u s)) (f s) (f t) g v does kept (within_then known (u s) (behind (f s) v) w) (h near (within_first known (u s) (behind (f s) v) w)))

  -- ---- choices

  pub if_alike : (known : List Key) (b c : Bool) → c ≡ b → (x y : Answer) (p q : Answer) (xs ys : List Access) → (ReadsWithin known xs → Is (known_after known xs) x p) → (ReadsWithin known ys → Is (known_after known ys) y q)
      → ReadsWithin known (elim b [ true ↦ xs | false ↦ ys ]) → Is (known_after known (elim b [ true ↦ xs | false ↦ ys ])) (elim b [ true ↦ x | false ↦ y ]) (elim c [ true ↦ p | false ↦ q ])
  if_alike known true true e x y p q xs ys h g w = h w
  if_alike known true false e x y p q xs ys h g w = absurd (cc)
  if_alike known false true e x y p q xs ys h g w = absurd (cc)
  if_alike known false false e x y p q xs ys h g w = g w

  -- ---- parts of scripts

  -- a text has ended by itself in these states
  ended_text : (known : List Key) (u t : State) (g : State → Answer) (v : State → List Access) → AlwaysDoes g v → Near known u t
      → ReadsWithin known (Reads Status ∷ elim (nat_eq u.memory.status 0) [ true ↦ v u | false ↦ [] ])
      → Is (known_after known (elim (nat_eq u.memory.status 0) [ true ↦ v u | false ↦ [] ])) (elim (nat_eq u.memory.status 0) [ true ↦ g u | false ↦ Normal (text_failed limits.shell u) ]) (elim (nat_eq t.memory.status 0) [ true ↦ g t | false ↦ Normal (text_failed limits.shell t) ])
  ended_text known u t g v does near w =
      if_alike known (nat_eq u.memory.status 0) (nat_eq t.memory.status 0) (ap (λ (n : ℕ). nat_eq n 0) (near.keys Status w.0)) (g u) (Normal (text_failed limits.shell u)) (g t) (Normal (text_failed limits.shell t)) (v u) [] (does known u t near) (λ h. normal_alike known (text_failed limits.shell u) (text_failed limits.shell t) (near_failed limits i j k l known u t limits.shell (near.keys Status w.0) near)) w.1

  -- a text has been left in these states
  left_text : (known : List Key) (u t : State) (g : State → Answer) (v : State → List Access) → AlwaysDoes g v → Near known u t
      → ReadsWithin known (Reads Status ∷ elim (nat_eq u.memory.status 0) [ true ↦ v u | false ↦ [] ])
      → Is (known_after known (elim (nat_eq u.memory.status 0) [ true ↦ v u | false ↦ [] ])) (elim (nat_eq u.memory.status 0) [ true ↦ g u | false ↦ Normal u ]) (elim (nat_eq t.memory.status 0) [ true ↦ g t | false ↦ Normal t ])
  left_text known u t g v does near w =
      if_alike known (nat_eq u.memory.status 0) (nat_eq t.memory.status 0) (ap (λ (n : ℕ). nat_eq n 0) (near.keys Status w.0)) (g u) (Normal u) (g t) (Normal t) (v u) [] (does known u t near) (λ h. normal_alike known u t near) w.1

  pub text_end_alike : (known : List Key) (a b : Answer) (g : State → Answer) (v : State → List Access) → AlwaysDoes g v → KeepsAll limits g → ReadsWithin known (behind_text a v) → Is known a b → Is (known_after known (behind_text a v)) (text_end limits.shell a g) (text_end limits.shell b g)
  text_end_alike known (Normal u) b g v does kept w (same h) = subst (λ (x : Answer). Is (known_after known (behind_text (Normal u) v)) (text_end limits.shell (Normal u) g) (text_end limits.shell x g)) (sym h.is) (ended_text known u h.there g v does h.abreast w)
  text_end_alike known (Normal u) b g v does kept w (cut_here h) = absurd h
  text_end_alike known (Normal u) b g v does kept w (beyond h) = beyond (if_later u u.memory.status g (λ t. Normal (text_failed limits.shell t)) kept (Keeps-failed limits.device_bound limits.shell) h)
  text_end_alike known (Exit u) b g v does kept w (same h) = subst (λ (x : Answer). Is (known_after known (behind_text (Exit u) v)) (text_end limits.shell (Exit u) g) (text_end limits.shell x g)) (sym h.is) (left_text known u h.there g v does h.abreast w)
  text_end_alike known (Exit u) b g v does kept w (cut_here h) = absurd h
  text_end_alike known (Exit u) b g v does kept w (beyond h) = beyond (if_later u u.memory.status g Normal kept (Keeps-stays limits.device_bound) h)
  text_end_alike known (Ended ending u) b g v does kept w (same h) = subst (λ (x : Answer). Is known (Ended ending u) (text_end limits.shell x g)) (sym h.is) (ended_alike known ending u h.there h.abreast)
  text_end_alike known (Ended ending u) b g v does kept w (cut_here h) = cut_here h
  text_end_alike known (Ended ending u) b g v does kept w (beyond h) = beyond h
  text_end_alike known (Dry u) b g v does kept w (same h) = subst (λ (x : Answer). Is known (Dry u) (text_end limits.shell x g)) (sym h.is) (dry_alike known u h.there h.abreast)
  text_end_alike known (Dry u) b g v does kept w (cut_here h) = absurd h
  text_end_alike known (Dry u) b g v does kept w (beyond h) = beyond h

  pub Alike-text_end : (known : List Key) (s t : State) (f g : State → Answer) (u v : State → List Access) → Does known s t f u → AlwaysDoes g v → KeepsAll limits g → Does known s t (λ x. text_end limits.shell (f x) g) (λ x. u x ++ behind_text (f x) v)
  Alike-text_end known s t f g u v h does kept near w =
      after_then known (u s) (behind_text (f s) v) (text_end limits.shell (f s) g) (text_end limits.shell (f t) g)
      (text_end_alike (known_after known (u s)) (f s) (f t) g v does kept (within_then known (u s) (behind_text (f s) v) w) (h near (within_first known (u s) (behind_text (f s) v) w)))

  -- fields that are equal
  pub sized_alike : (known : List Key) (s t : State) (fs gs : List Text) (f : List Text → State → Answer) (u : List Text → State → List Access) → gs ≡ fs → Does known s t (f fs) (u fs) → Near known s t → ReadsWithin known (sized_accesses fs u s) → Is (known_after known (sized_accesses fs u s)) (sized fs f s) (sized gs f t)
  sized_alike known s t fs gs f u e h near w =
      subst (λ (x : List Text). Is (known_after known (sized_accesses fs u s)) (sized fs f s) (sized x f t)) (sym e)
      (if_alike known (nat_le (size fs) most_bytes) (nat_le (size fs) most_bytes) refl (f fs s) (Ended Size s) (f fs t) (Ended Size t) (u fs s) [] (h near) (λ x. ended_alike known Size s t near) w)

  -- a part that takes the status as a number, after which the status is read
  pub Alike-read : (f : ℕ → State → Answer) (u : State → List Access) → ((n : ℕ) → AlwaysDoes (f n) u) → AlwaysDoes (λ s. f s.memory.status s) (λ s. Reads Status ∷ u s)
  Alike-read f u does known s t near w =
      subst (λ (n : ℕ). Is (known_after known (u s)) (f s.memory.status s) (f n t)) (sym (near.keys Status w.0)) (does s.memory.status known s t near w.1)
