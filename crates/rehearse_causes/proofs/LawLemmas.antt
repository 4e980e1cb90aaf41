-- Laws of the causes of a task.
use Rattle.std.proofs.Common.{Bool, true, false, cond, not, ◌&&◌, ◌||◌, List, [], ◌∷◌, ◌++◌, map, filter, refl, sym, ap, subst, ◌∙◌, ◌≡◌, inl, inr, ◌⊎◌}
use Rattle.std.specs.List.{list_any}
use Rattle.std.proofs.lemmas.List.{map-append}
use Rattle.rehearse_terms.specs.Outcomes.{OutcomeWord}
use Rattle.rehearse_rules.specs.Execution.{Ending}
use Rattle.rehearse_rules.specs.Runs.{Task, runs, rest, IsListed}
use Rattle.rehearse_rules.proofs.TaskChoices.{runs_are_runs, task_stands}
use Rattle.rehearse_states.specs.Endings.{ending, ending_eq}
use Rattle.rehearse_states.proofs.RowsOfRuns.{ending_same}
use Rattle.rehearse_causes.specs.Causes.{Cause, are_among, cause_on, causes, covers, needs_less, least, least_behind, calls}
use Rattle.rehearse_causes.specs.CauseLines.{is_booted, is_fine, reported}
use Rattle.rehearse_causes.specs.Laws.{StandsIn, CausesAreRuns, RunsHaveCauses, CausesStandAlone, ChecksAreRight}
use Rattle.rehearse_causes.proofs.CoveringLemmas.{both_left, covers_itself}
use Rattle.rehearse_causes.proofs.LeastLemmas.{beaten, covered, either, either_left, either_right, kept_covers, neither_left, neither_right}

-- ---- causes in lists

data IsIn (x : Cause) : List Cause → Type 0 where
  here : {y : Cause} {xs : List Cause} → x ≡ y → IsIn x (y ∷ xs)
  there : {y : Cause} {xs : List Cause} → IsIn x xs → IsIn x (y ∷ xs)

in_middle : (x : Cause) (before behind : List Cause) → IsIn x (before ++ x ∷ behind)
in_middle x [] behind = here refl
in_middle x (y ∷ before) behind = there (in_middle x before behind)

in_front : (x : Cause) (xs ys : List Cause) → IsIn x xs → IsIn x (xs ++ ys)
in_front x [] ys i = elim i [ ]
in_front x (y ∷ xs) ys (here e) = here e
in_front x (y ∷ xs) ys (there i) = there (in_front x xs ys i)

is_in : (x : Cause) (xs : List Cause) → StandsIn x xs → IsIn x xs
is_in x xs s = subst (IsIn x) (sym s.is) (in_middle x s.before s.behind)

stands_in : (x : Cause) (xs : List Cause) → IsIn x xs → StandsIn x xs
stands_in x [] i = elim i [ ]
stands_in x (y ∷ xs) (here e) = record { before = []; behind = xs; is = ap (λ (z : Cause). z ∷ xs) (sym e) }
stands_in x (y ∷ xs) (there i) =
    let s = stands_in x xs i in
    record { before = y ∷ s.before; behind = s.behind; is = ap (λ (ys : List Cause). y ∷ ys) s.is }

found : (q : Cause) (ks : List Cause) → covered q ks ≡ true → (d : Cause) × IsIn d ks × (covers d q ≡ true)
found q [] h = absurd (let f = h in cc)
found q (d ∷ ks) h =
    elim (either (covers d q) (covered q ks) h) [
      | inl first ↦ (d, here refl, first)
      | inr later ↦ (let f = found q ks later in (f.0, there f.1, f.2))
    ]

covered_by : (d q : Cause) (ks : List Cause) → IsIn d ks → covers d q ≡ true → covered q ks ≡ true
covered_by d q [] i h = elim i [ ]
covered_by d q (e ∷ ks) (here is) h = either_left (covers e q) (covered q ks) (subst (λ (x : Cause). covers x q ≡ true) is h)
covered_by d q (e ∷ ks) (there i) h = either_right (covers e q) (covered q ks) (covered_by d q ks i h)

covers_not : (d q : Cause) (ks : List Cause) → IsIn d ks → covered q ks ≡ false → covers d q ≡ false
covers_not d q [] i h = elim i [ ]
covers_not d q (e ∷ ks) (here is) h = subst (λ (x : Cause). covers x q ≡ false) (sym is) (neither_left (covers e q) (covered q ks) h)
covers_not d q (e ∷ ks) (there i) h = covers_not d q ks i (neither_right (covers e q) (covered q ks) h)

beats_not : (d q : Cause) (ks : List Cause) → IsIn d ks → beaten q ks ≡ false → needs_less d q ≡ false
beats_not d q [] i h = elim i [ ]
beats_not d q (e ∷ ks) (here is) h = subst (λ (x : Cause). needs_less x q ≡ false) (sym is) (neither_left (needs_less e q) (beaten q ks) h)
beats_not d q (e ∷ ks) (there i) h = beats_not d q ks i (neither_right (needs_less e q) (beaten q ks) h)

-- ---- what is kept

-- what is kept of a first one and of the others
abbrev kept_if : Bool → Cause → List Cause → List Cause
kept_if needless x kept = cond needless kept (x ∷ kept)

kept_in : (before cs : List Cause) (x : Cause) → IsIn x (least_behind before cs) → IsIn x cs
kept_in before [] x i = elim i [ ]
kept_in before (y ∷ cs) x i = by (covered y before || beaten y cs) refl (kept_in (before ++ y ∷ []) cs x)
  where
    first : (IsIn x (least_behind (before ++ y ∷ []) cs) → IsIn x cs) → IsIn x (y ∷ least_behind (before ++ y ∷ []) cs) → IsIn x (y ∷ cs)
    first on (here e) = here e
    first on (there j) = there (on j)

    by : (b : Bool) → (covered y before || beaten y cs) ≡ b → (IsIn x (least_behind (before ++ y ∷ []) cs) → IsIn x cs) → IsIn x (y ∷ cs)
    by true e on = there (on (subst (λ (b : Bool). IsIn x (kept_if b y (least_behind (before ++ y ∷ []) cs))) e i))
    by false e on = first on (subst (λ (b : Bool). IsIn x (kept_if b y (least_behind (before ++ y ∷ []) cs))) e i)

none_before : (before cs : List Cause) (c d : Cause) → IsIn c before → IsIn d (least_behind before cs) → covers c d ≡ false
none_before before [] c d in_before i = elim i [ ]
none_before before (y ∷ cs) c d in_before i =
    by (covered y before || beaten y cs) refl (none_before (before ++ y ∷ []) cs c d (in_front c before (y ∷ []) in_before))
  where
    first : (IsIn d (least_behind (before ++ y ∷ []) cs) → covers c d ≡ false) → covered y before ≡ false
        → IsIn d (y ∷ least_behind (before ++ y ∷ []) cs) → covers c d ≡ false
    first on h (here e) = subst (λ (x : Cause). covers c x ≡ false) (sym e) (covers_not c y before in_before h)
    first on h (there j) = on j

    by : (b : Bool) → (covered y before || beaten y cs) ≡ b → (IsIn d (least_behind (before ++ y ∷ []) cs) → covers c d ≡ false) → covers c d ≡ false
    by true e on = on (subst (λ (b : Bool). IsIn d (kept_if b y (least_behind (before ++ y ∷ []) cs))) e i)
    by false e on = first on (neither_left (covered y before) (beaten y cs) e) (subst (λ (b : Bool). IsIn d (kept_if b y (least_behind (before ++ y ∷ []) cs))) e i)

-- c is before d
data IsBefore (c d : Cause) : List Cause → Type 0 where
  now : {y : Cause} {xs : List Cause} → c ≡ y → IsIn d xs → IsBefore c d (y ∷ xs)
  later : {y : Cause} {xs : List Cause} → IsBefore c d xs → IsBefore c d (y ∷ xs)

is_before : (c d : Cause) (front between behind : List Cause) → IsBefore c d (front ++ c ∷ between ++ d ∷ behind)
is_before c d [] between behind = now refl (in_middle d between behind)
is_before c d (y ∷ front) between behind = later (is_before c d front between behind)

abbrev Apart : Cause → Cause → Type 0
Apart c d = (covers c d ≡ false) × (covers d c ≡ false)

not_less : (a b : Bool) → (a && not b) ≡ false → b ≡ false → a ≡ false
not_less true true h k = absurd (let f = k in cc)
not_less true false h k = absurd (let f = h in cc)
not_less false b h k = refl

apart : (before cs : List Cause) (c d : Cause) → IsBefore c d (least_behind before cs) → Apart c d
apart before [] c d i = elim i [ ]
apart before (y ∷ cs) c d i = by (covered y before || beaten y cs) refl (apart (before ++ y ∷ []) cs c d)
  where
    both : beaten y cs ≡ false → IsIn d (least_behind (before ++ y ∷ []) cs) → Apart y d
    both h j =
        let one = none_before (before ++ y ∷ []) cs y d (in_middle y before []) j in
        (one, not_less (covers d y) (covers y d) (beats_not d y cs (kept_in (before ++ y ∷ []) cs d j) h) one)

    first : (IsBefore c d (least_behind (before ++ y ∷ []) cs) → Apart c d) → beaten y cs ≡ false
        → IsBefore c d (y ∷ least_behind (before ++ y ∷ []) cs) → Apart c d
    first on h (now e j) = subst (λ (x : Cause). Apart x d) (sym e) (both h j)
    first on h (later j) = on j

    by : (b : Bool) → (covered y before || beaten y cs) ≡ b → (IsBefore c d (least_behind (before ++ y ∷ []) cs) → Apart c d) → Apart c d
    by true e on = on (subst (λ (b : Bool). IsBefore c d (kept_if b y (least_behind (before ++ y ∷ []) cs))) e i)
    by false e on = first on (neither_right (covered y before) (beaten y cs) e) (subst (λ (b : Bool). IsBefore c d (kept_if b y (least_behind (before ++ y ∷ []) cs))) e i)

-- ---- causes of runs

record Origin (task : Task) (c : Cause) (ws : List OutcomeWord) : Type 0 where
  word : OutcomeWord
  front : List OutcomeWord
  behind : List OutcomeWord
  stands : ws ≡ front ++ word ∷ behind
  is : c ≡ cause_on task word

of_run : (task : Task) (c : Cause) (ws : List OutcomeWord) → IsIn c (map (cause_on task) ws) → Origin task c ws
of_run task c [] i = elim i [ ]
of_run task c (w ∷ ws) (here e) = record { word = w; front = []; behind = ws; stands = refl; is = e }
of_run task c (w ∷ ws) (there i) =
    let o = of_run task c ws i in
    record { word = o.word; front = w ∷ o.front; behind = o.behind; stands = ap (λ (vs : List OutcomeWord). w ∷ vs) o.stands; is = o.is }

run_in : (task : Task) (w : OutcomeWord) → IsListed task w → IsIn (cause_on task w) (map (cause_on task) (runs task))
run_in task w listed =
    let s = task_stands task w listed in
    subst (λ (ws : List OutcomeWord). IsIn (cause_on task w) (map (cause_on task) ws)) (sym s.1)
    (subst (IsIn (cause_on task w)) (sym (map-append (cause_on task) s.0 (w ∷ rest task w))) (in_middle (cause_on task w) (map (cause_on task) s.0) (map (cause_on task) (rest task w))))

of_listed : (task : Task) (c : Cause) → IsIn c (causes task) → (w : OutcomeWord) × IsListed task w × (c ≡ cause_on task w)
of_listed task c i =
    let o = of_run task c (runs task) (kept_in [] (map (cause_on task) (runs task)) c i) in
    (o.word, runs_are_runs task o.word o.front o.behind o.stands, o.is)

pub causes_are_runs : CausesAreRuns
causes_are_runs task c s = of_listed task c (is_in c (causes task) s)

has_cause : (task : Task) (w : OutcomeWord) → IsListed task w → (c : Cause) × IsIn c (causes task) × (covers c (cause_on task w) ≡ true)
has_cause task w listed =
    let all = map (cause_on task) (runs task) in
    found (cause_on task w) (causes task) (kept_covers all (cause_on task w) (covered_by (cause_on task w) (cause_on task w) all (run_in task w listed) (covers_itself (cause_on task w))))

pub runs_have_causes : RunsHaveCauses
runs_have_causes task w listed = let c = has_cause task w listed in (c.0, stands_in c.0 (causes task) c.1, c.2)

pub causes_stand_alone : CausesStandAlone
causes_stand_alone task c d before between behind e =
    apart [] (map (cause_on task) (runs task)) c d (subst (IsBefore c d) (sym e) (is_before c d before between behind))

-- ---- checks

abbrev amiss : List Cause → List Cause
amiss cs = filter (λ c. not (is_booted c.ending)) cs

boots : (cs : List Cause) (c : Cause) → is_fine true (amiss cs) ≡ true → IsIn c cs → is_booted c.ending ≡ true
boots [] c h i = elim i [ ]
boots (y ∷ cs) c h i = by (is_booted y.ending) refl (boots cs c) i
  where
    still : (b : Bool) → is_booted y.ending ≡ b → is_fine true (cond (not b) (y ∷ amiss cs) (amiss cs)) ≡ true
    still b e = subst (λ (b : Bool). is_fine true (cond (not b) (y ∷ amiss cs) (amiss cs)) ≡ true) e h

    by : (b : Bool) → is_booted y.ending ≡ b → (is_fine true (amiss cs) ≡ true → IsIn c cs → is_booted c.ending ≡ true) → IsIn c (y ∷ cs)
        → is_booted c.ending ≡ true
    by true e on (here is) = subst (λ (x : Cause). is_booted x.ending ≡ true) (sym is) e
    by true e on (there j) = on (still true e) j
    by false e on j = absurd (let f = still false e in cc)

fails : (cs : List Cause) → is_fine true (amiss cs) ≡ false → (c : Cause) × IsIn c cs × (is_booted c.ending ≡ false)
fails [] h = absurd (let f = h in cc)
fails (y ∷ cs) h = by (is_booted y.ending) refl (fails cs)
  where
    by : (b : Bool) → is_booted y.ending ≡ b → (is_fine true (amiss cs) ≡ false → (c : Cause) × IsIn c cs × (is_booted c.ending ≡ false))
        → (c : Cause) × IsIn c (y ∷ cs) × (is_booted c.ending ≡ false)
    by true e on =
        let f = on (subst (λ (b : Bool). is_fine true (cond (not b) (y ∷ amiss cs) (amiss cs)) ≡ false) e h) in
        (f.0, there f.1, f.2)
    by false e on = (y, here refl, e)

pub checks_are_right : ChecksAreRight
checks_are_right task = (all_boot, one_fails)
  where
    all_boot : is_fine true (reported true (causes task)) ≡ true → (w : OutcomeWord) → IsListed task w → is_booted (ending task w) ≡ true
    all_boot h w listed =
        let c = has_cause task w listed in
        let same = ending_same c.0.ending (ending task w) (both_left (ending_eq c.0.ending (ending task w)) (are_among (calls c.0) (calls (cause_on task w))) c.2) in
        subst (λ (e : Ending). is_booted e ≡ true) same (boots (causes task) c.0 h c.1)

    one_fails : is_fine true (reported true (causes task)) ≡ false → (w : OutcomeWord) × IsListed task w × (is_booted (ending task w) ≡ false)
    one_fails h =
        let f = fails (causes task) h in
        let r = of_listed task f.0 f.1 in
        (r.0, r.1, subst (λ (c : Cause). is_booted c.ending ≡ false) r.2 f.2)
