-- Where the table notes its entries.
use Rattle.std.proofs.Common.{ℕ, zero, suc, ◌+◌, ◌≤◌, ◌<◌, get_or, Bool, true, false, cond, List, [], ◌∷◌, ◌++◌, length, Option, Some, None, refl, sym, ap, subst, ◌∙◌, ◌≡◌, nat_eq, reverse, arith, inl, inr, take, drop, append-nil, max}
use Rattle.std.proofs.lemmas.Bool.{eqb-true, eq-eqb}
use Rattle.std.proofs.lemmas.List.{take_more, take_all, drop_all}
use Rattle.std.proofs.Math.Nat.{le-max_left, le-max_right}
use Rattle.std.proofs.Math.Seq.{drop-cons}
use Rattle.std.proofs.lemmas.List.Elements.{Contains-append_left, Contains-append_right, Contains-append_cases}
use Rattle.std.specs.Prelude.{MatchOption, Contains, ◌⊎◌}
use Rattle.std.specs.List.{slice_get}
use Rattle.bootstore_state.specs.Moment.{Moment}
use Rattle.rehearse_reads.specs.Keys.{Key}
use Rattle.rehearse_reports.specs.Known.{key_of, Holds, AllHold}
use Rattle.rehearse_states.specs.PlaceNumbers.{place_number}
use Rattle.std.specs.FinMap.{get}
use Rattle.text.specs.TextsShown.{bytes_of_words}
use Rattle.rehearse_terms.specs.State.{Text, answer_in}
use Rattle.rehearse_rules.specs.Needs.{has_succeeded}
use Rattle.rehearse_reports.specs.Known.{value_shown}
use Rattle.rehearse_reports.specs.declared.known.Known.TheVariants.{Environment, Local, AnswerTo, Succeeded, Status}
use Rattle.rehearse_states.specs.PlaceNumbers.{mixed, mixed_text, mixed_words}
use Rattle.rehearse_endings.specs.Numbers.{mixed_answer, mixed_flag, mixed_here, mixed_known, mixed_value}
use Rattle.rehearse_endings.specs.Indexed.{AllOf, AreNoted, BeginWith, Fits, FitsNot, HasMoreWays, IsNoted, IsNumberBehind, KnowsNext, LeadTo, Leads, NoneBy, NoneFits, NoneFrom, NoneOnTop, NotesOne, TakesOne, WayIsNoted, Places, known_after, known_in, noted, one_place, ways}
use Rattle.rehearse_reports.specs.declared.known.Known.{Known}
use Rattle.rehearse_endings.specs.declared.entry.Entry.{Entry}
use Rattle.rehearse_endings.specs.declared.entry.Future.{Future}
use Rattle.rehearse_endings.specs.declared.table.Table.{Table}

-- ---- lists

pub contains_at : (xs : List ℕ) (i d : ℕ) → i < length xs → Contains xs (get_or xs i d)
contains_at [] i d l = absurd (omega arith)
contains_at (x ∷ xs) zero d l = (0, l, refl)
contains_at (x ∷ xs) (suc i) d l =
    let further = contains_at xs i d (omega arith) in
    Contains-append_right (x ∷ []) xs (get_or xs i d) further

the_one : (x y : ℕ) → Contains (x ∷ []) y → x ≡ y
the_one x y (zero, l, e) = e
the_one x y (suc k, l, e) = absurd (omega arith)

-- of one more place
pub all_more : (IsSo : ℕ → Type 0) (xs : List ℕ) (i d : ℕ) → i < length xs → AllOf (take i xs) IsSo → IsSo (get_or xs i d) → AllOf (take (i + 1) xs) IsSo
all_more IsSo xs i d l before one place has = by (Contains-append_cases (take i xs) (get_or xs i d ∷ []) place (subst (λ (zs : List ℕ). Contains zs place) (take_more xs i d l) has))
  where
    by : Contains (take i xs) place ⊎ Contains (get_or xs i d ∷ []) place → IsSo place
    by (inl h) = before place h
    by (inr h) = subst IsSo (the_one (get_or xs i d) place h) one

pub all_in_all : (IsSo : ℕ → Type 0) (xs ys : List ℕ) (i : ℕ) → length xs ≤ i → xs ≡ ys → AllOf (take i xs) IsSo → AllOf ys IsSo
all_in_all IsSo xs ys i l same h = subst (λ (zs : List ℕ). AllOf zs IsSo) (take_all i xs l ∙ same) h

pub none_in_none : (IsSo : ℕ → Type 0) (xs : List ℕ) → xs ≡ [] → AllOf xs IsSo
none_in_none IsSo xs e place has = none (subst (λ (zs : List ℕ). Contains zs place) e has)
  where
    none : Contains [] place → IsSo place
    none (k, l, h) = absurd (omega arith)

got_in_front : {A : Type 0} (xs ys : List A) (i : ℕ) (x : A) → slice_get xs i ≡ Some x → slice_get (xs ++ ys) i ≡ Some x
got_in_front [] ys i x e = absurd (let f = e in cc)
got_in_front (y ∷ xs) ys zero x e = e
got_in_front (y ∷ xs) ys (suc i) x e = got_in_front xs ys i x e

-- ---- what entries know

known_in_front : (es fs : List Entry) (place at : ℕ) (k : Known) (o : Option Entry) → slice_get es place ≡ o → known_after o at ≡ Some k → known_in (es ++ fs) place at ≡ Some k
known_in_front es fs place at k None e h = absurd (let f = h in cc)
known_in_front es fs place at k (Some entry) e h = ap (λ (o : Option Entry). known_after o at) (got_in_front es fs place entry e) ∙ h

pub next_in_more : (es fs : List Entry) (place at : ℕ) (key : Key) → BeginWith es fs → KnowsNext es place at key → KnowsNext fs place at key
next_in_more es fs place at key begin h =
    (h.0, ap (λ (xs : List Entry). known_in xs place at) begin.1 ∙ known_in_front es begin.0 place at h.0 (slice_get es place) refl h.1, h.2)

pub leads_more : (places others : List ℕ) (es fs : List Entry) (at : ℕ) (key : Key) → ((place : ℕ) → Contains places place → Contains others place) → BeginWith es fs → Leads places es at key → Leads others fs at key
leads_more places others es fs at key more begin h = (h.0, more h.0 h.1, next_in_more es fs h.0 at key begin h.2)

-- ---- ways

all_one : (place : ℕ) → Contains (place ∷ []) place
all_one place = (0, omega arith, refl)

pub first_way : (o : Option ℕ) (place : ℕ) (xs : List ℕ) → o ≡ Some place → Contains (one_place o ++ xs) place
first_way o place xs e = subst (λ (x : Option ℕ). Contains (one_place x ++ xs) place) (sym e) (Contains-append_left (place ∷ []) xs place (all_one place))

pub further_way : (o : Option ℕ) (place : ℕ) (xs : List ℕ) → Contains xs place → Contains (one_place o ++ xs) place
further_way o place xs h = Contains-append_right (one_place o) xs place h

same_numbers : (m n : ℕ) → nat_eq m n ≡ true → m ≡ n
same_numbers m n e = eqb-true m n e

pub onward_grows : (number entry : ℕ) (old new : ℕ → Option ℕ) (forks : ℕ → List ℕ) → old number ≡ None → ((q : ℕ) → new q ≡ cond (nat_eq number q) (Some entry) (old q)) → HasMoreWays (λ n. one_place (old n) ++ forks n) (λ n. one_place (new n) ++ forks n)
onward_grows number entry old new forks none is n place h = by (nat_eq number n) refl
  where
    by : (b : Bool) → nat_eq number n ≡ b → Contains (one_place (new n) ++ forks n) place
    by true e =
        let nothing : old n ≡ None = ap old (sym (same_numbers number n e)) ∙ none in
        further_way (new n) place (forks n) (subst (λ (o : Option ℕ). Contains (one_place o ++ forks n) place) nothing h)
    by false e =
        let same : new n ≡ old n = is n ∙ ap (λ (b : Bool). cond b (Some entry) (old n)) e in
        subst (λ (o : Option ℕ). Contains (one_place o ++ forks n) place) (sym same) h

pub forks_grow : (o : Option ℕ) (xs ys more : List ℕ) (place : ℕ) → ys ≡ xs ++ more → Contains (one_place o ++ xs) place → Contains (one_place o ++ ys) place
forks_grow o xs ys more place e h = by (Contains-append_cases (one_place o) xs place h)
  where
    by : Contains (one_place o) place ⊎ Contains xs place → Contains (one_place o ++ ys) place
    by (inl k) = Contains-append_left (one_place o) ys place k
    by (inr k) = further_way o place ys (subst (λ (zs : List ℕ). Contains zs place) (sym e) (Contains-append_left xs more place k))

pub noted_one : (xs ys : List ℕ) (number place : ℕ) → ys ≡ xs ++ cond (nat_eq number number) (place ∷ []) [] → Contains ys place
noted_one xs ys number place e =
    let here : Contains (cond (nat_eq number number) (place ∷ []) []) place = subst (λ (b : Bool). Contains (cond b (place ∷ []) []) place) (sym (eq-eqb number number refl)) (all_one place) in
    subst (λ (zs : List ℕ). Contains zs place) (sym e) (Contains-append_right xs (cond (nat_eq number number) (place ∷ []) []) place here)

-- ---- numbers

-- the number with what a moment has at a key is that of whatever is known of the key and holds there
pub number_here : (number : ℕ) (m : Moment) (a b : Known) → key_of a ≡ key_of b → Holds m b → mixed_here m number a ≡ mixed_known number b
number_here number m (Environment x v) (Environment y w) e k =
    let names : x.items ≡ y.items = (let f = e in cc) in
    ap (λ (t : Text). mixed_value (mixed_text (mixed number 1) t) (get m.environment t)) names ∙ ap (mixed_value (mixed_text (mixed number 1) y.items)) k
number_here number m (Local x v) (Local y w) e k =
    let names : x.items ≡ y.items = (let f = e in cc) in
    ap (λ (t : Text). mixed_value (mixed_text (mixed number 2) t) (get m.locals t)) names ∙ ap (mixed_value (mixed_text (mixed number 2) y.items)) k
number_here number m (AnswerTo x v) (AnswerTo y w) e k =
    let calls : bytes_of_words x.items ≡ bytes_of_words y.items = (let f = e in cc) in
    ap (λ (t : List Text). mixed_answer (mixed_words (mixed number 3) t) (answer_in m.log t)) calls ∙ ap (mixed_answer (mixed_words (mixed number 3) (bytes_of_words y.items))) k
number_here number m (Succeeded x v) (Succeeded y w) e k =
    let starts : bytes_of_words x.items ≡ bytes_of_words y.items = (let f = e in cc) in
    ap (λ (t : List Text). mixed_flag (mixed_words (mixed number 4) t) (has_succeeded m.log t)) starts ∙ ap (mixed_flag (mixed_words (mixed number 4) (bytes_of_words y.items))) k
number_here number m (Status v) (Status w) e k = ap (mixed (mixed number 5)) k
number_here number m a b e k = absurd (let f = e in cc)

-- ---- looking up

pub nothing : {A : Type 0} (P : Type 0) (Q : A → Type 0) (o : Option A) → o ≡ None → MatchOption o P Q → P
nothing P Q None e h = h
nothing P Q (Some x) e h = absurd (let f = e in cc)

pub none_too : {A : Type 0} (P R : Type 0) (Q : A → Type 0) (o : Option A) → (P → R) → MatchOption o P Q → MatchOption o R Q
none_too P R Q None f h = f h
none_too P R Q (Some x) f h = h

pub first_alone : (o : Option ℕ) (place : ℕ) (IsSo : ℕ → Type 0) → o ≡ Some place → IsSo place → AllOf (one_place o) IsSo
first_alone o place IsSo is so other has = subst IsSo (the_one place other (subst (λ (x : Option ℕ). Contains (one_place x) other) is has)) so

pub no_first : (o : Option ℕ) (IsSo : ℕ → Type 0) → o ≡ None → AllOf (one_place o) IsSo
no_first o IsSo is = none_in_none IsSo (one_place o) (ap one_place is)

pub all_ways : (xs ys : List ℕ) (IsSo : ℕ → Type 0) → AllOf xs IsSo → AllOf ys IsSo → AllOf (xs ++ ys) IsSo
all_ways xs ys IsSo first further place has = by (Contains-append_cases xs ys place has)
  where
    by : Contains xs place ⊎ Contains ys place → IsSo place
    by (inl h) = first place h
    by (inr h) = further place h

-- the way on to a number
pub none_by : (step_bound device_bound : ℕ) (table : Table) (m : Moment) (number at place next : ℕ) (o : Option ℕ) → IsNumberBehind table.entries.items m number at place o → o ≡ Some next → NoneFrom step_bound device_bound table m next (at + 1) → NoneBy step_bound device_bound table m number at place
none_by step_bound device_bound table m number at place next o behind is none known knows holds =
    let same : next ≡ mixed_known number known = let e : Some next ≡ Some (mixed_known number known) = sym is ∙ behind known knows holds in cc in
    let after : at + 1 ≡ suc at = omega arith in
    subst (λ (n : ℕ). NoneFrom step_bound device_bound table m n (suc at)) same (subst (NoneFrom step_bound device_bound table m next) after none)

-- no way on
pub none_beyond : (step_bound device_bound : ℕ) (table : Table) (m : Moment) (number at place : ℕ) (o : Option ℕ) → IsNumberBehind table.entries.items m number at place o → o ≡ None → NoneBy step_bound device_bound table m number at place
none_beyond step_bound device_bound table m number at place o behind is known knows holds = absurd (let e : None ≡ Some (mixed_known number known) = sym is ∙ behind known knows holds in cc)

-- nothing fits from a number on, if nothing that is noted there fits, and nothing by any way on
pub none_from : (step_bound device_bound : ℕ) (table : Table) (m : Moment) (number at : ℕ) → AllOf (noted table.alike number) (FitsNot step_bound device_bound table.entries.items m) → (at < table.longest → AllOf (ways table number) (NoneBy step_bound device_bound table m number at)) → NoneFrom step_bound device_bound table m number at
none_from step_bound device_bound table m number at here on place e [] got short leads holds fits = here place leads e got fits
none_from step_bound device_bound table m number at here on place e (known ∷ rest) got short leads holds fits =
    let next = leads.0 in
    let within : at < table.longest = omega arith in
    on within next.0 next.1 known next.2 holds.0 place e rest got (omega arith) leads.1 holds.1 fits

-- nothing fits with so many frames on top, if nothing does from their number on
pub none_on_top : (step_bound device_bound : ℕ) (table : Table) (m : Moment) (many number : ℕ) (o : Option Future) → number ≡ place_number (take many m.frames)
    → MatchOption o (NoneFrom step_bound device_bound table m number 0) (TakesOne step_bound device_bound table.entries.items m) → MatchOption o (NoneOnTop step_bound device_bound table m many) (TakesOne step_bound device_bound table.entries.items m)
none_on_top step_bound device_bound table m many number None is none = λ within. subst (λ (n : ℕ). NoneFrom step_bound device_bound table m n 0) is none
none_on_top step_bound device_bound table m many number (Some f) is takes = takes

-- ---- noting

-- what is left of the way leads to the entry, if the rest does
abbrev pub WaySoFar : (old : List Entry) → Table → (place number at : ℕ) → (rest known : List Known) → (entry : ℕ) → Type 0
WaySoFar old table place number at rest known entry = (later : Table) (entries : List Entry) (e : Entry) → HasMoreWays (ways table) (ways later) → BeginWith old entries →
    slice_get entries entry ≡ Some e → e.known.items ≡ known → LeadTo later entries number at rest entry → LeadTo later entries place 0 known entry

pub way_begins : (old : List Entry) (table : Table) (place : ℕ) (known : List Known) (entry : ℕ) → WaySoFar old table place place 0 known known entry
way_begins old table place known entry later es e more begin got is leads = leads

got_there : {A : Type 0} (xs : List A) (i : ℕ) (d : A) → i < length xs → slice_get xs i ≡ Some (get_or xs i d)
got_there [] i d l = absurd (omega arith)
got_there (x ∷ xs) zero d l = refl
got_there (x ∷ xs) (suc i) d l = got_there xs i d (omega arith)

-- one more key leads on
pub way_next : (old : List Entry) (before after : Table) (place number at : ℕ) (known : List Known) (one : Known) (entry : ℕ) → at < length known → one ≡ get_or known at one
    → HasMoreWays (ways before) (ways after) → ((es : List Entry) → BeginWith old es → KnowsNext es entry at (key_of one) → Leads (ways after number) es at (key_of one))
    → WaySoFar old before place number at (drop at known) known entry → WaySoFar old after place (mixed_known number one) (suc at) (drop (suc at) known) known entry
way_next old before after place number at known one entry l is grows leads so_far later es e more begin got same rest =
    let here : slice_get known at ≡ Some one = got_there known at one l ∙ ap Some (sym is) in
    let knows : KnowsNext es entry at (key_of one) = (one, ap (λ (o : Option Entry). known_after o at) got ∙ ap (λ (ks : List Known). slice_get ks at) same ∙ here, refl) in
    let begins : BeginWith es es = ([], sym (append-nil es)) in
    let on : LeadTo later es number at (one ∷ drop (suc at) known) entry = (leads_more (ways after number) (ways later number) es es at (key_of one) (λ p h. more number p h) begins (leads es begin knows), rest) in
    let left : one ∷ drop (suc at) known ≡ drop at known = ap (λ (k : Known). k ∷ drop (suc at) known) is ∙ sym (drop-cons known at one l) in
    so_far later es e (λ n p h. more n p (grows n p h)) begin got same (subst (λ (ks : List Known). LeadTo later es number at ks entry) left on)

pub way_over : (old : List Entry) (table : Table) (place number at : ℕ) (known : List Known) (entry : ℕ) → length known ≤ at → WaySoFar old table place number at (drop at known) known entry → WayIsNoted old table number place known entry
way_over old table place number at known entry l so_far later es e more begin got is here =
    so_far later es e more begin got is (subst (λ (ks : List Known). LeadTo later es number at ks entry) (sym (drop_all at known l)) here)

-- what was noted still is
module _ (old new : Table) (more : HasMoreWays (ways old) (ways new)) (alike : (number place : ℕ) → Contains (noted old.alike number) place → Contains (noted new.alike number) place) (begin : BeginWith old.entries.items new.entries.items)
    (deeper : (depth : ℕ) → Contains old.depths.items depth → Contains new.depths.items depth) where
  leads_still : (number at : ℕ) (rest : List Known) (place : ℕ) → LeadTo old old.entries.items number at rest place → LeadTo new new.entries.items number at rest place
  leads_still number at [] place h = alike number place h
  leads_still number at (known ∷ rest) place h =
      (leads_more (ways old number) (ways new number) old.entries.items new.entries.items at (key_of known) (more number) begin h.0, leads_still (mixed_known number known) (suc at) rest place h.1)

  noted_still : old.longest ≤ new.longest → (place : ℕ) (e : Entry) → IsNoted old old.entries.items place e → IsNoted new new.entries.items place e
  noted_still longer place e h = record {
    deep = λ part. deeper (length e.frames.items) (h.deep part);
    short = let l = h.short in omega arith;
    leads = leads_still (place_number (reverse e.frames.items)) 0 e.known.items place h.leads;
  }

-- the same entries, noted in the same way
pub noted_same : (old new : Table) → HasMoreWays (ways old) (ways new) → ((number place : ℕ) → Contains (noted old.alike number) place → Contains (noted new.alike number) place) → new.entries.items ≡ old.entries.items → new.longest ≡ old.longest
    → ((depth : ℕ) → Contains old.depths.items depth → Contains new.depths.items depth) → AreNoted old → AreNoted new
noted_same old new more alike same longest deeper all place e got =
    let begin : BeginWith old.entries.items new.entries.items = ([], same ∙ sym (append-nil old.entries.items)) in
    let longer : old.longest ≤ new.longest = omega (arith, longest) in
    noted_still old new more alike begin deeper longer place e (all place e (ap (λ (es : List Entry). slice_get es place) (sym same) ∙ got))

got_more : {A : Type 0} (xs : List A) (x : A) (i : ℕ) (y : A) → slice_get (xs ++ x ∷ []) i ≡ Some y → (slice_get xs i ≡ Some y) ⊎ ((i ≡ length xs) × (y ≡ x))
got_more [] x zero y e = inr (refl, (let f = e in cc))
got_more [] x (suc i) y e = absurd (let f = e in cc)
got_more (z ∷ xs) x zero y e = inl e
got_more (z ∷ xs) x (suc i) y e = by (got_more xs x i y e)
  where
    by : (slice_get xs i ≡ Some y) ⊎ ((i ≡ length xs) × (y ≡ x)) → (slice_get xs i ≡ Some y) ⊎ ((suc i ≡ length (z ∷ xs)) × (y ≡ x))
    by (inl h) = inl h
    by (inr h) = inr (ap suc h.0, h.1)

got_last : {A : Type 0} (xs : List A) (x : A) → slice_get (xs ++ x ∷ []) (length xs) ≡ Some x
got_last [] x = refl
got_last (y ∷ xs) x = got_last xs x

-- one more entry is noted
pub all_noted : (old mid new : Table) (number place at : ℕ) (e : Entry) → AreNoted old → mid.entries.items ≡ old.entries.items
    → HasMoreWays (ways old) (ways mid) → WayIsNoted old.entries.items mid number place e.known.items at → ((n : ℕ) → ways new n ≡ ways mid n) → mid.alike ≡ old.alike → NotesOne mid.alike new.alike number at
    → mid.longest ≡ old.longest → new.longest ≡ max mid.longest (length e.known.items) → new.entries.items ≡ old.entries.items ++ e ∷ [] → at ≡ length old.entries.items → place ≡ place_number (reverse e.frames.items)
    → ((depth : ℕ) → Contains old.depths.items depth → Contains new.depths.items depth) → (e.whole ≡ false → Contains new.depths.items (length e.frames.items)) → AreNoted new
all_noted old mid new number place at e noted_old same more way kept alike notes longest longer entries here is deeper deep p other got = by (got_more old.entries.items e p other (ap (λ (es : List Entry). slice_get es p) (sym entries) ∙ got))
  where
    begin : BeginWith old.entries.items new.entries.items
    begin = (e ∷ [], entries)

    wider : HasMoreWays (ways old) (ways new)
    wider n q h = subst (λ (xs : List ℕ). Contains xs q) (sym (kept n)) (more n q h)

    old_alike : (n q : ℕ) → Contains (noted old.alike n) q → Contains (noted new.alike n) q
    old_alike n q h =
        subst (λ (xs : List ℕ). Contains xs q) (sym (notes n))
        (Contains-append_left (noted mid.alike n) (cond (nat_eq number n) (at ∷ []) []) q (subst (λ (t : Places). Contains (noted t n) q) (sym alike) h))

    at_end : Contains (noted new.alike number) at
    at_end = noted_one (noted mid.alike number) (noted new.alike number) number at (notes number)

    there : slice_get new.entries.items at ≡ Some e
    there = ap (λ (es : List Entry). slice_get es at) entries ∙ ap (slice_get (old.entries.items ++ e ∷ [])) here ∙ got_last old.entries.items e

    newest : IsNoted new new.entries.items at e
    newest = record {
      deep = deep;
      short = let l = longer in omega (arith, le-max_right mid.longest (length e.known.items));
      leads = subst (λ (n : ℕ). LeadTo new new.entries.items n 0 e.known.items at) is (way new new.entries.items e (λ n q h. subst (λ (xs : List ℕ). Contains xs q) (sym (kept n)) h) begin there refl at_end);
    }

    by : (slice_get old.entries.items p ≡ Some other) ⊎ ((p ≡ length old.entries.items) × (other ≡ e)) → IsNoted new new.entries.items p other
    by (inl h) = noted_still old new wider old_alike begin deeper (let a = longer in let b = longest in omega (arith, le-max_left mid.longest (length e.known.items))) p other (noted_old p other h)
    by (inr h) = subst (λ (n : ℕ). IsNoted new new.entries.items n other) (here ∙ sym h.0) (subst (IsNoted new new.entries.items at) (sym h.1) newest)
