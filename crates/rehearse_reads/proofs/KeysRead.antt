-- The keys that are read before they are written are what has to be known, also of one stretch after another.
use Rattle.std.proofs.Common.{◌≡◌, ◌∙◌, refl, sym, ap, subst, Bool, true, false, not, ◌&&◌, cond, List, [], ◌∷◌, ◌++◌, filter, inl, inr}
use Rattle.std.specs.Str.{bytes_eq}
use Rattle.std.proofs.lemmas.Bool.{and_parts}
use Rattle.std.proofs.lemmas.Slice.Eq.{bytes_eq-Decides}
use Rattle.rehearse_terms.specs.State.{Text, same_words}
use Rattle.rehearse_reads.specs.Keys.{Key, Environment, Local, AnswerTo, Succeeded, Status, Access, Reads, Writes, IsAmong, AreAmong, all_read, ReadsWithin, same_key, keys_in_front, keys_read}
use Rattle.rehearse_reads.specs.Laws.{KeysReadSuffice, StretchesJoin, MoreKeysInFront, CoveringJoins, FurtherReadsCover}

-- words that are found equal are equal
equal_words : (v w : List Text) → same_words v w ≡ true → v ≡ w
equal_words [] [] e = refl
equal_words [] (x ∷ xs) e = absurd (cc)
equal_words (x ∷ xs) [] e = absurd (cc)
equal_words (x ∷ xs) (y ∷ ys) e =
    let parts = and_parts (bytes_eq x y) (same_words xs ys) e in
    let first : x ≡ y = (bytes_eq-Decides x y).0 parts.0 in
    let rest : xs ≡ ys = equal_words xs ys parts.1 in
    cc

equal_keys : (a b : Key) → same_key a b ≡ true → a ≡ b
equal_keys (Environment a) (Environment b) e = ap Environment ((bytes_eq-Decides a b).0 e)
equal_keys (Environment a) (Local b) e = absurd (cc)
equal_keys (Environment a) (AnswerTo b) e = absurd (cc)
equal_keys (Environment a) (Succeeded b) e = absurd (cc)
equal_keys (Environment a) Status e = absurd (cc)
equal_keys (Local a) (Environment b) e = absurd (cc)
equal_keys (Local a) (Local b) e = ap Local ((bytes_eq-Decides a b).0 e)
equal_keys (Local a) (AnswerTo b) e = absurd (cc)
equal_keys (Local a) (Succeeded b) e = absurd (cc)
equal_keys (Local a) Status e = absurd (cc)
equal_keys (AnswerTo a) (Environment b) e = absurd (cc)
equal_keys (AnswerTo a) (Local b) e = absurd (cc)
equal_keys (AnswerTo a) (AnswerTo b) e = ap AnswerTo (equal_words a b e)
equal_keys (AnswerTo a) (Succeeded b) e = absurd (cc)
equal_keys (AnswerTo a) Status e = absurd (cc)
equal_keys (Succeeded a) (Environment b) e = absurd (cc)
equal_keys (Succeeded a) (Local b) e = absurd (cc)
equal_keys (Succeeded a) (AnswerTo b) e = absurd (cc)
equal_keys (Succeeded a) (Succeeded b) e = ap Succeeded (equal_words a b e)
equal_keys (Succeeded a) Status e = absurd (cc)
equal_keys Status (Environment b) e = absurd (cc)
equal_keys Status (Local b) e = absurd (cc)
equal_keys Status (AnswerTo b) e = absurd (cc)
equal_keys Status (Succeeded b) e = absurd (cc)
equal_keys Status Status e = refl

-- keys without one of them
with_written : (key : Key) (keys known : List Key) → AreAmong (filter (λ other. not (same_key other key)) keys) known → AreAmong keys (key ∷ known)
with_written key [] known h = tt
with_written key (k ∷ keys) known h = by (same_key k key) refl h (with_written key keys known)
  where
    by : (b : Bool) → same_key k key ≡ b → AreAmong (cond (not b) (k ∷ filter (λ other. not (same_key other key)) keys) (filter (λ other. not (same_key other key)) keys)) known
        → (AreAmong (filter (λ other. not (same_key other key)) keys) known → AreAmong keys (key ∷ known)) → AreAmong (k ∷ keys) (key ∷ known)
    by true e g rest = (inl (equal_keys k key e), rest g)
    by false e g rest = (inr g.0, rest g.1)

pub reads_within : (known : List Key) (accesses : List Access) → AreAmong (keys_read accesses) known → ReadsWithin known accesses
reads_within known [] h = tt
reads_within known (Reads key ∷ accesses) h = (h.0, reads_within known accesses h.1)
reads_within known (Writes key ∷ accesses) h = reads_within (key ∷ known) accesses (with_written key (keys_read accesses) known h)

-- ---- and each of them has to be

same_words_itself : (ws : List Text) → same_words ws ws ≡ true
same_words_itself [] = refl
same_words_itself (w ∷ ws) = ap (λ (b : Bool). b && same_words ws ws) ((bytes_eq-Decides w w).1 refl) ∙ same_words_itself ws

same_itself : (key : Key) → same_key key key ≡ true
same_itself (Environment name) = (bytes_eq-Decides name name).1 refl
same_itself (Local name) = (bytes_eq-Decides name name).1 refl
same_itself (AnswerTo call) = same_words_itself call
same_itself (Succeeded start) = same_words_itself start
same_itself Status = refl

not_other : (k key : Key) → same_key k key ≡ false → k ≡ key → ⊥
not_other k key e same =
    let f : same_key k key ≡ true = ap (λ (other : Key). same_key other key) same ∙ same_itself key in
    let g : true ≡ false = sym f ∙ e in
    cc

known_before : (k key : Key) (known : List Key) → same_key k key ≡ false → IsAmong k (key ∷ known) → IsAmong k known
known_before k key known e (inl same) = absurd (not_other k key e same)
known_before k key known e (inr h) = h

without_written : (key : Key) (keys known : List Key) → AreAmong keys (key ∷ known) → AreAmong (filter (λ other. not (same_key other key)) keys) known
without_written key [] known h = tt
without_written key (k ∷ keys) known h = by (same_key k key) refl (without_written key keys known h.1)
  where
    by : (b : Bool) → same_key k key ≡ b → AreAmong (filter (λ other. not (same_key other key)) keys) known
        → AreAmong (cond (not b) (k ∷ filter (λ other. not (same_key other key)) keys) (filter (λ other. not (same_key other key)) keys)) known
    by true e rest = rest
    by false e rest = (known_before k key known e h.0, rest)

within_reads : (known : List Key) (accesses : List Access) → ReadsWithin known accesses → AreAmong (keys_read accesses) known
within_reads known [] h = tt
within_reads known (Reads key ∷ accesses) h = (h.0, within_reads known accesses h.1)
within_reads known (Writes key ∷ accesses) h = without_written key (keys_read accesses) known (within_reads (key ∷ known) accesses h)

pub keys_read_suffice : KeysReadSuffice
keys_read_suffice accesses known = (within_reads known accesses, reads_within known accesses)

-- ---- stretches

pub stretches_join : StretchesJoin
stretches_join [] behind later = refl
stretches_join (Reads key ∷ front) behind later = ap (λ (keys : List Key). key ∷ keys) (stretches_join front behind later)
stretches_join (Writes key ∷ front) behind later = ap (λ (keys : List Key). filter (λ other. not (same_key other key)) keys) (stretches_join front behind later)

kept_among : (p : Key → Bool) (k : Key) (keys : List Key) → p k ≡ true → IsAmong k keys → IsAmong k (filter p keys)
kept_among p k [] e h = h
kept_among p k (key ∷ keys) e (inl same) = by (p key) (ap p (sym same) ∙ e)
  where
    by : (b : Bool) → b ≡ true → IsAmong k (cond b (key ∷ filter p keys) (filter p keys))
    by true f = inl same
    by false f = absurd (cc)
kept_among p k (key ∷ keys) e (inr h) = by (p key) (kept_among p k keys e h)
  where
    by : (b : Bool) → IsAmong k (filter p keys) → IsAmong k (cond b (key ∷ filter p keys) (filter p keys))
    by true rest = inr rest
    by false rest = rest

filter_among : (p : Key → Bool) (keys more : List Key) → AreAmong keys more → AreAmong (filter p keys) (filter p more)
filter_among p [] more h = tt
filter_among p (key ∷ keys) more h = by (p key) refl (filter_among p keys more h.1)
  where
    by : (b : Bool) → p key ≡ b → AreAmong (filter p keys) (filter p more) → AreAmong (cond b (key ∷ filter p keys) (filter p keys)) (filter p more)
    by true e rest = (kept_among p key more e h.0, rest)
    by false e rest = rest

with_more : (keys more : List Key) (key : Key) → AreAmong keys more → AreAmong keys (key ∷ more)
with_more [] more key h = tt
with_more (k ∷ keys) more key h = (inr h.0, with_more keys more key h.1)

pub more_keys_in_front : MoreKeysInFront
more_keys_in_front [] later more h = h
more_keys_in_front (Reads key ∷ front) later more h = (inl refl, with_more (keys_in_front front later) (keys_in_front front more) key (more_keys_in_front front later more h))
more_keys_in_front (Writes key ∷ front) later more h = filter_among (λ other. not (same_key other key)) (keys_in_front front later) (keys_in_front front more) (more_keys_in_front front later more h)

-- ---- keys among others

among_left : (key : Key) (keys more : List Key) → IsAmong key keys → IsAmong key (keys ++ more)
among_left key [] more h = absurd h
among_left key (k ∷ keys) more (inl same) = inl same
among_left key (k ∷ keys) more (inr h) = inr (among_left key keys more h)

among_right : (key : Key) (keys more : List Key) → IsAmong key more → IsAmong key (keys ++ more)
among_right key [] more h = h
among_right key (k ∷ keys) more h = inr (among_right key keys more h)

pub all_left : (some keys more : List Key) → AreAmong some keys → AreAmong some (keys ++ more)
all_left [] keys more h = tt
all_left (key ∷ some) keys more h = (among_left key keys more h.0, all_left some keys more h.1)

pub all_right : (some keys more : List Key) → AreAmong some more → AreAmong some (keys ++ more)
all_right [] keys more h = tt
all_right (key ∷ some) keys more h = (among_right key keys more h.0, all_right some keys more h.1)

one_of_more : (key : Key) (keys more : List Key) → IsAmong key keys → AreAmong keys more → IsAmong key more
one_of_more key [] more h all = absurd h
one_of_more key (k ∷ keys) more (inl same) all = subst (λ (x : Key). IsAmong x more) (sym same) all.0
one_of_more key (k ∷ keys) more (inr h) all = one_of_more key keys more h all.1

pub all_of_more : (some keys more : List Key) → AreAmong some keys → AreAmong keys more → AreAmong some more
all_of_more [] keys more h all = tt
all_of_more (key ∷ some) keys more h all = (one_of_more key keys more h.0 all, all_of_more some keys more h.1 all)

pub all_itself : (keys : List Key) → AreAmong keys keys
all_itself [] = tt
all_itself (key ∷ keys) = (inl refl, with_more keys keys key (all_itself keys))

-- ---- accesses in the place of others

pub covering_joins : CoveringJoins
covering_joins front behind one other h k later =
    subst (λ (keys : List Key). AreAmong keys (keys_in_front (one ++ other) later)) (sym (stretches_join front behind later))
    (subst (λ (keys : List Key). AreAmong (keys_in_front front (keys_in_front behind later)) keys) (sym (stretches_join one other later))
    (all_of_more (keys_in_front front (keys_in_front behind later)) (keys_in_front one (keys_in_front behind later)) (keys_in_front one (keys_in_front other later))
    (h (keys_in_front behind later)) (more_keys_in_front one (keys_in_front behind later) (keys_in_front other later) (k later))))

pub further_reads_cover : FurtherReadsCover
further_reads_cover accesses [] later = all_itself (keys_in_front accesses later)
further_reads_cover accesses (key ∷ keys) later = with_more (keys_in_front accesses later) (keys_in_front (all_read keys ++ accesses) later) key (further_reads_cover accesses keys later)
