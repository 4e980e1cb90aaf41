-- Reports of accesses one after another.
use Rattle.std.proofs.Common.{◌≡◌, ◌∙◌, refl, sym, ap, subst, ℕ, suc, ◌+◌, ◌<◌, ◌≤◌, List, [], ◌∷◌, ◌++◌, map, take, length, get_or, append_assoc, add-one, inl, inr}
use Rattle.std.specs.List.{flat_map}
use Rattle.std.proofs.Math.Seq.{take-suc}
use Rattle.std.proofs.lemmas.List.{map-append, take_all}
use Rattle.std.proofs.lemmas.List.Concat.{flat_map-cons}
use Rattle.rehearse_reads.specs.Keys.{Key, Access, Reads, Writes, IsAmong, AreAmong, all_read, keys_in_front, Covers}
use Rattle.rehearse_reads.proofs.KeysRead.{stretches_join, more_keys_in_front, all_of_more, all_itself, covering_joins}
use Rattle.rehearse_reports.specs.Reports.{Reports, Adds}
use Rattle.rehearse_reports.proofs.MemberLemmas.{all_by, behind_write}

pub covers_itself : (xs : List Access) → Covers xs xs
covers_itself xs later = all_itself (keys_in_front xs later)

pub covers_through : (xs ys zs : List Access) → Covers xs ys → Covers ys zs → Covers xs zs
covers_through xs ys zs h k later = all_of_more (keys_in_front zs later) (keys_in_front ys later) (keys_in_front xs later) (k later) (h later)

-- accesses that need nothing known are left out
pub covers_less : (xs ys : List Access) → Covers [] ys → Covers xs (xs ++ ys)
covers_less xs ys h later =
    subst (λ (keys : List Key). AreAmong keys (keys_in_front xs later)) (sym (stretches_join xs ys later)) (more_keys_in_front xs (keys_in_front ys later) later (h later))

-- a write needs nothing known
pub covers_written : (key : Key) (xs ys : List Access) → Covers xs ys → Covers xs (Writes key ∷ ys)
covers_written key xs ys h later = all_by (keys_in_front (Writes key ∷ ys) later) (keys_in_front xs later)
    (λ x g. among_all x (keys_in_front ys later) (keys_in_front xs later) (behind_write x key (keys_in_front ys later) g).0 (h later))
  where
    among_all : (x : Key) (keys more : List Key) → IsAmong x keys → AreAmong keys more → IsAmong x more
    among_all x [] more g all = absurd g
    among_all x (k ∷ keys) more (inl same) all = subst (λ (y : Key). IsAmong y more) (sym same) all.0
    among_all x (k ∷ keys) more (inr g) all = among_all x keys more g all.1

pub covers_write : (key : Key) (xs : List Access) → Covers [] xs → Covers [] (Writes key ∷ xs)
covers_write key xs h = covers_written key [] xs h

with_more : (key : Key) (some more : List Key) → AreAmong some more → AreAmong some (key ∷ more)
with_more key [] more g = tt
with_more key (k ∷ some) more g = (inr g.0, with_more key some more g.1)

-- a further read does no harm
pub reads_cover : (keys : List Key) (xs ys : List Access) → Covers xs ys → Covers (all_read keys ++ xs) ys
reads_cover [] xs ys h = h
reads_cover (key ∷ keys) xs ys h = λ later. with_more key (keys_in_front ys later) (keys_in_front (all_read keys ++ xs) later) (reads_cover keys xs ys h later)

pub nothing_after : (xs : List Access) → xs ++ [] ≡ xs
nothing_after [] = refl
nothing_after (x ∷ xs) = ap (λ (ys : List Access). x ∷ ys) (nothing_after xs)

pub reads_alone : (keys : List Key) → Covers (all_read keys) []
reads_alone keys = subst (λ (xs : List Access). Covers xs []) (nothing_after (all_read keys)) (reads_cover keys [] [] (covers_itself []))

-- ---- reports

pub reports_nothing : (old : List Access) → Reports old old []
reports_nothing old = covers_less old [] (covers_itself [])

pub reports_as : (old new xs ys : List Access) → Reports old new xs → Covers xs ys → Reports old new ys
reports_as old new xs ys h k = covers_through new (old ++ xs) (old ++ ys) h (covering_joins old ys old xs (covers_itself old) k)

pub reports_then : (old mid new xs ys : List Access) → Reports old mid xs → Reports mid new ys → Reports old new (xs ++ ys)
reports_then old mid new xs ys h k =
    subst (Covers new) (append_assoc old xs ys) (covers_through new (mid ++ ys) ((old ++ xs) ++ ys) k (covering_joins (old ++ xs) ys mid ys h (covers_itself ys)))

pub reports_added : (old new xs : List Access) → Adds old new xs → Reports old new xs
reports_added old new xs h = h.covers

-- ---- of the items of a list in turn

module _ {A : Type 0} (of : A → List Access) (xs : List A) (old : List Access) where
  flat_pushed : (ys : List A) (x : A) → flat_map of (ys ++ x ∷ []) ≡ flat_map of ys ++ of x
  flat_pushed [] x = flat_map-cons of x [] ∙ nothing_after (of x)
  flat_pushed (y ∷ ys) x = flat_map-cons of y (ys ++ x ∷ []) ∙ ap (λ (zs : List Access). of y ++ zs) (flat_pushed ys x) ∙ sym (append_assoc (of y) (flat_map of ys) (of x)) ∙ ap (λ (zs : List Access). zs ++ of x) (sym (flat_map-cons of y ys))

  pub reports_next : (i : ℕ) (x : A) (now new : List Access) → i < length xs → x ≡ get_or xs i x → Reports old now (flat_map of (take i xs)) → Reports now new (of x) → Reports old new (flat_map of (take (i + 1) xs))
  reports_next i x now new within is before this =
      let items : take (i + 1) xs ≡ take i xs ++ x ∷ [] = ap (λ (n : ℕ). take n xs) (add-one i) ∙ take-suc xs i x within ∙ ap (λ (y : A). take i xs ++ y ∷ []) (sym is) in
      subst (Reports old new) (sym (ap (flat_map of) items ∙ flat_pushed (take i xs) x)) (reports_then old now new (flat_map of (take i xs)) (of x) before this)

  pub reports_all : (i : ℕ) (now : List Access) → length xs ≤ i → Reports old now (flat_map of (take i xs)) → Reports old now (flat_map of xs)
  reports_all i now past h = subst (λ (ys : List A). Reports old now (flat_map of ys)) (take_all i xs past) h

-- what is read of each item
pub reads_in_turn : {A : Type 0} (f : A → List Key) (xs : List A) → flat_map (λ x. all_read (f x)) xs ≡ all_read (flat_map f xs)
reads_in_turn f [] = refl
reads_in_turn {A} f (x ∷ xs) =
    flat_map-cons (λ (y : A). all_read (f y)) x xs ∙ ap (λ (ys : List Access). all_read (f x) ++ ys) (reads_in_turn f xs) ∙ sym (map-append (λ (k : Key). Reads k) (f x) (flat_map f xs)) ∙ ap all_read (sym (flat_map-cons f x xs))
