-- How texts are put on a page, one after another.
use Rattle.std.proofs.Common.{◌≡◌, ℕ, suc, ◌+◌, ◌<◌, List, [], ◌++◌, length, get_or, take, drop, sym, ap, subst, ◌∙◌, append_assoc, add-one, Result, Ok, Err}
use Rattle.std.specs.List.{flat_map}
use Rattle.std.proofs.lemmas.List.{append-nil}
use Rattle.output.specs.Sink.{Sink, Wrote, BrokeOff, Prints}
use Rattle.output.proofs.SinkLemmas.{Wrote-none, Wrote-append, BrokeOff-after, BrokeOff-before, flat_map-at, flat_map-upto}
use Rattle.output.specs.Paging.{Put, Puts}

pub Put-none : (s : Sink) (p : List ℕ) → Put s s p p []
Put-none s p = record { front = []; whole = append-nil p; wrote = Wrote-none s }

-- one text after another
pub Put-append : {a b c : Sink} {p q r xs ys : List ℕ} → Put a b p q xs → Put b c q r ys → Put a c p r (xs ++ ys)
Put-append {a} {b} {c} {p} {q} {r} {xs} {ys} m n = record {
  front = m.front ++ n.front;
  whole = sym (append_assoc p xs ys) ∙ (ap (λ h. h ++ ys) m.whole ∙ (append_assoc m.front q ys ∙ (ap (λ h. m.front ++ h) n.whole ∙ sym (append_assoc m.front n.front r))));
  wrote = Wrote-append m.wrote n.wrote;
}

-- a text that was put, and one that broke off
pub Breaks-after : {a b c : Sink} {p q xs : List ℕ} (ys : List ℕ) → Put a b p q xs → BrokeOff b c (q ++ ys) → BrokeOff a c (p ++ (xs ++ ys))
Breaks-after {a} {b} {c} {p} {q} {xs} ys m n =
    let P : List ℕ → Type 0 = λ t. BrokeOff a c t in
    subst P (sym (append_assoc m.front q ys) ∙ (ap (λ h. h ++ ys) (sym m.whole) ∙ append_assoc p xs ys)) (BrokeOff-after m.wrote n)

-- a text that broke off, and what would have followed it
pub Breaks-before : {a b : Sink} (p xs ys : List ℕ) → BrokeOff a b (p ++ xs) → BrokeOff a b (p ++ (xs ++ ys))
Breaks-before {a} {b} p xs ys m =
    let P : List ℕ → Type 0 = λ t. BrokeOff a b t in
    subst P (append_assoc p xs ys) (BrokeOff-before ys m)

-- all that was put was on the page, and was then written
pub Put-written : {a b c : Sink} {p q xs : List ℕ} → Put a b p q xs → Wrote b c q → Wrote a c (p ++ xs)
Put-written {a} {b} {c} {p} {q} {xs} m n =
    let P : List ℕ → Type 0 = λ t. Wrote a c t in
    subst P (sym m.whole) (Wrote-append m.wrote n)

-- and that broke off
pub Put-broken : {a b c : Sink} {p q xs : List ℕ} → Put a b p q xs → BrokeOff b c q → BrokeOff a c (p ++ xs)
Put-broken {a} {b} {c} {p} {q} {xs} m n =
    let P : List ℕ → Type 0 = λ t. BrokeOff a c t in
    subst P (sym m.whole) (BrokeOff-after m.wrote n)

-- the page was written, and then the text
pub Puts-written : {T E : Type 0} {a b : Sink} {p : List ℕ} (c : Sink) (xs : List ℕ) (result : Result T E) → Wrote a b p → Prints result b c xs → Puts result a c p [] xs
Puts-written {p = p} c xs (Ok v) m n = record { front = p ++ xs; whole = sym (append-nil (p ++ xs)); wrote = Wrote-append m n }
Puts-written c xs (Err e) m n = BrokeOff-after m n

-- the page was written, and a text was put on the empty page
pub Puts-anew : {T E : Type 0} {a b : Sink} {p q : List ℕ} (c : Sink) (r xs : List ℕ) (result : Result T E) → q ≡ [] → Wrote a b p → Puts result b c q r xs → Puts result a c p r xs
Puts-anew {b = b} {p} {q} c r xs (Ok v) e m n =
    let P : List ℕ → Type 0 = λ t. Put b c t r xs in
    let n' : P [] = subst P e n in
    record { front = p ++ n'.front; whole = ap (λ t. p ++ t) n'.whole ∙ sym (append_assoc p n'.front r); wrote = Wrote-append m n'.wrote }
Puts-anew {b = b} {p} {q} c r xs (Err f) e m n =
    let P : List ℕ → Type 0 = λ t. BrokeOff b c (t ++ xs) in
    let n' : P [] = subst P e n in
    BrokeOff-after m n'

-- one text after another, by the last call
pub Puts-after : {T E : Type 0} {a b : Sink} {p q xs : List ℕ} (c : Sink) (r ys : List ℕ) (result : Result T E) → Put a b p q xs → Puts result b c q r ys → Puts result a c p r (xs ++ ys)
Puts-after c r ys (Ok v) m n = Put-append m n
Puts-after c r ys (Err e) m n = Breaks-after ys m n

-- the same text
pub Puts-as : {T E : Type 0} (a c : Sink) (p r xs ys : List ℕ) (result : Result T E) → xs ≡ ys → Puts result a c p r xs → Puts result a c p r ys
Puts-as a c p r xs ys result e n =
    let P : List ℕ → Type 0 = λ t. Puts result a c p r t in
    subst P e n

pub Put-as : {a c : Sink} {p r xs : List ℕ} (ys : List ℕ) → xs ≡ ys → Put a c p r xs → Put a c p r ys
Put-as {a} {c} {p} {r} ys e n = let P : List ℕ → Type 0 = λ t. Put a c p r t in subst P e n

pub Breaks-as : (a c : Sink) (p xs ys : List ℕ) → xs ≡ ys → BrokeOff a c (p ++ xs) → BrokeOff a c (p ++ ys)
Breaks-as a c p xs ys e n = let P : List ℕ → Type 0 = λ t. BrokeOff a c (p ++ t) in subst P e n

-- an empty page that got a text was written
pub Prints-flushed : {T E : Type 0} {a b : Sink} {p q xs : List ℕ} (c : Sink) (result : Result T E) → p ≡ [] → Put a b p q xs → Prints result b c q → Prints result a c xs
Prints-flushed {a = a} {xs = xs} c (Ok v) e m n = let P : List ℕ → Type 0 = λ t. Wrote a c (t ++ xs) in subst P e (Put-written m n)
Prints-flushed {a = a} {xs = xs} c (Err f) e m n = let P : List ℕ → Type 0 = λ t. BrokeOff a c (t ++ xs) in subst P e (Put-broken m n)

-- an empty page got a text that broke off
pub Breaks-empty : (a b : Sink) (p xs : List ℕ) → p ≡ [] → BrokeOff a b (p ++ xs) → BrokeOff a b xs
Breaks-empty a b p xs e m = let P : List ℕ → Type 0 = λ t. BrokeOff a b (t ++ xs) in subst P e m

module _ {X : Type 0} (f : X → List ℕ) where
  -- one more item's text was put
  pub Put-item : {a b c : Sink} {p q r : List ℕ} (xs : List X) (i : ℕ) (d : X) → i < length xs → Put a b p q (flat_map f (take i xs)) → Put b c q r (f (get_or xs i d)) → Put a c p r (flat_map f (take (i + 1) xs))
  Put-item {a} {b} {c} {p} {q} {r} xs i d h m n =
      let P : List ℕ → Type 0 = λ t. Put a c p r t in
      rw add-one (subst P (sym (flat_map-upto f xs i d h)) (Put-append m n))

  -- one more item's text broke off
  pub Breaks-item : {a b c : Sink} {p q : List ℕ} (xs : List X) (i : ℕ) (d : X) → i < length xs → Put a b p q (flat_map f (take i xs)) → BrokeOff b c (q ++ f (get_or xs i d)) → BrokeOff a c (p ++ flat_map f xs)
  Breaks-item {a} {b} {c} {p} {q} xs i d h m n =
      let P : List ℕ → Type 0 = λ t. BrokeOff a c (p ++ t) in
      let rest = flat_map f (drop (suc i) xs) in
      subst P (sym (flat_map-at f xs i d h)) (Breaks-after (f (get_or xs i d) ++ rest) m (Breaks-before q (f (get_or xs i d)) rest n))

  -- the same, if the item is known by another name
  pub Put-found : {a b : Sink} {p q : List ℕ} (c : Sink) (r : List ℕ) (xs : List X) (i : ℕ) (x : X) → x ≡ get_or xs i x → i < length xs → Put a b p q (flat_map f (take i xs)) → Put b c q r (f x) → Put a c p r (flat_map f (take (i + 1) xs))
  Put-found {a} {b} {p} {q} c r xs i x e h m n =
      let P : X → Type 0 = λ y. Put b c q r (f y) in
      let n' : P (get_or xs i x) = subst P e n in
      Put-item xs i x h m n'

  pub Breaks-found : {a b : Sink} {p q : List ℕ} (c : Sink) (xs : List X) (i : ℕ) (x : X) → x ≡ get_or xs i x → i < length xs → Put a b p q (flat_map f (take i xs)) → BrokeOff b c (q ++ f x) → BrokeOff a c (p ++ flat_map f xs)
  Breaks-found {a} {b} {p} {q} c xs i x e h m n =
      let P : X → Type 0 = λ y. BrokeOff b c (q ++ f y) in
      let n' : P (get_or xs i x) = subst P e n in
      Breaks-item xs i x h m n'
