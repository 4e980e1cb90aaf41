-- How what a check writes follows one another.
use Rattle.std.proofs.Common.{◌≡◌, ℕ, ◌+◌, ◌<◌, ◌≤◌, List, [], ◌++◌, length, take, drop, get_or, min, refl, sym, ap, subst, ◌∙◌, suc, append_assoc, Result, Ok, Err}
use Rattle.std.proofs.lemmas.List.{take_all}
use Rattle.std.proofs.lemmas.List.Folds.{flat_map-map}
use Rattle.std.specs.List.{flat_map}
use Rattle.output.specs.Sink.{BrokeOff, Sink, Wrote}
use Rattle.output.specs.Outputs.{WroteFront}
use Rattle.output.proofs.SinkLemmas.{BrokeOff-after, BrokeOff-before, Wrote-append, Wrote-item, Wrote-none, flat_map-at}
use Rattle.hushcheck.specs.Calls.{found_lines, remark_lines, remark_text}
use Rattle.hushcheck.specs.Places.{lines_at}
use Rattle.hushcheck.specs.Remarks.{all_found, found_at, remark}
use Rattle.hushcheck.specs.Telling.{Stops, Writes}
use Rattle.hushcheck.specs.declared.remark.Found.{Found}
use Rattle.hushcheck.proofs.PlaceLemmas.{lines_within}
use Rattle.hushcheck.specs.declared.check_error.CheckError.{CheckError}
use Rattle.hushcheck.specs.declared.check_error.CheckError.TheVariants.{Memory, Write}

-- memory ran out before anything was written
pub front-nothing : (s : Sink) (text : List ℕ) → WroteFront s s text
front-nothing s text = record { front = []; rest = text; whole = refl; wrote = Wrote-none s }

-- a text was written, and what would have followed it was not
pub front-written : (a b : Sink) (text rest : List ℕ) → Wrote a b text → WroteFront a b (text ++ rest)
front-written a b text rest w = record { front = text; rest = rest; whole = refl; wrote = w }

-- a text, and then another one as far as it came
pub stops-after : (a b c : Sink) (xs ys : List ℕ) (error : CheckError) → Wrote a b xs → Stops error b c ys → Stops error a c (xs ++ ys)
stops-after a b c xs ys Write w h = BrokeOff-after w h
stops-after a b c xs ys Memory w h = record { front = xs ++ h.front; rest = h.rest; whole = ap (λ t. xs ++ t) h.whole ∙ sym (append_assoc xs h.front h.rest); wrote = Wrote-append w h.wrote }

-- what would have followed a text that did not end
pub stops-before : (a b : Sink) (xs ys : List ℕ) (error : CheckError) → Stops error a b xs → Stops error a b (xs ++ ys)
stops-before a b xs ys Write h = BrokeOff-before ys h
stops-before a b xs ys Memory h = record { front = h.front; rest = h.rest ++ ys; whole = ap (λ t. t ++ ys) h.whole ∙ append_assoc h.front h.rest ys; wrote = h.wrote }

pub stops-as : (a b : Sink) (xs ys : List ℕ) (error : CheckError) → xs ≡ ys → Stops error a b xs → Stops error a b ys
stops-as a b xs ys Write e h = let P : List ℕ → Type 0 = λ t. BrokeOff a b t in subst P e h
stops-as a b xs ys Memory e h = let P : List ℕ → Type 0 = λ t. WroteFront a b t in subst P e h

pub wrote-as : (a b : Sink) (xs ys : List ℕ) → xs ≡ ys → Wrote a b xs → Wrote a b ys
wrote-as a b xs ys e h = let P : List ℕ → Type 0 = λ t. Wrote a b t in subst P e h

module _ {X : Type 0} (f : X → List ℕ) (xs : List X) where
  -- the items before one were written, and of this one what came
  pub stops-item : (a b c : Sink) (i : ℕ) (x : X) (error : CheckError) → i < length xs → x ≡ get_or xs i x → Wrote a b (flat_map f (take i xs))
      → Stops error b c (f x) → Stops error a c (flat_map f xs)
  stops-item a b c i x error within is w h =
      let behind = flat_map f (drop (suc i) xs) in
      let whole : flat_map f (take i xs) ++ (f x ++ behind) ≡ flat_map f xs = ap (λ y. flat_map f (take i xs) ++ (f y ++ behind)) is ∙ sym (flat_map-at f xs i x within) in
      stops-as a c _ _ error whole (stops-after a b c (flat_map f (take i xs)) (f x ++ behind) error w (stops-before b c (f x) behind error h))

  pub wrote-item : (a b c : Sink) (i : ℕ) (x : X) → i < length xs → x ≡ get_or xs i x → Wrote a b (flat_map f (take i xs)) → Wrote b c (f x) → Wrote a c (flat_map f (take (i + 1) xs))
  wrote-item a b c i x within is w h = Wrote-item f xs i x within w (wrote-as b c (f x) (f (get_or xs i x)) (ap f is) h)

  pub wrote-all : (a b : Sink) (i : ℕ) → length xs ≤ i → Wrote a b (flat_map f (take i xs)) → Wrote a b (flat_map f xs)
  wrote-all a b i past w = wrote-as a b (flat_map f (take i xs)) (flat_map f xs) (ap (flat_map f) (take_all i xs past)) w

-- ---- what was found in a text

module _ (name text : List ℕ) (found : List Found) where
  abbrev pub word_lines : Found → List ℕ
  word_lines w = remark_lines name text (found_at w)

  whole : flat_map word_lines found ≡ found_lines name text (all_found found)
  whole = sym (flat_map-map (remark_lines name text) found_at found)

  -- the bytes that are written of a word
  pub word_is : (cleared told bytes : List ℕ) (w : Found) (at : ℕ) → cleared ≡ [] → told ≡ cleared ++ remark_lines name text (at, remark w.remark) → at ≡ min w.at (length text) → bytes ≡ told
      → bytes ≡ word_lines w
  word_is cleared told bytes w at none pushed is deref =
      deref ∙ pushed ∙ ap (λ t. t ++ remark_lines name text (at, remark w.remark)) none
      ∙ ap (λ i. lines_at name text i (remark_text (remark w.remark))) is ∙ lines_within name text w.at (remark_text (remark w.remark))

  pub word_broke : (a b c : Sink) (i : ℕ) (w : Found) (error : CheckError) → i < length found → w ≡ get_or found i w → Wrote a b (flat_map word_lines (take i found))
      → Stops error b c (word_lines w) → Stops error a c (found_lines name text (all_found found))
  word_broke a b c i w error within is before h =
      stops-as a c _ _ error whole (stops-item word_lines found a b c i w error within is before h)

  pub words_wrote : (a b : Sink) (i : ℕ) → length found ≤ i → Wrote a b (flat_map word_lines (take i found)) → Wrote a b (found_lines name text (all_found found))
  words_wrote a b i past w = wrote-as a b _ _ whole (wrote-all word_lines found a b i past w)

-- a text, and then another one
pub then_so : (result : Result (Unit {0}) CheckError) (a b c : Sink) (xs ys : List ℕ) → Wrote a b xs → Writes result b c ys → Writes result a c (xs ++ ys)
then_so (Ok done) a b c xs ys w h = Wrote-append w h
then_so (Err error) a b c xs ys w h = stops-after a b c xs ys error w h
