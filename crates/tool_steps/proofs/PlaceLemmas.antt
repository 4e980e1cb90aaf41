-- A configuration names one place or two.
use Rattle.std.proofs.Common.{◌≡◌, ℕ, Bool, true, false, arith, refl, subst, ap, List, [], ◌∷◌, ◌++◌, length, map, Option, Some, None, Ok, Err, ◌∙◌}
use Rattle.std.specs.Option.{option_to_list}
use Rattle.std.specs.Prelude.{Result, if◌then◌else◌, not, ◌==◌}
use Rattle.envimage.specs.Config.{PlaceShown, place_of, places, places_among, place_lines, single, pair}
use Rattle.envimage.specs.Image.{is_size}
use Rattle.envimage.specs.Place.{place_shown}
use Rattle.text.specs.Words.{words_of}
use Rattle.envimage.specs.declared.config.ConfigError.{ConfigError}
use Rattle.envimage.specs.declared.config.Place.{Place}
use Rattle.tool_steps.specs.Images.{second_place}

-- one place or two
abbrev AreFew : Result (List PlaceShown) ConfigError → Type 0
AreFew (Ok []) = ⊥
AreFew (Ok (p ∷ [])) = Unit {0}
AreFew (Ok (p ∷ q ∷ [])) = Unit {0}
AreFew (Ok (p ∷ q ∷ r ∷ more)) = ⊥
AreFew (Err e) = Unit {0}

checked : (b : Bool) (e : ConfigError) (answer : Result (List PlaceShown) ConfigError) → AreFew answer → AreFew (if b then answer else Err e)
checked true e answer few = few
checked false e answer few = tt

refused : (b : Bool) (e : ConfigError) (answer : Result (List PlaceShown) ConfigError) → AreFew answer → AreFew (if b then Err e else answer)
refused true e answer few = tt
refused false e answer few = few

single-few : (n : ℕ) (p : Result PlaceShown ConfigError) → AreFew (single n p)
single-few n (Err e) = tt
single-few n (Ok p) = checked (is_size 5 p.size) _ (Ok (p ∷ [])) tt

pair-few : (n m : ℕ) (p q : Result PlaceShown ConfigError) → AreFew (pair n m p q)
pair-few n m (Err e) q = tt
pair-few n m (Ok p) (Err e) = tt
pair-few n m (Ok p) (Ok q) = refused (not (is_size 6 p.size)) _ _ (refused (not (is_size 6 q.size)) _ _ (checked (p.size == q.size) _ (Ok (p ∷ q ∷ [])) tt))

among-few : (ls : List (ℕ × List ℕ)) → AreFew (places_among ls)
among-few [] = tt
among-few (l ∷ []) = single-few l.0 (place_of l.0 (words_of l.1))
among-few (l ∷ m ∷ more) = pair-few l.0 m.0 (place_of l.0 (words_of l.1)) (place_of m.0 (words_of m.1))

-- there is a place
pub some-place : (text : List ℕ) → places text ≡ Ok [] → ⊥
some-place text e = subst AreFew e (among-few (place_lines text))

-- The first and the second thing that an iterator over the places gives are all of the places.
pub places-named : (text : List ℕ) (items rest more : List Place) (first : Place) (second : Option Place) → places text ≡ Ok (map place_shown items)
    → items ≡ first ∷ rest → rest ≡ option_to_list second ++ more → (second ≡ None → length rest ≡ 0) → places text ≡ Ok (place_shown first ∷ second_place second)
places-named text items rest more first None named e f none = named-one text items rest first named e (none refl)
  where
    named-one : (text : List ℕ) (items rest : List Place) (first : Place) → places text ≡ Ok (map place_shown items) → items ≡ first ∷ rest → length rest ≡ 0
        → places text ≡ Ok (place_shown first ∷ [])
    named-one text items [] first named e none = let n = rw e at named in n
    named-one text items (p ∷ ps) first named e none = absurd (omega (arith, none))
places-named text items rest [] first (Some second) named e f none = let n = rw (e, f) at named in n
places-named text items rest (p ∷ ps) first (Some second) named e f none =
    let many : places text ≡ Ok (map place_shown (first ∷ second ∷ p ∷ ps)) = named ∙ ap (λ (l : List Place). Ok (map place_shown l)) (e ∙ ap (λ (l : List Place). first ∷ l) f) in
    absurd (subst AreFew many (among-few (place_lines text)))
