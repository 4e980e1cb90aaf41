-- The names of the variables that a script of changes leaves otherwise.
use Rattle.std.proofs.Common.{◌≡◌, ◌∙◌, ap, refl, ℕ, List, [], ◌∷◌, ◌++◌, filter, map, append_assoc}
use Rattle.std.proofs.lemmas.List.{map-append}
use Rattle.std.proofs.lemmas.List.Elements.{filter-append}
use Rattle.std.specs.Borrow.{Bor}
use Rattle.envimage.specs.Data.{Pair}
use Rattle.envimage.specs.Entries.{pair_at}
use Rattle.rehearse_terms.specs.State.{Text}
use Rattle.ubtool.specs.KeptNames.{differing, differs}

-- the names of variables that are listed
names-same : (pairs : List (Bor (List ℕ) × Bor (List ℕ))) → map (λ (p : Bor (List ℕ) × Bor (List ℕ)). p.0.now) pairs ≡ map (λ (p : Pair). p.0) (map pair_at pairs)
names-same [] = refl
names-same (p ∷ pairs) = ap (λ (names : List Text). p.0.now ∷ names) (names-same pairs)

-- those that differ are added of one environment, and then of the other
pub differing-added : (env after : List Pair) (old middle new : List Text) (pairs others : List (Bor (List ℕ) × Bor (List ℕ))) → map pair_at pairs ≡ env → map pair_at others ≡ after
    → middle ≡ old ++ filter (differs env after) (map (λ (p : Bor (List ℕ) × Bor (List ℕ)). p.0.now) pairs)
    → new ≡ middle ++ filter (differs env after) (map (λ (p : Bor (List ℕ) × Bor (List ℕ)). p.0.now) others)
    → new ≡ old ++ differing env after
differing-added env after old middle new pairs others first second added more =
    let d = differs env after in
    let name = λ (p : Pair). p.0 in
    let front : filter d (map (λ (p : Bor (List ℕ) × Bor (List ℕ)). p.0.now) pairs) ≡ filter d (map name env) = ap (filter d) (names-same pairs ∙ ap (map name) first) in
    let rest : filter d (map (λ (p : Bor (List ℕ) × Bor (List ℕ)). p.0.now) others) ≡ filter d (map name after) = ap (filter d) (names-same others ∙ ap (map name) second) in
    let both : filter d (map name (env ++ after)) ≡ filter d (map name env) ++ filter d (map name after) =
    ap (filter d) (map-append name env after) ∙ filter-append d (map name env) (map name after) in
    rw (more, added, front, rest, both, append_assoc)
