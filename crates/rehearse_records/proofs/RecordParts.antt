-- The parts of a record.
use Rattle.std.proofs.Common.{◌≡◌, ℕ, List, [], ◌∷◌, ◌++◌, length, map, refl, sym, ap, ◌∙◌, append_assoc, append-nil, arith, Bor, Result}
use Rattle.std.specs.Prelude.{codes}
use Rattle.std.specs.List.{flat_map}
use Rattle.std.proofs.lemmas.List.Concat.{flat_map-append}
use Rattle.output.specs.Paging.{Put, Puts}
use Rattle.output.specs.Sink.{Sink, BrokeOff}
use Rattle.output.proofs.PageLemmas.{Breaks-as, Breaks-before, Puts-after, Puts-as}
use Rattle.bootstore_state.specs.StoredState.{state_at}
use Rattle.bootstore_state.specs.declared.store.Store.{Ghosts}
use Rattle.bootstore_state.specs.DeviceLog.{entry_line}
use Rattle.rehearse_terms.specs.State.{Text, Variables, State}
use Rattle.rehearse_rules.specs.Execution.{Ending}
use Rattle.rehearse_rules.specs.Listing.{line, device_line, written_lines, variable_line, variable_lines, named_lines, last_line}
use Rattle.rehearse_records.specs.Recording.{printed, set_line, named_text, recorded}
use Rattle.rehearse_records.specs.RunViewShown.{shown_word, shown_moment, shown_ending}
use Rattle.rehearse_records.specs.declared.run_view.RunView.{RunView}

module _ {X : Type 0} (g : X → Text) where
  lines_of-map : (xs : List X) → flat_map line (map g xs) ≡ flat_map (λ x. line (g x)) xs
  lines_of-map [] = refl
  lines_of-map (x ∷ xs) = ap (λ t. line (g x) ++ t) (lines_of-map xs)

pub all_variables : {X : Type 0} (now : X → Text) (environment : Variables) (names : List X) → length names ≡ 0 → flat_map set_line environment ≡ flat_map line (variable_lines environment (map now names))
all_variables now environment [] e = sym (lines_of-map variable_line environment)
all_variables now environment (x ∷ xs) e = absurd (omega (arith, e))

pub named_variables : {X : Type 0} (now : X → Text) (environment : Variables) (names : List X) → (length names ≡ 0 → ⊥) → flat_map (λ n. named_text environment (now n)) names ≡ flat_map line (variable_lines environment (map now names))
named_variables now environment [] e = absurd (e refl)
named_variables now environment (x ∷ xs) e = lines_of-named now environment (x ∷ xs)
  where
    lines_of-named : {X : Type 0} (now : X → Text) (environment : Variables) (names : List X) → flat_map (λ n. named_text environment (now n)) names ≡ flat_map line (flat_map (named_lines environment) (map now names))
    lines_of-named now environment [] = refl
    lines_of-named now environment (x ∷ xs) =
        ap (λ t. named_text environment (now x) ++ t) (lines_of-named now environment xs)
        ∙ sym (flat_map-append line (named_lines environment (now x)) (flat_map (named_lines environment) (map now xs)))

record_parts : (digits : Text) (s : State) (ending : Ending) (names : List Text)
    → line (codes "run " ++ printed digits) ++ (flat_map entry_line s.log ++ (flat_map line (written_lines s.memory.text) ++ (flat_map line (variable_lines s.memory.environment names) ++ line (last_line ending)))) ≡ recorded digits s ending names
record_parts digits s ending names =
    let a = map device_line s.log in
    let b = written_lines s.memory.text in
    let v = variable_lines s.memory.environment names in
    let f = line (codes "run " ++ printed digits) in
    let z : List Text = last_line ending ∷ [] in
    ap (λ t. f ++ t) (
    ap (λ t. flat_map entry_line s.log ++ (flat_map line b ++ (flat_map line v ++ t))) (sym (append-nil (line (last_line ending))))
    ∙ ap (λ t. t ++ (flat_map line b ++ (flat_map line v ++ flat_map line z))) (sym (lines_of-map device_line s.log))
    ∙ ap (λ t. flat_map line a ++ (flat_map line b ++ t)) (sym (flat_map-append line v z))
    ∙ ap (λ t. flat_map line a ++ t) (sym (flat_map-append line b (v ++ z)))
    ∙ sym (flat_map-append line a (b ++ (v ++ z)))
    ∙ ap (flat_map line) (ap (λ t. a ++ t) (sym (append_assoc b v z)) ∙ sym (append_assoc a (b ++ v) z) ∙ ap (λ t. t ++ z) (sym (append_assoc a b v)))
    )

-- ---- a record, part by part

module _ {S : Type 0} (store : Ghosts S) (v : RunView S) (asked : List (Bor (List ℕ))) where
  abbrev stood : State
  stood = state_at (shown_moment store v) []

  abbrev names : List Text
  names = map (λ (n : Bor (List ℕ)). n.now) asked

  abbrev first : Text
  first = line (codes "run " ++ printed (shown_word v))

  abbrev behind : Text
  behind = flat_map entry_line stood.log ++ (flat_map line (written_lines stood.memory.text) ++ (flat_map line (variable_lines stood.memory.environment names) ++ line (last_line (shown_ending v))))

  abbrev whole : Text
  whole = recorded (shown_word v) stood (shown_ending v) names

  -- the output broke off in the first part
  pub breaks_first : {a b : Sink} (p : List ℕ) → BrokeOff a b (p ++ first) → BrokeOff a b (p ++ whole)
  breaks_first p m = Breaks-as _ _ p _ _ (record_parts (shown_word v) stood (shown_ending v) names) (Breaks-before p first behind m)

  -- the first part was put, and then those after it, or the output broke off in them
  pub puts_first : {T E : Type 0} {a b : Sink} {p q : List ℕ} (c : Sink) (r : List ℕ) (result : Result T E) → Put a b p q first → Puts result b c q r behind → Puts result a c p r whole
  puts_first c r result m n = Puts-as _ c _ r _ _ result (record_parts (shown_word v) stood (shown_ending v) names) (Puts-after c r behind result m n)
