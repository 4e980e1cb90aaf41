-- What texts change, turn after turn.
use Rattle.std.proofs.Common.{◌≡◌, ◌<◌, Bool, true, false, ◌||◌, List, [], ◌∷◌, ◌++◌, map, refl, sym, ap, subst, ◌∙◌}
use Rattle.std.proofs.lemmas.List.{append-nil}
use Rattle.std.proofs.lemmas.List.Folds.{list_any-append}
use Rattle.std.proofs.lemmas.Grind.{flat_map-append}
use Rattle.std.specs.List.{flat_map, list_any}
use Rattle.envimage.specs.Data.{Pair}
use Rattle.hushcheck.specs.Changed.{Changed, Changes, changed_after, changed_by, with_changed}
use Rattle.hushcheck.specs.Names.{Text}
use Rattle.hushcheck.specs.Order.{Turn, once, with_names}
use Rattle.hushcheck.specs.Queue.{Queue, after_turn, first_queue, has_turn, next_turn}
use Rattle.hushcheck.specs.Rules.{Rules}
use Rattle.hushcheck.proofs.CheckLemmas.{Stands, is_order, room, stands_first, stands_less, stands_next}
use Rattle.hushcheck.proofs.OrderLemmas.{with_names-append}
use Rattle.hushcheck.proofs.SetsLemmas.{map-push}
use Rattle.hushcheck.proofs.UnsetLemmas.{or_assoc, or_end}

changed-as : (a b : List Text) (m n : Bool) → a ≡ b → m ≡ n → record { names = a; more = m } ≡ (let c : Changed = record { names = b; more = n } in c)
changed-as a b m n e f = rw (e, f) refl

-- names that are added in two turns
pub names_twice : (names a b : List Text) → with_names (with_names names a) b ≡ with_names names (a ++ b)
names_twice names a b = sym (with_names-append names a b)

-- no text
pub changed-none : (c : Changed) → changed_after c [] ≡ c
changed-none c = changed-as c.names c.names (c.more || false) c.more refl (or_end c.more)

-- a text that changes nothing
pub with-nothing : (c : Changed) → c ≡ with_changed c (record { names = []; more = false })
with-nothing c = changed-as c.names c.names c.more (c.more || false) refl (sym (or_end c.more))

-- one more text
pub changed-push : (c : Changed) (texts : List Changed) (text : Changed) → changed_after c (texts ++ text ∷ []) ≡ with_changed (changed_after c texts) text
changed-push c texts text =
    let names = flat_map (λ (t : Changed). t.names) texts in
    let any = list_any (λ (t : Changed). t.more) texts in
    changed-as _ _ _ _
    (ap (with_names c.names) (flat_map-append (λ (t : Changed). t.names) texts (text ∷ []) ∙ ap (λ ns. names ++ ns) (append-nil text.names)) ∙ with_names-append c.names names text.names)
    (ap (λ b. c.more || b) (list_any-append (λ (t : Changed). t.more) texts (text ∷ []) ∙ ap (λ b. any || b) (or_end text.more)) ∙ sym (or_assoc c.more any text.more))

module _ (rules : Rules) (env : List Pair) (asked called : List Text) (before : Changed) where
  -- what is in the queue, and what the turns so far changed
  abbrev pub IsAfter : Queue → Changed → Type 0
  IsAfter q c = (turns : List Turn) × Stands rules env asked called q turns × (c ≡ changed_after before (map (changed_by rules env) turns))

  pub changes_first : (q : Queue) → q ≡ first_queue (once asked) (once called) → IsAfter q before
  changes_first q e = ([], subst (λ (p : Queue). Stands rules env asked called p []) (sym e) (stands_first rules env asked called), sym (changed-none before))

  pub changes_next : (q q' : Queue) (c c' : Changed) → has_turn q ≡ true → IsAfter q c → q' ≡ after_turn rules env q → c' ≡ with_changed c (changed_by rules env (next_turn q)) → IsAfter q' c'
  changes_next q q' c c' some (turns, stands, is) e f =
      let n = next_turn q in (
        turns ++ n ∷ [],
        subst (λ (p : Queue). Stands rules env asked called p (turns ++ n ∷ [])) (sym e) (stands_next rules env asked called q turns stands some),
        f ∙ ap (λ d. with_changed d (changed_by rules env n)) is ∙ sym (changed-push before (map (changed_by rules env) turns) (changed_by rules env n))
            ∙ ap (changed_after before) (sym (map-push (changed_by rules env) turns n)),
      )

  pub changes_less : (q q' : Queue) (c : Changed) → has_turn q ≡ true → IsAfter q c → q' ≡ after_turn rules env q → room rules env q' < room rules env q
  changes_less q q' c some (turns, stands, is) e = subst (λ (p : Queue). room rules env p < room rules env q) (sym e) (stands_less rules env asked called q turns stands some)

  pub changes_last : (q : Queue) (c : Changed) → has_turn q ≡ false → IsAfter q c → Changes rules env before asked called c
  changes_last q c none (turns, stands, is) = record {
    order = turns;
    is_order = is_order rules env asked called q turns stands none;
    after_is = is;
  }
