-- The causes that are kept of the runs so far.
use Rattle.std.proofs.Common.{false, List, [], ◌∷◌, ◌++◌, map, refl, sym, ap, ◌∙◌, ◌≡◌, append_assoc, append-nil}
use Rattle.std.proofs.lemmas.List.{map-append}
use Rattle.std.proofs.lemmas.List.Sums.{fold-append}
use Rattle.rehearse_terms.specs.Outcomes.{OutcomeWord}
use Rattle.rehearse_rules.specs.Runs.{Task}
use Rattle.rehearse_runs.specs.Giving.{GivesNone, GivesWord}
use Rattle.rehearse_runs.specs.RunsShown.{RunsShown, last_given}
use Rattle.rehearse_causes.specs.Causes.{Cause, cause_on}
use Rattle.rehearse_causes.specs.Keeping.{foremost, with_cause}

-- what is kept of the runs that were given
pub record Gathered (old new : RunsShown) (kept : List Cause) : Type 0 where
  pub ws : List OutcomeWord
  pub words : old.to_come ≡ ws ++ new.to_come
  pub task : new.task ≡ old.task
  pub sound : new.failed ≡ false
  pub are : kept ≡ foremost (map (cause_on old.task) ws)

pub gathered_none : (runs : RunsShown) → runs.failed ≡ false → Gathered runs runs []
gathered_none runs f = record { ws = []; words = refl; task = refl; sound = f; are = refl }

-- one more run was given
pub gathered_more : {old mid : RunsShown} {kept : List Cause} (new : RunsShown) (c : Cause) (made : List Cause) → Gathered old mid kept → GivesWord mid new
    → c ≡ cause_on new.task (last_given new) → made ≡ with_cause kept c → Gathered old new made
gathered_more {old} {mid} {kept} new c made k g is m =
    let w = last_given new in
    let said : c ≡ cause_on old.task w = is ∙ ap (λ (task : Task). cause_on task w) (g.task ∙ k.task) in
    record {
      ws = k.ws ++ w ∷ [];
      words = k.words ∙ ap (λ (ws : List OutcomeWord). k.ws ++ ws) g.first ∙ sym (append_assoc k.ws (w ∷ []) new.to_come);
      task = g.task ∙ k.task;
      sound = g.still;
      are =
          m
          ∙ ap (λ (ks : List Cause). with_cause ks c) k.are
          ∙ ap (λ (d : Cause). with_cause (foremost (map (cause_on old.task) k.ws)) d) said
          ∙ sym (fold-append with_cause [] (map (cause_on old.task) k.ws) (cause_on old.task w ∷ []))
          ∙ ap foremost (sym (map-append (cause_on old.task) k.ws (w ∷ [])));
    }

-- no run is left
pub gathered_all : {old mid new : RunsShown} {kept : List Cause} → Gathered old mid kept → GivesNone mid new → kept ≡ foremost (map (cause_on old.task) old.to_come)
gathered_all {old} {mid} {new} k g =
    k.are ∙ ap (λ (ws : List OutcomeWord). foremost (map (cause_on old.task) ws)) (sym (append-nil k.ws) ∙ ap (λ (ws : List OutcomeWord). k.ws ++ ws) (sym g.none) ∙ sym k.words)
