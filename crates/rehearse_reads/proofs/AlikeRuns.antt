-- Runs end alike from states that agree on what they read.
use Rattle.std.proofs.Common.{◌≡◌, refl, sym, ap, subst, ℕ, suc, ◌+◌, List, [], ◌∷◌, ◌++◌, length, arith, append-nil, Some}
use Rattle.rehearse_terms.specs.Outcomes.{OutcomeWord, WordKind, Run, Long}
use Rattle.rehearse_terms.specs.State.{State, LoggedCommand}
use Rattle.rehearse_rules.specs.Execution.{Limits, Answer, Normal, Exit, Ended, Dry, End, exec, run_text}
use Rattle.rehearse_rules.specs.Runs.{taken_kind}
use Rattle.rehearse_rules.proofs.TakenOutcomes.{Keeps-exec}
use Rattle.rehearse_reads.specs.Keys.{Key, Status, Access, AgreeOn, ReadsWithin, known_after}
use Rattle.rehearse_reads.specs.Accesses.{accesses, text_accesses, end_accesses}
use Rattle.rehearse_reads.specs.Alike.{AreAbreast, IsAlike, EndAlike, same, cut_here, beyond, same_end, end_cut, end_beyond}
use Rattle.rehearse_reads.specs.Laws.{StatesGoAlike, RunsEndAlike}
use Rattle.rehearse_reads.proofs.AccessLemmas.{within_first, within_then, after_both}
use Rattle.rehearse_reads.proofs.KeysRead.{reads_within}
use Rattle.rehearse_reads.proofs.AlikeParts.{further_apart}
use Rattle.rehearse_reads.proofs.AlikeScripts.{Alike-exec, Alike-text}

-- a state is abreast of itself elsewhere
pub from_the_start : (limits : Limits) (keys : List Key) (s t : State) → AgreeOn keys s t → t.word ≡ s.word → AreAbreast limits s.steps t.steps s.log t.log keys s t
from_the_start limits keys s t agree word = record {
  keys = agree;
  word = word;
  steps = (let e : s.steps + t.steps ≡ t.steps + s.steps = omega arith in e);
  logs = record { further = []; goes_on_here = sym (append-nil s.log); goes_on_there = sym (append-nil t.log) };
}

pub states_go_alike : StatesGoAlike
states_go_alike limits left script keys s t within agree word =
    Alike-exec limits s.steps t.steps s.log t.log left script keys s t (from_the_start limits keys s t agree word) (reads_within keys (accesses limits left script s) within)

same_kind : (s t : State) → t.word ≡ s.word → taken_kind t ≡ taken_kind s
same_kind s t e = ap (λ (w : OutcomeWord). let kind : WordKind = elim w [ [] ↦ Run | o ∷ os ↦ Long ] in kind) e

module _ (limits : Limits) (i j : ℕ) (k l : List LoggedCommand) where
  abbrev Ends : List Key → Answer → Answer → Type 0
  Ends known a b = EndAlike limits i j k l known a b

  end_alike : (known : List Key) (a b : Answer) → ReadsWithin known (end_accesses a) → IsAlike limits i j k l known a b → Ends (known_after known (end_accesses a)) a b
  end_alike known (Normal s) b w (same h) =
      let near = h.abreast in
      let apart = further_apart k l s.log h.there.log near.logs in
      subst (λ (x : Answer). Ends known (Normal s) x) (sym h.is) (same_end (record {
        kind = same_kind s h.there near.word;
        ended = ap (λ (n : ℕ). Some (End n)) (near.keys Status w.0);
        keys = near.keys;
        steps = near.steps;
        devices = apart;
        logs = near.logs;
      }))
  end_alike known (Normal s) b w (cut_here h) = absurd h
  end_alike known (Normal s) b w (beyond h) = end_beyond h
  end_alike known (Exit s) b w (same h) =
      let near = h.abreast in
      let apart = further_apart k l s.log h.there.log near.logs in
      subst (λ (x : Answer). Ends known (Exit s) x) (sym h.is) (same_end (record {
        kind = same_kind s h.there near.word;
        ended = ap (λ (n : ℕ). Some (End n)) (near.keys Status w.0);
        keys = near.keys;
        steps = near.steps;
        devices = apart;
        logs = near.logs;
      }))
  end_alike known (Exit s) b w (cut_here h) = absurd h
  end_alike known (Exit s) b w (beyond h) = end_beyond h
  end_alike known (Ended ending s) b w (same h) =
      let near = h.abreast in
      let apart = further_apart k l s.log h.there.log near.logs in
      subst (λ (x : Answer). Ends known (Ended ending s) x) (sym h.is) (same_end (record {
        kind = same_kind s h.there near.word;
        ended = refl;
        keys = near.keys;
        steps = near.steps;
        devices = apart;
        logs = near.logs;
      }))
  end_alike known (Ended ending s) b w (cut_here h) = end_cut h
  end_alike known (Ended ending s) b w (beyond h) = end_beyond h
  end_alike known (Dry s) b w (same h) =
      let near = h.abreast in
      let apart = further_apart k l s.log h.there.log near.logs in
      subst (λ (x : Answer). Ends known (Dry s) x) (sym h.is) (same_end (record {
        kind = refl;
        ended = refl;
        keys = near.keys;
        steps = near.steps;
        devices = (let e : length k + suc (length h.there.log) ≡ length l + suc (length s.log) = omega arith in e);
        logs = near.logs;
      }))
  end_alike known (Dry s) b w (cut_here h) = absurd h
  end_alike known (Dry s) b w (beyond h) = end_beyond h

pub runs_end_alike : RunsEndAlike
runs_end_alike limits left name text keys s t within agree word =
    let here : Answer = run_text limits (exec limits left) name text s in
    let there : Answer = run_text limits (exec limits left) name text t in
    let reached : List Access = text_accesses limits (exec limits left) (accesses limits left) text s in
    let read : ReadsWithin keys (reached ++ end_accesses here) = reads_within keys (reached ++ end_accesses here) within in
    let near = from_the_start limits keys s t agree word in
    subst (λ (known : List Key). EndAlike limits s.steps t.steps s.log t.log known here there) (sym (after_both keys reached (end_accesses here)))
    (end_alike limits s.steps t.steps s.log t.log (known_after keys reached) here there (within_then keys reached (end_accesses here) read)
    (Alike-text limits s.steps t.steps s.log t.log (exec limits left) (accesses limits left) (Keeps-exec limits left) (Alike-exec limits s.steps t.steps s.log t.log left) name text keys s t near (within_first keys reached (end_accesses here) read)))
