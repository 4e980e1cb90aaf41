-- Laws of the rows of endings.
use Rattle.std.proofs.Common.{◌≡◌, ◌≢◌, true, false, List, [], ◌∷◌, ◌++◌, map, ap, subst, ◌∙◌, append_assoc}
use Rattle.std.specs.List.{list_any}
use Rattle.rehearse_terms.specs.State.{Text}
use Rattle.rehearse_rules.specs.Runs.{Task, unexpected, all_runs}
use Rattle.rehearse_states.specs.Endings.{RunEnd, Row, end_eq, with_row, merge, one_run, end_of, endings}
use Rattle.rehearse_states.proofs.RowsOfRuns.{AreApart, Misses, apart_on, either_left, either_right, end_itself}

-- ---- no two rows have the same ending

pub apart_merge : (rs ts : List Row) → AreApart rs → AreApart (merge rs ts)
apart_merge rs [] h = h
apart_merge rs (t ∷ ts) h = apart_merge (with_row rs t) ts (apart_on rs t h)

apart_behind : (before rest : List Row) → AreApart (before ++ rest) → AreApart rest
apart_behind [] rest h = h
apart_behind (r ∷ before) rest h = apart_behind before rest h.1

pub missed_in : (e : RunEnd) (between : List Row) (s : Row) (behind : List Row) → Misses e (between ++ s ∷ behind) → end_eq s.run_end e ≡ false
missed_in e [] s behind h = either_left (end_eq s.run_end e) (list_any (λ r. end_eq r.run_end e) behind) h
missed_in e (r ∷ between) s behind h = missed_in e between s behind (either_right (end_eq r.run_end e) (list_any (λ r. end_eq r.run_end e) (between ++ s ∷ behind)) h)

other_ending : (r s : Row) → end_eq s.run_end r.run_end ≡ false → r.run_end ≢ s.run_end
other_ending r s h e = let k : end_eq s.run_end r.run_end ≡ true = ap (end_eq s.run_end) e ∙ end_itself s.run_end in cc

pub no_ending_twice : (names : List Text) (task : Task) (r s : Row) (before between behind : List Row) → endings names task ≡ before ++ r ∷ between ++ s ∷ behind → r.run_end ≢ s.run_end
no_ending_twice names task r s before between behind is =
    let all : AreApart (endings names task) = apart_merge [] (map one_run (map (λ w. (end_of names task w, (w, unexpected task w))) (all_runs task))) tt in
    let apart = apart_behind before (r ∷ between ++ s ∷ behind) (subst AreApart (is ∙ append_assoc before (r ∷ between) (s ∷ behind)) all) in
    other_ending r s (missed_in r.run_end between s behind apart.0)
