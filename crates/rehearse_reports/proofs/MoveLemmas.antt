-- Reports of moves.
use Rattle.std.proofs.Common.{◌≡◌, ◌-◌, ◌<◌, arith, refl, sym, subst, ℕ, zero, suc, List, [], ◌∷◌, length, take, None, Result}
use Rattle.std.specs.Prelude.{OnOk, slice_get}
use Rattle.bootstore_state.specs.Moment.{RunningFrame}
use Rattle.rehearse_terms.specs.State.{State}
use Rattle.rehearse_rules.specs.Execution.{Limits}
use Rattle.rehearse_machine.specs.Places.{frames_of}
use Rattle.rehearse_reads.specs.Keys.{Access, Reads, Status}
use Rattle.rehearse_frames.specs.MoveAccesses.{of_move}
use Rattle.rehearse_reports.specs.Begins.{of_begins, BeginsWith}
use Rattle.rehearse_reports.specs.declared.begins.Begins.{Begins}
use Rattle.rehearse_reports.specs.Reports.{Reports, ReportsAbove}
use Rattle.rehearse_reports.proofs.ReportLemmas.{reports_as, reports_then}
use Rattle.rehearse_reports.proofs.NamedLemmas.{ok_as}

pub begun_as : {E : Type 0} (r : Result (Unit {0}) E) (limits : Limits) (s : State) (old new : List Access) (begins other : Begins) → begins ≡ other → OnOk r (Reports old new (of_begins limits other s)) → OnOk r (Reports old new (of_begins limits begins s))
begun_as r limits s old new begins other e h = subst (λ (x : Begins). OnOk r (Reports old new (of_begins limits x s))) (sym e) h

pub begun_so : (limits : Limits) (s : State) (old new : List Access) (begins other : Begins) → begins ≡ other → Reports old new (of_begins limits other s) → Reports old new (of_begins limits begins s)
begun_so limits s old new begins other e h = subst (λ (x : Begins). Reports old new (of_begins limits x s)) (sym e) h

no_frame : (frames : List RunningFrame) → slice_get frames 0 ≡ None → frames ≡ []
no_frame [] e = refl
no_frame (f ∷ fs) e = absurd (let g = e in cc)

-- none is left above any number of them
no_move : (limits : Limits) (s : State) (old new : List Access) → Reports old new (Reads Status ∷ []) → (n : ℕ) → Reports old new (of_move limits (frames_of (take n [])) s)
no_move limits s old new h zero = h
no_move limits s old new h (suc n) = h

pub last_move : (limits : Limits) (s : State) (old new : List Access) (frames : List RunningFrame) → None ≡ slice_get frames 0 → Reports old new (Reads Status ∷ []) → ReportsAbove limits frames s old new
last_move limits s old new frames e h = subst (λ (fs : List RunningFrame). ReportsAbove limits fs s old new) (sym (no_frame frames (sym e))) (λ below within. no_move limits s old new h (0 - below))

-- the innermost of them is left
front_move : (limits : Limits) (s : State) (old new : List Access) (f : RunningFrame) (under : List RunningFrame) (begins : Begins) → BeginsWith begins f s.memory.status → Reports old new (Reads Status ∷ of_begins limits begins s)
    → (n : ℕ) → 0 < n → Reports old new (of_move limits (frames_of (take n (f ∷ under))) s)
front_move limits s old new f under begins says h zero some = absurd (omega arith)
front_move limits s old new f under begins says h (suc n) some = reports_as old new (Reads Status ∷ of_begins limits begins s) (of_move limits (frames_of (f ∷ take n under)) s) h (says limits (frames_of (take n under)) s refl)

pub move_reports : {E : Type 0} (r : Result (Unit {0}) E) (limits : Limits) (s : State) (old mid new : List Access) (frames under : List RunningFrame) (f : RunningFrame) (begins : Begins) → frames ≡ f ∷ under → BeginsWith begins f s.memory.status
    → Reports old mid (Reads Status ∷ []) → OnOk r (Reports mid new (of_begins limits begins s)) → OnOk r (ReportsAbove limits frames s old new)
move_reports r limits s old mid new frames under f begins top says read h =
    subst (λ (fs : List RunningFrame). OnOk r (ReportsAbove limits fs s old new)) (sym top)
    (ok_as r (λ k below within. front_move limits s old new f under begins says (reports_then old mid new (Reads Status ∷ []) (of_begins limits begins s) read k) (length (f ∷ under) - below) (omega arith)) h)
