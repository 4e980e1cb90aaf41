-- What the device command reads that asks.
use Rattle.std.proofs.Common.{◌≡◌, ◌∙◌, refl, sym, ap, subst, List, [], ◌∷◌, Option, Some, None, Result, Ok, Err}
use Rattle.std.specs.Prelude.{OnOk}
use Rattle.std.specs.List.{slice_get}
use Rattle.hushlang.specs.Tree as tree
use Rattle.bootstore_state.specs.Moment.{RunningFrame}
use Rattle.rehearse_terms.specs.State.{Memory}
use Rattle.rehearse_machine.specs.AskingCommand.{words_in_front}
use Rattle.rehearse_reads.specs.Keys.{Key, Access, all_read}
use Rattle.rehearse_reads.specs.Accesses.{words_reads}
use Rattle.rehearse_reports.specs.Asked.{call_reads, asked_by}
use Rattle.rehearse_reports.specs.Reports.{Reports}
use Rattle.rehearse_reports.proofs.ReportLemmas.{reports_nothing}

none_on_top : (m : Memory) (frames : List RunningFrame) → None ≡ slice_get frames 0 → asked_by m frames ≡ []
none_on_top m [] e = refl
none_on_top m (f ∷ fs) e = absurd (cc)

on_top : (m : Memory) (frames : List RunningFrame) (f : RunningFrame) → Some f ≡ slice_get frames 0 → asked_by m frames ≡ call_reads m (words_in_front f)
on_top m [] f e = absurd (cc)
on_top m (g ∷ fs) f e = let same : f ≡ g = cc in ap (λ (x : RunningFrame). call_reads m (words_in_front x)) (sym same)

no_keys : (old : List Access) (keys : List Key) → keys ≡ [] → Reports old old (all_read keys)
no_keys old keys e = subst (λ (ks : List Key). Reports old old (all_read ks)) (sym e) (reports_nothing old)

pub no_frame : (old : List Access) (m : Memory) (frames : List RunningFrame) → None ≡ slice_get frames 0 → Reports old old (all_read (asked_by m frames))
no_frame old m frames e = no_keys old (asked_by m frames) (none_on_top m frames e)

pub no_call : (old : List Access) (m : Memory) (frames : List RunningFrame) (f : RunningFrame) → Some f ≡ slice_get frames 0 → None ≡ words_in_front f → Reports old old (all_read (asked_by m frames))
no_call old m frames f e none = no_keys old (asked_by m frames) (on_top m frames f e ∙ ap (call_reads m) (sym none))

pub call_asked : {E : Type 0} (r : Result (Unit {0}) E) (old new : List Access) (m : Memory) (frames : List RunningFrame) (f : RunningFrame) (words : List tree.Word) → Some f ≡ slice_get frames 0 → Some words ≡ words_in_front f
    → OnOk r (Reports old new (all_read (words_reads m words))) → OnOk r (Reports old new (all_read (asked_by m frames)))
call_asked r old new m frames f words e is h =
    subst (λ (keys : List Key). OnOk r (Reports old new (all_read keys))) (sym (on_top m frames f e ∙ ap (call_reads m) (sym is))) h
