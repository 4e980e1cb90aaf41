use Rattle.std.proofs.Common.{drop, subst, sym, ◌∙◌}
use Rattle.bootstore_state.specs.declared.frame.FrameKind.{FrameKind}
use Rattle.rehearse_reports.specs.Begins.{BeginsBy}
use Rattle.rehearse_reports.specs.declared.begins.Begins.TheVariants.{Nothing}
use Rattle.rehearse_reports.proofs.BeginLemmas.{file_moves}
use Rattle.rehearse_reports.proofs.begins.begins_in.Goals as goal

pub returns-in-Text : goal.returns-in-Text
returns-in-Text c = subst (λ (k : FrameKind). BeginsBy k c.begins_in_script.result c.args.frame.now c.args.status) (sym c.in-Text.is ∙ c.kind.ensures) c.begins_in_script.ensures

pub returns-in-Block : goal.returns-in-Block
returns-in-Block c = subst (λ (k : FrameKind). BeginsBy k c.begins_in_script-in-Block.result c.args.frame.now c.args.status) (sym c.in-Block.is ∙ c.kind.ensures) c.begins_in_script-in-Block.ensures

pub returns-in-For : goal.returns-in-For
returns-in-For c = subst (λ (k : FrameKind). BeginsBy k c.begins_in_for.result c.args.frame.now c.args.status) (sym c.in-For.is ∙ c.kind.ensures) (c.begins_in_for.ensures c.args.status)

pub returns-in-Run : goal.returns-in-Run
returns-in-Run c = subst (λ (k : FrameKind). BeginsBy k c.begins_in_run.result c.args.frame.now c.args.status) (sym c.in-Run.is ∙ c.kind.ensures) c.begins_in_run.ensures

pub returns-in-File : goal.returns-in-File
returns-in-File c = subst (λ (k : FrameKind). BeginsBy k Nothing c.args.frame.now c.args.status) (sym c.in-File.is ∙ c.kind.ensures) (λ limits fs s e. file_moves limits s c.args.frame.now.place.turn c.args.frame.now.place.last (drop c.args.frame.now.place.command c.args.frame.now.words) fs)
