use Rattle.std.specs.List.{each_same}
use Rattle.board_files.proofs.FileLemmas.{files-copied}
use Rattle.board_files.proofs.named_files.copied_texts.Goals as goal

pub returns : goal.returns
returns c =
    files-copied _ _ (λ v w same. each_same v.items w.items same.0)
    (λ v w same. let text = each_same v.text.items w.text.items same.0.0 in let size = same.1 in λ i. record { text = text i; size = size i })
    c.args.texts.now.entries c.in_ok-clone.field-0.entries c.in_ok-clone.ensures.cases
