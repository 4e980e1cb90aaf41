use Rattle.std.proofs.Common.{ap, ◌∙◌, ℕ, List, drop}
use Rattle.bootstore_state.specs.declared.frame.At.{At}
use Rattle.rehearse_terms.specs.State.{Text}
use Rattle.rehearse_machine.proofs.FileLemmas.{words_left}
use Rattle.rehearse_machine.proofs.file_moves.names_left.Goals as goal

pub returns-clause-names : goal.returns-clause-names
returns-clause-names c =
    let f = c.args.frame.now in
    words_left c.at-at.result.command c.words-names.result.now
    ∙ ap (λ (x : List Text). drop c.at-at.result.command x) c.words-names.ensures
    ∙ ap (λ (n : ℕ). drop n f.words) (ap (λ (x : At). x.command) c.at-at.ensures)
