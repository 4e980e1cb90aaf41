use Rattle.std.proofs.Common.{◌≡◌, ◌&&◌, length, take, drop}
use Rattle.std.specs.List.{list_any}
use Rattle.text.specs.TextsShown.{bytes_of_words}
use Rattle.rehearse_terms.specs.State.{same_words}
use Rattle.bootstore_state.proofs.log.has_succeeded.Given as goal

-- the commands so far are others
abbrev pub invariant-loop-entry : goal.invariant-loop-entry
invariant-loop-entry l =
    list_any (λ e. e.success && same_words (bytes_of_words l.start) (take (length (bytes_of_words l.start)) e.words)) (drop l.entry-index l.log)
    ≡ list_any (λ e. e.success && same_words (bytes_of_words l.start) (take (length (bytes_of_words l.start)) e.words)) l.log
