use Rattle.std.proofs.Common.{sym, Bool, List, ◌&&◌, length, take}
use Rattle.text.specs.TextsShown.{bytes_of_words}
use Rattle.rehearse_terms.specs.State.{Text, LoggedCommand, same_words}
use Rattle.bootstore_state.proofs.LogLemmas.{any_here, any_later, any_nowhere}
use Rattle.bootstore_state.proofs.log.has_succeeded.Goals as goal

abbrev has_begun : List Text → LoggedCommand → Bool
has_begun start e = e.success && same_words start (take (length start) e.words)

pub loop-entry-preserved : goal.loop-entry-preserved
loop-entry-preserved c =
    any_later (has_begun (bytes_of_words c.args.start.now)) c.args.log.now c.loop-entry.entry-index c.entry-item.result c.loop-entry-test.true c.entry-item.is c.loop-entry.invariant (sym c.if-has_begun.ensures)

pub returns-then-has_begun : goal.returns-then-has_begun
returns-then-has_begun c =
    any_here (has_begun (bytes_of_words c.args.start.now)) c.args.log.now c.loop-entry.entry-index c.entry-item.result c.loop-entry-test.true c.entry-item.is c.loop-entry.invariant (sym c.if-has_begun.ensures)

pub returns : goal.returns
returns c = any_nowhere (has_begun (bytes_of_words c.args.start.now)) c.args.log.now c.loop-entry.entry-index c.loop-entry-test.false c.loop-entry.invariant
