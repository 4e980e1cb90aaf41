-- What contracts see of a run that is shown. Ours.
use Rattle.std.specs.Prelude.{List}
use Rattle.bootstore_state.specs.Moment.{Moment}
use Rattle.bootstore_state.specs.declared.store.Store.{Ghosts}
use Rattle.rehearse_terms.specs.State.{Text}
use Rattle.rehearse_rules.specs.Execution as spec
use Rattle.rehearse_rules.specs.EndingsShown.{ending_shown}
use Rattle.rehearse_records.specs.declared.run_view.RunView.{RunView}

-- the digits of its word
abbrev pub shown_word : {S : Type 0} → RunView S → Text
shown_word v = v.word.now

abbrev pub shown_ending : {S : Type 0} → RunView S → spec.Ending
shown_ending v = ending_shown v.ending

-- the moment at which it ended
abbrev pub shown_moment : {S : Type 0} → Ghosts S → RunView S → Moment
shown_moment g v = (g.record_of v.store.now).present

-- the marked moments to which the run can go back
abbrev pub shown_marks : {S : Type 0} → Ghosts S → RunView S → List Moment
shown_marks g v = (g.record_of v.store.now).marked
