-- What is written of a listing that does not end. Ours.
use Rattle.std.specs.Prelude.{◌≡◌, ◌++◌, List}
use Rattle.std.specs.List.{flat_map}
use Rattle.output.specs.Sink.{Sink, Wrote, BrokeOff}
use Rattle.rehearse_rules.specs.Listing.{record_of, page_text, page_words}
use Rattle.rehearse_terms.specs.Outcomes.{OutcomeWord}
use Rattle.rehearse_rules.specs.Runs.{Task}
use Rattle.rehearse_terms.specs.State.{Text}
use Rattle.rehearse_terms.specs.declared.wanted.Page.{Page}

-- memory ran out: the whole records of the first words of the page are written
pub record LacksMemory (task : Task) (names : List Text) (words : List OutcomeWord) (page : Page) (old new : Sink) :
    Type 0 where
  pub front : List OutcomeWord
  pub left : List OutcomeWord
  pub parts : page_words words page ≡ front ++ left
  pub wrote : Wrote old new (flat_map (record_of task names) front)

-- one write failed: a prefix of the page's text is written
abbrev pub BreaksOff : Task → (names : List Text) → (words : List OutcomeWord) → Page → (old new : Sink) → Type 0
BreaksOff task names words page old new = BrokeOff old new (page_text (record_of task names) words page)
